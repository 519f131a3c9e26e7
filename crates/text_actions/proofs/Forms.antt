-- The forms of rules from a place on, by what the readers of their parts answer.
use Prim.Native.Nat.{ℕ}
use mathlib.Core.Path.{◌≡◌, refl, ap, ◌∙◌}
use mathlib.Core.Bool.{Bool, true, false, cond}
use mathlib.Core.List.{List, [], ◌∷◌}
use mathlib.Core.Option.{Option, none, some}
use native.Mathlib.Omega.{arith}
use Rattle.laws.proofs.Bools.{true_false}
use Rattle.program.specs.declared.rule.Sort.{Sort}
use Rattle.text_syntax.specs.Token.{Token, letter, write, remoteWord, own, openSquare, closeSquare}
use Rattle.text_syntax.specs.Kind.{kind, is, same, fixed_in, letter_in, write_in}
use Rattle.text_syntax.specs.Form.{Form, formed, unformed, held, one_of, past, then, or, whole}
use Rattle.text_syntax.specs.Written.{Expression, Action, set, remote}
use Rattle.text_syntax.specs.Grammar.{linked, chain_form, expression, local_form, sent_form, remote_form}
use Rattle.text_syntax.proofs.Readers.{or-none}
use Rattle.text_syntax.proofs.Lines.{local-first}
use Rattle.text_syntax.proofs.Chains.{chain_letter}
use Rattle.text_places.specs.Place.{tokens_from, begins, Passing, Absent}
use Rattle.text_expressions.specs.Reading.{Unread}
use Rattle.text_terms.specs.Chain.{NoChain}
use Rattle.text_places.proofs.Places.{past-absent}
use Rattle.text_places.specs.Word.{is_empty, NoWrite, NoLetter, Assigned}
use Rattle.text_actions.specs.Action.{action_form, NoAction, NoTarget}

-- a form uses up the line exactly where no token stands behind it
pub whole-end : {A : Type 0} {f : Form A} {a : A} (ts : List Token) → f ≡ formed a ts → is_empty ts ≡ true → whole f ≡ some a
unfolding is_empty whole
whole-end [] e h = ap whole e
whole-end (t ∷ r) e h = true_false h refl

pub whole-more : {A : Type 0} {f : Form A} {a : A} (ts : List Token) → f ≡ formed a ts → is_empty ts ≡ false → whole f ≡ none
unfolding is_empty whole
whole-more [] e h = true_false refl h
whole-more (t ∷ r) e h = ap whole e

pub no_action : {f : Form Action} → f ≡ unformed → NoAction f
unfolding whole
no_action e = record { none = ap whole e }

module _ {line : List ℕ} {at : ℕ} where
  -- `[u] := X` behind F
  local-then : (f : ℕ) {start : ℕ} → Assigned line at start
      → local_form (letter f ∷ tokens_from false line at) ≡ then (expression (tokens_from true line start)) (λ e. formed (set f e))
  local-then f v = ap (λ (ts : List Token). local_form (letter f ∷ ts)) v.text ∙ local-first f _

  pub local-formed : (f : ℕ) {start : ℕ} {e : Expression} {r : List Token} → Assigned line at start → expression (tokens_from true line start) ≡ formed e r
      → local_form (letter f ∷ tokens_from false line at) ≡ formed (set f e) r
  unfolding then
  local-formed f v h = local-then f v ∙ ap (λ (x : Form Expression). then x (λ e. formed (set f e))) h

  pub local-none : (f : ℕ) {start : ℕ} → Assigned line at start → Unread expression line start
      → local_form (letter f ∷ tokens_from false line at) ≡ unformed
  unfolding then
  local-none f v h = local-then f v ∙ ap (λ (x : Form Expression). then x (λ e. formed (set f e))) h.none

  -- `<?= X` or `+= X` behind F and C
  pub not-sent : (f : ℕ) (c : List ℕ) → NoWrite line at → sent_form (f ∷ c) (tokens_from false line at) ≡ unformed
  unfolding sent_form then
  not-sent f c h = rw h.none

  module _ (f : ℕ) (c : List ℕ) {k : Sort} {start : ℕ} (v : Passing false true (write k) line at start) where
    sent-then : sent_form (f ∷ c) (tokens_from false line at) ≡ then (expression (tokens_from true line start)) (λ e. formed (remote k f c e))
    unfolding sent_form one_of held write_in kind then
    sent-then = ap (sent_form (f ∷ c)) v.text

    pub sent-formed : {e : Expression} {r : List Token} → expression (tokens_from true line start) ≡ formed e r
        → sent_form (f ∷ c) (tokens_from false line at) ≡ formed (remote k f c e) r
    unfolding then
    sent-formed h = sent-then ∙ ap (λ (x : Form Expression). then x (λ e. formed (remote k f c e))) h

    pub sent-none : Unread expression line start → sent_form (f ∷ c) (tokens_from false line at) ≡ unformed
    unfolding then
    sent-none h = sent-then ∙ ap (λ (x : Form Expression). then x (λ e. formed (remote k f c e))) h.none

-- `F[C]`: `u` alone is no target
no_letter : (ts : List Token) → one_of letter_in ts ≡ unformed → then (chain_form ts) sent_form ≡ unformed
unfolding chain_form linked one_of past or then sent_form held
no_letter [] h = refl
no_letter (t ∷ []) h = go (is own t)
  where
    go : (y : Bool) → then (cond y (formed [] []) unformed) sent_form ≡ unformed
    go true = refl
    go false = refl
no_letter (t ∷ w ∷ ts) h = go (is own t) (letter_in (kind t)) h
  where
    go : (y : Bool) (o : Option ℕ) → held o (w ∷ ts) ≡ unformed
        → then (or (cond y (formed [] (w ∷ ts)) unformed)
        (then (held o (w ∷ [])) (λ l r. past openSquare r (λ r. then (chain_form ts) (λ ls r. past closeSquare r (formed (l ∷ ls))))))) sent_form ≡ unformed
    go true o h = refl
    go false none h = refl
    go false (some l) h = absurd (let z : ◌≡◌ {A = ℕ} 0 1 = cc in omega arith)

module _ {line : List ℕ} {at : ℕ} where
  pub target_none : NoLetter false line at → NoTarget line at
  target_none h = record { none = no_letter _ h.none }

  module _ {l i : ℕ} (v : Passing false false (letter l) line at i) where
    behind-letter : chain_form (tokens_from false line at)
        ≡ past openSquare (tokens_from false line i) (λ r. then (chain_form r) (λ ls r. past closeSquare r (formed (l ∷ ls))))
    behind-letter = ap chain_form v.text ∙ chain_letter l _

    pub target_unopened : Absent false openSquare line i → NoTarget line at
    unfolding then
    target_unopened h = record { none = rw (behind-letter, past-absent openSquare _ _ h.absent) }

    module _ {inner : ℕ} (w : Passing false false openSquare line i inner) where
      inside-target : chain_form (tokens_from false line at)
          ≡ then (chain_form (tokens_from false line inner)) (λ ls r. past closeSquare r (formed (l ∷ ls)))
      unfolding past is same fixed_in kind
      inside-target = behind-letter ∙ rw w.text

      pub target_unread : NoChain false line inner → NoTarget line at
      unfolding then
      target_unread h = record { none = rw (inside-target, h.none) }

      module _ {ls : List ℕ} {close : ℕ} (e : chain_form (tokens_from false line inner) ≡ formed ls (tokens_from false line close)) where
        pub target_unclosed : Absent false closeSquare line close → NoTarget line at
        unfolding then
        target_unclosed h = record { none = rw (inside-target, e, past-absent closeSquare _ _ h.absent) }

        pub target-closed : {end : ℕ} → Passing false false closeSquare line close end
            → chain_form (tokens_from false line at) ≡ formed (l ∷ ls) (tokens_from false line end)
        unfolding then past is same fixed_in kind
        target-closed x = inside-target ∙ rw (e, x.text)

-- a rule by its first token
pub action_local : (f : ℕ) (r : List Token) → action_form (letter f ∷ r) ≡ local_form (letter f ∷ r)
unfolding action_form remote_form past is same fixed_in kind or
action_local f r = refl

pub action_remote : (r : List Token) → action_form (remoteWord ∷ r) ≡ then (chain_form r) sent_form
unfolding action_form remote_form local_form past is same fixed_in kind one_of held letter_in then or
action_remote r = or-none (then (chain_form r) sent_form)

-- what is read behind a target
pub target-then : {f : Form (List ℕ)} {l : ℕ} {ls : List ℕ} {r : List Token} → f ≡ formed (l ∷ ls) r → then f sent_form ≡ sent_form (l ∷ ls) r
unfolding then
target-then h = ap (λ (x : Form (List ℕ)). then x sent_form) h

pub action_none : (ts : List Token) → begins remoteWord ts ≡ false → one_of letter_in ts ≡ unformed → action_form ts ≡ unformed
unfolding action_form remote_form local_form or then
action_none ts a n = rw (past-absent remoteWord ts _ a, n)
