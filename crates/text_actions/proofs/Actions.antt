-- Rules that were read to the end of the line.
use Prim.Native.Nat.{ℕ}
use mathlib.Core.Path.{◌≡◌, sym, ap, ◌∙◌}
use mathlib.Core.Bool.{Bool, true, false}
use mathlib.Core.List.{List, ◌∷◌}
use native.Mathlib.Omega.{arith}
use Rattle.register.specs.Shape.{Limits}
use Rattle.register.specs.declared.Sizes.{Sizes}
use Rattle.chain_text.specs.Text.{names, letter_field}
use Rattle.program.specs.declared.rule.Rule.{Rule}
use Rattle.program.specs.declared.rule.Rule.TheVariants.{Remote}
use Rattle.program.specs.declared.rule.Sort.{Sort}
use Rattle.program.specs.Code.{chain_in}
use Rattle.text_syntax.specs.Token.{letter, write}
use Rattle.text_syntax.specs.Form.{Form}
use Rattle.text_syntax.specs.Written.{Action, chain, set, remote}
use Rattle.text_syntax.specs.Grammar.{local_form, sent_form}
use Rattle.text_rules.specs.declared.line.Checks.{Checks}
use Rattle.text_rules.specs.LineRead.{all_pass}
use Rattle.std.specs.Prelude.{Option, Some, None}
use Rattle.text_joins.specs.declared.Gathered.{Gathered}
use Rattle.text_sides.specs.declared.side.Side.{Side}
use Rattle.text_codes.specs.declared.code.TermParts.{TermParts}
use Rattle.text_places.specs.Place.{tokens_from, Behind, Passing}
use Rattle.text_codes.specs.Coded.{parts_of}
use Rattle.text_sides.specs.Expression.{ExpressionFormed}
use Rattle.text_places.specs.Word.{is_empty, Assigned}
use Rattle.text_checks.specs.Checks.{summary_checks, term_checks, both_checks}
use Rattle.text_demands.specs.Demands.{local_checks, remote_checks}
use Rattle.text_sides.specs.Side.{rule_held, codes_left, SideFormed}
use Rattle.text_actions.specs.Action.{ActionFormed, ActionAt}
use Rattle.text_actions.specs.declared.action.ActionParts.{ActionParts}
use Rattle.text_checks.proofs.Passing.{both_pass, kinds_pass, set_checks, remote_checks_lem}
use Rattle.text_sides.proofs.Sides.{left_least, left-most}
use Rattle.text_sides.proofs.Expressions.{passed-codes, passed-kept}
use Rattle.text_actions.proofs.Rules.{rule-held, remote_held}
use Rattle.text_actions.proofs.Forms.{whole-end, local-formed, sent-formed}

module _ {s : Sizes} {line : List ℕ} {a b : List ℕ} {count : ℕ} (lim : Limits s) where
  -- `F[u] := X`
  pub local-read : {at start : ℕ} {g : Gathered} (f : ℕ) {x : ℕ} {r : Rule} {named : Bool} {k : Checks} {n : ℕ} → Assigned line at start
      → ExpressionFormed s line start a b count g → is_empty (tokens_from false line g.end) ≡ true → x ≡ letter_field f
      → r ≡ rule_held b x count g.used → named ≡ names s f → k ≡ local_checks f named g.seen → n ≡ codes_left count (codes_left count g.used 1) 3
      → ActionFormed s line at (local_form (letter f ∷ tokens_from false line at)) a b count (record { rule = r; checks = k; used = n })
  local-read {g = g} f v w h i p o e c =
      let to = g.used in
      let q = e ∙ ap (λ (x : Bool). local_checks f x g.seen) o in
      let l = w.more_codes in
      let one = left_least count to 1 l in
      let least = left_least count (codes_left count to 1) 3 one in
      let most = left-most count (codes_left count to 1) 3 one in
      record {
        written = set f w.written;
        form_is = whole-end _ (local-formed f v w.form_is) h;
        checks_are = q ∙ set_checks s f w.written w.summary_is;
        held = λ pass.
            let ok = kinds_pass (summary_checks g.seen) _ _ (sym (ap all_pass q) ∙ pass) in
            rw (p, i, c) (rule-held f l (passed-codes w lim ok) (passed-kept w ok));
        more_codes = omega (arith, c, least);
        few_codes = omega (arith, c, most, left-most count to 1 l, w.few_codes, w.inside, v.behind.onward);
      }

  -- `remote F[C] <?= X`, `remote F[C] += X`
  pub sent-read : {at start : ℕ} {x : Side} (f : ℕ) {y z : ℕ} (c : List ℕ) {p : TermParts} (k : Sort) {named : Bool} {m : Checks}
      → p ≡ parts_of s (chain c)
      → Passing false true (write k) line at start → SideFormed s line start a b count x → is_empty (tokens_from false line x.end) ≡ true
      → y ≡ letter_field f → z ≡ chain_in p.code → named ≡ names s f → m ≡ remote_checks k f named p x.seen
      → ActionFormed s line at (sent_form (f ∷ c) (tokens_from false line at)) a b count
      (record { rule = Remote k y z x.term; checks = m; used = x.used })
  sent-read {x = x} f c {p} k e v w h i j o d =
      let g = x.seen in
      let q = d ∙ ap (λ (n : Bool). remote_checks k f n p g) o in
      record {
        written = remote k f c w.written;
        form_is = whole-end _ (sent-formed f c v w.form_is) h;
        checks_are = q ∙ remote_checks_lem s k f c w.written e w.summary_is;
        held = λ pass.
            let ok = both_pass (term_checks p) (summary_checks g) (kinds_pass (both_checks (term_checks p) (summary_checks g)) _ _ (sym (ap all_pass q) ∙ pass)) in
            rw (i, j) (remote_held k f c lim e ok.0 (w.holds ok.1) (w.kept ok.1));
        more_codes = w.more_codes;
        few_codes = omega (arith, w.few_codes, w.inside, v.behind.onward);
      }

-- what was read behind the first token, from before it
pub action_from : (s : Sizes) (line : List ℕ) {at i : ℕ} {f g : Form Action} (a b : List ℕ) (count : ℕ) → Behind line at i → g ≡ f
    → (r : Option ActionParts) → ActionAt s line i f a b count r → ActionAt s line at g a b count r
action_from s line a b count v e (Some x) w = rw e (record {
  written = w.written;
  form_is = w.form_is;
  checks_are = w.checks_are;
  held = w.held;
  more_codes = w.more_codes;
  few_codes = omega (arith, v.onward, w.few_codes);
})
action_from s line a b count v e None w = rw e w
