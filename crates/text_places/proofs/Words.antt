-- The end of a line, and `[u] :=` in it, by its tokens.
use Rattle.std.specs.Prelude.{Option, None, Some}
use Prim.Native.Nat.compare
use Prim.Native.Nat.{ℕ, zero, suc, ◌≤◌}
use mathlib.Core.Path.{◌≡◌, refl, sym, ap, ◌∙◌}
use mathlib.Core.Bool.{true, false}
use mathlib.Core.List.{List, [], ◌∷◌}
use native.Mathlib.Omega.{arith}
use lib.Dec.{eqb, compare_is_eq}
use borrow.Author.Tests.{ne_eqb}
use lib.ListN.{length, drop}
use Rattle.text_syntax.specs.Lexing.{First, first, first_token, tokens_at}
use Rattle.text_syntax.proofs.Lexing.{tokens-first, tokens_none, tokens-empty}
use Rattle.text_syntax.specs.Token.{own, becomes, openSquare, closeSquare}
use Rattle.text_syntax.specs.Kind.{kind, letter_in, fixed_in, same, is}
use Rattle.text_syntax.specs.Form.{held, one_of, past, then}
use Rattle.text_syntax.specs.Grammar.{local_form}
use Rattle.text_places.specs.Place.{Passing, Absent, Passes}
use Rattle.text_places.proofs.Places.{past-absent}
use Rattle.text_places.specs.Word.{is_empty, NotAssigned, PassesAssigned}

some_token : (b : ℕ) (t : List ℕ) → is_empty (tokens_at false (b ∷ t)) ≡ false
unfolding is_empty
some_token b t = go (first_token false (b ∷ t)) refl
  where
    go : (f : First) → first_token false (b ∷ t) ≡ f → is_empty (tokens_at false (b ∷ t)) ≡ false
    go First.none h = ap is_empty (tokens_none false b t h)
    go (first k r) h = ap is_empty (tokens-first false (b ∷ t) h)

-- no token stands at a place exactly when it is the end of the line
pub ends_at : (line : List ℕ) (at : ℕ) → at ≤ length line → eqb at (length line) ≡ is_empty (tokens_at false (drop at line))
unfolding is_empty
ends_at [] zero h = sym (ap is_empty (tokens-empty false))
ends_at [] (suc n) h = absurd (omega (arith, h))
ends_at (b ∷ t) zero h = ne_eqb 0 (suc (length t)) (λ e. omega (arith, e)) ∙ sym (some_token b t)
ends_at (b ∷ t) (suc n) h = ap compare_is_eq (compare.suc-suc n (length t)) ∙ ends_at t n (omega (arith, h))

-- `[u] :=` behind the letter of a field, token by token
module _ {line : List ℕ} {at : ℕ} where
  pub not_opened : Absent false openSquare line at → NotAssigned line at
  unfolding local_form one_of held letter_in kind then
  not_opened h = record { none = λ f. past-absent openSquare _ _ h.absent }

  pub not_own : {i : ℕ} → Passing false false openSquare line at i → Absent false own line i → NotAssigned line at
  unfolding local_form one_of held letter_in kind then past is same fixed_in
  not_own o h = record { none = λ f. rw o.text (past-absent own _ _ h.absent) }

  pub not-closed : {i j : ℕ} → Passing false false openSquare line at i → Passing false false own line i j → Absent false closeSquare line j
      → NotAssigned line at
  unfolding local_form one_of held letter_in kind then past is same fixed_in
  not-closed o u h = record { none = λ f. rw (o.text, u.text) (past-absent closeSquare _ _ h.absent) }

  pub assigns : {i j k : ℕ} → Passing false false openSquare line at i → Passing false false own line i j → Passing false false closeSquare line j k
      → (r : Option ℕ) → Passes false true becomes line k r → PassesAssigned line at r
  unfolding local_form one_of held letter_in kind then past is same fixed_in
  assigns o u c (Some end) b = record {
    text = o.text ∙ rw (u.text, c.text, b.text);
    behind = record { onward = omega (arith, o.behind.onward, u.behind.onward, c.behind.onward, b.behind.onward); inside = b.behind.inside };
  }
  assigns o u c None h = record { none = λ f. rw (o.text, u.text, c.text) (past-absent becomes _ _ h.absent) }
