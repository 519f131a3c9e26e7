-- The signs that a text begins with, by its first byte.
use Rattle.std.specs.Prelude.{Option}
use Prim.Native.Nat.{ℕ, ◌+◌, ◌<◌}
use mathlib.Core.Path.{◌≡◌, refl, sym, ap, ap₂, ◌∙◌}
use mathlib.Core.Logic.{◌≢◌}
use mathlib.Core.Bool.{and-true, Bool, true, false, cond}
use mathlib.Core.List.{List, [], ◌∷◌, ◌++◌}
use borrow.Author.Tests.{ne_eqb}
use lib.Dec.{eqb}
use lib.ListN.{length, get_or, drop}
use lib.Seq.{drop-drop}
use Rattle.text_words.proofs.Tables.{first_byte, cond-first, cond-second, sized-cond}
use Rattle.laws.proofs.Bools.{true_false}
use Rattle.chain_text.specs.Scan.{starts_with}
use Rattle.program.specs.declared.rule.Comparison.TheVariants.{Less}
use Rattle.program.specs.declared.rule.Sort.TheVariants.{Least}
use Rattle.text_numerals.specs.Word.{opens_with}
use Rattle.text_syntax.specs.Token as S
use Rattle.text_syntax.specs.Lexing.{spelled, words, signs, First, first, none, fixed_token}
use Rattle.text_syntax.proofs.Spellings.{less_read}
use Rattle.text_words.specs.Tokens.{token_code, sized_token, sized_first}
use Rattle.program.specs.declared.rule.Operator.TheVariants.{Smaller}
use Rattle.text_words.specs.declared.token.Token.{Token}
use Rattle.text_words.specs.declared.token.Token.TheVariants.{Write, Operator, Compared}

opens_one : (b : ℕ) (r : List ℕ) → opens_with (b ∷ []) r ≡ starts_with b r
unfolding opens_with starts_with
opens_one b [] = refl
opens_one b (a ∷ r) = and-true (eqb a b)

-- a sign, or a longer one where `=` follows
pub longer_is : {x short : Option (Token × ℕ)} (r : List ℕ) (f g : First) → x ≡ cond (starts_with 61 r) (sized_first f) short → short ≡ sized_first g
    → x ≡ sized_first (cond (opens_with (61 ∷ []) r) f g)
longer_is r f g e q =
    e
    ∙ ap₂ (λ (y : Bool) (z : Option (Token × ℕ)). cond y (sized_first f) z) (sym (opens_one 61 r)) q
    ∙ sym (sized-cond (opens_with (61 ∷ []) r) f g)

-- `<`, and `<?=` or `<?`
pub less_alone : (r : List ℕ) → starts_with 63 r ≡ false → sized_token (Compared Less) 1 ≡ sized_first (fixed_token signs (60 ∷ r))
unfolding fixed_token signs spelled opens_with sized_first token_code
less_alone r h = sym (ap sized_first (less_read r h))

less_question : (t : List ℕ) (at : ℕ) → starts_with 63 (drop at t) ≡ true
    → cond (starts_with 61 (drop (at + 1) t)) (sized_token (Write Least) 3) (sized_token (Operator Smaller) 2) ≡ sized_first (fixed_token signs (60 ∷ drop at t))
unfolding fixed_token signs spelled opens_with starts_with sized_first token_code
less_question t at h = ap (λ (r : List ℕ). cond (starts_with 61 r) (sized_token (Write Least) 3) (sized_token (Operator Smaller) 2)) (sym (drop-drop 1 at t)) ∙ go (drop at t) h
  where
    go : (r : List ℕ) → starts_with 63 r ≡ true
        → cond (starts_with 61 (drop 1 r)) (sized_token (Write Least) 3) (sized_token (Operator Smaller) 2) ≡ sized_first (fixed_token signs (60 ∷ r))
    go [] h = true_false h refl
    go (c ∷ r) h = rw h (longer_is r (first (S.write Least) (drop 1 r)) (first (S.operator Smaller) r) refl refl)

module _ (t : List ℕ) (at : ℕ) (question : starts_with 63 (drop at t) ≡ true) where
  pub less_least : starts_with 61 (drop (at + 1) t) ≡ true → sized_token (Write Least) 3 ≡ sized_first (fixed_token signs (60 ∷ drop at t))
  less_least h = cond-first _ _ h ∙ less_question t at question

  pub less_smaller : starts_with 61 (drop (at + 1) t) ≡ false → sized_token (Operator Smaller) 2 ≡ sized_first (fixed_token signs (60 ∷ drop at t))
  less_smaller h = cond-second _ _ h ∙ less_question t at question

-- a byte that no sign begins with
abbrev pub NoSign : ℕ → Type 0
NoSign b =
    ((((((((((Unit {0} × (b ≢ 117)) × (b ≢ 91)) × (b ≢ 93)) × (b ≢ 40)) × (b ≢ 41)) × (b ≢ 45)) × (b ≢ 58)) × (b ≢ 43)) × (b ≢ 61)) × (b ≢ 33)) × (b ≢ 60)

no_sign : (b : ℕ) (r : List ℕ) → NoSign b → fixed_token signs (b ∷ r) ≡ none
unfolding fixed_token signs spelled opens_with
no_sign b r h =
    let g = h.0.0.0.0.0 in
    rw (
      ne_eqb b 117 g.0.0.0.0.0.1,
      ne_eqb b 91 g.0.0.0.0.1,
      ne_eqb b 93 g.0.0.0.1,
      ne_eqb b 40 g.0.0.1,
      ne_eqb b 41 g.0.1,
      ne_eqb b 58 h.0.0.0.0.1,
      ne_eqb b 60 h.1,
      ne_eqb b 61 h.0.0.1,
      ne_eqb b 33 h.0.1,
      ne_eqb b 43 h.0.0.0.1,
      ne_eqb b 45 g.1,
    )

fixed_front : (ks ls : List S.Token) (t : List ℕ) → fixed_token ls t ≡ none → fixed_token (ks ++ ls) t ≡ fixed_token ks t
unfolding fixed_token
fixed_front [] ls t h = h
fixed_front (k ∷ ks) ls t h = rw (fixed_front ks ls t h)

pub only-word : (t : List ℕ) (at : ℕ) → at < length t → NoSign (get_or t at 0) → fixed_token words (drop at t) ≡ fixed_token (words ++ signs) (drop at t)
only-word t at h n =
    sym (fixed_front words signs (drop at t) (ap (fixed_token signs) (first_byte t at _ h refl) ∙ no_sign _ _ n))
