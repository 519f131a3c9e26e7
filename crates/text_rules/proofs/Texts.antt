-- A text that spells some lines, each with byte 10 behind it, is read as those lines, whatever its free spaces.
use Prim.Native.Nat.{ℕ, zero, suc, ◌≤◌}
use mathlib.Core.Path.{◌≡◌, refl, sym, ap, ap₂, ◌∙◌}
use mathlib.Core.Bool.{Bool, true, false, ◌&&◌}
use mathlib.Core.List.{List, [], ◌∷◌, ◌++◌, map}
use mathlib.Core.Option.{Option, some}
use native.Mathlib.Omega.{arith}
use borrow.Author.Tests.{leb-true, ne_eqb}
use lib.Dec.{leb}
use Rattle.chain_text.specs.Text.{is_capital}
use Rattle.laws.specs.Lists.{every}
use Rattle.laws.proofs.Bools.{and_both, and-true}
use Rattle.program.specs.declared.rule.Comparison.TheVariants.{Less, Equal, Unequal}
use Rattle.program.specs.declared.rule.Sort.TheVariants.{Least, Total}
use Rattle.text_numerals.specs.Numeral.{is_digit, Numeral, whole, metres, printed_numeral, all_digits, signed_text, printed_number}
use Rattle.text_numerals.proofs.Spans.{every-parts}
use Rattle.program.specs.declared.rule.Operator.TheVariants.{Plus, Minus, Smaller}
use Rattle.text_syntax.specs.Token.{Token, stepWord, end_word, doneWord, loopWord, ifWord, remoteWord, own, letter, number, becomes, colon, write, operator, comparison, openSquare, closeSquare, openRound, closeRound, unknown}
use Rattle.text_syntax.specs.Lexing.{spelled}
use Rattle.text_syntax.specs.Spelling.{Stands, spaces, Spells, empty, last, spaced}
use Rattle.text_syntax.specs.Written.{Line}
use Rattle.text_syntax.proofs.Texts.{text_exactly}
use Rattle.text_rules.specs.Text.{is_within, lines, piece_form}
use Rattle.text_rules.specs.Same.{SpellsText, no_line, one_more}
use Rattle.text_rules.proofs.Pieces.{lines-ended}

-- no byte of a text is 10
abbrev Within : List ℕ → Type 0
Within t = every is_within t ≡ true

within_cons : (b : ℕ) (t : List ℕ) → 11 ≤ b → Within t → Within (b ∷ t)
unfolding every is_within
within_cons b t h w = rw (ne_eqb b 10 (λ e. omega arith)) w

within-append : (t u : List ℕ) → Within t → Within u → Within (t ++ u)
unfolding every
within-append [] u w v = v
within-append (b ∷ t) u w v = let both = and_both (is_within b) (every is_within t) w in sym (and-true (every is_within (t ++ u)) both.0) ∙ within-append t u both.1 v

within-spaces : (n : ℕ) (t : List ℕ) → Within t → Within (spaces n ++ t)
unfolding spaces
within-spaces zero t w = w
within-spaces (suc n) t w = within_cons 32 (spaces n ++ t) (omega arith) (within-spaces n t w)

capital-above : (l : ℕ) → is_capital l ≡ true → 11 ≤ l
unfolding is_capital
capital-above l h = omega (arith, leb-true 65 l (and_both (leb 65 l) (leb l 90) h).0)

digits-within : (ds : List ℕ) → every is_digit ds ≡ true → Within ds
unfolding every is_digit
digits-within [] h = refl
digits-within (d ∷ ds) h =
    let both = and_both (leb 48 d && leb d 57) (every is_digit ds) h in
    within_cons d ds (omega (arith, leb-true 48 d (and_both (leb 48 d) (leb d 57) both.0).0)) (digits-within ds both.1)

numeral-within : (x : Numeral) → every is_digit (all_digits x) ≡ true → Within (printed_numeral x)
unfolding printed_numeral all_digits every is_within
numeral-within (whole ds) h = digits-within ds h
numeral-within (metres ds cs) h =
    let both = every-parts is_digit ds cs h in
    within-append ds (46 ∷ cs) (digits-within ds both.0) (digits-within cs both.1)

number-within : (negative : Bool) (x : Numeral) → every is_digit (all_digits x) ≡ true → Within (printed_number negative x)
unfolding printed_number signed_text every is_within
number-within true x h = numeral-within x h
number-within false x h = numeral-within x h

token_within : (operand : Bool) (k : Token) (r : List ℕ) → Stands operand k r → Within (spelled k)
unfolding spelled every is_within
token_within operand stepWord r h = refl
token_within operand end_word r h = refl
token_within operand doneWord r h = refl
token_within operand loopWord r h = refl
token_within operand ifWord r h = refl
token_within operand remoteWord r h = refl
token_within operand own r h = refl
token_within operand (letter l) r h = within_cons l [] (capital-above l h) refl
token_within operand (number negative x) r h = number-within negative x h.digits
token_within operand becomes r h = refl
token_within operand colon r h = refl
token_within operand (write Least) r h = refl
token_within operand (write Total) r h = refl
token_within operand (operator Plus) r h = refl
token_within operand (operator Minus) r h = refl
token_within operand (operator Smaller) r h = refl
token_within operand (comparison Less) r h = refl
token_within operand (comparison Equal) r h = refl
token_within operand (comparison Unequal) r h = refl
token_within operand openSquare r h = refl
token_within operand closeSquare r h = refl
token_within operand openRound r h = refl
token_within operand closeRound r h = refl
token_within operand unknown r h = refl

spells_within : {operand : Bool} {ks : List Token} {t : List ℕ} → Spells operand ks t → Within t
unfolding every
spells_within empty = refl
spells_within {operand} (last {k = k} h) = token_within operand k [] h
spells_within {operand} (spaced {k = k} {r = r} n h more) =
    within-append (spelled k) (spaces n ++ r) (token_within operand k (spaces n ++ r) h) (within-spaces n r (spells_within more))

-- the lines of such a text have the forms that it spells
pub spelled-text : {ls : List Line} {t : List ℕ} → SpellsText ls t → map piece_form (lines t) ≡ map some ls
unfolding lines piece_form
spelled-text no_line = refl
spelled-text (one_more {l} {ls} {t} {u} h p more) =
    ap (map piece_form) (lines-ended t u (spells_within h))
    ∙ ap₂ (λ (o : Option Line) (os : List (Option Line)). o ∷ os) ((text_exactly t l).1 (h, p)) (spelled-text more)
