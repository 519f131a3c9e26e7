-- The codes that are written for an expression that passes 9 to 12 are those of its tree.
use mathlib.Core.Path.{◌≡◌, ap, ap₂, ◌∙◌}
use mathlib.Core.Bool.{true}
use mathlib.Core.List.{List, [], ◌∷◌, ◌++◌}
use borrow.Author.Tests.{leb-true, le-ltb}
use lib.IntN.{ℤ}
use lib.ListN.{length}
use mir.Syntax.{w32}
use mir.Val.{SFits}
use Rattle.register.specs.Shape.{Limits}
use Rattle.register.specs.declared.Sizes.{Sizes}
use Rattle.laws.proofs.Bools.{and_both}
use Rattle.integers.specs.Range.{in_range, sum_of}
use Rattle.integers.proofs.Complement.{range_fits}
use Rattle.chain_text.proofs.Passing.{letters_unpacked}
use Rattle.program.specs.Code as P
use Rattle.program.specs.Code.{Code, code_of, postfix}
use Rattle.program.proofs.Codes.{chain_coded, number_coded}
use Rattle.text_syntax.specs.Written.{Term, chain, number, Expression, term, group, operation}
use Rattle.text_syntax.specs.Parts.{every_term, term_named, term_kinded, term_short, term_in_range}
use Rattle.text_syntax.specs.Tree.{term_tree, tree_of}
use Rattle.text_codes.specs.Coded.{term_code}
use Rattle.text_codes.specs.Codes.{written_codes}

in_range-fits : (z : ℤ) → in_range z ≡ true → SFits w32 z
unfolding in_range
in_range-fits z r = let both = and_both _ _ r in range_fits z both.0 both.1

module _ (s : Sizes) (l : Limits s) where
  term_postfix : (x : Term) → term_named s x ≡ true → term_kinded x ≡ true → term_short x ≡ true → term_in_range x ≡ true
      → code_of (term_code x) ∷ [] ≡ postfix (term_tree x)
  unfolding term_code postfix term_tree term_named term_kinded term_short term_in_range sum_of
  term_postfix (chain ls) n k h r =
      ap (λ (c : Code). c ∷ [])
      (chain_coded _ ∙ ap P.chain (letters_unpacked s ls n k l (le-ltb 16 (length ls) (leb-true (length ls) 16 h))))
  term_postfix (number negative x) n k h r = rw r (ap (λ (c : Code). c ∷ []) (number_coded _ (in_range-fits _ r)))

  pub codes-postfix : (e : Expression) → every_term (term_named s) e ≡ true → every_term term_kinded e ≡ true → every_term term_short e ≡ true
      → every_term term_in_range e ≡ true → written_codes e ≡ postfix (tree_of e)
  unfolding written_codes every_term tree_of postfix
  codes-postfix (term x) n k h r = term_postfix x n k h r
  codes-postfix (group e) n k h r = codes-postfix e n k h r
  codes-postfix (operation o x y) n k h r =
      let ns = and_both (every_term (term_named s) x) (every_term (term_named s) y) n in
      let ks = and_both (every_term term_kinded x) (every_term term_kinded y) k in
      let hs = and_both (every_term term_short x) (every_term term_short y) h in
      let rs = and_both (every_term term_in_range x) (every_term term_in_range y) r in
      ap₂ (λ (cs ds : List Code). cs ++ (ds ++ (P.operator o ∷ [])))
      (codes-postfix x ns.0 ks.0 hs.0 rs.0) (codes-postfix y ns.1 ks.1 hs.1 rs.1)
