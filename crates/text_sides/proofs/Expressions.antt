-- An expression that was read, as a term.
use Prim.Native.Nat.{ℕ, ◌≤◌, ◌<◌}
use mathlib.Core.Path.{◌≡◌, ap}
use mathlib.Core.Bool.{true, not, ◌&&◌}
use mathlib.Core.List.{List}
use native.Mathlib.Omega.{arith}
use lib.ListN.{length}
use borrow.Author.Tests.{leb-true}
use Rattle.laws.proofs.Bools.{and_both}
use Rattle.register.specs.Shape.{Limits}
use Rattle.register.specs.declared.Sizes.{Sizes}
use Rattle.program.specs.declared.term.Term.{Term}
use Rattle.program.specs.Code.{postfix, codes_in, SameBelow}
use Rattle.text_syntax.specs.Tree.{tree_of}
use Rattle.text_syntax.specs.Flat as F
use Rattle.text_syntax.specs.Flat.{summary}
use Rattle.text_rules.specs.LineRead.{all_pass}
use Rattle.text_joins.specs.declared.Gathered.{Gathered}
use Rattle.text_sides.specs.Expression.{ExpressionFormed}
use Rattle.text_sides.proofs.Whole.{whole-postfix}
use Rattle.text_checks.specs.Checks.{summary_checks}
use Rattle.text_sides.specs.Side.{term_held, codes_left, SideFormed}
use Rattle.text_checks.proofs.Passing.{all_passed}
use Rattle.text_sides.proofs.Sides.{left_least, left-most}
use Rattle.text_sides.proofs.Held.{term_holds}

module _ {s : Sizes} {line : List ℕ} {at : ℕ} {a b : List ℕ} {count : ℕ} {g : Gathered} (w : ExpressionFormed s line at a b count g) where
  -- its codes stand in the array
  pub codes-inside : length b ≤ 65536 → (count < 65536) × (g.used < 65536) × (g.used ≤ length b)
  codes-inside h =
      (omega (arith, w.roomy, w.inside, w.more_codes), omega (arith, w.roomy, w.inside), omega (arith, w.roomy, w.inside))

  -- if it passes, they are those of its tree
  pub passed-codes : Limits s → all_pass (summary_checks g.seen) ≡ true → codes_in b count g.used ≡ postfix (tree_of w.written)
  passed-codes l h =
      let p = all_passed (summary_checks g.seen) h in
      whole-postfix l w p.named (and_both g.seen.kinded (not (g.seen.reference && g.seen.measure)) p.kinded).0 p.short p.ranged
      (leb-true g.seen.depth 8 p.shallow)

  pub passed-kept : all_pass (summary_checks g.seen) ≡ true → SameBelow a b count
  unfolding summary
  passed-kept h =
      let d = leb-true g.seen.depth 8 (all_passed (summary_checks g.seen) h).shallow in
      (w.wrote (omega (arith, d, ap (λ (f : F.Summary). f.depth) w.summary_is))).kept

  pub side_formed : Limits s → {x : Term} {n : ℕ} → x ≡ term_held b count g.used → n ≡ codes_left count g.used 1
      → SideFormed s line at a b count (record { seen = g.seen; term = x; end = g.end; used = n })
  side_formed l p q =
      let least = left_least count g.used 1 w.more_codes in
      let most = left-most count g.used 1 w.more_codes in
      rw (p, q) (record {
        written = w.written;
        form_is = w.form_is;
        summary_is = w.summary_is;
        holds = λ h. term_holds b count g.used w.written w.more_codes (passed-codes l h);
        kept = passed-kept;
        more_codes = least;
        few_codes = omega (arith, most, w.few_codes);
        inside = w.inside;
        roomy = omega (arith, most, w.roomy);
      })
