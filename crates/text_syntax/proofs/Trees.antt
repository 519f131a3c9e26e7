-- Every tree is written.
use mathlib.Core.Path.{ap₂}
use Prim.Native.Nat.{◌<◌}
use native.Mathlib.Omega.{arith}
use Rattle.program.specs.declared.rule.Operator.{Operator}
use Rattle.program.specs.declared.rule.Operator.TheVariants.{Plus, Minus, Smaller}
use Rattle.program.specs.Program as P
use Rattle.text_syntax.specs.Written.{term, group, operation, chain, number}
use Rattle.text_syntax.specs.Printed.{tightness, bound}
use Rattle.text_syntax.specs.Tree.{term_tree, tree_of, TreesWritten}

loose : (o : Operator) → tightness o < 2
unfolding tightness
loose Plus = omega arith
loose Minus = omega arith
loose Smaller = omega arith

-- with a group around each operand
pub trees_written : TreesWritten
unfolding tree_of term_tree bound
trees_written (P.reading w) (ls, e) = (term (chain ls), tt, rw e)
trees_written (P.constant z) (negative, x, e) = (term (number negative x), tt, rw e)
trees_written (P.operation o x y) (a, b) =
    let (f, pf, ef) = trees_written x a in
    let (g, pg, eg) = trees_written y b in
    (operation o (group f) (group g), (omega (arith, loose o), loose o, pf, pg), ap₂ (P.operation o) ef eg)
