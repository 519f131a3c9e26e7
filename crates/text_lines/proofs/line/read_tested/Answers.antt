-- `text_lines::line::read_tested` meets its contract.
use mathlib.Core.Path.{subst}
use native.Mathlib.Omega.{arith}
use Rattle.text_places.specs.Word.{PassesComparison}
use Rattle.text_sides.specs.Side.{SideAt}
use Rattle.text_lines.proofs.Lines.{no_first, no_comparison, tested}
use Rattle.text_lines.proofs.line.read_tested.Goals as goal

pub returns-in_default : goal.returns-in_default
returns-in_default c =
    no_first c.args.sizes c.args.line.now c.args.at c.args.codes.now c.read.new.codes c.args.count
    (subst (SideAt _ _ _ _ _ _) c.in_default.is c.read.ensures)

pub comparison-requires : goal.comparison-requires
comparison-requires c = let d = subst (SideAt _ _ _ _ _ _) c.in-Some.is c.read.ensures in d.inside

pub returns-in_default-comparison : goal.returns-in_default-comparison
returns-in_default-comparison c =
    let d = subst (SideAt _ _ _ _ _ _) c.in-Some.is c.read.ensures in
    no_comparison c.args.sizes c.args.line.now c.args.at c.args.codes.now c.read.new.codes c.args.count d
    (subst (PassesComparison _ _) c.in_default-comparison.is c.comparison.ensures)

pub read_compared-requires : goal.read_compared-requires
read_compared-requires c =
    let p = c.requires in
    let d = subst (SideAt _ _ _ _ _ _) c.in-Some.is c.read.ensures in
    let h = subst (PassesComparison _ _) c.in-Some-comparison.is c.comparison.ensures in
    (p.0, h.behind.inside, omega (arith, h.behind.onward, d.roomy), omega (arith, p.3, c.read.auto.codes))

pub returns : goal.returns
returns c =
    let d = subst (SideAt _ _ _ _ _ _) c.in-Some.is c.read.ensures in
    let h = subst (PassesComparison _ _) c.in-Some-comparison.is c.comparison.ensures in
    tested _ _ _ _ _ _ d _ h c.read_compared.ensures
