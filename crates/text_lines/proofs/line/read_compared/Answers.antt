-- `text_lines::line::read_compared` meets its contract.
use mathlib.Core.Path.{subst, ◌∙◌}
use mathlib.Core.Bool.{false}
use native.Mathlib.Omega.{arith}
use Rattle.text_syntax.specs.Lexing.{operand_behind}
use Rattle.text_syntax.specs.Token.{colon}
use Rattle.text_places.specs.Place.{Passes}
use Rattle.text_sides.specs.Side.{SideAt}
use Rattle.text_lines.proofs.Lines.{no_second, no_colon, compared}
use Rattle.text_lines.proofs.line.read_compared.Goals as goal

pub returns-in_default : goal.returns-in_default
returns-in_default c =
    no_second c.args.sizes c.args.line.now c.args.at c.args.first c.args.codes.now c.read.new.codes c.args.count
    (subst (SideAt _ _ _ _ _ _) c.in_default.is c.read.ensures)

pub mark-requires : goal.mark-requires
mark-requires c = let d = subst (SideAt _ _ _ _ _ _) c.in-Some.is c.read.ensures in d.inside

pub returns-in_default-mark : goal.returns-in_default-mark
unfolding operand_behind
returns-in_default-mark c =
    let d = subst (SideAt _ _ _ _ _ _) c.in-Some.is c.read.ensures in
    no_colon c.args.sizes c.args.line.now c.args.at c.args.first c.args.codes.now c.read.new.codes c.args.count d
    (subst (Passes false false colon _ _) c.in_default-mark.is c.mark.ensures)

pub read_ruled-requires : goal.read_ruled-requires
unfolding operand_behind
read_ruled-requires c =
    let p = c.requires in
    let d = subst (SideAt _ _ _ _ _ _) c.in-Some.is c.read.ensures in
    let h = subst (Passes false false colon _ _) c.in-Some-mark.is c.mark.ensures in
    (p.0, h.behind.inside, omega (arith, h.behind.onward, d.roomy), omega (arith, p.3, c.read.auto.codes))

pub shape_of-codes : goal.shape_of-codes
shape_of-codes c = c.read_ruled.auto.codes ∙ c.read.auto.codes

pub returns : goal.returns
unfolding operand_behind
returns c =
    let d = subst (SideAt _ _ _ _ _ _) c.in-Some.is c.read.ensures in
    let h = subst (Passes false false colon _ _) c.in-Some-mark.is c.mark.ensures in
    compared _ _ _ _ _ _ _ d _ c.when-test.ensures h c.read_ruled.ensures
