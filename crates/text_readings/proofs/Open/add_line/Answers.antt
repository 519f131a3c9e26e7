-- `text_readings::Open::add_line` meets its contract.
use mathlib.Core.Path.{refl}
use native.Mathlib.Omega.{arith}
use Rattle.std.proofs.Common.{rules}
use Rattle.plan_keys.proofs.Words.{hops-two}
use Rattle.plan_lines.proofs.Adding.{extended-holds}
use Rattle.text_readings.proofs.Plans.{added_full, added_over, line-below, added-line}
use Rattle.text_readings.proofs.Open.add_line.Goals as goal

pub returns-then-self : goal.returns-then-self
returns-then-self c = added_full _ c.if-self.true

pub line_of-requires : goal.line_of-requires
line_of-requires c = (c.args.self.now.holds c.if-self.false, hops-two _ c.requires.0, c.requires.1)

pub returns-in_default : goal.returns-in_default
returns-in_default c = added_over _ c.if-self.false refl c.in_default.ensures.extended

pub bounds-self-line : goal.bounds-self-line
bounds-self-line c =
    let e = c.in-Ok.ensures in
    omega (arith, e.line_is, line-below c.args.self.now.plan c.line_of.new.plan _ (hops-two _ c.requires.0) (extended-holds e.extended refl), (extended-holds e.extended refl).keyed)

pub overflow_cast-result : goal.overflow_cast-result
overflow_cast-result c =
    let e = c.in-Ok.ensures in
    let below = line-below c.args.self.now.plan c.line_of.new.plan _ (hops-two _ c.requires.0) (extended-holds e.extended refl) in
    record { fits = omega (arith, e.line_is, below, (extended-holds e.extended refl).keyed) }

pub returns : goal.returns
returns c =
    let e = c.in-Ok.ensures in
    added-line _ _ _ (hops-two _ c.requires.0) c.if-self.false (search rules) c.if-self.false e.extended _ e.line_is refl
