-- `plan_lines::Plan::index_of` meets its contract.
use mathlib.Core.Path.{sym, ap, ◌∙◌}
use native.Mathlib.Omega.{arith}
use borrow.Author.Tests.{leb-false}
use Rattle.std.specs.Option.{option_map_or}
use Rattle.plan_lines.specs.Held.{facts_in}
use Rattle.plan_lines.proofs.Search.{facts-length}
use Rattle.plan_lines.proofs.Settled.{index-place, place_listed, index_new, no_line_new}
use Rattle.plan_lines.proofs.Plan.index_of.Goals as goal

pub returns-then-not-has_line : goal.returns-then-not-has_line
returns-then-not-has_line c = sym (index_new _ _ (no_line_new _ _ c.requires.1 (leb-false _ _ (sym c.has_line.ensures ∙ c.if-not-has_line.true))))

pub last_place-requires : goal.last_place-requires
unfolding facts_in
last_place-requires c = c.requires.1

-- a place among at most 64 lines
pub overflow_cast-result : goal.overflow_cast-result
unfolding facts_in
overflow_cast-result c =
    let p = c.args.self.now in
    let e = place_listed _ _ _ (sym c.last_place.ensures ∙ c.in-Some.is) in
    omega (arith, e, facts-length p.keys p.count (omega (arith, c.requires.0)), c.requires.0)

pub returns-in-Some : goal.returns-in-Some
unfolding facts_in
returns-in-Some c = sym (index-place _ _ ∙ ap (λ o. option_map_or (λ i. i) o 64) (sym c.last_place.ensures ∙ c.in-Some.is))

pub returns-in-None : goal.returns-in-None
unfolding facts_in
returns-in-None c = sym (index-place _ _ ∙ ap (λ o. option_map_or (λ i. i) o 64) (sym c.last_place.ensures ∙ c.in-None.is))
