-- `plan_builder::add_fact` meets its contract: it calls itself for the two needs of a fact, which have fewer hops.
use mathlib.Core.Path.{refl, sym, ◌∙◌}
use native.Mathlib.Omega.{arith}
use Rattle.std.proofs.Common.{rules}
use Rattle.plan_keys.specs.Keys.{fact_of}
use Rattle.plan_keys.proofs.Keys.{hops-short, hops_long}
use Rattle.plan_lines.proofs.Appending.{line-one}
use Rattle.plan_lines.proofs.Adding.{holds-facts, extended-holds, extended-settled, extended_as, needs_shorter, new-one, new-both, one-next, one-done, back_full, read_full, both-next, both-done}
use Rattle.plan_builder.proofs.+add_fact.Goals as goal

pub returns-then-is_settled : goal.returns-then-is_settled
returns-then-is_settled t c = (extended-settled _ c.requires.0 (sym c.is_settled.ensures ∙ c.if-is_settled.true), c.requires.0.keyed)

-- a fact that is not settled: its line needs nothing, ..
pub append-requires : goal.append-requires
append-requires t c =
    let n = new-one (sym c.is_settled.ensures ∙ c.if-is_settled.false) (hops-short _ c.if-key-le-ONE_HOP.true) in
    (c.requires.0, rw c.first_line.ensures (line-one c.args.key (one-next n) n.one))

pub returns-then-key-le-ONE_HOP : goal.returns-then-key-le-ONE_HOP
returns-then-key-le-ONE_HOP t c =
    let n = new-one (sym c.is_settled.ensures ∙ c.if-is_settled.false) (hops-short _ c.if-key-le-ONE_HOP.true) in
    (one-done n (rw c.first_line.ensures at c.append.ensures.0), c.append.ensures.1)

-- .. or it has two needs
pub needs_of-needs-requires : goal.needs_of-needs-requires
needs_of-needs-requires t c = (hops_long _ c.if-key-le-ONE_HOP.false, c.requires.1)

pub add_fact-requires : goal.add_fact-requires
add_fact-requires t c =
    let shorter = needs_shorter (fact_of c.args.key) (hops_long _ c.if-key-le-ONE_HOP.false) c.needs_of-needs.ensures in
    (omega (arith, c.decreases, shorter), (c.requires.0, omega (arith, c.requires.1, shorter)))

-- the answer for Back(a), where there is room, ..
pub returns-in_err-add_fact : goal.returns-in_err-add_fact
returns-in_err-add_fact t c =
    let n = new-both (sym c.is_settled.ensures ∙ c.if-is_settled.false) (hops_long _ c.if-key-le-ONE_HOP.false) in
    (back_full n (extended_as refl c.needs_of-needs.ensures.back_is c.add_fact.ensures.0) (search rules) (search rules), c.add_fact.ensures.1)

pub add_fact-requires-2 : goal.add_fact-requires-2
add_fact-requires-2 t c =
    let shorter = needs_shorter (fact_of c.args.key) (hops_long _ c.if-key-le-ONE_HOP.false) c.needs_of-needs.ensures in
    let with_back = extended_as refl c.needs_of-needs.ensures.back_is c.add_fact.ensures.0 in
    (omega (arith, c.decreases, shorter), (holds-facts (extended-holds with_back (search rules)), omega (arith, c.requires.1, shorter)))

-- .. and then that for Read(b)
pub returns-in_err-add_fact-2 : goal.returns-in_err-add_fact-2
returns-in_err-add_fact-2 t c =
    let n = new-both (sym c.is_settled.ensures ∙ c.if-is_settled.false) (hops_long _ c.if-key-le-ONE_HOP.false) in
    let with_back = extended_as refl c.needs_of-needs.ensures.back_is c.add_fact.ensures.0 in
    let back-held = extended-holds with_back (search rules) in
    (read_full n (extended_as back-held.facts_are c.needs_of-needs.ensures.read_is c.add_fact-2.ensures.0) (search rules) (search rules), c.add_fact-2.ensures.1)

pub line_after-line-requires : goal.line_after-line-requires
line_after-line-requires t c =
    let n = new-both (sym c.is_settled.ensures ∙ c.if-is_settled.false) (hops_long _ c.if-key-le-ONE_HOP.false) in
    let with_back = extended_as refl c.needs_of-needs.ensures.back_is c.add_fact.ensures.0 in
    let back-held = extended-holds with_back (search rules) in
    let h = extended-holds (extended_as back-held.facts_are c.needs_of-needs.ensures.read_is c.add_fact-2.ensures.0) (search rules) in
    let f = holds-facts h in
    (h.keyed, f.ordered, f.rounds_are, record { next = both-next n h; needs_are = c.needs_of-needs.ensures; two = n.two; short = c.requires.1 })

pub returns : goal.returns
returns t c =
    let n = new-both (sym c.is_settled.ensures ∙ c.if-is_settled.false) (hops_long _ c.if-key-le-ONE_HOP.false) in
    let with_back = extended_as refl c.needs_of-needs.ensures.back_is c.add_fact.ensures.0 in
    let back-held = extended-holds with_back (search rules) in
    let h = extended-holds (extended_as back-held.facts_are c.needs_of-needs.ensures.read_is c.add_fact-2.ensures.0) (search rules) in
    (both-done n h (rw c.line_after-line.ensures.0 at c.append-2.ensures.0), c.append-2.ensures.1)
