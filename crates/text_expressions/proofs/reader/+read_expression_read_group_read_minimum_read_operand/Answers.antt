-- The readers of what operators join, of its elements, of operands and of groups meet their contracts: each calls the next, and the reader of
-- groups that of expressions, with one group less remaining.
use Prim.Native.Nat.{◌-◌}
use mathlib.Core.Path.{◌≡◌, subst}
use mathlib.Core.Bool.{true, false}
use native.Mathlib.Omega.{arith}
use Rattle.std.specs.Prelude.{Ok, Err}
use Rattle.std.proofs.Common.{rules}
use Rattle.text_syntax.specs.Lexing.{operand_behind}
use Rattle.text_syntax.specs.Token.{openRound}
use Rattle.text_syntax.specs.Grammar.{expression}
use Rattle.text_places.specs.Place.{Passing, Passes}
use Rattle.text_terms.specs.Term.{TermAt}
use Rattle.text_joins.specs.declared.Joining.{Joining}
use Rattle.text_codes.proofs.Coding.{wrote_code}
use Rattle.text_expressions.proofs.Joining.{joined-start, joined-room, joined-ready, JoinedTo, joined_by, term_operand, group_none, group_full, group_closed, reading-inside}
use Rattle.text_expressions.proofs.reader.+read_expression_read_group_read_minimum_read_operand.Goals as goal

pub read_expression-loop-more-init : goal.read_expression-loop-more-init
read_expression-loop-more-init t c = joined-start true c.args.sizes c.args.room c.args.before c.args.codes.now c.requires.limits.2 c.requires.limits.3

pub read_expression-read_minimum-read-requires : goal.read_expression-read_minimum-read-requires
read_expression-read_minimum-read-requires t c =
    let p = c.requires in
    let w = c.loop-more.invariant in
    (omega arith, ((p.limits.0, p.limits.1, w.inside, w.few), joined-room w p.roomy))

pub read_expression-returns-in_err-more : goal.read_expression-returns-in_err-more
read_expression-returns-in_err-more t c =
    let passed : c.from_residual.result ≡ Err c.in_err-more.field-0.0 = search rules in
    rw passed (joined_by c.loop-more.invariant c.joined.new.codes _ _ c.read_minimum-read.ensures (Err _) c.in_err-more.ensures)

pub read_expression-joined-requires : goal.read_expression-joined-requires
read_expression-joined-requires t c = joined-ready c.loop-more.invariant _ _ c.requires.roomy c.read_minimum-read.ensures

pub read_expression-loop-more-preserved : goal.read_expression-loop-more-preserved
read_expression-loop-more-preserved t c =
    let answered = subst (λ (y : Joining). JoinedTo c.loop-more.invariant c.joined.new.codes (Ok y)) c.in-Next.is (joined_by c.loop-more.invariant _ _ _ c.read_minimum-read.ensures _ c.in_ok-more.ensures) in
    answered.0

pub read_expression-loop-more-smaller : goal.read_expression-loop-more-smaller
read_expression-loop-more-smaller t c =
    let answered = subst (λ (y : Joining). JoinedTo c.loop-more.invariant c.joined.new.codes (Ok y)) c.in-Next.is (joined_by c.loop-more.invariant _ _ _ c.read_minimum-read.ensures _ c.in_ok-more.ensures) in
    omega (arith, answered.1, answered.0.inside)

pub read_expression-returns-in-Done : goal.read_expression-returns-in-Done
read_expression-returns-in-Done t c =
    subst (λ (y : Joining). JoinedTo c.loop-more.invariant c.joined.new.codes (Ok y)) c.in-Done.is (joined_by c.loop-more.invariant _ _ _ c.read_minimum-read.ensures _ c.in_ok-more.ensures)

pub read_minimum-loop-more-init : goal.read_minimum-loop-more-init
read_minimum-loop-more-init t c = joined-start false c.args.sizes c.args.room c.args.before c.args.codes.now c.requires.limits.2 c.requires.limits.3

pub read_minimum-read_operand-read-requires : goal.read_minimum-read_operand-read-requires
read_minimum-read_operand-read-requires t c =
    let p = c.requires in
    let w = c.loop-more.invariant in
    (omega arith, ((p.limits.0, p.limits.1, w.inside, w.few), joined-room w p.roomy))

pub read_minimum-returns-in_err-more : goal.read_minimum-returns-in_err-more
read_minimum-returns-in_err-more t c =
    let passed : c.from_residual.result ≡ Err c.in_err-more.field-0.0 = search rules in
    rw passed (joined_by c.loop-more.invariant c.joined.new.codes _ _ c.read_operand-read.ensures (Err _) c.in_err-more.ensures)

pub read_minimum-joined-requires : goal.read_minimum-joined-requires
read_minimum-joined-requires t c = joined-ready c.loop-more.invariant _ _ c.requires.roomy c.read_operand-read.ensures

pub read_minimum-loop-more-preserved : goal.read_minimum-loop-more-preserved
read_minimum-loop-more-preserved t c =
    let answered = subst (λ (y : Joining). JoinedTo c.loop-more.invariant c.joined.new.codes (Ok y)) c.in-Next.is (joined_by c.loop-more.invariant _ _ _ c.read_operand-read.ensures _ c.in_ok-more.ensures) in
    answered.0

pub read_minimum-loop-more-smaller : goal.read_minimum-loop-more-smaller
read_minimum-loop-more-smaller t c =
    let answered = subst (λ (y : Joining). JoinedTo c.loop-more.invariant c.joined.new.codes (Ok y)) c.in-Next.is (joined_by c.loop-more.invariant _ _ _ c.read_operand-read.ensures _ c.in_ok-more.ensures) in
    omega (arith, answered.1, answered.0.inside)

pub read_minimum-returns-in-Done : goal.read_minimum-returns-in-Done
read_minimum-returns-in-Done t c =
    subst (λ (y : Joining). JoinedTo c.loop-more.invariant c.joined.new.codes (Ok y)) c.in-Done.is (joined_by c.loop-more.invariant _ _ _ c.read_operand-read.ensures _ c.in_ok-more.ensures)

pub read_operand-returns : goal.read_operand-returns
read_operand-returns t c =
    let p = c.requires in
    term_operand p.limits.3 c.in-Some.ensures c.with_term.ensures
    (wrote_code _ _ _ (omega (arith, p.roomy, p.limits.2)))

pub read_operand-read_group-requires : goal.read_operand-read_group-requires
read_operand-read_group-requires t c =
    (omega arith, (c.requires.limits, (c.requires.roomy, subst (TermAt _ _ _) c.in_default.is c.read_term.ensures)))

pub read_group-returns-in_default : goal.read_group-returns-in_default
unfolding operand_behind
read_group-returns-in_default t c = group_none c.requires.roomy.1 (subst (Passes true true openRound _ _) c.in_default.is c.mark.ensures)

pub read_group-returns-then-room-eq0 : goal.read_group-returns-then-room-eq0
unfolding operand_behind
read_group-returns-then-room-eq0 t c =
    let opens : Passing true true openRound c.args.line.now c.args.before.end c.in-Some.end = subst (Passes true true openRound _ _) c.in-Some.is c.mark.ensures in
    group_full _ c.if-room-eq0.true opens

pub read_group-read_expression-read-requires : goal.read_group-read_expression-read-requires
unfolding operand_behind
read_group-read_expression-read-requires t c =
    let opens : Passing true true openRound c.args.line.now c.args.before.end c.in-Some.end = subst (Passes true true openRound _ _) c.in-Some.is c.mark.ensures in
    let p = c.requires in
    let b = opens.behind in (
      omega (arith, c.if-room-eq0.false),
      (
        (p.limits.0, omega (arith, p.limits.1), b.inside, omega (arith, p.limits.3, b.onward)),
        omega (arith, p.roomy.0, b.onward),
      ),
    )

pub read_group-close_group-requires : goal.read_group-close_group-requires
read_group-close_group-requires t c =
    let a = c.args in
    let e = c.read_expression-read in
    reading-inside expression a.sizes (a.room - 1) (record a.before { end = c.in-Some.end }) a.line.now a.codes.now e.new.codes e.result e.ensures

pub read_group-returns : goal.read_group-returns
unfolding operand_behind
read_group-returns t c =
    let opens : Passing true true openRound c.args.line.now c.args.before.end c.in-Some.end = subst (Passes true true openRound _ _) c.in-Some.is c.mark.ensures in
    let a = c.args in
    let e = c.read_expression-read in
    group_closed a.sizes a.room a.before c.requires.limits.1 c.if-room-eq0.false opens a.codes.now e.new.codes e.result c.close_group.result
    e.ensures c.close_group.ensures
