-- `text_terms::chains::read` meets its contract: it calls itself on the inner chain, with room for one hop less.
use Prim.Native.Nat.{ℕ, ◌+◌, ◌-◌, ◌*◌, ◌^◌, ◌≤◌}
use mathlib.Core.Path.{subst, sym}
use mathlib.Core.Bool.{false}
use native.Mathlib.Omega.{arith}
use Rattle.text_syntax.specs.Lexing.{operand_behind}
use Rattle.chain_text.proofs.Scanning.{step_small}
use Rattle.text_terms.specs.Chain.{ChainAt}
use Rattle.text_terms.proofs.ChainForms.{hops-small, chain_alone, chain_unopened, chain_unclosed, chain_closed}
use Rattle.text_terms.proofs.chains.+read.Goals as goal

pub overlong-requires : goal.overlong-requires
overlong-requires t c =
    let few = subst (λ (k : ℕ). c.args.letters.packed + 5 ≤ 5 * 8 ^ (16 - k)) c.if-room-eq0.true c.requires.2 in
    (c.requires.0, few, c.requires.3)

pub returns-then-room-eq0 : goal.returns-then-room-eq0
returns-then-room-eq0 t c =
    subst (λ (k : ℕ). ChainAt c.args.sizes k c.args.letters false c.args.line.now c.args.at c.overlong.result)
    (sym c.if-room-eq0.true) c.overlong.ensures

pub read-requires : goal.read-requires
read-requires t c =
    let opens = rw c.in-Letter.is at c.in_ok-end.ensures in (
      omega (arith, c.if-room-eq0.false),
      (
        c.requires.0,
        omega (arith, c.requires.1),
        rw c.step-next.ensures (step_small c.args.sizes c.args.room c.args.letters _ opens.capital c.if-room-eq0.false c.requires.1 c.requires.2),
        opens.behind.inside,
      ),
    )

pub returns-in_err-all-in-Letter : goal.returns-in_err-all-in-Letter
returns-in_err-all-in-Letter t c =
    let opens = rw c.in-Letter.is at c.in_ok-end.ensures in
    rw c.from_residual-in_err-all-in-Letter.ensures (chain_unopened c.args.sizes c.args.room c.args.letters opens c.in_err-all-in-Letter.ensures)

pub returns-in_err-last-in-Letter : goal.returns-in_err-last-in-Letter
unfolding operand_behind
returns-in_err-last-in-Letter t c =
    let opens = rw c.in-Letter.is at c.in_ok-end.ensures in
    let inner = rw c.step-next.ensures at c.in_ok-all-in-Letter.ensures in
    rw c.from_residual-in_err-last-in-Letter.ensures
    (chain_unclosed c.args.sizes c.args.room c.args.letters opens inner c.in_err-last-in-Letter.ensures)

pub returns-in-Own : goal.returns-in-Own
returns-in-Own t c = chain_alone _ _ _ (hops-small _ _ c.requires.1 c.requires.2) (rw c.in-Own.is at c.in_ok-end.ensures)

pub returns-in_ok-last-in-Letter : goal.returns-in_ok-last-in-Letter
unfolding operand_behind
returns-in_ok-last-in-Letter t c =
    let opens = rw c.in-Letter.is at c.in_ok-end.ensures in
    let inner = rw c.step-next.ensures at c.in_ok-all-in-Letter.ensures in
    chain_closed c.args.sizes c.args.room c.args.letters opens inner c.in_ok-last-in-Letter.ensures
