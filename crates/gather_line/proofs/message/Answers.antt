-- `gather_line::message` meets its contract.
use mathlib.Core.Path.{◌≡◌, sym, ap, ◌∙◌}
use borrow.Author.Rules.{rules}
use lib.IntN.{nat_abs}
use Rattle.integers.proofs.Complement.{kept}
use Rattle.gather_line.proofs.Writing.{writer-index, message-none, message_by}
use Rattle.gather_line.proofs.message.Goals as goal

pub writer-requires : goal.writer-requires
writer-requires c = (c.args.cells.now.parts.limits.records≤, c.requires.0, c.requires.1)

pub returns-in_err-number : goal.returns-in_err-number
returns-in_err-number c = c.from_residual.ensures ∙ message-none _ _ _ _ _ _ _ (sym c.in_err-number.was ∙ c.writer.ensures)

pub index-requires : goal.index-requires
index-requires c =
    rw (kept c.in_ok-number.number (search rules)) (writer-index c.args.u _ c.requires.1 c.requires.0 (sym c.in_ok-number.was ∙ c.writer.ensures)).0

pub known-requires : goal.known-requires
known-requires c =
    let index_is : c.index.result ≡ nat_abs c.in_ok-number.number = c.index.ensures ∙ ap nat_abs (kept c.in_ok-number.number (search rules)) in
    let number_index = writer-index c.args.u c.in_ok-number.number c.requires.1 c.requires.0 (sym c.in_ok-number.was ∙ c.writer.ensures) in
    (rw index_is number_index.1, c.requires.2)

pub returns : goal.returns
returns c =
    let index_is : c.index.result ≡ nat_abs c.in_ok-number.number = c.index.ensures ∙ ap nat_abs (kept c.in_ok-number.number (search rules)) in
    c.known.ensures ∙ message_by _ _ _ _ _ _ _ _ (sym c.in_ok-number.was ∙ c.writer.ensures) index_is
