-- `print_page::put_cell` meets its contract.
use mathlib.Core.Path.{◌≡◌, ap}
use mathlib.Core.List.{append-nil}
use borrow.Author.Rules.{rules}
use Rattle.integers.proofs.Complement.{kept}
use Rattle.laws.specs.Bytes.{bytes}
use Rattle.print_page.specs.Decimal.{value_text, cell_text}
use Rattle.print_page.proofs.put_cell.Goals as goal

pub put_byte-requires : goal.put_byte-requires
unfolding cell_text
put_byte-requires c =
    let gap : cell_text c.args.cell ≡ bytes "-" = ap cell_text c.in-Missing.is in
    rw (gap) at c.requires

pub put_followed-requires : goal.put_followed-requires
unfolding cell_text
put_followed-requires c =
    let k = c in
    rw (kept k.in-Measured.value (search rules), append-nil (value_text k.in-Measured.value)) (rw k.in-Measured.is at k.requires)

pub put_followed-requires-in-WorkedOut : goal.put_followed-requires-in-WorkedOut
unfolding cell_text
put_followed-requires-in-WorkedOut c =
    let k = c in
    rw (kept k.in-WorkedOut.value (search rules)) (rw k.in-WorkedOut.is at k.requires)

pub returns-in-Missing : goal.returns-in-Missing
unfolding cell_text
returns-in-Missing c =
    let gap : cell_text c.args.cell ≡ bytes "-" = ap cell_text c.in-Missing.is in
    rw (gap) c.put_byte.ensures

pub returns-in-Measured : goal.returns-in-Measured
unfolding cell_text
returns-in-Measured c =
    let p = c in
    let k = p in
    rw k.in-Measured.is (rw (kept k.in-Measured.value (search rules), append-nil (value_text k.in-Measured.value)) at p.put_followed.ensures)

pub returns-in-WorkedOut : goal.returns-in-WorkedOut
unfolding cell_text
returns-in-WorkedOut c =
    let p = c in
    let k = p in
    rw (k.in-WorkedOut.is, ← kept k.in-WorkedOut.value (search rules)) p.put_followed-in-WorkedOut.ensures
