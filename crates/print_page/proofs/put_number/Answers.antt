-- `print_page::put_number` meets its contract: what `io::decimal` spells is the number in decimal.
use mathlib.Core.Path.{◌≡◌, ◌∙◌}
use lib.ListN.{take}
use Rattle.print_page.specs.Decimal.{decimal_text}
use Rattle.print_page.proofs.Digits.{fewest_decimal}
use Rattle.print_page.proofs.put_number.Goals as goal

pub put_bytes-requires : goal.put_bytes-requires
put_bytes-requires c =
    let spelled : take c.decimal-count.result c.decimal-count.new.out ≡ decimal_text c.args.number = (let e = c.decimal-count.ensures in e.digits ∙ fewest_decimal c.decimal-count.result c.args.number e.len) in
    rw (spelled) c.requires

pub returns : goal.returns
returns c =
    let spelled : take c.decimal-count.result c.decimal-count.new.out ≡ decimal_text c.args.number = (let e = c.decimal-count.ensures in e.digits ∙ fewest_decimal c.decimal-count.result c.args.number e.len) in
    rw (spelled) at c.put_bytes.ensures
