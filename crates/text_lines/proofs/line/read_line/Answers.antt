-- `text_lines::line::read_line` meets its contract: what has no form is no line.
use Rattle.text_lines.proofs.Lines.{no_line}
use Rattle.text_lines.proofs.line.read_line.Goals as goal

pub returns-in-None : goal.returns-in-None
returns-in-None c = rw c.no_form.ensures (no_line c.args.sizes c.args.line.now c.args.codes.now c.read_form.new.codes c.args.count c.in-None.ensures)
