-- `chain_text::text::scan` meets its contract: the steps from the start come to the summary of the letters.
use mathlib.Core.Path.{◌∙◌}
use Rattle.chain_text.proofs.Scanning.{scan-start}
use Rattle.chain_text.proofs.text.scan.Goals as goal

pub returns : goal.returns
returns c = c.read.ensures ∙ scan-start _ _ _
