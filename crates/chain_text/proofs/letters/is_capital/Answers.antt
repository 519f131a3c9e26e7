-- `chain_text::letters::is_capital` meets its contract.
use Rattle.chain_text.specs.Text.{is_capital}
use Rattle.chain_text.proofs.letters.is_capital.Goals as goal

pub returns : goal.returns
unfolding is_capital
returns c = c.is_ascii_uppercase.ensures.value
