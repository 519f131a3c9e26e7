-- `chain_text::letters::names_field` meets its contract: letters before M name references, the others measures.
use borrow.Author.Tests.{lt-ltb, le-ltb}
use Rattle.chain_text.specs.Text.{is_reference_letter, names}
use Rattle.chain_text.proofs.letters.names_field.Goals as goal

pub returns-then-letter-lt77 : goal.returns-then-letter-lt77
unfolding names is_reference_letter
returns-then-letter-lt77 c = simp (lt-ltb _ 77 c.if-letter-lt77.true)

pub returns-else-letter-lt77 : goal.returns-else-letter-lt77
unfolding names is_reference_letter
returns-else-letter-lt77 c = simp (le-ltb _ 77 c.if-letter-lt77.false)
