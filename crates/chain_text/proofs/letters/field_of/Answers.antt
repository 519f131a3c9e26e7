-- `chain_text::letters::field_of` meets its contract.
use native.Mathlib.Omega.{arith}
use borrow.Author.Tests.{lt-ltb, le-ltb}
use Rattle.chain_text.specs.Text.{letter_field}
use Rattle.chain_text.proofs.letters.field_of.Goals as goal

pub returns-then-letter-lt77 : goal.returns-then-letter-lt77
unfolding letter_field
returns-then-letter-lt77 c = simp (lt-ltb _ _ c.if-letter-lt77.true)

pub returns-else-letter-lt77 : goal.returns-else-letter-lt77
unfolding letter_field
returns-else-letter-lt77 c = rw (le-ltb _ 77 c.if-letter-lt77.false) (omega (arith, c.if-letter-lt77.false))
