-- An outcome of a reading as numbers.
use Rattle.std.specs.Prelude.{None, Some}
use Rattle.std.specs.Prelude.{pos}
use Rattle.laws.specs.Outcome.{Outcome, done, refused}
use Rattle.chain.specs.Reading.{Reading}
use Rattle.api_read.specs.declared.reading.ReadNumbers.{ReadNumbers}

-- a reading: the value is 0 where it is unfilled or refused, and `filled` is 1 where it is filled
unfoldable pub read_numbers : Outcome Reading → ReadNumbers
read_numbers (done None) = record { number = 0; line = 0; value = pos 0; filled = 0 }
read_numbers (done (Some z)) = record { number = 0; line = 0; value = z; filled = 1 }
read_numbers (refused k l) = record { number = k; line = l; value = pos 0; filled = 0 }
