-- The tokens of a line of a rules text: words, letters, numbers and signs.
use Rattle.std.specs.Prelude.{ℕ, Bool}
use Rattle.program.specs.declared.rule.Comparison.{Comparison}
use Rattle.program.specs.declared.rule.Operator.{Operator}
use Rattle.program.specs.declared.rule.Sort.{Sort}
use Rattle.text_numerals.specs.Numeral.{Numeral}

-- a word; `u`; a capital; a number with its minus, where it has one; `:=`, `:`; `<?=` or `+=`; an operator; `<`, `==` or `!=`; brackets; and
-- what is no token
pub data Token : Type 0 where
  stepWord end_word doneWord loopWord ifWord remoteWord own : Token
  letter : ℕ → Token
  number : Bool → Numeral → Token
  becomes colon : Token
  write : Sort → Token
  operator : Operator → Token
  comparison : Comparison → Token
  openSquare closeSquare openRound closeRound unknown : Token
