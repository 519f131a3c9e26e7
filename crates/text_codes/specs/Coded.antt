-- The code of a term, and what 9 to 12 ask of it.
use Rattle.std.specs.Prelude.{None, Some}
use Rattle.std.specs.Prelude.{ℕ, ℤ, pos, take}
use Rattle.register.specs.declared.Sizes.{Sizes}
use Rattle.integers.specs.Range.{sum_of}
use Rattle.std.specs.Prelude.{Option, ℤ}
use Rattle.chain.specs.Word.{pack}
use Rattle.chain_text.specs.Text.{word_of}
use Rattle.program.specs.Code.{chain_code, number_code}
use Rattle.text_numerals.specs.Numeral.{number_value}
use Rattle.text_syntax.specs.Written.{Term, chain, number}
use Rattle.text_syntax.specs.Parts.{term_named, term_kinded, is_reference_term, term_short, term_in_range}
use Rattle.text_codes.specs.declared.code.TermParts.{TermParts}

-- the code of a term: of a chain with more than 16 hops the first 16, and 0 for a number that is out of range
abbrev pub held_number : Option ℤ → ℤ
held_number (Some z) = z
held_number None = pos 0

unfoldable pub term_code : Term → ℕ
term_code (chain ls) = chain_code (pack (word_of (take 16 ls)))
term_code (number negative x) = number_code (held_number (sum_of (number_value negative x)))

-- and what 9 to 12 ask of it
unfoldable pub parts_of : Sizes → Term → TermParts
parts_of s x = record {
  code = term_code x;
  named = term_named s x;
  kinded = term_kinded x;
  reference = is_reference_term x;
  short = term_short x;
  ranged = term_in_range x;
}
