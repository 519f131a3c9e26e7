-- The codes of an expression in the array, as the readers write them.
use Rattle.std.specs.Prelude.{ℕ, ◌+◌, ◌<◌, ◌≡◌, Option, None, Some, List, [], ◌∷◌, ◌++◌, length}
use Rattle.program.specs.Code.{Code, operator, code_of, codes_in, SameBelow}
use Rattle.text_syntax.specs.Written.{Expression, term, group, operation}
use Rattle.text_codes.specs.Coded.{term_code}

-- the codes of an expression: groups leave no trace
unfoldable pub written_codes : Expression → List Code
written_codes (term x) = code_of (term_code x) ∷ []
written_codes (group e) = written_codes e
written_codes (operation o x y) = written_codes x ++ (written_codes y ++ (operator o ∷ []))

-- a code that is to be written, if there is one
unfoldable pub sign_codes : Option ℕ → List Code
sign_codes None = []
sign_codes (Some c) = code_of c ∷ []

-- codes were written from..to, and those before are as they were
pub record Wrote (a b : List ℕ) (from to : ℕ) (cs : List Code) : Type 0 where
  pub codes_are : codes_in b from to ≡ cs
  pub kept : SameBelow a b from
  pub size : to ≡ from + length cs
  pub same_length : length b ≡ length a

-- there is room for a code for each byte of the line from a place on, and for one more
abbrev pub Roomy : List ℕ → List ℕ → ℕ → ℕ → Type 0
Roomy codes line at count = count + length line < at + length codes
