-- How an array of numbers keeps expressions: a code for each operand and operator, in postfix order.
use Rattle.std.specs.Prelude.{ℕ, zero, suc, ◌+◌, ◌-◌, ◌*◌, ◌/◌, ◌%◌, ◌≤◌, ◌<◌, ◌≡◌, cond, List, [], ◌∷◌, ◌++◌, ℤ, pos, eqb, ltb, get_or}
use Rattle.std.specs.Int.{w32}
use Rattle.std.proofs.Common.{to_z, of_z}
use Rattle.chain.specs.Word.{unpack}
use Rattle.program.specs.declared.rule.Operator.{Operator}
use Rattle.program.specs.declared.rule.Operator.TheVariants.{Plus, Minus, Smaller}
use Rattle.program.specs.declared.location.Location.{Location}
use Rattle.program.specs.declared.location.Location.TheVariants.{Own, Cell, Line}
use Rattle.program.specs.Program.{Expression, reading, constant, operation}

-- a chain by its hop word, a number, or `+`, `-`, `<?`; what is none of these is unknown, and no expression has it
pub data Code : Type 0 where
  chain : List ℕ → Code
  number : ℤ → Code
  operator : Operator → Code
  unknown : Code

-- the codes of an expression: both operands, then their operator
unfoldable pub postfix : Expression → List Code
postfix (reading w) = chain w ∷ []
postfix (constant z) = number z ∷ []
postfix (operation op x y) = postfix x ++ (postfix y ++ (operator op ∷ []))

-- an operator takes the last two of the expressions before it, the last one first in the list
unfoldable pub applied : Operator → List Expression → List Expression
applied op [] = []
applied op (y ∷ []) = []
applied op (y ∷ x ∷ xs) = operation op x y ∷ xs

unfoldable pub pushed : Code → List Expression → List Expression
pushed (chain w) xs = reading w ∷ xs
pushed (number z) xs = constant z ∷ xs
pushed (operator op) xs = applied op xs
pushed unknown xs = []

-- the expressions that codes leave behind others
unfoldable pub stacked : List Code → List Expression → List Expression
stacked [] xs = xs
stacked (c ∷ cs) xs = stacked cs (pushed c xs)

-- the last of them, or 0 where there is none
unfoldable pub last_of : List Expression → Expression
last_of [] = constant (pos 0)
last_of (x ∷ xs) = x

-- the expression that codes are those of
unfoldable pub decoded : List Code → Expression
decoded cs = last_of (stacked cs [])

-- codes that are those of an expression
abbrev pub Formed : List Code → Type 0
Formed cs = cs ≡ postfix (decoded cs)

-- the words of codes from left to right
unfoldable pub code_readings : List Code → List (List ℕ)
code_readings [] = []
code_readings (chain w ∷ cs) = w ∷ code_readings cs
code_readings (number z ∷ cs) = code_readings cs
code_readings (operator op ∷ cs) = code_readings cs
code_readings (unknown ∷ cs) = code_readings cs

-- a location as a number: 0 the own number, 1 + f the own cell of field f, 17 + i line i
unfoldable pub location_at : ℕ → Location
location_at n = cond (eqb n 0) Own (cond (ltb n 17) (Cell (n - 1)) (Line (n - 17)))

unfoldable pub location_number : Location → ℕ
location_number Own = 0
location_number (Cell f) = f + 1
location_number (Line i) = i + 17

-- a location that its number tells, a byte: fields are below 16, lines at most 64
abbrev pub Numbered : Location → Type 0
Numbered Own = Unit {0}
Numbered (Cell f) = f < 16
Numbered (Line i) = i ≤ 64

-- A code as one number: its kind below 8; above it the bits of a number, or where a chain is found and, from 2048 on, the chain packed.
unfoldable pub kind_in : ℕ → ℕ
kind_in c = c % 8

unfoldable pub location_in : ℕ → Location
location_in c = location_at (c / 8 % 256)

unfoldable pub chain_in : ℕ → ℕ
chain_in c = c / 2048

unfoldable pub number_in : ℕ → ℤ
number_in c = to_z w32 (c / 8 % 4294967296)

-- kinds: 0 a chain, 1 a number, 2 `+`, 3 `-`, 4 `<?`
unfoldable pub kind_of : Operator → ℕ
kind_of Plus = 2
kind_of Minus = 3
kind_of Smaller = 4

unfoldable pub of_kind : ℕ → Code
of_kind kind = cond (eqb kind 2) (operator Plus) (cond (eqb kind 3) (operator Minus) (cond (eqb kind 4) (operator Smaller) unknown))

unfoldable pub code_of : ℕ → Code
code_of c =
    cond (eqb (kind_in c) 0) (chain (unpack (chain_in c)))
    (cond (eqb (kind_in c) 1) (number (number_in c)) (of_kind (kind_in c)))

-- the code of a packed chain, found at the own number until it is located; and of a number
unfoldable pub chain_code : ℕ → ℕ
chain_code packed = 2048 * packed

unfoldable pub number_code : ℤ → ℕ
number_code z = 8 * of_z w32 z + 1

-- a code whose chain is found at another location
unfoldable pub with_location : ℕ → Location → ℕ
with_location c at = c % 8 + 8 * location_number at + 2048 * (c / 2048)

-- the code at index i of an array
unfoldable pub code_at : List ℕ → ℕ → Code
code_at codes i = code_of (get_or codes i 0)

-- n codes from index i on
unfoldable pub codes_from : List ℕ → ℕ → ℕ → List Code
codes_from codes i zero = []
codes_from codes i (suc n) = code_at codes i ∷ codes_from codes (suc i) n

-- the codes from..to, and the expression that these are those of
abbrev pub codes_in : List ℕ → ℕ → ℕ → List Code
codes_in codes from to = codes_from codes from (to - from)

unfoldable pub tree_in : List ℕ → ℕ → ℕ → Expression
tree_in codes from to = decoded (codes_in codes from to)

-- the same codes below n, and their chains found where they were
abbrev pub SameBelow : List ℕ → List ℕ → ℕ → Type 0
SameBelow codes codes' n = (i : ℕ) → i < n → get_or codes i 0 ≡ get_or codes' i 0

-- P holds of a code that is a chain: of where it is found, and of its word
abbrev pub IfChain : (Location → List ℕ → Type 0) → ℕ → Type 0
IfChain P c = kind_in c ≡ 0 → P (location_in c) (unpack (chain_in c))

-- and of each of the codes from..to
abbrev pub EachChain : (Location → List ℕ → Type 0) → List ℕ → ℕ → ℕ → Type 0
EachChain P codes from to = (i : ℕ) → from ≤ i → i < to → IfChain P (get_or codes i 0)
