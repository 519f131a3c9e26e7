-- An outcome as the numbers of the C interface: the refusal number as the result, 0 for none, and the eight places of the
-- answer array, unused ones 0.
use Rattle.std.specs.Prelude.{ℕ, ◌≡◌, cond, List, [], ◌∷◌, eqb, ℤ, length}
use Rattle.laws.specs.Outcome.{Outcome, done, refused}
use Rattle.program.specs.Program.{Program, most_lines}
use Rattle.api_read.specs.declared.reading.ReadNumbers.{ReadNumbers}

-- the value that is lent, which was z: on a refusal "Nothing lent is written"
unfoldable pub value_behind : ReadNumbers → ℤ → ℤ
value_behind n z = cond (eqb n.number 0) n.value z

-- what `plot_read` answers: its result, its value, which was z, and its answer array
pub record ReadAnswer (n : ReadNumbers) (z : ℤ) (result : ℕ) (value : ℤ) (answer : List ℕ) : Type 0 where
  pub result_is : result ≡ n.number
  pub value-is : value ≡ value_behind n z
  pub answer_is : answer ≡ n.line ∷ 0 ∷ 0 ∷ 0 ∷ 0 ∷ 0 ∷ n.filled ∷ 0 ∷ []

-- a check: the number of steps and the most plan lines of any of them, 0 where it is refused
pub record CheckNumbers : Type 0 where
  pub number : ℕ
  pub line : ℕ
  pub steps : ℕ
  pub lines : ℕ

unfoldable pub check_numbers : Outcome Program → CheckNumbers
check_numbers (done p) = record { number = 0; line = 0; steps = length p; lines = most_lines p }
check_numbers (refused k l) = record { number = k; line = l; steps = 0; lines = 0 }

-- what `plot_check` answers: its result and its answer array
pub record CheckAnswer (n : CheckNumbers) (result : ℕ) (answer : List ℕ) : Type 0 where
  pub result_is : result ≡ n.number
  pub answer_is : answer ≡ n.line ∷ 0 ∷ 0 ∷ 0 ∷ 0 ∷ 0 ∷ n.steps ∷ n.lines ∷ []
