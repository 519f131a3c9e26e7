-- A plan's lines as the three arrays of the C interface: 64 kinds, 64 times 16 letters, and 64 rounds.
use Rattle.std.specs.Prelude.{ℕ, ◌+◌, ◌/◌, ◌%◌, ◌<◌, ◌≡◌, Bool, true, false, cond, List, [], map, get_or}
use Rattle.chain.specs.Word.{is_reference}
use Rattle.plan_theory.specs.Plan.{Fact, back, read, word, round}
use Rattle.plan_lines.specs.Held.{facts}
use Rattle.plan_lines.specs.declared.Plan.{Plan}

-- a flag: 1 where it is set
unfoldable pub flag_number : Bool → ℕ
flag_number true = 1
flag_number false = 0

-- the number of a line's kind: 0 Back, 1 Read
unfoldable pub kind_number : Fact → ℕ
kind_number (back w) = 0
kind_number (read w) = 1

-- the letter of a field: A to H for the references 0 to 7, M to T for the measures 8 to 15
unfoldable pub letter_of : ℕ → ℕ
letter_of f = cond (is_reference f) (65 + f) (69 + f)

-- the kind of line i, 0 behind the last line
unfoldable pub kind_at : List (Fact × ℕ) → ℕ → ℕ
kind_at ls i = get_or (map (λ l. kind_number l.0) ls) i 0

-- the letters of line i from the inside out, none behind the last line
unfoldable pub letters_at : List (Fact × ℕ) → ℕ → List ℕ
letters_at ls i = get_or (map (λ l. map letter_of (word l.0)) ls) i []

-- byte k of the letters, 16 to a line, 0 behind a line's last hop
unfoldable pub letter_at : List (Fact × ℕ) → ℕ → ℕ
letter_at ls k = get_or (letters_at ls (k / 16)) (k % 16) 0

-- the round of line i, 0 behind the last line
unfoldable pub round_at : List (Fact × ℕ) → ℕ → ℕ
round_at ls i = get_or (map (λ l. l.1) ls) i 0

-- the first n places of xs hold the values of g; d stands for what is not there
abbrev pub PlacesHold : {A : Type 0} → A → (ℕ → A) → ℕ → List A → Type 0
PlacesHold d g n xs = (i : ℕ) → i < n → get_or xs i d ≡ g i

-- the three arrays of the lines ls
pub record PlanArrays (ls : List (Fact × ℕ)) (kinds chains rounds : List ℕ) : Type 0 where
  pub kinds_are : PlacesHold 0 (kind_at ls) 64 kinds
  pub chains_are : PlacesHold 0 (letter_at ls) 1024 chains
  pub rounds_are : PlacesHold 0 (round_at ls) 64 rounds

-- the lines of a plan of the code, each with its fact and round
abbrev pub plan_lines : Plan → List (Fact × ℕ)
plan_lines p = map (λ f. (f, round f)) (facts p)
