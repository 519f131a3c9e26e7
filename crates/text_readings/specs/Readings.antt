-- The plan of a step grows by readings, and each of them is located in it.
use Rattle.std.specs.Prelude.{ℕ, ◌≤◌, ◌<◌, ◌≡◌, Bool, true, List, [], ◌∷◌, ◌++◌, ltb, length, get_or, false, Result, is_err, IfOk}
use Rattle.laws.specs.Lists.{Each}
use Rattle.plan_theory.specs.Plan.{Fact, read, line_index, add, plan}
use Rattle.plan_lines.specs.Held.{facts, Extended}
use Rattle.plan_lines.specs.declared.Full.{Full}
use Rattle.plan_lines.specs.declared.Plan.{Plan}
use Rattle.text_readings.specs.declared.Open.{Open}
use Rattle.program.specs.Code.{code_readings, code_at, codes_in, Numbered, IfChain}
use Rattle.program.specs.Location.{WordLocated}
use Rattle.program.specs.declared.location.Location.{Location}
use Rattle.program.specs.declared.location.Location.TheVariants.{Own, Cell, Line}

-- the words of the chains of the codes from..to
abbrev pub code_words : List ℕ → ℕ → ℕ → List (List ℕ)
code_words codes from to = code_readings (codes_in codes from to)

-- each of at most 16 hops
abbrev pub Short : List (List ℕ) → Type 0
Short vs = Each (λ (w : List ℕ). length w ≤ 16) vs

-- where it is full, there is no more use for its lines
abbrev pub NotFull : Open → Type 0
NotFull a = a.full ≡ false

-- the plan that is open holds the lines l, or it is full, and they are more than 64
abbrev pub OpenFor : List Fact → Open → Type 0
OpenFor l a = Extended l (record { plan = a.plan; full = a.full })

-- whether a location names no line, or one of n lines
unfoldable pub is_listed : ℕ → Location → Bool
is_listed n Own = true
is_listed n (Cell f) = true
is_listed n (Line i) = ltb i n

-- a word located among the lines of a plan, which has its line
pub record PlacedIn (p : Plan) (wanted : List Bool) (at : Location) (w : List ℕ) : Type 0 where
  pub located : WordLocated (facts p) wanted at w
  pub listed : is_listed p.count at ≡ true

abbrev pub WordPlaced : Open → Location → List ℕ → Type 0
WordPlaced a = PlacedIn a.plan a.wanted

-- whatever readings a is the plan of, b is the plan of those and vs behind them; a word that is placed stays where it is
pub record Grown (vs : List (List ℕ)) (a b : Open) : Type 0 where
  -- what is full stays so, and no line goes away
  pub kept : NotFull b → NotFull a
  pub more : NotFull b → a.plan.count ≤ b.plan.count
  pub extends : (ws : List (List ℕ)) → OpenFor (plan ws) a → OpenFor (plan (ws ++ vs)) b
  pub stays : NotFull b → (at : Location) (w : List ℕ) → WordPlaced a at w → WordPlaced b at w

-- the line of the reading w in a plan p that has become q, where there is room for it
pub record LineAdded (w : List ℕ) (p q : Plan) (r : Result ℕ Full) : Type 0 where
  pub extended : Extended (add (facts p) (read w)) (record { plan = q; full = is_err r })
  pub line_is : IfOk r (λ i. i ≡ line_index (facts q) (read w))

-- one reading more, which is found at a location
pub record ReadingAdded (w : List ℕ) (a b : Open) (at : Location) : Type 0 where
  pub grown : Grown (w ∷ []) a b
  pub found : NotFull b → WordPlaced b at w
  pub numbered : Numbered at

-- the readings vs more, of chains in codes among others: Found tells where they are found. The codes are the same, a chain that
-- was placed stays so, and nothing is changed before these codes, which stand where From says.
pub record Walked (vs : List (List ℕ)) (From : ℕ → Type 0) (Found : Open → List ℕ → Type 0) (a : Open) (codes : List ℕ) (b : Open) (codes' : List ℕ)
    : Type 0 where
  pub grown : Grown vs a b
  pub same : (i : ℕ) → code_at codes i ≡ code_at codes' i
  pub sized : length codes' ≡ length codes
  pub keeps : NotFull b → (i : ℕ) → IfChain (WordPlaced a) (get_or codes i 0) → IfChain (WordPlaced b) (get_or codes' i 0)
  pub below : (n : ℕ) → From n → (i : ℕ) → i < n → get_or codes' i 0 ≡ get_or codes i 0
  pub found : NotFull b → Found b codes'
