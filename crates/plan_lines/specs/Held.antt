-- What a plan of the code holds: the facts of its lines, their rounds, and which lines their needs are.
use Rattle.std.specs.Prelude.{◌≡◌, Bool, true, false, ◌||◌, List, map, ℕ, ◌≤◌, ◌<◌, ltb, length, get_or, take, Option, Some, None, cond, Result, is_err}
use Rattle.plan_theory.specs.Plan.{Fact, hops, line_from, back_need, read_need, round, line_index, listed, last_round, line}
use Rattle.plan_theory.specs.Promise.{Next, Ordered}
use Rattle.plan_keys.specs.Keys.{fact_of, NeedsOf}
use Rattle.plan_lines.specs.declared.Plan.{Plan}
use Rattle.plan_lines.specs.declared.Line.{Line}
use Rattle.plan_lines.specs.declared.Full.{Full}
use Rattle.plan_keys.specs.declared.key.Needs.{Needs}

-- the facts of the first n keys
unfoldable pub facts_in : List ℕ → ℕ → List Fact
facts_in keys n = map fact_of (take n keys)

-- the facts of a plan's lines
abbrev pub facts : Plan → List Fact
facts p = facts_in p.keys p.count

-- line i of a plan, counted from 0
abbrev pub line_at : Plan → ℕ → Line
line_at p i = record { key = get_or p.keys i 0; round = get_or p.rounds i 0; back = get_or p.backs i 0; read = get_or p.reads i 0 }

-- the line of Back of one hop, which needs no line
abbrev pub first_line : ℕ → Line
first_line k = record { key = k; round = 1; back = 64; read = 64 }

-- whether f adds no line to l: it has none, or is listed
unfoldable pub settled : List Fact → Fact → Bool
settled l f = ltb (hops f) (line_from f) || listed l f

-- the line of l that brings f about, counted from 0
unfoldable pub place : List Fact → Fact → Option ℕ
place l f = cond (listed l f) (Some (line_index l f)) None

-- the same as a number, 64 where no line does
unfoldable pub index : List Fact → Fact → ℕ
index l f = elim (listed l f) [ true ↦ line_index l f | false ↦ 64 ]

-- the line of l that f has for its need g; 64 where f needs no line
unfoldable pub need_index : List Fact → Fact → Fact → ℕ
need_index l f g = elim (ltb (hops f) 2) [ true ↦ 64 | false ↦ index l g ]

-- 64 places for keys, of which n are taken
pub record Keyed (keys : List ℕ) (n : ℕ) : Type 0 where
  pub places : length keys ≡ 64
  pub taken≤ : n ≤ 64

-- xs has 64 places, and holds g of each line of l
pub record LineColumn (xs : List ℕ) (l : List Fact) (g : Fact → ℕ) : Type 0 where
  pub places : length xs ≡ 64
  pub entry : (i : ℕ) → i < length l → get_or xs i 0 ≡ g (line l i)

-- r is the last round of any n lines with these rounds
pub record LastOf (rounds : List ℕ) (n r : ℕ) : Type 0 where
  pub last-is : (l : List Fact) → length l ≡ n → LineColumn rounds l round → r ≡ last_round l

-- the plan p holds the lines l
pub record HoldsLines (p : Plan) (l : List Fact) : Type 0 where
  pub facts_are : facts p ≡ l
  pub keyed : Keyed p.keys p.count
  -- each stands after its needs and only once
  pub ordered : Ordered l
  pub rounds_are : LineColumn p.rounds l round
  pub backs_are : LineColumn p.backs l (λ f. need_index l f (back_need f))
  pub reads_are : LineColumn p.reads l (λ f. need_index l f (read_need f))

-- x may stand as the next line behind l, with its round and the lines of its needs
pub record LineOf (l : List Fact) (x : Line) : Type 0 where
  pub next : Next l (fact_of x.key)
  pub round_is : x.round ≡ round (fact_of x.key)
  pub back_is : x.back ≡ need_index l (fact_of x.key) (back_need (fact_of x.key))
  pub read_is : x.read ≡ need_index l (fact_of x.key) (read_need (fact_of x.key))

-- the fact of key k, of 2 to 16 hops, may stand as the next line behind l, and its needs have these keys
pub record NeedsReady (l : List Fact) (k : ℕ) (needs : Needs) : Type 0 where
  pub next : Next l (fact_of k)
  pub needs_are : NeedsOf (fact_of k) needs
  pub two : 2 ≤ hops (fact_of k)
  pub short : hops (fact_of k) ≤ 16

-- a plan with lines added, or that a 65th line would be needed
pub record Added : Type 0 where
  pub plan : Plan
  pub full : Bool

-- the answer for the lines l: full where they are more than 64, otherwise a plan that holds them
pub record Extended (l : List Fact) (r : Added) : Type 0 where
  pub full_is : r.full ≡ ltb 64 (length l)
  pub holds : length l ≤ 64 → HoldsLines r.plan l

-- the same answer as a plan and the refusal of a 65th line
abbrev pub ExtendedTo : List Fact → Plan → Result Unit Full → Type 0
ExtendedTo l p r = Extended l (record { plan = p; full = is_err r })
