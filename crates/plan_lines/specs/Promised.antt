-- What a plan of the code promises about its lines and rounds: all that the crates above rely on.
use Rattle.std.specs.Prelude.{◌≡◌, ℕ, ◌≤◌, ◌<◌, length}
use mathlib.Core.List.{List, Memᴰ}
use Rattle.plan_theory.specs.Plan.{Fact, read, hops, line_from, back_need, read_need, round, last_round}
use Rattle.plan_theory.specs.Promise.{Wanted, longest}
use Rattle.plan_keys.specs.Keys.{fact_of}
use Rattle.plan_lines.specs.Held.{facts, line_at}
use Rattle.plan_lines.specs.declared.Plan.{Plan}

-- the fact of line i
abbrev pub fact_at : Plan → ℕ → Fact
fact_at p i = fact_of (line_at p i).key

-- line j brings g about, before line i and in an earlier round
pub record Serves (p : Plan) (i j : ℕ) (g : Fact) : Type 0 where
  pub brings : fact_at p j ≡ g
  pub before : j < i
  pub earlier : (line_at p j).round < (line_at p i).round

-- what a plan promises of its line i
pub record LinePromise (p : Plan) (i : ℕ) : Type 0 where
  -- it is no Read of at most one hop
  pub has_line : line_from (fact_at p i) ≤ hops (fact_at p i)
  pub round_is : (line_at p i).round ≡ round (fact_at p i)
  -- its needs, 64 where it needs no line
  pub back_line : 2 ≤ hops (fact_at p i) → Serves p i (line_at p i).back (back_need (fact_at p i))
  pub read_line : 2 ≤ hops (read_need (fact_at p i)) → Serves p i (line_at p i).read (read_need (fact_at p i))
  pub no_back_line : hops (fact_at p i) < 2 → (line_at p i).back ≡ 64
  pub no_read_line : hops (read_need (fact_at p i)) < 2 → (line_at p i).read ≡ 64

-- f has a line
pub record HasLine (p : Plan) (f : Fact) : Type 0 where
  pub index : ℕ
  pub index< : index < p.count
  pub fact_is : fact_at p index ≡ f

-- some line has round t
pub record HasRound (p : Plan) (t : ℕ) : Type 0 where
  pub index : ℕ
  pub index< : index < p.count
  pub round_is : (line_at p index).round ≡ t

-- p is the plan of the readings ws
pub record Promised (ws : List (List ℕ)) (p : Plan) : Type 0 where
  pub count≤ : p.count ≤ 64
  pub each : (i : ℕ) → i < p.count → LinePromise p i
  -- no fact has two lines
  pub once : (i j : ℕ) → i < p.count → j < p.count → fact_at p i ≡ fact_at p j → i ≡ j
  -- every reading of two or more hops has its Read line
  pub has_reading : {w : List ℕ} → Memᴰ w ws → 2 ≤ length w → HasLine p (read w)
  -- no line is there but for a reading, and none has more hops than the longest reading
  pub wanted : (i : ℕ) → i < p.count → Wanted ws (fact_at p i)
  pub short : (i : ℕ) → i < p.count → hops (fact_at p i) ≤ longest ws
  -- rounds run from 1 to the last without a gap
  pub from_one : (i : ℕ) → i < p.count → 1 ≤ (line_at p i).round
  pub to_last : (i : ℕ) → i < p.count → (line_at p i).round ≤ last_round (facts p)
  pub no_gap : (t : ℕ) → 1 ≤ t → t ≤ last_round (facts p) → HasRound p t
