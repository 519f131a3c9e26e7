-- What the exchanges take of a plan: lines that can be made from lines before them, whatever their words say; and the plans that
-- have such lines, by the plan crate's promise about lines and rounds.
use Rattle.std.specs.Prelude.{◌≡◌, Bool, true, List, ◌≢◌, ℕ, ◌*◌, ◌≤◌, ◌<◌, ℤ, length, get_or}
use Rattle.register.specs.declared.Sizes.{Sizes}
use Rattle.laws.specs.Lists.{Each}
use Rattle.chain.specs.Word.{has_field, Passes}
use Rattle.plan_theory.specs.Plan.{Fact, hops, line_from}
use Rattle.plan_lines.specs.Held.{line_at}
use Rattle.plan_lines.specs.Promised.{fact_at, Promised}
use Rattle.plan_lines.specs.declared.Plan.{Plan}
use Rattle.machine_messages.specs.Held.{needed}

-- the first field of the word that a fact's writer has to know: all of it where it has one hop
unfoldable pub field_of : Fact → ℕ
field_of f = get_or (needed f) 0 0

-- line i may ask line j, which stands before it and has an earlier round
pub record Asks (p : Plan) (i j : ℕ) : Type 0 where
  pub before : j < i
  pub earlier : (line_at p j).round < (line_at p i).round

-- Line i can be made from lines before it and the writers' own cells. `leads` tells the lines whose messages are records.
pub record LineStands (s : Sizes) (p : Plan) (leads : ℕ → Bool) (i : ℕ) : Type 0 where
  pub has_line : line_from (fact_at p i) ≤ hops (fact_at p i)
  pub short : hops (fact_at p i) ≤ 16
  pub from_one : 1 ≤ (line_at p i).round
  -- who writes: for 64 the origin, otherwise the addressee of another line
  pub back_line : (line_at p i).back ≢ 64 → Asks p i (line_at p i).back
  pub back_leads : (line_at p i).back ≢ 64 → leads (line_at p i).back ≡ true
  -- what it has to know: for 64 its own cell, otherwise what another line tells it
  pub read_line : (line_at p i).read ≢ 64 → Asks p i (line_at p i).read
  pub own_field : (line_at p i).read ≡ 64 → has_field s (field_of (fact_at p i)) ≡ true
  pub own_leads : leads i ≡ true → (line_at p i).read ≡ 64 → field_of (fact_at p i) < s.references
  pub read_leads : leads i ≡ true → (line_at p i).read ≢ 64 → leads (line_at p i).read ≡ true

pub record LinesReady (s : Sizes) (p : Plan) : Type 0 where
  pub count≤ : p.count ≤ 64
  pub leads : ℕ → Bool
  pub each : (i : ℕ) → i < p.count → LineStands s p leads i

-- such lines, and room for their places
pub record PlanReady (s : Sizes) (p : Plan) (values : List ℤ) (marks : List ℕ) : Type 0 where
  pub lines : LinesReady s p
  pub values_room : p.count * s.records ≤ length values
  pub marks_room : p.count * s.records ≤ length marks

-- a plan that keeps its promise for readings that pass, in arrays of 64
pub record StepPlanned (s : Sizes) (p : Plan) : Type 0 where
  pub readings : List (List ℕ)
  pub passes : Each (Passes s) readings
  pub promised : Promised readings p
  pub keys_length : length p.keys ≡ 64
  pub rounds_length : length p.rounds ≡ 64
