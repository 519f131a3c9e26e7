-- What the places of Read lines hold once they are filled.
use Rattle.std.specs.Prelude.{◌≡◌, Bool, true, false, List, ℕ, ◌+◌, ◌*◌, ◌≤◌, ◌<◌, ℤ, pos, length, get_or}
use Rattle.std.specs.Int.{w32}
use Rattle.std.proofs.Common.{SFits}
use Rattle.register.specs.declared.Sizes.{Sizes}
use Rattle.register.specs.declared.cells.Cell.{Cell}
use Rattle.chain.specs.Word.{readable, value_at_record}
use Rattle.plan_theory.specs.Plan.{Fact, read, line}
use Rattle.plan_lines.specs.Held.{facts}
use Rattle.plan_lines.specs.declared.Plan.{Plan}
use Rattle.scratch.specs.Places.{place_at, Kept}

-- every Read line can be followed, and has two or more hops
pub record FollowLines (s : Sizes) (l : List Fact) : Type 0 where
  pub each : (i : ℕ) (w : List ℕ) → i < length l → line l i ≡ read w → readable s w ≡ true
  pub two : (i : ℕ) (w : List ℕ) → i < length l → line l i ≡ read w → 2 ≤ length w

-- 64 places for keys and as many that tell which lines are wanted, Read lines that can be followed, and room for their places
pub record FollowReady (s : Sizes) (p : Plan) (wanted : List Bool) (values : List ℤ) (marks : List ℕ) : Type 0 where
  pub keys_length : length p.keys ≡ 64
  pub count≤ : p.count ≤ 64
  pub wanted_length : length wanted ≡ 64
  pub follow : FollowLines s (facts p)
  pub values_room : p.count * s.records ≤ length values
  pub marks_room : p.count * s.records ≤ length marks

-- the place of line i and record u holds the reading of w there, a value of 32 bits
pub record ReadAt (s : Sizes) (cells : List Cell) (w : List ℕ) (i u : ℕ) (values : List ℤ) (marks : List ℕ) : Type 0 where
  pub place_is : place_at values marks (i * s.records + u) ≡ value_at_record s cells w u
  pub fits : SFits w32 (get_or values (i * s.records + u) (pos 0))

-- those of the first k lines that are wanted are filled
pub record Filled (s : Sizes) (cells : List Cell) (l : List Fact) (wanted : List Bool) (k : ℕ)
    (values : List ℤ) (marks : List ℕ) (values' : List ℤ) (marks' : List ℕ) : Type 0 where
  pub values_length : length values' ≡ length values
  pub marks_length : length marks' ≡ length marks
  pub reads : (i u : ℕ) (w : List ℕ) → i < k → u < s.records → get_or wanted i false ≡ true → line l i ≡ read w → ReadAt s cells w i u values' marks'
  pub behind : (j : ℕ) → k * s.records ≤ j → Kept j values marks values' marks'
