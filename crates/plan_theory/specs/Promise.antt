-- What a plan promises about its lines and rounds: all that the message machine ("the machine by letters") relies on.
use Rattle.std.specs.Prelude.{◌≡◌, ℕ, ◌≤◌, ◌<◌, max, length}
use mathlib.Core.List.{List, [], ◌∷◌, Memᴰ}
use Rattle.plan_theory.specs.Plan.{Fact, read, hops, line_from, back_need, read_need, round, line_index, last_round, line}

-- g is f, or a need of it, or a need of a need, and so on
pub data Needed : Fact → Fact → Type 0 where
  itself : (f : Fact) → Needed f f
  by_back : {f g : Fact} → 2 ≤ hops f → Needed (back_need f) g → Needed f g
  by_read : {f g : Fact} → 2 ≤ hops f → Needed (read_need f) g → Needed f g

-- g is needed for one of the readings ws
pub record Wanted (ws : List (List ℕ)) (g : Fact) : Type 0 where
  pub reading : List ℕ
  pub among : Memᴰ reading ws
  pub needed : Needed (read reading) g

-- f stands as line i of l
pub record Stands (l : List Fact) (i : ℕ) (f : Fact) : Type 0 where
  -- it stands there only
  pub once : line_index l f ≡ i
  -- it is no Read of at most one hop
  pub has_line : line_from f ≤ hops f
  -- its needs stand before it, Read of at most one hop needing no line ..
  pub back_before : 2 ≤ hops f → line_index l (back_need f) < i
  pub read_before : 2 ≤ hops f → 2 ≤ hops (read_need f) → line_index l (read_need f) < i
  -- .. and in earlier rounds
  pub back_earlier : 2 ≤ hops f → round (back_need f) < round f
  pub read_earlier : 2 ≤ hops f → round (read_need f) < round f

-- the lines of l stand where they are
abbrev pub Ordered : List Fact → Type 0
Ordered l = (i : ℕ) → i < length l → Stands l i (line l i)

-- f is among the lines l, if it has a line at all
abbrev pub Had : List Fact → Fact → Type 0
Had l f = line_from f ≤ hops f → line_index l f < length l

-- f may stand as the next line behind l: it has a line, is not listed yet, and its needs are had
pub record Next (l : List Fact) (f : Fact) : Type 0 where
  pub has_line : line_from f ≤ hops f
  pub new : length l ≤ line_index l f
  pub needs : 2 ≤ hops f → Had l (back_need f) × Had l (read_need f)

-- the hops of the longest of the readings ws
unfoldable pub longest : List (List ℕ) → ℕ
longest [] = 0
longest (w ∷ ws) = max (length w) (longest ws)

-- some line of l has round t
pub record InRound (l : List Fact) (t : ℕ) : Type 0 where
  pub index : ℕ
  pub index< : index < length l
  pub round_is : round (line l index) ≡ t

-- l are the lines for the readings ws
pub record Promise (ws : List (List ℕ)) (l : List Fact) : Type 0 where
  -- every line stands after its needs and only once
  pub stands : (i : ℕ) → i < length l → Stands l i (line l i)
  -- every reading of two or more hops has its Read line
  pub has_reading : {w : List ℕ} → Memᴰ w ws → 2 ≤ length w → line_index l (read w) < length l
  -- no line is there but for a reading, and none has more hops than the longest reading
  pub wanted : (i : ℕ) → i < length l → Wanted ws (line l i)
  pub short : (i : ℕ) → i < length l → hops (line l i) ≤ longest ws
  -- rounds run from 1 to the last without a gap
  pub from_one : (i : ℕ) → i < length l → 1 ≤ round (line l i)
  pub to_last : (i : ℕ) → i < length l → round (line l i) ≤ last_round l
  pub no_gap : (t : ℕ) → 1 ≤ t → t ≤ last_round l → InRound l t
