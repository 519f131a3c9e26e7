-- What a writer finds and writes, by what the lines of its needs hold. A line is given by the lines of its two needs, 64 where it needs none, and where
-- it needs no Read line by the field of the one hop that its writer has to know.
use Rattle.std.specs.Prelude.{None, Some}
use Rattle.std.specs.Prelude.{◌≡◌, true, cond, List, ◌≢◌, ℕ, ◌+◌, ◌*◌, ◌≤◌, ◌<◌, eqb, ℤ, pos, nat_abs, length, get_or}
use Rattle.std.specs.Int.{w32}
use Rattle.std.proofs.Common.{SFits}
use Rattle.register.specs.declared.Sizes.{Sizes}
use Rattle.register.specs.declared.cells.Cell.{Cell}
use Rattle.chain.specs.Reading.{Reading}
use Rattle.chain.specs.Word.{has_field, read_cell, refers_to, reading_value}
use Rattle.machine_messages.specs.Counts.{line_messages}
use Rattle.scratch.specs.Places.{place_at, reading_mark, Kept}

-- what lines hold, line by line and origin by origin
abbrev pub ByLine : Type 0
ByLine = ℕ → ℕ → Reading

-- what they hold in the places of the scratch buffers: "Line i, from 0, and origin u have place i × n + u"
abbrev pub places_of : Sizes → List ℤ → List ℕ → ByLine
places_of s values marks i u = place_at values marks (i * s.records + u)

-- the writer for origin u: u, or the addressee of the message of line `back`
unfoldable pub writer_at : ByLine → ℕ → ℕ → Reading
writer_at held back u = cond (eqb back 64) (Some (pos u)) (held back u)

module _ (s : Sizes) (cells : List Cell) (held : ByLine) where
  -- what record v knows: its own cell, or what the message of line `read` told it
  unfoldable pub known_at : ℕ → ℕ → ℕ → Reading
  known_at read field v = cond (eqb read 64) (read_cell s cells v field) (held read v)

  -- what a writer writes; where there is none, nothing
  unfoldable pub written_at : ℕ → ℕ → Reading → Reading
  written_at read field None = None
  written_at read field (Some v) = known_at read field (nat_abs v)

  -- the message for origin u
  unfoldable pub message_at : ℕ → ℕ → ℕ → ℕ → Reading
  message_at back read field u = written_at read field (writer_at held back u)

-- a need's line, where there is one, stands before line i
abbrev pub Before : ℕ → ℕ → Type 0
Before j i = j ≢ 64 → j < i

-- line j has its places, which hold values of 32 bits
pub record LineHeld (s : Sizes) (values : List ℤ) (marks : List ℕ) (j : ℕ) : Type 0 where
  pub values_room : j * s.records + s.records ≤ length values
  pub marks_room : j * s.records + s.records ≤ length marks
  pub fits : (u : ℕ) → u < s.records → SFits w32 (get_or values (j * s.records + u) (pos 0))

-- what a writer has to know can be looked up: the register has the field, or the line has its places
pub record ReadHeld (s : Sizes) (values : List ℤ) (marks : List ℕ) (read field : ℕ) : Type 0 where
  pub own : read ≡ 64 → has_field s field ≡ true
  pub line : read ≢ 64 → LineHeld s values marks read

-- and so can the writer, who is a record
pub record BackHeld (s : Sizes) (values : List ℤ) (marks : List ℕ) (back : ℕ) : Type 0 where
  pub line : back ≢ 64 → LineHeld s values marks back
  pub refers : back ≢ 64 → (u : ℕ) → u < s.records → refers_to s.records (places_of s values marks back u) ≡ true

-- line i has its places, and what its messages are made of can be looked up in lines before it
pub record LineReady (s : Sizes) (values : List ℤ) (marks : List ℕ) (i back read field : ℕ) : Type 0 where
  pub values_room : i * s.records + s.records ≤ length values
  pub marks_room : i * s.records + s.records ≤ length marks
  pub back-held : BackHeld s values marks back
  pub read_held : ReadHeld s values marks read field
  pub back_before : Before back i
  pub read_before : Before read i

-- place j holds the reading x, a value of 32 bits; where x is missing "value 0 and mark 0"
pub record Stored (x : Reading) (j : ℕ) (values : List ℤ) (marks : List ℕ) : Type 0 where
  pub value-is : get_or values j (pos 0) ≡ reading_value x
  pub mark_is : get_or marks j 0 ≡ reading_mark x
  pub fits : SFits w32 (reading_value x)

-- The places of line i hold its messages for the first k origins, m in number, and no other place has changed.
pub record LineSent (s : Sizes) (message : ℕ → Reading) (i k : ℕ) (values : List ℤ) (marks : List ℕ) (values' : List ℤ) (marks' : List ℕ) (m : ℕ) : Type 0 where
  pub values_length : length values' ≡ length values
  pub marks_length : length marks' ≡ length marks
  pub sent : (u : ℕ) → u < k → Stored (message u) (i * s.records + u) values' marks'
  pub before : (j : ℕ) → j < i * s.records → Kept j values marks values' marks'
  pub behind : (j : ℕ) → i * s.records + s.records ≤ j → Kept j values marks values' marks'
  pub messages : m ≡ line_messages message k
