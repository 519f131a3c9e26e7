-- A chain as its hop word: the fields from the inside out. Fields 0 to 7 are the references A to H, 8 to 15 the measures
-- M to T. A word packed into one number is how programs and plans hold a chain.
use Rattle.std.specs.Prelude.{None, Some}
use Rattle.std.specs.Prelude.{ℕ, zero, suc, ◌+◌, ◌-◌, ◌*◌, ◌/◌, ◌%◌, ◌≤◌, ◌<◌, ◌≡◌, Bool, true, cond, ◌&&◌, ◌||◌, List, [], ◌∷◌, leb, ltb, eqb, ℤ, pos, nat_abs, length, get_or, drop}
use Rattle.integers.specs.Range.{is_index}
use Rattle.register.specs.File.{cell_index}
use Rattle.register.specs.declared.Sizes.{Sizes}
use Rattle.register.specs.declared.cells.Cell.{Cell}
use Rattle.register.specs.declared.cells.Cell.TheVariants.{Missing as Unfilled, Measured, WorkedOut}
use Rattle.chain.specs.Reading.{Reading}

-- whether a field is one of the references A to H
unfoldable pub is_reference : ℕ → Bool
is_reference f = ltb f 8

-- whether a register of these sizes has the field
unfoldable pub has_field : Sizes → ℕ → Bool
has_field s f = ltb f s.references || (leb 8 f && ltb f (8 + s.measures))

-- a word that can be followed: every field is one of the register's, and all but the outermost are references
unfoldable pub readable : Sizes → List ℕ → Bool
readable s [] = true
readable s (f ∷ []) = has_field s f
readable s (f ∷ g ∷ w) = ltb f s.references && readable s (g ∷ w)

-- a word that can be followed, of at most 16 hops
pub record Passes (s : Sizes) (w : List ℕ) : Type 0 where
  pub follows : readable s w ≡ true
  pub short : length w ≤ 16

-- the column of a field: "reference fields first"
unfoldable pub column : Sizes → ℕ → ℕ
column s f = cond (is_reference f) f (s.references + (f - 8))

-- the field of a column
unfoldable pub field_at : Sizes → ℕ → ℕ
field_at s c = cond (ltb c s.references) c (8 + (c - s.references))

-- what is read of a stored cell: nothing of an unfilled one, and of a filled one its value, measured or worked out
unfoldable pub read_of : Cell → Reading
read_of Unfilled = None
read_of (Measured z) = Some z
read_of (WorkedOut z) = Some z

-- the cell of record u and field f
abbrev pub field_cell : Sizes → List Cell → ℕ → ℕ → Cell
field_cell s cells u f = get_or cells (cell_index s u (column s f)) Unfilled

-- what is read of it
unfoldable pub read_cell : Sizes → List Cell → ℕ → ℕ → Reading
read_cell s cells u f = read_of (field_cell s cells u f)

-- one hop: on from the record that a reading refers to; where nothing is read, nothing is read behind it
unfoldable pub hop : Sizes → List Cell → Reading → ℕ → Reading
hop s cells None f = None
hop s cells (Some z) f = read_cell s cells (nat_abs z) f

-- "Its value at a record is found by following hop by hop"
unfoldable pub follow : Sizes → List Cell → Reading → List ℕ → Reading
follow s cells x [] = x
follow s cells x (f ∷ w) = follow s cells (hop s cells x f) w

-- the value of a chain at record u: at `u` alone the record's own number
unfoldable pub value_at_record : Sizes → List Cell → List ℕ → ℕ → Reading
value_at_record s cells w u = follow s cells (Some (pos u)) w

-- whether a reading leads to one of n records
unfoldable pub refers_to : ℕ → Reading → Bool
refers_to n None = true
refers_to n (Some z) = is_index n z

-- the value that is read, 0 where none is
unfoldable pub reading_value : Reading → ℤ
reading_value None = pos 0
reading_value (Some z) = z

-- one more hop in front of a packed word
unfoldable pub push : ℕ → ℕ → ℕ
push n f = cond (eqb n 0) (f + 1) (f + 8 * n + 9)

-- a word packed into one number
unfoldable pub pack : List ℕ → ℕ
pack [] = 0
pack (f ∷ w) = push (pack w) f

-- the word of a packed number; the first argument is at least as large as the word is long
unfoldable pub unpack_within : ℕ → ℕ → List ℕ
unpack_within zero n = []
unpack_within (suc k) n =
    cond (eqb n 0) []
    (cond (leb n 16) ((n - 1) ∷ [])
    (((n - 9) % 8) ∷ unpack_within k ((n - 9) / 8)))

-- the word of a packed number
unfoldable pub unpack : ℕ → List ℕ
unpack n = unpack_within n n

-- f is the innermost hop of a word, the first of it
pub record FirstHop (f : ℕ) (w : List ℕ) : Type 0 where
  pub splits : w ≡ f ∷ drop 1 w
  pub below : f < 16
