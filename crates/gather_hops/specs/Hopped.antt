-- The places of a plan line, one hop on.
use Rattle.std.specs.Prelude.{None, Some}
use Rattle.std.specs.Prelude.{◌≡◌, true, List, ℕ, ◌+◌, ◌<◌, ℤ, pos, nat_abs, get_or}
use Rattle.std.specs.Int.{w32}
use Rattle.std.proofs.Common.{SFits}
use Rattle.register.specs.File.{cell_index}
use Rattle.register.specs.declared.Sizes.{Sizes}
use Rattle.register.specs.declared.cells.Cell.{Cell}
use Rattle.register.specs.declared.cells.Cell.TheVariants.{Missing as Unfilled}
use Rattle.chain.specs.Reading.{Reading}
use Rattle.chain.specs.Word.{read_of, hop, refers_to}
use Rattle.scratch.specs.Places.{place_at, StoredFrom}

-- what is read in column k of the record that a reading names; where nothing is read, nothing is read behind it
unfoldable pub referred : Sizes → List Cell → ℕ → Reading → Reading
referred s cells k None = None
referred s cells k (Some z) = read_of (get_or cells (cell_index s (nat_abs z) k) Unfilled)

-- the places of a line, from `first` on, name records, in values of 32 bits
pub record Referring (s : Sizes) (first : ℕ) (values : List ℤ) (marks : List ℕ) : Type 0 where
  pub fits : (u : ℕ) → u < s.records → SFits w32 (get_or values (first + u) (pos 0))
  pub refers : (u : ℕ) → u < s.records → refers_to s.records (place_at values marks (first + u)) ≡ true

-- the first n places from `first` on are one hop on, by field f
abbrev pub Hopped : Sizes → List Cell → ℕ → ℕ → ℕ → List ℤ → List ℕ → List ℤ → List ℕ → Type 0
Hopped s cells f first n values marks values' marks' = StoredFrom first n (λ u. hop s cells (place_at values marks (first + u)) f) values marks values' marks'
