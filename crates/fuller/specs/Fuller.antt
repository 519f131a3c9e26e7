-- When one register is fuller than another of the same sizes.
use Rattle.std.specs.Prelude.{None, Some}
use Rattle.std.specs.Prelude.{ℕ, ◌≡◌, List, get_or}
use Rattle.laws.specs.Outcome.{done}
use Rattle.register.specs.File.{cells_of_file}
use Rattle.register.specs.Load.{load}
use Rattle.register.specs.declared.Sizes.{Sizes}
use Rattle.register.specs.declared.cells.Cell.{Cell}
use Rattle.register.specs.declared.cells.Cell.TheVariants.{Missing as Unfilled}
use Rattle.chain.specs.Reading.{Reading}
use Rattle.chain.specs.Word.{read_of}

-- a reading that is retained: filled in the first, it "has that value in the second"
abbrev pub Retained : Reading → Reading → Type 0
Retained None y = Unit {0}
Retained (Some z) y = y ≡ Some z

-- "every filled cell of the first is filled with the same value in the second", by what is read of a cell; behind the last
-- cell nothing is
pub record Fuller (cells cells' : List Cell) : Type 0 where
  pub retained : (j : ℕ) → Retained (read_of (get_or cells j Unfilled)) (read_of (get_or cells' j Unfilled))

-- "two registers of equal sizes", as files that load
pub record FullerFile (s : Sizes) (file file' : List ℕ) : Type 0 where
  pub loads : load file ≡ done s
  pub loads' : load file' ≡ done s
  pub cells_fuller : Fuller (cells_of_file s file) (cells_of_file s file')
