-- The register of the printed run: n 3, r 1, m 1. A: 1, 2, unfilled. M: unfilled, 0, 180.
use Rattle.std.specs.Prelude.{ℕ, List, [], ◌∷◌, pos}
use Rattle.register.specs.File.{file_of}
use Rattle.register.specs.declared.Sizes.{Sizes}
use Rattle.register.specs.declared.cells.Cell.{Cell}
use Rattle.register.specs.declared.cells.Cell.TheVariants.{Missing, Measured}

unfoldable pub printed_sizes : Sizes
printed_sizes = record { records = 3; references = 1; measures = 1 }

unfoldable pub printed_cells : List Cell
printed_cells = Measured (pos 1) ∷ Missing ∷ Measured (pos 2) ∷ Measured (pos 0) ∷ Missing ∷ Measured (pos 180) ∷ []

unfoldable pub printed_file : List ℕ
printed_file = file_of printed_sizes printed_cells
