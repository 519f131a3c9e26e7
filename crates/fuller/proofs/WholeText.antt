-- A fuller register whose depth a whole text alters.
use Prim.Native.Nat.{ℕ, zero, suc}
use mathlib.Core.Path.{refl}
use lib.ListN.{get_or}
use Rattle.register.specs.Cells.{cell_of, cells_of}
use Rattle.register.specs.File.{cells_of_file}
use Rattle.register.specs.declared.cells.Cell.TheVariants.{Missing}
use Rattle.chain.specs.Word.{read_of}
use Rattle.fuller.specs.Fuller.{Retained}
use Rattle.fuller.specs.WholeText.{first_cells, second_cells, cells_behind, WholeTextAlters}

-- what the first reads of each cell
cells_retained : (j : ℕ) → Retained (read_of (get_or first_cells j Missing)) (read_of (get_or second_cells j Missing))
unfolding read_of
cells_retained zero = refl
cells_retained (suc zero) = tt
cells_retained (suc (suc j)) = tt

pub whole-text_alters : WholeTextAlters
unfolding cells_behind cell_of cells_of cells_of_file
whole-text_alters =
    record {
      pair_fuller = record { loads = refl; loads' = refl; cells_fuller = record { retained = cells_retained } };
      first-stays = refl;
      second_altered = refl;
    }
