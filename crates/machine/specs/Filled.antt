-- Cells that are filled, and stay so: "a rule that reads nothing must not erase a depth somebody measured".
use Rattle.std.specs.Prelude.{◌≡◌, true, List, ℕ, get_or}
use Rattle.register.specs.declared.cells.Cell.{Cell}
use Rattle.register.specs.declared.cells.Cell.TheVariants.{Missing}
use Rattle.chain.specs.Word.{read_of}
use Rattle.chain.specs.Way.{is_filled}

-- each cell that is filled in the first is filled in the second
abbrev pub StayFilled : List Cell → List Cell → Type 0
StayFilled before after =
    (j : ℕ) → is_filled (read_of (get_or before j Missing)) ≡ true → is_filled (read_of (get_or after j Missing)) ≡ true
