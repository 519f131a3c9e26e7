-- The lines that are printed: a register's listing, a refusal, and what a file that is too large gives.
use Rattle.std.specs.Prelude.{ℕ, zero, suc, List, [], ◌++◌, get_or}
use Prim.Native.String.{String}
use Rattle.register.specs.File.{width, cell_index}
use Rattle.register.specs.declared.Sizes.{Sizes}
use Rattle.register.specs.declared.cells.Cell.{Cell}
use Rattle.register.specs.declared.cells.Cell.TheVariants.{Missing}
use Rattle.laws.specs.Bytes.{bytes}
use Rattle.print_page.specs.Decimal.{decimal_text, cell_text}

-- a number and what stands behind it
abbrev pub counted : ℕ → String → List ℕ
counted n name = decimal_text n ++ bytes name

-- "Header: records, finished steps, exchanges, letters."
unfoldable pub header : ℕ → ℕ → ℕ → ℕ → List ℕ
header records finished exchanges letters =
    counted records " records " ++ counted finished " steps " ++ counted exchanges " exchanges " ++ counted letters " letters\n"

-- f 0, f 1, .., f (n − 1), one behind the other
unfoldable pub in_a_row : ℕ → (ℕ → List ℕ) → List ℕ
in_a_row zero f = []
in_a_row (suc n) f = in_a_row n f ++ f n

-- field f of record u, behind a space
unfoldable pub field_text : Sizes → List Cell → ℕ → ℕ → List ℕ
field_text s cells u f = bytes " " ++ cell_text (get_or cells (cell_index s u f) Missing)

-- "Then record number, its fields in order"
unfoldable pub record_line : Sizes → List Cell → ℕ → List ℕ
record_line s cells u = decimal_text u ++ in_a_row (width s) (field_text s cells u) ++ bytes "\n"

-- the header, and a line for each record
unfoldable pub listing : Sizes → List Cell → ℕ → ℕ → ℕ → List ℕ
listing s cells finished exchanges letters = header s.records finished exchanges letters ++ in_a_row s.records (record_line s cells)

-- "A refusal prints only `refused N at K`"
unfoldable pub refused_line : ℕ → ℕ → List ℕ
refused_line n k = bytes "refused " ++ counted n " at " ++ counted k "\n"

-- "A register file above 512 bytes prints only `too large`"
unfoldable pub too_large : List ℕ
too_large = bytes "too large\n"
