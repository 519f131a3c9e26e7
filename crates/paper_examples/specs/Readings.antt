-- (P) Over the printed register `M[u]` at record 0 is unfilled, and at record 1 a filled 0.
use Rattle.std.specs.Prelude.{None, Some}
use Rattle.std.specs.Prelude.{ℕ, ◌≡◌, refl, List, [], ◌∷◌, map, pos}
use Rattle.integers.specs.Bytes.{four_bytes, word_at, word_bytes, value_at, value_bytes}
use Rattle.integers.specs.Range.{eq_z, is_index}
use Rattle.laws.specs.Outcome.{done, unless, after, or_else, first}
use Rattle.register.specs.Cells.{value_of, mark_of, cell_of, cells_of, values_of, marks_of}
use Rattle.register.specs.File.{width, cell_count, cell_index, sizes_of, values_part, marks_part, cells_of_file, file_of}
use Rattle.register.specs.Load.{within_limits, cell_refusal, refusal_at, record_refusal, cells_refusal, load_sized, load}
use Rattle.chain.specs.Word.{is_reference, column, read_of, read_cell, hop, follow, value_at_record}
use Rattle.chain_text.specs.Text.{is_capital, closed, form, letter_field, is_reference_letter, names, inner_references, letters_refusal, word_of}
use Rattle.laws.specs.Lists.{every}
use Rattle.op_read.specs.Reading.{word_of_form, at_record, reading_loaded, reading}
use Rattle.paper_examples.specs.Printed.{printed_sizes, printed_cells, printed_file}

-- the bytes of `M[u]`
unfoldable pub depth : List ℕ
depth = 77 ∷ 91 ∷ 117 ∷ 93 ∷ []

pub depth-readings : map (reading printed_file depth) (0 ∷ 1 ∷ []) ≡ done None ∷ done (Some (pos 0)) ∷ []
unfolding printed_sizes printed_cells printed_file depth four_bytes word_at word_bytes value_at value_bytes eq_z is_index unless after or_else first value_of mark_of cell_of cells_of values_of marks_of width cell_count cell_index sizes_of values_part marks_part cells_of_file file_of within_limits cell_refusal refusal_at record_refusal cells_refusal load_sized load is_reference column read_of read_cell hop follow value_at_record is_capital closed form letter_field is_reference_letter names every inner_references letters_refusal word_of word_of_form at_record reading_loaded reading
depth-readings = refl
