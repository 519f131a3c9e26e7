-- `register_load::load_sized` meets its contract: each way out has its law in `Loading`.
use Prim.Native.Nat.{ℕ, ◌+◌, ◌*◌}
use mathlib.Core.Path.{◌≡◌, sym, ◌∙◌}
use native.Mathlib.Omega.{arith}
use lib.ListN.{length}
use Rattle.laws.specs.Outcome.{done, unless}
use Rattle.register.specs.File.{cell_count}
use Rattle.register.specs.Load.{load_sized, cells_refusal}
use Rattle.register_load.specs.Answer.{outcome_of}
use Rattle.register_check.specs.Number.{refusal_number, check_number}
use Rattle.register.proofs.Bounds.{cell_count≤}
use Rattle.register.proofs.Loading.{sized-length, sized-cells}
use Rattle.register_check.proofs.Numbers.{unless_refusal}
use mathlib.Core.List.{List}
use Rattle.std.specs.Prelude.{Result, Ok, Err}
use Rattle.std.proofs.lemmas.Result.{err_from_is_err_and}
use Rattle.register.specs.declared.Sizes.{Sizes}
use Rattle.register.specs.declared.cells.Cells.{Cells}
use Rattle.register.specs.File.{values_part, marks_part}
use Rattle.register_check.specs.declared.Refusal.{Refusal}
use Rattle.register_load.proofs.load_sized.Goals as goal

pub overflow_mul-count : goal.overflow_mul-count
overflow_mul-count c = record { fits = omega (arith, cell_count≤ c.requires, c.cell_count-count.ensures) }

pub overflow_add-count : goal.overflow_add-count
overflow_add-count c = record { fits = omega (arith, cell_count≤ c.requires, c.cell_count-count.ensures) }

pub returns-then-file-count : goal.returns-then-file-count
unfolding outcome_of refusal_number
returns-then-file-count c = sym (sized-length _ _ (λ e. c.if-file-count.true (omega (arith, e, c.cell_count-count.ensures))))

-- a whole file: the outcome is that of the check of its cells
checked : (s : Sizes) (file : List ℕ) (n : ℕ) (cells : Cells) (k : Result (Unit {0}) Refusal)
    → n ≡ cell_count s → length file ≡ 12 + 5 * n
    → (cells.sizes ≡ s) × (cells.values.now ≡ values_part s file) × (cells.marks.now ≡ marks_part s file)
    → check_number k ≡ cells_refusal cells.sizes cells.values.now cells.marks.now
    → load_sized s file ≡ unless (check_number k) 0 (done s)
checked s file n cells k counted whole parts is =
    let size : length file ≡ 12 + 5 * cell_count s = omega arith in
    rw (is, parts.0, parts.1, parts.2) (sized-cells file s size)

pub returns-in_err-check_cells : goal.returns-in_err-check_cells
unfolding outcome_of check_number
returns-in_err-check_cells c =
    let r = c.in_err-check_cells.field-0.0 in
    let p = err_from_is_err_and c.from_residual.result c.from_residual.ensures.1 in
    rw (p.1, p.2) (sym (checked _ _ _ c.of-cells.result (Err r) c.cell_count-count.ensures (omega arith) c.of-cells.ensures c.in_err-check_cells.ensures ∙ unless_refusal r _))

pub returns : goal.returns
unfolding outcome_of check_number unless
returns c = sym (checked _ _ _ c.of-cells.result (Ok tt) c.cell_count-count.ensures (omega arith) c.of-cells.ensures c.in_ok-check_cells.ensures)
