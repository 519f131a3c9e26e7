-- `step_commit::commit_cell` meets its contract: `integers::in_range` tells it of the value, and a missing cell has the value 0.
use Prim.Native.Nat.{◌+◌}
use mathlib.Core.Path.{◌≡◌, refl, sym, ap, ◌∙◌}
use borrow.Author.Rules.{rules}
use lib.IntN.{ℤ, pos}
use lib.ListN.{get_or}
use mir.Syntax.{w64}
use mir.Facts.{to_z-of_z}
use Rattle.std.specs.Prelude.{None, Some}
use Rattle.integers.specs.Range.{sum_of}
use Rattle.integers.proofs.Complement.{kept}
use Rattle.register.specs.Cells.{Canonical}
use Rattle.register.specs.File.{put_marked}
use Rattle.register.proofs.Arrays.{put_marked_cell}
use Rattle.scratch.specs.Places.{stored_at}
use Rattle.step_commit.proofs.Committing.{total-told, cell_in_range_lem}
use Rattle.step_commit.proofs.commit_cell.Goals as goal

pub put_cell-requires : goal.put_cell-requires
put_cell-requires c = (c.requires.0, c.requires.1, c.requires.3, (c.requires.4.each c.args.j c.requires.3).mark≤)

pub returns-in_err-value : goal.returns-in_err-value
unfolding stored_at
returns-in_err-value c =
    let z : ℤ = get_or c.args.values.now (c.args.base + c.args.j) (pos 0) in
    let proper = c.requires.4.each c.args.j c.requires.3 in
    let asked : c.in_range.result ≡ sum_of z = c.in_range.ensures ∙ ap sum_of (to_z-of_z {w = w64} {z = z} (search rules)) in
    let none : c.in_range.result ≡ None = search rules in
    let left : c.from_residual.result ≡ None = search rules in
    rw left (cell_in_range_lem z _ proper ∙ rw (sym asked ∙ none) at (total-told z), refl)

pub returns : goal.returns
unfolding stored_at
returns c =
    let z : ℤ = get_or c.args.values.now (c.args.base + c.args.j) (pos 0) in
    let mark = get_or c.args.marks.now (c.args.base + c.args.j) 0 in
    let proper : Canonical z mark = c.requires.4.each c.args.j c.requires.3 in
    let asked : c.in_range.result ≡ sum_of z = c.in_range.ensures ∙ ap sum_of (to_z-of_z {w = w64} {z = z} (search rules)) in
    let some : c.in_range.result ≡ Some c.in_ok-value.value = search rules in
    let t = rw (sym asked ∙ some) at (total-told z) in (
      cell_in_range_lem z mark proper ∙ t.0,
      c.put_cell.ensures
          ∙ ap (λ (y : ℤ). put_marked c.args.sizes c.args.j y mark c.args.out.now) (kept _ (search rules) ∙ t.1)
          ∙ put_marked_cell c.args.sizes c.args.j z mark c.args.out.now proper.mark≤,
    )
