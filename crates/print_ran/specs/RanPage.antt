-- What the program prints of a run, from its output and the numbers of its answer.
use Rattle.std.specs.Prelude.{ℕ, ◌+◌, ◌*◌, ◌≤◌, ◌≡◌, cond, List, eqb, length}
use Rattle.register.specs.File.{cell_count, sizes_of, cells_of_file}
use Rattle.register.specs.Shape.{Limits}
use Rattle.register.specs.declared.Sizes.{Sizes}
use Rattle.print_listing.specs.Listing.{listing, refused_line}
use Rattle.print_listing.specs.declared.Ran.{Ran}
use Rattle.print_ran.specs.Behind.{behind_at}

-- a refusal with its line and the finished steps: "A refusal prints only `refused N at K`"
unfoldable pub refused_page : ℕ → ℕ → ℕ → List ℕ
refused_page n line finished = refused_line n (behind_at n line finished)

-- a register file that loads, and an output as long
pub record Whole (file out : List ℕ) : Type 0 where
  pub long : 12 ≤ length file
  pub limits : Limits (sizes_of file)
  pub whole : length out ≡ 12 + 5 * cell_count (sizes_of file)

-- the listing of the output, or the refusal
unfoldable pub ran_page : Sizes → List ℕ → Ran → List ℕ
ran_page s out r =
    cond (eqb r.refusal 0)
    (listing s (cells_of_file s out) r.finished r.exchanges r.letters)
    (refused_page r.refusal r.line r.finished)
