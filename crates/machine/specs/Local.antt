-- Local rules: what a rule stores in its own record, and the sums that it forms.
use Rattle.std.specs.Prelude.{None, Some}
use Rattle.std.specs.Prelude.{Bool, false, cond, ◌&&◌, ◌||◌, List, [], ◌∷◌, ℕ, zero, suc, get_or, set as put}
use Rattle.std.proofs.Math.Option.{Option, none, some}
use Rattle.register.specs.File.{cell_index}
use Rattle.register.specs.declared.Sizes.{Sizes}
use Rattle.register.specs.declared.cells.Cell.{Cell}
use Rattle.register.specs.declared.cells.Cell.TheVariants.{Missing as Unfilled, WorkedOut}
use Rattle.chain.specs.Reading.{Reading}
use Rattle.chain.specs.Word.{column}
use Rattle.program.specs.Program.{Test, always, when, Target, own, remote, Rule, target_field}
use Rattle.machine.specs.Value.{value, overflows, holds}

-- what `:=` makes of a cell: "`:=` with an unfilled reading or sum now leaves the cell as earlier rules of that step left it"
-- (M-103), and "Any stored `:=` .. leaves mark 2" (M-107)
unfoldable pub stored_over : Reading → Cell → Cell
stored_over None c = c
stored_over (Some z) c = WorkedOut z

-- the cells with a reading stored for record u; a remote rule stores nothing here
unfoldable pub assign : Sizes → ℕ → Target → Reading → List Cell → List Cell
assign s u (own f) x cells = let j = cell_index s u (column s f) in put cells j (stored_over x (get_or cells j Unfilled))
assign s u (remote k f w) x cells = cells

-- one rule at record u
unfoldable pub local_rule : Sizes → (List ℕ → Reading) → ℕ → Rule → List Cell → List Cell
local_rule s read u r cells = cond (holds read r.test) (assign s u r.target (value read r.expression) cells) cells

-- "each rule in order": later rules overwrite earlier ones
unfoldable pub local_rules : Sizes → (List ℕ → Reading) → ℕ → List Rule → List Cell → List Cell
local_rules s read u [] cells = cells
local_rules s read u (r ∷ rs) cells = local_rules s read u rs (local_rule s read u r cells)

-- "For each record": the records below n
unfoldable pub local_records : Sizes → (ℕ → List ℕ → Reading) → List Rule → ℕ → List Cell → List Cell
local_records s read rs zero cells = cells
local_records s read rs (suc n) cells = local_rules s (read n) n rs (local_records s read rs n cells)

-- whether a sum of a test leaves the range: of either side, even where the other one is unfilled
unfoldable pub test_overflows : (List ℕ → Reading) → Test → Bool
test_overflows read always = false
test_overflows read (when x c y) = overflows read x || overflows read y

-- whether a sum of a rule leaves the range: one of its test, or one of its expression where the test holds
unfoldable pub offends : (List ℕ → Reading) → Rule → Bool
offends read r = test_overflows read r.test || holds read r.test && overflows read r.expression

-- the column that the earliest rule writes whose sum leaves the range: "in it, the field written by the earliest such rule", even
-- where a later one overwrites it; a remote rule's is F of `remote F[C]`
unfoldable pub sum_column : Sizes → (List ℕ → Reading) → List Rule → Option ℕ
sum_column s read [] = none
sum_column s read (r ∷ rs) = cond (offends read r) (some (column s (target_field r.target))) (sum_column s read rs)
