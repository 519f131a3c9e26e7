-- Remote writes: one message for each, delivered to the cells that the local rules leave.
use Rattle.std.specs.Prelude.{None, Some}
use Rattle.std.specs.Prelude.{Bool, true, cond, List, [], ◌∷◌, ◌++◌, ℕ, zero, suc, ℤ, nat_abs, ◌+ℤ◌, get_or, set as put}
use Rattle.std.specs.Int.Signed.{lt_z}
use Rattle.register.specs.File.{cell_index}
use Rattle.register.specs.declared.Sizes.{Sizes}
use Rattle.register.specs.declared.cells.Cell.{Cell}
use Rattle.register.specs.declared.cells.Cell.TheVariants.{Missing as Unfilled, WorkedOut}
use Rattle.chain.specs.Reading.{Reading}
use Rattle.chain.specs.Word.{column, read_of}
use Rattle.program.specs.declared.rule.Sort.{Sort}
use Rattle.program.specs.declared.rule.Sort.TheVariants.{Least, Total}
use Rattle.program.specs.Program.{Target, own, remote, Rule}
use Rattle.machine.specs.declared.message.Message.{Message}
use Rattle.machine.specs.Value.{both, value, holds}

-- "One whose C or X is unfilled does nothing."
unfoldable pub sent_to : Sort → ℕ → Reading → Reading → List Message
sent_to k f c x = both [] (λ v a. record { sort = k; target = nat_abs v; field = f; amount = a } ∷ []) c x

-- the message that takes a value where a rule writes: a local rule sends none
unfoldable pub sent_by : (List ℕ → Reading) → Target → Reading → List Message
sent_by read (own f) x = []
sent_by read (remote k f c) x = sent_to k f (read c) x

-- "A remote write whose test, if any, holds and whose C and X are filled is one letter; any other sends none."
unfoldable pub rule_messages : (List ℕ → Reading) → Rule → List Message
rule_messages read r = cond (holds read r.test) (sent_by read r.target (value read r.expression)) []

-- the messages of one record
unfoldable pub messages : (List ℕ → Reading) → List Rule → List Message
messages read [] = []
messages read (r ∷ rs) = rule_messages read r ++ messages read rs

-- of the records below n
unfoldable pub record_messages : (ℕ → List ℕ → Reading) → List Rule → ℕ → List Message
record_messages read rs zero = []
record_messages read rs (suc n) = record_messages read rs n ++ messages (read n) rs

-- whether `<?=` changes or fills a cell of which this is read
unfoldable pub is_lowered : Reading → ℤ → Bool
is_lowered None a = true
is_lowered (Some z) a = lt_z a z

-- "`<?=` keeps the smaller, and fills an unfilled cell"; "any `<?=` that changes or fills a cell leaves mark 2" (M-107), and any
-- other the cell as it is
unfoldable pub smaller : Cell → ℤ → Cell
smaller c a = cond (is_lowered (read_of c) a) (WorkedOut a) c

-- "`+=` adds all amounts to the cell as one whole number; .. an unfilled cell stays unfilled": a total of any size; "any `+=` that
-- reaches a filled cell .. leaves mark 2" (M-107), of 0 too
unfoldable pub added : Reading → ℤ → Cell
added None a = Unfilled
added (Some z) a = WorkedOut (z +ℤ a)

unfoldable pub increased : Cell → ℤ → Cell
increased c a = added (read_of c) a

-- what a write makes of the cell that it reaches
unfoldable pub merged : Sort → Cell → ℤ → Cell
merged Least c a = smaller c a
merged Total c a = increased c a

-- one message, and all of them in turn: "Then remote writes are applied to the result."
unfoldable pub deliver : Sizes → List Cell → Message → List Cell
deliver s cells m =
    let j = cell_index s m.target (column s m.field) in
    put cells j (merged m.sort (get_or cells j Unfilled) m.amount)

unfoldable pub deliver_all : Sizes → List Cell → List Message → List Cell
deliver_all s cells [] = cells
deliver_all s cells (m ∷ ms) = deliver_all s (deliver s cells m) ms
