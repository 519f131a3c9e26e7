-- What the remote writes of a step leave.
use Rattle.std.specs.Prelude.{◌≡◌, List, true, false, ℕ, ◌+◌, ◌*◌, ◌≤◌, ◌<◌, ℤ, length, take, Option, None, Some}
use Rattle.register.specs.File.{cell_count}
use Rattle.register.specs.declared.Sizes.{Sizes}
use Rattle.register.specs.declared.cells.Cell.{Cell}
use Rattle.chain.specs.Reading.{Reading}
use Rattle.chain.specs.Word.{has_field}
use Rattle.program.specs.declared.location.Located.{Located}
use Rattle.program.specs.Stored.{rule_in, rules_in}
use Rattle.program.specs.Terms.{SlotPlaced}
use Rattle.machine.specs.declared.message.Message.{Message}
use Rattle.machine.specs.Local.{offends}
use Rattle.machine.specs.Remote.{rule_messages, deliver_all}
use Rattle.step_terms.specs.Found.{Told}
use Rattle.step_cells.specs.Work.{HoldsCells, Same, Small}
use Rattle.step_rules.specs.Ready.{AllAgree, AllInRange}

-- a message goes to a record and a field of the register
abbrev pub Addresses : Sizes → Option Message → Type 0
Addresses s None = Unit {0}
Addresses s (Some m) = (m.target < s.records) × (has_field s m.field ≡ true)

-- by these messages, which are counted behind the n before; a value grows by one amount for each
pub record Delivers (s : Sizes) (base : ℕ) (ms : List Message) (values : List ℤ) (marks : List ℕ) (values' : List ℤ) (marks' : List ℕ) (n n' : ℕ) : Type 0 where
  pub same : Same base values marks values' marks'
  pub holds : (d : List Cell) → length d ≡ cell_count s → HoldsCells base d values marks → HoldsCells base (deliver_all s d ms) values' marks'
  pub sent_is : n' ≡ n + length ms
  pub small : (b : ℕ) → Small b base (cell_count s) values marks → Small (b + 2147483648 * length ms) base (cell_count s) values' marks'

-- by messages of which this is told
pub record Delivered (s : Sizes) (base : ℕ) (Tells : List Message → Type 0) (values : List ℤ) (marks : List ℕ) (values' : List ℤ) (marks' : List ℕ)
    (n n' : ℕ) : Type 0 where
  pub messages : List Message
  pub tells : Tells messages
  pub delivers : Delivers s base messages values marks values' marks' n n'

-- at most one message of a rule at record u, told by every reader with which no sum of it leaves the range; of a plain rule, whatever the codes are
abbrev pub RuleSends : Sizes → List Cell → List ℤ → List ℕ → ℕ → ℕ → List ℕ → Located → List Message → Type 0
RuleSends s cells values marks base u codes x ms = (length ms ≤ 1)
    × Told s cells (take base values) (take base marks) u (λ P. SlotPlaced P codes x)
    (λ read. offends read (rule_in codes x.slot) ≡ false → ms ≡ rule_messages read (rule_in codes x.slot))

abbrev pub PlainSends : Sizes → List Cell → List ℤ → List ℕ → ℕ → ℕ → Located → List Message → Type 0
PlainSends s cells values marks base u x ms = (codes : List ℕ) → RuleSends s cells values marks base u codes x ms

-- the messages that a reader tells, where it agrees with the first count rules and no sum of theirs leaves the range
abbrev pub AllSend : Sizes → List Cell → List ℤ → List ℕ → ℕ → List ℕ → ℕ → List Located → ((ℕ → List ℕ → Reading) → List Message) → List Message → Type 0
AllSend s cells values marks base codes count rules told ms =
    (read : ℕ → List ℕ → Reading) → AllAgree s cells (take base values) (take base marks) codes read (take count rules)
    → AllInRange s read (rules_in codes count rules) → ms ≡ told read
