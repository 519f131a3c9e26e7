-- What a plain rule stores and sends, whatever the codes are.
use Rattle.std.specs.Prelude.{◌≡◌, List, ℕ, ℤ, Option}
use Rattle.register.specs.declared.Sizes.{Sizes}
use Rattle.register.specs.declared.cells.Cell.{Cell}
use Rattle.chain.specs.Word.{unpack}
use Rattle.program.specs.declared.term.Term.{Term}
use Rattle.program.specs.declared.rule.Rule as D
use Rattle.program.specs.declared.rule.Rule.TheVariants.{Remote}
use Rattle.program.specs.declared.rule.Sort.{Sort}
use Rattle.program.specs.declared.location.Places.{Places}
use Rattle.program.specs.declared.location.Located.{Located}
use Rattle.program.specs.Program.{target_field}
use Rattle.program.specs.Stored.{term_in, target_in, expression_in, rule_in}
use Rattle.program.specs.Terms.{RulePlaced, SlotPlaced}
use Rattle.machine.specs.Value.{value}
use Rattle.machine.specs.Remote.{sent_to, rule_messages}
use Rattle.step_terms.specs.Found.{found_at, Told, TargetFound, Within}
use Rattle.step_operations.specs.Evaluated.{evaluated}
use Rattle.step_effects.specs.declared.stored.Write.{Write}
use Rattle.machine.specs.declared.message.Message.{Message}
use Rattle.step_effects.specs.Answers.{done_by, write_of, messages_in, DoneFor, GoesTo}

-- what its expression stores, what it stores, and what it sends
module _ (s : Sizes) (cells : List Cell) (values : List ℤ) (marks : List ℕ) (u : ℕ) where
  abbrev pub PlainDone : Places → D.Rule → Write → Type 0
  PlainDone at r w = DoneFor (target_in r) w
      × ((codes : List ℕ) → Told s cells values marks u (λ P. RulePlaced P codes at r) (λ read. w ≡ done_by (target_in r) (evaluated read (expression_in codes r))))

  abbrev pub PlainWrite : Located → Write → Type 0
  PlainWrite x w = DoneFor (target_in x.slot.rule) w
      × ((codes : List ℕ) → Told s cells values marks u (λ P. SlotPlaced P codes x) (λ read. w ≡ write_of read (rule_in codes x.slot)))

  abbrev pub PlainSent : Places → Sort → ℕ → ℕ → Term → Option Message → Type 0
  PlainSent at sort f c x m = GoesTo f (λ n. Within n (found_at s cells values marks u at.first)) m
      × ((codes : List ℕ) → Told s cells values marks u (λ P. RulePlaced P codes at (Remote sort f c x))
      (λ read. messages_in m ≡ sent_to sort f (read (unpack c)) (value read (term_in codes x))))

  abbrev pub PlainMessages : Located → Option Message → Type 0
  PlainMessages x m = GoesTo (target_field (target_in x.slot.rule)) (λ n. TargetFound (Within n) s cells values marks u x.at.rule x.slot.rule) m
      × ((codes : List ℕ) → Told s cells values marks u (λ P. SlotPlaced P codes x) (λ read. messages_in m ≡ rule_messages read (rule_in codes x.slot)))
