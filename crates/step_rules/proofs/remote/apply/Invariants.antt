-- `step_rules::remote::apply` meets its contract: the messages of all rules at all records are delivered and counted, and no total leaves 64 bits.
use Prim.Native.Nat.{◌*◌, ◌-◌, ◌≤◌}
use Rattle.register.specs.File.{cells_of_file}
use Rattle.program.specs.Stored.{rules_in}
use Rattle.machine.specs.Remote.{messages, record_messages}
use Rattle.step_rules.proofs.Remotes.{SendsBy}
use Rattle.step_rules.proofs.remote.apply.Given as goal

-- the messages of the first k rules at record u, behind those of the records before, of all rules
abbrev pub invariant-loop-k : goal.invariant-loop-k
invariant-loop-k l = SendsBy l.fn.sizes (cells_of_file l.fn.sizes l.out) l.base l.codes l.count l.rules (λ read. messages (read l.u) (rules_in l.codes l.k l.rules)) l.k l.initial.values l.initial.marks l.values l.marks l.initial.sent l.sent × (l.k ≤ l.count)

abbrev pub decreases-loop-k : goal.decreases-loop-k
decreases-loop-k l = l.count - l.k

abbrev pub invariant-loop-u : goal.invariant-loop-u
invariant-loop-u l =
    SendsBy l.fn.sizes (cells_of_file l.fn.sizes l.out) l.base l.codes l.count l.rules (λ read. record_messages read (rules_in l.codes l.count l.rules) l.u) (32 * l.u) l.initial.values l.initial.marks l.values l.marks 0 l.sent
    × (l.u ≤ l.fn.sizes.records)

abbrev pub decreases-loop-u : goal.decreases-loop-u
decreases-loop-u l = l.fn.sizes.records - l.u
