-- What a run counts, step by step.
use Rattle.std.specs.Prelude.{Bool, cond, ℕ, ◌+◌}
use Rattle.machine_messages.specs.declared.Machine.{Machine}
use Rattle.machine_messages.specs.declared.Machine.TheVariants.{Direct, Messages}
use Rattle.gather.specs.declared.counts.Counts.{Counts}

-- no exchange and no message
abbrev pub no_counts : Counts
no_counts = record { exchanges = 0; messages = 0 }

-- with those of a step that is finished, "and 1 more if it holds a remote rule"
abbrev pub counts_after : Machine → Counts → Counts → Bool → ℕ → Counts
counts_after Direct c g sends sent = c
counts_after Messages c g sends sent = record { exchanges = c.exchanges + g.exchanges + cond sends 1 0; messages = c.messages + g.messages + sent }
