-- The outcome of an answer of loading.
use Rattle.std.specs.Prelude.{Result, Ok, Err}
use Rattle.laws.specs.Outcome.{Outcome, done, refused}
use Rattle.register.specs.declared.Sizes.{Sizes}
use Rattle.register_check.specs.Number.{refusal_number}
use Rattle.register_check.specs.declared.Refusal.{Refusal}

unfoldable pub outcome_of : Result Sizes Refusal → Outcome Sizes
outcome_of (Ok s) = done s
outcome_of (Err r) = refused (refusal_number r) 0
