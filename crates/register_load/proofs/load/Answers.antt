-- `register_load::load` meets its contract: each way out has its law in `Loading`.
use mathlib.Core.Path.{sym, ◌∙◌}
use Rattle.register_load.specs.Answer.{outcome_of}
use Rattle.register_check.specs.Number.{refusal_number}
use Rattle.register.proofs.Bounds.{limits}
use Rattle.register.proofs.Loading.{load-short, load_large, load-limits}
use Rattle.register_load.proofs.load.Goals as goal

pub returns-then-file-lt12 : goal.returns-then-file-lt12
unfolding outcome_of refusal_number
returns-then-file-lt12 c = sym (load-short _ c.if-file-lt12.true)

pub load_sized-requires : goal.load_sized-requires
load_sized-requires c = limits _ (sym c.within_limits.ensures ∙ c.if-within_limits.true)

pub returns-then-within_limits : goal.returns-then-within_limits
returns-then-within_limits c =
    let t = c in
    c.load_sized.ensures
    ∙ sym (load-limits _ t.if-file-lt12.false t.sizes_of-sizes.ensures (sym t.within_limits.ensures ∙ c.if-within_limits.true))

pub returns-else-within_limits : goal.returns-else-within_limits
unfolding outcome_of refusal_number
returns-else-within_limits c =
    let t = c in
    sym (load_large _ t.if-file-lt12.false t.sizes_of-sizes.ensures (sym t.within_limits.ensures ∙ c.if-within_limits.false))
