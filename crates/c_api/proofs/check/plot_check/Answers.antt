-- `c_api::check::plot_check` meets its contract.
use Prim.Native.Nat.{ℕ}
use mathlib.Core.Path.{refl, ap₂}
use mathlib.Core.List.{[], ◌∷◌}
use Rattle.op_check.proofs.Checks.{answered-refused, answered-program}
use Rattle.c_api.specs.Answer.{check_numbers}
use Rattle.c_api.proofs.check.plot_check.Goals as goal

pub returns-in-Ok : goal.returns-in-Ok
unfolding check_numbers
returns-in-Ok c =
    let a = c.in-Ok.ensures.answers in
    rw (answered-program a)
    (record { result_is = refl; answer_is = ap₂ (λ (n m : ℕ). 0 ∷ 0 ∷ 0 ∷ 0 ∷ 0 ∷ 0 ∷ n ∷ m ∷ []) a.complete.steps_are a.complete.lines_are })

pub returns-in-Err : goal.returns-in-Err
unfolding check_numbers
returns-in-Err c = rw (answered-refused c.in-Err.ensures.answers) (record { result_is = c.number.ensures; answer_is = refl })
