-- `c_api::path::plot_path` meets its contract.
use Prim.Native.Nat.{ℕ}
use mathlib.Core.Path.{refl, sym, ap}
use mathlib.Core.List.{[], ◌∷◌}
use Rattle.chain_path.proofs.Walking.{holds_count}
use Rattle.op_path.proofs.Outcomes.{answered-refused, answered-listed}
use Rattle.c_api.proofs.path.plot_path.Goals as goal

pub returns-in-Err : goal.returns-in-Err
returns-in-Err c =
    rw (answered-refused c.in-Err.ensures)
    (record { result_is = c.number.ensures; answer_is = ap (λ (n : ℕ). n ∷ 0 ∷ 0 ∷ 0 ∷ 0 ∷ 0 ∷ 0 ∷ 0 ∷ []) c.line.ensures; arrays_stay = refl })

pub returns-in-Ok : goal.returns-in-Ok
returns-in-Ok c =
    let a = c.in-Ok.ensures in
    rw (answered-listed a)
    (record {
      result_is = refl;
      answer_is = ap (λ (n : ℕ). 0 ∷ 0 ∷ 0 ∷ 0 ∷ 0 ∷ 0 ∷ n ∷ 0 ∷ []) (sym (holds_count a.holds));
      arrays_are = c.fill.ensures;
    })
