-- `c_api::read::plot_read` meets its contract: the outcome of the reading, as numbers.
use mathlib.Core.Path.{◌≡◌, ap, ◌∙◌}
use mathlib.Core.List.{[], ◌∷◌}
use borrow.Author.Rules.{rules}
use borrow.Author.Tests.{eq-eqb, ne_eqb}
use lib.IntN.{ℤ}
use mir.Syntax.{w64}
use mir.Facts.{to_z-of_z}
use Rattle.api_read.specs.Numbers.{read_numbers}
use Rattle.api_read.specs.declared.reading.ReadNumbers.{ReadNumbers}
use Rattle.c_api.specs.Answer.{value_behind}
use Rattle.c_api.proofs.read.plot_read.Goals.{then-numbers-eq0, else-numbers-eq0}
use Rattle.c_api.proofs.read.plot_read.Goals as goal

-- the value is set where nothing is refused, and stays otherwise
value_set : (m : ReadNumbers) (z : ℤ) → m.number ≡ 0 → m.value ≡ value_behind m z
unfolding value_behind
value_set m z h = simp (eq-eqb m.number 0 h)

value_stays : (m : ReadNumbers) (z : ℤ) → (m.number ≡ 0 → ⊥) → z ≡ value_behind m z
unfolding value_behind
value_stays m z h = simp (ne_eqb m.number 0 h)

pub returns : goal.returns
returns c =
    let n = c.numbers-numbers in
    let z = c.args.value.now in
    let e = n.ensures ∙ ap read_numbers c.reading.ensures in
    record {
      result_is = ap (λ (m : ReadNumbers). m.number) e;
      value-is =
          elim c.if-numbers-eq0.branch [
            | then-numbers-eq0 w ↦ w.value-is ∙ to_z-of_z {w = w64} (search rules) ∙ value_set n.result z w.if-numbers-eq0.true ∙ ap (λ (m : ReadNumbers). value_behind m z) e
            | else-numbers-eq0 w ↦ w.value-is ∙ value_stays n.result z w.if-numbers-eq0.false ∙ ap (λ (m : ReadNumbers). value_behind m z) e
          ];
      answer_is = ap (λ (m : ReadNumbers). m.line ∷ 0 ∷ 0 ∷ 0 ∷ 0 ∷ 0 ∷ m.filled ∷ 0 ∷ []) e;
    }
