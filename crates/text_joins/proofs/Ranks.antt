-- Operators by their rank.
use Prim.Native.Nat.{ℕ}
use mathlib.Core.Path.{◌≡◌, sym, ap, ◌∙◌}
use mathlib.Core.Bool.{Bool, true, false, cond, not, beq}
use mathlib.Core.List.{List}
use Rattle.program.specs.declared.rule.Operator.{Operator}
use Rattle.text_syntax.specs.Token.{operator}
use Rattle.text_syntax.specs.Kind.{kind, operator_in}
use Rattle.text_syntax.specs.Form.{formed, unformed, held, one_of, then}
use Rattle.text_syntax.specs.Grammar.{is_sum, is_smaller, operator_form}
use Rattle.text_places.specs.Place.{tokens_from, Passing, NoOperator}
use Rattle.text_joins.specs.Join.{rank_of, Unranked}

pub ranked_none : (rank : Operator → Bool) {line : List ℕ} {at : ℕ} → NoOperator line at → Unranked rank line at
unfolding operator_form then
ranked_none rank w = record { none = rw w.none }

pub ranked_other : (rank : Operator → Bool) {o : Operator} {line : List ℕ} {at end : ℕ} → Passing false true (operator o) line at end → rank o ≡ false → Unranked
    rank line at
unfolding operator_form then one_of held operator_in kind
ranked_other rank {o} {line} {at} {end} w h = record {
  none = ap (operator_form rank) w.text ∙ ap (λ (b : Bool). cond b (formed o (tokens_from true line end)) unformed) h;
}

-- whether an operator joins sums tells its rank
pub rank_is : (sums b : Bool) (o : Operator) → b ≡ is_sum o → rank_of sums o ≡ beq b sums
unfolding is_smaller
rank_is true true o e = sym e
rank_is true false o e = sym e
rank_is false true o e = ap not (sym e)
rank_is false false o e = ap not (sym e)
