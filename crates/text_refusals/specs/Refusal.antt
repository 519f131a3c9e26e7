-- The lowest number that applies to a line, by what the reader keeps of the lines so far; 0 for none.
use Rattle.std.specs.Prelude.{ℕ, Bool, cond, not, ◌||◌, ltb}
use Rattle.laws.specs.Outcome.{or_else}
use Rattle.text_rules.specs.declared.line.Checks.{Checks}
use Rattle.program.specs.declared.rule.Rule.{Rule}
use Rattle.text_rules.specs.declared.line.LineRead.{LineRead}
use Rattle.text_rules.specs.declared.line.LineRead.TheVariants as L
use Rattle.text_rules.specs.Check.{is_outside, is_used}
use Rattle.text_state.specs.State.{other_sort}
use Rattle.text_state.specs.declared.state.State.{State}

-- the first of 9 to 12, 24 and 25
unfoldable pub checks_refusal : Checks → ℕ
checks_refusal c =
    cond (not c.named) 9
    (cond (not c.kinded) 10
    (cond (not c.short) 11
    (cond (not c.ranged) 12
    (cond (not c.shallow) 24
    (cond (not c.few) 25
    0)))))

-- 8, for a line that stands outside steps; fits: the loop around, or none, is one that it asks for
unfoldable pub misplaced : State → Bool → Bool
misplaced st fits = st.in_step || not fits

-- the lowest number for each sort of line
unfoldable pub step_refusal : State → ℕ
step_refusal st = cond st.in_step 8 (cond (not (ltb st.steps 32)) 13 0)

unfoldable pub end_refusal : State → Bool → ℕ
end_refusal st full = cond (not st.in_step) 8 (cond full 15 0)

unfoldable pub done_refusal : State → ℕ
done_refusal st = cond (misplaced st (is_used st.around)) 8 0

unfoldable pub loop_refusal : State → Bool → ℕ
loop_refusal st named = cond (misplaced st (is_outside st.around)) 8 (cond (not named) 9 0)

unfoldable pub rule_refusal : State → Rule → Checks → ℕ
rule_refusal st r c =
    cond (not st.in_step) 8
    (or_else (checks_refusal c)
    (cond (not (ltb st.tally.rules 32)) 13
    (cond (other_sort st.tally r) 14
    0)))

-- the lowest number that applies to a line, 0 for a line that passes
unfoldable pub refusal_of : State → Bool → LineRead → ℕ
refusal_of st full L.Step = step_refusal st
refusal_of st full L.End = end_refusal st full
refusal_of st full L.Done = done_refusal st
refusal_of st full (L.Loop f named) = loop_refusal st named
refusal_of st full (L.Rule x c) = rule_refusal st x.rule c
refusal_of st full L.NoForm = 7

-- behind the last line
unfoldable pub last_refusal : State → ℕ
last_refusal st = cond (misplaced st (is_outside st.around)) 8 0
