-- Where a line of a rules text may stand and what a step may hold: one definition for each of the refusals 8, 13, 14 and 15, and the
-- first that applies of these and of 9 to 12, 24 and 25, which are in the Parts of `text_syntax`.
use Rattle.std.specs.Prelude.{ℕ, Bool, true, false, cond, not, ◌&&◌, List, [], leb, ltb, length}
use Rattle.std.proofs.Math.Option.{Option, none, some}
use Rattle.chain_text.specs.Text.{letter_field}
use Rattle.text_syntax.specs.Written.{Action, set, remote, Line, step, end, done, loop, rule}
use Rattle.text_syntax.specs.Parts.{named, kinded, short, numbers_in_range, shallow, few_operators}
use Rattle.program.specs.declared.rule.Sort.TheVariants.{Least, Total}
use Rattle.text_rules.specs.declared.around.Around.{Around}
use Rattle.text_rules.specs.declared.scope.Scope.{Scope}
use Rattle.text_rules.specs.declared.around.Around.TheVariants.{Outside, Unused, Used}
use Rattle.program.specs.Program.{Rule, Step, step_plan, some_target, is_least, is_total}

-- The steps closed so far, the loop around, and the rules so far of the step that is open, if one is.
pub record State : Type 0 where
  pub steps : List Step
  pub around : Around
  pub open_rules : Option (List Rule)

-- whether no loop is open; whether one is that holds a step; whether a step is open
unfoldable pub is_outside : Around → Bool
is_outside Outside = true
is_outside (Unused f) = false
is_outside (Used f) = false

unfoldable pub is_used : Around → Bool
is_used Outside = false
is_used (Unused f) = false
is_used (Used f) = true

unfoldable pub is_open : State → Bool
is_open st = elim st.open_rules [ none ↦ false | some rs ↦ true ]

-- the rules of the open step
unfoldable pub open_rules : State → List Rule
open_rules st = elim st.open_rules [ none ↦ [] | some rs ↦ rs ]

-- 8: "A loop stands outside steps, holds at least one step and no loop"; rules and `end` stand in a step
unfoldable pub in_place : State → Line → Bool
in_place st step = not (is_open st)
in_place st end = is_open st
in_place st (loop f) = not (is_open st) && is_outside st.around
in_place st done = not (is_open st) && is_used st.around
in_place st (rule c a) = is_open st

-- 13: "Limits: 32 steps, 32 rules a step"
unfoldable pub has_room : State → Line → Bool
has_room st step = ltb (length st.steps) 32
has_room st end = true
has_room st done = true
has_room st (loop f) = true
has_room st (rule c a) = ltb (length (open_rules st)) 32

-- 14: "Within a step one field takes one sort of remote write": whether a rule behind these is of the sort that its field has taken so far
unfoldable pub one_sort : List Rule → Action → Bool
one_sort rs (set f x) = true
one_sort rs (remote Least f c x) = not (some_target (is_total (letter_field f)) rs)
one_sort rs (remote Total f c x) = not (some_target (is_least (letter_field f)) rs)

unfoldable pub sorts_agree : State → Line → Bool
sorts_agree st step = true
sorts_agree st end = true
sorts_agree st done = true
sorts_agree st (loop f) = true
sorts_agree st (rule c a) = one_sort (open_rules st) a

-- 15: the plan of a step "has at most 64 lines", asked at its `end`
unfoldable pub plan_fits : State → Line → Bool
plan_fits st step = true
plan_fits st end = leb (length (step_plan (open_rules st))) 64
plan_fits st done = true
plan_fits st (loop f) = true
plan_fits st (rule c a) = true

-- the number that applies to a line that has a form, the lowest first but for 24 and 25, which are asked after 12; 0 for a line that passes
unfoldable pub line_refusal : Scope → State → Line → ℕ
line_refusal scope st l =
    cond (not (in_place st l)) 8
    (cond (not (named scope.sizes l)) 9
    (cond (not (kinded l)) 10
    (cond (not (short l)) 11
    (cond (not (numbers_in_range l)) 12
    (cond (not (shallow l)) 24
    (cond (not (few_operators l)) 25
    (cond (not (has_room st l)) 13
    (cond (not (sorts_agree st l)) 14
    (cond (not (plan_fits st l)) 15
    0)))))))))
