-- A rules text: its lines, what each adds to the program, and the program or the refusal of the whole text.
use Rattle.std.specs.Prelude.{ℕ, zero, suc, Bool, true, false, cond, not, ◌&&◌, List, [], ◌∷◌, ◌++◌, ltb, eqb, length}
use Rattle.std.proofs.Math.Option.{Option, none, some}
use Rattle.laws.specs.Outcome.{Outcome, refused, unless, after}
use Rattle.laws.specs.Outcome as O
use Rattle.register.specs.Load.{load}
use Rattle.chain_text.specs.Text.{letter_field}
use Rattle.plan_theory.specs.Plan.{Fact, result}
use Rattle.text_syntax.specs.Written.{Line, step, end, done, loop, rule}
use Rattle.text_syntax.specs.Lexing.{tokens}
use Rattle.text_syntax.specs.Grammar.{line_form}
use Rattle.text_syntax.specs.Tree.{rule_of}
use Rattle.text_rules.specs.declared.around.Around.{Around}
use Rattle.text_rules.specs.declared.around.Around.TheVariants.{Outside, Unused, Used}
use Rattle.program.specs.declared.setting.Setting.{Setting}
use Rattle.program.specs.declared.setting.Setting.TheVariants.{Single, Looped}
use Rattle.program.specs.Program.{Rule, Step, Program, readings, has_remote}
use Rattle.text_rules.specs.declared.scope.Scope.{Scope}
use Rattle.text_rules.specs.Check.{State, is_outside, is_open, open_rules, line_refusal}

-- A line of a text: its bytes with byte 10 behind them, or the last line without byte 10.
pub data Piece : Type 0 where
  ended cut : List ℕ → Piece

-- no byte of a line is 10
unfoldable pub is_within : ℕ → Bool
is_within b = not (eqb b 10)

-- one more byte in front of the first line
unfoldable pub onto : ℕ → List Piece → List Piece
onto b [] = cut (b ∷ []) ∷ []
onto b (ended l ∷ ls) = ended (b ∷ l) ∷ ls
onto b (cut l ∷ ls) = cut (b ∷ l) ∷ ls

-- "each line ends in byte 10"; a text that ends in byte 10 has no further line
unfoldable pub lines : List ℕ → List Piece
lines [] = []
lines (b ∷ t) = cond (eqb b 10) (ended [] ∷ lines t) (onto b (lines t))

-- 7: "no such line, or a last line without byte 10"
unfoldable pub piece_form : Piece → Option Line
piece_form (ended t) = line_form (tokens t)
piece_form (cut t) = none

-- where the next step stands, whether or not it will be the last of its loop
unfoldable pub setting_in : Around → Setting
setting_in Outside = Single
setting_in (Unused f) = Looped f true false
setting_in (Used f) = Looped f false false

-- a loop that now holds a step
unfoldable pub with_step : Around → Around
with_step Outside = Outside
with_step (Unused f) = Used f
with_step (Used f) = Used f

-- the last step so far is the last of its loop
unfoldable pub last_of : Setting → Setting
last_of Single = Single
last_of (Looped f first last) = Looped f first true

unfoldable pub close_loop : List Step → List Step
close_loop [] = []
close_loop (x ∷ []) = record { rules = x.rules; setting = last_of x.setting } ∷ []
close_loop (x ∷ y ∷ xs) = x ∷ close_loop (y ∷ xs)

-- what is read once a line has passed
unfoldable pub advance : State → Line → State
advance st step = record { steps = st.steps; around = st.around; open_rules = some [] }
advance st end = record {
  steps = st.steps ++ (record { rules = open_rules st; setting = setting_in st.around } ∷ []);
  around = with_step st.around;
  open_rules = none;
}
advance st (loop f) = record { steps = st.steps; around = Unused (letter_field f); open_rules = none }
advance st done = record { steps = close_loop st.steps; around = Outside; open_rules = none }
advance st (rule c a) = record {
  steps = st.steps;
  around = st.around;
  open_rules = some (open_rules st ++ (rule_of c a ∷ []));
}

-- line k of the text: "lowest number first"
unfoldable pub line_outcome : Scope → State → ℕ → Option Line → Outcome State
line_outcome scope st k none = refused 7 k
line_outcome scope st k (some l) = unless (line_refusal scope st l) k (O.done (advance st l))

-- behind the last line: a step or loop that is still open is 8, "one past the last line"
unfoldable pub closed_text : State → ℕ → Outcome Program
closed_text st k = cond (not (is_open st) && is_outside st.around) (O.done st.steps) (refused 8 k)

-- "Line by line", from line k on
unfoldable pub read_from : Scope → State → ℕ → List Piece → Outcome Program
read_from scope st k [] = closed_text st k
read_from scope st k (p ∷ ps) = after (line_outcome scope st k (piece_form p)) (λ st. read_from scope st (suc k) ps)

-- before the first line
unfoldable pub start : State
start = record { steps = []; around = Outside; open_rules = none }

-- the program of a text under a scope: 6 first, "too long (line 0)"
unfoldable pub text_program : Scope → List ℕ → Outcome Program
text_program scope t = cond (ltb 8192 (length t)) (refused 6 0) (read_from scope start 1 (lines t))

-- "The register is looked at first, then rules"
unfoldable pub check : List ℕ → List ℕ → Outcome Program
check file text = after (load file) (λ s. text_program (record { sizes = s }) text)

-- the rules of step k, "Steps count from 1 in the text"; 17: "a step that is not there"
unfoldable pub rules_at : Program → ℕ → Outcome (List Rule)
rules_at [] k = refused 17 0
rules_at (x ∷ xs) zero = refused 17 0
rules_at (x ∷ xs) (suc zero) = O.done x.rules
rules_at (x ∷ xs) (suc (suc k)) = rules_at xs (suc k)

-- "A plan's result is its lines, each with kind (Back or Read), chain and round, and whether a remote exchange follows."
pub record PlanResult : Type 0 where
  pub plan_lines : List (Fact × ℕ)
  pub remote : Bool

unfoldable pub plan_result : List Rule → PlanResult
plan_result rs = record { plan_lines = result (readings rs); remote = has_remote rs }

-- the plan of step k: the register, the text, then 17
unfoldable pub plan_of_step : List ℕ → List ℕ → ℕ → Outcome PlanResult
plan_of_step file text k = after (check file text) (λ p. after (rules_at p k) (λ rs. O.done (plan_result rs)))
