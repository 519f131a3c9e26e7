-- What a program keeps to whose text has passed: every word can be followed, kinds agree, and the limits are kept.
use Rattle.std.specs.Prelude.{ℕ, ◌≤◌, ◌≡◌, Bool, true, false, cond, not, ◌&&◌, List, [], ◌∷◌, eqb, length}
use Rattle.std.proofs.Math.Option.{Option, none, some}
use Rattle.integers.specs.Range.{in_range}
use Rattle.register.specs.declared.Sizes.{Sizes}
use Rattle.chain.specs.Word.{is_reference, has_field, Passes}
use Rattle.program.specs.declared.setting.Setting.{Setting}
use Rattle.program.specs.declared.setting.Setting.TheVariants.{Single, Looped}
use Rattle.program.specs.declared.rule.Operator.{Operator}
use Rattle.program.specs.declared.rule.Operator.TheVariants.{Plus, Minus, Smaller}
use Rattle.program.specs.declared.rule.Sort.{Sort}
use Rattle.program.specs.declared.rule.Sort.TheVariants.{Total}
use Rattle.program.specs.Program.{Expression, reading, constant, operation, operators, Test, always, when, Target, own, remote, Rule, Step, Program, step_plan, target_field, some_target, is_least, is_total}
use Rattle.laws.specs.Lists.{Each}

-- "Its kind is that of the outermost letter, `u` being a reference"
unfoldable pub is_reference_word : List ℕ → Bool
is_reference_word [] = true
is_reference_word (f ∷ []) = is_reference f
is_reference_word (f ∷ g ∷ w) = is_reference_word (g ∷ w)

-- "`+`, `-` and `+=` take measures only"; "`<?` (the smaller; both kinds)"
unfoldable pub takes_references : Operator → Bool
takes_references Plus = false
takes_references Minus = false
takes_references Smaller = true

-- the kind of an expression: an operation has that of its first operand, where its operator takes it
unfoldable pub is_reference_expression : Expression → Bool
is_reference_expression (reading w) = is_reference_word w
is_reference_expression (constant z) = false
is_reference_expression (operation op x y) = takes_references op && is_reference_expression x

-- "a number is a measure"; both operands have the kind of the whole
abbrev pub ExpressionPasses : Sizes → Expression → Type 0
ExpressionPasses s (reading w) = Passes s w
ExpressionPasses s (constant z) = in_range z ≡ true
ExpressionPasses s (operation op x y) =
    let kind = is_reference_expression (operation op x y) in
    (ExpressionPasses s x × (is_reference_expression x ≡ kind)) × (ExpressionPasses s y × (is_reference_expression y ≡ kind))

-- "Both sides of a rule or test have the same kind"
abbrev pub TestPasses : Sizes → Test → Type 0
TestPasses s always = Unit {0}
TestPasses s (when x c y) = ExpressionPasses s x × ExpressionPasses s y × (is_reference_expression x ≡ is_reference_expression y)

-- 25: at most 64 operators in an expression, each side of a test being one
abbrev pub TestFew : Test → Type 0
TestFew always = Unit {0}
TestFew (when x c y) = (operators x ≤ 64) × (operators y ≤ 64)

-- C, "a chain of reference kind", and that the field of a `+=` is a measure
pub record RemotePasses (s : Sizes) (k : Sort) (f : ℕ) (c : List ℕ) : Type 0 where
  pub passes : Passes s c
  pub reference : is_reference_word c ≡ true
  pub measure : k ≡ Total → is_reference f ≡ false

abbrev pub TargetPasses : Sizes → Target → Type 0
TargetPasses s (own f) = Unit {0}
TargetPasses s (remote k f c) = RemotePasses s k f c

pub record RulePasses (s : Sizes) (r : Rule) : Type 0 where
  pub test : TestPasses s r.test
  pub field : has_field s (target_field r.target) ≡ true
  pub target : TargetPasses s r.target
  pub expression : ExpressionPasses s r.expression
  pub few : TestFew r.test × (operators r.expression ≤ 64)
  pub alike : is_reference (target_field r.target) ≡ is_reference_expression r.expression

-- the rules of a step: "32 rules a step", "one field takes one sort of remote write"
pub record RulesPass (s : Sizes) (rs : List Rule) : Type 0 where
  pub each : Each (RulePasses s) rs
  pub few : length rs ≤ 32
  pub one_sort_each : (f : ℕ) → some_target (is_least f) rs ≡ true → some_target (is_total f) rs ≡ false

-- "a loop on field F"
abbrev pub SettingPasses : Sizes → Setting → Type 0
SettingPasses s Single = Unit {0}
SettingPasses s (Looped f first last) = has_field s f ≡ true

-- a step: its plan "has at most 64 lines"
pub record StepPasses (s : Sizes) (x : Step) : Type 0 where
  pub rules : RulesPass s x.rules
  pub fits : length (step_plan x.rules) ≤ 64
  pub field : SettingPasses s x.setting

-- whether a step may stand where no loop is open, or one on g that holds a step already
unfoldable pub setting_fits : Option ℕ → Setting → Bool
setting_fits none Single = true
setting_fits none (Looped f first last) = first
setting_fits (some g) Single = false
setting_fits (some g) (Looped f first last) = not first && eqb f g

-- the loop that is open behind a step
unfoldable pub open_behind : Setting → Option ℕ
open_behind Single = none
open_behind (Looped f first last) = cond last none (some f)

-- the steps of a loop stand together, the first and the last of them marked; from the loop open before to the one open behind
abbrev pub Loops : Option ℕ → List Step → Option ℕ → Type 0
Loops before [] behind = before ≡ behind
Loops before (x ∷ xs) behind = (setting_fits before x.setting ≡ true) × Loops (open_behind x.setting) xs behind

-- "32 steps"; every loop that is opened is closed
pub record ProgramPasses (s : Sizes) (p : Program) : Type 0 where
  pub each : Each (StepPasses s) p
  pub few : length p ≤ 32
  pub loops : Loops none p none
