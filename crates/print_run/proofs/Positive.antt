-- No refusal of a check has the number 0.
use Prim.Native.Nat.{ℕ, zero, suc, ◌+◌, ◌*◌, ◌≤◌}
use mathlib.Core.Path.{◌≡◌}
use mathlib.Core.List.{List, [], ◌∷◌}
use mathlib.Core.Option.{Option, none, some}
use mathlib.Core.Bool.{not, ◌&&◌}
use native.Mathlib.Omega.{arith}
use lib.Dec.{eqb, ltb}
use lib.ListN.{length}
use Rattle.laws.specs.Outcome.{Outcome, done, refused, unless, after}
use Rattle.laws.proofs.Bools.{cond_both}
use Rattle.register.specs.File.{sizes_of, cell_count}
use Rattle.register.specs.Load.{within_limits, load, load_sized}
use Rattle.program.specs.Program.{Program}
use Rattle.text_syntax.specs.Written.{Line}
use Rattle.text_rules.specs.Check.{State, is_outside, is_open}
use Rattle.text_rules.specs.declared.scope.Scope.{Scope}
use Rattle.text_rules.specs.Text.{Piece, line_outcome, closed_text, read_from, text_program, check}

-- a result, or a refusal with a number above 0
data Positive {A : Type 0} : Outcome A → Type 0 where
  result : {a : A} → Positive (done a)
  above_0 : {n line : ℕ} → Positive (refused (suc n) line)

unless_positive : {A : Type 0} (n line : ℕ) (o : Outcome A) → Positive o → Positive (unless n line o)
unfolding unless
unless_positive zero line o h = h
unless_positive (suc n) line o h = above_0

after_positive : {A B : Type 0} (o : Outcome A) (f : A → Outcome B) → Positive o → ((a : A) → Positive (f a)) → Positive (after o f)
unfolding after
after_positive (done a) f h k = k a
after_positive (refused n line) f above_0 k = above_0

load_positive : (file : List ℕ) → Positive (load file)
unfolding load load_sized
load_positive file =
    let s = sizes_of file in
    let whole = eqb (length file) (12 + 5 * cell_count s) in
    cond_both Positive (ltb (length file) 12) _ _ above_0
    (cond_both Positive (within_limits s) _ _ (cond_both Positive whole _ _ (unless_positive _ 0 _ result) above_0) above_0)

line_positive : (scope : Scope) (st : State) (k : ℕ) (l : Option Line) → Positive (line_outcome scope st k l)
unfolding line_outcome
line_positive scope st k none = above_0
line_positive scope st k (some l) = unless_positive _ k _ result

read_positive : (scope : Scope) (st : State) (k : ℕ) (ps : List Piece) → Positive (read_from scope st k ps)
unfolding read_from closed_text
read_positive scope st k [] = cond_both Positive (not (is_open st) && is_outside st.around) _ _ result above_0
read_positive scope st k (p ∷ ps) = after_positive _ _ (line_positive scope st k _) (λ st. read_positive scope st (suc k) ps)

check_positive : (file text : List ℕ) → Positive (check file text)
unfolding check text_program
check_positive file text = after_positive _ _ (load_positive file) (λ s. cond_both Positive (ltb 8192 (length text)) _ _ above_0 (read_positive (record { sizes = s }) _ 1 _))

pub refusal_positive : (file text : List ℕ) {n line : ℕ} → check file text ≡ refused n line → 1 ≤ n
refusal_positive file text e = above (rw e at (check_positive file text))
  where
    above : {n line : ℕ} → Positive {A = Program} (refused n line) → 1 ≤ n
    above above_0 = omega arith
