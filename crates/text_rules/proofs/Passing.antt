-- A text that passes gives a program that keeps to what was checked.
use Prim.Native.Nat.{ℕ, zero, suc, ◌≤◌, ◌<◌}
use mathlib.Core.Path.{◌≡◌, refl, ap}
use mathlib.Core.Bool.{Bool, true, false, cond, not, ◌&&◌}
use mathlib.Core.List.{List, [], ◌∷◌}
use mathlib.Core.Option.{Option, none, some}
use native.Mathlib.Omega.{arith}
use borrow.Author.Tests.{ltb-true, leb-true}
use lib.Dec.{ltb}
use lib.ListN.{length, length-append}
use Rattle.register.specs.Shape.{Limits}
use Rattle.laws.specs.Outcome.{Outcome, refused, unless, after}
use Rattle.laws.specs.Outcome as O
use Rattle.register.specs.declared.Sizes.{Sizes}
use Rattle.laws.proofs.Bools.{and_both, true_false}
use Rattle.chain_text.specs.Text.{names}
use Rattle.register.specs.Load.{load}
use Rattle.register.proofs.Roundtrip.{loads}
use Rattle.register.proofs.Bounds.{limits}
use Rattle.text_syntax.specs.Written.{Line, step, end, done, loop, rule}
use Rattle.text_syntax.specs.Parts.{expressions, every_expression, terms_pass, field_named, named}
use Rattle.program.specs.Program.{Step, Program, some_target}
use Rattle.text_rules.specs.declared.scope.Scope.{Scope}
use Rattle.text_rules.specs.Check.{is_outside, is_used, State, is_open, open_rules, in_place, has_room, sorts_agree, plan_fits, line_refusal}
use Rattle.text_rules.specs.Text.{Piece, lines, piece_form, close_loop, advance, line_outcome, closed_text, read_from, start, text_program, check}
use Rattle.laws.specs.Lists.{Each}
use Rattle.program.specs.Passed.{RulePasses, RulesPass, StepPasses, Loops, ProgramPasses}
use Rattle.text_rules.proofs.Checked.{Clean, refusal_none, letter-field, rule-passes}
use Rattle.laws.proofs.Lists.{each_append}
use Rattle.text_rules.proofs.Sorts.{one_sort_each}
use Rattle.text_rules.proofs.Loops.{open_loop, loops_append, setting_fits_lem, setting_behind, outside_open, close_used, AroundPasses, setting_passes, around_passes, last-passes}

-- what holds of all that is read so far
pub record Reached (s : Sizes) (st : State) : Type 0 where
  pub each : Each (StepPasses s) st.steps
  pub few : length st.steps ≤ 32
  pub room : is_open st ≡ true → length st.steps < 32
  pub rules : RulesPass s (open_rules st)
  pub loops : Loops none st.steps (open_loop st.around)
  pub field : AroundPasses s st.around

rules-none : (s : Sizes) → RulesPass s []
unfolding some_target
rules-none s = record { each = tt; few = omega arith; one_sort_each = λ f h. refl }

pub start_reached : (s : Sizes) → Reached s start
unfolding start open_rules is_open open_loop
start_reached s = record { each = tt; few = omega arith; room = λ o. true_false o refl; rules = rules-none s; loops = refl; field = tt }

close_each : (s : Sizes) (xs : List Step) → Each (StepPasses s) xs → Each (StepPasses s) (close_loop xs)
unfolding close_loop
close_each s [] h = tt
close_each s (x ∷ []) h = (record { rules = h.0.rules; fits = h.0.fits; field = last-passes s x.setting h.0.field }, tt)
close_each s (x ∷ y ∷ xs) h = (h.0, close_each s (y ∷ xs) h.1)

pub close_length : (xs : List Step) → length (close_loop xs) ≡ length xs
unfolding close_loop
close_length [] = refl
close_length (x ∷ []) = refl
close_length (x ∷ y ∷ xs) = ap suc (close_length (y ∷ xs))

module _ (scope : Scope) (lim : Limits scope.sizes) where
  abbrev s : Sizes
  s = scope.sizes

  pub advance_reached : (st : State) (l : Line) → Reached s st → Clean scope st l → Reached s (advance st l)
  unfolding advance is_open open_rules in_place has_room sorts_agree plan_fits open_loop named field_named terms_pass expressions every_expression
  advance_reached st step w k = record { each = w.each; few = w.few; room = λ o. ltb-true _ 32 k.room; rules = rules-none s; loops = w.loops; field = w.field }
  advance_reached st end w k = record {
    each = each_append (StepPasses s) st.steps _ w.each (record { rules = w.rules; fits = leb-true _ 64 k.fits; field = setting_passes s st.around w.field }, tt);
    few = simp length-append (omega (arith, w.room k.placed));
    room = λ o. true_false o refl;
    rules = rules-none s;
    loops = rw (← (setting_behind st.around)) (loops_append none (open_loop st.around) st.steps _ w.loops (setting_fits_lem st.around));
    field = around_passes s st.around w.field;
  }
  advance_reached st (loop f) w k = record {
    each = w.each;
    few = w.few;
    room = λ o. true_false o refl;
    rules = rules-none s;
    loops = rw (outside_open st.around (and_both (not (is_open st)) (is_outside st.around) k.placed).1) at w.loops;
    field = letter-field s lim f (and_both (names s f) true k.is_named).0;
  }
  advance_reached st done w k = record {
    each = close_each s st.steps w.each;
    few = simp close_length w.few;
    room = λ o. true_false o refl;
    rules = rules-none s;
    loops = close_used st.around st.steps (and_both (not (is_open st)) (is_used st.around) k.placed).1 w.loops;
    field = tt;
  }
  advance_reached st (rule c a) w k = record {
    each = w.each;
    few = w.few;
    room = λ o. w.room k.placed;
    rules = record {
      each = each_append (RulePasses s) (open_rules st) _ w.rules.each (rule-passes scope lim st c a k, tt);
      few = simp length-append (omega (arith, ltb-true (length (open_rules st)) 32 k.room));
      one_sort_each = one_sort_each (open_rules st) c w.rules.one_sort_each a k.sorts;
    };
    loops = w.loops;
    field = w.field;
  }

  -- the lines from some line on
  read-passes : (st : State) (k : ℕ) (ps : List Piece) (p : Program) → Reached s st → read_from scope st k ps ≡ O.done p → ProgramPasses s p
  unfolding read_from closed_text line_outcome after unless
  read-passes st k [] p w e = go (not (is_open st) && is_outside st.around) refl e
    where
      passes : is_outside st.around ≡ true → ProgramPasses s st.steps
      passes h = record { each = w.each; few = w.few; loops = rw (outside_open st.around h) at w.loops }

      go : (x : Bool) → not (is_open st) && is_outside st.around ≡ x → cond x (O.done st.steps) (refused 8 k) ≡ O.done p → ProgramPasses s p
      go true h e = let same_kind : st.steps ≡ p = cc in rw same_kind at (passes (and_both (not (is_open st)) (is_outside st.around) h).1)
      go false h e = absurd (let z : ◌≡◌ {A = ℕ} 0 1 = cc in omega arith)
  read-passes st k (q ∷ ps) p w e = go (λ l. read-passes (advance st l) (suc k) ps p) (piece_form q) e
    where
      line : (l : Line) → (Reached s (advance st l) → read_from scope (advance st l) (suc k) ps ≡ O.done p → ProgramPasses s p) → (n : ℕ) → line_refusal scope st l ≡ n
          → after (unless n k (O.done (advance st l))) (λ st. read_from scope st (suc k) ps) ≡ O.done p → ProgramPasses s p
      line l ih zero h e = ih (advance_reached st l w (refusal_none scope st l h)) e
      line l ih (suc n) h e = absurd (let z : ◌≡◌ {A = ℕ} 0 1 = cc in omega arith)

      go : ((l : Line) → Reached s (advance st l) → read_from scope (advance st l) (suc k) ps ≡ O.done p → ProgramPasses s p) → (o : Option Line)
          → after (line_outcome scope st k o) (λ st. read_from scope st (suc k) ps) ≡ O.done p → ProgramPasses s p
      go ih none e = absurd (let z : ◌≡◌ {A = ℕ} 0 1 = cc in omega arith)
      go ih (some l) e = line l (ih l) (line_refusal scope st l) refl e

  -- a text that passes gives a program that keeps to what was checked
  pub text-passes : (t : List ℕ) (p : Program) → text_program scope t ≡ O.done p → ProgramPasses s p
  unfolding text_program
  text-passes t p e = go (ltb 8192 (length t)) e
    where
      go : (x : Bool) → cond x (refused 6 0) (read_from scope start 1 (lines t)) ≡ O.done p → ProgramPasses s p
      go true e = absurd (let z : ◌≡◌ {A = ℕ} 0 1 = cc in omega arith)
      go false e = read-passes start 1 (lines t) p (start_reached s) e

-- a register and a text that pass: the register has loaded
pub check-passes : (file t : List ℕ) (p : Program) → check file t ≡ O.done p → (s : Sizes) × (load file ≡ O.done s) × ProgramPasses s p
unfolding check after
check-passes file t p e = go (load file) refl e
  where
    go : (o : Outcome Sizes) → load file ≡ o → after o (λ s. text_program (record { sizes = s }) t) ≡ O.done p → (s : Sizes) × (load file ≡ O.done s) × ProgramPasses s p
    go (O.done s) h e = (s, h, text-passes (record { sizes = s }) (limits s (loads s file h).within) t p e)
    go (refused k line) h e = absurd (let z : ◌≡◌ {A = ℕ} 0 1 = cc in omega arith)
