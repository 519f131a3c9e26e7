-- The program of a text that passes is made of what its lines are to the program: spaces, spare groups and the way in which a number is
-- written leave no trace in it.
use Prim.Native.Nat.{ℕ, zero, suc}
use mathlib.Core.Path.{◌≡◌, refl, sym, ap, ◌∙◌}
use mathlib.Core.Bool.{Bool, true, false, cond, not, ◌&&◌}
use mathlib.Core.List.{List, [], ◌∷◌, ◌++◌, map}
use mathlib.Core.Option.{Option, none, some}
use native.Mathlib.Omega.{arith}
use lib.Dec.{ltb}
use lib.ListN.{length}
use Rattle.laws.specs.Outcome.{refused, unless, after}
use Rattle.laws.specs.Outcome as O
use Rattle.program.specs.Program.{Program}
use Rattle.text_syntax.specs.Written.{Line, step, end, done, loop, rule}
use Rattle.text_syntax.specs.Tree as T
use Rattle.text_syntax.specs.Tree.{LineTree, line_tree}
use Rattle.text_rules.specs.declared.around.Around.TheVariants.{Unused}
use Rattle.text_rules.specs.declared.scope.Scope.{Scope}
use Rattle.text_rules.specs.Check.{State, is_outside, is_open, open_rules, line_refusal}
use Rattle.text_rules.specs.Text.{Piece, lines, piece_form, advance, line_outcome, closed_text, read_from, start, text_program}
use Rattle.text_rules.specs.Same.{SpellsText, SameProgram}
use Rattle.text_rules.proofs.Texts.{spelled-text}

-- what is read once all these lines have passed
advanced : State → List Line → State
advanced st [] = st
advanced st (l ∷ ls) = advanced (advance st l) ls

-- the same by the lines that are the same to the program
advanced_by : State → LineTree → State
advanced_by st T.step = advance st step
advanced_by st T.end = advance st end
advanced_by st T.done = advance st done
advanced_by st (T.loop f) = record { steps = st.steps; around = Unused f; open_rules = none }
advanced_by st (T.rule r) = record { steps = st.steps; around = st.around; open_rules = some (open_rules st ++ (r ∷ [])) }

advanced-tree : (st : State) (l : Line) → advance st l ≡ advanced_by st (line_tree l)
unfolding advance advanced_by line_tree
advanced-tree st step = refl
advanced-tree st end = refl
advanced-tree st done = refl
advanced-tree st (loop f) = refl
advanced-tree st (rule c a) = refl

advanced-same : (st : State) (ls ms : List Line) → map line_tree ls ≡ map line_tree ms → advanced st ls ≡ advanced st ms
unfolding advanced
advanced-same st [] [] h = refl
advanced-same st [] (m ∷ ms) h = absurd (let z : ◌≡◌ {A = ℕ} 0 1 = cc in omega arith)
advanced-same st (l ∷ ls) [] h = absurd (let z : ◌≡◌ {A = ℕ} 0 1 = cc in omega arith)
advanced-same st (l ∷ ls) (m ∷ ms) h =
    let first : line_tree l ≡ line_tree m = cc in
    let rest : map line_tree ls ≡ map line_tree ms = cc in
    let next : advance st l ≡ advance st m = advanced-tree st l ∙ ap (advanced_by st) first ∙ sym (advanced-tree st m) in
    advanced-same (advance st l) ls ms rest ∙ ap (λ (x : State). advanced x ms) next

module _ (scope : Scope) where
  read-advanced : (st : State) (k : ℕ) (ps : List Piece) (ls : List Line) (p : Program) → map piece_form ps ≡ map some ls
      → read_from scope st k ps ≡ O.done p → (advanced st ls).steps ≡ p
  unfolding read_from closed_text line_outcome after unless advanced
  read-advanced st k [] [] p h e = go (not (is_open st) && is_outside st.around) e
    where
      go : (x : Bool) → cond x (O.done st.steps) (refused 8 k) ≡ O.done p → st.steps ≡ p
      go true e = cc
      go false e = absurd (let z : ◌≡◌ {A = ℕ} 0 1 = cc in omega arith)
  read-advanced st k [] (l ∷ ls) p h e = absurd (let z : ◌≡◌ {A = ℕ} 0 1 = cc in omega arith)
  read-advanced st k (q ∷ ps) [] p h e = absurd (let z : ◌≡◌ {A = ℕ} 0 1 = cc in omega arith)
  read-advanced st k (q ∷ ps) (l ∷ ls) p h e =
      let first : piece_form q ≡ some l = cc in
      let rest : map piece_form ps ≡ map some ls = cc in
      line (read-advanced (advance st l) (suc k) ps ls p rest) (line_refusal scope st l)
      (sym (ap (λ (o : Option Line). after (line_outcome scope st k o) (λ st. read_from scope st (suc k) ps)) first) ∙ e)
    where
      line : (read_from scope (advance st l) (suc k) ps ≡ O.done p → (advanced (advance st l) ls).steps ≡ p) → (n : ℕ)
          → after (unless n k (O.done (advance st l))) (λ st. read_from scope st (suc k) ps) ≡ O.done p → (advanced (advance st l) ls).steps ≡ p
      line ih zero e = ih e
      line ih (suc n) e = absurd (let z : ◌≡◌ {A = ℕ} 0 1 = cc in omega arith)

  text-advanced : {ls : List Line} {t : List ℕ} → SpellsText ls t → {p : Program} → text_program scope t ≡ O.done p → (advanced start ls).steps ≡ p
  unfolding text_program
  text-advanced {ls} {t} w {p} e = go (ltb 8192 (length t)) e
    where
      go : (x : Bool) → cond x (refused 6 0) (read_from scope start 1 (lines t)) ≡ O.done p → (advanced start ls).steps ≡ p
      go true e = absurd (let z : ◌≡◌ {A = ℕ} 0 1 = cc in omega arith)
      go false e = read-advanced start 1 (lines t) ls p (spelled-text w) e

pub text_same : SameProgram
text_same scope ls ms t u v w h p q e f =
    sym (text-advanced scope v e) ∙ ap (λ (st : State). st.steps) (advanced-same start ls ms h) ∙ text-advanced scope w f
