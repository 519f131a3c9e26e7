-- Cases of document 02, M-105: how the terms of an expression are grouped, and which of its sums are checked for range.
use Rattle.std.specs.Prelude.{ℕ, ◌≡◌, refl, List, [], ◌∷◌, pos, negsuc}
use Rattle.laws.specs.Outcome.{done, refused}
use Rattle.register.specs.declared.cells.Cell.{Cell}
use Rattle.register.specs.declared.cells.Cell.TheVariants.{Missing, Measured}
use Rattle.program.specs.declared.rule.Operator.TheVariants.{Plus, Minus, Smaller}
use Rattle.program.specs.Program.{Expression, reading, constant, operation, own, Step}
use Rattle.machine.specs.Run.{complete, offended}
use Rattle.paper_examples.specs.Printed.{printed_sizes}
use Rattle.paper_examples.specs.Programs.{example_program, untested, step_of}
use Rattle.paper_examples.specs.Runs.{example_run}

-- a step that stores this in M
abbrev pub storing : Expression → Step
storing x = step_of (untested (own 8) x ∷ [])

abbrev pub number : ℕ → Expression
number n = constant (pos n)

-- "equal ranks go from left to right"
pub left_to_right : (n : ℕ) → example_program n "step\nM[u] := 1 - 2 - 3\nend\n"
    ≡ done (storing (operation Minus (operation Minus (number 1) (number 2)) (number 3)) ∷ [])
unfolding example_program
left_to_right n = refl

-- "`<?` (the smaller; both kinds) binds tighter than `+` and `-`"
pub smaller-first : (n : ℕ) → example_program n "step\nM[u] := 1 + 2 <? 3\nend\n"
    ≡ done (storing (operation Plus (number 1) (operation Smaller (number 2) (number 3))) ∷ [])
unfolding example_program
smaller-first n = refl

-- "a minus where an operand must begin belongs to the digits straight after it"
abbrev pub two_minuses : Step
two_minuses = storing (operation Minus (number 1) (constant (negsuc 0)))

pub minuses_close : (n : ℕ) → example_program n "step\nM[u] := 1--1\nend\n" ≡ done (two_minuses ∷ [])
unfolding example_program
minuses_close n = refl

pub minuses_apart : (n : ℕ) → example_program n "step\nM[u] := 1 - -1\nend\n" ≡ done (two_minuses ∷ [])
unfolding example_program
minuses_apart n = refl

pub minus_alone : (n : ℕ) → example_program n "step\nM[u] := - 1\nend\n" ≡ refused 7 2
unfolding example_program
minus_alone n = refl

-- texts "that differ only in spacing and spare brackets"
pub same-program : (n : ℕ) → example_program n "step\nM[u]:=1-(2<?M[u])\nend\n" ≡ example_program n "step\nM [u] := (1) - ((2 <? M[ u ]))\nend\n"
unfolding example_program
same-program n = refl

-- the printed register without its depths
abbrev pub no_depths : List Cell
no_depths = Measured (pos 1) ∷ Missing ∷ Measured (pos 2) ∷ Missing ∷ Missing ∷ Missing ∷ []

-- "Each inner sum is checked for range .. when all its operands are filled": the left one of these is filled ..
abbrev pub left_step : Step
left_step = storing (operation Plus (operation Plus (number 2147483647) (number 1)) (reading (8 ∷ [])))

pub left-text : (n : ℕ) → example_program n "step\nM[u] := 2147483647 + 1 + M[u]\nend\n" ≡ done (left_step ∷ [])
unfolding example_program
left-text n = refl

pub left-stops : example_run printed_sizes (left_step ∷ []) 1000 no_depths
    ≡ record { cells = no_depths; trace = []; ending = offended (record { row = 0; column = 1 }) }
unfolding example_run printed_sizes
left-stops = refl

-- .. and neither of these
abbrev pub right_step : Step
right_step = storing (operation Plus (number 2147483647) (operation Plus (number 1) (reading (8 ∷ []))))

pub right_text : (n : ℕ) → example_program n "step\nM[u] := 2147483647 + (1 + M[u])\nend\n" ≡ done (right_step ∷ [])
unfolding example_program
right_text n = refl

pub right_stands : example_run printed_sizes (right_step ∷ []) 1000 no_depths
    ≡ record { cells = no_depths; trace = (right_step, no_depths) ∷ []; ending = complete }
unfolding example_run printed_sizes
right_stands = refl
