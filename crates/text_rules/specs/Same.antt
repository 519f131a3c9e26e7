-- What is claimed of two texts that say the same: spaces, spare groups and the way in which a number is written leave no trace in the program.
use Rattle.std.specs.Prelude.{ℕ, ◌≡◌, false, List, [], ◌∷◌, ◌++◌, map}
use Rattle.laws.specs.Outcome.{done}
use Rattle.program.specs.Program.{Program}
use Rattle.text_syntax.specs.Written.{Line}
use Rattle.text_syntax.specs.Printed.{printed_line, Proper}
use Rattle.text_syntax.specs.Spelling.{Spells}
use Rattle.text_syntax.specs.Tree.{line_tree}
use Rattle.text_rules.specs.declared.scope.Scope.{Scope}
use Rattle.text_rules.specs.Text.{text_program}

-- the text of some lines: each spells the tokens of its form
pub data SpellsText : List Line → List ℕ → Type 0 where
  no_line : SpellsText [] []
  one_more : {l : Line} {ls : List Line} {t u : List ℕ} → Spells false (printed_line l) t → Proper l → SpellsText ls u → SpellsText (l ∷ ls) (t ++ (10 ∷ u))

-- two texts that pass, whose lines are line by line the same to the program, have one program
abbrev pub SameProgram : Type 0
SameProgram =
    (scope : Scope) (ls ms : List Line) (t u : List ℕ) → SpellsText ls t → SpellsText ms u → map line_tree ls ≡ map line_tree ms
    → (p q : Program) → text_program scope t ≡ done p → text_program scope u ≡ done q → p ≡ q
