-- The path behind a single reading: "A tool takes a record and a chain and lists each hop's record, field and cell" (M-109).
use Rattle.std.specs.Prelude.{Result, Ok, Err, IfOk, ℕ, ◌≡◌, cond, List, map, ltb}
use Rattle.laws.specs.Outcome.{Outcome, done, refused, after}
use Rattle.register.specs.File.{cells_of_file}
use Rattle.register.specs.Load.{load}
use Rattle.register.specs.declared.Sizes.{Sizes}
use Rattle.register.specs.declared.cells.Cell.{Cell}
use Rattle.chain.specs.Reading.{Reading}
use Rattle.chain_text.specs.Text.{form}
use Rattle.chain_path.specs.Path.{path_at_record, shows, hops_of, HoldsPath}
use Rattle.chain_path.specs.declared.Hop.{Hop}
use Rattle.chain_path.specs.declared.Path.{Path}
use Rattle.op_read.specs.declared.ReadingRefusal.{ReadingRefusal}
use Rattle.op_read.specs.Reading.{word_of_form, refusal_number, refusal_line}

-- a word at record u: "16 record number not below n"
unfoldable pub path_of_word : Sizes → List Cell → ℕ → List ℕ → Outcome (List Hop)
path_of_word s cells u w = cond (ltb u s.records) (done (path_at_record s cells w u)) (refused 16 0)

-- over a register that loads: the chain, then the record number
unfoldable pub path_loaded : Sizes → List ℕ → List ℕ → ℕ → Outcome (List Hop)
path_loaded s file text u = after (word_of_form s (form text)) (path_of_word s (cells_of_file s file) u)

-- "The register is looked at first, then rules or chain, then 16 or 17."
unfoldable pub reading_path : List ℕ → List ℕ → ℕ → Outcome (List Hop)
reading_path file text u = after (load file) (λ s. path_loaded s file text u)

-- what a path shows, of each cell its value and whether it is filled
abbrev pub path_shows : Outcome (List Hop) → Outcome (List (ℕ × ℕ × Reading))
path_shows o = after o (λ hs. done (map shows hs))

-- the outcome of each answer: the hops of its path, or document 01's number and line
unfoldable pub path_outcome : Result Path ReadingRefusal → Outcome (List Hop)
path_outcome (Ok p) = done (hops_of p)
path_outcome (Err r) = refused (refusal_number r) (refusal_line r)

-- an answer of this outcome, whose path holds its hops
pub record PathAnswers (o : Outcome (List Hop)) (a : Result Path ReadingRefusal) : Type 0 where
  pub outcome_is : path_outcome a ≡ o
  pub holds : IfOk a (λ p. HoldsPath p (hops_of p))
