-- A single reading: what document 01 answers for a register file, a chain's text and a record number.
use Rattle.std.specs.Prelude.{Result, Ok, Err, ℕ, cond, List, [], ◌∷◌, ltb}
use Rattle.laws.specs.Outcome.{Outcome, done, refused, unless, after}
use Rattle.register.specs.File.{cells_of_file}
use Rattle.register.specs.Load.{load}
use Rattle.register_check.specs.Number.{refusal_number as register-number}
use Rattle.register.specs.declared.Sizes.{Sizes}
use Rattle.register.specs.declared.cells.Cell.{Cell}
use Rattle.chain.specs.Reading.{Reading}
use Rattle.chain_text.specs.declared.letters.Letters.{Letters}
use Rattle.op_read.specs.declared.Refusal.{Refusal}
use Rattle.op_read.specs.declared.Refusal.TheVariants.{Form as BadForm, Field, Kind, Hops}
use Rattle.op_read.specs.declared.ReadingRefusal.{ReadingRefusal}
use Rattle.op_read.specs.declared.ReadingRefusal.TheVariants.{Register, Chain as BadChain, Record}
use Rattle.chain.specs.Word.{unpack, value_at_record}
use Rattle.chain_text.specs.Text.{Form, formed, unformed, form, letters_refusal, word_of}

-- the hop word of a single chain, "checked by 7, 9, 10, 11, with line 1"
unfoldable pub word_of_form : Sizes → Form → Outcome (List ℕ)
word_of_form s unformed = refused 7 1
word_of_form s (formed ls (b ∷ rest)) = refused 7 1
word_of_form s (formed ls []) = unless (letters_refusal s ls) 1 (done (word_of ls))

-- a word at record u: "16 record number not below n"
unfoldable pub at_record : Sizes → List Cell → ℕ → List ℕ → Outcome Reading
at_record s cells u w = cond (ltb u s.records) (done (value_at_record s cells w u)) (refused 16 0)

-- over a register that loads: the chain, then the record number
unfoldable pub reading_loaded : Sizes → List ℕ → List ℕ → ℕ → Outcome Reading
reading_loaded s file text u = after (word_of_form s (form text)) (at_record s (cells_of_file s file) u)

-- "The register is looked at first, then rules or chain, then 16 or 17."
unfoldable pub reading : List ℕ → List ℕ → ℕ → Outcome Reading
reading file text u = after (load file) (λ s. reading_loaded s file text u)

-- document 01's number for each refusal of a chain
unfoldable pub chain_refusal_number : Refusal → ℕ
chain_refusal_number BadForm = 7
chain_refusal_number Field = 9
chain_refusal_number Kind = 10
chain_refusal_number Hops = 11

-- the outcome of each answer for a chain
unfoldable pub chain_outcome : Result ℕ Refusal → Outcome (List ℕ)
chain_outcome (Ok n) = done (unpack n)
chain_outcome (Err r) = refused (chain_refusal_number r) 1

-- the number and the line of each refusal of a reading
unfoldable pub refusal_number : ReadingRefusal → ℕ
refusal_number (Register r) = register-number r
refusal_number (BadChain r) = chain_refusal_number r
refusal_number Record = 16

unfoldable pub refusal_line : ReadingRefusal → ℕ
refusal_line (Register r) = 0
refusal_line (BadChain r) = 1
refusal_line Record = 0

-- the outcome of each answer for a reading
unfoldable pub reading_outcome : Result Reading ReadingRefusal → Outcome Reading
reading_outcome (Ok x) = done x
reading_outcome (Err r) = refused (refusal_number r) (refusal_line r)

-- the answer for what is known of the letters
unfoldable pub judged_of : Letters → Result ℕ Refusal
judged_of x = cond x.named (cond x.kinded (cond x.long (Err Hops) (Ok x.packed)) (Err Kind)) (Err Field)
