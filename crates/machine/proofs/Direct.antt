-- What the hop-by-hop machine reads in a valid register: a value that fits, and for a reference word a record.
use Rattle.std.specs.Prelude.{None, Some}
use Prim.Native.Nat.{ℕ, ◌≤◌, ◌<◌}
use mathlib.Core.Path.{◌≡◌, sym, ◌∙◌}
use mathlib.Core.Bool.{Bool, true, or-false}
use mathlib.Core.List.{List, [], ◌∷◌}
use native.Mathlib.Omega.{arith}
use borrow.Author.Tests.{ltb-true, lt-leb}
use lib.Dec.{ltb}
use lib.IntN.{pos, nat_abs}
use mir.Syntax.{w32}
use mir.Val.{SFits}
use Rattle.laws.proofs.Bools.{and_both}
use Rattle.integers.proofs.Complement.{index_is}
use Rattle.register.specs.File.{cell_index}
use Rattle.register.specs.Shape.{Valid}
use Rattle.register.specs.declared.Sizes.{Sizes}
use Rattle.register.specs.declared.cells.Cell.{Cell}
use Rattle.chain.specs.Reading.{Reading}
use Rattle.chain.specs.Word.{is_reference, has_field, readable, Passes, column, read_cell, hop, follow, value_at_record, refers_to, reading_value}
use Rattle.chain.proofs.ReadOf.{read-value}
use Rattle.chain.proofs.Following.{own_refers, hop_refers}
use Rattle.program.specs.Program.{Rule}
use Rattle.program.specs.Passed.{is_reference_word}
use Rattle.machine.specs.Run.{direct}

-- a reference field of the register
reference_below : (s : Sizes) (f : ℕ) → has_field s f ≡ true → is_reference f ≡ true → f < s.references
unfolding has_field is_reference
reference_below s f h e = ltb-true f s.references (sym (or-false _) ∙ simp (lt-leb 8 f (ltb-true f 8 e)) at h)

-- a reference fits: records are few
refers_fits : (n : ℕ) (x : Reading) → n ≤ 4096 → refers_to n x ≡ true → SFits w32 (reading_value x)
unfolding refers_to reading_value
refers_fits n None l h = record { sfits = omega arith }
refers_fits n (Some z) l h = let i = index_is n z h in rw i.0 (record { sfits = omega arith })

-- what is known of a reading
record Read (s : Sizes) (reference : Bool) (x : Reading) : Type 0 where
  fits : SFits w32 (reading_value x)
  refers : reference ≡ true → refers_to s.records x ≡ true

module _ {s : Sizes} {cells : List Cell} (v : Valid s cells) where
  -- one hop, to a value that fits
  hop-fits : (x : Reading) (f : ℕ) → SFits w32 (reading_value (hop s cells x f))
  unfolding hop read_cell reading_value
  hop-fits None f = record { sfits = omega arith }
  hop-fits (Some z) f = rw read-value (v.values (cell_index s (nat_abs z) (column s f)))

  -- all hops of a word
  follow-read : (x : Reading) (w : List ℕ) → readable s w ≡ true → refers_to s.records x ≡ true → Read s (is_reference_word w) (follow s cells x w)
  unfolding follow readable is_reference_word
  follow-read x [] k h = record { fits = refers_fits s.records x v.limits.records≤ h; refers = λ e. h }
  follow-read x (f ∷ []) k h = record { fits = hop-fits x f; refers = λ e. hop_refers v x f (reference_below s f k e) h }
  follow-read x (f ∷ g ∷ w) k h =
      let first = and_both (ltb f s.references) (readable s (g ∷ w)) k in
      follow-read (hop s cells x f) (g ∷ w) first.1 (hop_refers v x f (ltb-true f s.references first.0) h)

  module _ (rs : List Rule) (u : ℕ) (inside : u < s.records) (w : List ℕ) (k : Passes s w) where
    -- from the record's own number
    direct-read : Read s (is_reference_word w) (direct s rs cells u w)
    unfolding direct value_at_record
    direct-read = follow-read (Some (pos u)) w k.follows (own_refers s.records u inside)

    pub direct-fits : SFits w32 (reading_value (direct s rs cells u w))
    direct-fits = direct-read.fits

    pub direct_refers : is_reference_word w ≡ true → refers_to s.records (direct s rs cells u w) ≡ true
    direct_refers = direct-read.refers
