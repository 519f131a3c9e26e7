-- What a record knows, who writes and what it has to know, by cases.
use Rattle.std.specs.Prelude.{Some}
use Prim.Native.Nat.{ℕ, ◌≤◌, ◌<◌}
use mathlib.Core.Path.{◌≡◌, refl, sym, ap, ◌∙◌}
use mathlib.Core.List.{List, [], ◌∷◌}
use mathlib.Core.Logic.{⊎_elim}
use native.Mathlib.Omega.{arith}
use borrow.Author.Tests.{lt-ltb, le-ltb}
use lib.IntN.{pos}
use lib.ListN.{length, get_or}
use Rattle.register.specs.declared.Sizes.{Sizes}
use Rattle.register.specs.declared.cells.Cell.{Cell}
use Rattle.chain.specs.Word.{unpack, FirstHop}
use Rattle.chain.proofs.Packing.{packed_some}
use Rattle.laws.proofs.Cases.{lt_or_le}
use Rattle.plan_theory.specs.Plan.{Fact, read, word, hops, rest, line_from, back_need}
use Rattle.plan_theory.proofs.Half.{half-below}
use Rattle.plan_theory.proofs.Facts.{rest-length, line-from-pos}
use Rattle.machine_messages.specs.Held.{Held, knows, writer, needed}
use Rattle.gather_exchanges.specs.Lines.{field_of}

module _ (s : Sizes) (cells : List Cell) where
  -- a word of two or more hops is known by a message
  pub knows-told : (held : Held) (v : ℕ) (w : List ℕ) → 2 ≤ length w → knows s cells held v w ≡ held (read w) v
  unfolding knows
  knows-told held v [] h = absurd (omega arith)
  knows-told held v (f ∷ []) h = absurd (omega arith)
  knows-told held v (f ∷ g ∷ w) h = refl

-- the writer and what it has to know, by the number of hops
pub writer-one : (held : Held) (f : Fact) (u : ℕ) → hops f < 2 → writer held f u ≡ Some (pos u)
unfolding writer
writer-one held f u h = simp (lt-ltb (hops f) 2 h)

pub writer-back : (held : Held) (f : Fact) (u : ℕ) → 2 ≤ hops f → writer held f u ≡ held (back_need f) u
unfolding writer
writer-back held f u h = simp (le-ltb (hops f) 2 h)

pub needed-one : (f : Fact) → hops f < 2 → needed f ≡ word f
unfolding needed
needed-one f h = simp (lt-ltb (hops f) 2 h)

pub needed-rest : (f : Fact) → 2 ≤ hops f → needed f ≡ rest (word f)
unfolding needed
needed-rest f h = simp (le-ltb (hops f) 2 h)

-- a fact with a line has something to know
pub needed-some : (f : Fact) → line_from f ≤ hops f → 1 ≤ length (needed f)
needed-some f h =
    ⊎_elim
    (λ (one : hops f < 2). rw (needed-one f one) (omega (arith, line-from-pos f)))
    (λ (two : 2 ≤ hops f). rw (needed-rest f two) (omega (arith, rest-length (word f), half-below (hops f) two)))
    (lt_or_le (hops f) 2)

-- the field of a line, from what its writer has to know, packed
module _ (f : Fact) (n : ℕ) (e : unpack n ≡ needed f) where
  pub field-some : line_from f ≤ hops f → 1 ≤ n
  field-some has_line = packed_some n (rw e (needed-some f has_line))

  pub field_is : {g : ℕ} → FirstHop g (unpack n) → g ≡ field_of f
  unfolding field_of
  field_is h = sym (ap (λ w. get_or w 0 0) h.splits) ∙ ap (λ w. get_or w 0 0) e
