-- The messages (document 01's letters) of a plan's lines, exchange by exchange.
use Rattle.std.specs.Prelude.{None, Some}
use Rattle.std.specs.Prelude.{cond, List, [], ◌∷◌, ℕ, zero, suc, eqb, ltb, pos, nat_abs}
use Rattle.register.specs.declared.Sizes.{Sizes}
use Rattle.register.specs.declared.cells.Cell.{Cell}
use Rattle.chain.specs.Reading.{Reading}
use Rattle.chain.specs.Word.{read_cell}
use Rattle.plan_theory.specs.Plan.{Fact, read, word, hops, rest, back_need, round}

-- What was sent so far for a fact and its origin u: "the value read (Read) or the addressee (Back)", missing where no message
-- was sent. A message for Back(w) is held by its addressee, one for Read(w) by u.
abbrev pub Held : Type 0
Held = Fact → ℕ → Reading

-- what record v knows: its own number, its own cells, and what a message told it
unfoldable pub knows : Sizes → List Cell → Held → ℕ → List ℕ → Reading
knows s cells held v [] = Some (pos v)
knows s cells held v (f ∷ []) = read_cell s cells v f
knows s cells held v (f ∷ g ∷ w) = held (read (f ∷ g ∷ w)) v

-- the writer of a fact's message: "Back of one hop: u writes"; otherwise the record at a, to which Back(a) has come
unfoldable pub writer : Held → Fact → ℕ → Reading
writer held f u = cond (ltb (hops f) 2) (Some (pos u)) (held (back_need f) u)

-- the word that it has to know: the one hop, or b
unfoldable pub needed : Fact → List ℕ
needed f = cond (ltb (hops f) 2) (word f) (rest (word f))

-- "the writer sends one letter .. if it holds both needed facts and both are filled. No letter means unfilled."
unfoldable pub written : Sizes → List Cell → Held → Fact → Reading → Reading
written s cells held f None = None
written s cells held f (Some v) = knows s cells held (nat_abs v) (needed f)

unfoldable pub sent : Sizes → List Cell → Held → Fact → ℕ → Reading
sent s cells held f u = written s cells held f (writer held f u)

-- after the exchanges 1 to t: in exchange t the lines of round t are done, by what was held before it
unfoldable pub held_after : Sizes → List Cell → ℕ → Held
held_after s cells zero f u = None
held_after s cells (suc t) f u = cond (eqb (round f) (suc t)) (sent s cells (held_after s cells t) f u) (held_after s cells t f u)
