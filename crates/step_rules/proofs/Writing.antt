-- What a rule's answer at a record tells of the rule: whether its sum offends, and what it leaves of the cells.
use Rattle.std.specs.Prelude.{None, Some}
use Prim.Native.Nat.{ℕ}
use mathlib.Core.Path.{◌≡◌, refl, sym, ap, subst, ◌∙◌}
use mathlib.Core.Bool.{Bool, true, false, cond}
use mathlib.Core.List.{List}
use lib.IntN.{ℤ}
use lib.ListN.{set}
use lib.Seq.{set-get_or}
use Rattle.register.specs.File.{cell_index}
use Rattle.register.specs.declared.Sizes.{Sizes}
use Rattle.register.specs.declared.cells.Cell.{Cell}
use Rattle.register.specs.declared.cells.Cell.TheVariants.{Missing, WorkedOut}
use Rattle.chain.specs.Reading.{Reading}
use Rattle.chain.specs.Word.{column}
use Rattle.program.specs.Program.{Target, own, remote, Rule, target_field}
use Rattle.machine.specs.Value.{value, holds}
use Rattle.machine.specs.Local.{stored_over, assign, offends, local_rule}
use Rattle.step_effects.specs.Answers.{target_write, write_of}
use Rattle.step_effects.specs.declared.stored.Write.{Write}
use Rattle.step_effects.specs.declared.stored.Write.TheVariants.{Nothing, Store, OutOfRange}

-- the rule stores nothing
pub record Idles (read : List ℕ → Reading) (r : Rule) : Type 0 where
  pub in_range : offends read r ≡ false
  pub cells_are : (s : Sizes) (u : ℕ) (d : List Cell) → local_rule s read u r d ≡ d

-- it stores z in field f
pub record Stores (read : List ℕ → Reading) (r : Rule) (f : ℕ) (z : ℤ) : Type 0 where
  pub in_range : offends read r ≡ false
  pub field_is : f ≡ target_field r.target
  pub cells_are : (s : Sizes) (u : ℕ) (d : List Cell) → local_rule s read u r d ≡ set d (cell_index s u (column s f)) (WorkedOut z)

-- its sum for field f is out of range
pub record Offends (read : List ℕ → Reading) (r : Rule) (f : ℕ) : Type 0 where
  pub out_of_range : offends read r ≡ true
  pub field_is : f ≡ target_field r.target

abbrev pub Tells : (List ℕ → Reading) → Rule → Write → Type 0
Tells read r Nothing = Idles read r
Tells read r (Store f z) = Stores read r f z
Tells read r (OutOfRange f) = Offends read r f

module _ (read : List ℕ → Reading) (r : Rule) where
  -- the cases of a rule
  idle : holds read r.test ≡ false → (s : Sizes) (u : ℕ) (d : List Cell) → local_rule s read u r d ≡ d
  unfolding local_rule
  idle h s u d = simp h

  done : holds read r.test ≡ true → {t : Target} {x : Reading} → r.target ≡ t → value read r.expression ≡ x
      → (s : Sizes) (u : ℕ) (d : List Cell) → local_rule s read u r d ≡ assign s u t x d
  unfolding local_rule
  done h k l s u d = simp (h, k, l)

  tells : (o h : Bool) (t : Target) (x : Reading) → offends read r ≡ o → holds read r.test ≡ h → r.target ≡ t → value read r.expression ≡ x
      → Tells read r (cond o (OutOfRange (target_field t)) (cond h (target_write t x) Nothing))
  unfolding target_write assign stored_over target_field
  tells true h t x p q k l = record { out_of_range = p; field_is = ap target_field (sym k) }
  tells false false t x p q k l = record { in_range = p; cells_are = idle q }
  tells false true (own f) None p q k l = record { in_range = p; cells_are = λ s u d. done q k l s u d ∙ set-get_or d _ Missing }
  tells false true (own f) (Some z) p q k l = record { in_range = p; field_is = ap target_field (sym k); cells_are = done q k l }
  tells false true (remote j f w) x p q k l = record { in_range = p; cells_are = done q k l }

  pub write_tells : Tells read r (write_of read r)
  unfolding write_of
  write_tells = tells (offends read r) (holds read r.test) r.target (value read r.expression) refl refl refl refl

  pub told : {w : Write} → write_of read r ≡ w → Tells read r w
  told e = subst (Tells read r) e write_tells
