-- The place that 21 names is one of the register's, and a sum or total is out of range there.
use Prim.Native.Nat.{ℕ, zero, suc, ◌<◌}
use mathlib.Core.Path.{◌≡◌, refl, ap}
use mathlib.Core.Logic.{inl, inr}
use mathlib.Core.Bool.{Bool, true, false, cond}
use mathlib.Core.List.Memᴰ
use mathlib.Core.List.{List, [], ◌∷◌}
use mathlib.Core.Option.{Option, none, some}
use native.Mathlib.Omega.{arith}
use Rattle.laws.specs.Lists.{Each}
use Rattle.register.specs.File.{width, cell_index}
use Rattle.register.specs.Shape.{Limits}
use Rattle.register.specs.declared.Sizes.{Sizes}
use Rattle.register.specs.declared.cells.Cell.{Cell}
use Rattle.chain.specs.Reading.{Reading}
use Rattle.chain.specs.Word.{column}
use Rattle.chain.proofs.Following.{column-below}
use Rattle.program.specs.Program.{Rule, target_field}
use Rattle.program.specs.Passed.{RulePasses}
use Rattle.machine.specs.Local.{offends, sum_column}
use Rattle.machine.specs.Step.{Offence, earlier, first_some, in_record, sum_offence, total_column, total_offence, offence}
use Rattle.machine.specs.Named.{SumThere, Named}
use Rattle.machine.proofs.Stops.{in_range_behind}

-- the first that is there is one of them
first_some-found : {A : Type 0} (f : ℕ → Option A) (n : ℕ) {x : A} → first_some n f ≡ some x → (i : ℕ) × (i < n) × (f i ≡ some x)
unfolding first_some earlier
first_some-found f zero e = absurd (let z : ◌≡◌ {A = ℕ} 0 1 = cc in omega arith)
first_some-found {A} f (suc n) {x} e = go (first_some n f) (λ h. first_some-found f n h) e
  where
    go : (o : Option A) → (o ≡ some x → (i : ℕ) × (i < n) × (f i ≡ some x)) → earlier o (f n) ≡ some x → (i : ℕ) × (i < suc n) × (f i ≡ some x)
    go none r h = (n, omega arith, h)
    go (some y) r h = let (i, l, p) = r h in (i, omega arith, p)

in_record-found : (u : ℕ) (c : Option ℕ) {x : Offence} → in_record u c ≡ some x → (u ≡ x.row) × (c ≡ some x.column)
unfolding in_record
in_record-found u none e = absurd (let z : ◌≡◌ {A = ℕ} 0 1 = cc in omega arith)
in_record-found u (some c) {x} e =
    let is : ◌≡◌ {A = Offence} (record { row = u; column = c }) x = cc in
    (ap (λ (o : Offence). o.row) is, ap (λ (o : Offence). some o.column) is)

module _ (s : Sizes) where
  sum_column-found : Limits s → (read : List ℕ → Reading) (rs : List Rule) {c : ℕ} → Each (RulePasses s) rs → sum_column s read rs ≡ some c
      → (c < width s) × SumThere s read rs c
  unfolding sum_column
  sum_column-found l read [] k e = absurd (let z : ◌≡◌ {A = ℕ} 0 1 = cc in omega arith)
  sum_column-found l read (r ∷ rs) {c} k e = go (offends read r) refl (λ h. sum_column-found l read rs k.1 h) e
    where
      go : (t : Bool) → offends read r ≡ t → (sum_column s read rs ≡ some c → (c < width s) × SumThere s read rs c)
          → cond t (some (column s (target_field r.target))) (sum_column s read rs) ≡ some c → (c < width s) × SumThere s read (r ∷ rs) c
      go true q p h =
          let is : column s (target_field r.target) ≡ c = cc in
          (rw (← is) (column-below s l (target_field r.target) k.0.field), (r, Memᴰ.head refl, q, is))
      go false q p h = let (b, (r', m, o, is)) = p h in (b, (r', Memᴰ.tail m, o, is))

  total_column-found : (isIn : ℕ → Bool) (u : ℕ) {c : ℕ} → total_column s isIn u ≡ some c → (c < width s) × (isIn (cell_index s u c) ≡ false)
  unfolding total_column
  total_column-found isIn u {c} e =
      let (d, l, h) = first_some-found _ (width s) e in
      go d l (isIn (cell_index s u d)) refl h
    where
      go : (d : ℕ) → d < width s → (t : Bool) → isIn (cell_index s u d) ≡ t → cond t none (some d) ≡ some c → (c < width s) × (isIn (cell_index s u c) ≡ false)
      go d l true q h = absurd (let z : ◌≡◌ {A = ℕ} 0 1 = cc in omega arith)
      go d l false q h = let is : d ≡ c = cc in rw (← is) (l, q)

module _ {s : Sizes} (limits : Limits s) (read : ℕ → List ℕ → Reading) {rs : List Rule} (k : Each (RulePasses s) rs) (cells : List Cell) where
  sum-named : {x : Offence} → sum_offence s read rs ≡ some x → Named s read rs cells x
  unfolding sum_offence
  sum-named e =
      let (u, l, h) = first_some-found _ s.records e in
      let (is, c) = in_record-found u (sum_column s (read u) rs) h in
      let (b, there) = sum_column-found s limits (read u) rs k c in
      record { row< = rw (← is) l; column< = b; offends_there = inl (rw (← is) there) }

  total-named : {x : Offence} → total_offence s (in_range_behind s read rs cells) ≡ some x → Named s read rs cells x
  unfolding total_offence
  total-named e =
      let (u, l, h) = first_some-found _ s.records e in
      let (is, c) = in_record-found u (total_column s (in_range_behind s read rs cells) u) h in
      let (b, out) = total_column-found s (in_range_behind s read rs cells) u c in
      record { row< = rw (← is) l; column< = b; offends_there = inr (rw (← is) out) }

  -- so it is in every step whose rules pass
  pub offence-named : {x : Offence} → offence s read rs cells ≡ some x → Named s read rs cells x
  unfolding offence earlier
  offence-named {x} e = go (sum_offence s read rs) sum-named e
    where
      go : (o : Option Offence) → (o ≡ some x → Named s read rs cells x)
          → earlier o (total_offence s (in_range_behind s read rs cells)) ≡ some x → Named s read rs cells x
      go none p h = total-named h
      go (some y) p h = p h
