-- The local rules of a step, record by record and rule by rule: what the working cells hold so far.
use Prim.Native.Nat.{ℕ, zero, suc, ◌+◌, ◌<◌}
use mathlib.Core.Path.{◌≡◌, refl, sym, ap, ap₂, subst, ◌∙◌}
use mathlib.Core.Bool.{Bool, true, false}
use mathlib.Core.List.{List, [], ◌∷◌, ◌++◌, map, map-append}
use mathlib.Core.Option.{none, some}
use native.Mathlib.Omega.{arith}
use lib.IntN.{ℤ}
use native.Mathlib.Decide.{dec_lt}
use lib.ListN.{length, get_or, take, drop, length-take}
use lib.Seq.{take-suc, take-take, split_at, get_or-take}
use mir.Syntax.{w32}
use mir.Val.{SFits}
use Rattle.register.specs.Cells.{value_of}
use Rattle.register.specs.File.{cell_count, cell_index}
use Rattle.register.specs.Shape.{Limits}
use Rattle.register.specs.declared.Sizes.{Sizes}
use Rattle.register.specs.declared.cells.Cell.{Cell}
use Rattle.register.specs.declared.cells.Cell.TheVariants.{WorkedOut}
use Rattle.register.proofs.Bounds.{cell_index-below}
use Rattle.chain.specs.Reading.{Reading}
use Rattle.chain.specs.Word.{has_field, column}
use Rattle.chain.proofs.Following.{column-below}
use Rattle.program.specs.declared.location.Located.{Located}
use Rattle.program.specs.Program.{Target, own, remote, Rule, target_field}
use Rattle.laws.specs.Lists.{Each}
use Rattle.program.specs.Stored.{rule_in, rules_in}
use Rattle.machine.specs.Local.{local_rules, local_records, offends, sum_column}
use Rattle.machine.proofs.Folding.{local_rules-more, local_rules-length, local_records-length, sum_column-more, sum_column_earliest, sum_column_each}
use Rattle.machine.specs.Step.{sum_offence}
use Rattle.machine.proofs.Stops.{sum-at}
use Rattle.step_effects.specs.Answers.{target_write, done_by, write_of, DoneFor}
use Rattle.step_tests.specs.Plain.{plain_slot}
use Rattle.step_tests.proofs.Plainly.{plain-reaches}
use Rattle.step_operations.specs.Evaluated.{Evaluated}
use Rattle.step_effects.specs.declared.stored.Write.{Write}
use Rattle.step_effects.specs.declared.stored.Write.TheVariants.{Nothing, Store, OutOfRange}
use Rattle.step_cells.specs.Work.{Room, HoldsCells, Same, Put, Small}
use Rattle.step_rules.specs.Ready.{RuleReady, AllPlain, WritesField, LocalRule, RuleStops, LocalDone}
use Rattle.std.specs.Prelude.{None, Some, Ok, Err}
use Rattle.step_cells.proofs.Working.{same_refl, same_then, same-put, holds-put, small_put}
use Rattle.step_rules.proofs.Writing.{told}

-- one of many
each_at : {A : Type 0} (P : A → Type 0) (l : List A) (k : ℕ) (d : A) → k < length l → Each P l → P (get_or l k d)
each_at P [] k d h e = absurd (omega arith)
each_at P (a ∷ l) zero d h e = e.0
each_at P (a ∷ l) (suc k) d h e = each_at P l k d (omega arith) e.1

-- the field of a write is that of its target
pub writes-field : (s : Sizes) (t : Target) → has_field s (target_field t) ≡ true → (w : Write) → DoneFor t w → WritesField s w
unfolding done_by target_write target_field
writes-field s t h w d = subst (WritesField s) (sym d.is) (go t h d.value)
  where
    go : (t : Target) → has_field s (target_field t) ≡ true → (v : Evaluated) → WritesField s (done_by t v)
    go (own f) h (Ok None) = tt
    go (own f) h (Ok (Some z)) = h
    go (own f) h (Err e) = h
    go (remote k f w) h (Ok x) = tt
    go (remote k f w) h (Err e) = h

-- one rule at record u
module _ (s : Sizes) (read : List ℕ → Reading) (u : ℕ) (r : Rule) where
  -- and what it leaves
  module _ (base : ℕ) (values : List ℤ) (marks : List ℕ) where
    pub rule_idles : write_of read r ≡ Nothing → LocalRule s read base u r values marks values marks (Ok tt)
    rule_idles e =
        let t = told read r e in
        (same_refl, record { in_range = t.in_range; holds = λ d l h. rw (t.cells_are s u d) h; small = λ h. h })

    pub rule-offends : {f : ℕ} → write_of read r ≡ OutOfRange f → LocalRule s read base u r values marks values marks (Err (record { row = u; column = column s f }))
    rule-offends e =
        let t = told read r e in
        (same_refl, record { row = refl; column_is = ap (column s) t.field_is; out_of_range = t.out_of_range })

    pub rule-stores : (f : ℕ) (z : ℤ) {values' : List ℤ} {marks' : List ℕ} → write_of read r ≡ Store f z → Limits s → u < s.records
        → has_field s (target_field r.target) ≡ true → Room base (cell_count s) values marks
        → Put (base + cell_index s u (column s f)) (WorkedOut z) values marks values' marks' → SFits w32 z
        → LocalRule s read base u r values marks values' marks' (Ok tt)
    unfolding value_of
    rule-stores f z e limits row field room p fits =
        let t = told read r e in
        let k = cell_index s u (column s f) in
        let below : k < cell_count s = cell_index-below s u (column s f) row (column-below s limits f (ap (has_field s) t.field_is ∙ field)) in (
          same-put base k p,
          record {
            in_range = t.in_range;
            holds = λ d l h. rw (t.cells_are s u d) (holds-put base k p room below l h);
            small = λ h. small_put base k p room below fits.sfits (omega arith) h;
          },
        )

-- the rule of a place
abbrev pub rule_at : List ℕ → Located → Rule
rule_at codes x = rule_in codes x.slot

-- a ready rule that is plain
pub plain_ready : {s : Sizes} {cells : List Cell} {values : List ℤ} {marks : List ℕ} {codes : List ℕ} {x : Located}
    → plain_slot x.slot ≡ true → RuleReady s cells values marks codes x → RuleReady s cells values marks [] x
plain_ready {s} {cells} {values} {marks} {codes} {x} h r =
    record { reaches = λ u l. plain-reaches s values marks u codes x h (r.reaches u l); field = r.field; targets = r.targets }

-- rule k of the places
module _ (codes : List ℕ) (places : List Located) (k : ℕ) (x : Located) (h : k < length places) where
  -- is the one behind the first k
  pub rules-more : rules_in codes (suc k) places ≡ rules_in codes k places ++ (rule_at codes (get_or places k x) ∷ [])
  unfolding rules_in
  rules-more = ap (map (rule_at codes)) (take-suc places k x h) ∙ map-append (rule_at codes) (take k places) (get_or places k x ∷ [])

  -- and stands behind them among more
  rules-split : (n : ℕ) → k < n → rules_in codes n places ≡ rules_in codes k places ++ rule_at codes (get_or places k x) ∷ map (rule_at codes) (drop (suc k) (take n places))
  unfolding rules_in
  rules-split n l =
      let some = take n places in
      let cut : some ≡ take k places ++ get_or places k x ∷ drop (suc k) some =
      split_at some k x (omega (arith, length-take n places))
      ∙ ap₂ (λ (ys : List Located) (y : Located). ys ++ y ∷ drop (suc k) some) (take-take k n places (omega arith)) (get_or-take n places k x l) in
      ap (map (rule_at codes)) cut ∙ map-append (rule_at codes) (take k places) (get_or places k x ∷ drop (suc k) some)

  -- and is as they all are
  pub all_at : (P : Located → Type 0) {n : ℕ} → k < n → Each P (take n places) → P (get_or places k x)
  all_at P {n} l r = subst P (get_or-take n places k x l) (each_at P (take n places) k x (omega (arith, length-take n places)) r)

  pub plain_at : {plain : Bool} {n : ℕ} → k < n → AllPlain plain (take n places) → plain ≡ true → plain_slot (get_or places k x).slot ≡ true
  plain_at l a e = all_at (λ y. plain_slot y.slot ≡ true) l (a e)

  -- and no sum of it leaves the range where none of theirs does
  pub in_range-at : (s : Sizes) (read : List ℕ → Reading) {n : ℕ} → k < n → sum_column s read (rules_in codes n places) ≡ none
      → offends read (rule_at codes (get_or places k x)) ≡ false
  in_range-at s read {n} l e = sum_column_each s read (rules_in codes k places) _ _ (sym (ap (sum_column s read) (rules-split n l)) ∙ e)

-- what the first k rules leave at record u
pub record RecordDone (s : Sizes) (read : ℕ → List ℕ → Reading) (base : ℕ) (codes : List ℕ) (places : List Located) (u k : ℕ) (values : List ℤ) (marks : List ℕ)
    (values' : List ℤ) (marks' : List ℕ) : Type 0 where
  pub same : Same base values marks values' marks'
  pub in_range : sum_column s (read u) (rules_in codes k places) ≡ none
  pub holds : (d : List Cell) → length d ≡ cell_count s → HoldsCells base d values marks
      → HoldsCells base (local_rules s (read u) u (rules_in codes k places) d) values' marks'
  pub small : Small 2147483648 base (cell_count s) values marks → Small 2147483648 base (cell_count s) values' marks'

-- nothing is done yet
pub record-start : {s : Sizes} {read : ℕ → List ℕ → Reading} {base : ℕ} {codes : List ℕ} {places : List Located} {u : ℕ} {values : List ℤ} {marks : List ℕ}
    → RecordDone s read base codes places u 0 values marks values marks
unfolding local_rules rules_in sum_column
record-start = record { same = same_refl; in_range = refl; holds = λ d l h. h; small = λ h. h }

pub records-start : {s : Sizes} {read : ℕ → List ℕ → Reading} {base : ℕ} {rs : List Rule} {values : List ℤ} {marks : List ℕ}
    → LocalDone s read base rs 0 values marks values marks
unfolding local_records
records-start = record { in_range = λ u l. absurd (omega arith); holds = λ d l h. h; small = λ h. h }

-- one rule more at a record
pub record-more : {s : Sizes} {read : ℕ → List ℕ → Reading} {base : ℕ} {codes : List ℕ} {places : List Located} {u k : ℕ}
    {values values' values'' : List ℤ} {marks marks' marks'' : List ℕ} → RecordDone s read base codes places u k values marks values' marks'
    → (x : Located) → k < length places → LocalRule s (read u) base u (rule_at codes (get_or places k x)) values' marks' values'' marks'' (Ok tt)
    → {k' : ℕ} → k' ≡ suc k → RecordDone s read base codes places u k' values marks values'' marks''
record-more {s} {read} {base} {codes} {places} {u} {k} {values'' = values''} {marks'' = marks''} t x h (same, done) q =
    let rs = rules_in codes k places in
    let rule = rule_at codes (get_or places k x) in
    rw q
    (record {
      same = same_then t.same same;
      in_range = ap (sum_column s (read u)) (rules-more codes places k x h) ∙ sum_column-more s (read u) rs rule t.in_range done.in_range;
      holds = λ d l hd.
          subst (λ (cs : List Cell). HoldsCells base cs values'' marks'')
          (sym (ap (λ (l : List Rule). local_rules s (read u) u l d) (rules-more codes places k x h) ∙ local_rules-more s (read u) u rs rule d))
          (done.holds (local_rules s (read u) u rs d) (local_rules-length s (read u) u rs d ∙ l) (t.holds d l hd));
      small = λ z. done.small (t.small z);
    })

-- or its sum is out of range: the first, where none was so at the records before and by the rules before
pub record-stops : {s : Sizes} (read : ℕ → List ℕ → Reading) (codes : List ℕ) (places : List Located) {u : ℕ} (k : ℕ) (x : Located) → k < length places → {v c rules : ℕ} → k < rules
    → u < s.records → ((v : ℕ) → v < u → sum_column s (read v) (rules_in codes rules places) ≡ none)
    → sum_column s (read u) (rules_in codes k places) ≡ none → RuleStops s (read u) u (rule_at codes (get_or places k x)) v c
    → sum_offence s read (rules_in codes rules places) ≡ some (record { row = v; column = c })
record-stops {s} read codes places {u} k x h {rules = rules} l row records-before rules-before stop =
    rw (stop.row, stop.column_is)
    (sum-at s read (rules_in codes rules places) u _ row records-before
    (ap (sum_column s (read u)) (rules-split codes places k x h rules l) ∙ sum_column_earliest s (read u) (rules_in codes k places) _ _ rules-before stop.out_of_range))

-- one record more
pub records-more : {s : Sizes} {read : ℕ → List ℕ → Reading} {base : ℕ} {codes : List ℕ} {places : List Located} {rules n : ℕ}
    {values values' values'' : List ℤ} {marks marks' marks'' : List ℕ} → LocalDone s read base (rules_in codes rules places) n values marks values' marks'
    → {k : ℕ} → k ≡ rules → RecordDone s read base codes places n k values' marks' values'' marks''
    → {n' : ℕ} → n' ≡ suc n → LocalDone s read base (rules_in codes rules places) n' values marks values'' marks''
unfolding local_records
records-more {s} {read} {base} {codes} {places} {rules} {n} {values} {values'} {values''} {marks} {marks'} {marks''} t q r q' =
    rw q' (go (subst (λ (i : ℕ). RecordDone s read base codes places n i values' marks' values'' marks'') q r))
  where
    at : RecordDone s read base codes places n rules values' marks' values'' marks''
        → (u : ℕ) → Dec (u < n) → u < suc n → sum_column s (read u) (rules_in codes rules places) ≡ none
    at r u (yes l) _ = t.in_range u l
    at r u (no l) l' = let q : u ≡ n = omega arith in rw q r.in_range

    go : RecordDone s read base codes places n rules values' marks' values'' marks''
        → LocalDone s read base (rules_in codes rules places) (suc n) values marks values'' marks''
    go r =
        let rs = rules_in codes rules places in
        record {
          in_range = λ u l. at r u (dec_lt u n) l;
          holds = λ d l hd. r.holds (local_records s read rs n d) (local_records-length s read rs n d ∙ l) (t.holds d l hd);
          small = λ z. r.small (t.small z);
        }

-- all records
pub records_all : {s : Sizes} {read : ℕ → List ℕ → Reading} {base : ℕ} {rs : List Rule} {n : ℕ} {values values' : List ℤ} {marks marks' : List ℕ} → n ≡ s.records
    → LocalDone s read base rs n values marks values' marks' → LocalDone s read base rs s.records values marks values' marks'
records_all {s} {read} {base} {rs} {n} {values} {values'} {marks} {marks'} q t = subst (λ (i : ℕ). LocalDone s read base rs i values marks values' marks') q t
