-- Every record can run a located rule where the lines hold what is read: it finds each reading at its location, and a remote
-- write goes to a record.
use Prim.Native.Nat.{ℕ, ◌+◌, ◌*◌, ◌≤◌, ◌<◌}
use mathlib.Core.Path.{◌≡◌, refl, ap, subst, ◌∙◌}
use mathlib.Core.Bool.{Bool, true, false}
use mathlib.Core.List.Memᴰ
use mathlib.Core.List.{List, [], ◌∷◌, ◌++◌, Memᴰ}
use native.Mathlib.Nat.{mul-le-mul_right}
use native.Mathlib.Omega.{arith}
use lib.IntN.{ℤ, pos}
use lib.ListN.{length, get_or, take}
use lib.Seq.{get_or-take, length-take-le}
use mir.Syntax.{w32}
use mir.Val.{SFits}
use Rattle.laws.specs.Lists.{Each}
use Rattle.laws.proofs.Lists.{each_of, each_all, mem_map}
use Rattle.register.specs.Shape.{Valid}
use Rattle.register.specs.declared.Sizes.{Sizes}
use Rattle.register.specs.declared.cells.Cell.{Cell}
use Rattle.chain.specs.Reading.{Reading}
use Rattle.chain.specs.Word.{Passes, readable, unpack, hop, follow, value_at_record}
use Rattle.plan_theory.specs.Plan.{Fact, read, line_index, line}
use Rattle.plan_theory.proofs.Kept.{plan-promise}
use Rattle.plan_theory.proofs.Places.{place-line}
use Rattle.program.specs.declared.term.Term.{Term}
use Rattle.program.specs.declared.term.Term.TheVariants.{Chain, Number, Tree}
use Rattle.program.specs.declared.rule.Test.{Test}
use Rattle.program.specs.declared.rule.Test.TheVariants.{Always, When}
use Rattle.program.specs.declared.rule.Rule.{Rule}
use Rattle.program.specs.declared.rule.Rule.TheVariants.{Set, Combine, Remote}
use Rattle.program.specs.declared.location.Location.{Location}
use Rattle.program.specs.declared.location.Places.{Places}
use Rattle.program.specs.declared.location.Located.{Located}
use Rattle.program.specs.Program as P
use Rattle.program.specs.Program.{operators, expression_readings, test_readings, target_readings, rule_readings, readings, step_plan}
use Rattle.program.specs.Passed.{TestFew, TargetPasses, RulePasses, RulesPass}
use Rattle.program.specs.Stored.{term_in, test_in, target_in, expression_in, rule_in, rules_in}
use Rattle.program.specs.Code.{decoded, code_readings, codes_in, tree_in, EachChain}
use Rattle.program.specs.Terms.{TermPlaced, TestPlaced, RulePlaced, SlotPlaced}
use Rattle.program.specs.Location.{location_of, Wants, WordLocated, TreeLocated, TermLocated, TestLocated, RuleLocated, LocatedAmong}
use Rattle.program.proofs.Codes.{postfix-readings, chain_listed}
use Rattle.machine.specs.Run.{direct}
use Rattle.machine.proofs.Readings.{rule_pass}
use Rattle.machine.proofs.Direct.{direct_refers}
use Rattle.scratch.specs.Places.{place_at, stored_at}
use Rattle.gather_follow.specs.Filled.{Filled}
use Rattle.step_terms.specs.Found.{found_at, Reaches, Agrees, TermReaches, TestReaches, RuleReaches, SlotReaches, TargetFound, Within}
use Rattle.step_rules.specs.Ready.{RuleReady, AllReady, RuleAgrees, AllAgree}

-- what record u reads for a word, by following
abbrev pub followed : Sizes → List Cell → ℕ → List ℕ → Reading
followed s cells u w = value_at_record s cells w u

-- the places of the lines that are wanted hold that
pub record LinesHold (s : Sizes) (l : List Fact) (wanted : List Bool) (cells : List Cell) (values : List ℤ) (marks : List ℕ) : Type 0 where
  pub values_room : length l * s.records ≤ length values
  pub marks_room : length l * s.records ≤ length marks
  pub holds : (i u : ℕ) (w : List ℕ) → i < length l → u < s.records → line l i ≡ read w → get_or wanted i false ≡ true
      → place_at values marks (i * s.records + u) ≡ value_at_record s cells w u
  pub fits : (i u : ℕ) (w : List ℕ) → i < length l → u < s.records → line l i ≡ read w → get_or wanted i false ≡ true
      → SFits w32 (get_or values (i * s.records + u) (pos 0))

-- a place of a line stands before the end of the lines
place-below : (n m i u : ℕ) → i < n → u < m → i * m + u < n * m
place-below n m i u h p = omega (arith, mul-le-mul_right m h)

module _ (s : Sizes) (l : List Fact) (wanted : List Bool) {cells : List Cell} {values' : List ℤ} {marks' : List ℕ} where
  -- the part of filled buffers below `base`
  pub filled-lines : {values : List ℤ} {marks : List ℕ} (base : ℕ) → length l * s.records ≤ base → base ≤ length values' → base ≤ length marks'
      → Filled s cells l wanted (length l) values marks values' marks' → LinesHold s l wanted cells (take base values') (take base marks')
  unfolding place_at stored_at
  filled-lines base h v m f =
      let below : (i u : ℕ) → i < length l → u < s.records → i * s.records + u < base =
      λ i u a b. omega (arith, place-below (length l) s.records i u a b) in
      record {
        values_room = omega (arith, length-take-le base values' v);
        marks_room = omega (arith, length-take-le base marks' m);
        holds = λ i u w a b e k.
            rw (get_or-take base values' _ (pos 0) (below i u a b), get_or-take base marks' _ 0 (below i u a b)) (f.reads i u w a b k e).place_is;
        fits = λ i u w a b e k. rw (get_or-take base values' _ (pos 0) (below i u a b)) (f.reads i u w a b k e).fits;
      }

-- a word that passes and, where it has two or more hops, its Read line
pub record WordPlanned (s : Sizes) (l : List Fact) (w : List ℕ) : Type 0 where
  pub passes : Passes s w
  pub has_line : 2 ≤ length w → line_index l (read w) < length l

-- each of some words
abbrev AllPlanned : Sizes → List Fact → List (List ℕ) → Type 0
AllPlanned s l ws = (w : List ℕ) → Memᴰ w ws → WordPlanned s l w

parts-planned : (s : Sizes) (l : List Fact) (vs ws : List (List ℕ)) → AllPlanned s l (vs ++ ws) → AllPlanned s l vs × AllPlanned s l ws
parts-planned s l vs ws h = (λ w m. h w (Memᴰ.append_left ws m), λ w m. h w (Memᴰ.append_right vs m))

module _ (s : Sizes) (l : List Fact) (wanted : List Bool) (cells : List Cell) (values : List ℤ) (marks : List ℕ)
    (lines : LinesHold s l wanted cells values marks) (u : ℕ) (inside : u < s.records) where
  -- a location leads somewhere, and there the reading of w is found
  record WordFound (at : Location) (w : List ℕ) : Type 0 where
    reaches : Reaches s values marks u at
    agrees : Agrees s cells values marks u (followed s cells u) at w

  word-found : (w : List ℕ) → WordPlanned s l w → Wants wanted (location_of l w) → WordFound (location_of l w) w
  unfolding location_of found_at readable value_at_record follow hop
  word-found [] p h = record { reaches = tt; agrees = refl }
  word-found (f ∷ []) p h = record { reaches = p.passes.follows; agrees = refl }
  word-found (f ∷ g ∷ w) p h =
      let i = line_index l (read (f ∷ g ∷ w)) in
      let b : i < length l = p.has_line (omega arith) in
      let below = place-below (length l) s.records i u b inside in
      let e = place-line l (read (f ∷ g ∷ w)) b in
      record {
        reaches = record {
          in_values = omega (arith, below, lines.values_room);
          in_marks = omega (arith, below, lines.marks_room);
          fits = lines.fits i u (f ∷ g ∷ w) b inside e h;
        };
        agrees = lines.holds i u (f ∷ g ∷ w) b inside e h;
      }

  located-found : (w : List ℕ) {at : Location} → WordLocated l wanted at w → WordPlanned s l w → WordFound at w
  located-found w h p = rw h.at_is (word-found w p (rw h.at_is at h.wants))

  -- the same of a term, of a test and of a rule
  module _ (codes : List ℕ) where
    abbrev Agreeing : Location → List ℕ → Type 0
    Agreeing = Agrees s cells values marks u (followed s cells u)

    -- the chains of a tree are the readings of its expression
    tree-found : {from to : ℕ} → TreeLocated l wanted codes from to → AllPlanned s l (expression_readings (tree_in codes from to)) → EachChain WordFound codes from to
    unfolding tree_in
    tree-found {from} {to} h p i a b k =
        let words : code_readings (codes_in codes from to) ≡ expression_readings (decoded (codes_in codes from to)) =
        ap code_readings h.formed ∙ postfix-readings (decoded (codes_in codes from to)) in
        located-found _ (h.located i a b k) (p _ (subst (Memᴰ _) words (chain_listed codes from to i a b k)))

    term_found : (x : Term) (at : Location) → TermLocated l wanted codes at x → AllPlanned s l (expression_readings (term_in codes x)) → operators (term_in codes x) ≤ 64
        → TermReaches s values marks u codes at x × TermPlaced Agreeing codes at x
    unfolding term_in expression_readings
    term_found (Chain c) at h p few = let f = located-found (unpack c) h (p (unpack c) (Memᴰ.head refl)) in (f.reaches, f.agrees)
    term_found (Number z) at h p few = (tt, tt)
    term_found (Tree from to) at h p few =
        let f = tree-found h p in
        (record { formed = h.formed; few = few; some = h.some; kept = h.kept; reaches = λ i a b k. (f i a b k).reaches }, λ i a b k. (f i a b k).agrees)

    terms_found : (x y : Term) (at : Places) → TermLocated l wanted codes at.first x × TermLocated l wanted codes at.second y
        → AllPlanned s l (expression_readings (term_in codes x) ++ expression_readings (term_in codes y)) → operators (term_in codes x) ≤ 64 → operators (term_in codes y) ≤ 64
        → (TermReaches s values marks u codes at.first x × TermReaches s values marks u codes at.second y)
        × (TermPlaced Agreeing codes at.first x × TermPlaced Agreeing codes at.second y)
    terms_found x y at h p few fewer =
        let (v, w) = parts-planned s l _ _ p in
        let a = term_found x at.first h.0 v few in
        let b = term_found y at.second h.1 w fewer in
        ((a.0, b.0), (a.1, b.1))

    test-found : (t : Test) (at : Places) → TestLocated l wanted codes at t → AllPlanned s l (test_readings (test_in codes t)) → TestFew (test_in codes t)
        → TestReaches s values marks u codes at t × TestPlaced Agreeing codes at t
    unfolding test_in test_readings
    test-found Always at h p few = (tt, tt)
    test-found (When x c y) at h p few = terms_found x y at h p few.0 few.1

    rule_found : (x : Rule) (at : Places) → RuleLocated l wanted codes at x
        → AllPlanned s l (target_readings (target_in x) ++ expression_readings (expression_in codes x)) → operators (expression_in codes x) ≤ 64
        → RuleReaches s values marks u codes at x × RulePlaced Agreeing codes at x
    unfolding target_in expression_in target_readings expression_readings operators
    rule_found (Set f x) at h p few = term_found x at.first h p few
    rule_found (Combine f op x y) at h p few = terms_found x y at h p (omega (arith, few)) (omega (arith, few))
    rule_found (Remote k f c x) at h p few =
        let t = located-found (unpack c) h.0 (p (unpack c) (Memᴰ.head refl)) in
        let e = term_found x at.second h.1 (λ w m. p w (Memᴰ.tail m)) few in
        ((t.reaches, e.0), (t.agrees, e.1))

    slot-found : (x : Located) → LocatedAmong l wanted codes x → AllPlanned s l (rule_readings (rule_in codes x.slot)) → RulePasses s (rule_in codes x.slot)
        → SlotReaches s values marks u codes x × SlotPlaced Agreeing codes x
    unfolding rule_in rule_readings
    slot-found x a p k =
        let (v, w) = parts-planned s l _ _ p in
        let t = test-found x.slot.test x.at.test a.test v k.few.0 in
        let r = rule_found x.slot.rule x.at.rule a.rule w k.few.1 in
        (record { test = t.0; rule = r.0 }, (t.1, r.1))

-- a target is a reference, so it leads to a record
module _ {s : Sizes} {cells : List Cell} (v : Valid s cells) (values : List ℤ) (marks : List ℕ) (u : ℕ) (h : u < s.records) (codes : List ℕ) where
  target-within : (p : Places) (r : Rule) → TargetPasses s (target_in r) → RulePlaced (Agrees s cells values marks u (followed s cells u)) codes p r
      → TargetFound (Within s.records) s cells values marks u p r
  unfolding direct target_in
  target-within p (Set f x) k a = tt
  target-within p (Combine f op x y) k a = tt
  target-within p (Remote sort f c x) k a = rw a.0 (direct_refers v [] u h (unpack c) k.passes k.reference)

-- the readings of a rule are among those of the step, so each has its line
among : {r : P.Rule} {w : List ℕ} {rs : List P.Rule} → Memᴰ r rs → Memᴰ w (rule_readings r) → Memᴰ w (readings rs)
unfolding readings
among {w = w} (Memᴰ.head {xs = rs} e) i = Memᴰ.append_left (readings rs) (subst (λ r. Memᴰ w (rule_readings r)) e i)
among (Memᴰ.tail {x = r} m) i = Memᴰ.append_right (rule_readings r) (among m i)

rule-planned : {s : Sizes} {rs : List P.Rule} {r : P.Rule} → RulesPass s rs → Memᴰ r rs → AllPlanned s (step_plan rs) (rule_readings r)
unfolding step_plan
rule-planned {s} {rs} {r} k m w i = record {
  passes = each_of (Passes s) (rule_pass s r (each_of (RulePasses s) k.each m)) i;
  has_line = (plan-promise (readings rs)).has_reading (among m i);
}

-- the located rules of a step
module _ (s : Sizes) (codes : List ℕ) (n : ℕ) (slots : List Located) (passes : RulesPass s (rules_in codes n slots)) (wanted : List Bool)
    (located : Each (LocatedAmong (step_plan (rules_in codes n slots)) wanted codes) (take n slots)) {cells : List Cell} {values : List ℤ} {marks : List ℕ}
    (lines : LinesHold s (step_plan (rules_in codes n slots)) wanted cells values marks) where
  rule-at : (x : Located) → Memᴰ x (take n slots) → Memᴰ (rule_in codes x.slot) (rules_in codes n slots)
  unfolding rules_in
  rule-at x m = mem_map (λ (y : Located). rule_in codes y.slot) m

  found-at : (x : Located) (m : Memᴰ x (take n slots)) (u : ℕ) → u < s.records
      → SlotReaches s values marks u codes x × SlotPlaced (Agrees s cells values marks u (followed s cells u)) codes x
  found-at x m u h =
      slot-found s (step_plan (rules_in codes n slots)) wanted cells values marks lines u h codes x (each_of _ located m) (rule-planned passes (rule-at x m))
      (each_of (RulePasses s) passes.each (rule-at x m))

  pub all_agree : AllAgree s cells values marks codes (followed s cells) (take n slots)
  all_agree = each_all (RuleAgrees s cells values marks codes (followed s cells)) (take n slots) (λ x m u h. (found-at x m u h).1)

  pub all_ready : Valid s cells → AllReady s cells values marks codes (take n slots)
  unfolding rule_in
  all_ready v = each_all (RuleReady s cells values marks codes) (take n slots) (λ x m.
      let pass = each_of (RulePasses s) passes.each (rule-at x m) in
      record {
        reaches = λ u h. (found-at x m u h).0;
        field = pass.field;
        targets = λ u h. target-within v values marks u h codes x.at.rule x.slot.rule pass.target (found-at x m u h).1.1;
      })
