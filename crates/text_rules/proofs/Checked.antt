-- A line with no refusal has passed every test, and its rule, as the program has it, keeps to what they ask.
use Prim.Native.Nat.{ℕ, ◌≤◌, ◌<◌}
use mathlib.Core.Path.{◌≡◌, refl, sym, ◌∙◌}
use mathlib.Core.Bool.{Bool, true, false, cond, not, ◌&&◌, ◌||◌, and-false}
use mathlib.Core.Logic.{⊎_elim}
use mathlib.Core.List.{List, [], ◌∷◌, ◌++◌}
use native.Mathlib.Omega.{arith}
use borrow.Author.Tests.{leb-true, lt-ltb, le-ltb, not-true}
use lib.Dec.{leb, ltb}
use lib.ListN.{length}
use Rattle.register.specs.Shape.{Limits}
use Rattle.register.specs.declared.Sizes.{Sizes}
use Rattle.laws.proofs.Bools.{and_both, or_left, or-neither, true_false}
use Rattle.laws.proofs.Cases.{true_or_false}
use Rattle.chain.specs.Word.{is_reference, has_field, Passes}
use Rattle.laws.specs.Lists.{every, Each}
use Rattle.chain_text.specs.Text.{names, letter_field, is_reference_letter, word_of}
use Rattle.chain_text.proofs.Passing.{letters_pass, refused_none, reference_field, measure_field, named-field}
use Rattle.program.specs.declared.rule.Operator.{Operator}
use Rattle.program.specs.declared.rule.Operator.TheVariants.{Plus, Minus, Smaller}
use Rattle.text_syntax.specs.Written as W
use Rattle.text_syntax.specs.Written.{chain, number, Expression, term, group, operation, Line, rule}
use Rattle.text_syntax.specs.Grammar.{is_sum}
use Rattle.text_syntax.specs.Parts as K
use Rattle.text_syntax.specs.Parts.{condition_expressions, action_expressions, expressions, every_expression, every_term, terms_pass, target, term_named, field_named, named, term_kinded, is_reference_term, is_measure, one_kind, same_kind, condition_kinds, action_kinds, kinds_agree, kinded, term_short, short, term_in_range, numbers_in_range, depth, shallow, operators, few_operators}
use Rattle.text_syntax.specs.Tree.{term_tree, tree_of, test_of, target_of, source_of, rule_of}
use Rattle.program.specs.declared.rule.Sort.{Sort}
use Rattle.program.specs.declared.rule.Sort.TheVariants.{Least, Total}
use Rattle.program.specs.Program as P
use Rattle.text_rules.specs.declared.scope.Scope.{Scope}
use Rattle.text_rules.specs.Check.{State, in_place, has_room, sorts_agree, plan_fits, line_refusal}
use Rattle.program.specs.Passed.{is_reference_word, takes_references, is_reference_expression, ExpressionPasses, TestPasses, TestFew, RemotePasses, TargetPasses, RulePasses}
use Rattle.laws.proofs.Lists.{each_front, each_back}

-- the tests that a line with no refusal has passed
pub record Clean (scope : Scope) (st : State) (l : Line) : Type 0 where
  pub placed : in_place st l ≡ true
  pub is_named : named scope.sizes l ≡ true
  pub is_kinded : kinded l ≡ true
  pub is_short : short l ≡ true
  pub in_range : numbers_in_range l ≡ true
  pub is_shallow : shallow l ≡ true
  pub few_operators : few_operators l ≡ true
  pub room : has_room st l ≡ true
  pub sorts : sorts_agree st l ≡ true
  pub fits : plan_fits st l ≡ true

cond-none : (b : Bool) (k n : ℕ) → 0 < k → cond (not b) k n ≡ 0 → (b ≡ true) × (n ≡ 0)
cond-none true k n h e = (refl, e)
cond-none false k n h e = absurd (omega arith)

pub refusal_none : (scope : Scope) (st : State) (l : Line) → line_refusal scope st l ≡ 0 → Clean scope st l
unfolding line_refusal
refusal_none scope st l e =
    let a = cond-none (in_place st l) 8 _ (omega arith) e in
    let b = cond-none (named scope.sizes l) 9 _ (omega arith) a.1 in
    let c = cond-none (kinded l) 10 _ (omega arith) b.1 in
    let d = cond-none (short l) 11 _ (omega arith) c.1 in
    let f = cond-none (numbers_in_range l) 12 _ (omega arith) d.1 in
    let g = cond-none (shallow l) 24 _ (omega arith) f.1 in
    let h = cond-none (few_operators l) 25 _ (omega arith) g.1 in
    let i = cond-none (has_room st l) 13 _ (omega arith) h.1 in
    let j = cond-none (sorts_agree st l) 14 _ (omega arith) i.1 in
    let k = cond-none (plan_fits st l) 15 0 (omega arith) j.1 in
    record {
      placed = a.0;
      is_named = b.0;
      is_kinded = c.0;
      is_short = d.0;
      in_range = f.0;
      is_shallow = g.0;
      few_operators = h.0;
      room = i.0;
      sorts = j.0;
      fits = k.0;
    }

-- the field of a letter that names one
module _ (s : Sizes) (lim : Limits s) (l : ℕ) (h : names s l ≡ true) where
  letter-kind : is_reference (letter_field l) ≡ is_reference_letter l
  unfolding is_reference
  letter-kind = go (is_reference_letter l) refl
    where
      go : (x : Bool) → is_reference_letter l ≡ x → ltb (letter_field l) 8 ≡ x
      go true e = lt-ltb (letter_field l) 8 (omega (arith, reference_field s l h e, lim.references≤))
      go false e = le-ltb (letter_field l) 8 (measure_field s l h e).0

  pub letter-field : has_field s (letter_field l) ≡ true
  letter-field = named-field s l h

last-kind : (w : List ℕ) (f : ℕ) → is_reference_word (w ++ (f ∷ [])) ≡ is_reference f
unfolding is_reference_word
last-kind [] f = refl
last-kind (g ∷ []) f = refl
last-kind (g ∷ k ∷ w) f = last-kind (k ∷ w) f

-- an expression that has passed 9 to 12, 24 and 25
pub record Fine (s : Sizes) (e : Expression) : Type 0 where
  pub is_named : every_term (term_named s) e ≡ true
  pub is_kinded : every_term term_kinded e ≡ true
  pub one-kind : one_kind e ≡ true
  pub is_short : every_term term_short e ≡ true
  pub in_range : every_term term_in_range e ≡ true
  pub is_shallow : depth e ≤ 8
  pub few_operators : operators e ≤ 64

-- what every expression passes, each does
each_passes : (p : Expression → Bool) (es : List Expression) → every_expression p es ≡ true → Each (λ e. p e ≡ true) es
unfolding every_expression
each_passes p [] h = tt
each_passes p (e ∷ es) h = let both = and_both (p e) (every_expression p es) h in (both.0, each_passes p es both.1)

expressions_fine : (s : Sizes) (es : List Expression) → Each (λ e. every_term (term_named s) e ≡ true) es → Each (λ e. every_term term_kinded e ≡ true) es
    → Each (λ e. one_kind e ≡ true) es → Each (λ e. every_term term_short e ≡ true) es → Each (λ e. every_term term_in_range e ≡ true) es
    → Each (λ e. leb (depth e) 8 ≡ true) es → Each (λ e. leb (operators e) 64 ≡ true) es → Each (Fine s) es
expressions_fine s [] a b c d e f g = tt
expressions_fine s (x ∷ xs) a b c d e f g = (
  record {
    is_named = a.0;
    is_kinded = b.0;
    one-kind = c.0;
    is_short = d.0;
    in_range = e.0;
    is_shallow = leb-true (depth x) 8 f.0;
    few_operators = leb-true (operators x) 64 g.0;
  },
  expressions_fine s xs a.1 b.1 c.1 d.1 e.1 f.1 g.1,
)

pub rule_fine : (scope : Scope) (st : State) (c : W.Condition) (a : W.Action) → Clean scope st (rule c a)
    → Each (Fine scope.sizes) (condition_expressions c ++ action_expressions a)
unfolding named kinded kinds_agree short numbers_in_range shallow few_operators terms_pass expressions
rule_fine scope st c a k =
    let s = scope.sizes in
    let es = condition_expressions c ++ action_expressions a in
    let n = and_both (field_named s (rule c a)) (every_expression (every_term (term_named s)) es) k.is_named in
    let d = and_both (every_expression (every_term term_kinded) es) (every_expression one_kind es && (condition_kinds c && action_kinds a)) k.is_kinded in
    let o = and_both (every_expression one_kind es) (condition_kinds c && action_kinds a) d.1 in
    expressions_fine s es (each_passes _ es n.1) (each_passes _ es d.0) (each_passes _ es o.0) (each_passes _ es k.is_short)
    (each_passes _ es k.in_range) (each_passes _ es k.is_shallow) (each_passes _ es k.few_operators)

-- a term that has passed 9 to 12
record FineTerm (s : Sizes) (x : W.Term) : Type 0 where
  is_named : term_named s x ≡ true
  is_kinded : term_kinded x ≡ true
  is_short : term_short x ≡ true
  in_range : term_in_range x ≡ true

-- the terms of an expression
abbrev FineTerms : Sizes → Expression → Type 0
FineTerms s (term x) = FineTerm s x
FineTerms s (group e) = FineTerms s e
FineTerms s (operation o x y) = FineTerms s x × FineTerms s y

terms_fine : (s : Sizes) (e : Expression) → every_term (term_named s) e ≡ true → every_term term_kinded e ≡ true → every_term term_short e ≡ true
    → every_term term_in_range e ≡ true → FineTerms s e
unfolding every_term
terms_fine s (term x) n k h r = record { is_named = n; is_kinded = k; is_short = h; in_range = r }
terms_fine s (group e) n k h r = terms_fine s e n k h r
terms_fine s (operation o x y) n k h r =
    let ns = and_both (every_term (term_named s) x) (every_term (term_named s) y) n in
    let ks = and_both (every_term term_kinded x) (every_term term_kinded y) k in
    let hs = and_both (every_term term_short x) (every_term term_short y) h in
    let rs = and_both (every_term term_in_range x) (every_term term_in_range y) r in
    (terms_fine s x ns.0 ks.0 hs.0 rs.0, terms_fine s y ns.1 ks.1 hs.1 rs.1)

word-passes : (s : Sizes) (ls : List ℕ) → FineTerm s (chain ls) → Passes s (word_of ls)
unfolding term_named term_kinded term_short
word-passes s ls w = letters_pass s ls (refused_none s ls w.is_named w.is_kinded (le-ltb 16 (length ls) (leb-true (length ls) 16 w.is_short)))

term_passes : (s : Sizes) (x : W.Term) → FineTerm s x → ExpressionPasses s (term_tree x)
unfolding term_tree term_in_range
term_passes s (chain ls) w = word-passes s ls w
term_passes s (number negative x) w = w.in_range

same-is : (a b : Bool) → same_kind a b ≡ true → a ≡ b
unfolding same_kind
same-is true b h = sym h
same-is false b h = sym (not-true b h)

-- an expression of one kind holds nothing of the other
record OneKind (e : Expression) (reference : Bool) : Type 0 where
  references : K.is_reference e ≡ reference
  measures : is_measure e ≡ not reference

-- every expression holds something
some-kind : (e : Expression) → K.is_reference e ≡ false → is_measure e ≡ true
unfolding K.is_reference is_measure
some-kind (term x) h = rw h
some-kind (group e) h = some-kind e h
some-kind (operation o x y) h = or_left (is_sum o || is_measure y) (some-kind x (or-neither (K.is_reference x) (K.is_reference y) h).0)

kind_of_lem : (e : Expression) → one_kind e ≡ true → OneKind e (K.is_reference e)
unfolding one_kind
kind_of_lem e h = record { references = refl; measures = go (K.is_reference e) (is_measure e) (some-kind e) h }
  where
    go : (r m : Bool) → (r ≡ false → m ≡ true) → not (r && m) ≡ true → m ≡ not r
    go true m s h = not-true m h
    go false m s h = s refl

-- both operands have the kind of the whole, which is not that of references where a sum stands
record OneKinds (o : Operator) (x y : Expression) (reference : Bool) : Type 0 where
  first : OneKind x reference
  second : OneKind y reference
  whole : takes_references o && reference ≡ reference

takes_sums : (o : Operator) → is_sum o ≡ false → takes_references o ≡ true
unfolding is_sum takes_references
takes_sums Plus h = true_false refl h
takes_sums Minus h = true_false refl h
takes_sums Smaller h = refl

kinds_of : (o : Operator) (x y : Expression) (reference : Bool) → OneKind (operation o x y) reference → OneKinds o x y reference
unfolding K.is_reference is_measure
kinds_of o x y true w =
    let m = or-neither (is_measure x) (is_sum o || is_measure y) w.measures in
    let n = or-neither (is_sum o) (is_measure y) m.1 in
    record {
      first = record { references = held x m.0; measures = m.0 };
      second = record { references = held y n.1; measures = n.1 };
      whole = rw (takes_sums o n.0);
    }
  where
    held : (e : Expression) → is_measure e ≡ false → K.is_reference e ≡ true
    held e h = ⊎_elim (λ (t : K.is_reference e ≡ true). t) (λ (f : K.is_reference e ≡ false). true_false (some-kind e f) h) (true_or_false (K.is_reference e))
kinds_of o x y false w =
    let r = or-neither (K.is_reference x) (K.is_reference y) w.references in
    record {
      first = record { references = r.0; measures = some-kind x r.0 };
      second = record { references = r.1; measures = some-kind y r.1 };
      whole = and-false (takes_references o);
    }

-- an expression as the program has it
abbrev tree : Expression → P.Expression
tree e = tree_of e

-- it has the operators that are written
tree-operators : (e : Expression) → P.operators (tree_of e) ≡ operators e
unfolding tree_of term_tree P.operators operators
tree-operators (term (chain ls)) = refl
tree-operators (term (number negative x)) = refl
tree-operators (group e) = tree-operators e
tree-operators (operation o x y) = omega (arith, tree-operators x, tree-operators y)

tree-few : {s : Sizes} (e : Expression) → Fine s e → P.operators (tree_of e) ≤ 64
tree-few e w = omega (arith, tree-operators e, w.few_operators)

test-few : (s : Sizes) (c : W.Condition) → Each (Fine s) (condition_expressions c) → TestFew (test_of c)
unfolding condition_expressions test_of
test-few s W.always w = tt
test-few s (W.when x c y) w = (tree-few x w.0, tree-few y w.1.0)

-- what an action adds to its test: the fields of a rule that passes
record ActionPasses (s : Sizes) (a : W.Action) : Type 0 where
  target : TargetPasses s (target_of a)
  expression : ExpressionPasses s (source_of a)
  few : P.operators (source_of a) ≤ 64
  alike : is_reference (P.target_field (target_of a)) ≡ is_reference_expression (source_of a)

-- an expression that passes has the kind of what it holds
record Treed (s : Sizes) (e : Expression) (reference : Bool) : Type 0 where
  passes : ExpressionPasses s (tree e)
  kind_is : is_reference_expression (tree e) ≡ reference

module _ (s : Sizes) (lim : Limits s) where
  term_kind : (x : W.Term) → FineTerm s x → is_reference_expression (term_tree x) ≡ is_reference_term x
  unfolding is_reference_expression term_tree is_reference_term is_reference_word word_of term_named every
  term_kind (chain []) w = refl
  term_kind (chain (l ∷ ls)) w = last-kind (word_of ls) (letter_field l) ∙ letter-kind s lim l (and_both (names s l) (every (names s) ls) w.is_named).0
  term_kind (number negative x) w = refl

  word-kind : (c : List ℕ) → FineTerm s (chain c) → is_reference_term (chain c) ≡ true → is_reference_word (word_of c) ≡ true
  unfolding is_reference_expression term_tree
  word-kind c w h = term_kind (chain c) w ∙ h

  treed : (e : Expression) (reference : Bool) → FineTerms s e → OneKind e reference → Treed s e reference
  unfolding tree_of is_reference_expression K.is_reference is_measure
  treed (term x) reference w k = record { passes = term_passes s x w; kind_is = term_kind x w ∙ k.references }
  treed (group e) reference w k =
      let t = treed e reference w (record { references = k.references; measures = k.measures }) in
      record { passes = t.passes; kind_is = t.kind_is }
  treed (operation o x y) reference w k =
      let ks = kinds_of o x y reference k in
      let a = treed x reference w.0 ks.first in
      let b = treed y reference w.1 ks.second in
      let whole : takes_references o && is_reference_expression (tree x) ≡ reference = rw a.kind_is ks.whole in
      record { passes = ((a.passes, a.kind_is ∙ sym whole), (b.passes, b.kind_is ∙ sym whole)); kind_is = whole }

  fine_treed : (e : Expression) → Fine s e → Treed s e (K.is_reference e)
  fine_treed e w = treed e (K.is_reference e) (terms_fine s e w.is_named w.is_kinded w.is_short w.in_range) (kind_of_lem e w.one-kind)

  test-passes : (c : W.Condition) → Each (Fine s) (condition_expressions c) → condition_kinds c ≡ true → TestPasses s (test_of c)
  unfolding condition_expressions condition_kinds test_of
  test-passes W.always w h = tt
  test-passes (W.when x c y) w h =
      let a = fine_treed x w.0 in
      let b = fine_treed y w.1.0 in
      (a.passes, b.passes, a.kind_is ∙ same-is _ _ h ∙ sym b.kind_is)

  -- C, and the field of a `+=`
  module _ (k : Sort) (f : ℕ) (c : List ℕ) (w : Fine s (term (chain c))) (h : is_reference_term (chain c) ≡ true) where
    remote_passes : (k ≡ Total → is_reference (letter_field f) ≡ false) → RemotePasses s k (letter_field f) (word_of c)
    unfolding every_term
    remote_passes m =
        let x = terms_fine s (term (chain c)) w.is_named w.is_kinded w.is_short w.in_range in
        record { passes = word-passes s c x; reference = word-kind c x h; measure = m }

  action_passes : (a : W.Action) → names s (target a) ≡ true → Each (Fine s) (action_expressions a) → action_kinds a ≡ true → ActionPasses s a
  unfolding target action_expressions action_kinds target_of source_of P.target_field
  action_passes (W.set f e) n w h =
      let t = fine_treed e w.0 in
      record { target = tt; expression = t.passes; few = tree-few e w.0; alike = letter-kind s lim f n ∙ same-is _ _ h ∙ sym t.kind_is }
  action_passes (W.remote Least f c e) n w h =
      let both = and_both (is_reference_term (chain c)) (same_kind (is_reference_letter f) (K.is_reference e)) h in
      let t = fine_treed e w.1.0 in
      record {
        target = remote_passes Least f c w.0 both.0 (λ e. absurd (let z : ◌≡◌ {A = ℕ} 0 1 = cc in omega arith));
        expression = t.passes;
        few = tree-few e w.1.0;
        alike = letter-kind s lim f n ∙ same-is _ _ both.1 ∙ sym t.kind_is;
      }
  action_passes (W.remote Total f c e) n w h =
      let both = and_both (is_reference_term (chain c)) (not (is_reference_letter f) && not (K.is_reference e)) h in
      let measures = and_both (not (is_reference_letter f)) (not (K.is_reference e)) both.1 in
      let t = fine_treed e w.1.0 in
      let field : is_reference (letter_field f) ≡ false = letter-kind s lim f n ∙ not-true _ measures.0 in
      record {
        target = remote_passes Total f c w.0 both.0 (λ e. field);
        expression = t.passes;
        few = tree-few e w.1.0;
        alike = field ∙ sym (t.kind_is ∙ not-true _ measures.1);
      }

target-field : (a : W.Action) → P.target_field (target_of a) ≡ letter_field (target a)
unfolding target target_of P.target_field
target-field (W.set f e) = refl
target-field (W.remote k f c e) = refl

-- a rule that passes, as the program has it
pub rule-passes : (scope : Scope) → Limits scope.sizes → (st : State) (c : W.Condition) (a : W.Action) → Clean scope st (rule c a)
    → RulePasses scope.sizes (rule_of c a)
unfolding named field_named kinded kinds_agree terms_pass expressions rule_of
rule-passes scope lim st c a k =
    let s = scope.sizes in
    let es = condition_expressions c ++ action_expressions a in
    let n = and_both (names s (target a)) (every_expression (every_term (term_named s)) es) k.is_named in
    let d = and_both (every_expression (every_term term_kinded) es) (every_expression one_kind es && (condition_kinds c && action_kinds a)) k.is_kinded in
    let o = and_both (every_expression one_kind es) (condition_kinds c && action_kinds a) d.1 in
    let both = and_both (condition_kinds c) (action_kinds a) o.1 in
    let w = rule_fine scope st c a k in
    let p = action_passes s lim a n.0 (each_back (Fine s) (condition_expressions c) (action_expressions a) w) both.1 in
    let front = each_front (Fine s) (condition_expressions c) (action_expressions a) w in
    record {
      test = test-passes s lim c front both.0;
      field = rw (target-field a) (letter-field s lim (target a) n.0);
      target = p.target;
      expression = p.expression;
      few = (test-few s c front, p.few);
      alike = p.alike;
    }
