-- Codes in the array are the terms of the expressions that they are written for.
use Prim.Native.Nat.{ℕ, ◌+◌, ◌-◌, ◌≤◌, ◌<◌}
use mathlib.Core.Path.{◌≡◌, refl, sym, ap, subst, ◌∙◌}
use mathlib.Core.Logic.{◌⊎◌, inl, inr}
use mathlib.Core.Bool.{Bool, true, false, cond}
use mathlib.Core.List.{List, [], ◌∷◌, ◌++◌}
use native.Mathlib.Omega.{arith}
use lib.Dec.{eqb}
use lib.IntN.{ℤ}
use lib.ListN.{length, get_or, length-append}
use borrow.Author.Tests.{eqb-true}
use Rattle.laws.proofs.Bools.{cond_both}
use Rattle.laws.proofs.Cases.{lt_or_le}
use Rattle.chain.specs.Word.{unpack}
use Rattle.program.specs.declared.term.Term.{Term}
use Rattle.program.specs.declared.term.Term.TheVariants.{Chain, Number, Tree}
use Rattle.program.specs.declared.rule.Operator.{Operator}
use Rattle.program.specs.declared.rule.Operator.TheVariants.{Plus, Minus, Smaller}
use Rattle.program.specs.Program as P
use Rattle.program.specs.Code.{Code, chain, number, operator, unknown, postfix, kind_in, chain_in, number_in, of_kind, code_of, code_at, codes_from, codes_in, tree_in, decoded}
use Rattle.program.specs.Stored.{term_in}
use Rattle.program.specs.Terms.{TermFormed, TermFrom, TermInside}
use Rattle.program.proofs.Codes.{decoded-postfix, postfix-formed, codes-none}
use Rattle.text_syntax.specs.Written.{Expression}
use Rattle.text_syntax.specs.Tree.{tree_of}
use Rattle.text_sides.specs.Side.{operator_in, single_of, term_held, codes_left, Holds}

-- an expression has codes
postfix-some : (e : P.Expression) → 1 ≤ length (postfix e)
unfolding postfix
postfix-some (P.reading w) = omega arith
postfix-some (P.constant z) = omega arith
postfix-some (P.operation o x y) = omega (arith, postfix-some x, length-append (postfix x) (postfix y ++ (operator o ∷ [])))

-- one code is that of a reading or a constant
abbrev CodeOf : Code → P.Expression → Type 0
CodeOf (chain w) e = P.reading w ≡ e
CodeOf (number z) e = P.constant z ≡ e
CodeOf (operator o) e = ⊥
CodeOf unknown e = ⊥

one_code : (c : Code) (e : P.Expression) → c ∷ [] ≡ postfix e → CodeOf c e
unfolding postfix
one_code c (P.reading w) h = let q : c ≡ chain w = cc in subst (λ (k : Code). CodeOf k (P.reading w)) (sym q) refl
one_code c (P.constant z) h = let q : c ≡ number z = cc in subst (λ (k : Code). CodeOf k (P.constant z)) (sym q) refl
one_code c (P.operation o x y) h = absurd (omega (
  arith,
  ap length h,
  postfix-some x,
  length-append (postfix x) (postfix y ++ (operator o ∷ [])),
  length-append (postfix y) (operator o ∷ []),
))

-- three codes are those of an operation on two of these
pub record Pair (c d k : Code) (e : P.Expression) : Type 0 where
  pub op : Operator
  pub x : P.Expression
  pub y : P.Expression
  pub is : e ≡ P.operation op x y
  pub first : c ∷ [] ≡ postfix x
  pub second : d ∷ [] ≡ postfix y
  pub last : k ≡ operator op

pub three_codes : (c d k : Code) (e : P.Expression) → c ∷ d ∷ k ∷ [] ≡ postfix e → Pair c d k e
unfolding postfix
three_codes c d k (P.reading w) h = absurd (omega (arith, ap length h))
three_codes c d k (P.constant z) h = absurd (omega (arith, ap length h))
three_codes c d k (P.operation o x y) h = go (postfix x) (postfix y) refl refl h
  where
    go : (cs ds : List Code) → postfix x ≡ cs → postfix y ≡ ds → c ∷ d ∷ k ∷ [] ≡ cs ++ (ds ++ (operator o ∷ [])) → Pair c d k (P.operation o x y)
    go [] ds p q h = absurd (omega (arith, ap length p, postfix-some x))
    go (a ∷ cs) [] p q h = absurd (omega (arith, ap length q, postfix-some y))
    go (a ∷ []) (b ∷ []) p q h = record { op = o; x = x; y = y; is = refl; first = cc; second = cc; last = cc }
    go (a ∷ []) (b ∷ v ∷ ds) p q h = absurd (omega (arith, ap length h, length-append ds (operator o ∷ [])))
    go (a ∷ v ∷ cs) (b ∷ ds) p q h =
        absurd (omega (arith, ap length h, length-append cs (b ∷ (ds ++ (operator o ∷ []))), length-append ds (operator o ∷ [])))

no_code : (k : ℕ) (e : P.Expression) → CodeOf (of_kind k) e → ⊥
unfolding of_kind
no_code k e =
    cond_both (λ (c : Code). CodeOf c e → ⊥) (eqb k 2) _ _ (λ h. h)
    (cond_both (λ (c : Code). CodeOf c e → ⊥) (eqb k 3) _ _ (λ h. h) (cond_both (λ (c : Code). CodeOf c e → ⊥) (eqb k 4) _ _ (λ h. h) (λ h. h)))

-- the term of one code, which is no tree
module _ (c : ℕ) where
  pub single_is : (b : List ℕ) (e : P.Expression) → code_of c ∷ [] ≡ postfix e → term_in b (single_of c) ≡ e
  unfolding code_of single_of term_in
  single_is b e h = go (eqb (kind_in c) 0) (eqb (kind_in c) 1) (one_code _ e h)
    where
      go : (i j : Bool) → CodeOf (cond i (chain (unpack (chain_in c))) (cond j (number (number_in c)) (of_kind (kind_in c)))) e
          → term_in b (cond i (Chain (chain_in c)) (Number (number_in c))) ≡ e
      go true j h = h
      go false true h = h
      go false false h = absurd (no_code (kind_in c) e h)

  pub single_plain : (Q : Term → Type 0) → ((w : ℕ) → Q (Chain w)) → ((z : ℤ) → Q (Number z)) → Q (single_of c)
  unfolding single_of
  single_plain Q p q = cond_both Q (eqb (kind_in c) 0) _ _ (p _) (q _)

  pub operator_is : {o : Operator} → code_of c ≡ operator o → operator_in c ≡ o
  unfolding code_of of_kind operator_in
  operator_is {o} h = go (eqb (kind_in c) 0) (eqb (kind_in c) 1) (eqb (kind_in c) 2) (eqb (kind_in c) 3) (eqb (kind_in c) 4) h
    where
      go : (i j p q r : Bool) → cond i (chain (unpack (chain_in c))) (cond j (number (number_in c))
          (cond p (operator Plus) (cond q (operator Minus) (cond r (operator Smaller) unknown)))) ≡ operator o
          → cond p Plus (cond q Minus Smaller) ≡ o
      go true j p q r h = absurd (let z : ◌≡◌ {A = ℕ} 0 1 = cc in omega arith)
      go false true p q r h = absurd (let z : ◌≡◌ {A = ℕ} 0 1 = cc in omega arith)
      go false false true q r h = cc
      go false false false true r h = cc
      go false false false false true h = cc
      go false false false false false h = absurd (let z : ◌≡◌ {A = ℕ} 0 1 = cc in omega arith)

module _ (b : List ℕ) where
  module _ (from to : ℕ) (e : Expression) (l : from ≤ to) (h : codes_in b from to ≡ postfix (tree_of e)) where
    single_holds : to ≡ from + 1 → Holds b from from e (single_of (get_or b from 0))
    unfolding codes_from code_at
    single_holds q = record {
      term_is = single_is _ b (tree_of e) (let n : to - from ≡ 1 = omega arith in sym (ap (codes_from b from) n) ∙ h);
      formed = single_plain _ (TermFormed b) (λ w. tt) (λ z. tt);
      behind = single_plain _ (TermFrom from) (λ w. tt) (λ z. tt);
      inside = single_plain _ (TermInside from) (λ w. tt) (λ z. tt);
    }

    tree-holds : Holds b from to e (Tree from to)
    unfolding term_in tree_in
    tree-holds = record {
      term_is = ap decoded h ∙ decoded-postfix (tree_of e);
      formed = record { formed = h ∙ postfix-formed (tree_of e) ∙ sym (ap (λ (cs : List Code). postfix (decoded cs)) h); some = more (lt_or_le from to) };
      behind = omega arith;
      inside = omega arith;
    }
      where
        more : (from < to) ⊎ (to ≤ from) → from < to
        more (inl m) = m
        more (inr m) =
            absurd (omega (arith, ap length (sym (codes-none b from to m) ∙ h), postfix-some (tree_of e)))

    -- the term of codes that are those of an expression; a single one needs none
    pub term_holds : Holds b from (codes_left from to 1) e (term_held b from to)
    unfolding term_held codes_left
    term_holds = go (eqb to (from + 1)) refl
      where
        go : (y : Bool) → eqb to (from + 1) ≡ y → Holds b from (cond y from to) e (cond y (single_of (get_or b from 0)) (Tree from to))
        go true q = single_holds (eqb-true to (from + 1) q)
        go false q = tree-holds
