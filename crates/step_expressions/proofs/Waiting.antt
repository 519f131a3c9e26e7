-- An expression worked out from its codes, from left to right: operands wait for their operator.
use Prim.Native.Nat.{ℕ, zero, suc, ◌+◌, ◌-◌, ◌≤◌, ◌<◌}
use mathlib.Core.Path.{◌≡◌, refl, sym, ap, ap₂, subst, ◌∙◌}
use mathlib.Core.Logic.{⊎_elim}
use mathlib.Core.Bool.{Bool, true, false}
use mathlib.Core.List.{List, [], ◌∷◌, ◌++◌, append-nil, append_assoc}
use native.Mathlib.Omega.{arith}
use borrow.Author.Tests.{eq-eqb, eqb-true}
use lib.Dec.{eqb}
use lib.IntN.{ℤ, pos}
use lib.ListN.{length, get_or, set, length-set}
use lib.Signed.{mag}
use lib.Seq.{get_or-set_same, get_or-set_other}
use mir.Syntax.{w64}
use mir.Val.{to_z, of_z}
use Rattle.laws.proofs.Cases.{lt_or_le}
use Rattle.register.specs.declared.Sizes.{Sizes}
use Rattle.register.specs.declared.cells.Cell.{Cell}
use Rattle.chain.specs.Reading.{Reading}
use Rattle.program.specs.declared.rule.Operator.{Operator}
use Rattle.program.specs.declared.rule.Operator.TheVariants.{Plus, Minus, Smaller}
use Rattle.program.specs.Program.{Expression, reading, constant, operation, operators}
use Rattle.program.specs.Code.{Code, chain, number, operator, unknown, postfix, kind_in, kind_of, of_kind, code_of, code_at, codes_in, tree_in, EachChain}
use Rattle.program.proofs.Codes.{codes-first, codes-none, sign_coded}
use Rattle.machine.specs.Value.{value, overflows}
use Rattle.step_terms.specs.Found.{Agrees, Told, TreeReaches}
use Rattle.std.specs.Prelude.{Some, Ok}
use Rattle.step_operations.specs.Evaluated.{Evaluated, answer_of, evaluated, joined, JoinsBy}
use Rattle.step_operations.proofs.Operating.{read_back, operation_joined}
use Rattle.step_expressions.specs.Codes.{term_at}

-- codes that go on from n answers: an operator finds two, and there are never more than m
abbrev pub Takes : ℕ → ℕ → List Code → Type 0
Takes m n [] = Unit {0}
Takes m n (chain w ∷ cs) = (n < m) × Takes m (suc n) cs
Takes m n (number z ∷ cs) = (n < m) × Takes m (suc n) cs
Takes m n (operator op ∷ cs) = (1 < n) × Takes m (n - 1) cs
Takes m n (unknown ∷ cs) = ⊥

-- an expression needs one place, and one more for each operator
takes_postfix : (m n : ℕ) (e : Expression) (cs : List Code) → n + operators e < m → Takes m (suc n) cs → Takes m n (postfix e ++ cs)
unfolding postfix operators
takes_postfix m n (reading w) cs h t = (omega arith, t)
takes_postfix m n (constant z) cs h t = (omega arith, t)
takes_postfix m n (operation op x y) cs h t =
    let back : suc n ≡ suc (suc n) - 1 = omega arith in
    subst (Takes m n) (sym (append_assoc (postfix x) (postfix y ++ (operator op ∷ [])) cs))
    (takes_postfix m n x ((postfix y ++ (operator op ∷ [])) ++ cs) (omega arith)
    (subst (Takes m (suc n)) (sym (append_assoc (postfix y) (operator op ∷ []) cs))
    (takes_postfix m (suc n) y (operator op ∷ cs) (omega arith) (omega arith, subst (λ (i : ℕ). Takes m i cs) back t))))

-- what codes make of the answers before them, the last one first
unfoldable pub operated : Operator → List Evaluated → List Evaluated
operated op [] = []
operated op (y ∷ []) = []
operated op (y ∷ x ∷ vs) = joined op x y ∷ vs

unfoldable pub ran : (List ℕ → Reading) → List Code → List Evaluated → List Evaluated
ran read [] vs = vs
ran read (chain w ∷ cs) vs = ran read cs (Ok (read w) ∷ vs)
ran read (number z ∷ cs) vs = ran read cs (Ok (Some z) ∷ vs)
ran read (operator op ∷ cs) vs = ran read cs (operated op vs)
ran read (unknown ∷ cs) vs = []

ran-postfix : (read : List ℕ → Reading) (e : Expression) (cs : List Code) (vs : List Evaluated) → ran read (postfix e ++ cs) vs ≡ ran read cs (evaluated read e ∷ vs)
unfolding postfix ran operated evaluated value overflows
ran-postfix read (reading w) cs vs = refl
ran-postfix read (constant z) cs vs = refl
ran-postfix read (operation op x y) cs vs =
    ap (λ (l : List Code). ran read l vs) (append_assoc (postfix x) (postfix y ++ (operator op ∷ [])) cs)
    ∙ ran-postfix read x ((postfix y ++ (operator op ∷ [])) ++ cs) vs
    ∙ ap (λ (l : List Code). ran read l (evaluated read x ∷ vs)) (append_assoc (postfix y) (operator op ∷ []) cs)
    ∙ ran-postfix read y (operator op ∷ cs) (evaluated read x ∷ vs)
    ∙ ap (λ (v : Evaluated). ran read cs (v ∷ vs)) (sym (operation_joined op read x y))

-- a code that is an operator
record Sign (c : ℕ) : Type 0 where
  op : Operator
  kind_is : kind_in c ≡ kind_of op
  code_is : code_of c ≡ operator op

sign : (c m n : ℕ) (cs : List Code) → 1 < kind_in c → Takes m n (code_of c ∷ cs) → Sign c
unfolding of_kind kind_of
sign c m n cs h t = go (eqb (kind_in c) 2) (eqb (kind_in c) 3) (eqb (kind_in c) 4) refl refl refl
  where
    is : code_of c ≡ of_kind (kind_in c)
    is = sign_coded c (λ e. omega (arith, e, h)) (λ e. omega (arith, e, h))

    go : (a b d : Bool) → eqb (kind_in c) 2 ≡ a → eqb (kind_in c) 3 ≡ b → eqb (kind_in c) 4 ≡ d → Sign c
    go true b d p q r = record { op = Plus; kind_is = eqb-true (kind_in c) 2 p; code_is = is ∙ simp p }
    go false true d p q r = record { op = Minus; kind_is = eqb-true (kind_in c) 3 q; code_is = is ∙ simp (p, q) }
    go false false true p q r = record { op = Smaller; kind_is = eqb-true (kind_in c) 4 r; code_is = is ∙ simp (p, q, r) }
    go false false false p q r =
        let none : code_of c ≡ unknown = is ∙ simp (p, q, r) in
        absurd (subst (λ (x : Code). Takes m n (x ∷ cs)) none t)

-- a code that is a term
term_takes : (c m n : ℕ) (cs : List Code) → kind_in c ≤ 1 → Takes m n (code_of c ∷ cs) → (n < m) × Takes m (suc n) cs
unfolding code_of
term_takes c m n cs h t =
    ⊎_elim
    (λ (b : kind_in c < 1). let z : kind_in c ≡ 0 = omega arith in simp (eq-eqb (kind_in c) 0 z) at t)
    (λ (b : 1 ≤ kind_in c). let o : kind_in c ≡ 1 = omega arith in simp o at t)
    (lt_or_le (kind_in c) 1)

-- the answers of the first n numbers of an array, the last one first
unfoldable pub last_first : List ℤ → ℕ → List Evaluated
last_first l zero = []
last_first l (suc n) = answer_of (get_or l n (pos 0)) ∷ last_first l n

kept-before : (l : List ℤ) (n i : ℕ) (v : ℤ) → n ≤ i → last_first (set l i v) n ≡ last_first l n
unfolding last_first
kept-before l zero i v h = refl
kept-before l (suc n) i v h = ap₂ ◌∷◌ (ap answer_of (get_or-set_other l i n v (pos 0) (λ q. omega arith))) (kept-before l n i v (omega arith))

one_more : (l : List ℤ) (n : ℕ) (v : ℤ) → n < length l → last_first (set l n v) (suc n) ≡ answer_of v ∷ last_first l n
unfolding last_first
one_more l n v h = ap₂ ◌∷◌ (ap answer_of (get_or-set_same l n v (pos 0) h)) (kept-before l n n v (omega arith))

module _ (s : Sizes) (cells : List Cell) (values : List ℤ) (marks : List ℕ) (u : ℕ) (codes : List ℕ) (from to : ℕ) where
  -- the codes from a place on
  abbrev left : ℕ → List Code
  left i = codes_in codes i to

  abbrev code : ℕ → ℕ
  code i = get_or codes i 0

  more : (i : ℕ) → i < to → left i ≡ code_of (code i) ∷ left (i + 1)
  unfolding code_at
  more i h = let q : suc i ≡ i + 1 = omega arith in codes-first codes i to h ∙ ap (λ (j : ℕ). code_of (code i) ∷ left j) q

  -- a term at work
  term_ran : (read : List ℕ → Reading) → EachChain (Agrees s cells values marks u read) codes from to → (i : ℕ) → from ≤ i → i < to
      → kind_in (code i) ≤ 1 → (vs : List Evaluated) → ran read (left i) vs ≡ ran read (left (i + 1)) (term_at s cells values marks u (code i) ∷ vs)
  unfolding ran term_at code_of
  term_ran read agrees i l h k vs =
      rw (more i h)
      (⊎_elim
      (λ (b : kind_in (code i) < 1).
      let z : kind_in (code i) ≡ 0 = omega arith in
      simp (eq-eqb (kind_in (code i)) 0 z) (ap (λ (x : Reading). ran read (left (i + 1)) (Ok x ∷ vs)) (sym (agrees i l h z))))
      (λ (b : 1 ≤ kind_in (code i)). let o : kind_in (code i) ≡ 1 = omega arith in simp o)
      (lt_or_le (kind_in (code i)) 1))

  -- the codes up to `at` are worked out, and the answers of the first `count` numbers of an array wait
  pub record WorkedTo (waiting : List ℤ) (count : ℕ) (v : ℤ) (at : ℕ) : Type 0 where
    pub beyond : from < at
    pub within : at ≤ to
    pub room : length waiting ≡ 64
    pub few : count ≤ 64
    pub takes : Takes 65 (suc count) (left at)
    pub works : Told s cells values marks u (λ P. EachChain P codes from to)
        (λ read. ran read (left at) (answer_of v ∷ last_first waiting count) ≡ evaluated read (tree_in codes from to) ∷ [])

  -- the first is a term
  module _ (t : TreeReaches s values marks u codes from to) where
    tree_takes : Takes 65 0 (left from)
    unfolding tree_in
    tree_takes =
        subst (Takes 65 0) (append-nil _ ∙ sym t.formed) (takes_postfix 65 0 (tree_in codes from to) [] (omega (arith, t.few)) tt)

    first_takes : Takes 65 0 (code_of (code from) ∷ left (from + 1))
    first_takes = subst (Takes 65 0) (more from t.some) tree_takes

    first_term : kind_in (code from) ≤ 1
    first_term =
        ⊎_elim
        (λ (b : 1 < kind_in (code from)).
        let none = (subst (λ (x : Code). Takes 65 0 (x ∷ left (from + 1))) (sign (code from) 65 0 (left (from + 1)) b first_takes).code_is first_takes).0 in
        absurd (omega (arith, none)))
        (λ b. b)
        (lt_or_le 1 (kind_in (code from)))

    pub worked_first : {waiting : List ℤ} {v : ℤ} → length waiting ≡ 64 → answer_of v ≡ term_at s cells values marks u (code from) → WorkedTo waiting 0 v (from + 1)
    unfolding tree_in last_first ran
    worked_first n q = record {
      beyond = omega arith;
      within = omega (arith, t.some);
      room = n;
      few = omega arith;
      takes = (term_takes (code from) 65 0 (left (from + 1)) first_term first_takes).1;
      works = λ read agrees.
          rw q
          (sym (term_ran read agrees from (omega arith) t.some first_term [])
          ∙ ap (λ (l : List Code). ran read l []) (t.formed ∙ sym (append-nil _)) ∙ ran-postfix read (tree_in codes from to) [] []);
    }

  module _ {waiting : List ℤ} {count : ℕ} {v : ℤ} {at : ℕ} (r : WorkedTo waiting count v at) (h : at < to) where
    here : Takes 65 (suc count) (code_of (code at) ∷ left (at + 1))
    here = subst (Takes 65 (suc count)) (more at h) r.takes

    -- an operand begins: the part so far waits
    pub push_room : kind_in (code at) ≤ 1 → count < 64
    push_room k = omega (arith, (term_takes (code at) 65 (suc count) (left (at + 1)) k here).0)

    pub worked_push : kind_in (code at) ≤ 1 → {z : ℤ} → answer_of z ≡ term_at s cells values marks u (code at) → WorkedTo (set waiting count v) (count + 1) z (at + 1)
    worked_push k {z} q =
        let next : count + 1 ≡ suc count = omega arith in
        record {
          beyond = omega (arith, r.beyond);
          within = omega arith;
          room = length-set waiting count v ∙ r.room;
          few = omega (arith, push_room k);
          takes = rw next (term_takes (code at) 65 (suc count) (left (at + 1)) k here).1;
          works = λ read agrees.
              rw (q, next, one_more waiting count v (omega (arith, r.room, push_room k)))
              (sym (term_ran read agrees at (omega (arith, r.beyond)) h k _) ∙ r.works read agrees);
        }

    -- an operator: what waited last is joined with the part so far
    module _ (k : 1 < kind_in (code at)) where
      abbrev op : Sign (code at)
      op = sign (code at) 65 (suc count) (left (at + 1)) k here

      operator_takes : (1 < suc count) × Takes 65 (suc count - 1) (left (at + 1))
      operator_takes = subst (λ (x : Code). Takes 65 (suc count) (x ∷ left (at + 1))) op.code_is here

      pub some_wait : 0 < count
      some_wait = omega (arith, operator_takes.0)

      -- what waits is read back from its bits
      pub worked_pop : mag (get_or waiting (count - 1) (pos 0)) < 9223372036854775808 → {z : ℤ}
          → JoinsBy (kind_in (code at)) (answer_of (to_z w64 (of_z w64 (get_or waiting (count - 1) (pos 0))))) (answer_of v) (answer_of z) → WorkedTo waiting (count - 1) z (at + 1)
      unfolding ran operated last_first
      worked_pop b {z} a =
          let n : count ≡ suc (count - 1) = omega (arith, some_wait) in
          let m : suc count - 1 ≡ suc (count - 1) = omega (arith, some_wait) in
          record {
            beyond = omega (arith, r.beyond);
            within = omega arith;
            room = r.room;
            few = omega (arith, r.few);
            takes = subst (λ (i : ℕ). Takes 65 i (left (at + 1))) m operator_takes.1;
            works = λ read agrees.
                rw (a op.op op.kind_is, read_back (get_or waiting (count - 1) (pos 0)) b)
                (sym (ap₂ (λ (l : List Code) (i : ℕ). ran read l (answer_of v ∷ last_first waiting i)) (more at h ∙ ap (λ (x : Code). x ∷ left (at + 1)) op.code_is) n)
                ∙ r.works read agrees);
          }

  -- under the names that a later state has
  pub worked_as : {waiting waiting' : List ℤ} {count count' : ℕ} {v v' : ℤ} {at : ℕ} → WorkedTo waiting count v at
      → waiting' ≡ waiting → count' ≡ count → v' ≡ v → WorkedTo waiting' count' v' at
  worked_as r w n q = rw (w, n, q) r

  pub worked_all : {waiting : List ℤ} {count : ℕ} {v : ℤ} {at : ℕ} → WorkedTo waiting count v at → to ≤ at
      → Told s cells values marks u (λ P. EachChain P codes from to) (λ read. answer_of v ≡ evaluated read (tree_in codes from to))
  unfolding ran
  worked_all {waiting} {count} {v} {at} r h read agrees =
      only (sym (ap (λ (l : List Code). ran read l (answer_of v ∷ last_first waiting count)) (codes-none codes at to h)) ∙ r.works read agrees)
    where
      only : {x y : Evaluated} {l m : List Evaluated} → x ∷ l ≡ y ∷ m → x ≡ y
      only e = cc
