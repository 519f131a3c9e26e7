-- Codes whose chains are located one behind the other, and their words.
use Prim.Native.Nat.{ℕ, suc, ◌+◌, ◌-◌, ◌≤◌, ◌<◌}
use mathlib.Core.Path.{◌≡◌, refl, sym, ap, ◌∙◌}
use mathlib.Core.Logic.{◌≢◌, ⊎_elim}
use mathlib.Core.Bool.{Bool, true, false, cond}
use mathlib.Core.List.{List, [], ◌∷◌, ◌++◌}
use native.Mathlib.Decide.{ℕ_discrete}
use native.Mathlib.Omega.{arith}
use borrow.Author.Tests.{ne_eqb}
use lib.Dec.{eqb}
use lib.ListN.{length, get_or, set, length-set}
use lib.Seq.{get_or-set_same, get_or-set_other}
use Rattle.laws.proofs.Cases.{lt_or_le}
use Rattle.laws.proofs.Lists.{each_of}
use Rattle.chain.specs.Word.{unpack}
use Rattle.program.specs.declared.location.Location.{Location}
use Rattle.program.specs.declared.rule.Operator.TheVariants.{Plus, Minus, Smaller}
use Rattle.program.specs.Code.{Code, number, operator, unknown, code_readings, kind_in, chain_in, number_in, of_kind, code_of, code_at, codes_from, with_location, IfChain, EachChain}
use Rattle.program.proofs.Codes.{readings-append, codes-first, codes-none, codes-more, codes_agree, chain_at, chain_listed, located_chain, located-at, located-code}
use Rattle.text_readings.specs.declared.Open.{Open}
use Rattle.text_readings.specs.Readings.{code_words, Short, NotFull, WordPlaced, ReadingAdded, Walked}
use Rattle.text_readings.proofs.Plans.{grown_none, grown_both}

-- no reading, and one walk behind another
pub walked_none : {From : ℕ → Type 0} {Found : Open → List ℕ → Type 0} {a : Open} {codes : List ℕ} → Found a codes
    → Walked [] From Found a codes a codes
walked_none f = record {
  grown = grown_none;
  same = λ i. refl;
  sized = refl;
  keeps = λ n i h. h;
  below = λ n f i j. refl;
  found = λ n. f;
}

pub walked_both : {vs us : List (List ℕ)} {From From' : ℕ → Type 0} {Found Found' : Open → List ℕ → Type 0} {a b c : Open} {k k' k'' : List ℕ}
    → (NotFull c → Found b k' → Found c k'') → Walked vs From Found a k b k' → Walked us From' Found' b k' c k''
    → Walked (vs ++ us) (λ n. From n × From' n) (λ x z. Found x z × Found' x z) a k c k''
walked_both {vs} {us} stay h k = record {
  grown = grown_both vs us h.grown k.grown;
  same = λ i. h.same i ∙ k.same i;
  sized = k.sized ∙ h.sized;
  keeps = λ n i p. k.keeps n i (h.keeps (k.grown.kept n) i p);
  below = λ n f i j. k.below n f.1 i j ∙ h.below n f.0 i j;
  found = λ n. (stay n (h.found (k.grown.kept n)), k.found n);
}

-- a walk told in other words
pub walked_as : {vs us : List (List ℕ)} {From From' : ℕ → Type 0} {Found Found' : Open → List ℕ → Type 0} {a b : Open} {k k' : List ℕ}
    → vs ≡ us → ((n : ℕ) → From' n → From n) → (Found b k' → Found' b k') → Walked vs From Found a k b k' → Walked us From' Found' a k b k'
walked_as e from found h = record {
  grown = rw e at h.grown;
  same = h.same;
  sized = h.sized;
  keeps = h.keeps;
  below = λ n f. h.below n (from n f);
  found = λ n. found (h.found n);
}

-- a chain alone leaves the codes as they are
pub walked_chain : {w : List ℕ} {From : ℕ → Type 0} {Found : Open → List ℕ → Type 0} {a b : Open} {at : Location} (codes : List ℕ)
    → ReadingAdded w a b at → ((x : Open) → WordPlaced x at w → Found x codes) → Walked (w ∷ []) From Found a codes b codes
walked_chain {b = b} codes h f = record {
  grown = h.grown;
  same = λ i. refl;
  sized = refl;
  keeps = λ n i p e. h.grown.stays n _ _ (p e);
  below = λ n f i j. refl;
  found = λ n. f b (h.found n);
}

-- the words of codes that are the same
pub words_same : (codes codes' : List ℕ) → ((i : ℕ) → code_at codes i ≡ code_at codes' i) → (from to : ℕ) → code_words codes' from to ≡ code_words codes from to
words_same codes codes' h from to = ap code_readings (codes_agree codes' codes from (to - from) (λ j l b. sym (h j)))

-- the words of one code
module _ (codes : List ℕ) (at : ℕ) where
  one_code : code_words codes at (suc at) ≡ code_readings (code_at codes at ∷ [])
  one_code = ap code_readings (codes-first codes at (suc at) (omega arith)
      ∙ ap (λ (l : List Code). code_at codes at ∷ l) (codes-none codes (suc at) (suc at) (omega arith)))

  pub words_chain : kind_in (get_or codes at 0) ≡ 0 → code_words codes at (suc at) ≡ unpack (chain_in (get_or codes at 0)) ∷ []
  unfolding code_readings
  words_chain k = one_code ∙ rw (chain_at codes at k)

  pub words-other : kind_in (get_or codes at 0) ≢ 0 → code_words codes at (suc at) ≡ []
  unfolding code_at code_of code_readings of_kind
  words-other k =
      let c = get_or codes at 0 in
      one_code ∙ simp (ne_eqb (kind_in c) 0 k) (go (eqb (kind_in c) 1) (eqb (kind_in c) 2) (eqb (kind_in c) 3) (eqb (kind_in c) 4))
    where
      go : (n p m s : Bool)
          → code_readings (cond n (number (number_in (get_or codes at 0))) (cond p (operator Plus) (cond m (operator Minus) (cond s (operator Smaller) unknown))) ∷ []) ≡ []
      go true p m s = refl
      go false true m s = refl
      go false false true s = refl
      go false false false true = refl
      go false false false false = refl

-- and of one code more
pub words_plus : (codes : List ℕ) (from at : ℕ) → from ≤ at → code_words codes from (at + 1) ≡ code_words codes from at ++ code_words codes at (suc at)
words_plus codes from at h =
    let n : at + 1 - from ≡ suc (at - from) = omega arith in
    let m : from + (at - from) ≡ at = omega arith in
    ap (λ (k : ℕ). code_readings (codes_from codes from k)) n
    ∙ ap code_readings (codes-more codes from (at - from))
    ∙ readings-append (codes_from codes from (at - from)) (code_at codes (from + (at - from)) ∷ [])
    ∙ ap (λ (k : ℕ). code_words codes from at ++ code_readings (code_at codes k ∷ [])) m
    ∙ ap (λ (l : List (List ℕ)). code_words codes from at ++ l) (sym (one_code codes at))

pub words-none : (codes : List ℕ) (from : ℕ) → code_words codes from from ≡ []
unfolding code_readings
words-none codes from = ap code_readings (codes-none codes from from (omega arith))

-- a chain among the codes of short words is short
pub short_chain : (codes : List ℕ) (from to at : ℕ) → from ≤ at → at < to → Short (code_words codes from to) → kind_in (get_or codes at 0) ≡ 0
    → length (unpack (chain_in (get_or codes at 0))) ≤ 16
short_chain codes from to at f t h e = each_of _ h (chain_listed codes from to at f t e)

-- the code of a chain that is added
module _ {a b : Open} (codes : List ℕ) (i : ℕ) (inside : i < length codes) (chain : kind_in (get_or codes i 0) ≡ 0) {x : Location}
    (h : ReadingAdded (unpack (chain_in (get_or codes i 0))) a b x) where
  abbrev c : ℕ
  c = get_or codes i 0

  abbrev changed : List ℕ
  changed = set codes i (with_location c x)

  here : NotFull b → IfChain (WordPlaced b) (get_or changed i 0)
  here n = rw (get_or-set_same codes i (with_location c x) 0 inside) (λ e. rw (located-at c x h.numbered, located_chain c x h.numbered) (h.found n))

  same : (j : ℕ) → code_at codes j ≡ code_at changed j
  unfolding code_at
  same j = go (ℕ_discrete j i)
    where
      go : Dec (j ≡ i) → code_of (get_or codes j 0) ≡ code_of (get_or changed j 0)
      go (yes q) = rw (q, get_or-set_same codes i (with_location c x) 0 inside) (sym (located-code c x h.numbered chain))
      go (no n) = rw (get_or-set_other codes i j (with_location c x) 0 n)

  keeps : NotFull b → (j : ℕ) → IfChain (WordPlaced a) (get_or codes j 0) → IfChain (WordPlaced b) (get_or changed j 0)
  keeps n j p = go (ℕ_discrete j i)
    where
      go : Dec (j ≡ i) → IfChain (WordPlaced b) (get_or changed j 0)
      go (yes q) = rw q (here n)
      go (no d) = rw (get_or-set_other codes i j (with_location c x) 0 d) (λ e. h.grown.stays n _ _ (p e))

  pub walked_code : Walked (code_words codes i (suc i)) (λ n. n ≤ i) (λ y z. IfChain (WordPlaced y) (get_or z i 0)) a codes b changed
  walked_code = record {
    grown = rw (words_chain codes i chain) h.grown;
    same = same;
    sized = length-set codes i (with_location c x);
    keeps = keeps;
    below = λ n f j l. get_or-set_other codes i j (with_location c x) 0 (λ e. omega arith);
    found = here;
  }

-- a code that is no chain
pub walked_other : {a : Open} (codes : List ℕ) (i : ℕ) → kind_in (get_or codes i 0) ≢ 0
    → Walked (code_words codes i (suc i)) (λ n. n ≤ i) (λ y z. IfChain (WordPlaced y) (get_or z i 0)) a codes a codes
walked_other codes i n = rw (words-other codes i n) (walked_none (λ e. absurd (n e)))

-- one code more behind others
pub walked_more : {a b c : Open} {k k' k'' : List ℕ} (from at : ℕ) → from ≤ at
    → Walked (code_words k from at) (λ n. n ≤ from) (λ x z. EachChain (WordPlaced x) z from at) a k b k'
    → Walked (code_words k' at (suc at)) (λ n. n ≤ at) (λ x z. IfChain (WordPlaced x) (get_or z at 0)) b k' c k''
    → Walked (code_words k from (at + 1)) (λ n. n ≤ from) (λ x z. EachChain (WordPlaced x) z from (at + 1)) a k c k''
walked_more {k = k} from at o h w =
    walked_as (ap (λ (l : List (List ℕ)). code_words k from at ++ l) (words_same _ _ h.same at (suc at)) ∙ sym (words_plus k from at o)) (λ n f. (f, omega arith))
    (λ p i f t. ⊎_elim (λ (b : i < at). p.0 i f b) (λ (b : at ≤ i). let e : i ≡ at = omega arith in rw e p.1) (lt_or_le i at))
    (walked_both (λ n p i f t. w.keeps n i (p i f t)) h w)
