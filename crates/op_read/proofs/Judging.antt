-- The answer for what is known of a chain's letters.
use Prim.Native.Nat.{ℕ, suc}
use mathlib.Core.Path.{◌≡◌, refl, sym, ap, ◌∙◌}
use mathlib.Core.Logic.{◌≢◌}
use mathlib.Core.Bool.{Bool, true, false}
use mathlib.Core.List.{List, [], ◌∷◌}
use native.Mathlib.Omega.{arith}
use lib.Dec.{ltb}
use lib.ListN.{length}
use Rattle.laws.specs.Outcome.{Outcome, done, refused, unless}
use Rattle.register.specs.Shape.{Limits}
use Rattle.register.specs.declared.Sizes.{Sizes}
use Rattle.chain_text.specs.Text.{Form, formed, unformed, form, names, inner_references, letters_refusal, word_of}
use Rattle.laws.specs.Lists.{every}
use Rattle.chain_text.specs.Scan.{summary, Scanned, scanned, chain_end}
use Rattle.op_read.specs.Reading.{judged_of, chain_outcome, chain_refusal_number, word_of_form}
use Rattle.chain_text.specs.declared.letters.Letters.{Letters}
use Rattle.op_read.specs.declared.Refusal.TheVariants.{Field, Kind, Hops}
use Rattle.std.specs.Prelude.{Some, None, Ok, Err}
use Rattle.chain_text.proofs.Forms.{form-length}
use Rattle.chain_text.proofs.Passing.{refused-field, refused-kind, refused-hops, refused_none, letters_unpacked}

module _ (x : Letters) where
  pub judged_field : x.named ≡ false → judged_of x ≡ Err Field
  unfolding judged_of
  judged_field n = simp n

  pub judged_kind : x.named ≡ true → x.kinded ≡ false → judged_of x ≡ Err Kind
  unfolding judged_of
  judged_kind n k = simp (n, k)

  pub judged_hops : x.named ≡ true → x.kinded ≡ true → x.long ≡ true → judged_of x ≡ Err Hops
  unfolding judged_of
  judged_hops n k l = simp (n, k, l)

  pub judged_chain : x.named ≡ true → x.kinded ≡ true → x.long ≡ false → judged_of x ≡ Ok x.packed
  unfolding judged_of
  judged_chain n k l = simp (n, k, l)

-- a number that is not 0 refuses
unless-none : {A : Type 0} {k : ℕ} (o : Outcome A) → k ≡ 0 → unless k 1 o ≡ o
unfolding unless
unless-none o e = rw e

unless-some : {A : Type 0} {k : ℕ} (n : ℕ) (o : Outcome A) → k ≡ suc n → unless k 1 o ≡ refused (suc n) 1
unfolding unless
unless-some n o e = rw e

-- the letters' summary, judged, has the outcome of the letters
pub judged_outcome : (s : Sizes) → Limits s → (ls : List ℕ) → chain_outcome (judged_of (summary s ls)) ≡ unless (letters_refusal s ls) 1 (done (word_of ls))
unfolding chain_outcome chain_refusal_number summary
judged_outcome s l ls = go (every (names s) ls) refl (inner_references ls) refl (ltb 16 (length ls)) refl
  where
    x : Letters
    x = summary s ls

    go : (n : Bool) → every (names s) ls ≡ n → (k : Bool) → inner_references ls ≡ k → (h : Bool) → ltb 16 (length ls) ≡ h
        → chain_outcome (judged_of (summary s ls)) ≡ unless (letters_refusal s ls) 1 (done (word_of ls))
    go false n k hk h hh = ap chain_outcome (judged_field x n) ∙ sym (unless-some 8 _ (refused-field s ls n))
    go true n false k h hh = ap chain_outcome (judged_kind x n k) ∙ sym (unless-some 9 _ (refused-kind s ls n k))
    go true n true k true h = ap chain_outcome (judged_hops x n k h) ∙ sym (unless-some 10 _ (refused-hops s ls n k h))
    go true n true k false h =
        ap chain_outcome (judged_chain x n k h) ∙ ap done (letters_unpacked s ls n k l h) ∙ sym (unless-none _ (refused_none s ls n k h))

-- the outcome of a single chain, by what the reader finds
no_chain : {A : Type 0} {y : Scanned} {x : Letters} {e : ℕ} → y ≡ None → y ≡ Some (x, e) → A
no_chain p q = absurd (let z : ◌≡◌ {A = ℕ} 0 1 = cc in omega arith)

same-letters : {y : Scanned} {x x' : Letters} {e e' : ℕ} → y ≡ Some (x, e) → y ≡ Some (x', e') → x ≡ x'
same-letters {x = x} {x' = x'} {e = e} {e' = e'} p q = let pair : ◌≡◌ {A = Letters × ℕ} (x, e) (x', e') = cc in ap (λ (r : Letters × ℕ). r.0) pair

same_end : {y : Scanned} {x x' : Letters} {e e' : ℕ} → y ≡ Some (x, e) → y ≡ Some (x', e') → e ≡ e'
same_end {x = x} {x' = x'} {e = e} {e' = e'} p q = let pair : ◌≡◌ {A = Letters × ℕ} (x, e) (x', e') = cc in ap (λ (r : Letters × ℕ). r.1) pair

module _ (s : Sizes) (t : List ℕ) where
  pub chain_none : scanned s 0 (form t) ≡ None → refused 7 1 ≡ word_of_form s (form t)
  unfolding scanned word_of_form
  chain_none h = go (form t) h
    where
      go : (f : Form) → scanned s 0 f ≡ None → refused 7 1 ≡ word_of_form s f
      go unformed h = refl
      go (formed ls r) h = no_chain h refl

  module _ {x : Letters} {e : ℕ} (h : scanned s 0 (form t) ≡ Some (x, e)) where
    pub chain_rest : e ≢ length t → refused 7 1 ≡ word_of_form s (form t)
    unfolding scanned word_of_form chain_end
    chain_rest ne = go (form t) refl h
      where
        go : (f : Form) → form t ≡ f → scanned s 0 f ≡ Some (x, e) → refused 7 1 ≡ word_of_form s f
        go unformed q h = refl
        go (formed ls []) q h = absurd (ne (omega (arith, same_end h refl, form-length t ls [] q)))
        go (formed ls (b ∷ r)) q h = refl

    pub chain_whole : Limits s → e ≡ length t → chain_outcome (judged_of x) ≡ word_of_form s (form t)
    unfolding scanned word_of_form chain_end
    chain_whole l eq = go (form t) refl h
      where
        go : (f : Form) → form t ≡ f → scanned s 0 f ≡ Some (x, e) → chain_outcome (judged_of x) ≡ word_of_form s f
        go unformed q h = no_chain refl h
        go (formed ls []) q h = ap (λ (y : Letters). chain_outcome (judged_of y)) (same-letters h refl) ∙ judged_outcome s l ls
        go (formed ls (b ∷ r)) q h = absurd (omega (arith, same_end h refl, form-length t ls (b ∷ r) q))
