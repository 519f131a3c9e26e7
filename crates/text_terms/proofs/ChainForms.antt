-- Chains, link by link: what a chain begins with, its inner chain, and the brackets behind it.
use Prim.Native.Nat.{ℕ, suc, ◌+◌, ◌-◌, ◌*◌, ◌^◌, ◌≤◌, ◌<◌}
use mathlib.Core.Path.{◌≡◌, refl, sym, ap, ◌∙◌}
use mathlib.Core.Bool.{Bool, false}
use mathlib.Core.List.{List, [], ◌∷◌, ◌++◌}
use mathlib.Core.Option.{Option, none, some}
use native.Mathlib.Omega.{arith}
use native.Mathlib.Nat.{pow-le-pow_right}
use lib.ListN.{length, drop, length-append}
use Rattle.register.specs.declared.Sizes.{Sizes}
use Rattle.chain_text.specs.Scan.{step, steps}
use Rattle.chain_text.specs.declared.letters.Letters.{Letters}
use Rattle.text_syntax.specs.Token as S
use Rattle.text_syntax.specs.Token.{own, letter, openSquare, closeSquare}
use Rattle.text_syntax.specs.Kind.{kind, letter_in, fixed_in, same, is}
use Rattle.text_syntax.specs.Form.{Form, formed, unformed, one_of, held, past, then}
use Rattle.text_syntax.specs.Grammar.{chain_form}
use Rattle.text_syntax.specs.Flat.{closed_chain, chain_from}
use Rattle.text_syntax.proofs.Chains.{chain_own, chain_letter, chain_none}
use Rattle.text_syntax.proofs.Scans.{chain_start, chain_opens, chain_within}
use Rattle.text_places.specs.Word.{NoLetter}
use Rattle.text_places.specs.Place.{tokens_from, Behind, begins, Passing, Absent}
use Rattle.text_terms.specs.Chain.{Opens, NoChain, Closes, Unclosed, ChainFormed}
use Rattle.text_places.proofs.Places.{behind-behind, past-absent, letter-capital}

-- what a chain begins with: a letter and `[`, a letter alone, and neither a letter nor `u`
module _ (due : Bool) (line : List ℕ) (at i : ℕ) {l : ℕ} (text : tokens_from due line at ≡ letter l ∷ tokens_from false line i) where
  pub link_letter : {end : ℕ} → Behind line at i → Passing false false openSquare line i end → Opens due line at l end
  link_letter b w = record {
    text = text ∙ ap (λ (r : List S.Token). letter l ∷ r) w.text;
    capital = letter-capital due (drop at line) text;
    behind = behind-behind b w.behind;
  }

  pub link_none : Absent false openSquare line i → NoChain due line at
  link_none w = record { none = ap chain_form text ∙ chain_letter l _ ∙ past-absent openSquare _ _ w.absent }

pub link_other : {due : Bool} {line : List ℕ} {at : ℕ} → NoLetter due line at → Absent due own line at → NoChain due line at
unfolding held chain_form begins one_of
link_other {due} {line} {at} n w = record { none = go (tokens_from due line at) w.absent n.none }
  where
    kept : (o : Option ℕ) (r : List S.Token) → held o r ≡ unformed → o ≡ none
    kept none r h = refl
    kept (some l) r h = absurd (let z : ◌≡◌ {A = ℕ} 0 1 = cc in omega arith)

    go : (ts : List S.Token) → begins own ts ≡ false → one_of letter_in ts ≡ unformed → chain_form ts ≡ unformed
    go [] h k = refl
    go (t ∷ r) h k = chain_none t r h (kept (letter_in (kind t)) r k)

-- a letter and `[`, the chain inside and `]`
opened : {due : Bool} {line : List ℕ} {at l end : ℕ} → Opens due line at l end
    → chain_form (tokens_from due line at) ≡ then (chain_form (tokens_from false line end)) (λ ls r. past closeSquare r (formed (l ∷ ls)))
unfolding past is same fixed_in kind
opened {l = l} {end = end} o = ap chain_form o.text ∙ chain_letter l (openSquare ∷ tokens_from false _ end)

module _ (s : Sizes) (k : ℕ) (x : Letters) {due : Bool} {line : List ℕ} {at l end : ℕ} (o : Opens due line at l end) where
  abbrev bracketed : Form (List ℕ) → Form (List ℕ)
  bracketed f = then f (λ ls r. past closeSquare r (formed (l ∷ ls)))

  pub chain_unopened : NoChain false line end → NoChain due line at
  unfolding then
  chain_unopened h = record { none = opened o ∙ ap bracketed h.none }

  module _ {y : Letters} {i : ℕ} (h : ChainFormed s (k - 1) (step s k x l) false line end y i) where
    pub chain_unclosed : Absent false closeSquare line i → NoChain due line at
    unfolding then
    chain_unclosed p = record { none = opened o ∙ ap bracketed h.form_is ∙ past-absent closeSquare _ _ p.absent }

    pub chain_closed : {last : ℕ} → Passing false false closeSquare line i last → ChainFormed s k x due line at y last
    unfolding then past steps is same fixed_in kind
    chain_closed p = record {
      letters = l ∷ h.letters;
      form_is = opened o ∙ ap bracketed h.form_is ∙ ap (λ (r : List S.Token). past closeSquare r (formed (l ∷ h.letters))) p.text;
      letters_are = h.letters_are;
      small = h.small;
      behind = behind-behind o.behind (behind-behind h.behind p.behind);
    }

-- `u` alone
pub chain_alone : (s : Sizes) (k : ℕ) (x : Letters) {due : Bool} {line : List ℕ} {at end : ℕ} → x.packed < 9007199254740992
    → Passing due false own line at end → ChainFormed s k x due line at x end
unfolding steps
chain_alone s k x h w = record { letters = []; form_is = ap chain_form w.text ∙ chain_own _; letters_are = refl; small = h; behind = w.behind }

-- few hops are packed into a number that has a code
pub hops-small : (k n : ℕ) → k ≤ 16 → n + 5 ≤ 5 * 8 ^ (16 - k) → n < 9007199254740992
hops-small k n h few =
    let less : 16 - k ≤ 16 = omega arith in
    let p : 8 ^ (16 - k) ≤ 8 ^ 16 = pow-le-pow_right (omega arith) less in
    omega (arith, few, p)

-- `]` has stood k times of n
pub record Closing (n : ℕ) (line : List ℕ) (at k i : ℕ) : Type 0 where
  pub same : (ls : List ℕ) → closed_chain n ls (tokens_from false line at) ≡ closed_chain (n - k) ls (tokens_from false line i)
  pub onward : at ≤ i
  pub inside : i ≤ length line

module _ {n : ℕ} {line : List ℕ} {at k i : ℕ} (w : Closing n line at k i) (h : k < n) where
  one_more : (ls : List ℕ) → closed_chain n ls (tokens_from false line at) ≡ closed_chain (suc (n - (k + 1))) ls (tokens_from false line i)
  one_more ls = w.same ls ∙ ap (λ (m : ℕ). closed_chain m ls (tokens_from false line i)) (omega arith)

  pub closing-more : {end : ℕ} → Passing false false closeSquare line i end → Closing n line at (k + 1) end
  unfolding closed_chain past is same fixed_in kind
  closing-more p = record {
    same = λ ls. one_more ls ∙ ap (closed_chain (suc (n - (k + 1))) ls) p.text;
    onward = omega (arith, w.onward, p.behind.onward);
    inside = p.behind.inside;
  }

  pub closing-none : Absent false closeSquare line i → Unclosed n line at
  unfolding closed_chain
  closing-none p = record { none = λ ls. one_more ls ∙ past-absent closeSquare _ _ p.absent }

pub closing-done : {n : ℕ} {line : List ℕ} {at k i : ℕ} → Closing n line at k i → n ≤ k → Closes n line at i
unfolding closed_chain
closing-done {n} {line = line} {k = k} {i = i} w h = record {
  text = λ ls. let none_left : n - k ≡ 0 = omega arith in w.same ls ∙ ap (λ (m : ℕ). closed_chain m ls (tokens_from false line i)) none_left;
  onward = w.onward;
  inside = w.inside;
}

-- a chain of any length: the letters that have opened, and where the next link stands
pub record Opening (s : Sizes) (x : Letters) (line : List ℕ) (at : ℕ) (seen : Letters) (i hops : ℕ) : Type 0 where
  pub opened : List ℕ
  pub same : chain_form (tokens_from false line at) ≡ chain_from opened (tokens_from false line i)
  pub letters_are : seen ≡ steps s 0 x opened
  pub packed : seen.packed ≡ x.packed
  pub hops_are : hops ≡ length opened
  pub few : at + hops ≤ i
  pub inside : i ≤ length line

steps-last : (s : Sizes) (x : Letters) (ls : List ℕ) (l : ℕ) → steps s 0 x (ls ++ (l ∷ [])) ≡ step s 0 (steps s 0 x ls) l
unfolding steps
steps-last s x [] l = refl
steps-last s x (m ∷ ls) l = steps-last s (step s 0 x m) ls l

pub opening-start : (s : Sizes) (x : Letters) {line : List ℕ} {at : ℕ} → at ≤ length line → Opening s x line at x at 0
unfolding steps
opening-start s x h = record {
  opened = [];
  same = sym (chain_start _);
  letters_are = refl;
  packed = refl;
  hops_are = refl;
  few = omega arith;
  inside = h;
}

module _ {s : Sizes} {x : Letters} {line : List ℕ} {at : ℕ} {seen : Letters} {i hops : ℕ} (w : Opening s x line at seen i hops) where
  pub opening-more : {l end : ℕ} {next : Letters} → Opens false line i l end → next ≡ step s 0 seen l → Opening s x line at next end (hops + 1)
  unfolding step
  opening-more {l} o e = record {
    opened = w.opened ++ (l ∷ []);
    same = w.same ∙ ap (chain_from w.opened) o.text ∙ chain_opens w.opened l _;
    letters_are = e ∙ ap (λ (y : Letters). step s 0 y l) w.letters_are ∙ sym (steps-last s x w.opened l);
    packed = ap (λ (y : Letters). y.packed) e ∙ w.packed;
    hops_are = omega (arith, w.hops_are, length-append w.opened (l ∷ []));
    few = omega (arith, w.few, o.behind.onward);
    inside = o.behind.inside;
  }

  pub opening-none : NoChain false line i → NoChain false line at
  unfolding chain_from then
  opening-none h = record { none = w.same ∙ ap (λ (f : Form (List ℕ)). then f (λ ms. closed_chain (length w.opened) (w.opened ++ ms))) h.none }

  module _ {end : ℕ} (u : Passing false false own line i end) where
    within : chain_form (tokens_from false line at) ≡ closed_chain hops w.opened (tokens_from false line end)
    within =
        w.same
        ∙ ap (chain_from w.opened) u.text
        ∙ chain_within w.opened _
        ∙ ap (λ (n : ℕ). closed_chain n w.opened (tokens_from false line end)) (sym w.hops_are)

    pub opening-closed : {last : ℕ} → x.packed < 9007199254740992 → Closes hops line end last → ChainFormed s 0 x false line at seen last
    opening-closed h q = record {
      letters = w.opened;
      form_is = within ∙ q.text w.opened;
      letters_are = w.letters_are;
      small = rw w.packed h;
      behind = record { onward = omega (arith, w.few, u.behind.onward, q.onward); inside = q.inside };
    }

    pub opening_unclosed : Unclosed hops line end → NoChain false line at
    opening_unclosed q = record { none = within ∙ q.none w.opened }
