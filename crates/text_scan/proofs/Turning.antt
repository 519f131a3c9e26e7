-- One pass over an expression, turn by turn.
use Prim.Native.Nat.{ℕ, suc, ◌+◌, ◌-◌, ◌≤◌}
use mathlib.Core.Path.{◌≡◌, refl, sym, ap, ◌∙◌}
use mathlib.Core.Logic.{◌≢◌}
use mathlib.Core.Bool.{Bool, true, false}
use mathlib.Core.List.{List}
use native.Mathlib.Omega.{arith}
use lib.ListN.{length}
use Rattle.register.specs.declared.Sizes.{Sizes}
use Rattle.text_syntax.specs.Token as S
use Rattle.program.specs.declared.rule.Operator.{Operator}
use Rattle.text_syntax.specs.Token.{operator, openRound, closeRound}
use Rattle.text_syntax.specs.Kind.{kind, fixed_in, same, is}
use Rattle.text_syntax.specs.Form.{Form, formed, unformed, past, then, then_or}
use Rattle.text_syntax.specs.Written.{Term, Expression, term}
use Rattle.text_syntax.specs.Grammar.{expression}
use Rattle.text_syntax.specs.Flat as F
use Rattle.text_syntax.specs.Flat.{empty, summary, merged, with_operator, scan_from}
use Rattle.text_syntax.proofs.Scans.{scan_due, scan_term, scan_open, scan_operator, scan_close, scan-end, scan-expression}
use Rattle.text_codes.specs.declared.code.TermParts.{TermParts}
use Rattle.text_codes.specs.declared.summary.Summary.{Summary}
use Rattle.text_scan.specs.declared.ScanState.{ScanState}
use Rattle.text_places.specs.Place.{tokens_from, Passing, Absent, NoOperator}
use Rattle.text_terms.specs.Term.{TermFormed, NoTerm}
use Rattle.text_codes.specs.Summary.{summary_of, term_summary}
use Rattle.text_scan.specs.Scan.{ScanStateAt, scan_of, Turns, Fails, ScanFormed, NoExpression}
use Rattle.text_codes.proofs.Summaries.{term_summary_lem, term_few, operator_few}
use Rattle.text_places.proofs.Places.{past-absent}

-- the answer, where the turns end
pub record ScanEnds (s : Sizes) (line : List ℕ) (x : ScanState) (g : Summary) (end : ℕ) : Type 0 where
  pub answer : scan_of s line x ≡ formed (summary_of g) (tokens_from false line end)
  pub inside : end ≤ length line
  pub onward : x.at ≤ end

module _ (s : Sizes) {line : List ℕ} (x : ScanState) (w : ScanStateAt line x) where
  abbrev d : ℕ
  d = x.deep

  abbrev g : F.Summary
  g = summary_of x.seen

  -- where an operand is due or not
  at_due : (b : Bool) → x.due ≡ b → scan_of s line x ≡ scan_from s b d g (tokens_from b line x.at)
  at_due b e = ap (λ (c : Bool). scan_from s c d g (tokens_from c line x.at)) e

  pub turn_term : x.due ≡ true → {p : TermParts} {end : ℕ} → TermFormed s line x.at p end → {h : Summary} → summary_of h ≡ merged d g (term_summary p)
      → Turns s line x (record { at = end; due = false; deep = d; seen = h })
  turn_term e {p} {end} t q = record {
    same =
        at_due true e
        ∙ scan_term s d g t.written _ _ t.form_is
        ∙ ap (λ (f : F.Summary). scan_from s false d f (tokens_from false line end))
        (ap (merged d g) (sym (term_summary_lem s t.written t.parts_are)) ∙ sym q);
    onward = t.behind.onward;
    stands = record {
      inside = t.behind.inside;
      groups = omega (arith, w.groups, t.behind.onward);
      operators = omega (arith, w.operators, t.behind.onward, term_few d x.seen p q);
    };
  }

  pub turn_open : x.due ≡ true → {end : ℕ} → Passing true true openRound line x.at end
      → Turns s line x (record { at = end; due = true; deep = d + 1; seen = x.seen })
  turn_open e {end} p = record {
    same =
        at_due true e
        ∙ ap (scan_from s true d g) p.text
        ∙ scan_open s d g _
        ∙ ap (λ (n : ℕ). scan_from s true n g (tokens_from true line end)) (omega arith);
    onward = p.behind.onward;
    stands = record {
      inside = p.behind.inside;
      groups = omega (arith, w.groups, p.behind.onward);
      operators = omega (arith, w.operators, p.behind.onward);
    };
  }

  pub turn-none : x.due ≡ true → NoTerm line x.at → Absent true openRound line x.at → Fails s line x
  unfolding then_or
  turn-none e t p = record {
    none =
        at_due true e
        ∙ scan_due s d g _
        ∙ ap (λ (f : Form Term). then_or f (λ y. scan_from s false d (merged d g (summary s (term y))))
        (past openRound (tokens_from true line x.at) (scan_from s true (suc d) g))) t.none
        ∙ past-absent openRound _ (scan_from s true (suc d) g) p.absent;
  }

  pub turn_operator : x.due ≡ false → {o : Operator} {end : ℕ} → Passing false true (operator o) line x.at end → {h : Summary}
      → summary_of h ≡ with_operator o g → Turns s line x (record { at = end; due = true; deep = d; seen = h })
  turn_operator e {o} {end} p q = record {
    same =
        at_due false e
        ∙ ap (scan_from s false d g) p.text
        ∙ scan_operator s d g o _
        ∙ ap (λ (f : F.Summary). scan_from s true d f (tokens_from true line end)) (sym q);
    onward = p.behind.onward;
    stands = record {
      inside = p.behind.inside;
      groups = omega (arith, w.groups, p.behind.onward);
      operators = omega (arith, w.operators, p.behind.onward, operator_few o x.seen q);
    };
  }

  module _ (e : x.due ≡ false) (n : NoOperator line x.at) where
    pub turn_end : d ≡ 0 → ScanEnds s line x x.seen x.at
    turn_end z = record {
      answer = at_due false e ∙ ap (λ (k : ℕ). scan_from s false k g (tokens_from false line x.at)) z ∙ scan-end s g _ n.none;
      inside = w.inside;
      onward = omega arith;
    }

    inner : d ≢ 0 → scan_from s false d g (tokens_from false line x.at) ≡ past closeRound (tokens_from false line x.at) (scan_from s false (d - 1) g)
    inner z =
        let one : d ≡ suc (d - 1) = omega (arith, z) in
        ap (λ (k : ℕ). scan_from s false k g (tokens_from false line x.at)) one ∙ scan_close s (d - 1) g _ n.none

    pub turn_close : d ≢ 0 → {end : ℕ} → Passing false false closeRound line x.at end
        → Turns s line x (record { at = end; due = false; deep = d - 1; seen = x.seen })
    unfolding past is same fixed_in kind
    turn_close z p = record {
      same = at_due false e ∙ inner z ∙ ap (λ (ts : List S.Token). past closeRound ts (scan_from s false (d - 1) g)) p.text;
      onward = p.behind.onward;
      stands = record {
        inside = p.behind.inside;
        groups = omega (arith, w.groups, p.behind.onward);
        operators = omega (arith, w.operators, p.behind.onward);
      };
    }

    pub turn_unclosed : d ≢ 0 → Absent false closeRound line x.at → Fails s line x
    turn_unclosed z p = record { none = at_due false e ∙ inner z ∙ past-absent closeRound _ _ p.absent }

-- the turns so far
pub record Scanning (s : Sizes) (line : List ℕ) (at : ℕ) (x : ScanState) : Type 0 where
  pub same : scan_from s true 0 empty (tokens_from true line at) ≡ scan_of s line x
  pub onward : at ≤ x.at
  pub stands : ScanStateAt line x

pub scanning_start : (s : Sizes) {line : List ℕ} {at : ℕ} {g : Summary} → at ≤ length line → summary_of g ≡ empty
    → Scanning s line at (record { at = at; due = true; deep = 0; seen = g })
unfolding empty
scanning_start s {line} {at} {g} h e = record {
  same = ap (λ (f : F.Summary). scan_from s true 0 f (tokens_from true line at)) (sym e);
  onward = omega arith;
  stands = record { inside = h; groups = omega arith; operators = omega (arith, ap (λ (f : F.Summary). f.operators) e) };
}

module _ {s : Sizes} {line : List ℕ} {at : ℕ} {x : ScanState} (w : Scanning s line at x) where
  pub scanning_more : {y : ScanState} → Turns s line x y → Scanning s line at y
  scanning_more t = record { same = w.same ∙ t.same; onward = omega (arith, w.onward, t.onward); stands = t.stands }

  pub scanning_done : {g : Summary} {end : ℕ} → ScanEnds s line x g end → ScanFormed s line at g end
  unfolding then
  scanning_done {g} {end} t = go (expression (tokens_from true line at)) refl (sym (scan-expression s _) ∙ w.same ∙ t.answer)
    where
      go : (f : Form Expression) → expression (tokens_from true line at) ≡ f → then f (λ e. formed (summary s e)) ≡ formed (summary_of g)
          (tokens_from false line end)
          → ScanFormed s line at g end
      go unformed e q = absurd (let z : ◌≡◌ {A = ℕ} 0 1 = cc in omega arith)
      go (formed v r) e q =
          let rest : r ≡ tokens_from false line end = cc in
          let same : summary s v ≡ summary_of g = cc in
          record { written = v; form_is = e ∙ ap (formed v) rest; summary_is = sym same; onward = omega (arith, w.onward, t.onward); inside = t.inside }

  pub scanning_none : Fails s line x → NoExpression line at
  unfolding then
  scanning_none t = record { none = go (expression (tokens_from true line at)) refl (sym (scan-expression s _) ∙ w.same ∙ t.none) }
    where
      go : (f : Form Expression) → expression (tokens_from true line at) ≡ f → then f (λ e. formed (summary s e)) ≡ unformed
          → expression (tokens_from true line at) ≡ unformed
      go unformed e q = e
      go (formed v r) e q = absurd (let z : ◌≡◌ {A = ℕ} 0 1 = cc in omega arith)
