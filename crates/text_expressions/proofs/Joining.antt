-- What operators of a rank join, element by element, with a remaining depth.
use Prim.Native.Nat.{ℕ, suc, ◌+◌, ◌-◌, ◌≤◌, ◌<◌}
use mathlib.Core.Path.{◌≡◌, refl, sym, ap, subst, ◌∙◌}
use mathlib.Core.Logic.{◌≢◌}
use mathlib.Core.Bool.{Bool, true, false}
use mathlib.Core.List.{List, [], ◌∷◌, ◌++◌, append-nil}
use native.Mathlib.Omega.{arith}
use lib.ListN.{length}
use Rattle.register.specs.declared.Sizes.{Sizes}
use Rattle.std.specs.Prelude.{Option, None, Result, Ok, Err}
use Rattle.text_syntax.specs.Token as S
use Rattle.program.specs.Code.{Code, code_of}
use Rattle.program.specs.declared.rule.Operator.{Operator}
use Rattle.text_syntax.specs.Token.{operator, openRound, closeRound}
use Rattle.text_syntax.specs.Kind.{kind, fixed_in, same, is}
use Rattle.text_syntax.specs.Form.{Form, formed, unformed, past, then}
use Rattle.text_syntax.specs.Written.{Expression, term, group, operation}
use Rattle.text_syntax.specs.Grammar.{group_form, operator_form, expression, operand, minimum_from, expression_from}
use Rattle.text_syntax.specs.Parts.{depth}
use Rattle.text_syntax.specs.Flat as F
use Rattle.text_syntax.specs.Flat.{summary, merged, with_operator}
use Rattle.text_syntax.proofs.Readers.{All, all_map, behind_all}
use Rattle.text_syntax.proofs.Turns.{minimum-joined, minimum-more, minimum-end, expression-joined, expression-more, expression-end, operand_term, operand_group, operand-other}
use Rattle.text_syntax.proofs.Depths.{Grows, minimum_grows, expression_grows, Deep, group_deep, group_deep_first}
use Rattle.text_syntax.proofs.Scans.{merged_operation, merged_group}
use Rattle.text_codes.specs.declared.code.TermParts.{TermParts}
use Rattle.text_codes.specs.declared.summary.Summary.{Summary}
use Rattle.text_joins.specs.declared.Gathered.{Gathered}
use Rattle.text_joins.specs.declared.Unread as J
use Rattle.text_joins.specs.declared.Unread.TheVariants.{NoForm, Deep as TooDeepRead}
use Rattle.text_joins.specs.declared.Pending.{Pending}
use Rattle.text_joins.specs.declared.Joining.{Joining}
use Rattle.text_joins.specs.declared.Joining.TheVariants.{Next, Done}
use Rattle.text_places.specs.Place.{tokens_from, Passing, Absent}
use Rattle.text_codes.specs.Coded.{parts_of}
use Rattle.text_terms.specs.Term.{TermFormed, NoTerm}
use Rattle.text_codes.specs.Summary.{summary_of, term_summary}
use Rattle.text_joins.specs.Join.{rank_of, Unranked, EndInside, GroupedBy, Continues, ReadyFor, JoinedBy}
use Rattle.text_expressions.specs.Reading.{joined_form, element_form, AllDeep, ReadAs, Unread, TooDeep, ReadingAt}
use Rattle.text_places.proofs.Places.{past-absent, behind-behind}
use Rattle.text_codes.specs.Codes.{written_codes, sign_codes, Wrote, Roomy}
use Rattle.program.proofs.Codes.{operator_coded}
use Rattle.text_codes.proofs.Coding.{wrote_none, wrote_then}
use Rattle.text_codes.proofs.Summaries.{term_summary_lem, term_few, operator_few}

-- both ways to say that all is deep
to_deep : (k : ℕ) (f : Form Expression) → AllDeep k f → Deep k f
to_deep k unformed h = h
to_deep k (formed e r) h = h

pub all_deep : (k : ℕ) (f : Form Expression) → Deep k f → AllDeep k f
all_deep k unformed h = h
all_deep k (formed e r) h = h

-- a reader of elements that are joined by operators of a rank
pub record Joins (rank : Operator → Bool) (element : List S.Token → Form Expression) (from : Expression → List S.Token → Form Expression)
    (reader : List S.Token → Form Expression) : Type 0 where
  pub first : (ts : List S.Token) → reader ts ≡ then (element ts) from
  pub more : (o : Operator) (x : Expression) (r : List S.Token) → rank o ≡ true → from x (operator o ∷ r) ≡ then (element r) (λ y. from (operation o x y))
  pub end : (x : Expression) (r : List S.Token) → operator_form rank r ≡ unformed → from x r ≡ formed x r
  pub grows : (x : Expression) (ts : List S.Token) → All (λ e r. Grows x e) (from x ts)

-- the ranks, their elements and what they join
abbrev from_form : Bool → Expression → List S.Token → Form Expression
from_form true = expression_from
from_form false = minimum_from

pub rank_joins : (sums : Bool) → Joins (rank_of sums) (element_form sums) (from_form sums) (joined_form sums)
rank_joins true = record { first = expression-joined; more = expression-more; end = expression-end; grows = expression_grows }
rank_joins false = record { first = minimum-joined; more = minimum-more; end = minimum-end; grows = minimum_grows }

-- what is joined so far, before the element that is due at place i: joins makes of that element all that is read; behind the element's codes
-- the code of an operator is to be written, if there is one
pub record Joined (sums : Bool) (s : Sizes) (room : ℕ) (before : Gathered) (line a : List ℕ) (x : Pending) (b : List ℕ) : Type 0 where
  pub joins : Expression → Expression
  pub same : joined_form sums (tokens_from true line before.end) ≡ then (element_form sums (tokens_from true line x.gathered.end)) (λ y. from_form sums (joins y))
  pub gathered : (y : Expression) → merged (8 - room) (summary_of x.gathered.seen) (summary s y) ≡ merged (8 - room) (summary_of before.seen) (summary s (joins y))
  pub deeper : (y : Expression) → depth y ≤ depth (joins y)
  pub shallow : (y : Expression) → depth y ≤ room → depth (joins y) ≤ room
  pub onward : before.end ≤ x.gathered.end
  pub inside : x.gathered.end ≤ length line
  pub few : x.gathered.seen.operators ≤ x.gathered.end
  pub earlier : List Code
  pub wrote : Wrote a b before.used x.gathered.used earlier
  pub coded : (y : Expression) → earlier ++ (written_codes y ++ sign_codes x.sign) ≡ written_codes (joins y)
  pub few_codes : x.gathered.used + before.end + length (sign_codes x.sign) ≤ before.used + x.gathered.end

pub joined-start : (sums : Bool) (s : Sizes) (room : ℕ) (before : Gathered) {line : List ℕ} (a : List ℕ) → before.end ≤ length line
    → before.seen.operators ≤ before.end → Joined sums s room before line a (record { gathered = before; sign = None }) a
unfolding sign_codes
joined-start sums s room before a h few = record {
  joins = λ y. y;
  same = (rank_joins sums).first _;
  gathered = λ y. refl;
  deeper = λ y. omega arith;
  shallow = λ y d. d;
  onward = omega arith;
  inside = h;
  few = few;
  earlier = [];
  wrote = wrote_none a before.used;
  coded = λ y. append-nil (written_codes y);
  few_codes = omega arith;
}

module _ {sums : Bool} {s : Sizes} {room : ℕ} {before : Gathered} {line a : List ℕ} {x : Pending} {b : List ℕ} (w : Joined sums s room before line a x b) where
  -- the element that is read, and its operator's code
  module _ {d : List ℕ} {g : Gathered} (e : ReadAs (element_form sums) s room x.gathered line b d g)
      {d' : List ℕ} {last : ℕ} (o : Wrote d d' g.used last (sign_codes x.sign)) where
    element_joined : joined_form sums (tokens_from true line before.end) ≡ from_form sums (w.joins e.written) (tokens_from false line g.end)
    unfolding then
    element_joined = w.same ∙ ap (λ (f : Form Expression). then f (λ y. from_form sums (w.joins y))) e.form_is

    element_gathered : summary_of g.seen ≡ merged (8 - room) (summary_of before.seen) (summary s (w.joins e.written))
    element_gathered = e.summary_is ∙ w.gathered e.written

    element_wrote : Wrote a d' before.used last (written_codes (w.joins e.written))
    element_wrote =
        subst (Wrote a d' before.used last) (w.coded e.written)
        (wrote_then w.wrote (wrote_then e.wrote o))

    element_few : last + before.end ≤ before.used + g.end
    element_few = omega (arith, o.size, e.few_codes, w.few_codes)

    joined-done : Unranked (rank_of sums) line g.end → ReadAs (joined_form sums) s room before line a d' (record g { used = last })
    joined-done n = record {
      written = w.joins e.written;
      form_is = element_joined ∙ (rank_joins sums).end _ _ n.none;
      shallow = w.shallow e.written e.shallow;
      summary_is = element_gathered;
      behind = record { onward = omega (arith, w.onward, e.behind.onward); inside = e.behind.inside };
      few = e.few;
      wrote = element_wrote;
      few_codes = element_few;
    }

    joined-more : {y : Pending} → Continues (rank_of sums) line (record g { used = last }) y → Joined sums s room before line a y d'
    unfolding depth written_codes sign_codes
    joined-more {y} c =
        let v = w.joins e.written in
        let r = c.ranked in
        record {
          joins = λ z. operation c.sign v z;
          same = element_joined ∙ ap (from_form sums v) r.passing.text ∙ (rank_joins sums).more c.sign v _ r.of_rank;
          gathered = λ z.
              ap (λ (f : F.Summary). merged (8 - room) f (summary s z)) (c.seen_is ∙ ap (with_operator c.sign) element_gathered)
              ∙ merged_operation s (8 - room) (summary_of before.seen) c.sign v z;
          deeper = λ z. omega arith;
          shallow = λ z q. omega (arith, q, w.shallow e.written e.shallow);
          onward = omega (arith, w.onward, e.behind.onward, r.passing.behind.onward);
          inside = r.passing.behind.inside;
          few = omega (arith, operator_few c.sign g.seen c.seen_is, e.few, r.passing.behind.onward);
          earlier = written_codes v;
          wrote = subst (λ (n : ℕ). Wrote a d' before.used n (written_codes v)) (sym c.used_is) element_wrote;
          coded = λ z.
              ap (λ (o : Option ℕ). written_codes v ++ (written_codes z ++ sign_codes o)) c.sign_is
              ∙ ap (λ (k : Code). written_codes v ++ (written_codes z ++ (k ∷ []))) (operator_coded c.sign);
          few_codes = omega (arith, element_few, r.passing.behind.onward, ap (λ (o : Option ℕ). length (sign_codes o)) c.sign_is, c.used_is);
        }

  pub joined-room : Roomy a line before.end before.used → Roomy b line x.gathered.end x.gathered.used
  joined-room r = omega (arith, r, w.wrote.same_length, w.few_codes)

  joined-none : Unread (element_form sums) line x.gathered.end → Unread (joined_form sums) line before.end
  unfolding then
  joined-none n = record { none = w.same ∙ ap (λ (f : Form Expression). then f (λ y. from_form sums (w.joins y))) n.none }

  joined_deep : TooDeep (element_form sums) room line x.gathered.end → TooDeep (joined_form sums) room line before.end
  joined_deep n =
      let here : Form Expression = element_form sums (tokens_from true line x.gathered.end) in
      let onward : Expression → List S.Token → Form Expression = λ y. from_form sums (w.joins y) in
      record {
        deep = subst (AllDeep room) (sym w.same) (all_deep room (then here onward)
            (behind_all (λ y r. room < depth y) (λ e r. room < depth e) here onward (to_deep room here n.deep) (λ y r d.
            all_map (λ e t. Grows (w.joins y) e) (λ e t. room < depth e) (onward y r) (λ e t v. omega (arith, v.deep, d, w.deeper y))
            ((rank_joins sums).grows (w.joins y) r))));
      }

  -- where no element is read, nothing is
  joined_err : (d d' : List ℕ) (u : J.Unread) → ReadingAt (element_form sums) s room x.gathered line b d (Err u) → ReadingAt (joined_form sums) s room before line a d' (Err u)
  joined_err d d' NoForm e = joined-none e
  joined_err d d' TooDeepRead e = joined_deep e

  -- there is room for the operator's code
  pub joined-ready : (d : List ℕ) (r : Result Gathered J.Unread) → Roomy a line before.end before.used
      → ReadingAt (element_form sums) s room x.gathered line b d r → ReadyFor line d r
  joined-ready d (Ok g) q e = (e.behind.inside, e.few, omega (arith, joined-room q, e.wrote.same_length, e.few_codes, e.behind.inside))
  joined-ready d (Err u) q e = tt

  -- what is answered: the next element is due, or that is all, or nothing is read
  module _ (d' : List ℕ) where
    abbrev pub JoinedTo : Result Joining J.Unread → Type 0
    JoinedTo (Ok (Next y)) = Joined sums s room before line a y d' × (x.gathered.end < y.gathered.end)
    JoinedTo (Ok (Done g)) = ReadAs (joined_form sums) s room before line a d' g
    JoinedTo (Err u) = ReadingAt (joined_form sums) s room before line a d' (Err u)

    pub joined_by : (d : List ℕ) (r : Result Gathered J.Unread) → ReadingAt (element_form sums) s room x.gathered line b d r
        → (y : Result Joining J.Unread) → JoinedBy (rank_of sums) line d d' x.sign r y → JoinedTo y
    joined_by d (Ok g) e (Ok (Next y)) q = (joined-more e q.put q.next, omega (arith, e.behind.onward, q.next.ranked.passing.behind.onward))
    joined_by d (Ok g) e (Ok (Done h)) q = subst (ReadAs (joined_form sums) s room before line a d') (sym q.next.all) (joined-done e q.put q.next.none)
    joined_by d (Ok g) e (Err u) q = absurd q
    joined_by d (Err u) e y q = subst JoinedTo (sym q) (joined_err d d' u e)

-- a term as an operand
pub term_operand : {s : Sizes} {room : ℕ} {before : Gathered} {line : List ℕ} {a b : List ℕ} {p : TermParts} {g : Summary} {end : ℕ}
    → before.seen.operators ≤ before.end → TermFormed s line before.end p end → summary_of g ≡ merged (8 - room) (summary_of before.seen) (term_summary p)
    → Wrote a b before.used (before.used + 1) (code_of p.code ∷ [])
    → ReadAs operand s room before line a b (record { seen = g; end = end; used = before.used + 1 })
unfolding depth written_codes parts_of
term_operand {s} {room} {before} {a = a} {b = b} {p = p} few t q w = record {
  written = term t.written;
  form_is = operand_term t.written _ _ t.form_is;
  shallow = omega arith;
  summary_is = q ∙ ap (merged (8 - room) (summary_of before.seen)) (term_summary_lem s t.written t.parts_are);
  behind = t.behind;
  few = omega (arith, few, t.behind.onward, term_few (8 - room) before.seen p q);
  wrote = subst (λ (y : TermParts). Wrote a b before.used (before.used + 1) (code_of y.code ∷ [])) t.parts_are w;
  few_codes = omega (arith, t.behind.onward);
}

-- a group as an operand
pub group_none : {line : List ℕ} {at : ℕ} → NoTerm line at → Absent true openRound line at → Unread operand line at
unfolding group_form
group_none t p = record { none = operand-other _ t.none ∙ past-absent openRound _ _ p.absent }

pub group_full : {line : List ℕ} {at inner : ℕ} (room : ℕ) → room ≡ 0 → Passing true true openRound line at inner → TooDeep operand room line at
group_full {line} {at} {inner} room z p = record {
  deep = subst (λ (k : ℕ). AllDeep k (operand (tokens_from true line at))) (sym z)
      (subst (λ (ts : List S.Token). AllDeep 0 (operand ts)) (sym p.text)
      (all_deep 0 (operand (openRound ∷ tokens_from true line inner)) (group_deep_first (tokens_from true line inner))));
}

module _ (s : Sizes) (room : ℕ) (before : Gathered) {line : List ℕ} {inner : ℕ} (low : room ≤ 8) (z : room ≢ 0)
    (p : Passing true true openRound line before.end inner) where
  grouped : operand (tokens_from true line before.end) ≡ then (expression (tokens_from true line inner)) (λ e r. past closeRound r (formed (group e)))
  grouped = ap operand p.text ∙ operand_group _

  grouped-past : {f : Form Expression} → expression (tokens_from true line inner) ≡ f
      → operand (tokens_from true line before.end) ≡ then f (λ e r. past closeRound r (formed (group e)))
  grouped-past h = grouped ∙ ap (λ (f : Form Expression). then f (λ e r. past closeRound r (formed (group e)))) h

  pub group_closed : (a b : List ℕ) (x r : Result Gathered J.Unread) → ReadingAt expression s (room - 1) (record before { end = inner }) line a b x
      → GroupedBy line x r → ReadingAt operand s room before line a b r
  unfolding then past is same fixed_in kind depth written_codes
  group_closed a b (Ok g) (Ok h) e q = record {
    written = group e.written;
    form_is = grouped-past e.form_is ∙ ap (λ (ts : List S.Token). past closeRound ts (formed (group e.written))) q.closes.text;
    shallow = omega (arith, e.shallow, z);
    summary_is =
        ap summary_of q.seen_is
        ∙ e.summary_is
        ∙ ap (λ (d : ℕ). merged d (summary_of before.seen) (summary s e.written)) (omega (arith, z, low))
        ∙ merged_group s (8 - room) (summary_of before.seen) e.written;
    behind = behind-behind p.behind (behind-behind e.behind q.closes.behind);
    few = omega (arith, ap (λ (y : Summary). y.operators) q.seen_is, e.few, q.closes.behind.onward);
    wrote = subst (λ (k : ℕ). Wrote a b before.used k (written_codes e.written)) (sym q.used_is) e.wrote;
    few_codes = omega (arith, e.few_codes, q.used_is, p.behind.onward, q.closes.behind.onward);
  }
  group_closed a b (Ok g) (Err NoForm) e q = record { none = grouped-past e.form_is ∙ past-absent closeRound _ _ q.absent }
  group_closed a b (Ok g) (Err TooDeepRead) e q = absurd q
  group_closed a b (Err NoForm) r e q = subst (ReadingAt operand s room before line a b) (sym q) (record { none = grouped-past e.none })
  group_closed a b (Err TooDeepRead) r e q = subst (ReadingAt operand s room before line a b) (sym q) (record {
    deep =
        let one : suc (room - 1) ≡ room = omega (arith, z) in
        subst (λ (k : ℕ). AllDeep k (operand (tokens_from true line before.end))) one
        (subst (λ (ts : List S.Token). AllDeep (suc (room - 1)) (operand ts)) (sym p.text)
        (all_deep (suc (room - 1)) (operand (openRound ∷ tokens_from true line inner))
        (group_deep (room - 1) (tokens_from true line inner) (to_deep (room - 1) (expression (tokens_from true line inner)) e.deep))));
  })

pub reading-inside : (reader : List S.Token → Form Expression) (s : Sizes) (room : ℕ) (before : Gathered) (line a b : List ℕ)
    (r : Result Gathered J.Unread) → ReadingAt reader s room before line a b r → EndInside line r
reading-inside reader s room before line a b (Ok g) h = h.behind.inside
reading-inside reader s room before line a b (Err NoForm) h = tt
reading-inside reader s room before line a b (Err TooDeepRead) h = tt
