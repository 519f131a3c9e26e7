-- What is answered behind an element that operators of a rank join.
use Rattle.std.specs.Prelude.{ℕ, ◌≤◌, ◌<◌, ◌≡◌, Bool, true, false, List, length, Option, Some, None, Result, Ok, Err}
use Rattle.program.specs.declared.rule.Operator.{Operator}
use Rattle.program.specs.Code.{kind_of}
use Rattle.text_syntax.specs.Grammar.{is_sum, is_smaller, operator_form}
use Rattle.text_syntax.specs.Flat.{with_operator}
use Rattle.text_joins.specs.declared.Gathered.{Gathered}
use Rattle.text_joins.specs.declared.Unread.{Unread}
use Rattle.text_joins.specs.declared.Unread.TheVariants.{NoForm, Deep}
use Rattle.text_joins.specs.declared.Pending.{Pending}
use Rattle.text_joins.specs.declared.Joining.{Joining}
use Rattle.text_joins.specs.declared.Joining.TheVariants.{Next, Done}
use Rattle.text_codes.specs.Summary.{summary_of}
use Rattle.text_codes.specs.Codes.{sign_codes, Wrote}
use Rattle.text_syntax.specs.Token.{operator, closeRound}
use Rattle.text_syntax.specs.Form.{unformed}
use Rattle.text_places.specs.Place.{tokens_from, Passing, Absent}

-- an operator of a rank stands at a place, or none
pub record Ranked (rank : Operator → Bool) (o : Operator) (line : List ℕ) (at end : ℕ) : Type 0 where
  pub passing : Passing false true (operator o) line at end
  pub of_rank : rank o ≡ true

pub record Unranked (rank : Operator → Bool) (line : List ℕ) (at : ℕ) : Type 0 where
  pub none : operator_form rank (tokens_from false line at) ≡ unformed

abbrev pub RankedAt : (Operator → Bool) → List ℕ → ℕ → Option (Operator × ℕ) → Type 0
RankedAt rank line at (Some (o, end)) = Ranked rank o line at end
RankedAt rank line at None = Unranked rank line at

-- the two ranks
abbrev pub rank_of : Bool → Operator → Bool
rank_of true = is_sum
rank_of false = is_smaller

-- another operator follows
pub record Continues (rank : Operator → Bool) (line : List ℕ) (g : Gathered) (x : Pending) : Type 0 where
  pub sign : Operator
  pub ranked : Ranked rank sign line g.end x.gathered.end
  pub seen_is : summary_of x.gathered.seen ≡ with_operator sign (summary_of g.seen)
  pub used_is : x.gathered.used ≡ g.used
  pub sign_is : x.sign ≡ Some (kind_of sign)

-- none does
pub record Finishes (rank : Operator → Bool) (line : List ℕ) (g h : Gathered) : Type 0 where
  pub none : Unranked rank line g.end
  pub all : h ≡ g

-- behind an element
abbrev pub NextAt : (Operator → Bool) → List ℕ → Gathered → Joining → Type 0
NextAt rank line g (Next x) = Continues rank line g x
NextAt rank line g (Done h) = Finishes rank line g h

-- the operator's code was written, and then one of these
pub record PutNext (rank : Operator → Bool) (line codes codes' : List ℕ) (sign : Option ℕ) (g : Gathered) (x : Joining) : Type 0 where
  pub used : ℕ
  pub put : Wrote codes codes' g.used used (sign_codes sign)
  pub next : NextAt rank line (record g { used = used }) x

-- there is room for an operator's code behind what was read
abbrev pub ReadyFor : List ℕ → List ℕ → Result Gathered Unread → Type 0
ReadyFor line codes (Ok g) = (g.end ≤ length line) × (g.seen.operators ≤ g.end) × (g.used < length codes)
ReadyFor line codes (Err e) = Unit {0}

-- what is not read stays so
abbrev pub JoinedBy : (Operator → Bool) → List ℕ → List ℕ → List ℕ → Option ℕ → Result Gathered Unread → Result Joining Unread → Type 0
JoinedBy rank line codes codes' sign (Ok g) (Ok x) = PutNext rank line codes codes' sign g x
JoinedBy rank line codes codes' sign (Ok g) (Err e) = ⊥
JoinedBy rank line codes codes' sign (Err e) r = r ≡ Err e

-- an expression with `)` behind it
pub record Closed (line : List ℕ) (g h : Gathered) : Type 0 where
  pub seen_is : h.seen ≡ g.seen
  pub used_is : h.used ≡ g.used
  pub closes : Passing false false closeRound line g.end h.end

abbrev pub GroupedAt : List ℕ → Gathered → Result Gathered Unread → Type 0
GroupedAt line g (Ok h) = Closed line g h
GroupedAt line g (Err NoForm) = Absent false closeRound line g.end
GroupedAt line g (Err Deep) = ⊥

abbrev pub GroupedBy : List ℕ → Result Gathered Unread → Result Gathered Unread → Type 0
GroupedBy line (Ok g) r = GroupedAt line g r
GroupedBy line (Err e) r = r ≡ Err e

-- the end of what was gathered is inside the line
abbrev pub EndInside : List ℕ → Result Gathered Unread → Type 0
EndInside line (Ok g) = g.end ≤ length line
EndInside line (Err e) = Unit {0}
