-- What the exchanges make at the places of a plan's lines, and how many messages it takes. A message is made of what the lines
-- before it hold and of its writer's own cells, and of nothing else.
use Rattle.std.specs.Prelude.{None}
use Rattle.std.specs.Prelude.{◌≡◌, true, cond, List, ◌≢◌, ℕ, zero, suc, ◌+◌, ◌*◌, ◌≤◌, ◌<◌, eqb, ℤ, pos, length, get_or}
use Rattle.std.specs.Int.{w32}
use Rattle.std.proofs.Common.{SFits}
use Rattle.register.specs.declared.Sizes.{Sizes}
use Rattle.register.specs.declared.cells.Cell.{Cell}
use Rattle.chain.specs.Word.{refers_to}
use Rattle.plan_theory.specs.Plan.{line}
use Rattle.plan_lines.specs.Held.{facts, line_at}
use Rattle.plan_lines.specs.Promised.{fact_at}
use Rattle.plan_lines.specs.declared.Plan.{Plan}
use Rattle.machine_messages.specs.Held.{Held, sent}
use Rattle.machine_messages.specs.Counts.{line_messages}
use Rattle.scratch.specs.Places.{Kept}
use Rattle.gather_line.specs.Written.{ByLine, places_of, message_at, Stored}
use Rattle.gather_exchanges.specs.Lines.{field_of, PlanReady}

module _ (s : Sizes) (cells : List Cell) (p : Plan) where
  -- the message of line i for origin u, over what is held for the lines of its needs
  unfoldable pub sent_by : ByLine → ByLine
  sent_by held i u = message_at s cells held (line_at p i).back (line_at p i).read (field_of (fact_at p i)) u

  -- "A step does the lines of round 1, then 2, and so on": in exchange t the lines of round t, over what was held before it
  unfoldable pub held_to : ℕ → ByLine
  held_to zero i u = None
  held_to (suc t) i u = cond (eqb (line_at p i).round (suc t)) (sent_by (held_to t) i u) (held_to t i u)

-- over whatever is held for the facts of its lines, a plan's exchanges send what the message machine sends: "the writer sends
-- one letter .. if it holds both needed facts and both are filled"
abbrev pub SendsAlike : Sizes → List Cell → Plan → Type 0
SendsAlike s cells p = (held : Held) (i u : ℕ) → i < p.count
    → sent_by s cells p (λ j v. held (line (facts p) j) v) i u ≡ sent s cells held (line (facts p) i) u

-- the messages of the first k lines to n origins each; "letters to oneself count" ..
unfoldable pub lines_messages : ByLine → ℕ → ℕ → ℕ
lines_messages held zero n = 0
lines_messages held (suc k) n = lines_messages held k n + line_messages (held k) n

-- .. and of those of round t among them
unfoldable pub round_messages : Plan → ByLine → ℕ → ℕ → ℕ → ℕ
round_messages p held t zero n = 0
round_messages p held t (suc k) n = round_messages p held t k n + cond (eqb (line_at p k).round t) (line_messages (held k) n) 0

-- the places of the lines of rounds below t agree with `held`
abbrev pub Agree : Sizes → Plan → ℕ → ByLine → List ℤ → List ℕ → Type 0
Agree s p t held values marks = (i u : ℕ) → i < p.count → u < s.records → (line_at p i).round < t → places_of s values marks i u ≡ held i u

-- exchange t can be made: the places of those lines hold values of 32 bits, and records where a line's messages are to be
pub record ExchangeReady (s : Sizes) (p : Plan) (t : ℕ) (values : List ℤ) (marks : List ℕ) : Type 0 where
  pub plan : PlanReady s p values marks
  pub fits : (i u : ℕ) → i < p.count → u < s.records → (line_at p i).round < t → SFits w32 (get_or values (i * s.records + u) (pos 0))
  pub refers : (i u : ℕ) → i < p.count → u < s.records → (line_at p i).round < t → plan.lines.leads i ≡ true
      → refers_to s.records (places_of s values marks i u) ≡ true

module _ (s : Sizes) (cells : List Cell) (p : Plan) (t : ℕ) where
  -- "In one exchange, for each line of that round and each origin u, the writer sends one letter": exchange t is done for the
  -- first k lines, with m messages. Whatever the places of earlier rounds hold, those of this round hold what is sent over it,
  -- and the places of other rounds, and those behind, are as they were.
  pub record Exchanged (k : ℕ) (values : List ℤ) (marks : List ℕ) (values' : List ℤ) (marks' : List ℕ) (m : ℕ) : Type 0 where
    pub values_length : length values' ≡ length values
    pub marks_length : length marks' ≡ length marks
    pub sent : (held : ByLine) → Agree s p t held values marks → (i u : ℕ) → i < k → u < s.records → (line_at p i).round ≡ t
        → Stored (sent_by s cells p held i u) (i * s.records + u) values' marks'
    pub other : (i u : ℕ) → i < k → u < s.records → (line_at p i).round ≢ t → Kept (i * s.records + u) values marks values' marks'
    pub behind : (j : ℕ) → k * s.records ≤ j → Kept j values marks values' marks'
    pub messages : (held : ByLine) → Agree s p t held values marks → m ≡ round_messages p (sent_by s cells p held) t k s.records

  -- the exchanges 1 to t are done, with m messages in all. The places of lines of later rounds, and those behind the last line,
  -- are as they were.
  pub record ExchangedTo (values : List ℤ) (marks : List ℕ) (values' : List ℤ) (marks' : List ℕ) (m : ℕ) : Type 0 where
    pub values_length : length values' ≡ length values
    pub marks_length : length marks' ≡ length marks
    pub held : (i u : ℕ) → i < p.count → u < s.records → (line_at p i).round ≤ t → Stored (held_to s cells p t i u) (i * s.records + u) values' marks'
    pub later : (i u : ℕ) → i < p.count → u < s.records → t < (line_at p i).round → Kept (i * s.records + u) values marks values' marks'
    pub behind : (j : ℕ) → p.count * s.records ≤ j → Kept j values marks values' marks'
    pub messages : m ≡ lines_messages (held_to s cells p t) p.count s.records

-- the first k places are missing, and no other has changed
pub record Cleared (k : ℕ) (values : List ℤ) (marks : List ℕ) (values' : List ℤ) (marks' : List ℕ) : Type 0 where
  pub values_length : length values' ≡ length values
  pub marks_length : length marks' ≡ length marks
  pub missing : (j : ℕ) → j < k → Stored None j values' marks'
  pub behind : (j : ℕ) → k ≤ j → Kept j values marks values' marks'
