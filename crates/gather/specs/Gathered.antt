-- What the places of a plan's lines hold once its readings are gathered, and what was counted: as each machine makes it, and for
-- the plan of a step by its readings alone.
use Rattle.std.specs.Prelude.{Bool, List, ◌≡◌, ℕ, ◌*◌, ◌≤◌, ℤ, length}
use Rattle.register.specs.declared.Sizes.{Sizes}
use Rattle.register.specs.declared.cells.Cell.{Cell}
use Rattle.plan_theory.specs.Plan.{Fact, last_round}
use Rattle.plan_lines.specs.Held.{facts, LastOf}
use Rattle.plan_lines.specs.declared.Plan.{Plan}
use Rattle.machine_messages.specs.Held.{held_after}
use Rattle.machine_messages.specs.Counts.{plan_messages}
use Rattle.machine_messages.specs.declared.Machine.{Machine}
use Rattle.machine_messages.specs.declared.Machine.TheVariants.{Direct, Messages}
use Rattle.gather_follow.specs.Filled.{FollowReady, Filled}
use Rattle.gather_exchanges.specs.Lines.{PlanReady}
use Rattle.gather_exchanges.specs.Exchanged.{ExchangedTo}
use Rattle.gather.specs.Counted.{no_counts}
use Rattle.gather.specs.declared.counts.Counts.{Counts}

-- what each machine asks of a plan: words that can be followed, or lines that can be made from lines before them
abbrev pub GatherReady : Machine → Sizes → Plan → List Bool → List ℤ → List ℕ → Type 0
GatherReady Direct s p wanted values marks = FollowReady s p wanted values marks
GatherReady Messages s p wanted values marks = PlanReady s p values marks

-- "The run by letters makes each step's letters there, round by round": the places are as the exchanges of all rounds left them
pub record AllExchanged (s : Sizes) (cells : List Cell) (p : Plan)
    (values : List ℤ) (marks : List ℕ) (values' : List ℤ) (marks' : List ℕ) (r : Counts) : Type 0 where
  pub last : LastOf p.rounds p.count r.exchanges
  pub exchanged : ExchangedTo s cells p r.exchanges values marks values' marks' r.messages
  pub few : r.exchanges ≤ 255

-- what each machine makes
abbrev pub Gathered : Machine → Sizes → List Cell → Plan → List Bool → List ℤ → List ℕ → List ℤ → List ℕ → Counts → Type 0
Gathered Direct s cells p wanted values marks values' marks' r =
    Filled s cells (facts p) wanted p.count values marks values' marks' × (r ≡ no_counts)
Gathered Messages s cells p wanted values marks values' marks' r = AllExchanged s cells p values marks values' marks' r

-- the exchanges and messages that bring these lines about
abbrev pub counted_by : Machine → Sizes → List Cell → List Fact → Counts
counted_by Direct s cells l = no_counts
counted_by Messages s cells l = record { exchanges = last_round l; messages = plan_messages (held_after s cells (last_round l)) l s.records }

-- for the plan of a step the places of every Read line that is wanted hold what is had by following, whichever machine it was
pub record GatheredBy (m : Machine) (s : Sizes) (cells : List Cell) (l : List Fact) (wanted : List Bool)
    (values : List ℤ) (marks : List ℕ) (values' : List ℤ) (marks' : List ℕ) (r : Counts) : Type 0 where
  pub filled : Filled s cells l wanted (length l) values marks values' marks'
  pub counted : r ≡ counted_by m s cells l
  pub few_exchanges : r.exchanges ≤ 255
  pub few_messages : r.messages ≤ length l * s.records
