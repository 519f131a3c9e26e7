-- `step_rules::remote::apply` meets its contract: the messages of all rules at all records are delivered and counted, and no total leaves 64 bits.
use Prim.Native.Nat.{ℕ, suc, ◌+◌, ◌≤◌, ◌<◌}
use Rattle.register.specs.declared.Sizes.{Sizes}
use mathlib.Core.Path.{subst, sym, ◌≡◌, refl, ap, ◌∙◌}
use mathlib.Core.List.{List}
use native.Mathlib.Omega.{arith}
use lib.IntN.{ℤ}
use lib.ListN.{length, get_or, take}
use Rattle.register.specs.View.{cells_in}
use Rattle.register.specs.File.{cell_count, cells_of_file}
use Rattle.program.specs.declared.location.Located.{Located}
use Rattle.program.specs.Stored.{rules_in}
use Rattle.machine.specs.Remote.{messages, record_messages}
use Rattle.step_cells.specs.Work.{Room, Same, Small}
use Rattle.step_cells.proofs.Working.{same_then, room-same}
use Rattle.step_rules.specs.Ready.{RuleReady}
use Rattle.step_rules.specs.Delivered.{Delivered, RuleSends}
use Rattle.step_rules.proofs.Locals.{plain_ready, all_at, plain_at}
use Rattle.step_rules.proofs.Remotes.{cells_as, small-within, delivered_as, SendsBy, sends_none, sends_then, sends_rule, rules-then}
use Rattle.step_rules.proofs.remote.apply.Goals as goal
use Rattle.step_rules.proofs.remote.apply.Goals.{then-plain, else-plain}

pub loop-u-init : goal.loop-u-init
unfolding record_messages
loop-u-init c = let a = c.args in (sends_none a.sizes (cells_of_file a.sizes a.out.now) _ a.codes.now a.count a.rules _ (λ read. refl), omega arith)

pub loop-k-init : goal.loop-k-init
unfolding messages rules_in
loop-k-init c = let a = c.args in (sends_none a.sizes (cells_of_file a.sizes a.out.now) _ a.codes.now a.count a.rules _ (λ read. refl), omega arith)

pub bounds-rules-k : goal.bounds-rules-k
bounds-rules-k c = omega (arith, c.requires.limits.3, c.loop-k-test.true)

pub apply_plain-sent-requires : goal.apply_plain-sent-requires
apply_plain-sent-requires c =
    let a = c.args in
    let cells = c.of-cells.result in
    let there : c.loop-k.k < length a.rules = omega (arith, c.loop-k-test.true, c.requires.limits.3, c.requires.limits.4) in
    let cells_are : cells_in cells ≡ cells_of_file a.sizes a.out.now = cells_as a.sizes a.out.now cells c.of-cells.ensures.1 c.of-cells.ensures.2 in
    let same : Same a.base a.values.now a.marks.now c.loop-k.values c.loop-k.marks = same_then c.loop-u.invariant.0.delivers.same c.loop-k.invariant.0.delivers.same in
    let room : Room a.base (cell_count a.sizes) c.loop-k.values c.loop-k.marks = room-same same c.requires.limits.2 in
    let few : length c.loop-u.invariant.0.messages + length c.loop-k.invariant.0.messages < 131072 =
    omega (arith, c.loop-u.invariant.0.tells.0, c.loop-k.invariant.0.tells.0, c.requires.limits.0.records≤, c.requires.limits.3, c.loop-k-test.true, c.loop-u-test.true) in
    let small : Small 4611686018427387904 a.base (cell_count a.sizes) c.loop-k.values c.loop-k.marks × (c.loop-k.sent < 131072) = (
      small-within (omega (arith, few)) (c.loop-k.invariant.0.delivers.small _ (c.loop-u.invariant.0.delivers.small _ c.requires.small.0)),
      omega (arith, few, c.loop-u.invariant.0.delivers.sent_is, c.loop-k.invariant.0.delivers.sent_is),
    ) in
    let ready : (x : Located) → RuleReady a.sizes (cells_in cells) (take a.base c.loop-k.values) (take a.base c.loop-k.marks) a.codes.now (get_or a.rules c.loop-k.k x) =
    λ x. rw (cells_are, same.values_same, same.marks_same) (all_at a.codes.now a.rules _ x there _ c.loop-k-test.true c.requires.all_ready) in
    let plain = plain_at a.codes.now a.rules _ _ there c.loop-k-test.true c.requires.small.1 c.if-plain.true in
    let Asked : Sizes → Type 0 = λ s. (c.loop-u.u < s.records) × Room a.base (cell_count s) c.loop-k.values c.loop-k.marks
    × ((x : Located) → RuleReady s (cells_in cells) (take a.base c.loop-k.values) (take a.base c.loop-k.marks) a.codes.now (get_or a.rules c.loop-k.k x))
    × (Small 4611686018427387904 a.base (cell_count s) c.loop-k.values c.loop-k.marks × (c.loop-k.sent < 131072)) in
    let asked : Asked cells.sizes = subst Asked (sym c.of-cells.ensures.0) (c.loop-u-test.true, room, ready, small) in
    record { parts = (asked.0, asked.1); rule_ready = plain_ready plain (asked.2 _); small = asked.3 }

pub bounds-rules-k-else-plain : goal.bounds-rules-k-else-plain
bounds-rules-k-else-plain c = omega (arith, c.requires.limits.3, c.loop-k-test.true)

pub apply_rule-sent-requires : goal.apply_rule-sent-requires
apply_rule-sent-requires c =
    let a = c.args in
    let cells = c.of-cells.result in
    let there : c.loop-k.k < length a.rules = omega (arith, c.loop-k-test.true, c.requires.limits.3, c.requires.limits.4) in
    let cells_are : cells_in cells ≡ cells_of_file a.sizes a.out.now = cells_as a.sizes a.out.now cells c.of-cells.ensures.1 c.of-cells.ensures.2 in
    let same : Same a.base a.values.now a.marks.now c.loop-k.values c.loop-k.marks = same_then c.loop-u.invariant.0.delivers.same c.loop-k.invariant.0.delivers.same in
    let room : Room a.base (cell_count a.sizes) c.loop-k.values c.loop-k.marks = room-same same c.requires.limits.2 in
    let few : length c.loop-u.invariant.0.messages + length c.loop-k.invariant.0.messages < 131072 =
    omega (arith, c.loop-u.invariant.0.tells.0, c.loop-k.invariant.0.tells.0, c.requires.limits.0.records≤, c.requires.limits.3, c.loop-k-test.true, c.loop-u-test.true) in
    let small : Small 4611686018427387904 a.base (cell_count a.sizes) c.loop-k.values c.loop-k.marks × (c.loop-k.sent < 131072) = (
      small-within (omega (arith, few)) (c.loop-k.invariant.0.delivers.small _ (c.loop-u.invariant.0.delivers.small _ c.requires.small.0)),
      omega (arith, few, c.loop-u.invariant.0.delivers.sent_is, c.loop-k.invariant.0.delivers.sent_is),
    ) in
    let ready : (x : Located) → RuleReady a.sizes (cells_in cells) (take a.base c.loop-k.values) (take a.base c.loop-k.marks) a.codes.now (get_or a.rules c.loop-k.k x) =
    λ x. rw (cells_are, same.values_same, same.marks_same) (all_at a.codes.now a.rules _ x there _ c.loop-k-test.true c.requires.all_ready) in
    let Asked : Sizes → Type 0 = λ s. (c.loop-u.u < s.records) × Room a.base (cell_count s) c.loop-k.values c.loop-k.marks
    × ((x : Located) → RuleReady s (cells_in cells) (take a.base c.loop-k.values) (take a.base c.loop-k.marks) a.codes.now (get_or a.rules c.loop-k.k x))
    × (Small 4611686018427387904 a.base (cell_count s) c.loop-k.values c.loop-k.marks × (c.loop-k.sent < 131072)) in
    let asked : Asked cells.sizes = subst Asked (sym c.of-cells.ensures.0) (c.loop-u-test.true, room, ready, small) in
    record { parts = (asked.0, asked.1); rule_ready = asked.2 _; small = asked.3 }

-- `w` has what is known behind either call
pub loop-k-preserved : goal.loop-k-preserved
loop-k-preserved c =
    let a = c.args in
    let cells = c.of-cells.result in
    let there : c.loop-k.k < length a.rules = omega (arith, c.loop-k-test.true, c.requires.limits.3, c.requires.limits.4) in
    let cells_are : cells_in cells ≡ cells_of_file a.sizes a.out.now = cells_as a.sizes a.out.now cells c.of-cells.ensures.1 c.of-cells.ensures.2 in
    let same : Same a.base a.values.now a.marks.now c.loop-k.values c.loop-k.marks = same_then c.loop-u.invariant.0.delivers.same c.loop-k.invariant.0.delivers.same in
    let done : (x : Located) (values : List ℤ) (marks : List ℕ) (sent : ℕ) →
    Delivered cells.sizes a.base
    (RuleSends cells.sizes (cells_in cells) c.loop-k.values c.loop-k.marks a.base c.loop-u.u a.codes.now (get_or a.rules c.loop-k.k x))
    c.loop-k.values c.loop-k.marks values marks c.loop-k.sent sent
    → SendsBy a.sizes (cells_of_file a.sizes a.out.now) a.base a.codes.now a.count a.rules
    (λ read. messages (read c.loop-u.u) (rules_in a.codes.now (c.loop-k.k + 1) a.rules)) (c.loop-k.k + 1)
    c.loop-u.values c.loop-u.marks values marks c.loop-u.sent sent
    × (c.loop-k.k + 1 ≤ a.count) =
    λ x values marks sent r.
    let Done : Sizes → Type 0 = λ s. Delivered s a.base
    (RuleSends s (cells_in cells) c.loop-k.values c.loop-k.marks a.base c.loop-u.u a.codes.now (get_or a.rules c.loop-k.k x))
    c.loop-k.values c.loop-k.marks values marks c.loop-k.sent sent in
    let r' = subst Done c.of-cells.ensures.0 r in (
      sends_then _ _ _ _ _ _ c.loop-k.invariant.0
          (sends_rule a.sizes (cells_of_file a.sizes a.out.now) a.base a.codes.now _ a.rules _ _ x there c.loop-k-test.true c.loop-u-test.true (rw (← cells_are) r')) _
          (λ read. rules-then a.sizes (cells_of_file a.sizes a.out.now) a.base a.codes.now a.count a.rules _ _ x there read (omega arith)) (omega arith),
      omega (arith, c.loop-k-test.true),
    ) in
    elim c.if-plain.branch [
      | then-plain w ↦
          let d = w.apply_plain-sent.ensures in
          done _ _ _ _
          (delivered_as (record { messages = d.messages; tells = d.tells a.codes.now; delivers = d.delivers }) w.values-is w.marks-is w.sent-is)
      | else-plain w ↦ done _ _ _ _ (delivered_as w.apply_rule-sent.ensures w.values-is w.marks-is w.sent-is)
    ]

pub loop-u-preserved : goal.loop-u-preserved
unfolding record_messages
loop-u-preserved c =
    let i = c.loop-k.invariant in
    let all : c.loop-k.k ≡ c.args.count = omega (arith, i.1, c.loop-k-test.false) in
    let u : c.loop-u.u + 1 ≡ suc c.loop-u.u = omega arith in (
      sends_then _ _ _ _ _ _ c.loop-u.invariant.0 i.0 _ (λ read. rw (all, u)) (omega (arith, c.requires.limits.3, i.1)),
      omega (arith, c.loop-u-test.true),
    )

pub shape_of-values : goal.shape_of-values
shape_of-values c = c.loop-u.invariant.0.delivers.same.values_length

pub shape_of-marks : goal.shape_of-marks
shape_of-marks c = c.loop-u.invariant.0.delivers.same.marks_length

pub returns : goal.returns
returns c =
    let n : c.loop-u.u ≡ c.args.sizes.records = omega (arith, c.loop-u.invariant.1, c.loop-u-test.false) in
    let d = c.loop-u.invariant.0 in
    record { messages = d.messages; tells = λ read agrees in_range. d.tells.1 read agrees in_range ∙ ap (record_messages read _) n; delivers = d.delivers }
