-- How large the counts of a run can grow: each record sends at most one message for each rule, and each step a bounded number.
use Rattle.std.specs.Prelude.{None, Some}
use Prim.Native.Nat.{ℕ, zero, suc, ◌*◌, ◌≤◌}
use mathlib.Core.Path.{◌≡◌}
use mathlib.Core.Bool.{Bool, true, false, cond}
use mathlib.Core.List.{List, [], ◌∷◌}
use native.Mathlib.Omega.{arith}
use lib.ListN.{length, length-append}
use Rattle.chain.specs.Reading.{Reading}
use Rattle.program.specs.declared.rule.Sort.{Sort}
use Rattle.program.specs.Program.{Target, own, remote, Rule}
use Rattle.machine.specs.Value.{both, value, holds}
use Rattle.machine.specs.Remote.{sent_to, sent_by, rule_messages, messages, record_messages}
use Rattle.machine_messages.specs.declared.Machine.{Machine}
use Rattle.machine_messages.specs.declared.Machine.TheVariants.{Direct, Messages}
use Rattle.gather.specs.Counted.{counts_after}
use Rattle.gather.specs.declared.counts.Counts.{Counts}

sent-few : (k : Sort) (f : ℕ) (c x : Reading) → length (sent_to k f c x) ≤ 1
unfolding sent_to both
sent-few k f None x = omega arith
sent-few k f (Some v) None = omega arith
sent-few k f (Some v) (Some a) = omega arith

target-few : (read : List ℕ → Reading) (t : Target) (x : Reading) → length (sent_by read t x) ≤ 1
unfolding sent_by
target-few read (own f) x = omega arith
target-few read (remote k f c) x = sent-few k f (read c) x

rule-few : (read : List ℕ → Reading) (r : Rule) → length (rule_messages read r) ≤ 1
unfolding rule_messages
rule-few read r = go (holds read r.test)
  where
    go : (b : Bool) → length (cond b (sent_by read r.target (value read r.expression)) []) ≤ 1
    go true = target-few read r.target (value read r.expression)
    go false = omega arith

messages-few : (read : List ℕ → Reading) (rs : List Rule) → length (messages read rs) ≤ length rs
unfolding messages
messages-few read [] = omega arith
messages-few read (r ∷ rs) = rw (length-append (rule_messages read r) (messages read rs)) (omega (arith, rule-few read r, messages-few read rs))

records-few : (read : ℕ → List ℕ → Reading) (rs : List Rule) (n : ℕ) → length rs ≤ 32 → length (record_messages read rs n) ≤ 32 * n
unfolding record_messages
records-few read rs zero h = omega arith
records-few read rs (suc n) h =
    rw (length-append (record_messages read rs n) (messages (read n) rs)) (omega (arith, records-few read rs n h, messages-few (read n) rs))

-- the messages of at most 4,096 records
pub writes-few : (read : ℕ → List ℕ → Reading) (rs : List Rule) (n m : ℕ) → length rs ≤ 32 → n ≤ 4096 → m ≡ length (record_messages read rs n) → m ≤ 131072
writes-few read rs n m h l e = omega (arith, records-few read rs n h)

-- what so many steps can count
pub record Few (finished : ℕ) (c : Counts) : Type 0 where
  pub exchanges≤ : c.exchanges ≤ finished * 256
  pub messages≤ : c.messages ≤ finished * 524288

pub few-more : (m : Machine) {n : ℕ} {c : Counts} (g : Counts) (sends : Bool) {sent : ℕ} → Few n c → g.exchanges ≤ 255 → g.messages ≤ 262144 → sent ≤ 131072
    → Few (suc n) (counts_after m c g sends sent)
few-more Direct g sends f a b s = record { exchanges≤ = omega (arith, f.exchanges≤); messages≤ = omega (arith, f.messages≤) }
few-more Messages g true f a b s = record { exchanges≤ = omega (arith, f.exchanges≤); messages≤ = omega (arith, f.messages≤) }
few-more Messages g false f a b s = record { exchanges≤ = omega (arith, f.exchanges≤); messages≤ = omega (arith, f.messages≤) }
