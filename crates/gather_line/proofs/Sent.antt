-- The messages of a line, counted.
use Rattle.std.specs.Prelude.{None, Some, Bool, is_some}
use Rattle.std.specs.Int.{from_bool}
use Prim.Native.Nat.{ℕ, zero, suc, ◌+◌, ◌≤◌, ◌<◌}
use mathlib.Core.Path.{◌≡◌, refl, ap, ap₂, ◌∙◌}
use native.Mathlib.Numerals.{add-one}
use native.Mathlib.Omega.{arith}
use Rattle.chain.specs.Reading.{Reading}
use Rattle.machine_messages.specs.Counts.{is_sent, line_messages}

pub sent_le : (x : Reading) → is_sent x ≤ 1
sent_le None = omega arith
sent_le (Some z) = omega arith

-- one is sent where there is a reading
pub sent_is : (x : Reading) (b : Bool) (k : ℕ) → b ≡ is_some x → k ≡ from_bool b → k ≡ is_sent x
sent_is None b k e q = rw e at q
sent_is (Some z) b k e q = rw e at q

pub line_nothing : (held : ℕ → Reading) → line_messages held 0 ≡ 0
unfolding line_messages
line_nothing held = refl

-- one more origin
pub line-more : (held : ℕ → Reading) (n m k : ℕ) (x : Reading) → m ≡ line_messages held n → k ≡ is_sent x → x ≡ held n → m + k ≡ line_messages held (n + 1)
unfolding line_messages
line-more held n m k x so_far e is = rw add-one (ap₂ ◌+◌ so_far (e ∙ ap is_sent is))

pub line_le : (held : ℕ → Reading) (n : ℕ) → line_messages held n ≤ n
unfolding line_messages
line_le held zero = omega arith
line_le held (suc n) = omega (arith, line_le held n, sent_le (held n))

pub line-below : (held : ℕ → Reading) (n m : ℕ) → m ≡ line_messages held n → m ≤ n
line-below held n m e = rw e (line_le held n)

pub line-alike : (held other : ℕ → Reading) (n : ℕ) → ((u : ℕ) → u < n → held u ≡ other u) → line_messages held n ≡ line_messages other n
unfolding line_messages
line-alike held other zero h = refl
line-alike held other (suc n) h = ap₂ ◌+◌ (line-alike held other n (λ u l. h u (omega arith))) (ap is_sent (h n (omega arith)))

pub line_missing : (held : ℕ → Reading) (n : ℕ) → ((u : ℕ) → held u ≡ None) → line_messages held n ≡ 0
unfolding line_messages
line_missing held zero h = refl
line_missing held (suc n) h = simp (h n) (omega (arith, line_missing held n h))
