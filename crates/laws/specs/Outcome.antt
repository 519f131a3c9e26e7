-- What an operation answers: a result, or a refusal.
use Rattle.std.specs.Prelude.{ℕ, zero, suc}

-- A refusal has document 01's number and the line of the text that it names, 0 where it names none.
pub data Outcome (A : Type 0) : Type 0 where
  done : A → Outcome A
  refused : ℕ → ℕ → Outcome A

-- a refusal with this number and line, unless the number is 0
unfoldable pub unless : {A : Type 0} → ℕ → ℕ → Outcome A → Outcome A
unless zero line o = o
unless (suc k) line o = refused (suc k) line

-- what follows a result; a refusal stays
unfoldable pub after : {A B : Type 0} → Outcome A → (A → Outcome B) → Outcome B
after (done a) f = f a
after (refused k line) f = refused k line

-- a number, or another where it is 0
unfoldable pub or_else : ℕ → ℕ → ℕ
or_else zero y = y
or_else (suc x) y = suc x

-- the first of f 0, f 1, .., f (n − 1) that is not 0, or 0
unfoldable pub first : ℕ → (ℕ → ℕ) → ℕ
first zero f = 0
first (suc n) f = or_else (first n f) (f n)
