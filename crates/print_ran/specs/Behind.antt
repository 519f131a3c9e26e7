-- The number behind `at` where a refusal is printed.
use Rattle.std.specs.Prelude.{ℕ, Bool, cond, ◌&&◌, ◌||◌, leb}

-- k is one of a to b
abbrev pub among : ℕ → ℕ → ℕ → Bool
among a b k = leb a k && leb k b

-- "K the line for 6 to 15, finished steps for 20 and 21, else 0"; 24 and 25 come "with a line"
unfoldable pub behind_at : ℕ → ℕ → ℕ → ℕ
behind_at refusal line finished = cond (among 6 15 refusal || among 24 25 refusal) line (cond (among 20 21 refusal) finished 0)
