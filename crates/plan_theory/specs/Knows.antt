-- The three rules of knowing, over hop words of any length: fields as numbers, from the inside out, so that the word of `M[A[u]]` is A and then M.
use Rattle.std.specs.Prelude.{List, [], ◌∷◌, ◌++◌, ℕ, suc, ◌≤◌, max}

-- a derivation of "the record at v knows e" that ends with k rounds, e standing for its value
pub data Knows : List ℕ → List ℕ → ℕ → Type 0 where
  -- in 0 rounds the record at any chain knows its own number
  own_number : (v : List ℕ) → Knows v v 0
  -- in 0 rounds it knows each of its own cells
  own_cell : (v : List ℕ) (f : ℕ) → Knows v (v ++ (f ∷ [])) 0
  -- if the record at w knows both e and the number of the record at v, the record at v knows e one round after the later of the two
  told : (w : List ℕ) {v e : List ℕ} {i j : ℕ} → Knows w e i → Knows w v j → Knows v e (suc (max i j))

-- n is the least number of rounds of a derivation of c as a reading, which ends with "u knows c"
pub record LeastRounds (c : List ℕ) (n : ℕ) : Type 0 where
  pub derived : Knows [] c n
  pub least : {k : ℕ} → Knows [] c k → n ≤ k
