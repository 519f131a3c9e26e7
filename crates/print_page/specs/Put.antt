-- Bytes put on the page at a place, behind what stands there.
use Rattle.std.specs.Prelude.{ℕ, ◌+◌, ◌≤◌, ◌≡◌, List, ◌++◌, length, take}

-- the page has room for these bytes at a place
pub record PageRoom (at : ℕ) (text page : List ℕ) : Type 0 where
  pub fits : at + length text ≤ length page

-- the page then: what stood before the place, and behind it these bytes, up to r
pub record PagePut (at : ℕ) (text page page' : List ℕ) (r : ℕ) : Type 0 where
  pub end : r ≡ at + length text
  pub put : take r page' ≡ take at page ++ text
