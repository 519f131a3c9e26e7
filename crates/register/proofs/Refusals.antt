-- Which cells are refused, and with which number.
use Prim.Native.Nat.{ℕ, ◌≤◌, ◌<◌}
use mathlib.Core.Path.{◌≡◌}
use mathlib.Core.Logic.{◌≢◌}
use mathlib.Core.Bool.{Bool, true, false}
use borrow.Author.Tests.{lt-ltb, le-ltb, ne_eqb}
use lib.IntN.{ℤ, pos}
use Rattle.integers.specs.Range.{eq_z, is_index}
use Rattle.register.specs.Load.{cell_refusal}

module _ (n : ℕ) (reference : Bool) (z : ℤ) (mark : ℕ) where
  pub refused_mark : 2 < mark → cell_refusal n reference z mark ≡ 3
  unfolding cell_refusal
  refused_mark h = simp (lt-ltb 2 mark h)

  pub missing_zero : mark ≡ 0 → eq_z z (pos 0) ≡ true → cell_refusal n reference z mark ≡ 0
  unfolding cell_refusal
  missing_zero h e = simp (h, e)

  pub refused_missing : mark ≡ 0 → eq_z z (pos 0) ≡ false → cell_refusal n reference z mark ≡ 4
  unfolding cell_refusal
  refused_missing h e = simp (h, e)

  -- a filled cell
  module _ (low : mark ≤ 2) (filled : mark ≢ 0) where
    pub filled_measure : reference ≡ false → cell_refusal n reference z mark ≡ 0
    unfolding cell_refusal
    filled_measure e = simp (le-ltb 2 mark low, ne_eqb mark 0 filled, e)

    pub filled_reference : reference ≡ true → is_index n z ≡ true → cell_refusal n reference z mark ≡ 0
    unfolding cell_refusal
    filled_reference e i = simp (le-ltb 2 mark low, ne_eqb mark 0 filled, e, i)

    pub refused_reference : reference ≡ true → is_index n z ≡ false → cell_refusal n reference z mark ≡ 5
    unfolding cell_refusal
    refused_reference e i = simp (le-ltb 2 mark low, ne_eqb mark 0 filled, e, i)
