-- Which files load: the ways out of `load`, and what a file that loads is like.
use Prim.Native.Nat.{ℕ, ◌+◌, ◌-◌, ◌*◌, ◌≤◌, ◌<◌}
use mathlib.Core.Path.{◌≡◌, ap, ◌∙◌}
use mathlib.Core.Logic.{◌≢◌}
use mathlib.Core.Bool.{true, false}
use mathlib.Core.List.{List}
use native.Mathlib.Omega.{arith}
use borrow.Author.Tests.{lt-ltb, le-ltb, eq-eqb, ne_eqb}
use lib.ListN.{length, take, drop, length-drop}
use lib.Seq.{length-take-le}
use Rattle.laws.specs.Outcome.{done, refused, unless}
use Rattle.register.specs.File.{cell_count, sizes_of, values_part, marks_part}
use Rattle.register.specs.Load.{within_limits, cells_refusal, load_sized, load}
use Rattle.register.specs.Shape.{Limits, Parts}
use Rattle.register.specs.declared.Sizes.{Sizes}
use Rattle.register.proofs.Parts.{part_end}

module _ (file : List ℕ) where
  pub load-short : length file < 12 → load file ≡ refused 1 0
  unfolding load
  load-short h = simp (lt-ltb (length file) 12 h)

  module _ (long : 12 ≤ length file) {s : Sizes} (is : s ≡ sizes_of file) where
    pub load_large : within_limits s ≡ false → load file ≡ refused 2 0
    unfolding load
    load_large e = simp (le-ltb (length file) 12 long, ← is, e)

    pub load-limits : within_limits s ≡ true → load file ≡ load_sized s file
    unfolding load
    load-limits e = simp (le-ltb (length file) 12 long, ← is, e)

  module _ (s : Sizes) where
    pub sized-length : length file ≢ 12 + 5 * cell_count s → load_sized s file ≡ refused 1 0
    unfolding load_sized
    sized-length h = simp (ne_eqb (length file) (12 + 5 * cell_count s) h)

    pub sized-cells : length file ≡ 12 + 5 * cell_count s → load_sized s file ≡ unless (cells_refusal s (values_part s file) (marks_part s file)) 0 (done s)
    unfolding load_sized
    sized-cells h = simp (eq-eqb (length file) (12 + 5 * cell_count s) h)

    -- the two parts, as the code cuts them
    pub values_cut : (n : ℕ) → n ≡ cell_count s → take (12 + 4 * n - 12) (drop 12 file) ≡ values_part s file
    unfolding values_part
    values_cut n e = let q : 12 + 4 * n - 12 ≡ 4 * cell_count s = omega arith in ap (λ (k : ℕ). take k (drop 12 file)) q

    pub marks_cut : (n : ℕ) → n ≡ cell_count s → take (length file - (12 + 4 * n)) (drop (12 + 4 * n) file) ≡ marks_part s file
    unfolding marks_part
    marks_cut n e = part_end (12 + 4 * n) file ∙ ap (λ (k : ℕ). drop (12 + 4 * k) file) e

    pub file-parts : Limits s → length file ≡ 12 + 5 * cell_count s → Parts s (values_part s file) (marks_part s file)
    unfolding values_part marks_part
    file-parts l e = record {
      limits = l;
      values_length = length-take-le (4 * cell_count s) (drop 12 file) (simp length-drop (omega arith));
      marks_length = simp length-drop (omega arith);
    }
