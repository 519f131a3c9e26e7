-- Readings stored at places, and places that are kept.
use Prim.Native.Nat.{ℕ, ◌<◌}
use mathlib.Core.Path.{◌≡◌, ◌∙◌}
use mathlib.Core.List.{List}
use lib.IntN.{ℤ, pos}
use lib.ListN.{length, get_or, set}
use lib.Seq.{get_or-set_same}
use mir.Syntax.{w32}
use mir.Val.{SFits}
use Rattle.chain.specs.Reading.{Reading}
use Rattle.chain.specs.Word.{reading_value}
use Rattle.scratch.specs.Places.{place_at, reading_mark, Kept}
use Rattle.scratch.proofs.Placed.{place_at-put}
use Rattle.gather_line.specs.Written.{Stored}

module _ {x : Reading} {j : ℕ} {values : List ℤ} {marks : List ℕ} where
  pub stored-place : Stored x j values marks → place_at values marks j ≡ x
  stored-place p = place_at-put values marks j x p.value-is p.mark_is

  pub stored-fits : Stored x j values marks → SFits w32 (get_or values j (pos 0))
  stored-fits p = rw p.value-is p.fits

  pub stored-kept : {values' : List ℤ} {marks' : List ℕ} → Stored x j values marks → Kept j values marks values' marks' → Stored x j values' marks'
  stored-kept p k = record { value-is = k.value-is ∙ p.value-is; mark_is = k.mark_is ∙ p.mark_is; fits = p.fits }

pub stored-set : (values : List ℤ) (marks : List ℕ) (j : ℕ) (x : Reading) → j < length values → j < length marks → SFits w32 (reading_value x)
    → Stored x j (set values j (reading_value x)) (set marks j (reading_mark x))
stored-set values marks j x v m f =
    record {
      value-is = get_or-set_same values j (reading_value x) (pos 0) v;
      mark_is = get_or-set_same marks j (reading_mark x) 0 m;
      fits = f;
    }
