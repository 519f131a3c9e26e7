-- The keys of lines, which pack facts in numbers.
use Rattle.std.specs.Prelude.{◌≡◌, true, false, List, ℕ, ◌/◌, ◌%◌, eqb, take, drop}
use Rattle.chain.specs.Word.{unpack}
use Rattle.plan_theory.specs.Plan.{Fact, back, read, front as frontOf, rest as rest_of, back_need, read_need}
use Rattle.plan_keys.specs.declared.word.Halves.{Halves}
use Rattle.plan_keys.specs.declared.key.Needs.{Needs}
use Rattle.plan_keys.specs.declared.key.Kind.{Kind}
use Rattle.plan_keys.specs.declared.key.Kind.TheVariants.{Back, Read}

-- the first h hops of a word and the rest, packed
pub record SplitAt (h : ℕ) (w : List ℕ) (r : Halves) : Type 0 where
  pub front-is : unpack r.front ≡ take h w
  pub rest-is : unpack r.rest ≡ drop h w

-- the two parts of a word, packed
pub record HalvesOf (w : List ℕ) (r : Halves) : Type 0 where
  pub front-is : unpack r.front ≡ frontOf w
  pub rest-is : unpack r.rest ≡ rest_of w

-- the fact of a line's key: an even key is Back, an odd one Read, of the word that half of it packs
unfoldable pub fact_of : ℕ → Fact
fact_of k = elim (eqb (k % 2) 0) [ true ↦ back (unpack (k / 2)) | false ↦ read (unpack (k / 2)) ]

-- the kind of a fact
abbrev pub kind : Fact → Kind
kind (back w) = Back
kind (read w) = Read

-- the keys of a fact's two needs
pub record NeedsOf (f : Fact) (r : Needs) : Type 0 where
  pub back_is : fact_of r.back ≡ back_need f
  pub read_is : fact_of r.read ≡ read_need f
