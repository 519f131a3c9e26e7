-- What `plot_path` answers.
use Rattle.std.specs.Prelude.{ℕ, ◌≡◌, List, [], ◌∷◌, ℤ, length}
use Rattle.laws.specs.Outcome.{Outcome, done, refused}
use Rattle.chain_path.specs.declared.Hop.{Hop}
use Rattle.api_path.specs.PathArrays.{PathArrays}

-- the caller's four arrays
pub record HopBuffers : Type 0 where
  pub records : List ℕ
  pub fields : List ℕ
  pub values : List ℤ
  pub marks : List ℕ

-- a path: the number of its hops, and the hops in the arrays
pub record PathDone (hs : List Hop) (result : ℕ) (answer : List ℕ) (after : HopBuffers) : Type 0 where
  pub result_is : result ≡ 0
  pub answer_is : answer ≡ 0 ∷ 0 ∷ 0 ∷ 0 ∷ 0 ∷ 0 ∷ length hs ∷ 0 ∷ []
  pub arrays_are : PathArrays hs after.records after.fields after.values after.marks

-- a refusal: its number and line, and the arrays as they were
pub record PathRefused (number line result : ℕ) (answer : List ℕ) (before after : HopBuffers) : Type 0 where
  pub result_is : result ≡ number
  pub answer_is : answer ≡ line ∷ 0 ∷ 0 ∷ 0 ∷ 0 ∷ 0 ∷ 0 ∷ 0 ∷ []
  pub arrays_stay : after ≡ before

abbrev pub PathCalled : Outcome (List Hop) → ℕ → List ℕ → HopBuffers → HopBuffers → Type 0
PathCalled (done hs) result answer before after = PathDone hs result answer after
PathCalled (refused number line) result answer before after = PathRefused number line result answer before after
