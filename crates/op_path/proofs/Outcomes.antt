-- The ways a path can end, and what an answer tells of them.
use Prim.Native.Nat.{ℕ, ◌≤◌, ◌<◌}
use mathlib.Core.Path.{◌≡◌, sym, ap, ◌∙◌}
use mathlib.Core.List.{List}
use borrow.Author.Tests.{lt-ltb, le-ltb}
use Rattle.laws.specs.Outcome.{Outcome, done, refused, after}
use Rattle.register.specs.File.{cells_of_file}
use Rattle.register.specs.Load.{load}
use Rattle.register.specs.declared.Sizes.{Sizes}
use Rattle.chain_text.specs.Text.{form}
use Rattle.chain_path.specs.Path.{path_at_record, hops_of, HoldsPath}
use Rattle.chain_path.specs.declared.Hop.{Hop}
use Rattle.chain_path.specs.declared.Path.{Path}
use Rattle.op_read.specs.Reading.{word_of_form, refusal_number, refusal_line}
use Rattle.op_read.specs.declared.ReadingRefusal.{ReadingRefusal}
use Rattle.chain_path.proofs.Walking.{holds_own}
use Rattle.std.specs.Prelude.{Ok, Err}
use Rattle.op_path.specs.Path.{path_of_word, path_loaded, reading_path, path_outcome, PathAnswers}

pub after-done : {A B : Type 0} {o : Outcome A} {a : A} (g : A → Outcome B) → o ≡ done a → after o g ≡ g a
unfolding after
after-done g e = ap (λ o. after o g) e

pub after-refused : {A B : Type 0} {o : Outcome A} {k l : ℕ} (g : A → Outcome B) → o ≡ refused k l → after o g ≡ refused k l
unfolding after
after-refused g e = ap (λ o. after o g) e

-- what an answer tells of the outcome
pub answered-refused : {o : Outcome (List Hop)} {r : ReadingRefusal} → PathAnswers o (Err r) → o ≡ refused (refusal_number r) (refusal_line r)
unfolding path_outcome
answered-refused h = sym h.outcome_is

pub answered-listed : {o : Outcome (List Hop)} {p : Path} → PathAnswers o (Ok p) → o ≡ done (hops_of p)
unfolding path_outcome
answered-listed h = sym h.outcome_is

-- an answer that lists, and one that refuses
pub answers_listed : {o : Outcome (List Hop)} {p : Path} {hs : List Hop} → HoldsPath p hs → o ≡ done hs → PathAnswers o (Ok p)
unfolding path_outcome
answers_listed h e = record { outcome_is = ap done h.hops_are ∙ sym e; holds = holds_own h }

pub answers_refused : {o : Outcome (List Hop)} (r : ReadingRefusal) → o ≡ refused (refusal_number r) (refusal_line r) → PathAnswers o (Err r)
unfolding path_outcome
answers_refused r e = record { outcome_is = sym e; holds = tt }

module _ (s : Sizes) (file text : List ℕ) (u : ℕ) where
  pub loaded-refused : {k l : ℕ} → word_of_form s (form text) ≡ refused k l → path_loaded s file text u ≡ refused k l
  unfolding path_loaded
  loaded-refused = after-refused (path_of_word s (cells_of_file s file) u)

  module _ {w : List ℕ} (e : word_of_form s (form text) ≡ done w) where
    pub loaded_record : s.records ≤ u → path_loaded s file text u ≡ refused 16 0
    unfolding path_loaded path_of_word
    loaded_record h = after-done _ e ∙ simp (le-ltb u s.records h)

    pub loaded-listed : u < s.records → path_loaded s file text u ≡ done (path_at_record s (cells_of_file s file) w u)
    unfolding path_loaded path_of_word
    loaded-listed h = after-done _ e ∙ simp (lt-ltb u s.records h)

module _ (file text : List ℕ) (u : ℕ) where
  pub path-refused : {k l : ℕ} → load file ≡ refused k l → reading_path file text u ≡ refused k l
  unfolding reading_path
  path-refused = after-refused (λ s. path_loaded s file text u)

  pub path-loaded : {s : Sizes} → load file ≡ done s → reading_path file text u ≡ path_loaded s file text u
  unfolding reading_path
  path-loaded = after-done (λ s. path_loaded s file text u)
