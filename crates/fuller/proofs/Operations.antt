-- What the operations answer over a fuller register: a single reading, a text, and the look at one of its steps.
use Rattle.std.specs.Prelude.{None, Some}
use Prim.Native.Nat.{ℕ}
use mathlib.Core.Path.{◌≡◌, refl, sym, ap, subst, ◌∙◌}
use mathlib.Core.Bool.{Bool, true, false, cond}
use mathlib.Core.List.{List, Memᴰ}
use native.Mathlib.Omega.{arith}
use lib.Dec.{ltb}
use lib.IntN.{ℤ, pos}
use lib.ListN.{length, get_or}
use Rattle.laws.specs.Outcome.{Outcome, done, refused, after}
use Rattle.register.specs.File.{cells_of_file}
use Rattle.register.specs.declared.Sizes.{Sizes}
use Rattle.register.specs.declared.cells.Cell.{Cell}
use Rattle.register.proofs.Roundtrip.{loads as loads-with}
use Rattle.chain.specs.Reading.{Reading}
use Rattle.chain.specs.Word.{value_at_record, reading_value}
use Rattle.chain_text.specs.Text.{form}
use Rattle.plan_theory.specs.Plan.{Fact}
use Rattle.program.specs.Program.{Step, Program, step_plan}
use Rattle.text_rules.specs.Text.{check}
use Rattle.scratch.specs.Places.{reading_mark}
use Rattle.gather_line.specs.Written.{Stored}
use Rattle.op_read.specs.Reading.{word_of_form, at_record, reading_loaded, reading}
use Rattle.op_read.proofs.Outcomes.{reading-loaded}
use Rattle.op_show.specs.Shown.{Shown}
use Rattle.op_inspect.specs.Inspection.{step_lines, inspection}
use Rattle.op_inspect.specs.Answer.{StepAnswered}
use Rattle.op_inspect.specs.declared.InspectAnswer.{InspectAnswer}
use Rattle.fuller.specs.Fuller.{Retained, Fuller, FullerFile}
use Rattle.fuller.specs.Claims.{MessagesRetained, PlacesRetained, FullerClaims}
use Rattle.fuller.proofs.Readings.{readings_retained}
use Rattle.fuller.proofs.Messages.{messages_retained, step-most}

-- a value of the first is that of the second
retained_value : (x y : Reading) → Retained x y → {z : ℤ} → x ≡ Some z → y ≡ Some z
retained_value None y r e = absurd (let z : ◌≡◌ {A = ℕ} 0 1 = cc in omega arith)
retained_value (Some a) y r e = r ∙ e

-- a chain, or why it is refused, at a record number
at_retained : (s : Sizes) {cells cells' : List Cell} → Fuller cells cells' → (u : ℕ) {z : ℤ} (o : Outcome (List ℕ))
    → after o (at_record s cells u) ≡ done (Some z) → after o (at_record s cells' u) ≡ done (Some z)
unfolding after at_record
at_retained s fuller u (refused k l) e = e
at_retained s {cells} {cells'} fuller u {z} (done w) e = go (ltb u s.records) e
  where
    x : Reading
    x = value_at_record s cells w u

    y : Reading
    y = value_at_record s cells' w u

    go : (b : Bool) → cond b (done x) (refused 16 0) ≡ done (Some z) → cond b (done y) (refused 16 0) ≡ done (Some z)
    go true e = let same : x ≡ Some z = cc in ap done (retained_value x y (readings_retained s fuller w u) same)
    go false e = e

-- a place that holds a message over both registers
stored_retained : (x y : Reading) → Retained x y → {j : ℕ} {values values' : List ℤ} {marks marks' : List ℕ}
    → Stored x j values marks → Stored y j values' marks'
    → get_or marks j 0 ≡ 1 → (get_or marks' j 0 ≡ 1) × (get_or values' j (pos 0) ≡ get_or values j (pos 0))
unfolding reading_mark reading_value
stored_retained None y r p q e = absurd (omega (arith, p.mark_is))
stored_retained (Some z) y r p q e = (q.mark_is ∙ ap reading_mark r, q.value-is ∙ ap reading_value r ∙ sym p.value-is)

-- the places of a plan's lines
shown_retained : {s : Sizes} {cells cells' : List Cell} → Fuller cells cells' → {l : List Fact} {t : ℕ}
    → {v w values values' : List ℤ} {m n marks marks' : List ℕ} → Shown s cells l t v m values marks → Shown s cells' l t w n values' marks'
    → PlacesRetained s.records (length l) values marks values' marks'
shown_retained {s} {cells} {cells'} fuller {l} {t} p q i u hi hu =
    stored_retained _ _ ((messages_retained s fuller l).sent t i u hi hu) (p.held i u hi hu) (q.held i u hi hu)

module _ {s : Sizes} {file file' : List ℕ} (k : FullerFile s file file') where
  -- a single reading that is filled
  reading_retained : (text : List ℕ) (u : ℕ) {z : ℤ} → reading file text u ≡ done (Some z) → reading file' text u ≡ done (Some z)
  unfolding reading_loaded
  reading_retained text u e =
      reading-loaded file' text u k.loads'
      ∙ at_retained s k.cells_fuller u (word_of_form s (form text)) (sym (reading-loaded file text u k.loads) ∙ e)

  -- a text is the same program, or refused alike
  check-same : (text : List ℕ) → check file text ≡ check file' text
  unfolding check
  check-same text = rw (k.loads, k.loads') refl

  -- the plan of every step of a text that passes
  text_retained : (text : List ℕ) {p : Program} → check file text ≡ done p → {x : Step} → Memᴰ x p
      → MessagesRetained s (cells_of_file s file) (cells_of_file s file') (step_plan x.rules)
  text_retained text e {x} i = messages_retained s k.cells_fuller (step_plan x.rules)

  -- a step of it, by the sizes alone
  lines_same : (step a b : ℕ) (o : Outcome Program) → after o (step_lines file step a b) ≡ after o (step_lines file' step a b)
  unfolding after step_lines
  lines_same step a b (refused n l) = refl
  lines_same step a b (done p) = rw (← (loads-with s file k.loads).sizes, ← (loads-with s file' k.loads').sizes) refl

  -- the same step is looked at, or the look refused alike
  inspection-same : (text : List ℕ) (step a b : ℕ) → inspection file text step a b ≡ inspection file' text step a b
  unfolding inspection
  inspection-same text step a b = rw (check-same text) (lines_same step a b (check file' text))

  -- two looks at it, whatever their buffers held before
  look_retained : {l : List Fact} {t : ℕ} {v w values values' : List ℤ} {m n marks marks' : List ℕ} {r r' : InspectAnswer}
      → StepAnswered l file t v m values marks r → StepAnswered l file' t w n values' marks' r'
      → PlacesRetained s.records (length l) values marks values' marks'
  look_retained {l} {t} {v} {w} {values} {values'} {m} {n} {marks} {marks'} p q =
      shown_retained k.cells_fuller
      (subst (λ (s : Sizes). Shown s (cells_of_file s file) l t v m values marks) (sym (loads-with s file k.loads).sizes) p.shown)
      (subst (λ (s : Sizes). Shown s (cells_of_file s file') l t w n values' marks') (sym (loads-with s file' k.loads').sizes) q.shown)

-- for every two such files
pub fuller_claims : FullerClaims
fuller_claims =
    record {
      readings = readings_retained;
      messages = messages_retained;
      counted = step-most;
      answers = λ k. record {
        reading_retained = reading_retained k;
        check-same = check-same k;
        text_retained = text_retained k;
        inspection-same = inspection-same k;
        look_retained = look_retained k;
      };
    }
