-- The answer of a run: by the check, by the lengths of the buffers, and by how the run ends.
use Prim.Native.Nat.{ℕ, ◌≤◌}
use mathlib.Core.Path.{◌≡◌, refl, sym, ap, subst, ◌∙◌}
use mathlib.Core.Bool.{Bool, true, false, cond}
use mathlib.Core.List.{List}
use borrow.Author.Tests.{eq-eqb}
use lib.Dec.{eqb}
use lib.IntN.{ℤ}
use lib.ListN.{length}
use Rattle.laws.specs.Outcome.{Outcome, done, refused, unless, after}
use Rattle.register.specs.File.{sizes_of, cells_of_file}
use Rattle.register.specs.Shape.{Register}
use Rattle.register.specs.declared.Sizes.{Sizes}
use Rattle.register.specs.declared.cells.Cell.{Cell}
use Rattle.register.proofs.Roundtrip.{Bytes, encode_decode, cells-valid}
use Rattle.program.specs.Program.{Program, most_lines}
use Rattle.text_rules.specs.Text.{check}
use Rattle.machine.specs.Run.{Ending, complete, exhausted, offended, Run, direct, run, scratch, is_short}
use Rattle.op_ready.specs.Ready.{length_refusal}
use Rattle.op_check.proofs.Passed.{loaded}
use Rattle.machine_messages.specs.declared.Machine.{Machine}
use Rattle.run_steps.specs.Answer.{Scratch, EndsBy, EndsAs, Ends}
use Rattle.run_steps.specs.declared.RunAnswer.{RunAnswer}
use Rattle.op_run.specs.Direct.{Lengths, run_program, direct_run}
use Rattle.op_run.specs.Answer.{Ended, RefusalAnswered, Answered}

-- 18, 19, or the run
by_length : (a b : Bool) (x : Run) → cond a (cond b (refused 19 0) (done x)) (refused 18 0) ≡ unless (cond a (cond b 19 0) 18) 0 (done x)
unfolding unless
by_length true true x = refl
by_length true false x = refl
by_length false b x = refl

pub unless_zero : {A : Type 0} (n k : ℕ) (o : Outcome A) → n ≡ 0 → unless n k o ≡ o
unfolding unless
unless_zero n k o h = rw h

module _ (file text : List ℕ) (budget : ℕ) (n : Lengths) where
  -- the check refuses
  pub run-refused : {a b : ℕ} → check file text ≡ refused a b → direct_run file text budget n ≡ refused a b
  unfolding direct_run after
  run-refused e = rw e

  module _ {p : Program} (e : check file text ≡ done p) where
    program : direct_run file text budget n ≡ run_program file budget n p
    unfolding direct_run after
    program = rw e

    -- by the lengths of the buffers
    pub run-unless : {r : ℕ} → let s = sizes_of file in r ≡ length_refusal (scratch s (most_lines p)) (length file) n.out n.values n.marks
        → direct_run file text budget n ≡ unless r 0 (done (run s (direct s) p budget (cells_of_file s file)))
    unfolding run_program length_refusal
    run-unless h = rw h (program ∙ by_length (eqb n.out (length file)) (is_short (scratch (sizes_of file) (most_lines p)) n.values n.marks) _)

    pub run-done : n.out ≡ length file → is_short (scratch (sizes_of file) (most_lines p)) n.values n.marks ≡ false
        → direct_run file text budget n ≡ done (run (sizes_of file) (direct (sizes_of file)) p budget (cells_of_file (sizes_of file) file))
    unfolding run_program
    run-done o h = program ∙ simp (eq-eqb n.out (length file) o, h)

-- what is known of a register and a text that passed
module _ (file text : List ℕ) {p : Program} (e : check file text ≡ done p) where
  pub register : Bytes file → Register (sizes_of file) file
  register b =
      let l = loaded file text e in
      record { valid = cells-valid (sizes_of file) file b l; file-is = sym (encode_decode (sizes_of file) file b l); whole = l.whole }

-- how the run ended, the register being copied over a refusal
module _ (s : Sizes) (cells : List Cell) (file out : List ℕ) {out' : List ℕ} (r : RunAnswer) (o : out' ≡ cond (eqb r.refusal 0) out file) where
  left : (n : ℕ) → r.refusal ≡ n → out' ≡ cond (eqb n 0) out file
  left n e = rw e at o

  ended : (x : Ending) → EndsBy s x cells out r → Ended s x cells file out' r
  ended complete h = (h.0, left 0 (ap (λ (x : RunAnswer). x.refusal) h.0) ∙ h.1)
  ended exhausted h = (h, left 20 (ap (λ (x : RunAnswer). x.refusal) h))
  ended (offended x) h = (h, left 21 (ap (λ (x : RunAnswer). x.refusal) h))

-- what a run needs, over a copy of the register and in buffers that are ready
module _ {s s' : Sizes} (e : s ≡ s') where
  pub copy_register : {copy file : List ℕ} → copy ≡ file → Register s' file → Register s copy
  copy_register f r = rw (e, f) r

  pub scratch-ready : {lines most : ℕ} {values values' : List ℤ} {marks marks' : List ℕ} → lines ≡ most → values' ≡ values → marks' ≡ marks
      → lines ≤ 64 → (scratch s' most ≤ length values) × (scratch s' most ≤ length marks) → Scratch s lines values' marks'
  scratch-ready l v m few enough =
      record { lines≤ = few; values_room = rw (e, l, v) enough.0; marks_room = rw (e, l, m) enough.1 }

-- a run over a copy of the register
pub over_copy : {m : Machine} (p : Program) (budget : ℕ) {s s' : Sizes} {copy file out : List ℕ} {r : RunAnswer} → s ≡ s' → copy ≡ file
    → Ends m s p budget copy out r → Ends m s' p budget file out r
over_copy p budget e f h = rw (e, f) at h

-- an answer by its outcome
module _ (m : Machine) (file out : List ℕ) (values : List ℤ) (marks : List ℕ) {o : Outcome Run} {out' : List ℕ} (values' : List ℤ) (marks' : List ℕ) {r : RunAnswer} where
  pub refused-answered : {n k : ℕ} → o ≡ refused n k → RefusalAnswered n k out values marks out' values' marks' r → Answered m o file out values marks out' values' marks' r
  refused-answered e h = subst (λ (o : Outcome Run). Answered m o file out values marks out' values' marks' r) (sym e) h

  pub run-answered : {x : Run} {ran : List ℕ} → o ≡ done x → EndsAs m (sizes_of file) x ran r → out' ≡ cond (eqb r.refusal 0) ran file
      → length values' ≡ length values → length marks' ≡ length marks → Answered m o file out values marks out' values' marks' r
  run-answered {x = x} {ran = ran} e h l v w =
      subst (λ (o : Outcome Run). Answered m o file out values marks out' values' marks' r) (sym e)
      (record { finished_is = h.finished_is; counts_are = h.counts_are; ended = ended (sizes_of file) x.cells file ran r l x.ending h.ends_by; values_length = v; marks_length = w })
