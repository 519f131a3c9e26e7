-- 6,600 places are enough for the run of a text over a register file of at most 512 bytes.
use Prim.Native.Nat.{ℕ, zero, suc, ◌+◌, ◌*◌, ◌≤◌, ◌<◌}
use mathlib.Core.Path.{◌≡◌, refl, sym, ◌∙◌}
use mathlib.Core.List.{List, [], ◌∷◌}
use mathlib.Core.Bool.{true, false}
use native.Mathlib.Omega.{arith}
use native.Mathlib.Nat.{mul-le-mul_left}
use borrow.Author.Tests.{ltb-true, le-ltb}
use lib.ListN.{length}
use Rattle.laws.proofs.Bools.{and_both}
use Rattle.laws.specs.Outcome.{Outcome, done, refused, after}
use Rattle.register.specs.File.{width, cell_count, sizes_of}
use Rattle.register.specs.declared.Sizes.{Sizes}
use Rattle.register.proofs.Bounds.{limits}
use Rattle.chain.specs.Word.{readable, Passes}
use Rattle.plan_theory.specs.Plan.{read, add_readings, plan}
use Rattle.plan_theory.proofs.Lines.{add_none}
use Rattle.program.specs.Program.{Program, readings, step_plan, most_lines}
use Rattle.laws.specs.Lists.{Each}
use Rattle.program.specs.Passed.{StepPasses}
use Rattle.text_rules.specs.Text.{check}
use Rattle.machine.specs.Run.{scratch, is_short}
use Rattle.machine.proofs.Readings.{readings_pass}
use Rattle.op_check.proofs.Passed.{loaded, passed, few-lines}
use Rattle.op_run.specs.Direct.{Lengths, direct_run}
use Rattle.op_run.proofs.Answering.{run-refused, run-done}
use Rattle.print_run.specs.Page.{printed_run}

-- a register without reference fields
module _ (s : Sizes) (none : s.references ≡ 0) where
  -- no word has two hops
  few-hops : (w : List ℕ) → readable s w ≡ true → length w < 2
  unfolding readable
  few-hops [] e = omega arith
  few-hops (f ∷ []) e = omega arith
  few-hops (f ∷ g ∷ w) e = absurd (omega (arith, none, ltb-true f s.references (and_both _ _ e).0))

  -- no reading adds a line
  no_line : (ws : List (List ℕ)) → Each (Passes s) ws → add_readings [] ws ≡ []
  unfolding add_readings
  no_line [] h = refl
  no_line (w ∷ ws) h = rw (add_none [] (read w) (few-hops w h.0.follows)) (no_line ws h.1)

  -- no step has a line
  no_lines : (p : Program) → Each (StepPasses s) p → most_lines p ≡ 0
  unfolding most_lines step_plan plan
  no_lines [] h = refl
  no_lines (x ∷ xs) h = rw (no_line (readings x.rules) (readings_pass s x.rules h.0.rules.each), no_lines xs h.1)

-- n records of w fields and l lines: at most 100 records, or no field and so no line
places : (n w l : ℕ) → n ≤ 4096 → n * w ≤ 100 → l ≤ 64 → (w ≡ 0 → l ≡ 0) → n * (l + w + 1) ≤ 6600
places n zero l few cells lines none = rw (none refl) (omega arith)
places n (suc w) l few cells lines none = omega (arith, mul-le-mul_left n lines)

-- buffers of k places are not too short where k are needed
not_short : {k values marks : ℕ} → k ≤ values → k ≤ marks → is_short k values marks ≡ false
unfolding is_short
not_short {k} {values} {marks} v m = simp (le-ltb values k v, le-ltb marks k m)

module _ (file text : List ℕ) (short : length file ≤ 512) where
  -- the places that the run of a text that passes needs
  enough : {p : Program} → check file text ≡ done p → scratch (sizes_of file) (most_lines p) ≤ 6600
  unfolding scratch width cell_count
  enough {p} e =
      let s = sizes_of file in
      let l = loaded file text e in
      places s.records (width s) (most_lines p) (limits s l.within).records≤ (omega (arith, l.whole)) (few-lines file text e)
      (λ h. no_lines s (omega (arith, h)) p (passed file text e).each)

  -- the library's run over buffers of at least as many is the one that is printed
  pub run-printed : (n : Lengths) → n.out ≡ length file → 6600 ≤ n.values → 6600 ≤ n.marks → direct_run file text 1000 n ≡ printed_run file text
  unfolding printed_run after
  run-printed n o v m = go (check file text) refl
    where
      go : (c : Outcome Program) → check file text ≡ c → direct_run file text 1000 n ≡ printed_run file text
      go (refused k line) e = run-refused file text 1000 n e ∙ sym (rw e)
      go (done p) e = run-done file text 1000 n e o (not_short (omega (arith, enough e)) (omega (arith, enough e))) ∙ sym (rw e)
