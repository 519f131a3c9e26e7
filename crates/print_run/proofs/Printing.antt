-- The page, by what the program has of the run.
use Prim.Native.Nat.{ℕ, ◌≤◌, ◌<◌}
use mathlib.Core.Path.{◌≡◌, refl, sym, ap, ◌∙◌}
use mathlib.Core.Bool.{◌||◌}
use mathlib.Core.List.{List}
use mathlib.Core.Logic.{◌≢◌, ⊎_elim}
use native.Mathlib.Omega.{arith}
use borrow.Author.Tests.{lt-ltb, le-ltb, eqb-true, eqb-false}
use lib.Dec.{eqb}
use lib.ListN.{length, take, get_or}
use mir.Syntax.{w32}
use mir.Val.{SFits}
use Rattle.laws.proofs.Bools.{cond_both}
use Rattle.laws.proofs.Cases.{true_or_false}
use Rattle.laws.specs.Outcome.{Outcome, done, refused, after}
use Rattle.register.specs.Cells.{value_of}
use Rattle.register.specs.File.{sizes_of, file_of, cells_of_file}
use Rattle.register.specs.declared.cells.Cell.TheVariants.{Missing}
use Rattle.register.proofs.Bounds.{limits}
use Rattle.register.proofs.Roundtrip.{Loads, Bytes, decode_encode}
use Rattle.program.specs.Program.{Program}
use Rattle.text_rules.specs.Text.{check}
use Rattle.machine.specs.Run.{Ending, complete, exhausted, offended, Run, direct, run}
use Rattle.machine.proofs.Ending.{run-valid}
use Rattle.machine_messages.specs.By.{exchanges_by, messages_by}
use Rattle.machine_messages.specs.declared.Machine.TheVariants.{Messages}
use Rattle.gather.specs.declared.counts.Counts.{Counts}
use Rattle.run_steps.specs.declared.RunAnswer.{RunAnswer}
use Rattle.op_check.proofs.Passed.{loaded, passed}
use Rattle.op_run.specs.Answer.{Ended, RunAnswered, Answered}
use Rattle.op_run.proofs.Answering.{register}
use Rattle.io.specs.Counts as io
use Rattle.io.proofs.Counting.{prefix_len_of_le}
use Rattle.print_page.specs.Put.{PageRoom, PagePut}
use Rattle.print_listing.specs.Listing.{listing, too_large}
use Rattle.print_listing.specs.Room.{page_room}
use Rattle.print_listing.proofs.Lengths.{Short, listing-length, refused-length}
use Rattle.print_listing.specs.declared.Ran.{Ran}
use Rattle.print_ran.specs.Behind.{among, behind_at}
use Rattle.print_run.specs.RanBy.{RanBy}
use Rattle.print_ran.specs.RanPage.{Whole, ran_page, refused_page}
use Rattle.print_run.specs.Page.{printed_run, ended_page, outcome_page, printed_page}
use Rattle.print_run.proofs.Positive.{refusal_positive}

-- the page of an answer that is refused
abbrev answer_page : RunAnswer → List ℕ
answer_page a = refused_page a.refusal a.line a.finished

-- the figures of an answer, each of at most 20 digits
pub record Figures (r : Ran) : Type 0 where
  pub refusal : Short r.refusal
  pub line : Short r.line
  pub finished : Short r.finished
  pub exchanges : Short r.exchanges
  pub letters : Short r.letters

behind-short : (n : ℕ) {line finished : ℕ} → Short line → Short finished → Short (behind_at n line finished)
unfolding behind_at
behind-short n {line} {finished} hl hf =
    cond_both Short (among 6 15 n || among 24 25 n) line _ hl (cond_both Short (among 20 21 n) finished 0 hf (omega arith))

-- the listing of a register that loads, with values that have room
record Listed (file text out' : List ℕ) (r : Ran) : Type 0 where
  pub loads : Loads (sizes_of file) file
  pub page_is :
      outcome_page (sizes_of file) (printed_run file text)
      ≡ listing (sizes_of file) (cells_of_file (sizes_of file) out') r.finished r.exchanges r.letters
  pub fit : (j : ℕ) → SFits w32 (value_of (get_or (cells_of_file (sizes_of file) out') j Missing))

module _ {file text out out' : List ℕ} {r : Ran} (h : RanBy file text out out' r) where
  abbrev answer : RunAnswer
  answer = h.answer

  abbrev Ran-by : Run → Type 0
  Ran-by x = RunAnswered Messages x file out' h.values h.marks h.values' h.marks' answer

  -- a run that is refused
  stopped_page : (x : Run) → Ran-by x → (e : Ending) → Ended (sizes_of file) e x.cells file out' answer → answer.refusal ≢ 0
      → ended_page (sizes_of file) e x ≡ answer_page answer
  unfolding ended_page
  stopped_page x k complete e z = absurd (z (ap (λ (a : RunAnswer). a.refusal) e.0))
  stopped_page x k exhausted e z = ap (refused_page 20 0) (sym k.finished_is) ∙ ap answer_page (sym e.0)
  stopped_page x k (offended o) e z = ap (refused_page 21 0) (sym k.finished_is) ∙ ap answer_page (sym e.0)

  -- any outcome that is
  refused_page_lem : (o : Outcome Run) → Answered Messages o file out h.values h.marks out' h.values' h.marks' answer → answer.refusal ≢ 0
      → outcome_page (sizes_of file) o ≡ answer_page answer
  unfolding outcome_page
  refused_page_lem (done x) k z = stopped_page x k x.ending k.ended z
  refused_page_lem (refused n line) k z = ap answer_page (sym k.answer_is)

  -- a run that is not
  complete_page : (x : Run) → Ran-by x → (e : Ending) → Ended (sizes_of file) e x.cells file out' answer → answer.refusal ≡ 0
      → (out' ≡ file_of (sizes_of file) x.cells)
      × (ended_page (sizes_of file) e x ≡ listing (sizes_of file) x.cells answer.finished answer.counts.exchanges answer.counts.messages)
  unfolding ended_page exchanges_by messages_by
  complete_page x k complete e z =
      (e.1, cc (k.finished_is, ap (λ (c : Counts). c.exchanges) k.counts_are, ap (λ (c : Counts). c.messages) k.counts_are))
  complete_page x k exhausted e z = absurd (omega (arith, z, ap (λ (a : RunAnswer). a.refusal) e.0))
  complete_page x k (offended o) e z = absurd (omega (arith, z, ap (λ (a : RunAnswer). a.refusal) e.0))

  ran-refused : r.refusal ≢ 0 → outcome_page (sizes_of file) (printed_run file text) ≡ refused_page r.refusal r.line r.finished
  ran-refused z = rw h.numbers (refused_page_lem (printed_run file text) h.answered (rw h.numbers at z))

  ran-complete : Bytes file → r.refusal ≡ 0 → Listed file text out' r
  unfolding printed_run after outcome_page
  ran-complete bytes z = go (check file text) refl
    where
      none : answer.refusal ≡ 0
      none = sym (ap (λ (r : Ran). r.refusal) h.numbers) ∙ z

      go : (c : Outcome Program) → check file text ≡ c → Listed file text out' r
      go (refused n line) e =
          let o : printed_run file text ≡ refused n line = rw e in
          absurd (omega (arith, refusal_positive file text e, none, ap (λ (a : RunAnswer). a.refusal) (rw o at h.answered).answer_is))
      go (done p) e =
          let s = sizes_of file in
          let x = run s (direct s) p 1000 (cells_of_file s file) in
          let o : printed_run file text ≡ done x = rw e in
          let answered = rw o at h.answered in
          let (output, page) = complete_page x answered x.ending answered.ended none in
          let valid = run-valid s (passed file text e) (register file text e bytes).valid 1000 in
          let cells : cells_of_file s out' ≡ x.cells = ap (cells_of_file s) output ∙ decode_encode s x.cells valid in
          record { loads = loaded file text e; page_is = rw (h.numbers, cells) (ap (outcome_page s) o ∙ page); fit = rw cells valid.values }

  -- either way it is what the program prints
  pub ran_page_lem : Bytes file → outcome_page (sizes_of file) (printed_run file text) ≡ ran_page (sizes_of file) out' r
  unfolding ran_page
  ran_page_lem bytes = ⊎_elim
      (λ e. rw e (ran-complete bytes (eqb-true r.refusal 0 e)).page_is)
      (λ e. rw e (ran-refused (eqb-false r.refusal 0 e)))
      (true_or_false (eqb r.refusal 0))

  pub ran-whole : Bytes file → length out' ≡ length file → r.refusal ≡ 0 → Whole file out'
  ran-whole bytes e z =
      let l = (ran-complete bytes z).loads in
      record { long = l.long; limits = limits (sizes_of file) l.within; whole = e ∙ l.whole }

  -- and has room on the page
  pub ran-room : Bytes file → length file ≤ 512 → Figures r → length (ran_page (sizes_of file) out' r) ≤ page_room
  unfolding ran_page refused_page
  ran-room bytes few n = ⊎_elim
      (λ e.
      let s = sizes_of file in
      let l = ran-complete bytes (eqb-true r.refusal 0 e) in
      rw e
      (listing-length s (cells_of_file s out') (limits s l.loads.within) l.fit (omega (arith, l.loads.whole))
      r.finished r.exchanges r.letters n.finished n.exchanges n.letters))
      (λ e. rw e (refused-length r.refusal _ n.refusal (behind-short r.refusal n.line n.finished)))
      (true_or_false (eqb r.refusal 0))

-- the page of a file that is too large, and of any other
module _ (file text : List ℕ) where
  pub large_page : 512 < length file → printed_page file text ≡ too_large
  unfolding printed_page
  large_page h = rw (lt-ltb 512 (length file) h)

  pub small_page : length file ≤ 512 → printed_page file text ≡ outcome_page (sizes_of file) (printed_run file text)
  unfolding printed_page
  small_page h = rw (le-ltb 512 (length file) h)

-- a page that is put at the start
pub page_put : {text page page' p : List ℕ} {r : ℕ} → p ≡ text → PagePut 0 text page page' r → PageRoom 0 text page → length page' ≡ length page
    → io.IsPrefixLen r page' × (take r page' ≡ p)
page_put {page' = page'} {r = r} e put room l = (prefix_len_of_le r page' (omega (arith, put.end, room.fits, l)), put.put ∙ sym e)
