-- The page: every byte that is printed for a register file and a rules text.
use Rattle.std.specs.Prelude.{cond, List, ℕ, ltb, length}
use Rattle.laws.specs.Outcome.{Outcome, done, refused, after}
use Rattle.register.specs.File.{sizes_of, cells_of_file}
use Rattle.register.specs.declared.Sizes.{Sizes}
use Rattle.text_rules.specs.Text.{check}
use Rattle.machine.specs.Run.{Ending, complete, exhausted, offended, Run, direct, run}
use Rattle.machine_messages.specs.Counts.{trace_exchanges, trace_messages}
use Rattle.print_listing.specs.Listing.{listing, too_large}
use Rattle.print_ran.specs.RanPage.{refused_page}

-- the run, "allowance 1,000": by letters it is the direct one (`Same.run-same`); no refusal 18 or 19, for no length of a
-- buffer is in it
unfoldable pub printed_run : List ℕ → List ℕ → Outcome Run
printed_run file text = let s = sizes_of file in after (check file text) (λ p. done (run s (direct s) p 1000 (cells_of_file s file)))

-- how a run ended: the register at the end with the counts of the finished steps, or 20 or 21
unfoldable pub ended_page : Sizes → Ending → Run → List ℕ
ended_page s complete x = listing s x.cells (length x.trace) (trace_exchanges x.trace) (trace_messages s x.trace)
ended_page s exhausted x = refused_page 20 0 (length x.trace)
ended_page s (offended o) x = refused_page 21 0 (length x.trace)

-- a run, or a refusal of the check, at its line where it has one
unfoldable pub outcome_page : Sizes → Outcome Run → List ℕ
outcome_page s (done x) = ended_page s x.ending x
outcome_page s (refused n line) = refused_page n line 0

-- "A register file above 512 bytes prints only `too large`"
unfoldable pub printed_page : List ℕ → List ℕ → List ℕ
printed_page file text = cond (ltb 512 (length file)) too_large (outcome_page (sizes_of file) (printed_run file text))
