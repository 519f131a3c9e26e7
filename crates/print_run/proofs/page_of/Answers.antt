-- `print_run::page_of` meets its contract: what is put is the page, and has room.
use mathlib.Core.Path.{sym, ◌∙◌}
use native.Mathlib.Omega.{arith}
use borrow.Author.Rules.{rules}
use Rattle.register.proofs.Roundtrip.{Bytes}
use Rattle.io.proofs.Counting.{length-take_of_le}
use Rattle.print_listing.specs.Listing.{too_large}
use Rattle.print_run.proofs.Printing.{Figures, ran_page_lem, ran-whole, ran-room, large_page, small_page, page_put}
use Rattle.print_run.proofs.page_of.Goals as goal

pub returns-then-length-gt512 : goal.returns-then-length-gt512
unfolding too_large
returns-then-length-gt512 c =
    let a = c.args in
    let put = page_put (large_page a.file.now a.text.now c.if-length-gt512.true) c.put_bytes.ensures (search rules) c.put_bytes.auto.page in
    record { prefix_len = put.0; page_after = put.1 }

pub slice_bounds-out-end : goal.slice_bounds-out-end
slice_bounds-out-end c = length-take_of_le _ _ (omega arith)

pub run-ran-requires : goal.run-ran-requires
run-ran-requires c = (omega arith, sym (length-take_of_le _ _ (omega arith)))

pub put_ran-requires : goal.put_ran-requires
put_ran-requires c =
    let bytes : Bytes c.args.file.now = (λ i. search rules) in
    let figures : Figures c.run-ran.result = record { refusal = omega arith; line = omega arith; finished = omega arith; exchanges = omega arith; letters = omega arith } in
    let ran = c.run-ran in (
      record { fits = omega (arith, ran-room ran.ensures bytes (omega arith) figures, c.requires) },
      ran-whole ran.ensures bytes (ran.auto.out ∙ sym (length-take_of_le _ _ (omega arith))),
    )

pub returns : goal.returns
returns c =
    let bytes : Bytes c.args.file.now = (λ i. search rules) in
    let figures : Figures c.run-ran.result = record { refusal = omega arith; line = omega arith; finished = omega arith; exchanges = omega arith; letters = omega arith } in
    let ran = c.run-ran in
    let put = page_put (small_page c.args.file.now c.args.text.now (omega arith) ∙ ran_page_lem ran.ensures bytes)
    c.put_ran.ensures (record { fits = omega (arith, ran-room ran.ensures bytes (omega arith) figures, c.requires) }) c.put_ran.auto.page in
    record { prefix_len = put.0; page_after = put.1 }
