-- `print_ran::put_ran` meets its contract: the refusal decides what is printed.
use mathlib.Core.Path.{◌≡◌}
use borrow.Author.Tests.{eq-eqb, ne_eqb}
use Rattle.register.specs.File.{sizes_of, cells_of_file}
use Rattle.print_listing.specs.Listing.{listing, refused_line}
use Rattle.print_ran.specs.RanPage.{refused_page, ran_page}
use Rattle.print_ran.proofs.put_ran.Goals as goal

pub put_refused-requires : goal.put_refused-requires
unfolding ran_page refused_page
put_refused-requires c =
    let refused : (let a = c.args in ran_page (sizes_of a.file.now) a.out.now a.ran ≡ refused_line a.ran.refusal c.behind_at-place.result) = rw (ne_eqb c.args.ran.refusal 0 c.if-ran-ne0.true, c.behind_at-place.ensures) in
    rw (refused) at c.requires.0

pub returns-then-ran-ne0 : goal.returns-then-ran-ne0
unfolding ran_page refused_page
returns-then-ran-ne0 c =
    let refused : (let a = c.args in ran_page (sizes_of a.file.now) a.out.now a.ran ≡ refused_line a.ran.refusal c.behind_at-place.result) = rw (ne_eqb c.args.ran.refusal 0 c.if-ran-ne0.true, c.behind_at-place.ensures) in
    rw (refused) c.put_refused.ensures

pub sizes_of-requires : goal.sizes_of-requires
sizes_of-requires c = (c.requires.1 c.if-ran-ne0.false).long

pub put_listing-requires : goal.put_listing-requires
unfolding ran_page
put_listing-requires c =
    let listed : (let a = c.args in ran_page (sizes_of a.file.now) a.out.now a.ran ≡ listing (sizes_of a.file.now) (cells_of_file (sizes_of a.file.now) a.out.now) a.ran.finished a.ran.exchanges a.ran.letters) = rw (eq-eqb c.args.ran.refusal 0 c.if-ran-ne0.false) in
    let w = c.requires.1 c.if-ran-ne0.false in
    rw c.sizes_of.ensures (w.limits, w.whole, rw (listed) at c.requires.0)

pub returns : goal.returns
unfolding ran_page
returns c =
    let listed : (let a = c.args in ran_page (sizes_of a.file.now) a.out.now a.ran ≡ listing (sizes_of a.file.now) (cells_of_file (sizes_of a.file.now) a.out.now) a.ran.finished a.ran.exchanges a.ran.letters) = rw (eq-eqb c.args.ran.refusal 0 c.if-ran-ne0.false) in
    let sized = c in
    rw (listed) (rw sized.sizes_of.ensures at c.put_listing.ensures)
