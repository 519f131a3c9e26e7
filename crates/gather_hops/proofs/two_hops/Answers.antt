-- `gather_hops::two_hops` meets its contract: what the first hop reads leads on to what is read.
use mathlib.Core.Path.{◌≡◌, refl, ap, ◌∙◌}
use mathlib.Core.Bool.{true}
use native.Mathlib.Omega.{arith}
use Prim.Native.Nat.{ℕ}
use borrow.Author.Rules.{rules}
use lib.IntN.{nat_abs}
use Rattle.integers.proofs.Complement.{kept}
use Rattle.chain.specs.Word.{refers_to}
use Rattle.chain.proofs.Following.{readable-field, readable-rest, named-index, named-below, hop-value, underway-next, underway-last, underway_missing}
use Rattle.gather_hops.proofs.Hopping.{hop-first}
use Rattle.gather_hops.proofs.two_hops.Goals as goal

pub read_cell-requires : goal.read_cell-requires
read_cell-requires c = (c.requires.1, readable-field _ refl c.requires.2)

pub returns-in_err-read_cell : goal.returns-in_err-read_cell
returns-in_err-read_cell c =
    let underway = hop-first _ _ _ c.requires.0 c.requires.2 c.requires.1 c.read_cell.ensures in
    c.from_residual.ensures ∙ underway_missing underway c.in_err-read_cell.was

pub index-v-requires : goal.index-v-requires
index-v-requires c =
    let underway = hop-first _ _ _ c.requires.0 c.requires.2 c.requires.1 c.read_cell.ensures in
    let names : refers_to c.args.cells.now.sizes.records c.read_cell.result ≡ true = underway.refers (λ z. let no : ◌≡◌ {A = ℕ} 0 1 = cc in omega arith) in
    rw (kept c.in_ok-read_cell.field-0 (search rules)) (named-index _ _ c.in_ok-read_cell.was names)

pub read_cell-requires-2 : goal.read_cell-requires-2
read_cell-requires-2 c =
    let underway = hop-first _ _ _ c.requires.0 c.requires.2 c.requires.1 c.read_cell.ensures in
    let names : refers_to c.args.cells.now.sizes.records c.read_cell.result ≡ true = underway.refers (λ z. let no : ◌≡◌ {A = ℕ} 0 1 = cc in omega arith) in
    let number = c.in_ok-read_cell.field-0 in
    let index_is : c.index-v.result ≡ nat_abs number = c.index-v.ensures ∙ ap nat_abs (kept number (search rules)) in
    (rw index_is (named-below _ _ c.in_ok-read_cell.was names), readable-field _ refl (readable-rest _ refl c.requires.2))

pub returns : goal.returns
returns c =
    let underway = hop-first _ _ _ c.requires.0 c.requires.2 c.requires.1 c.read_cell.ensures in
    let number = c.in_ok-read_cell.field-0 in
    let index_is : c.index-v.result ≡ nat_abs number = c.index-v.ensures ∙ ap nat_abs (kept number (search rules)) in
    let hopped = c.read_cell-2.ensures ∙ hop-value _ _ _ c.in_ok-read_cell.was index_is in
    underway-last (underway-next underway c.requires.0 refl (readable-rest _ refl c.requires.2) hopped) refl
