-- `op_read::reading` meets its contract, demand 2: the register first, then the chain and the record.
use mathlib.Core.Path.{sym, ap, ap₂, subst₂, ◌∙◌}
use mathlib.Core.List.{List}
use Rattle.std.proofs.lemmas.Result.{err_from_is_err_and}
use Rattle.laws.specs.Outcome.{done}
use Rattle.register.specs.Shape.{Valid}
use Rattle.register.specs.declared.Sizes.{Sizes}
use Rattle.register.specs.declared.cells.Cell.{Cell}
use Rattle.chain.specs.Word.{unpack, value_at_record}
use Rattle.register_load.specs.Answer.{outcome_of}
use Rattle.op_read.specs.Reading.{reading_outcome, chain_outcome, refusal_number, refusal_line}
use Rattle.op_read.proofs.Outcomes.{word-passes, loaded_shape, loaded-valid, lent_cells, loaded-refused, loaded_record, loaded-read, reading-refused, reading-loaded}
use Rattle.op_read.proofs.reading.Goals as goal

pub returns-in_err-sizes : goal.returns-in_err-sizes
unfolding outcome_of reading_outcome refusal_number refusal_line
returns-in_err-sizes c =
    let p = err_from_is_err_and c.from_residual.result c.from_residual.ensures.1 in
    rw (p.1, p.2) (sym (reading-refused c.args.file.now c.args.text.now c.args.u (sym c.in_err-sizes.ensures)))

pub chain_of-requires : goal.chain_of-requires
unfolding outcome_of
chain_of-requires c = (loaded_shape _ _ (sym c.in_ok-sizes.ensures)).0

pub returns-in_err-chain : goal.returns-in_err-chain
unfolding outcome_of reading_outcome chain_outcome refusal_number refusal_line
returns-in_err-chain c =
    let p = err_from_is_err_and c.from_residual-in_err-chain.result c.from_residual-in_err-chain.ensures.1 in
    rw (p.1, p.2) (sym (reading-loaded _ _ _ (sym c.in_ok-sizes.ensures) ∙ loaded-refused _ _ _ _ (sym c.in_err-chain.ensures)))

pub returns-then-sizes-u : goal.returns-then-sizes-u
unfolding outcome_of reading_outcome chain_outcome refusal_number refusal_line
returns-then-sizes-u c = sym (reading-loaded _ _ _ (sym c.in_ok-sizes.ensures) ∙ loaded_record _ _ _ _ (sym c.in_ok-chain.ensures) c.if-sizes-u.true)

pub of-cells-requires : goal.of-cells-requires
unfolding outcome_of
of-cells-requires c = loaded_shape _ _ (sym c.in_ok-sizes.ensures)

pub follow-requires : goal.follow-requires
unfolding outcome_of chain_outcome
follow-requires c =
    let o = c.of-cells.ensures in
    let valid = loaded-valid _ c.args.file.now (sym c.in_ok-sizes.ensures) (λ i. let f = c.type_inv.file i in f.fits) in (
      subst₂ Valid (sym o.0) (sym (lent_cells _ _ c.of-cells.result o)) valid,
      rw o.0 c.if-sizes-u.false,
      rw o.0 (word-passes _ _ (sym c.in_ok-chain.ensures)).follows,
    )

pub returns : goal.returns
unfolding outcome_of reading_outcome chain_outcome
returns c =
    let o = c.of-cells.ensures in
    ap done (c.follow.ensures ∙ ap₂ (λ (s : Sizes) (l : List Cell). value_at_record s l (unpack c.in_ok-chain.chain) c.args.u) o.0 (lent_cells _ _ c.of-cells.result o))
    ∙ sym (reading-loaded _ _ _ (sym c.in_ok-sizes.ensures) ∙ loaded-read _ c.args.file.now _ _ (sym c.in_ok-chain.ensures) c.if-sizes-u.false)
