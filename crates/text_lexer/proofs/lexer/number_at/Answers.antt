-- `text_lexer::lexer::number_at` meets its contract.
use Rattle.std.specs.Prelude.{Some}
use Prim.Native.Nat.{◌-◌}
use mathlib.Core.Path.{sym, ap, ◌∙◌}
use borrow.Author.Rules.{rules}
use lib.IntN.{ℤ}
use mir.Syntax.{w64}
use mir.Facts.{to_z-of_z}
use Rattle.text_words.specs.declared.token.Token.TheVariants.{Number}
use Rattle.text_lexer.proofs.Firsts.{number-none, number-some, number_onward}
use Rattle.text_lexer.proofs.lexer.number_at.Goals as goal

pub returns-in_err-value : goal.returns-in_err-value
returns-in_err-value c = c.from_residual.ensures ∙ number-none _ _ (sym c.read_number.ensures ∙ c.in_err-value.was)

pub overflow_sub-result : goal.overflow_sub-result
overflow_sub-result c = number_onward _ _ (sym c.read_number.ensures ∙ c.in_ok-value.was)

pub returns : goal.returns
returns c =
    let value = to_z-of_z {w = w64} (record { sfits = (search rules) }) in
    ap (λ (z : ℤ). Some (Number z, c.in_ok-value.end - c.args.at)) value ∙ number-some _ _ (sym c.read_number.ensures ∙ c.in_ok-value.was)
