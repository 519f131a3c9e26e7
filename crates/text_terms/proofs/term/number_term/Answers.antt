-- `text_terms::term::number_term` meets its contract.
use mathlib.Core.Path.{sym, ap, subst, ◌∙◌}
use borrow.Author.Rules.{rules}
use lib.IntN.{ℤ}
use mir.Syntax.{w64}
use mir.Facts.{to_z-of_z}
use Rattle.integers.specs.Range.{sum_of}
use Rattle.text_lexer.proofs.Lexemes.{lexed}
use Rattle.text_terms.specs.Term.{number_parts, TermFormed}
use Rattle.text_codes.specs.declared.code.TermParts.{TermParts}
use Rattle.text_places.proofs.Places.{passed, goes_on_lem}
use Rattle.text_terms.proofs.Terms.{number-formed, number-none}
use Rattle.text_terms.proofs.term.number_term.Goals as goal

pub next_token-read-requires : goal.next_token-read-requires
next_token-read-requires c = c.requires.0

pub returns-in_default : goal.returns-in_default
returns-in_default c =
    number-none c.requires.1 (lexed _ _ _ c.requires.0 c.next_token-read.ensures)
    c.in_default.not-Number

pub returns : goal.returns
returns c =
    let w = lexed _ _ _ c.requires.0 c.next_token-read.ensures in
    subst (λ (p : TermParts). TermFormed c.args.sizes
    c.args.line.now c.args.at p
    c.next_token-read.result.end)
    (sym (c.number_parts.ensures ∙ ap (λ (z : ℤ). number_parts (sum_of z))
    (to_z-of_z {w = w64} (record { sfits = (search rules) }))))
    (number-formed c.requires.1 (passed w c.in-Number.is)
    (goes_on_lem w _ c.in-Number.is tt))
