-- `text_lexer::lexer::skip_spaces` meets its contract: the library's search finds the first byte that is no space.
use Prim.Native.Nat.{ℕ, ◌-◌}
use mathlib.Core.Path.{sym, ◌∙◌}
use mathlib.Core.Bool.{not}
use lib.Dec.{eqb}
use lib.ListN.{length, take, drop}
use Rattle.std.proofs.Common.{rules, tests}
use Rattle.std.proofs.lemmas.Iterator.{YieldsList-from_slice}
use Rattle.std.proofs.lemmas.Iterator.Search.{position_from_yields_List}
use Rattle.text_lexer.proofs.Places.{place-some, place-none}
use Rattle.text_lexer.proofs.lexer.skip_spaces.Goals as goal

pub returns-in-Some : goal.returns-in-Some
returns-in-Some c =
    let found = position_from_yields_List {all = take (length c.args.line.now - c.args.at) (drop c.args.at c.args.line.now)} (λ (b : ℕ). not (eqb b 32)) _ _ c.position.result c.position.ensures.ran (YieldsList-from_slice _ cc) (λ x b q k. search (rules, tests)) in
    place-some c.args.line.now c.args.at c.requires (sym found ∙ c.in-Some.is)

pub returns-in-None : goal.returns-in-None
returns-in-None c =
    let found = position_from_yields_List {all = take (length c.args.line.now - c.args.at) (drop c.args.at c.args.line.now)} (λ (b : ℕ). not (eqb b 32)) _ _ c.position.result c.position.ensures.ran (YieldsList-from_slice _ cc) (λ x b q k. search (rules, tests)) in
    place-none c.args.line.now c.args.at c.requires (sym found ∙ c.in-None.is)
