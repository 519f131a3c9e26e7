-- Chains and expressions in one pass, at any number of hops and any depth of groups: an expression without its tree, by what 9 to 12, 24 and
-- 25 ask of it.
use Rattle.std.specs.Prelude.{ℕ, zero, suc, ◌+◌, max, Bool, true, false, ◌&&◌, ◌||◌, List, ◌++◌, length}
use Rattle.register.specs.declared.Sizes.{Sizes}
use Rattle.program.specs.declared.rule.Operator.{Operator}
use Rattle.text_syntax.specs.Token.{Token, closeSquare, openRound, closeRound}
use Rattle.text_syntax.specs.Kind.{operator_in}
use Rattle.text_syntax.specs.Form.{Form, formed, unformed, one_of, past, then, then_or}
use Rattle.text_syntax.specs.Written.{Expression, term}
use Rattle.text_syntax.specs.Grammar.{chain_form, term_form, is_sum}
use Rattle.text_syntax.specs.Parts.{every_term, term_named, term_kinded, term_short, term_in_range, is_reference, is_measure, operators, depth}

-- a chain with these letters, where `]` stands n times
unfoldable pub closed_chain : ℕ → List ℕ → List Token → Form (List ℕ)
closed_chain zero ls ts = formed ls ts
closed_chain (suc n) ls ts = past closeSquare ts (closed_chain n ls)

-- the rest of a chain, behind the letters that have opened
unfoldable pub chain_from : List ℕ → List Token → Form (List ℕ)
chain_from ls ts = then (chain_form ts) (λ ms. closed_chain (length ls) (ls ++ ms))

-- What 9 to 12, 24 and 25 ask: whether all letters name fields (9), chains go over references, a reference or a measure is held (10), chains
-- have at most 16 hops (11), numbers are in range (12); the groups around groups (24) and the operators (25).
pub record Summary : Type 0 where
  pub named : Bool
  pub kinded : Bool
  pub reference : Bool
  pub measure : Bool
  pub short : Bool
  pub ranged : Bool
  pub depth : ℕ
  pub operators : ℕ

-- of no expression yet
unfoldable pub empty : Summary
empty = record { named = true; kinded = true; reference = false; measure = false; short = true; ranged = true; depth = 0; operators = 0 }

-- of an expression
unfoldable pub summary : Sizes → Expression → Summary
summary s e = record {
  named = every_term (term_named s) e;
  kinded = every_term term_kinded e;
  reference = is_reference e;
  measure = is_measure e;
  short = every_term term_short e;
  ranged = every_term term_in_range e;
  depth = depth e;
  operators = operators e;
}

-- of what has been gathered and of what stands d groups deep behind it
unfoldable pub merged : ℕ → Summary → Summary → Summary
merged d g h = record {
  named = g.named && h.named;
  kinded = g.kinded && h.kinded;
  reference = g.reference || h.reference;
  measure = g.measure || h.measure;
  short = g.short && h.short;
  ranged = g.ranged && h.ranged;
  depth = max g.depth (d + h.depth);
  operators = g.operators + h.operators;
}

-- and of an operator behind it
unfoldable pub with_operator : Operator → Summary → Summary
with_operator o g = record {
  named = g.named;
  kinded = g.kinded;
  reference = g.reference;
  measure = g.measure || is_sum o;
  short = g.short;
  ranged = g.ranged;
  depth = g.depth;
  operators = g.operators + 1;
}

-- the rest of an expression from a place d groups deep, where an operand is due or one has just ended; the first number is any above that of
-- the tokens
unfoldable pub scan : ℕ → Sizes → Bool → ℕ → Summary → List Token → Form Summary
scan zero s due d g ts = unformed
scan (suc n) s true d g ts = then_or (term_form ts) (λ x. scan n s false d (merged d g (summary s (term x)))) (past openRound ts (scan n s true (suc d) g))
scan (suc n) s false zero g ts = then_or (one_of operator_in ts) (λ o. scan n s true zero (with_operator o g)) (formed g ts)
scan (suc n) s false (suc d) g ts = then_or (one_of operator_in ts) (λ o. scan n s true (suc d) (with_operator o g)) (past closeRound ts (scan n s false d g))

unfoldable pub scan_from : Sizes → Bool → ℕ → Summary → List Token → Form Summary
scan_from s due d g ts = scan (suc (length ts)) s due d g ts
