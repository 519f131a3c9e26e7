-- (P) The texts of the printed run and of the "Edges", each with the program that it describes: A is field 0, M field 8.
use Rattle.std.specs.Prelude.{ℕ, ◌≡◌, refl, true, List, [], ◌∷◌, pos, negsuc}
use Prim.Native.String.{String}
use Rattle.laws.specs.Lists.{every}
use Rattle.integers.specs.Range.{in_range}
use Rattle.laws.specs.Outcome.{Outcome, done, unless, after}
use Rattle.chain_text.specs.Text as C
use Rattle.chain_text.specs.Scan.{starts_with}
use Rattle.plan_theory.specs.Plan.{plan, add_readings, add, with_tree as plan_lines, listed, line_index, same_fact, same_word, tree, tree_within, half, doubled, front, rest}
use Rattle.laws.specs.Bytes.{bytes}
use Rattle.text_numerals.specs.Numeral.{is_digit, digits, decimal, all_digits, centimetres, whole_digits, no_leading_zero, two_decimals, is_numeral, with_decimals, numeral, printed_numeral, signed_form, number_value, signed_value}
use Rattle.text_numerals.specs.Span.{span}
use Rattle.text_numerals.specs.Word.{opens_with}
use Rattle.text_syntax.specs.Lexing.{spelled, words, signs, fixed_token, number_token, first_token, operand_behind, is_space, unless_empty, skipped, followed, tokens_within, tokens_at, tokens}
use Rattle.text_syntax.specs.Kind.{kind, fixed_in, letter_in, write_in, operator_in, comparison_in, same, is}
use Rattle.text_syntax.specs.Form.{held, one_of, past, then, then_or, or, whole}
use Rattle.text_syntax.specs.Grammar.{linked, chain_form, number_in, term_form, group_form, operand_form, is_sum, is_smaller, operator_form, joined_to, joined, expression_form, expression, local_form, sent_form, remote_form, rule_form, compared_form, tested_form, any_form, line_form}
use Rattle.text_syntax.specs.Parts.{condition_expressions, action_expressions, expressions, every_expression, every_term, terms_pass, target, term_named, field_named, named, term_kinded, is_reference_term, is_reference, is_measure, one_kind, same_kind, condition_kinds, action_kinds, kinds_agree, kinded, term_short, short, term_in_range, numbers_in_range, depth, shallow, operators, few_operators}
use Rattle.text_syntax.specs.Tree.{term_tree, tree_of, test_of, target_of, source_of, rule_of}
use Rattle.text_rules.specs.Check.{line_refusal, plan_fits, sorts_agree, one_sort, has_room, in_place, open_rules, is_open, is_used, is_outside}
use Rattle.program.specs.declared.rule.Operator.TheVariants.{Plus}
use Rattle.program.specs.declared.rule.Sort.TheVariants.{Total}
use Rattle.program.specs.Program.{Expression, reading, constant, operation, always, Target, own, remote, Rule, Step, Program, expression_readings, test_readings, target_readings, rule_readings, readings, step_plan, is_least, is_total, some_target}
use Rattle.text_rules.specs.Text.{text_program, read_from, start, closed_text, line_outcome, advance, close_loop, last_of, setting_in, with_step, piece_form, lines, onto}
use Rattle.program.specs.declared.setting.Setting.TheVariants.{Single, Looped}

-- the program of a text over a register of n records with the fields A and M
unfoldable pub example_program : ℕ → String → Outcome Program
unfolding text_program read_from start closed_text line_outcome advance close_loop last_of setting_in with_step piece_form lines onto after unless line_refusal plan_fits sorts_agree one_sort some_target is_total is_least has_room in_place open_rules is_open is_used is_outside is_digit digits decimal all_digits centimetres whole_digits no_leading_zero two_decimals is_numeral with_decimals numeral printed_numeral signed_form number_value signed_value span opens_with spelled words signs fixed_token number_token first_token operand_behind is_space unless_empty skipped followed tokens_within tokens_at tokens kind fixed_in letter_in write_in operator_in comparison_in same is held one_of past then then_or or whole linked chain_form number_in term_form group_form operand_form is_sum is_smaller operator_form joined_to joined expression_form expression local_form sent_form remote_form rule_form compared_form tested_form any_form line_form condition_expressions action_expressions expressions every_expression every_term terms_pass target term_named field_named named term_kinded is_reference_term is_reference is_measure one_kind same_kind condition_kinds action_kinds kinds_agree kinded term_short short term_in_range numbers_in_range depth shallow operators few_operators term_tree tree_of test_of target_of source_of rule_of in_range starts_with C.is_capital C.letter_field C.is_reference_letter C.names every C.inner_references C.word_of step_plan readings rule_readings target_readings test_readings expression_readings plan add_readings add plan_lines listed line_index same_fact same_word tree tree_within half doubled front rest
example_program n t = text_program (record { sizes = record { records = n; references = 1; measures = 1 } }) (bytes t)

-- a rule without a test, and a step outside loops
abbrev pub untested : Target → Expression → Rule
untested t x = record { test = always; target = t; expression = x }

abbrev pub step_of : List Rule → Step
step_of rs = record { rules = rs; setting = Single }

-- "Text: `step`, `M[u] := M[A[A[u]]]`, `end`."
abbrev pub printed_step : Step
printed_step = step_of (untested (own 8) (reading (0 ∷ 0 ∷ 8 ∷ [])) ∷ [])

pub printed-text : (n : ℕ) → example_program n "step\nM[u] := M[A[A[u]]]\nend\n" ≡ done (printed_step ∷ [])
unfolding example_program
printed-text n = refl

-- a rule that may read nothing behind one that has stored
abbrev pub earlier_step : Step
earlier_step = step_of (untested (own 8) (constant (pos 5)) ∷ untested (own 8) (reading (0 ∷ 8 ∷ [])) ∷ [])

pub earlier-text : (n : ℕ) → example_program n "step\nM[u] := 5\nM[u] := M[A[u]]\nend\n" ≡ done (earlier_step ∷ [])
unfolding example_program
earlier-text n = refl

-- "`A[u] := u`"
abbrev pub own_step : Step
own_step = step_of (untested (own 0) (reading []) ∷ [])

pub own_text : (n : ℕ) → example_program n "step\nA[u] := u\nend\n" ≡ done (own_step ∷ [])
unfolding example_program
own_text n = refl

-- "2147483647 + 1"
abbrev pub above_step : Step
above_step = step_of (untested (own 8) (operation Plus (constant (pos 2147483647)) (constant (pos 1))) ∷ [])

pub above-text : (n : ℕ) → example_program n "step\nM[u] := 2147483647 + 1\nend\n" ≡ done (above_step ∷ [])
unfolding example_program
above-text n = refl

-- "2147483647 + 0"
abbrev pub most_step : Step
most_step = step_of (untested (own 8) (operation Plus (constant (pos 2147483647)) (constant (pos 0))) ∷ [])

pub most-text : (n : ℕ) → example_program n "step\nM[u] := 2147483647 + 0\nend\n" ≡ done (most_step ∷ [])
unfolding example_program
most-text n = refl

-- a loop that stores the same again and again (M-107)
abbrev pub marking_step : Step
marking_step = record { rules = untested (own 8) (constant (pos 5)) ∷ []; setting = Looped 8 true true }

pub marking_text : (n : ℕ) → example_program n "loop M\nstep\nM[u] := 5\nend\ndone\n" ≡ done (marking_step ∷ [])
unfolding example_program
marking_text n = refl

-- "M at 2147483647 with two remote amounts 1 and −1", each record's to itself: the step before it leaves M so
abbrev pub amounts_step : Step
amounts_step = step_of (untested (remote Total 8 []) (constant (pos 1)) ∷ untested (remote Total 8 []) (constant (negsuc 0)) ∷ [])

pub amounts_text : (n : ℕ) → example_program n "step\nM[u] := 2147483647 + 0\nend\nstep\nremote M[u] += 1\nremote M[u] += -1\nend\n"
    ≡ done (most_step ∷ amounts_step ∷ [])
unfolding example_program
amounts_text n = refl

-- "Empty text", and "one step"
pub empty-text : (n : ℕ) → example_program n "" ≡ done []
unfolding example_program
empty-text n = refl

pub one-step-text : (n : ℕ) → example_program n "step\nend\n" ≡ done (step_of [] ∷ [])
unfolding example_program
one-step-text n = refl
