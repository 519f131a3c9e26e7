-- What does not follow: "whole texts, because a test may start to hold when a cell is filled". One record with the depths M and N,
-- M being 5; N is unfilled in the first register, and 7 in the second.
use Rattle.std.specs.Prelude.{ℕ, ◌≡◌, List, [], ◌∷◌, pos}
use Rattle.laws.specs.Bytes.{bytes}
use Rattle.laws.specs.Lists.{every}
use Rattle.laws.specs.Outcome.{Outcome, done, unless, after, or_else, first as first_of}
use Rattle.integers.specs.Bytes.{four_bytes, word_at, word_bytes, value_at, value_bytes}
use Rattle.integers.specs.Range.{in_range, eq_z}
use Rattle.register.specs.Cells.{value_of, mark_of, values_of, marks_of}
use Rattle.register.specs.File.{width, cell_count, cell_index, sizes_of, values_part, marks_part, file_of}
use Rattle.register.specs.Load.{within_limits, cell_refusal, refusal_at, record_refusal, cells_refusal, load_sized, load}
use Rattle.register.specs.declared.Sizes.{Sizes}
use Rattle.register.specs.declared.cells.Cell.{Cell}
use Rattle.register.specs.declared.cells.Cell.TheVariants.{Missing, Measured, WorkedOut}
use Rattle.chain.specs.Word.{is_reference, column, read_of, read_cell, hop, follow, value_at_record}
use Rattle.chain_text.specs.Text as C
use Rattle.chain_text.specs.Scan.{starts_with}
use Rattle.plan_theory.specs.Plan.{plan, add_readings, add, with_tree, tree, tree_within}
use Rattle.program.specs.Program.{target_field, expression_readings, test_readings, target_readings, rule_readings, readings, step_plan, is_least, is_total, some_target}
use Rattle.text_numerals.specs.Numeral.{is_digit, digits, decimal, all_digits, centimetres, whole_digits, no_leading_zero, two_decimals, is_numeral, with_decimals, numeral, printed_numeral, signed_form, number_value, signed_value}
use Rattle.text_numerals.specs.Span.{span}
use Rattle.text_numerals.specs.Word.{opens_with}
use Rattle.text_syntax.specs.Lexing.{spelled, words, signs, fixed_token, number_token, first_token, operand_behind, is_space, unless_empty, skipped, followed, tokens_within, tokens_at, tokens}
use Rattle.text_syntax.specs.Kind.{kind, fixed_in, letter_in, write_in, operator_in, comparison_in, same, is}
use Rattle.text_syntax.specs.Form.{held, one_of, past, then, then_or, or, whole}
use Rattle.text_syntax.specs.Grammar.{linked, chain_form, number_in, term_form, group_form, operand_form, is_sum, is_smaller, operator_form, joined_to, joined, expression_form, expression, local_form, sent_form, remote_form, rule_form, compared_form, tested_form, any_form, line_form}
use Rattle.text_syntax.specs.Parts.{condition_expressions, action_expressions, expressions, every_expression, every_term, terms_pass, target, term_named, field_named, named, term_kinded, is_reference_term, is_reference as is_reference_expression, is_measure, one_kind, same_kind, condition_kinds, action_kinds, kinds_agree, kinded, term_short, short, term_in_range, numbers_in_range, depth, shallow, operators, few_operators}
use Rattle.text_syntax.specs.Tree.{term_tree, tree_of, test_of, target_of, source_of, rule_of}
use Rattle.text_rules.specs.Check.{line_refusal, plan_fits, sorts_agree, one_sort, has_room, in_place, open_rules, is_open, is_outside}
use Rattle.text_rules.specs.Text.{text_program, read_from, start, closed_text, line_outcome, advance, setting_in, with_step, piece_form, lines, onto, check}
use Rattle.machine.specs.Value.{both, value, reading_in_range, cell_in_range, overflows, compare, compare_readings, holds}
use Rattle.machine.specs.Local.{stored_over, assign, local_rule, local_rules, local_records, test_overflows, offends, sum_column}
use Rattle.machine.specs.Remote.{sent_by, rule_messages, messages, record_messages, deliver_all}
use Rattle.machine.specs.Step.{step_cells, earlier, first_some, in_record, sum_offence, total_column, total_offence, offence}
use Rattle.machine.specs.Run.{direct, entered, following, behind, unless_offended, step_first, run_from, run}
use Rattle.fuller.specs.Fuller.{FullerFile}

abbrev pub pair_sizes : Sizes
pair_sizes = record { records = 1; references = 0; measures = 2 }

abbrev pub first_cells : List Cell
first_cells = Measured (pos 5) ∷ Missing ∷ []

abbrev pub second_cells : List Cell
second_cells = Measured (pos 5) ∷ Measured (pos 7) ∷ []

-- the text that alters M where N is filled
abbrev pub altering_text : List ℕ
altering_text = bytes "step\nif N[u] == N[u]: M[u] := 1\nend\n"

-- the cells behind its run over the register of these cells, "allowance 1,000"
unfoldable pub cells_behind : List Cell → Outcome (List Cell)
unfolding text_program read_from start closed_text line_outcome advance setting_in with_step piece_form lines onto check after unless line_refusal plan_fits sorts_agree one_sort some_target is_total is_least has_room in_place open_rules is_open is_outside is_digit digits decimal all_digits centimetres whole_digits no_leading_zero two_decimals is_numeral with_decimals numeral printed_numeral signed_form number_value signed_value span opens_with spelled words signs fixed_token number_token first_token operand_behind is_space unless_empty skipped followed tokens_within tokens_at tokens kind fixed_in letter_in write_in operator_in comparison_in same is held one_of past then then_or or whole linked chain_form number_in term_form group_form operand_form is_sum is_smaller operator_form joined_to joined expression_form expression local_form sent_form remote_form rule_form compared_form tested_form any_form line_form condition_expressions action_expressions expressions every_expression every_term terms_pass target term_named field_named named term_kinded is_reference_term is_reference_expression is_measure one_kind same_kind condition_kinds action_kinds kinds_agree kinded term_short short term_in_range numbers_in_range depth shallow operators few_operators term_tree tree_of test_of target_of source_of rule_of in_range starts_with C.is_capital C.letter_field C.is_reference_letter C.names every C.inner_references C.word_of step_plan readings rule_readings target_readings test_readings expression_readings plan add_readings add with_tree tree tree_within four_bytes word_at word_bytes value_at value_bytes eq_z or_else first_of value_of mark_of values_of marks_of width cell_count cell_index sizes_of values_part marks_part file_of within_limits cell_refusal refusal_at record_refusal cells_refusal load_sized load is_reference column read_of read_cell hop follow value_at_record both value reading_in_range cell_in_range overflows compare compare_readings holds target_field stored_over assign local_rule local_rules local_records test_overflows offends sum_column sent_by rule_messages messages record_messages deliver_all step_cells earlier first_some in_record sum_offence total_column total_offence offence direct entered following behind unless_offended step_first run_from run
cells_behind cells =
    after (check (file_of pair_sizes cells) altering_text) (λ p. done (run pair_sizes (direct pair_sizes) p 1000 cells).cells)

-- the second register is the fuller one; M stays 5 over the first, and is 1 over the second
pub record WholeTextAlters : Type 0 where
  pub pair_fuller : FullerFile pair_sizes (file_of pair_sizes first_cells) (file_of pair_sizes second_cells)
  pub first-stays : cells_behind first_cells ≡ done first_cells
  pub second_altered : cells_behind second_cells ≡ done (WorkedOut (pos 1) ∷ Measured (pos 7) ∷ [])
