-- Rules texts with their answers, by evaluating the definitions over a register of the printed run's sizes.
use Prim.Native.Nat.{ℕ, zero, suc, ◌+◌, ◌/◌, ◌%◌}
use Prim.Native.String.{String}
use mathlib.Core.Path.{◌≡◌, refl}
use mathlib.Core.Bool.{Bool, true, false}
use mathlib.Core.List.{List, [], ◌∷◌, ◌++◌, map}
use lib.ListN.{replicate}
use Rattle.laws.specs.Lists.{every}
use Rattle.laws.specs.Outcome.{Outcome, refused, unless, after}
use Rattle.laws.specs.Outcome as O
use Rattle.register.specs.declared.Sizes.{Sizes}
use Rattle.integers.specs.Range.{in_range}
use Rattle.chain_text.specs.Text as C
use Rattle.chain_text.specs.Scan.{starts_with}
use Rattle.plan_theory.specs.Plan.{back, read, result, round, rounds, plan, add_readings, add, with_tree as plan_lines, listed, line_index, same_fact, same_word, tree, tree_within, half, doubled, front, rest}
use Rattle.text_numerals.specs.Numeral.{is_digit, digits, decimal, whole, metres, all_digits, centimetres, whole_digits, no_leading_zero, two_decimals, is_numeral, with_decimals, numeral, printed_numeral, signed_form, number_value, signed_value}
use Rattle.text_numerals.specs.Span.{span}
use Rattle.text_numerals.specs.Word.{opens_with}
use Rattle.text_syntax.specs.Written as W
use Rattle.text_syntax.specs.Lexing.{spelled, words, signs, fixed_token, number_token, first_token, operand_behind, is_space, unless_empty, skipped, followed, tokens_within, tokens_at, tokens}
use Rattle.text_syntax.specs.Kind.{kind, fixed_in, letter_in, write_in, operator_in, comparison_in, same, is}
use Rattle.text_syntax.specs.Form as F
use Rattle.text_syntax.specs.Grammar.{linked, chain_form, number_in, term_form, group_form, operand_form, is_sum, is_smaller, operator_form, joined_to, joined, expression_form, expression, local_form, sent_form, remote_form, rule_form, compared_form, tested_form, any_form, line_form}
use Rattle.text_syntax.specs.Parts.{condition_expressions, action_expressions, expressions, every_expression, every_term, terms_pass, target, term_named, field_named, named, term_kinded, is_reference_term, is_reference, is_measure, one_kind, same_kind, condition_kinds, action_kinds, kinds_agree, kinded, term_short, short, term_in_range, numbers_in_range, depth, shallow, operators, few_operators}
use Rattle.text_syntax.specs.Tree.{term_tree, tree_of, test_of, target_of, source_of, rule_of}
use Rattle.laws.specs.Bytes.{bytes}
use Rattle.text_rules.specs.Check.{line_refusal, plan_fits, sorts_agree, one_sort, has_room, in_place, open_rules, is_open, is_used, is_outside}
use Rattle.program.specs.Program.{some_target, is_total, is_least, Rule, Program, has_remote, is_remote, step_plan, readings, rule_readings, target_readings, test_readings, expression_readings}
use Rattle.program.specs.Program as P
use Rattle.program.specs.declared.setting.Setting.TheVariants.{Single, Looped}
use Rattle.text_rules.specs.Text.{plan_result, rules_at, text_program, read_from, start, closed_text, line_outcome, advance, close_loop, last_of, with_step, setting_in, piece_form, lines, onto}

-- "n 3, r 1, m 1": the fields A, which is 0, and M, which is 8
abbrev pub sizes : Sizes
sizes = record { records = 3; references = 1; measures = 1 }

-- the program or refusal of some bytes over a register of some sizes, and of a text over that register
unfoldable pub answer_over : Sizes → List ℕ → Outcome Program
unfolding text_program read_from start closed_text line_outcome advance close_loop last_of with_step setting_in rule_of test_of target_of source_of tree_of term_tree piece_form lines onto after unless line_refusal plan_fits sorts_agree one_sort some_target is_total is_least has_room few_operators operators shallow depth numbers_in_range term_in_range short term_short kinded kinds_agree action_kinds condition_kinds same_kind one_kind is_measure is_reference is_reference_term term_kinded named field_named term_named target terms_pass every_term every_expression expressions action_expressions condition_expressions in_place open_rules is_open is_used is_outside line_form any_form tested_form compared_form rule_form remote_form sent_form local_form expression expression_form joined joined_to operator_form is_smaller is_sum operand_form group_form term_form number_in chain_form linked F.held F.one_of F.past F.then F.then_or F.or F.whole is same comparison_in operator_in write_in letter_in fixed_in kind tokens tokens_at tokens_within followed first_token fixed_token words signs spelled opens_with span number_token operand_behind skipped unless_empty is_space is_digit digits decimal all_digits centimetres whole_digits no_leading_zero two_decimals is_numeral with_decimals numeral printed_numeral signed_form number_value signed_value in_range starts_with C.is_capital C.letter_field C.is_reference_letter C.names every C.inner_references C.word_of step_plan readings rule_readings target_readings test_readings expression_readings plan add_readings add plan_lines listed line_index same_fact same_word tree tree_within half doubled front rest
answer_over s t = text_program (record { sizes = s }) t

unfoldable pub answer : String → Outcome Program
unfolding answer_over
answer t = answer_over sizes (bytes t)

-- whether there is a program
unfoldable pub passes : Outcome Program → Bool
passes (O.done p) = true
passes (refused k line) = false

-- a text n times over
unfoldable pub times : ℕ → List ℕ → List ℕ
times zero t = []
times (suc n) t = t ++ times n t

-- the printed text passes: one step of one rule, whose reading has the hops A, A, M
abbrev pub printed_rule : Rule
printed_rule = record { test = P.always; target = P.own 8; expression = P.reading (0 ∷ 0 ∷ 8 ∷ []) }

abbrev pub printed_program : Program
printed_program = record { rules = printed_rule ∷ []; setting = Single } ∷ []

pub printed-passes : answer "step\nM[u] := M[A[A[u]]]\nend\n" ≡ O.done printed_program
unfolding answer
printed-passes = refl

-- its plan, three lines and no remote exchange; "Steps count from 1", others are 17
pub printed-planned : plan_result (printed_rule ∷ [])
    ≡ record { plan_lines = (back (0 ∷ []), 1) ∷ (back (0 ∷ 0 ∷ []), 2) ∷ (read (0 ∷ 0 ∷ 8 ∷ []), 3) ∷ []; remote = false }
unfolding plan_result result round rounds has_remote some_target is_remote readings rule_readings target_readings test_readings expression_readings plan add_readings add plan_lines listed line_index same_fact same_word tree tree_within half doubled front rest
printed-planned = refl

pub step-first : rules_at printed_program 1 ≡ O.done (printed_rule ∷ [])
unfolding rules_at
step-first = refl

pub step_zero : rules_at printed_program 0 ≡ refused 17 0
unfolding rules_at
step_zero = refl

pub step_past : rules_at printed_program 2 ≡ refused 17 0
unfolding rules_at
step_past = refl

-- "The empty text passes."
pub empty-passes : answer "" ≡ O.done []
unfolding answer
empty-passes = refl

-- "spaces between tokens are free, none stand at a line's ends"; "no leading zero, no `-0`"; "a last line without byte 10": 7
pub spaces_free : map answer ("step\nM[u]:=1\nend\n" ∷ "step\nM [ u ]  :=  1\nend\n" ∷ []) ≡ replicate 2 (answer "step\nM[u] := 1\nend\n")
unfolding answer
spaces_free = refl

pub space_first : answer "step\n M[u] := 1\nend\n" ≡ refused 7 2
unfolding answer
space_first = refl

pub space_last : answer "step\nM[u] := 1 \nend\n" ≡ refused 7 2
unfolding answer
space_last = refl

pub leading_zero : answer "step\nM[u] := 01\nend\n" ≡ refused 7 2
unfolding answer
leading_zero = refl

pub minus_zero : answer "step\nM[u] := -0\nend\n" ≡ refused 7 2
unfolding answer
minus_zero = refl

pub line_cut : answer "step\nend" ≡ refused 7 2
unfolding answer
line_cut = refl

-- `0` and `-1` pass
pub zero_passes : passes (answer "step\nM[u] := 0\nend\n") ≡ true
unfolding answer passes
zero_passes = refl

pub minus-passes : passes (answer "step\nM[u] := -1\nend\n") ≡ true
unfolding answer passes
minus-passes = refl

-- "out of place, an empty loop (at its `done`), or unclosed (one past the last line)": 8, before 9
pub rule_outside : answer "Z[u] := 1\n" ≡ refused 8 1
unfolding answer
rule_outside = refl

pub loop_inside : answer "loop A\nstep\nend\nloop A\n" ≡ refused 8 4
unfolding answer
loop_inside = refl

pub loop_empty : answer "loop A\ndone\n" ≡ refused 8 2
unfolding answer
loop_empty = refl

pub loop_unclosed : answer "loop A\nstep\nend\n" ≡ refused 8 4
unfolding answer
loop_unclosed = refl

pub step_unclosed : answer "step\n" ≡ refused 8 2
unfolding answer
step_unclosed = refl

-- a loop on A of two steps: the first and the last of it
pub loop_passes : answer "loop A\nstep\nend\nstep\nend\ndone\n"
    ≡ O.done (record { rules = []; setting = Looped 0 true false } ∷ record { rules = []; setting = Looped 0 false true } ∷ [])
unfolding answer
loop_passes = refl

-- "a capital letter that names no field of this register": 9, before 10
pub letter-left : answer "step\nB[u] := 1\nend\n" ≡ refused 9 2
unfolding answer
letter-left = refl

pub letter_loop : answer "loop N\n" ≡ refused 9 1
unfolding answer
letter_loop = refl

-- kinds: the sides of a rule and of a test, a measure inside a chain, C, and sums: 10
pub sides_differ : answer "step\nA[u] := 1\nend\n" ≡ refused 10 2
unfolding answer
sides_differ = refl

pub test_differs : answer "step\nif A[u] != 1: M[u] := 1\nend\n" ≡ refused 10 2
unfolding answer
test_differs = refl

pub measure_inside : answer "step\nM[u] := M[M[u]]\nend\n" ≡ refused 10 2
unfolding answer
measure_inside = refl

pub measure_target : answer "step\nremote M[M[u]] += 1\nend\n" ≡ refused 10 2
unfolding answer
measure_target = refl

pub sum_references : answer "step\nA[u] := A[u] + A[u]\nend\n" ≡ refused 10 2
unfolding answer
sum_references = refl

-- both sides may be references, `u` too, in a remote rule and in a test
pub references_pass : passes (answer "step\nif A[u] == u: remote A[A[u]] <?= A[A[u]]\nend\n") ≡ true
unfolding answer passes
references_pass = refl

-- "16 hops pass, 17 are 11": M and k times A
unfoldable pub hops : ℕ → List ℕ
unfolding C.printed
hops k = bytes "step\nM[u] := " ++ (C.printed (77 ∷ replicate k 65) ++ bytes "\nend\n")

pub hops_16 : passes (answer_over sizes (hops 15)) ≡ true
unfolding answer_over hops passes
hops_16 = refl

pub hops_17 : answer_over sizes (hops 16) ≡ refused 11 2
unfolding answer_over hops
hops_17 = refl

-- 2147483647 and -2147483648 pass ..
pub number-most : passes (answer "step\nM[u] := 2147483647\nend\n") ≡ true
unfolding answer passes
number-most = refl

pub number_least : passes (answer "step\nM[u] := -2147483648\nend\n") ≡ true
unfolding answer passes
number_least = refl

-- .. and the next on either side is 12
pub number-above : answer "step\nM[u] := 2147483648\nend\n" ≡ refused 12 2
unfolding answer
number-above = refl

pub number-below : answer "step\nM[u] := -2147483649\nend\n" ≡ refused 12 2
unfolding answer
number-below = refl

-- k groups around a number, of which 9 are 24; k sums, of which 65 are 25
unfoldable pub groups : ℕ → List ℕ
groups k = bytes "step\nM[u] := " ++ (replicate k 40 ++ (bytes "1" ++ (replicate k 41 ++ bytes "\nend\n")))

pub groups_8 : passes (answer_over sizes (groups 8)) ≡ true
unfolding answer_over groups passes
groups_8 = refl

pub groups_9 : answer_over sizes (groups 9) ≡ refused 24 2
unfolding answer_over groups
groups_9 = refl

unfoldable pub sums : ℕ → List ℕ
unfolding times
sums k = bytes "step\nM[u] := 1" ++ (times k (bytes "+1") ++ bytes "\nend\n")

pub sums_64 : passes (answer_over sizes (sums 64)) ≡ true
unfolding answer_over sums passes
sums_64 = refl

pub sums_65 : answer_over sizes (sums 65) ≡ refused 25 2
unfolding answer_over sums
sums_65 = refl

-- "`<?` binds tighter", "equal ranks go from left to right"
pub ranks_groups : answer "step\nM[u] := 1 - 2 - M[u] <? 3\nend\n" ≡ answer "step\nM[u] := (1 - 2) - (M[u] <? 3)\nend\n"
unfolding answer
ranks_groups = refl

-- depths in metres (document 02, M-104): what a rule that stores a number is answered
abbrev stores : String → Outcome Program
stores x = answer_over sizes (bytes "step\nM[u] := " ++ (bytes x ++ bytes "\nend\n"))

-- a number in metres is the constant that its digits without the point are in centimetres
pub metres_constant : (negative : Bool) (ds cs : List ℕ) → term_tree (W.number negative (metres ds cs)) ≡ term_tree (W.number negative (whole (ds ++ cs)))
unfolding term_tree number_value centimetres all_digits
metres_constant negative ds cs = refl

pub metres_read : map stores ("1.80" ∷ "1.00" ∷ "-0.05" ∷ "0.00" ∷ []) ≡ map stores ("180" ∷ "100" ∷ "-5" ∷ "0" ∷ [])
unfolding answer_over
metres_read = refl

-- "exactly two digits", no leading zero before the point, "`-0.00` is refused as `-0` is": 7
pub metres_unformed : map stores ("-0.00" ∷ "00.50" ∷ "01.80" ∷ ".80" ∷ "1." ∷ "1.8" ∷ "1.800" ∷ "1.80.20" ∷ "1,80" ∷ "1.8 0" ∷ "+1.80" ∷ [])
    ≡ replicate 11 (refused 7 2)
unfolding answer_over
metres_unformed = refl

-- "the range in 12 is that of the centimetres"
pub metres_pass : map (λ x. passes (stores x)) ("21474836.47" ∷ "-21474836.48" ∷ "0.05" ∷ []) ≡ replicate 3 true
unfolding answer_over passes
metres_pass = refl

pub metres_out : map stores ("21474836.48" ∷ "-21474836.49" ∷ []) ≡ replicate 2 (refused 12 2)
unfolding answer_over
metres_out = refl

-- "Step 33 is 13", and so is rule 33
pub step_32 : passes (answer_over sizes (times 32 (bytes "step\nend\n"))) ≡ true
unfolding answer_over times passes
step_32 = refl

pub step_33 : answer_over sizes (times 33 (bytes "step\nend\n")) ≡ refused 13 65
unfolding answer_over times
step_33 = refl

pub rule_32 : passes (answer_over sizes (bytes "step\n" ++ (times 32 (bytes "M[u] := 1\n") ++ bytes "end\n"))) ≡ true
unfolding answer_over times passes
rule_32 = refl

pub rule_33 : answer_over sizes (bytes "step\n" ++ (times 33 (bytes "M[u] := 1\n") ++ bytes "end\n")) ≡ refused 13 34
unfolding answer_over times
rule_33 = refl

-- "Within a step one field takes one sort of remote write": 14
pub two_sorts : answer "step\nremote M[u] <?= 1\nremote M[u] += 1\nend\n" ≡ refused 14 3
unfolding answer
two_sorts = refl

-- but another step may take the other
pub sorts_apart : passes (answer "step\nremote M[u] <?= 1\nend\nstep\nremote M[u] += 1\nend\n") ≡ true
unfolding answer passes
sorts_apart = refl

-- n rules `M[u] := M[G[F[u]]]` with F one of four letters: each pair has a Back and a Read line, each F one more Back line
unfoldable pub pairs : ℕ → List ℕ
unfolding C.printed
pairs zero = bytes "end\n"
pairs (suc n) = bytes "M[u] := " ++ (C.printed (77 ∷ (65 + n / 4) ∷ (65 + n % 4) ∷ []) ++ (bytes "\n" ++ pairs n))

abbrev pub eight_references : Sizes
eight_references = record { records = 3; references = 8; measures = 1 }

-- 64 plan lines pass, more are 15, "at the `end`"
pub plan_64 : passes (answer_over eight_references (bytes "step\n" ++ pairs 30)) ≡ true
unfolding answer_over pairs passes
plan_64 = refl

pub plan_66 : answer_over eight_references (bytes "step\n" ++ pairs 31) ≡ refused 15 33
unfolding answer_over pairs
plan_66 = refl
