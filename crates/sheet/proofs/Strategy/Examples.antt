-- Response, Strategy and Claim, computed inside the definitions from the bytes of the press line's sheet and of one smaller sheet.
-- Assumes nothing.
use mathlib.Core.Path.{◌≡◌, refl}
use mathlib.Core.Bool.{Bool, true}
use lib.ListN.{replicate}
use Rattle.formula.specs.Tree.{exists, for_all, binds, quantifier_of, without, rows, rows_all, has, has_any, replace, replace_all, assign, count, ◌⧺◌, some_child, some_two, keep}
use Rattle.formula.specs.Tidy.{is_op, is_empty, opposite, equal, same_variable, same_tree, duplicate, spliced, splice, decides, firsts, unwrap, combine, tidy, tidied, verdict}
use Rattle.formula.specs.Tidy.{alone, childless, breaks, faults, faults_all, root_faults, any, is_tidy}
use Rattle.formula.specs.Settle.{is_lit, at_root, may_take, value, settling, may_settle, settled}
use Rattle.formula.specs.Expand.{all_of, after, among, occurring, later, innermost, relevant, one_relevant, all_relevant, copies, at_first, expand_tree, raw_tree, growth}
use Rattle.formula.specs.Expand.{raw_rows, raw, expanded}
use Rattle.formula.specs.Solve.{those, earlier, least, is_some, lowest, cheaper, cheapest, fits_raw, settle_step, expand_step, undecided_step, step_by, step, go_on, run, solve}
use Rattle.formula.specs.Strategy.{owns, before, relevant_subtree, function_by, function_of, after_move, left, strategy, move_by, moves_on, run_moves, solve_moves, solve_strategy}
use Rattle.formula.specs.Strategy.{sets, once, owned_all, set_all, is_covering, reads, in_order}
use Rattle.formula.specs.StrategyMatrix.{pair_trees, strategy_matrix, read_function, read_children, read_pair, and_rest, read_all, pairs_of}
use Rattle.formula.specs.Claim.{negated, broken, all_rows as rows_of, claim}
use Rattle.sheet.specs.Format.{narrow, sheet_length, fits, number, digits, variables, nodes, kind_bytes, argument_bytes, zip_rows, all_rows, prefix_rows, node_rows}
use Rattle.sheet.specs.Format.{children}
use Rattle.sheet.specs.Sheet.{binding, front, behind, grow, trees, root, formula, binding_row, tree_rows, formula_rows, row_kinds, row_arguments, sheet}
use Rattle.sheet.specs.Check.{refused, accepted, answer, size_tests, member, quantifier_tests, node_tests, tree_test, arguments, check_tests}
use Rattle.sheet.specs.Starred.{press, press_strategy, stop_alone, lift_reads_jam, stop_reads_stop, both_read, lift_left_out, equal_sheet, equal_strategy, equal_claim}
use Rattle.sheet.specs.Starred.{unit_first, always_one}
use Rattle.sheet.specs.Operations.{padded, output_after, write, tidy_tests, tidy_and_bound_tests, solved, solving, solve_call}
use Rattle.sheet.specs.Strategy.{response, response_rows, fits_response, response_tests, response_call, strategy_written, strategy_too_long, strategy_formula}
use Rattle.sheet.specs.Strategy.{strategy_answer, strategy_output, strategy_call, claim_refused, claim_written, equal_prefix, fault_row, pair_tests}
use Rattle.sheet.specs.Strategy.{strategy_tests, claim_formula, of_sheet, claim_answer, claim_output, claim_call}

-- what the examples compute with: bytes, trees and tidying, the run, and the three calls
bytes : Bool
unfolding sheet_length fits number digits variables nodes kind_bytes argument_bytes zip_rows all_rows prefix_rows node_rows children binding front behind grow trees root formula
bytes = true

written : Bool
unfolding bytes binding_row tree_rows formula_rows row_kinds row_arguments sheet answer size_tests member quantifier_tests node_tests tree_test arguments check_tests padded
written = true

tidying : Bool
unfolding written binds quantifier_of without rows rows_all has has_any replace replace_all assign count ◌⧺◌ some_child some_two keep is_op is_empty opposite equal same_variable
tidying = true

tidied_so : Bool
unfolding tidying same_tree duplicate spliced splice decides firsts unwrap combine tidy tidied verdict alone childless breaks faults faults_all root_faults any is_tidy
tidied_so = true

steps : Bool
unfolding tidied_so is_lit at_root may_take value settling may_settle settled all_of after among occurring later innermost relevant one_relevant all_relevant copies at_first
steps = true

running : Bool
unfolding steps expand_tree raw_tree growth raw_rows raw expanded those earlier least is_some lowest cheaper cheapest fits_raw settle_step expand_step undecided_step step_by step
running = true

functions : Bool
unfolding running go_on run solve owns relevant_subtree function_by function_of after_move left strategy move_by moves_on run_moves solve_moves solve_strategy pair_trees strategy_matrix
functions = true

responding : Bool
unfolding functions output_after write tidy_and_bound_tests response response_rows fits_response response_tests response_call
responding = true

winning_so : Bool
unfolding functions tidy_tests solved solving solve_call strategy_formula strategy_answer strategy_output strategy_call
winning_so = true

claiming : Bool
unfolding functions before sets once owned_all set_all is_covering reads in_order read_function read_children read_pair and_rest read_all pairs_of negated broken rows_of claim
claiming = true

claimed : Bool
unfolding claiming equal_prefix fault_row pair_tests strategy_tests claim_formula of_sheet claim_answer claim_output claim_call
claimed = true

-- stop's function with the least output, and 13 with a byte less; lift is neither settled nor in the innermost block; 1 may be settled, and
-- its constant is one row
pub response_example :
    (response_call narrow press 4 (replicate 64 255) ≡ record { answer = accepted 34; output = padded 64 stop_alone }) ×
    ((response_call narrow press 4 (replicate 63 255)).answer ≡ refused 13 0) ×
    ((response_call narrow press 2 (replicate 64 255)).answer ≡ refused 11 0) ×
    (response_call narrow unit_first 1 (replicate 10 255) ≡ record { answer = accepted 10; output = always_one })
unfolding responding
response_example = (refl, refl, refl, refl)

-- the press line's strategy, with the least output; a byte less, the verdict and the rows that it needs, and zeros
pub strategy_example :
    ((strategy_call narrow press (replicate 200 1) (replicate 200 2) (replicate 55 255)).answer ≡ strategy_written true 0 3 55) ×
    ((strategy_call narrow press (replicate 200 1) (replicate 200 2) (replicate 55 255)).output ≡ press_strategy) ×
    ((strategy_call narrow press (replicate 200 1) (replicate 200 2) (replicate 54 255)).answer ≡ strategy_too_long true 0 3 13) ×
    ((strategy_call narrow press (replicate 200 1) (replicate 200 2) (replicate 54 255)).output ≡ replicate 54 0)
unfolding winning_so
strategy_example = (refl, refl, refl, refl)

-- 2 plays 1, claimed; 13 with a byte less
pub claim_example :
    (claim_call narrow equal_sheet exists equal_strategy (replicate 54 255) ≡
    record { answer = claim_written 52; output = padded 54 equal_claim }) ×
    (claim_answer narrow equal_sheet exists equal_strategy 51 ≡ claim_refused 0 13 0)
unfolding claimed
claim_example = (refl, refl)

-- 26: of the other side, of another prefix, a row left out; 27 names the last pair that reads what it may not; 13 comes last
pub refused_example :
    (claim_answer narrow equal_sheet for_all equal_strategy 100 ≡ claim_refused 2 26 0) ×
    (claim_answer narrow press exists equal_strategy 100 ≡ claim_refused 2 26 0) ×
    (claim_answer narrow press exists lift_left_out 0 ≡ claim_refused 2 26 0) ×
    (claim_answer narrow press exists lift_reads_jam 0 ≡ claim_refused 2 27 14) ×
    (claim_answer narrow press exists stop_reads_stop 0 ≡ claim_refused 2 27 5) ×
    (claim_answer narrow press exists both_read 0 ≡ claim_refused 2 27 8) ×
    (claim_answer narrow press exists press_strategy 0 ≡ claim_refused 0 13 0)
unfolding claimed
refused_example = (refl, refl, refl, refl, refl, refl, refl)
