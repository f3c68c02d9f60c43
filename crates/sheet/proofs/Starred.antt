-- The starred formulas: each computed inside the definitions from its sheet's bytes, at both formats.
-- Assumes nothing.
use mathlib.Core.Path.{◌≡◌, refl}
use mathlib.Core.List.{map}
use Rattle.formula.specs.Tree.{binds, quantifier_of, without, rows, has, replace, assign, count, ◌⧺◌, some_child, some_two, keep}
use Rattle.formula.specs.Truth.{eval}
use Rattle.formula.specs.Tidy.{is_empty, opposite, equal, same_tree, duplicate, spliced, splice, decides, firsts, unwrap, combine, tidy, tidied, verdict}
use Rattle.formula.specs.Settle.{is_lit, at_root, may_take, value, settling, may_settle, settled}
use Rattle.formula.specs.Expand.{all_of, after, among, occurring, later, innermost, relevant, one_relevant, all_relevant, copies, at_first, expand_tree, raw_tree, growth, raw_rows, raw, expanded}
use Rattle.formula.specs.Solve.{those, earlier, least, is_some, lowest, cheaper, cheapest, fits_raw, settle_step, expand_step, undecided_step, step_by, step, go_on, run, solve}
use Rattle.formula.specs.Trial.{turn, try, trial}
use Rattle.sheet.specs.Format.{sheet_length, fits, number, digits, variables, nodes, kind_bytes, argument_bytes, zip_rows, all_rows, prefix_rows, node_rows, children}
use Rattle.sheet.specs.Sheet.{binding, front, behind, grow, trees, root, formula, binding_row, tree_rows, formula_rows, row_kinds, row_arguments, sheet}
use Rattle.sheet.specs.Check.{answer, size_tests, member, quantifier_tests, node_tests, tree_test, arguments, check_tests}
use Rattle.sheet.specs.Operations.{tidy_tests, solved, solving, solve_call, trial_call, line_of}
use Rattle.sheet.specs.Conversion.{carried}
use Rattle.sheet.specs.Starred.{starred, expected, computed}

pub starred_hold : map computed starred ≡ map expected starred
unfolding starred expected computed rows has replace assign count ◌⧺◌ some_child some_two keep eval is_empty opposite equal same_tree
    duplicate spliced splice decides firsts unwrap combine tidy tidied verdict binds quantifier_of without is_lit at_root may_take value
    settling may_settle settled all_of after among occurring later innermost relevant one_relevant all_relevant copies at_first
    expand_tree raw_tree growth raw_rows raw expanded those earlier least is_some lowest cheaper cheapest fits_raw settle_step expand_step
    undecided_step step_by step go_on run solve turn try trial sheet_length fits number digits variables nodes kind_bytes argument_bytes
    zip_rows all_rows prefix_rows node_rows children binding front behind grow trees root formula binding_row tree_rows formula_rows
    row_kinds row_arguments sheet carried answer size_tests member quantifier_tests node_tests tree_test arguments check_tests tidy_tests
    solved solving solve_call trial_call line_of
starred_hold = refl
