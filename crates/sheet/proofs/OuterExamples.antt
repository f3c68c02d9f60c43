-- Expansion one block out, computed inside the definitions from the bytes of two sheets (N6): the answer with the least room, 13 with a byte
-- less, and what the output holds.
-- Assumes nothing.
use mathlib.Core.Path.{◌≡◌, refl}
use lib.ListN.{replicate}
use Rattle.formula.specs.Tree.{binds, quantifier_of, without, rows, has, replace, count, ◌⧺◌, some_child, some_two, keep}
use Rattle.formula.specs.Tidy.{is_op, is_empty, opposite, equal, same_variable, same_tree, duplicate, spliced, splice, decides, firsts}
use Rattle.formula.specs.Tidy.{unwrap, combine, tidy, alone, childless, breaks, faults, root_faults, any, is_tidy}
use Rattle.formula.specs.Expand.{all_of, after, among, occurring, later, relevant, one_relevant, all_relevant, copies as both, at_first, expand_tree, raw_tree, growth, raw_rows}
use Rattle.formula.specs.Solve.{those}
use Rattle.formula.specs.Outer.{universal_then_existential, one_block_out, existentials, block, within, touches, some_row, touched, grown}
use Rattle.formula.specs.Outer.{stage, depends, dependents, unused, copies_of, too_few, renamed, outer_copying, raw_outer, outer_expanded}
use Rattle.formula.specs.Outer.{outer_rows, lowest_of}
use Rattle.sheet.specs.Format.{narrow, sheet_length, fits, number, digits, variables, nodes, kind_bytes, argument_bytes, zip_rows, all_rows, prefix_rows, node_rows, children}
use Rattle.sheet.specs.Sheet.{binding, front, behind, grow, trees, root, formula, binding_row, tree_rows, formula_rows, row_kinds, row_arguments, sheet}
use Rattle.sheet.specs.Check.{refused, accepted, answer, size_tests, member, quantifier_tests, node_tests, tree_test, arguments, check_tests}
use Rattle.sheet.specs.Operations.{padded, output_after, write, tidy_and_bound_tests}
use Rattle.sheet.specs.Outer.{copies, outer_tests, outer_call, outer_answer}
use Rattle.sheet.specs.Starred.{linked, linked_expanded, crossed, crossed_expanded}

pub outer_examples :
    (outer_answer narrow linked 1 97 ≡ accepted (record { new_length = 61; copied = 2; lowest = 2 }))
    × (outer_answer narrow linked 1 96 ≡ refused 13 0)
    × ((outer_call narrow linked 1 (replicate 97 255)).output ≡ padded 97 linked_expanded)
    × (outer_answer narrow crossed 1 97 ≡ accepted (record { new_length = 61; copied = 2; lowest = 3 }))
    × (outer_answer narrow crossed 1 96 ≡ refused 13 0)
    × ((outer_call narrow crossed 1 (replicate 97 255)).output ≡ padded 97 crossed_expanded)
unfolding binds quantifier_of without rows has replace count ◌⧺◌ some_child some_two keep is_op is_empty opposite equal same_variable
    same_tree duplicate spliced splice decides firsts unwrap combine tidy alone childless breaks faults root_faults any is_tidy all_of
    after among occurring later relevant one_relevant all_relevant both at_first expand_tree raw_tree growth raw_rows those
    universal_then_existential one_block_out existentials block within touches some_row touched grown stage depends dependents unused
    copies_of too_few renamed outer_copying raw_outer outer_expanded outer_rows lowest_of sheet_length fits number digits variables nodes
    kind_bytes argument_bytes zip_rows all_rows prefix_rows node_rows children binding front behind grow trees root formula binding_row
    tree_rows formula_rows row_kinds row_arguments sheet answer size_tests member quantifier_tests node_tests tree_test arguments
    check_tests tidy_and_bound_tests copies outer_tests outer_call outer_answer write output_after
outer_examples = (refl, refl, refl, refl, refl, refl)
