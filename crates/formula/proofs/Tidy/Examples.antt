-- Equal siblings (N4): examples that pin the rule, computed in the definitions.
-- Assumes nothing.
use mathlib.Core.Path.{◌≡◌, refl}
use mathlib.Core.Bool.{true}
use Rattle.formula.specs.Tree.{and, or, Tree, lit, node, ∅, ◌▸◌, ◌⧺◌, some_child, some_two, keep}
use Rattle.formula.specs.Tidy.{is_op, is_empty, opposite, equal, same_variable, same_tree, duplicate, spliced, splice, decides, firsts, unwrap, combine, tidy}
use Rattle.formula.specs.Tidy.{alone, childless, breaks, faults, root_faults, any, first_true, is_tidy, first_fault}

abbrev one : Tree
one = lit true 1

abbrev two : Tree
two = lit true 2

abbrev three : Tree
three = lit true 3

abbrev four : Tree
four = lit true 4

abbrev guard : Tree
guard = node or (one ▸ two ▸ ∅)

-- a clause pasted twice: the first stays
pub pasted : tidy (node and (guard ▸ three ▸ guard ▸ ∅)) ≡ node and (guard ▸ three ▸ ∅)
unfolding ◌⧺◌ some_child some_two keep is_empty opposite equal same_tree duplicate spliced splice decides firsts unwrap combine tidy
pasted = refl

-- copies that become equal only when they are tidied, and siblings only when they are spliced
pub equal-once-tidied :
    tidy (node and (guard ▸ three ▸ node or (one ▸ node or (two ▸ one ▸ ∅) ▸ ∅) ▸ node and (four ▸ guard ▸ ∅) ▸ ∅)) ≡ node and (guard ▸ three ▸ four ▸ ∅)
unfolding ◌⧺◌ some_child some_two keep is_empty opposite equal same_tree duplicate spliced splice decides firsts unwrap combine tidy
equal-once-tidied = refl

-- the same children in another order are another tree
pub other_order : is_tidy (node and (guard ▸ node or (two ▸ one ▸ ∅) ▸ ∅)) ≡ true
unfolding some_child some_two is_op same_variable same_tree duplicate alone childless breaks faults root_faults any is_tidy
other_order = refl

-- so is another nesting of the same kinds and variables: (1 or 2) and 3 and 4, (1 or 2 or 3) and 4
pub other_nesting : is_tidy (node or (node and (guard ▸ three ▸ four ▸ ∅) ▸ node and (node or (one ▸ two ▸ three ▸ ∅) ▸ four ▸ ∅) ▸ ∅)) ≡ true
unfolding some_child some_two is_op same_variable same_tree duplicate alone childless breaks faults root_faults any is_tidy
other_nesting = refl

-- a literal is no operator, though its number be the operator's count of children
pub literal_beside : is_tidy (node and (guard ▸ two ▸ ∅)) ≡ true
unfolding some_child some_two is_op same_variable same_tree duplicate alone childless breaks faults root_faults any is_tidy
literal_beside = refl

-- a copy dropped may leave a child alone, which is lifted and spliced in the grandparent
pub lifted :
    tidy (node and (one ▸ node or (node and (two ▸ three ▸ ∅) ▸ node and (two ▸ three ▸ ∅) ▸ ∅) ▸ four ▸ ∅)) ≡ node and (one ▸ two ▸ three ▸ four ▸ ∅)
unfolding ◌⧺◌ some_child some_two keep is_empty opposite equal same_tree duplicate spliced splice decides firsts unwrap combine tidy
lifted = refl

-- 9 names the row of the parent: row 0 is AND, row 1 its literal, row 2 the operator with equal children
pub parent_named : first_fault (node and (one ▸ node or (node and (two ▸ three ▸ ∅) ▸ node and (two ▸ three ▸ ∅) ▸ ∅) ▸ four ▸ ∅)) ≡ 2
unfolding some_child some_two is_op same_variable same_tree duplicate alone childless breaks faults root_faults any first_true first_fault
parent_named = refl
