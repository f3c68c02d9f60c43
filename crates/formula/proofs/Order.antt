-- The laws would hold for other orders too: examples that pin the requested one, computed in the definitions.
-- Assumes nothing.
use mathlib.Core.Path.{◌≡◌, refl}
use mathlib.Core.Bool.{true, false}
use mathlib.Core.List.{[], ◌∷◌}
use Rattle.formula.specs.Tree.{and, or, exists, for_all, Tree, lit, node, ∅, ◌▸◌, Binding, count}
use Rattle.formula.specs.Order.{before, same, after, compare_numbers, compare_trees, leads, insert, sort, compare_bindings, compare_bound, compare_prefixes, compare_formulas}

abbrev one : Tree
one = lit true 1

abbrev not_one : Tree
not_one = lit false 1

abbrev two : Tree
two = lit true 2

-- literals before AND before OR, however many children; by variable, positive first; by number of children, then child after child
pub trees_example :
    compare_trees (lit false 9) (node and ∅) ∷
    compare_trees (node and (one ▸ two ▸ ∅)) (node or ∅) ∷
    compare_trees not_one two ∷
    compare_trees one not_one ∷
    compare_trees (node or (two ▸ ∅)) (node or (one ▸ one ▸ ∅)) ∷
    compare_trees (node or (one ▸ two ▸ ∅)) (node or (not_one ▸ one ▸ ∅)) ∷
    compare_trees (node and (one ▸ not_one ▸ ∅)) (node and (one ▸ two ▸ ∅)) ∷
    [] ≡ before ∷ before ∷ before ∷ before ∷ before ∷ before ∷ before ∷ []
unfolding count compare_numbers compare_trees
trees_example = refl

-- all children, leaves up
pub sorted_example :
    sort (node or (node or (one ▸ ∅) ▸ node and (two ▸ not_one ▸ one ▸ ∅) ▸ node and (two ▸ one ▸ ∅) ▸ not_one ▸ ∅)) ≡
    node or (not_one ▸ node and (one ▸ two ▸ ∅) ▸ node and (one ▸ not_one ▸ two ▸ ∅) ▸ node or (one ▸ ∅) ▸ ∅)
unfolding count compare_numbers compare_trees leads insert sort
sorted_example = refl

abbrev some_one : Binding
some_one = record { quantifier = exists; variable = 1 }

abbrev some_two : Binding
some_two = record { quantifier = exists; variable = 2 }

abbrev all_one : Binding
all_one = record { quantifier = for_all; variable = 1 }

-- fewer rows first, then row by row, kind before argument
pub prefixes_example :
    compare_prefixes (all_one ∷ []) (some_one ∷ some_two ∷ []) ∷
    compare_prefixes (some_two ∷ []) (all_one ∷ []) ∷
    compare_prefixes (some_one ∷ []) (some_two ∷ []) ∷
    compare_prefixes (some_one ∷ all_one ∷ []) (some_two ∷ some_one ∷ []) ∷
    [] ≡ before ∷ before ∷ before ∷ before ∷ []
unfolding compare_numbers compare_bindings compare_bound compare_prefixes
prefixes_example = refl

-- prefixes before trees, and trees once they are sorted
pub formulas_example :
    compare_formulas (record { prefix = some_one ∷ []; matrix = node or ∅ }) (record { prefix = all_one ∷ []; matrix = one }) ∷
    compare_formulas (record { prefix = []; matrix = node or (two ▸ one ▸ ∅) }) (record { prefix = []; matrix = node or (one ▸ two ▸ ∅) }) ∷
    compare_formulas (record { prefix = []; matrix = node or (two ▸ one ▸ ∅) }) (record { prefix = []; matrix = node or (not_one ▸ two ▸ ∅) }) ∷
    compare_formulas (record { prefix = []; matrix = two }) (record { prefix = []; matrix = one }) ∷
    [] ≡ before ∷ same ∷ before ∷ after ∷ []
unfolding count compare_numbers compare_trees leads insert sort compare_bindings compare_bound compare_prefixes compare_formulas
formulas_example = refl
