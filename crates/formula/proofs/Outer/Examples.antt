-- The example, computed inside the definitions: 11 passes, both variables are copied, the lowest is 2, and the raw formula is the one written out.
-- Assumes nothing.
use mathlib.Core.Path.{◌≡◌, refl}
use mathlib.Core.Bool.{true, false}
use mathlib.Core.List.{[], ◌∷◌}
use Rattle.formula.specs.Tree.{binds, quantifier_of, without, rows, rows_all, has, has_any, replace_all, count, some_child, keep}
use Rattle.formula.specs.Expand.{all_of, after, among, occurring, later, relevant, one_relevant, all_relevant, copies, at_first, expand_tree, raw_tree, growth, raw_rows}
use Rattle.formula.specs.Solve.{those}
use Rattle.formula.specs.Outer.{universal_then_existential, one_block_out, existentials, block, within, touches, some_row, touched}
use Rattle.formula.specs.Outer.{grown, stage, depends, dependents, unused, copies_of, too_few, renamed, outer_copying, raw_outer}
use Rattle.formula.specs.Outer.{outer_rows, lowest_of}
use Rattle.formula.proofs.Outer.Linked.{linked, linked_expanded}

pub linked-allowed : one_block_out 1 linked ≡ true
unfolding linked one_block_out universal_then_existential all_of after among occurring later binds quantifier_of has has_any
linked-allowed = refl

-- what `depends` computes with
depending : Unit {0}
unfolding depends stage touched grown touches some_row within block existentials later occurring among after binds has has_any relevant
    one_relevant keep count
depending = tt

pub linked-dependents : dependents 1 linked ≡ 3 ∷ 2 ∷ []
unfolding depending linked dependents those
linked-dependents = refl

pub linked-lowest : lowest_of (dependents 1 linked) ≡ 2
unfolding depending lowest_of linked dependents those
linked-lowest = refl

-- numbers up to 5 are enough, up to 4 are not
pub linked-numbers : (too_few 5 1 linked ≡ false) × (too_few 4 1 linked ≡ true)
unfolding depending too_few unused linked dependents those
linked-numbers = (refl, refl)

pub linked-raw : raw_outer 256 1 linked ≡ linked_expanded
unfolding depending linked_expanded raw_outer outer_copying raw_tree expand_tree copies at_first all_relevant replace_all some_child
    renamed copies_of unused without linked dependents those
linked-raw = refl

pub linked-rows : outer_rows 1 linked ≡ 27
unfolding depending outer_rows raw_rows growth rows rows_all all_relevant some_child linked
linked-rows = refl
