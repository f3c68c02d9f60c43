-- `duplicates::put` meets its contract: the row and its hash are a member.
use Rattle.std.proofs.Common.{◌∙◌, arith}
use native.Mathlib.Nat.{le_refl}
use Rattle.subtrees.specs.Subtrees.{subtree_in}
use Rattle.duplicates.proofs.Gathering.{gather_more, member_tree, is_member}
use Rattle.duplicates.proofs.put.Goals as goal

pub returns : goal.returns
returns c ts g =
    let a = c.args in
    let is = c.from.ensures ∙ c.requires.2.filled a.at (le_refl _) c.requires.1 in
    gather_more g (subtree_in a.s a.b.now a.at) c.requires.3 (is_member a.s a.b.now a.at c.requires.1 is c.member_of.ensures.0)
    (member_tree a.s a.b.now a.at c.requires.1 is c.member_of.ensures.0) (omega arith)
