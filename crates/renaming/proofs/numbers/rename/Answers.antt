-- `renaming::numbers::rename` meets its contract.
use Rattle.std.proofs.Common.{◌≡◌, true, sym, ◌∙◌, arith}
use Rattle.sets.specs.Sets.{holds}
use Rattle.renaming.proofs.Renumbering.{found_within, renamed-member}
use Rattle.renaming.proofs.numbers.rename.Goals as goal

pub returns : goal.returns
returns c =
    let a = c.args in
    let member : holds a.set.now a.v ≡ true = sym c.holds.ensures ∙ c.if-not-holds.false in
    let n = c.next_unused-n.ensures in
    renamed-member a.set.now a.used.now a.highest a.from a.v a.table.now member n
    (found_within a.used.now a.highest n (c.requires.nonzero member)) (omega arith)
