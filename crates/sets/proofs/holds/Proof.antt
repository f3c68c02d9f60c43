-- `sets::holds` meets its contract. Assumes nothing.
use mathlib.Core.Path.{refl}
use borrow.Author.Rules.{rules}
use Rattle.sets.specs.Sets.{digit, holds}
use Rattle.sets.proofs.holds.Statement.{statement}
use Rattle.sets.proofs.holds.Tie as tie

offset_bounds-set-v : tie.Need-offset_bounds-set-v
offset_bounds-set-v c = search rules

bounds-set-v : tie.Need-bounds-set-v
bounds-set-v c = search rules

overflow_shr-result : tie.Need-overflow_shr-result
overflow_shr-result c = search rules

returns : tie.Need-returns
unfolding holds digit
returns c = refl

pub holds_spec : {M : Type 1} → statement M
holds_spec = tie.close (tie.spec
    offset_bounds-set-v
    bounds-set-v
    overflow_shr-result
    returns)
