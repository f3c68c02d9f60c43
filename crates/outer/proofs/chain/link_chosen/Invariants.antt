-- `outer::chain::link_chosen`: the rows from row i on are linked.
use Rattle.substitution.specs.Changes.{chosen}
use Rattle.outer.specs.Inner.Chain.{Linking}
use Rattle.outer.proofs.chain.link_chosen.Given as goal

abbrev pub invariant-loop-i : goal.invariant-loop-i
invariant-loop-i l = Linking (chosen l.table) l.s l.b l.i l.next l.r
