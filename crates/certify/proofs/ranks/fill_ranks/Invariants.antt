-- `certify::ranks::fill_ranks`: the rows from i on have their ranks.
use Rattle.rows.specs.Formulas.{prefix_in}
use Rattle.certify.specs.Inner.Ranking.{quantifier_for}
use Rattle.certify.proofs.Ranking.{Ranking}
use Rattle.certify.proofs.ranks.fill_ranks.Given as goal

abbrev pub invariant-loop-i : goal.invariant-loop-i
invariant-loop-i l = Ranking (quantifier_for l.existential) (prefix_in l.s l.sheet) l.i l.ranks
