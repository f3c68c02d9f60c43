-- The measure of both sides' turns: with each row read the rows left fall; a turn that hands its row over has one call more before it than
-- the side that owns the row.
use Rattle.formula.specs.Tree.{exists, for_all}
use Rattle.trial.proofs.Turns.{calls}
use Rattle.trial.proofs.+existential_universal.Given as goal

abbrev pub decreases-existential : goal.decreases-existential
decreases-existential l = calls exists l.s l.sheet.now l.i

abbrev pub decreases-universal : goal.decreases-universal
decreases-universal l = calls for_all l.s l.sheet.now l.i
