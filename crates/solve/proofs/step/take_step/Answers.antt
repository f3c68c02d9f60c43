-- `solve::step::take_step` meets its contract: the verdict of a decided sheet, or else the next step.
use Rattle.std.proofs.Common.{refl, sym, ap, ◌∙◌}
use Rattle.solve.specs.Answers.{decision_of}
use Rattle.solve.proofs.Holding.{readable}
use Rattle.solve.proofs.Arriving.{decided_end}
use Rattle.solve.proofs.step.take_step.Goals as goal

pub decide-requires : goal.decide-requires
decide-requires c = readable c.requires.0.held

pub returns-in-Some : goal.returns-in-Some
returns-in-Some c = (decided_end c.requires.0 (sym c.decide.ensures ∙ ap decision_of c.in-Some.is), refl, refl)

pub open_step-requires : goal.open_step-requires
open_step-requires c = (c.requires.0, sym c.decide.ensures ∙ ap decision_of c.in-None.is, c.requires.1)
