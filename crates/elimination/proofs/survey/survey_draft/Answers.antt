-- `elimination::survey::survey_draft` meets its contract.
use Rattle.elimination.proofs.Surveying.{ended, surveyed-whole, sited, surveyed-cut}
use Rattle.elimination.proofs.survey.survey_draft.Goals as goal

pub outline-e-requires : goal.outline-e-requires
outline-e-requires c = ended c.requires.0.1

pub returns-then-e : goal.returns-then-e
returns-then-e c = λ L k. surveyed-whole k c.outline-e.ensures c.if-e.true

pub fill_cuts-requires : goal.fill_cuts-requires
fill_cuts-requires c = (sited c.requires.0.1 c.outline-e.ensures c.if-e.false, c.requires.1)

pub returns : goal.returns
returns c = λ L k. surveyed-cut k c.outline-e.ensures c.if-e.false c.args.cuts.now c.fill_cuts.ensures
