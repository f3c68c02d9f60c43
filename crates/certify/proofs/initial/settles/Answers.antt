-- The goal of `certify::initial::settles`. Assumes nothing.
use Rattle.sets.proofs.Members.{holds-none}
use Rattle.rows.specs.Formulas.{matrix_in}
use Rattle.resolution.specs.Codes.{words_in}
use Rattle.resolution.specs.Steps.{constraint_in}
use Rattle.resolution.proofs.Resolvents.{whole_marks, beyond_codes}
use Rattle.certify.proofs.Settling.{settles-marked}
use Rattle.certify.proofs.initial.settles.Goals as goal

pub returns : goal.returns
returns c =
    let a = c.args in
    settles-marked c.mark.new.set (constraint_in a.p a.codes.now)
    (whole_marks a.p a.codes.now c.requires.2 _ c.mark.new.set (holds-none 64) c.mark.ensures.adds)
    (λ s x h. beyond_codes s x (words_in a.p a.codes.now) h) a.q.verdict c.evaluate.result (matrix_in a.q.layout a.sheet.now) c.evaluate.ensures
