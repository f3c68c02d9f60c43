-- The goals of `certify::judge`. Assumes nothing.
use Rattle.rows.specs.Formulas.{formula_in}
use Rattle.certify.proofs.Steps.{uncertain-short, uncertain-ended, certain-ended}
use Rattle.certify.proofs.judge.Goals as goal
use Rattle.certify.proofs.judge.Goals.{else-n-heads-via-then-n-heads+else-ends_empty, else-n-heads-via-else-n-heads}

pub returns-then-ends_empty : goal.returns-then-ends_empty
returns-then-ends_empty c =
    let a = c.args in
    let n = c.count_valid-n in
    certain-ended a.heads.now a.codes.now a.verdict (formula_in a.s a.sheet.now) n.result n.ensures c.ends_empty.result c.if-n-heads.true
    c.ends_empty.ensures c.if-ends_empty.true

pub returns : goal.returns
returns c =
    let a = c.args in
    let n = c.count_valid-n in
    elim c.else-n-heads.branch [
      | else-n-heads-via-then-n-heads+else-ends_empty w ↦ uncertain-ended a.heads.now a.codes.now a.verdict (formula_in a.s a.sheet.now) n.result n.ensures
          w.ends_empty.result w.if-n-heads.true w.ends_empty.ensures w.if-ends_empty.false
      | else-n-heads-via-else-n-heads w ↦ uncertain-short a.heads.now a.codes.now a.verdict (formula_in a.s a.sheet.now) n.result n.ensures w.if-n-heads.false
    ]
