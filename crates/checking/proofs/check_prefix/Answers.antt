-- `checking::check_prefix` meets its contract: what is left of the tests at each row decides as all of them do.
use Rattle.std.proofs.Common.{sym, ap, ap₂, ◌∙◌, false, get_or, arith}
use Rattle.rows.proofs.Layouts.{length-rows_in}
use Rattle.rows.proofs.Limits.{limits}
use Rattle.checking.specs.Inner.Stages.{quantifier, misnumbered}
use Rattle.checking.proofs.RowTests.{prefix_none, prefix_all, prefix-kind, prefix-number, prefix-twice, prefix-turn}
use Rattle.checking.proofs.check_prefix.Goals as goal

pub loop-r-init : goal.loop-r-init
loop-r-init c = prefix_none _ _ _ _ (omega (arith, length-rows_in c.args.sheet.now c.requires.0.room)) _ c.requires.1

pub returns-then-not-is_quantifier-clause-answer : goal.returns-then-not-is_quantifier-clause-answer
returns-then-not-is_quantifier-clause-answer c =
    prefix-kind _ _ _ _ (omega (arith, length-rows_in c.args.sheet.now c.requires.0.room)) c.loop-r-test.true c.loop-r.invariant
    (sym (c.is_quantifier.ensures ∙ ap quantifier c.kind_at.ensures) ∙ c.if-not-is_quantifier.true)

pub returns-then-is_misnumbered-clause-answer : goal.returns-then-is_misnumbered-clause-answer
returns-then-is_misnumbered-clause-answer c =
    prefix-number _ _ _ _ (omega (arith, length-rows_in c.args.sheet.now c.requires.0.room)) c.loop-r-test.true c.loop-r.invariant
    (sym (c.is_quantifier.ensures ∙ ap quantifier c.kind_at.ensures) ∙ c.if-not-is_quantifier.false)
    (sym (c.is_misnumbered.ensures ∙ ap₂ misnumbered c.most_variables-most.ensures c.argument_at-x.ensures.0) ∙ c.if-is_misnumbered.true)

pub returns-then-is_bound-clause-answer : goal.returns-then-is_bound-clause-answer
returns-then-is_bound-clause-answer c =
    prefix-twice _ _ _ _ (omega (arith, length-rows_in c.args.sheet.now c.requires.0.room)) c.loop-r-test.true c.loop-r.invariant
    (sym (c.is_quantifier.ensures ∙ ap quantifier c.kind_at.ensures) ∙ c.if-not-is_quantifier.false)
    (sym (c.is_misnumbered.ensures ∙ ap₂ misnumbered c.most_variables-most.ensures c.argument_at-x.ensures.0) ∙ c.if-is_misnumbered.false)
    (sym (c.is_bound.ensures ∙ ap (λ x. get_or c.loop-r.bound x false) c.argument_at-x.ensures.0) ∙ c.if-is_bound.true)

pub loop-r-preserved : goal.loop-r-preserved
loop-r-preserved c =
    rw c.argument_at-x.ensures.0
    (prefix-turn _ _ _ _ (omega (arith, length-rows_in c.args.sheet.now c.requires.0.room)) c.loop-r-test.true c.loop-r.invariant
    (sym (c.is_quantifier.ensures ∙ ap quantifier c.kind_at.ensures) ∙ c.if-not-is_quantifier.false)
    (sym (c.is_misnumbered.ensures ∙ ap₂ misnumbered c.most_variables-most.ensures c.argument_at-x.ensures.0) ∙ c.if-is_misnumbered.false)
    (sym (c.is_bound.ensures ∙ ap (λ x. get_or c.loop-r.bound x false) c.argument_at-x.ensures.0) ∙ c.if-is_bound.false)
    (limits c.args.s.format).few_variables)

pub returns : goal.returns
returns c =
    let p = prefix_all _ _ _ _ (omega (arith, length-rows_in c.args.sheet.now c.requires.0.room)) c.loop-r-test.false c.loop-r.invariant in
    record { answer = p.0; marks = p.1 }
