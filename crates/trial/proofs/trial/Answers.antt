-- `trial::trial` meets its contract: a refusal of Check is Trial's, 14 follows, and else the semantic tree answers.
use Rattle.std.proofs.lemmas.Result.{err_from_is_err_and}
use Rattle.sheet.proofs.Truthful.{trial_truthful}
use Rattle.rows.specs.Formats.{format_of}
use Rattle.checking.proofs.CheckedSheets.{sheet_checked}
use Rattle.trial.proofs.Answers.{check_refuses, playable, many_refused, tree_answered}
use Rattle.trial.proofs.trial.Goals as goal

pub returns-in_err-s-clause-result_value : goal.returns-in_err-s-clause-result_value
returns-in_err-s-clause-result_value c =
    let p = err_from_is_err_and c.from_residual.result c.from_residual.ensures.1 in
    rw (p.1, p.2) (check_refuses (format_of c.args.f) c.args.sheet.now c.in_err-s.ensures.answer)

pub returns-then-s-gt20-clause-result_value : goal.returns-then-s-gt20-clause-result_value
returns-then-s-gt20-clause-result_value c =
    many_refused (sheet_checked c.in_ok-s.ensures.answer c.in_ok-s.ensures.format) c.if-s-gt20.true

pub semantic_tree-requires : goal.semantic_tree-requires
semantic_tree-requires c = playable (sheet_checked c.in_ok-s.ensures.answer c.in_ok-s.ensures.format) c.if-s-gt20.false

pub returns : goal.returns
returns c =
    let accepted = sheet_checked c.in_ok-s.ensures.answer c.in_ok-s.ensures.format in
    let e = tree_answered accepted _ c.if-s-gt20.false c.semantic_tree.ensures in
    record { result_value = e; truthful_trial = trial_truthful (format_of c.args.f) c.args.sheet.now e }
