-- `checking::check` meets its contract: the first of the four parts that refuses decides.
use Rattle.std.proofs.Common.{◌∙◌}
use Rattle.std.proofs.lemmas.Result.{err_from_is_err_and}
use Rattle.checking.proofs.CheckedSheets.{read_own, read_sized}
use Rattle.checking.proofs.Bound.{marks-none}
use Rattle.checking.proofs.Whole.{sizes_refuse, prefix_refuses, nodes-refuse, tree-decides}
use Rattle.checking.proofs.check.Goals as goal

pub returns-in_err-s-clause-answer : goal.returns-in_err-s-clause-answer
returns-in_err-s-clause-answer c =
    let p = err_from_is_err_and c.from_residual.result c.from_residual.ensures.1 in
    rw (p.1, p.2) (sizes_refuse c.args.f c.args.sheet.now c.in_err-s.ensures.answer)

pub check_prefix-requires : goal.check_prefix-requires
check_prefix-requires c = (read_sized c.args.sheet.now c.in_ok-s.ensures.answer c.in_ok-s.ensures.format, marks-none)

pub returns-in_err-check_prefix-clause-answer : goal.returns-in_err-check_prefix-clause-answer
returns-in_err-check_prefix-clause-answer c =
    let s = c.in_ok-s.ensures in
    let p = err_from_is_err_and c.from_residual-in_err-check_prefix.result c.from_residual-in_err-check_prefix.ensures.1 in
    rw (p.1, p.2) (prefix_refuses _ _ _ (read_own c.args.sheet.now s.answer s.format) s.answer c.in_err-check_prefix.ensures.answer)

pub check_nodes-requires : goal.check_nodes-requires
check_nodes-requires c = (read_sized c.args.sheet.now c.in_ok-s.ensures.answer c.in_ok-s.ensures.format, c.in_ok-check_prefix.ensures.marks)

pub returns-in_err-check_nodes-clause-answer : goal.returns-in_err-check_nodes-clause-answer
returns-in_err-check_nodes-clause-answer c =
    let s = c.in_ok-s.ensures in
    let p = err_from_is_err_and c.from_residual-in_err-check_nodes.result c.from_residual-in_err-check_nodes.ensures.1 in
    rw (p.1, p.2)
    (nodes-refuse _ _ _ (read_own c.args.sheet.now s.answer s.format) s.answer c.in_ok-check_prefix.ensures.answer c.in_err-check_nodes.ensures)

pub check_tree-requires : goal.check_tree-requires
check_tree-requires c = read_sized c.args.sheet.now c.in_ok-s.ensures.answer c.in_ok-s.ensures.format

pub returns-in_err-check_tree-clause-answer : goal.returns-in_err-check_tree-clause-answer
returns-in_err-check_tree-clause-answer c =
    let s = c.in_ok-s.ensures in
    let p = err_from_is_err_and c.from_residual-in_err-check_tree.result c.from_residual-in_err-check_tree.ensures.1 in
    rw (p.1, p.2)
    (c.in_err-check_tree.ensures ∙
    tree-decides _ _ _ (read_own c.args.sheet.now s.answer s.format) s.answer c.in_ok-check_prefix.ensures.answer c.in_ok-check_nodes.ensures)

pub returns-clause-answer : goal.returns-clause-answer
returns-clause-answer c =
    let s = c.in_ok-s.ensures in
    c.in_ok-check_tree.ensures ∙
    tree-decides _ _ _ (read_own c.args.sheet.now s.answer s.format) s.answer c.in_ok-check_prefix.ensures.answer c.in_ok-check_nodes.ensures
