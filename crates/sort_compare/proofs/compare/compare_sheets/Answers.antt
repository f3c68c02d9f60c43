-- `sort_compare::compare::compare_sheets` meets its contract.
use Rattle.std.proofs.Common.{sym, ◌∙◌}
use Rattle.sort_compare.proofs.Prefixes.{prefixes_decide, trees-decide}
use Rattle.sort_compare.proofs.compare.compare_sheets.Goals as goal

pub returns-then-is_ne : goal.returns-then-is_ne
returns-then-is_ne c =
    let a = c.args in
    prefixes_decide a.s a.t a.first.now a.second.now c.compare_prefixes-prefixes.result c.compare_prefixes-prefixes.ensures (sym c.is_ne.ensures ∙ c.if-is_ne.true)

pub returns : goal.returns
returns c =
    let a = c.args in
    trees-decide a.s a.t a.first.now a.second.now c.compare_prefixes-prefixes.result c.compare_prefixes-prefixes.ensures (sym c.is_ne.ensures ∙ c.if-is_ne.false)
    c.compare_trees.ensures
