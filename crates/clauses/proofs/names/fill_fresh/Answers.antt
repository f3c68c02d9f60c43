-- The goals of `clauses::names::fill_fresh`. Assumes nothing.
use Rattle.std.proofs.Common.{sym, ap, ◌∙◌, subst, ◌++◌, ◌≤◌, length, take, drop}
use Rattle.renaming.proofs.Renumbering.{free-unused}
use Rattle.clauses.proofs.names.fill_fresh.Goals as goal

pub fill_unused-requires : goal.fill_unused-requires
fill_unused-requires c =
    let u = c.fill_used.ensures in
    (u.words, c.requires.2, subst (λ l. c.args.count ≤ length l) (sym (free-unused u c.args.highest 1)) c.requires.3, c.requires.4)

pub returns : goal.returns
returns c =
    let a = c.args in
    c.fill_unused.ensures ∙ ap (λ l. take a.count l ++ drop a.count a.fresh.now) (free-unused c.fill_used.ensures a.highest 1)
