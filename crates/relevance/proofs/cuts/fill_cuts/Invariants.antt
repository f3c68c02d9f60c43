-- `relevance::cuts::fill_cuts`: the cuts in the table and those to come are the cuts of all, whatever the set is whose literals the walk goes
-- along.
use Rattle.std.proofs.Common.{◌+◌, ◌-◌}
use Rattle.formula.specs.Tree.{Literals}
use Rattle.subtrees.specs.Subtrees.{siblings_in}
use Rattle.relevance.proofs.TurnSubtree.{SiteBegun}
use Rattle.relevance.proofs.TurnCuts.{Cutting, Kept}
use Rattle.relevance.proofs.cuts.fill_cuts.Given as goal

abbrev pub invariant-loop : goal.invariant-loop
invariant-loop l =
    let first = l.fn.site.operator + 1 in
    ((L : Literals) → SiteBegun L l.fn.s l.b l.ends l.next l.fn.site l.end
    → Cutting L l.fn.s l.b (siblings_in l.fn.s l.b first l.end) first l.at (l.end - l.counter) l.row l.runs l.cuts)
    × Kept l.initial.cuts l.runs l.cuts
