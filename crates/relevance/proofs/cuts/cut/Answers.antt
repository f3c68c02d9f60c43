-- `relevance::cuts::cut` meets its contract.
use Rattle.relevance.specs.Walks.{run_cut, table_cut}
use Rattle.relevance.proofs.cuts.cut.Goals as goal

pub returns-then-holds-runs : goal.returns-then-holds-runs
unfolding run_cut table_cut
returns-then-holds-runs c = record { value = rw c.if-holds-runs.true; cuts_after = rw c.if-holds-runs.true }

pub returns : goal.returns
unfolding run_cut table_cut
returns c = record { value = rw c.if-holds-runs.false; cuts_after = rw c.if-holds-runs.false }
