-- The goal of `clauses::names::fresh_at`. Assumes nothing.
use Rattle.std.proofs.Common.{sym}
use lib.ListN.{get_or-eq_default}
use Rattle.clauses.proofs.names.fresh_at.Goals as goal

pub returns : goal.returns
returns c = sym (get_or-eq_default c.args.fresh.now 0 c.if-i-fresh.false)
