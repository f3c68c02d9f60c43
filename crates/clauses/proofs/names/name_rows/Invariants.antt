-- `clauses::names::name_rows`: an entry a turn.
use Rattle.std.proofs.Common.{slice_index_or}
use Rattle.clauses.proofs.Naming.{Exchanging}
use Rattle.clauses.proofs.names.name_rows.Given as goal

abbrev pub invariant-loop-j : goal.invariant-loop-j
invariant-loop-j l = Exchanging (λ k. slice_index_or l.fresh k 0) l.initial.names l.names l.j
