-- `qdimacs::write::clause_length` meets its contract.
use Rattle.std.proofs.Common.{arith}
use Rattle.qdimacs.proofs.WritingClauses.{measured_end, measured_word, measured_all}
use Rattle.qdimacs.proofs.write.clause_length.Goals as goal

pub returns-then-t-eq-ZERO : goal.returns-then-t-eq-ZERO
returns-then-t-eq-ZERO c = measured_end c.loop-at.invariant c.next_token-t.ensures c.if-t-eq-ZERO.true

pub loop-at-preserved : goal.loop-at-preserved
loop-at-preserved c = measured_word c.loop-at.invariant c.next_token-t.ensures (omega arith) c.if-t-eq-ZERO.false c.from-n.ensures

pub returns : goal.returns
returns c = measured_all c.loop-at.invariant (omega arith)
