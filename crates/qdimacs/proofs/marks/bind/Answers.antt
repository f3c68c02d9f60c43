-- `qdimacs::marks::bind` meets its contract.
use Rattle.std.proofs.Common.{arith}
use Rattle.qdimacs.proofs.Binding.{walked_number, bound-none, bound-ends, bound_more, bound_all}
use Rattle.qdimacs.proofs.marks.bind.Goals as goal

pub loop-at-init : goal.loop-at-init
loop-at-init c = bound-none c.requires.0 c.requires.1

pub returns-then-next-ge-CLAUSE : goal.returns-then-next-ge-CLAUSE
returns-then-next-ge-CLAUSE c = bound-ends c.loop-at.invariant c.next_token-t.ensures c.step-next.ensures c.if-next-ge-CLAUSE.true

pub bind_word-found-requires : goal.bind_word-found-requires
bind_word-found-requires c =
    let h = c.loop-at.invariant in (walked_number h.walked c.next_token-t.ensures, omega (arith, h.fewer), h.found.size)

pub loop-at-smaller : goal.loop-at-smaller
loop-at-smaller c = omega (arith, c.next_token-t.ensures.inside, c.next_token-t.ensures.onward (omega arith))

pub loop-at-preserved : goal.loop-at-preserved
loop-at-preserved c =
    bound_more c.loop-at.invariant c.next_token-t.ensures c.step-next.ensures (omega arith) c.if-next-ge-CLAUSE.false
    c.bind_word-found.ensures.value c.bind_word-found.ensures.marks_after

pub returns : goal.returns
returns c = bound_all c.loop-at.invariant (omega arith)
