-- `resolution::marks::last_rank` meets its contract.
use Rattle.std.proofs.Common.{ltb}
use Rattle.resolution.specs.Codes.{ranked_behind}
use Rattle.resolution.proofs.Codes.{gather, gathered}
use Rattle.resolution.proofs.marks.last_rank.Goals as goal

pub loop-i-preserved : goal.loop-i-preserved
loop-i-preserved c =
    let a = c.args in
    let l = c.loop-i in
    gather a.p.skip a.codes.now a.p.to (ranked_behind a.ranks.now) a.p.from (λ u. ltb u a.last) l.i c.code_at.result
    (λ u. ltb u l.rank) (λ u. ltb u c.later-rank.result) c.loop-i-test.true c.requires.1 c.code_at.ensures.0 c.later-rank.ensures l.invariant

pub returns : goal.returns
returns c =
    let a = c.args in
    let l = c.loop-i in
    gathered a.p.skip a.codes.now a.p.to (ranked_behind a.ranks.now) a.p.from (λ u. ltb u a.last) l.i (λ u. ltb u l.rank)
    c.loop-i-test.false l.invariant
