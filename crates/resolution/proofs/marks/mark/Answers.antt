-- `resolution::marks::mark` meets its contract.
use Rattle.std.proofs.Common.{eqb, arith}
use Rattle.sets.specs.Sets.{holds}
use Rattle.resolution.proofs.Codes.{gather, gathered}
use Rattle.resolution.proofs.marks.mark.Goals as goal

pub loop-i-preserved : goal.loop-i-preserved
loop-i-preserved c =
    let a = c.args in
    let l = c.loop-i in (
      omega (arith, c.add_kept.ensures.set_len_unchanged, l.invariant.0),
      gather a.p.skip a.codes.now a.p.to eqb a.p.from (holds a.set.now) l.i c.code_at.result (holds l.set) (holds c.add_kept.new.set)
          c.loop-i-test.true c.requires.1 c.code_at.ensures.0 c.add_kept.ensures.by_index l.invariant.1,
    )

pub returns : goal.returns
returns c =
    let a = c.args in
    let l = c.loop-i in
    record {
      same_length = l.invariant.0;
      adds = gathered a.p.skip a.codes.now a.p.to eqb a.p.from (holds a.set.now) l.i (holds l.set) c.loop-i-test.false l.invariant.1;
    }
