-- `outer::chain::link_chosen` meets its contract.
use Rattle.std.proofs.Common.{◌≡◌, arith}
use Rattle.substitution.specs.Changes.{chosen}
use Rattle.outer.proofs.Linking.{linking_none, linking-turn, linked-all}
use Rattle.outer.proofs.chain.link_chosen.Goals as goal

pub loop-i-init : goal.loop-i-init
loop-i-init c = linking_none (chosen c.args.table.now) c.args.b.now c.requires.0 c.requires.2

pub loop-i-preserved : goal.loop-i-preserved
loop-i-preserved c =
    rw c.with_row-r.ensures
    (linking-turn (chosen c.args.table.now) c.args.b.now c.requires.0 (omega arith) (omega arith) c.loop-i.invariant c.is_chosen.ensures)

pub returns : goal.returns
returns c =
    let all : c.loop-i.i ≡ 0 = omega arith in
    linked-all (chosen c.args.table.now) c.args.b.now c.requires.0 (rw all at c.loop-i.invariant)
