-- `dependence::closure::fill_dependents` meets its contract: the set grows.
use Rattle.std.proofs.Common.{refl}
use Rattle.rows.specs.Formulas.{formula_in}
use Rattle.dependence.proofs.Growing.{grow_start, take_left, grow_on, grow_less, grow_done, grow_none, occurs_read, chained-range, marked-range}
use Rattle.dependence.proofs.closure.fill_dependents.Goals as goal

pub returns-then-not-occurs : goal.returns-then-not-occurs
returns-then-not-occurs c =
    grow_none c.args.t.variable _ (occurs_read c.args.b.now c.requires.1 c.requires.2.few c.occurs.ensures c.if-not-occurs.true) c.requires.3

pub loop-y-init : goal.loop-y-init
loop-y-init c =
    let a = c.args in
    let has = occurs_read a.b.now c.requires.1 c.requires.2.few c.occurs.ensures c.if-not-occurs.false in
    record {
      block_is = c.fill_block.ensures;
      growing =
          grow_start a.t.variable _ has refl c.requires.3
          (marked-range a.b.now c.requires.1 c.requires.2.few c.range_of.ensures has c.mark_relevant.ensures);
    }

pub mark_relevant-requires-in-Some : goal.mark_relevant-requires-in-Some
mark_relevant-requires-in-Some c =
    let k = take_left c.args.t.variable (formula_in c.args.t.layout c.args.b.now) c.loop-y.invariant c.in-Some.ensures in
    (chained-range c.args.b.now c.requires.1 k.near c.range_of-in-Some.ensures k.occurs c.requires.0, c.loop-y.invariant.growing.room)

pub loop-y-smaller : goal.loop-y-smaller
loop-y-smaller c =
    let f = formula_in c.args.t.layout c.args.b.now in
    grow_less c.args.t.variable f c.loop-y.set c.add.new.set (take_left c.args.t.variable f c.loop-y.invariant c.in-Some.ensures)
    c.loop-y.invariant.growing c.add.ensures.set_len_unchanged c.add.ensures.by_index

pub loop-y-preserved : goal.loop-y-preserved
loop-y-preserved c =
    let f = formula_in c.args.t.layout c.args.b.now in
    let k = take_left c.args.t.variable f c.loop-y.invariant c.in-Some.ensures in
    record {
      block_is = c.loop-y.invariant.block_is;
      growing =
          grow_on c.args.t.variable f k c.loop-y.invariant.growing c.add.ensures.set_len_unchanged c.add.ensures.by_index
          (marked-range c.args.b.now c.requires.1 k.near c.range_of-in-Some.ensures k.occurs c.mark_relevant-in-Some.ensures);
    }

pub returns : goal.returns
returns c =
    grow_done c.args.t.variable (formula_in c.args.t.layout c.args.b.now) c.loop-y.invariant c.in_default.ensures
    c.intersect.ensures.set_len_unchanged c.intersect.ensures.by_index
