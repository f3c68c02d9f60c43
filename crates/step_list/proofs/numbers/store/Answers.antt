-- The goals of `step_list::numbers::store`. Assumes nothing.
use Rattle.std.proofs.Common.{length, ◌<◌, arith, rules}
use native.Mathlib.Numerals.{add-one}
use Rattle.step_list.proofs.Parts.{stored_none, stored_next}
use Rattle.step_list.proofs.numbers.store.Goals as goal

pub loop-j-init : goal.loop-j-init
loop-j-init c = stored_none c.args.steps c.args.at c.args.numbers.now c.args.values.now

pub loop-j-preserved : goal.loop-j-preserved
loop-j-preserved c =
    let a = c.args in
    let more = c.loop-j-test.true in
    let w = c.requires in
    let good = c.well_formed in
    let few = w.is_part in
    let here : c.loop-j.j < length a.steps = search rules in
    stored_next a.steps a.at a.numbers.now a.values.now c.loop-j.invariant (omega (arith, more, w.in_one)) (omega (arith, more, w.in_other))
    here (add-one c.loop-j.j) c.number_of.ensures c.value_of.ensures
