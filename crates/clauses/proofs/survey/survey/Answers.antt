-- The goals of `clauses::survey::survey`. Assumes nothing.
use native.Mathlib.Numerals.{add-one}
use Rattle.std.proofs.Common.{refl, ◌<◌, length, arith}
use Rattle.clauses.proofs.Walking.{walking_on}
use Rattle.clauses.proofs.Surveying.{surveying_first, few-counted, few_lines, surveying-on, surveyed}
use Rattle.clauses.proofs.survey.survey.Goals as goal

pub loop-j-init : goal.loop-j-init
loop-j-init c = surveying_first c.args.b.now c.requires.0.readable c.args.names.now c.first_conjunct-first.ensures.0

pub overflow_add-clauses : goal.overflow_add-clauses
overflow_add-clauses c =
    let v = c.loop-j.invariant in
    let b = c.args.b.now in
    let one = walking_on b c.requires.0.readable c.loop-j-test.true c.args.ends.now c.requires.0 v.ts v.us v.walking refl refl in
    omega (arith, few-counted b c.requires.0.readable v one c.own_clauses-clauses.ensures)

pub overflow_add-rows : goal.overflow_add-rows
overflow_add-rows c =
    let v = c.loop-j.invariant in
    let b = c.args.b.now in
    let one = walking_on b c.requires.0.readable c.loop-j-test.true c.args.ends.now c.requires.0 v.ts v.us v.walking refl refl in
    omega (arith, few_lines b c.requires.0.readable v one c.own_rows-rows.ensures)

pub loop-j-preserved : goal.loop-j-preserved
loop-j-preserved c =
    let v = c.loop-j.invariant in
    let b = c.args.b.now in
    let inside : c.loop-j.j < length c.loop-j.names = omega (arith, c.loop-j-test.true, c.requires.1, v.same_length) in
    let one = walking_on b c.requires.0.readable c.loop-j-test.true c.args.ends.now c.requires.0 v.ts v.us v.walking refl c.next_conjunct-next.ensures in
    surveying-on b c.requires.0.readable v one (add-one c.loop-j.j) c.own_names-count.ensures.0 c.own_names-count.ensures.1
    c.own_clauses-clauses.ensures c.own_rows-rows.ensures inside

pub returns : goal.returns
returns c = surveyed c.args.b.now c.requires.0.readable c.loop-j.invariant c.loop-j-test.false c.requires.1
