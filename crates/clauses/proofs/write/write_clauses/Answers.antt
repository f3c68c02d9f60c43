-- The goals of `clauses::write::write_clauses`. Assumes nothing.
use native.Mathlib.Numerals.{add-one}
use Rattle.std.proofs.Common.{refl}
use Rattle.clauses.proofs.Walking.{walking_on}
use Rattle.clauses.proofs.Writing.{clausing_first, clausing-all, own_room, clausing-on}
use Rattle.clauses.proofs.write.write_clauses.Goals as goal

pub loop-j-init : goal.loop-j-init
loop-j-init c =
    let a = c.args in
    clausing_first a.names.now a.b.now c.requires.indexed.0.readable a.to.layout a.out.now a.to.at c.first_conjunct-first.ensures.0

pub write_own-at-requires-clause-place_bound : goal.write_own-at-requires-clause-place_bound
write_own-at-requires-clause-place_bound c =
    let a = c.args in
    let v = c.loop-j.invariant in
    let h = c.requires.indexed.0 in
    let one = walking_on a.b.now h.readable c.loop-j-test.true a.ends.now h v.ts v.us v.walking refl refl in
    own_room a.names.now a.b.now h.readable a.to.layout a.out.now a.to.at v one c.requires.names_bound

pub loop-j-preserved : goal.loop-j-preserved
loop-j-preserved c =
    let a = c.args in
    let v = c.loop-j.invariant in
    let h = c.requires.indexed.0 in
    let one = walking_on a.b.now h.readable c.loop-j-test.true a.ends.now h v.ts v.us v.walking refl c.next_conjunct-next.ensures in
    clausing-on a.names.now a.b.now h.readable a.to.layout a.out.now a.to.at v one (add-one c.loop-j.j) c.write_own-at.ensures c.write_own-at.auto.out

pub returns : goal.returns
returns c =
    let a = c.args in
    clausing-all a.names.now a.b.now c.requires.indexed.0.readable a.to.layout a.out.now a.to.at c.loop-j.invariant c.loop-j-test.false
