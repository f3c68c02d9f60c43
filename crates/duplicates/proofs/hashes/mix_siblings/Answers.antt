-- `duplicates::hashes::mix_siblings` meets its contract.
use Rattle.std.proofs.Common.{◌≡◌, refl, sym, ap, ◌∙◌, ◌-◌, ◌+◌, get_or, arith}
use Rattle.buckets.specs.Hashes.{mix}
use Rattle.duplicates.proofs.Mixing.{Mixed, mix_on, mixes-none}
use Rattle.duplicates.proofs.hashes.mix_siblings.Goals.{In-loop}
use Rattle.duplicates.proofs.hashes.mix_siblings.Goals as goal

-- the next sibling
mixed_in : (c : In-loop) →
    let a = c.args in
    let l = c.loop in
    Mixed a.ends.now a.hashes.now l.at (a.count - l.counter) (a.count - (l.counter + 1)) l.h (get_or a.ends.now l.at 0)
mixed_in c = mix_on c.args.ends.now c.args.hashes.now c.loop.h (omega arith) c.loop.invariant.0

pub loop-init : goal.loop-init
loop-init c =
    let all : c.args.count - 0 ≡ c.args.count = omega arith in
    rw all (c.requires.0, refl, c.requires.1)

pub offset_bounds-hashes-at : goal.offset_bounds-hashes-at
offset_bounds-hashes-at c = omega (arith, (mixed_in (goal.at.offset_bounds-hashes-at c).In-loop).in_hashes)

pub bounds-hashes-at : goal.bounds-hashes-at
bounds-hashes-at c = (mixed_in (goal.at.bounds-hashes-at c).In-loop).in_hashes

pub mixed-h-requires : goal.mixed-h-requires
mixed-h-requires c = (c.loop.invariant.2, omega (arith, c.type_inv.hashes c.loop.at))

pub offset_bounds-ends-at : goal.offset_bounds-ends-at
offset_bounds-ends-at c = omega (arith, (mixed_in (goal.at.offset_bounds-ends-at c).In-loop).in_ends)

pub bounds-ends-at : goal.bounds-ends-at
bounds-ends-at c = (mixed_in (goal.at.bounds-ends-at c).In-loop).in_ends

pub loop-preserved : goal.loop-preserved
loop-preserved c =
    let l = c.loop in
    let m = mixed_in (goal.at.loop-preserved c).In-loop in
    let mixed = c.mixed-h.ensures.0 ∙ ap (mix l.h) c.from.ensures in
    rw (c.from-at.ensures, mixed) (m.onward, l.invariant.1 ∙ m.same, rw mixed at c.mixed-h.ensures.1)

pub returns : goal.returns
returns c =
    let l = c.loop in
    (sym (l.invariant.1 ∙ mixes-none c.args.ends.now c.args.hashes.now l.at l.h (omega arith)), l.invariant.2)
