-- `duplicates::gather` meets its contract.
use Rattle.std.proofs.Common.{◌≡◌, ◌-◌, ◌+◌, add-one, arith}
use Rattle.subtrees.proofs.Siblings.{Walked, children_read, walk_on}
use Rattle.duplicates.proofs.Mixing.{hashed_later}
use Rattle.duplicates.proofs.Gathering.{gather_start, gather-room, gather-on, gather-done, kids_few}
use Rattle.duplicates.proofs.gather.Goals.{In-loop-n}
use Rattle.duplicates.proofs.gather.Goals as goal

pub loop-n-init : goal.loop-n-init
loop-n-init c =
    let k = c.children_at-count.result in
    let all : k - 0 ≡ k = omega arith in
    rw all
    (gather_start c.args.b.now c.args.members.now
    (children_read c.args.b.now c.requires.0.readable c.args.i c.requires.1 (add-one c.args.i) c.children_at-count.ensures.0))

-- the walk's next step
walked : (c : In-loop-n) → Walked c.args.s c.args.b.now c.args.ends.now c.loop-n.at (c.children_at-count.result - c.loop-n.n)
walked c =
    walk_on c.args.b.now c.requires.0.readable c.args.ends.now c.requires.0 c.loop-n.at (omega arith) c.loop-n.invariant.beside

pub put-requires : goal.put-requires
put-requires c =
    let b = c.args.b.now in
    let few = kids_few b c.requires.0.readable c.args.i c.requires.1 in (
      c.requires.0.readable,
      (walked (goal.at.put-requires c).In-loop-n).inside,
      hashed_later 0 c.loop-n.at c.requires.2 (omega arith),
      gather-room b c.loop-n.invariant (walked (goal.at.put-requires c).In-loop-n) (omega (arith, few, c.requires.3)),
    )

pub offset_bounds-ends-at : goal.offset_bounds-ends-at
offset_bounds-ends-at c = omega (arith, (walked (goal.at.offset_bounds-ends-at c).In-loop-n).inside, c.requires.0.readable.few_nodes)

pub bounds-ends-at : goal.bounds-ends-at
bounds-ends-at c = omega (arith, (walked (goal.at.bounds-ends-at c).In-loop-n).inside, c.requires.0.holds)

pub loop-n-preserved : goal.loop-n-preserved
loop-n-preserved c =
    let k = c.children_at-count.result in
    let next : k - (c.loop-n.n + 1) ≡ k - c.loop-n.n - 1 = omega arith in
    rw (next, c.from-at.ensures) (gather-on c.args.b.now c.loop-n.invariant (walked (goal.at.loop-n-preserved c).In-loop-n) c.put.auto.members c.put.ensures)

pub returns : goal.returns
returns c =
    let done : c.loop-n.n ≡ c.children_at-count.result = omega arith in
    let g = gather-done c.args.b.now c.loop-n.invariant (omega arith) in
    (rw done at g, omega (arith, g.as_many, kids_few c.args.b.now c.requires.0.readable c.args.i c.requires.1))
