-- `tidiness::some_kind` meets its contract.
use Rattle.std.proofs.Common.{◌≡◌, refl, sym, ◌∙◌, ◌-◌, ◌+◌, eqb, arith}
use borrow.Author.Tests.{eq-eqb, ne_eqb}
use Rattle.subtrees.specs.Subtrees.{top}
use Rattle.subtrees.proofs.Siblings.{Walked, walk_on, look-found, look-on, look_none}
use Rattle.tidiness.specs.Faults.{some_kind}
use Rattle.tidiness.proofs.Faults.{some_kind-none, some_kind_more}
use Rattle.tidiness.proofs.some_kind.Goals.{In-loop}
use Rattle.tidiness.proofs.some_kind.Goals as goal

pub loop-init : goal.loop-init
loop-init c =
    let all : c.args.c.left - 0 ≡ c.args.c.left = omega arith in
    rw all (record { few = c.requires.1; same = refl })

-- the walk's next step
walked : (c : In-loop) → Walked c.args.s c.args.b.now c.args.ends.now c.loop.at (c.args.c.left - c.loop.counter)
walked c = walk_on c.args.b.now c.requires.0.readable c.args.ends.now c.requires.0 c.loop.at (omega arith) c.loop.invariant.few

pub kind_at-requires : goal.kind_at-requires
kind_at-requires c = (c.requires.0.readable, (walked (goal.at.kind_at-requires c).In-loop).inside)

pub returns-then-kind_at-kind : goal.returns-then-kind_at-kind
returns-then-kind_at-kind c =
    let k = c.args.kind in
    let w = walked (goal.at.returns-then-kind_at-kind c).In-loop in
    sym
    (look-found (λ t ts. eqb (top t).kind k) (some_kind k) (some_kind-none k) (some_kind_more k) w c.loop.invariant
    (eq-eqb _ k (sym c.kind_at.ensures ∙ c.if-kind_at-kind.true)))

pub offset_bounds-ends-at : goal.offset_bounds-ends-at
offset_bounds-ends-at c = let w = walked (goal.at.offset_bounds-ends-at c).In-loop in omega arith

pub bounds-ends-at : goal.bounds-ends-at
bounds-ends-at c = let w = walked (goal.at.bounds-ends-at c).In-loop in omega (arith, c.requires.0.holds)

pub loop-preserved : goal.loop-preserved
loop-preserved c =
    let k = c.args.kind in
    let left = c.args.c.left in
    let next : left - (c.loop.counter + 1) ≡ left - c.loop.counter - 1 = omega arith in
    let w = walked (goal.at.loop-preserved c).In-loop in
    rw (next, c.from-at.ensures)
    (look-on (λ t ts. eqb (top t).kind k) (some_kind k) (some_kind-none k) (some_kind_more k) w c.loop.invariant
    (ne_eqb _ k (λ e. c.if-kind_at-kind.false (c.kind_at.ensures ∙ e))))

pub returns : goal.returns
returns c =
    let k = c.args.kind in
    sym (look_none (λ t ts. eqb (top t).kind k) (some_kind k) (some_kind-none k) (some_kind_more k) (omega arith) c.loop.invariant)
