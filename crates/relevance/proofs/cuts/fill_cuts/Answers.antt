-- `relevance::cuts::fill_cuts` meets its contract.
use Rattle.std.proofs.Common.{◌≡◌, ltb, ◌+◌, ◌-◌, ◌≤◌, ◌<◌, length, get_or, refl, add-one, arith, length-set}
use Rattle.subtrees.specs.Subtrees.{siblings_in}
use Rattle.relevance.proofs.TurnSubtree.{SiteBegun, site-children, site-begun, site-chosen, walked, leads}
use Rattle.relevance.proofs.TurnCuts.{Cutting, cut_start, cut_on, kept-turn, cuts_done}
use Rattle.relevance.proofs.cuts.fill_cuts.Goals as goal
use Rattle.relevance.proofs.cuts.fill_cuts.Goals.{At-loop}

begun : (c : At-loop) → let a = c.args in SiteBegun c.requires.0.chained.chosen a.s a.b.now a.ends.now a.next.now a.site c.children_at-end.result
begun c = site-chosen c.args.b.now c.requires.0 c.children_at-end.ensures.0

cutting : (c : At-loop) → let a = c.args in
    Cutting c.requires.0.chained.chosen a.s a.b.now (siblings_in a.s a.b.now (a.site.operator + 1) c.children_at-end.result)
    (a.site.operator + 1) c.loop.at (c.children_at-end.result - c.loop.counter) c.loop.row c.loop.runs c.loop.cuts
cutting c = c.loop.invariant.0 _ (begun c)

-- there is room for one cut more
room : (c : At-loop) → (c.loop.runs.cuts < length c.loop.cuts) × (c.loop.at ≤ 8192) × (c.loop.runs.cuts ≤ 8192)
room c =
    let p = cutting c in
    let few = c.requires.0.chained.indexed.readable.few_nodes in
    omega (arith, p.few, p.walk.within, c.loop.invariant.1.same_length, few, length-set c.args.cuts.now 0 (c.args.site.operator + 1))

pub loop-init : goal.loop-init
loop-init c =
    let k = c.children_at-end.result in
    let all : k - 0 ≡ k = omega arith in
    (λ L begun. rw all (cut_start L begun c.args.cuts.now (omega arith)), record { same_length = refl; behind = refl })

pub offset_bounds-ends-at : goal.offset_bounds-ends-at
offset_bounds-ends-at c = omega (arith, (room (goal.at.offset_bounds-ends-at c).At-loop).1)

pub bounds-ends-at : goal.bounds-ends-at
bounds-ends-at c =
    let here = (goal.at.bounds-ends-at c).At-loop in
    omega (arith, (walked _ (begun here) (omega arith) (cutting here).walk).inside, c.requires.0.chained.indexed.holds)

pub cut-runs-requires : goal.cut-runs-requires
cut-runs-requires c =
    let r = room (goal.at.cut-runs-requires c).At-loop in
    (r.0, omega (arith, r.1))

pub first_behind-row-requires : goal.first_behind-row-requires
first_behind-row-requires c =
    let here = (goal.at.first_behind-row-requires c).At-loop in
    leads _ (begun here) (omega arith) (cutting here).walk

pub loop-preserved : goal.loop-preserved
loop-preserved c =
    let cut = c.cut-runs.ensures in
    let room = (room (goal.at.loop-preserved c).At-loop).0 in (
      λ L k. cut_on L k (omega arith) (omega arith) room (c.loop.invariant.0 L k) cut.value cut.cuts_after c.first_behind-row.ensures,
      kept-turn (ltb c.loop.row (get_or c.args.ends.now c.loop.at 0)) c.loop.at cut.value cut.cuts_after c.loop.invariant.1,
    )

pub overflow_cast-cuts-2 : goal.overflow_cast-cuts-2
overflow_cast-cuts-2 c = omega (arith, (room (goal.at.overflow_cast-cuts-2 c).At-loop).1)

pub offset_bounds-cuts-k : goal.offset_bounds-cuts-k
offset_bounds-cuts-k c = omega (arith, (room (goal.at.offset_bounds-cuts-k c).At-loop).2)

pub bounds-cuts-k : goal.bounds-cuts-k
bounds-cuts-k c = (room (goal.at.bounds-cuts-k c).At-loop).0

pub overflow_add-result : goal.overflow_add-result
overflow_add-result c = omega (arith, (room (goal.at.overflow_add-result c).At-loop).2)

pub returns : goal.returns
returns c =
    let read = c.children_at-end.ensures.0 in
    λ L last k.
    rw (← (site-children c.args.b.now c.requires.0 read).are, ← add-one c.args.site.operator)
    (cuts_done c.args.cuts.now (c.args.site.operator + 1) c.loop.invariant.1 c.loop.at L (omega arith) (room (goal.at.returns c).At-loop).0
    (c.loop.invariant.0 L (site-begun c.args.b.now c.requires.0 read L last k)))
