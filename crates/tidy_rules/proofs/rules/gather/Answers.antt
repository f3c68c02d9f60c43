-- `tidy_rules::rules::gather` meets its contract.
use Rattle.std.proofs.Common.{◌∙◌, ◌≤◌, length, arith}
use Rattle.rows.specs.Layouts.{rows_in, total, Room}
use Rattle.buckets.proofs.Chains.{linked-none}
use Rattle.tidy_rules.specs.Rules.{mixes}
use Rattle.tidy_rules.proofs.Segments.{room_as}
use Rattle.tidy_rules.proofs.Walks.{Turn}
use Rattle.tidy_rules.proofs.Gather.{tables_as, gather_none, gather_turn, gather_few, gather_face, gather_more, gather_hashed, gather_owed}
use Rattle.tidy_rules.proofs.Gather.{gather_found, gather_end, Face, face_turn, face_ordered, face_behind, leaves_decided, leaves-members}
use Rattle.tidy_rules.proofs.rules.gather.Goals.{In-loop-left, After-splice_at-left}
use Rattle.tidy_rules.proofs.rules.gather.Goals as goal

-- at a child

room : (c : In-loop-left) → Room c.args.w.sheet (length c.loop-left.b)
room c = room_as c.loop-left.auto.b c.requires.room

turn : (c : In-loop-left) → Turn c.args.w.sheet c.loop-left.b c.loop-left.at (total c.args.w.sheet)
turn c = gather_turn c.loop-left.b (room c) c.loop-left.invariant.0 c.requires.there c.loop-left-test.true

fit : (c : In-loop-left) → c.loop-left.n ≤ length c.loop-left.members
fit c = omega (arith, c.loop-left.invariant.2, c.loop-left.auto.members, (turn c).row_within, c.requires.tables.members_fit)

-- once it is spliced

faced : (c : After-splice_at-left)
    → Face (rows_in c.args.w.sheet c.args.b.now) (rows_in c.args.w.sheet c.splice_at-left.new.b) c.args.known.now c.loop-left.members c.args.w.from
    c.loop-left.run c.loop-left.at (total c.args.w.sheet) c.loop-left.n c.args.w.owed c.splice_at-left.result c.args.w.kind
faced c = gather_face c.loop-left.invariant.0 c.loop-left-test.true c.large.ensures.0 c.splice_at-left.ensures

room_there : (c : After-splice_at-left) → Room c.args.w.sheet (length c.splice_at-left.new.b)
room_there c = room_as (c.splice_at-left.auto.b ∙ c.loop-left.auto.b) c.requires.room

turn_there : (c : After-splice_at-left) → Turn c.args.w.sheet c.splice_at-left.new.b c.loop-left.at (total c.args.w.sheet)
turn_there c = face_turn c.splice_at-left.new.b (room_there c) (faced c) c.requires.there

pub loop-left-init : goal.loop-left-init
unfolding mixes
loop-left-init c = (gather_none _, linked-none _ _ _, omega arith, c.from-hash.ensures, omega (arith, c.from-hash.ensures))

pub offset_bounds-known-at : goal.offset_bounds-known-at
offset_bounds-known-at c = omega (arith, (turn (goal.at.offset_bounds-known-at c).In-loop-left).row_within, c.requires.tables.countable)

pub bounds-known-at : goal.bounds-known-at
bounds-known-at c = omega (arith, (turn (goal.at.bounds-known-at c).In-loop-left).row_within, c.requires.known_fit)

pub splice_at-left-requires : goal.splice_at-left-requires
splice_at-left-requires c =
    let here = (goal.at.splice_at-left-requires c).In-loop-left in
    let few = gather_few c.loop-left.invariant.0 c.requires.there in (
      room here,
      c.requires.counted,
      (turn here).row_within,
      c.loop-left-test.true,
      omega (arith, few.1, c.requires.tables.countable),
      c.large.ensures.1,
    )

pub extent_at-requires : goal.extent_at-requires
extent_at-requires c =
    let there = (goal.at.extent_at-requires c).After-splice_at-left in
    (room_there there, (turn_there there).row_within)

pub overflow_add-next : goal.overflow_add-next
overflow_add-next c =
    let t = turn_there (goal.at.overflow_add-next c).After-splice_at-left in
    omega (arith, c.extent_at.ensures.1, t.row_within, c.requires.tables.countable)

pub judge-requires : goal.judge-requires
judge-requires c =
    let at = goal.at.judge-requires c in
    let there = at.After-splice_at-left in
    let l = c.loop-left in
    record {
      room = room_there there;
      counted = c.requires.counted;
      tables = tables_as l.auto.heads l.auto.links l.auto.members c.requires.tables;
      behind =
          face_behind (faced there) c.requires.there c.large.ensures.0 (fit at.In-loop-left) (omega (arith, l.invariant.2)) l.invariant.1;
    }

-- a child that decides

pub hop-requires : goal.hop-requires
hop-requires c =
    let at = goal.at.hop-requires c in (
      room_as (c.judge.auto.b ∙ c.splice_at-left.auto.b ∙ c.loop-left.auto.b) c.requires.room,
      gather_owed (faced at.After-splice_at-left) c.requires.there c.large.ensures.0 (fit at.In-loop-left) c.judge.ensures.judges
          c.extent_at.ensures.0,
    )

pub returns-in_default : goal.returns-in_default
returns-in_default c =
    let at = goal.at.returns-in_default c in
    record {
      gathers_in =
          gather_found (faced at.After-splice_at-left) c.large.ensures.0 (fit at.In-loop-left) c.judge.ensures.judges c.in_default.is
          c.extent_at.ensures.0 c.hop.ensures;
      leaves_in = leaves_decided;
    }

-- one that does not

pub hash_with-hash-requires : goal.hash_with-hash-requires
hash_with-hash-requires c =
    let t = turn (goal.at.hash_with-hash-requires c).In-loop-left in
    let l = c.loop-left in (
      l.invariant.4,
      omega (arith, l.invariant.2, l.auto.members, c.judge.auto.members, t.row_within, c.requires.tables.members_fit),
      c.judge.ensures.linked_now.few _ c.in-Some.is,
    )

pub join_at-run-requires : goal.join_at-run-requires
join_at-run-requires c =
    let there = (goal.at.join_at-run-requires c).After-splice_at-left in
    let t = turn_there there in
    let s = c.extent_at.ensures.0 in (
      room_as (c.judge.auto.b ∙ c.splice_at-left.auto.b ∙ c.loop-left.auto.b) c.requires.room,
      c.requires.counted,
      face_ordered (faced there) c.requires.there,
      omega (arith, s, t.some_rows),
      omega (arith, s, t.inside),
    )

pub loop-left-smaller : goal.loop-left-smaller
loop-left-smaller c =
    let t = turn_there (goal.at.loop-left-smaller c).After-splice_at-left in
    omega (arith, t.some_rows, t.inside, c.extent_at.ensures.0)

pub loop-left-preserved : goal.loop-left-preserved
loop-left-preserved c =
    let at = goal.at.loop-left-preserved c in
    let face = faced at.After-splice_at-left in
    let fits = fit at.In-loop-left in
    let t = turn_there at.After-splice_at-left in
    let v = c.loop-left.invariant in
    let s = c.extent_at.ensures.0 in
    let told = c.in-Some.is in
    let judged = c.judge.ensures in (
      gather_more face c.large.ensures.0 fits judged.judges told s c.join_at-run.ensures,
      judged.linked_now.linked _ told,
      omega (arith, judged.linked_now.few _ told, v.2, t.some_rows, s),
      gather_hashed face c.requires.there c.large.ensures.0 fits judged.judges told v.3 c.hash_with-hash.ensures.0,
      c.hash_with-hash.ensures.1,
    )

pub returns : goal.returns
returns c =
    let v = c.loop-left.invariant in
    record {
      gathers_in = gather_end v.0 c.loop-left-test.false;
      leaves_in = leaves-members (omega (arith, v.2, (gather_few v.0 c.requires.there).0)) v.3 v.4;
    }
