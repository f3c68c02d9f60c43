-- `strategy::walk::open_turn` meets its contract. Assumes nothing.
use Rattle.std.proofs.Common.{◌≡◌, ◌≤◌, ◌++◌, ◌∙◌, sym, ap, subst, min, length, take, drop, arith}
use lib.ListN.{length-append, length-drop}
use lib.Seq.{length-take-le}
use Rattle.sheet.specs.Trace.{room}
use Rattle.formula.specs.Solve.{halt, ended, step}
use Rattle.solve.specs.Answers.{verdict_of}
use Rattle.solve.specs.Inner.Running.{fits_in, reached}
use Rattle.solve.proofs.Arriving.{few_rows, sheet-room, some_left}
use Rattle.strategy.proofs.Walking.{never_ended}
use Rattle.strategy.proofs.walk.open_turn.Goals as goal
use Rattle.strategy.proofs.walk.open_turn.Goals.{After-sheet_length-need, After-shorter-room}

pub sheet_length-need-requires : goal.sheet_length-need-requires
sheet_length-need-requires c = few_rows c.requires.0.run

-- the second buffer has room for the sheet
enough : (c : After-sheet_length-need) → c.sheet_length-need.result ≤ length c.args.second.now
enough c = let r = c.requires.0.run in omega (arith, c.sheet_length-need.ensures, sheet-room r, r.second_room)

part_length : (c : After-sheet_length-need) → length (take c.sheet_length-need.result c.args.second.now) ≡ c.sheet_length-need.result
part_length c = length-take-le c.sheet_length-need.result c.args.second.now (enough c)

pub draft_next-at-requires : goal.draft_next-at-requires
draft_next-at-requires c =
    let p = c.requires in (
      record {
        most = room c.args.first.now c.args.second.now;
        held = p.0.run.held;
        some_left = some_left p.0.run p.1;
        part_room = omega (arith, c.sheet_length-need.ensures, part_length (goal.at.draft_next-at-requires c).After-sheet_length-need);
        draft = p.0.draft;
      },
      p.2,
    )

pub slice_bounds-draft_next-end : goal.slice_bounds-draft_next-end
slice_bounds-draft_next-end c = enough (goal.at.slice_bounds-draft_next-end c).After-sheet_length-need

pub slice_bounds-draft_next-end-2 : goal.slice_bounds-draft_next-end-2
slice_bounds-draft_next-end-2 c = sym (part_length (goal.at.slice_bounds-draft_next-end-2 c).After-sheet_length-need)

-- the second buffer is as long as before, so there is as much room
same_room : (c : After-shorter-room) → c.shorter-room.result ≡ room c.args.first.now c.args.second.now
same_room c =
    let r = c.requires.0.run in
    let n = c.sheet_length-need.result in
    let behind = drop n c.args.second.now in
    let fits : n ≤ length c.args.second.now = omega (arith, c.sheet_length-need.ensures, sheet-room r, r.second_room) in
    c.shorter-room.ensures ∙
    ap (min (length c.args.first.now))
    (length-append c.draft_next-at.new.part behind ∙ omega (
      arith,
      c.draft_next-at.auto.part,
      length-take-le n c.args.second.now fits,
      fits,
      length-drop n c.args.second.now,
    ))

-- a sheet that isn't decided has no step that ends the run
pub returns-in-Ended : goal.returns-in-Ended
returns-in-Ended c =
    let v = verdict_of c.in-Ended.field-0 in
    absurd
    (never_ended c.args.s c.requires.0.run.held c.requires.1 v
    (subst (λ m. step (fits_in c.args.s m) (reached c.args.s c.args.first.now) ≡ halt (ended v))
    (same_room (goal.at.returns-in-Ended c).After-shorter-room) c.in-Ended.ensures.0))
