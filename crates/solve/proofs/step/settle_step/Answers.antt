-- `solve::step::settle_step` meets its contract: the settled sheet is written behind, tidied, and brought to the front.
use Rattle.std.proofs.Common.{refl, sym, ◌≤◌, length, arith}
use lib.Seq.{length-take-le}
use Rattle.rows.specs.Layouts.{format_in}
use Rattle.rows.specs.Formulas.{formula_in}
use Rattle.elimination.specs.Steps.{settled_by}
use Rattle.solve.proofs.Fetching.{in_front}
use Rattle.solve.proofs.Arriving.{some_left, few_rows, zeros_behind, fetchable, taken, settle-room, settle-puts, settle-arrives, settle-next}
use Rattle.solve.proofs.step.settle_step.Goals as goal

pub slice_bounds-settle_into-end : goal.slice_bounds-settle_into-end
slice_bounds-settle_into-end c =
    let p = c.requires in
    omega (arith, c.sheet_length-need.ensures, settle-room p.0 p.1 p.2, p.0.second_room)

pub slice_bounds-settle_into-end-2 : goal.slice_bounds-settle_into-end-2
slice_bounds-settle_into-end-2 c =
    let p = c.requires in
    sym
    (length-take-le c.sheet_length-need.result c.args.second.now
    (omega (arith, c.sheet_length-need.ensures, settle-room p.0 p.1 p.2, p.0.second_room)))

pub settle_into-sheet-requires : goal.settle_into-sheet-requires
settle_into-sheet-requires c =
    let p = c.requires in
    let enough : c.sheet_length-need.result ≤ length c.args.second.now
    = omega (arith, c.sheet_length-need.ensures, settle-room p.0 p.1 p.2, p.0.second_room) in
    settle-puts p.0 p.1 p.2 (omega (arith, c.sheet_length-need.ensures, length-take-le _ c.args.second.now enough))

pub bring-requires : goal.bring-requires
bring-requires c =
    let s = c.args.s.sheet in
    let p = c.requires in
    let few = few_rows p.0 in
    let made = c.settle_into-sheet.ensures in
    let in_second = in_front (format_in s) (settled_by c.args.p (formula_in s c.args.first.now)) _ _ made.out_after refl in
    record {
      few_from = few;
      few_to = (omega (arith, few.0, made.variables_value.0), omega (arith, few.1, made.variables_value.1));
      fetchable = fetchable s.format (settle-arrives p.0 p.1 p.2) _ in_second made.value p.0.first_room;
      zeros = zeros_behind p.0;
    }

pub returns : goal.returns
returns c =
    let s = c.args.s.sheet in
    let p = c.requires in
    let some = some_left p.0 p.1 in
    let made = c.settle_into-sheet.ensures in
    let less = made.variables_value.0 in
    let in_second = in_front (format_in s) (settled_by c.args.p (formula_in s c.args.first.now)) _ _ made.out_after refl in
    taken c.args.s _ c.args.first.now (settle-arrives p.0 p.1 p.2) _ in_second made.value
    (length c.args.first.now) p.0.first_room c.bring.ensures (settle-next p.0 p.1 p.2 _ _)
    (omega (arith, some, less)) (omega (arith, some, less)) c.args.second.now
