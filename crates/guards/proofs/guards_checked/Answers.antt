-- `guards::guards_checked` meets its contract: both tests, and then what is found.
use Rattle.std.proofs.Common.{◌∙◌, ◌≤◌, length, arith}
use Rattle.sheet.specs.Guards.{least_room}
use Rattle.rows.specs.Formulas.{matrix_in}
use Rattle.checking.proofs.CheckedSheets.{sheet_readable}
use Rattle.subtrees.specs.Subtrees.{forest_in, subtree_in}
use Rattle.solve.proofs.Answering.{all_zeros}
use Rattle.guards.proofs.Deciding.{and-kind, other_kind, sheet-size, other_root, short_call, told_call}
use Rattle.guards.proofs.guards_checked.Goals as goal

pub kind_at-requires : goal.kind_at-requires
kind_at-requires c = let r = sheet_readable c.requires in (r, r.some_nodes)

pub returns-then-kind_at-ne-AND : goal.returns-then-kind_at-ne-AND
unfolding matrix_in subtree_in forest_in
returns-then-kind_at-ne-AND c =
    other_root c.requires c.args.out.now c.args.first.now c.args.second.now
    (other_kind (subtree_in c.args.s c.args.sheet.now 0) (λ e. omega (arith, c.kind_at.ensures)))

pub returns-then-shorter-sheet : goal.returns-then-shorter-sheet
unfolding matrix_in subtree_in forest_in
returns-then-shorter-sheet c =
    short_call c.requires c.args.out.now c.args.first.now c.args.second.now
    (and-kind (subtree_in c.args.s c.args.sheet.now 0) (omega (arith, c.kind_at.ensures, c.if-kind_at-ne-AND.false)))
    (omega (arith, c.shorter-work.ensures, c.shorter.ensures, c.if-shorter-sheet.true))

pub find-answer-requires : goal.find-answer-requires
unfolding matrix_in subtree_in forest_in
find-answer-requires c =
    let place : length c.args.sheet.now ≤ least_room c.args.out.now c.args.first.now c.args.second.now
    = omega (arith, c.shorter-work.ensures, c.shorter.ensures, c.if-shorter-sheet.false) in (
      record {
        sheet = c.requires;
        root_is_and = and-kind (subtree_in c.args.s c.args.sheet.now 0) (omega (arith, c.kind_at.ensures, c.if-kind_at-ne-AND.false));
        has_room = omega (arith, place, sheet-size c.requires);
      },
      omega (arith, place, sheet-size c.requires),
    )

pub returns : goal.returns
unfolding matrix_in subtree_in forest_in
returns c =
    let found = c.find-answer in
    told_call c.requires c.args.out.now c.args.first.now c.args.second.now
    (and-kind (subtree_in c.args.s c.args.sheet.now 0) (omega (arith, c.kind_at.ensures, c.if-kind_at-ne-AND.false)))
    (omega (arith, c.shorter-work.ensures, c.shorter.ensures, c.if-shorter-sheet.false)) found.ensures
    (c.clear.ensures ∙ all_zeros found.new.first found.auto.first) (c.clear-2.ensures ∙ all_zeros found.new.second found.auto.second)
