-- `split::split_checked` meets its contract: each test in turn, and then the sheet under the values.
use Rattle.std.proofs.Common.{ap, not, arith}
use Rattle.checking.proofs.CheckedSheets.{sheet_readable}
use Rattle.split.proofs.Splitting.{bad_call, many_call, short_call, splittable, split-accepted}
use Rattle.split.proofs.split_checked.Goals as goal

pub returns-then-not-are_values : goal.returns-then-not-are_values
returns-then-not-are_values c = bad_call c.requires c.args.values.now c.args.out.now c.are_values.ensures (ap not c.if-not-are_values.true)

pub returns-then-s-values : goal.returns-then-s-values
returns-then-s-values c =
    many_call c.requires c.args.values.now c.args.out.now c.are_values.ensures (ap not c.if-not-are_values.false) (omega (arith, c.if-s-values.true))

pub sheet_length-requires : goal.sheet_length-requires
sheet_length-requires c =
    let read = sheet_readable c.requires in
    (omega (arith, read.few_variables), omega (arith, read.few_nodes))

pub returns-then-out-sheet_length : goal.returns-then-out-sheet_length
returns-then-out-sheet_length c =
    short_call c.requires c.args.values.now c.args.out.now c.are_values.ensures (ap not c.if-not-are_values.false)
    (omega (arith, c.if-s-values.false)) c.sheet_length.ensures (omega (arith, c.if-out-sheet_length.true))

pub split_into-requires : goal.split_into-requires
split_into-requires c =
    splittable c.requires c.args.values.now c.args.out.now c.are_values.ensures (ap not c.if-not-are_values.false)
    (omega (arith, c.if-s-values.false)) c.sheet_length.ensures (omega (arith, c.if-out-sheet_length.false))

pub returns : goal.returns
returns c =
    split-accepted c.requires c.args.values.now c.args.out.now c.are_values.ensures (ap not c.if-not-are_values.false)
    (omega (arith, c.if-s-values.false)) c.sheet_length.ensures (omega (arith, c.if-out-sheet_length.false))
    c.split_into.ensures.out_after c.split_into.ensures.value
