-- `conversion::convert_within` meets its contract.
use Rattle.std.proofs.Common.{arith}
use Rattle.checking.proofs.CheckedSheets.{sheet_readable}
use Rattle.conversion.proofs.Tests.{short, convertible, converted_call}
use Rattle.conversion.proofs.convert_within.Goals as goal

pub sheet_length-length-requires : goal.sheet_length-length-requires
sheet_length-length-requires c =
    let read = sheet_readable c.requires.accepted in
    (omega (arith, read.few_variables), omega (arith, read.few_nodes))

pub returns-then-out-length : goal.returns-then-out-length
returns-then-out-length c = short c.requires c.args.out.now (omega (arith, c.sheet_length-length.ensures))

pub convert-requires : goal.convert-requires
convert-requires c = convertible c.requires c.args.out.now (omega (arith, c.sheet_length-length.ensures))

pub returns : goal.returns
returns c =
    let length = c.sheet_length-length.ensures in
    converted_call c.requires c.args.out.now (omega (arith, length)) length c.convert.ensures.out_after
