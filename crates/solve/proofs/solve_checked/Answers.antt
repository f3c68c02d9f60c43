-- `solve::solve_checked` meets its contract: a sheet that fits is copied, and the run begins with it.
use Rattle.std.proofs.Common.{◌∙◌, arith}
use Rattle.solve.proofs.Answering.{short_call, raw-ready, solved-call}
use Rattle.solve.proofs.solve_checked.Goals as goal

pub returns-then-shorter-sheet : goal.returns-then-shorter-sheet
returns-then-shorter-sheet c =
    short_call c.requires c.args.first.now c.args.second.now (omega (arith, c.shorter.ensures, c.if-shorter-sheet.true))

pub run_raw-requires : goal.run_raw-requires
run_raw-requires c =
    raw-ready c.requires c.args.first.now c.args.second.now (omega (arith, c.shorter.ensures, c.if-shorter-sheet.false)) c.copy_front.ensures

pub returns : goal.returns
returns c =
    c.run_raw.ensures ∙
    solved-call c.requires c.args.first.now c.args.second.now (omega (arith, c.shorter.ensures, c.if-shorter-sheet.false)) c.copy_front.ensures
