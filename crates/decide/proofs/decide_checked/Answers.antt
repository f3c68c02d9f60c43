-- `decide::decide_checked` meets its contract: the room, and the search's decision. Assumes nothing.
use Rattle.std.proofs.Common.{◌∙◌, arith}
use Rattle.solve.proofs.Answering.{all_zeros, raw-ready}
use Rattle.decide.proofs.Answering.{short_call, decided-call}
use Rattle.decide.proofs.decide_checked.Goals as goal

pub returns-then-shorter-sheet : goal.returns-then-shorter-sheet
returns-then-shorter-sheet c =
    short_call c.requires c.args.budget c.args.first.now c.args.second.now c.args.stack.now
    (omega (arith, c.shorter.ensures, c.if-shorter-sheet.true))

pub seek-d-requires : goal.seek-d-requires
seek-d-requires c =
    raw-ready c.requires c.args.first.now c.args.second.now (omega (arith, c.shorter.ensures, c.if-shorter-sheet.false)) c.copy_front.ensures

pub returns : goal.returns
returns c =
    decided-call c.requires c.args.budget c.args.first.now c.args.second.now c.args.stack.now (omega (arith, c.shorter.ensures, c.if-shorter-sheet.false))
    c.copy_front.ensures c.seek-d.ensures
    (c.clear.ensures ∙ all_zeros c.seek-d.new.first (c.seek-d.auto.first ∙ c.copy_front.auto.out))
    (c.clear-2.ensures ∙ all_zeros c.seek-d.new.second c.seek-d.auto.second)
    (c.clear-3.ensures ∙ all_zeros c.seek-d.new.stack c.seek-d.auto.stack)
