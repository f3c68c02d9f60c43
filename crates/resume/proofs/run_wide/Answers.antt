-- `resume::run_wide` meets its contract.
use Rattle.resume.proofs.Widened.{raw-ready, ran-wide}
use Rattle.resume.proofs.run_wide.Goals as goal

pub run_raw-requires : goal.run_raw-requires
run_raw-requires c = raw-ready c.requires c.convert-t.ensures.out_after c.convert-t.auto.out c.convert-t.ensures.value

pub returns : goal.returns
returns c = ran-wide c.requires c.convert-t.ensures.out_after c.convert-t.auto.out c.convert-t.ensures.value c.run_raw.ensures
