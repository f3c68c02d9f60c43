-- `response::function::write_selection` meets its contract.
use Rattle.response.proofs.function.write_selection.Goals as goal

pub write_some-requires : goal.write_some-requires
write_some-requires c = (c.requires.0, c.if-p.false, c.requires.1 c.if-p.false)
