-- `sort_compare::compare::compare_prefixes` meets its contract.
use Rattle.sort_compare.proofs.Prefixes.{by_number, by_rows}
use Rattle.sort_compare.proofs.compare.compare_prefixes.Goals as goal

pub returns-then-s-t : goal.returns-then-s-t
returns-then-s-t c = by_number c.requires.0 c.requires.1 c.if-s-t.true c.cmp.ensures

pub returns : goal.returns
returns c = by_rows c.requires.0 c.requires.1 c.if-s-t.false c.compare_bound.ensures
