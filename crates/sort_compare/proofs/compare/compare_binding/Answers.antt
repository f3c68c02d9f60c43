-- `sort_compare::compare::compare_binding` meets its contract.
use Rattle.sort_compare.proofs.Prefixes.{binding_compared}
use Rattle.sort_compare.proofs.compare.compare_binding.Goals as goal

pub returns : goal.returns
returns c =
    binding_compared c.requires.0 c.requires.2 c.requires.1 c.requires.3 c.kind_at.ensures c.kind_at-2.ensures c.argument_at.ensures.0
    c.argument_at-2.ensures.0 c.cmp.ensures c.cmp-2.ensures c.then.ensures
