-- `sort_compare::compare::compare_bound` meets its contract.
use Rattle.std.proofs.Common.{sym, ◌∙◌, arith}
use Rattle.sort_compare.proofs.Prefixes.{passed_differ, passed_on, passed_out}
use Rattle.sort_compare.proofs.compare.compare_bound.Goals as goal

pub returns-then-is_ne : goal.returns-then-is_ne
returns-then-is_ne c =
    passed_differ c.requires.0 c.requires.1 c.requires.2 c.loop-r.invariant c.loop-r-test.true c.compare_binding-o.result c.compare_binding-o.ensures
    (sym c.is_ne.ensures ∙ c.if-is_ne.true)

pub loop-r-preserved : goal.loop-r-preserved
loop-r-preserved c =
    passed_on c.requires.0 c.requires.1 c.requires.2 c.loop-r.invariant c.loop-r-test.true c.compare_binding-o.result (omega arith) c.compare_binding-o.ensures
    (sym c.is_ne.ensures ∙ c.if-is_ne.false)

pub returns : goal.returns
returns c = passed_out c.requires.0 c.requires.1 c.requires.2 c.loop-r.invariant c.loop-r-test.false
