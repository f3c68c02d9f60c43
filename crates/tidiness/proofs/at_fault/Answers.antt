-- `tidiness::at_fault` meets its contract: by the row's kind and count of children, then by its children.
use Rattle.std.proofs.Common.{◌+◌, sym, ap₂, ◌∙◌, arith}
use Rattle.subtrees.proofs.Siblings.{Children, children_of}
use Rattle.tidiness.specs.Faults.{some_kind}
use Rattle.tidiness.proofs.Faults.{fault_literal, fault_childless, fault_alone, fault_more}
use Rattle.tidiness.proofs.at_fault.Goals.{After-argument_at}
use Rattle.tidiness.proofs.at_fault.Goals as goal

pub returns-then-kind-le-NEGATIVE : goal.returns-then-kind-le-NEGATIVE
returns-then-kind-le-NEGATIVE c =
    let k = c.kind_at-kind.ensures in
    sym (fault_literal c.args.i _ (omega arith))

pub returns-in-0 : goal.returns-in-0
returns-in-0 c =
    let k = c.kind_at-kind.ensures in
    sym (fault_childless c.args.i _ (omega arith) (sym c.argument_at.ensures.0 ∙ c.in-0.is))

pub returns-in-1 : goal.returns-in-1
returns-in-1 c =
    let k = c.kind_at-kind.ensures in
    sym (fault_alone c.args.i _ (omega arith) (sym c.argument_at.ensures.0 ∙ c.in-1.is))

-- the children stand from the next row on
children : (c : After-argument_at) → Children c.args.s c.args.b.now c.args.i (c.args.i + 1) c.argument_at.result
children c =
    let k = c.kind_at-kind.ensures in
    children_of c.args.b.now c.requires.0.readable c.args.i c.requires.1 (omega arith) (omega arith) c.argument_at.ensures.0

pub some_kind-requires : goal.some_kind-requires
some_kind-requires c = (c.requires.0, (children (goal.at.some_kind-requires c).After-argument_at).few)

pub returns-in_default : goal.returns-in_default
returns-in_default c =
    let k = c.kind_at-kind.ensures in
    let x = c.argument_at.ensures.0 in
    c.some_kind.ensures ∙ ap₂ some_kind k (children (goal.at.returns-in_default c).After-argument_at).are ∙
    sym (fault_more c.args.i _ (omega arith) (omega arith))
