-- The goals of `clauses::survey::first_conjunct`. Assumes nothing.
use Rattle.std.proofs.Common.{ap, ◌∙◌, arith}
use Rattle.formula.specs.Tree.{Tree}
use Rattle.rows.specs.Formulas.{matrix_in}
use Rattle.subtrees.specs.Subtrees.{top}
use Rattle.subtrees.proofs.Siblings.{subtree_root}
use Rattle.clauses.proofs.Counting.{first_and, first_other}
use Rattle.clauses.proofs.survey.first_conjunct.Goals as goal

pub returns-then-kind_at-eq-AND : goal.returns-then-kind_at-eq-AND
returns-then-kind_at-eq-AND c =
    let root = ap (λ (t : Tree). (top t).kind) (subtree_root c.args.b.now c.requires) in
    (first_and (matrix_in c.args.s c.args.b.now) (c.kind_at.ensures ∙ root) c.if-kind_at-eq-AND.true, omega arith)

pub returns : goal.returns
returns c =
    let root = ap (λ (t : Tree). (top t).kind) (subtree_root c.args.b.now c.requires) in
    (first_other (matrix_in c.args.s c.args.b.now) (c.kind_at.ensures ∙ root) c.if-kind_at-eq-AND.false, omega arith)
