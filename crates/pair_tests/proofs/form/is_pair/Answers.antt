-- `pair_tests::form::is_pair` meets its contract.
use Rattle.std.proofs.Common.{sym, ◌∙◌, arith}
use borrow.Author.Tests.{eqb-true, eqb-false}
use Rattle.pair_tests.proofs.Children.{no_and, no_two, next_inside, pair_here}
use Rattle.pair_tests.proofs.form.is_pair.Goals as goal
use Rattle.pair_tests.proofs.form.is_pair.Goals.{then-kind_at-eq-AND, else-kind_at-eq-AND}

pub kind_at-requires-then-children_at-eq2 : goal.kind_at-requires-then-children_at-eq2
kind_at-requires-then-children_at-eq2 c =
    let a = c.args in (
      c.requires.0,
      elim c.if-kind_at-eq-AND.branch [
        | then-kind_at-eq-AND w ↦
            let two = eqb-true w.children_at.result 2 (sym w.value-is ∙ c.if-children_at-eq2.true) in
            omega (arith, next_inside a.b.now c.requires.0 a.i c.requires.1 (sym w.children_at.ensures.0 ∙ two))
        | else-kind_at-eq-AND w ↦ absurd (w.if-kind_at-eq-AND.false (eqb-true c.kind_at.result 5 (sym w.value-is ∙ c.if-children_at-eq2.true)))
      ],
    )

pub returns-then-children_at-eq2 : goal.returns-then-children_at-eq2
returns-then-children_at-eq2 c =
    let a = c.args in
    elim c.if-kind_at-eq-AND.branch [
      | then-kind_at-eq-AND w ↦
          let two = eqb-true w.children_at.result 2 (sym w.value-is ∙ c.if-children_at-eq2.true) in
          pair_here a.b.now c.requires.0 a.i c.requires.1 (omega arith) (sym c.kind_at.ensures ∙ w.if-kind_at-eq-AND.true)
          (sym w.children_at.ensures.0 ∙ two) c.kind_at-then-children_at-eq2.ensures
      | else-kind_at-eq-AND w ↦ absurd (w.if-kind_at-eq-AND.false (eqb-true c.kind_at.result 5 (sym w.value-is ∙ c.if-children_at-eq2.true)))
    ]

pub returns-else-children_at-eq2 : goal.returns-else-children_at-eq2
returns-else-children_at-eq2 c =
    c.if-children_at-eq2.false ∙
    elim c.if-kind_at-eq-AND.branch [
      | then-kind_at-eq-AND w ↦
          no_two _ (sym c.kind_at.ensures ∙ w.if-kind_at-eq-AND.true)
          (λ e. eqb-false w.children_at.result 2 (sym w.value-is ∙ c.if-children_at-eq2.false) (w.children_at.ensures.0 ∙ e))
      | else-kind_at-eq-AND w ↦ no_and _ (λ e. w.if-kind_at-eq-AND.false (c.kind_at.ensures ∙ e))
    ]
