-- `reduce::clauses::blank_clauses` meets its contract: the clauses passed are blanked. Assumes nothing.
use Prim.Native.Nat.{ℕ, ◌+◌}
use Rattle.reduce.proofs.Deciding.{clauses_start}
use Rattle.reduce.proofs.ClauseTurns.{new_rows, clause-literals, clause-left, clause-on, clauses_done}
use mathlib.Core.Path.{refl, ap, ◌∙◌}
use Rattle.reduce.proofs.clauses.blank_clauses.Goals as goal

pub loop-r-init : goal.loop-r-init
loop-r-init c = (clauses_start c.requires.0 c.first_clause-r.ensures c.requires.2, refl)

pub blank_literals-requires : goal.blank_literals-requires
blank_literals-requires c =
    let inv = c.loop-r.invariant in
    let h = c.loop-r-test.true in
    let to = ap (λ (n : ℕ). c.loop-r.r + 1 + n) c.children_at.ensures.0 in
    let from = c.first_literal.ensures in (
      c.requires.0.placed,
      clause-literals c.args.b.now c.requires.0 c.args.out.now c.loop-r.out c.requires.1 inv.1 inv.0 h from to,
      record {
        room = new_rows c.args.b.now c.requires.0 c.args.out.now c.loop-r.out c.requires.1 inv.1 inv.0;
        same = clause-left c.args.b.now c.requires.0 c.args.out.now c.loop-r.out c.requires.1 inv.1 inv.0 h from to;
      },
    )

pub loop-r-preserved : goal.loop-r-preserved
loop-r-preserved c =
    let inv = c.loop-r.invariant in
    let to = ap (λ (n : ℕ). c.loop-r.r + 1 + n) c.children_at.ensures.0 in (
      clause-on c.args.b.now c.requires.0 c.args.out.now c.loop-r.out c.requires.1 inv.1 inv.0
          c.loop-r-test.true c.first_literal.ensures to _ c.blank_literals.ensures,
      c.blank_literals.auto.out ∙ inv.1,
    )

pub returns : goal.returns
returns c =
    let inv = c.loop-r.invariant in
    clauses_done c.args.b.now c.requires.0 c.args.out.now c.loop-r.out c.requires.1 inv.1 inv.0 c.loop-r-test.false
