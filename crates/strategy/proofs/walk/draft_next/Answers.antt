-- `strategy::walk::draft_next` meets its contract.
use mathlib.Core.Path.{◌≡◌, sym, ◌∙◌, subst}
use mathlib.Core.Bool.{true}
use borrow.Author.Tests.{not-true, not-false}
use native.Mathlib.Omega.{arith}
use Rattle.formula.specs.Strategy.{owns, moved}
use Rattle.rows.specs.Formulas.{formula_in}
use Rattle.next_function.specs.Next.{next_move}
use Rattle.solve.proofs.Holding.{readable}
use Rattle.strategy.specs.Inner.Drafts.{Drafted}
use Rattle.strategy.specs.Inner.Walking.{side_of}
use Rattle.strategy.proofs.Drafting.{none_drafted}
use Rattle.strategy.proofs.NextPair.{choosable, next-format, next-readable, next-owner, other-next, own-next, few_rows}
use Rattle.strategy.proofs.walk.draft_next.Goals as goal

pub next_function-n-requires : goal.next_function-n-requires
next_function-n-requires c =
    let p = c.requires in
    (choosable p.0.held p.0.some_left p.0.part_room, p.1)

pub is_existential-requires : goal.is_existential-requires
is_existential-requires c = (readable c.requires.0.held, c.next_function-n.ensures.named.inside)

pub returns-then-is_existential-d-clause-drafted : goal.returns-then-is_existential-d-clause-drafted
returns-then-is_existential-d-clause-drafted c =
    let h = c.requires.0.held in
    let e = c.next_function-n.ensures in
    let other = sym (next-owner h e c.args.d.exists c.is_existential.ensures) ∙ not-true _ c.if-is_existential-d.true in
    subst (Drafted c.args.d.to.layout c.args.out.now c.args.out.now c.args.d.to.at c.args.d.to.at)
    (other-next h e (side_of c.args.d) other) (none_drafted c.args.d.to.layout c.args.out.now c.args.d.to.at)

pub draft_pair-requires : goal.draft_pair-requires
draft_pair-requires c =
    let p = c.requires.0 in
    let e = c.next_function-n.ensures in (
      next-readable p.held e,
      record {
        same_format = p.draft.same_format ∙ sym (next-format p.held e);
        draftable = p.draft.draftable;
        behind = p.draft.behind;
        few = p.draft.few;
      },
      e.named.few,
    )

pub returns : goal.returns
returns c =
    let own : owns (side_of c.args.d) (formula_in c.args.s c.args.b.now).prefix (moved (next_move (formula_in c.args.s c.args.b.now))) ≡ true =
    sym (next-owner c.requires.0.held c.next_function-n.ensures c.args.d.exists c.is_existential.ensures) ∙ not-false _ c.if-is_existential-d.false in
    let h = c.requires.0.held in
    let e = c.next_function-n.ensures in
    let d = c.draft_pair.ensures in
    record {
      drafted = subst (Drafted c.args.d.to.layout c.args.out.now _ c.args.d.to.at _) (own-next h e (side_of c.args.d) own) d;
      upper_bound = omega (arith, d.next_row, few_rows h e);
    }
