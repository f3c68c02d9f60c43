-- `relevance::variable::presence_of` meets its contract: if a literal occurs, the tables have the chain.
use Rattle.std.proofs.Common.{◌≡◌, true, sym, ◌∙◌}
use borrow.Author.Tests.{lt-ltb, le-ltb}
use Rattle.formula.specs.Tree.{of, has}
use Rattle.rows.specs.Formulas.{matrix_in}
use Rattle.relevance.proofs.Growth.{absent, present}
use Rattle.relevance.proofs.variable.presence_of.Goals as goal
use Rattle.relevance.proofs.variable.presence_of.Goals.{Else-s-first}

occurs : (c : Else-s-first) → let a = c.args in has (of a.x) (matrix_in a.s a.b.now) ≡ true
occurs c = sym (c.requires.1.tells c.args.x c.requires.2) ∙ lt-ltb _ _ c.if-s-first.false

pub returns-then-s-first : goal.returns-then-s-first
returns-then-s-first c = absent (of c.args.x) _ (sym (c.requires.1.tells c.args.x c.requires.2) ∙ le-ltb _ _ c.if-s-first.true)

pub relevant_subtree-requires : goal.relevant_subtree-requires
relevant_subtree-requires c =
    let x = c.args.x in
    record {
      indexed = c.requires.0;
      chosen = of x;
      chain = c.requires.1.chained x c.requires.2 (occurs (goal.at.relevant_subtree-requires c).Else-s-first);
    }

pub returns : goal.returns
returns c =
    let x = c.args.x in
    let some = occurs (goal.at.returns c).Else-s-first in
    present (of x) _ some (c.relevant_subtree.ensures (of x) (c.requires.1.chained x c.requires.2 some))
