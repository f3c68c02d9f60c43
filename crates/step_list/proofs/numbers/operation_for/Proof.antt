-- `step_list::numbers::operation_for` meets its contract. Assumes nothing.
use Rattle.step_list.proofs.Arrays.{expands_else}
use borrow.Author.Rules.{rules}
use Rattle.step_list.proofs.numbers.operation_for.Statement.{statement}
use Rattle.step_list.proofs.numbers.operation_for.Tie as tie

returns-then-number-eq0 : tie.Need-returns-then-number-eq0
returns-then-number-eq0 c = search rules

returns : tie.Need-returns
returns c = expands_else c.args.number c.if-number-eq0.false

pub operation_for_spec : {M : Type 1} → statement M
operation_for_spec = tie.close (tie.spec
    returns-then-number-eq0
    returns)
