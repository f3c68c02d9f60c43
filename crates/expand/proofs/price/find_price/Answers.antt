-- `expand::price::find_price` meets its contract.
use Rattle.std.proofs.Common.{sym, ◌∙◌}
use Rattle.expand.proofs.price.find_price.Goals as goal

pub returns-then-not-is_innermost : goal.returns-then-not-is_innermost
returns-then-not-is_innermost c = sym c.is_innermost.ensures ∙ c.if-not-is_innermost.true

pub returns : goal.returns
returns c = (sym c.is_innermost.ensures ∙ c.if-not-is_innermost.false, c.price_row.ensures, c.fill_occurrences.ensures)
