-- The function of a variable before it is tidied, for the functions that write it.
-- Assumes nothing.
use Rattle.std.specs.Prelude.{Bool, true, ℕ}
use Rattle.std.proofs.Math.Option.{Option, none, some}
use Rattle.formula.specs.Tree.{Quantifier, Tree, constant, of, assign}
use Rattle.formula.specs.Settle.{value}
use Rattle.formula.specs.Strategy.{relevant_subtree}

unfoldable pub raw_function : Quantifier → ℕ → Tree → Option Bool → Tree
raw_function q x t (some b) = constant b
raw_function q x t none = assign x (value q true) (relevant_subtree (of x) t)
