-- Pairs written as a matrix, and read back from a matrix of any origin.
-- Assumes nothing.
use Rattle.std.specs.Prelude.{true, false, [], ◌∷◌, ℕ}
use Rattle.std.proofs.Math.Option.{Option, none, some}
use Rattle.formula.specs.Tree.{and, or, Tree, lit, node, Forest, ∅, ◌▸◌}
use Rattle.formula.specs.Strategy.{Pair, Pairs}

-- OR of one AND for each pair: the variable's positive literal, then the function
unfoldable pub pair_trees : Pairs → Forest
pair_trees [] = ∅
pair_trees (c ∷ g) = node and (lit true c.variable ▸ c.function ▸ ∅) ▸ pair_trees g

unfoldable pub strategy_matrix : Pairs → Tree
strategy_matrix g = node or (pair_trees g)

-- read back: a tree of another form has no pairs
unfoldable pub read_function : ℕ → Forest → Option Pair
read_function x ∅ = none
read_function x (t ▸ ∅) = some (record { variable = x; function = t })
read_function x (t ▸ u ▸ ts) = none

unfoldable pub read_children : Forest → Option Pair
read_children ∅ = none
read_children (lit true x ▸ ts) = read_function x ts
read_children (lit false x ▸ ts) = none
read_children (node o us ▸ ts) = none

unfoldable pub read_pair : Tree → Option Pair
read_pair (lit s v) = none
read_pair (node and ts) = read_children ts
read_pair (node or ts) = none

unfoldable pub and_rest : Option Pair → Option Pairs → Option Pairs
and_rest none g = none
and_rest (some c) none = none
and_rest (some c) (some g) = some (c ∷ g)

unfoldable pub read_all : Forest → Option Pairs
read_all ∅ = some []
read_all (t ▸ ts) = and_rest (read_pair t) (read_all ts)

unfoldable pub pairs_of : Tree → Option Pairs
pairs_of (lit s v) = none
pairs_of (node and ts) = none
pairs_of (node or ts) = read_all ts
