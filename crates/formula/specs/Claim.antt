-- The claim that pairs, wherever they come from, are a strategy that wins: a formula that has the wanted truth exactly if they do.
-- Assumes nothing.
use Rattle.std.specs.Prelude.{true, false, not, [], ◌∷◌}
use Rattle.formula.specs.Tree.{Quantifier, dual, Tree, lit, node, Forest, ∅, ◌▸◌, Prefix, Formula}
use Rattle.formula.specs.Strategy.{Pairs}

-- the negation of a tree, pushed to its literals
unfoldable mutual
  pub negated : Tree → Tree
  negated (lit s v) = lit (not s) v
  negated (node o ts) = node (dual o) (negated_all ts)

  pub negated_all : Forest → Forest
  negated_all ∅ = ∅
  negated_all (t ▸ ts) = negated t ▸ negated_all ts

-- of each pair, for exists: (x and not f) or (not x and f), that x differs from its function; for all: the dual
unfoldable pub broken : Quantifier → Pairs → Forest
broken q [] = ∅
broken q (c ∷ g) =
    node (dual q) (lit true c.variable ▸ negated c.function ▸ ∅) ▸ node (dual q) (lit false c.variable ▸ c.function ▸ ∅) ▸ broken q g

-- every row of the other side
unfoldable pub all_rows : Quantifier → Prefix → Prefix
all_rows q [] = []
all_rows q (z ∷ p) = record { quantifier = q; variable = z.variable } ∷ all_rows q p

-- for exists: all rows for all, OR of the first matrix and what the pairs give; for the side for all the dual
unfoldable pub claim : Quantifier → Formula → Pairs → Formula
claim q f g = record { prefix = all_rows (dual q) f.prefix; matrix = node q (f.matrix ▸ broken q g) }
