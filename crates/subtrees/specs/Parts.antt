-- The relevant subtree of a tree for a set of literals, by node rows ("Expand x").
-- Assumes nothing.
use Rattle.std.specs.Prelude.{true, cond, ℕ, suc, ◌+◌}
use Rattle.formula.specs.Tree.{Tree, lit, node, Forest, ∅, ◌▸◌, Literals, rows, rows_all, has, count}
use Rattle.formula.specs.Expand.{relevant, one_relevant, all_relevant}
use Rattle.subtrees.specs.declared.relevant.Relevant.{Relevant}

-- the relevant subtree that is a literal at row i
abbrev pub literal_part : ℕ → Relevant
literal_part i = record { operator = i; all = true; rows = 1; children = 0 }

-- the relevant subtree whose operator is at row i
unfoldable pub operator_part : Literals → ℕ → Forest → Relevant
operator_part L i ts =
    record {
      operator = i;
      all = all_relevant L ts;
      rows = 1 + rows_all (relevant L ts);
      children = count (relevant L ts);
    }

-- The relevant subtree of the tree at row i: the deepest operator above all literals, whether every child is relevant, E, and
-- how many children are relevant. A literal that is alone is itself the part.
unfoldable mutual
  pub relevant_subtree : Literals → ℕ → Tree → Relevant
  relevant_subtree L i (lit s v) = literal_part i
  relevant_subtree L i (node o ts) =
      cond (one_relevant L ts) (part_below L (suc i) ts) (operator_part L i ts)

  pub part_below : Literals → ℕ → Forest → Relevant
  part_below L i ∅ = record { operator = i; all = true; rows = 0; children = 0 }
  part_below L i (t ▸ ts) = cond (has L t) (relevant_subtree L i t) (part_below L (i + rows t) ts)
