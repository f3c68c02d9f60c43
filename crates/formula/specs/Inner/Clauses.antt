-- Universal reduction by rows, as the code makes it (N8): a literal that goes becomes OR of nothing in its place, and a tidy tree is of the
-- clause profile exactly if no operator except the root is AND.
-- Assumes nothing.
use Rattle.std.specs.Prelude.{Bool, true, false, ◌||◌, cond}
use Rattle.formula.specs.Tree.{and, or, Tree, lit, node, Forest, ∅, ◌▸◌, Prefix}
use Rattle.formula.specs.Reduce.{stays}

unfoldable pub blank : Prefix → Tree → Tree → Tree
blank p c t = cond (stays p c t) t (node or ∅)

unfoldable pub blank_forest : Prefix → Tree → Forest → Forest
blank_forest p c ∅ = ∅
blank_forest p c (t ▸ ts) = blank p c t ▸ blank_forest p c ts

unfoldable pub blank_clause : Prefix → Tree → Tree
blank_clause p (lit s v) = blank p (lit s v) (lit s v)
blank_clause p (node o ts) = node o (blank_forest p (node o ts) ts)

unfoldable pub blank_all : Prefix → Forest → Forest
blank_all p ∅ = ∅
blank_all p (t ▸ ts) = blank_clause p t ▸ blank_all p ts

unfoldable pub blank_tree : Prefix → Tree → Tree
blank_tree p (lit s v) = blank_clause p (lit s v)
blank_tree p (node or ts) = blank_clause p (node or ts)
blank_tree p (node and ts) = node and (blank_all p ts)

unfoldable mutual
  pub has_and : Tree → Bool
  has_and (lit s v) = false
  has_and (node and ts) = true
  has_and (node or ts) = some_and ts

  pub some_and : Forest → Bool
  some_and ∅ = false
  some_and (t ▸ ts) = has_and t || some_and ts

unfoldable pub and_below : Tree → Bool
and_below (lit s v) = false
and_below (node o ts) = some_and ts
