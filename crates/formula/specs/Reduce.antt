-- The clause profile and universal reduction (N8).
-- Assumes nothing.
use Rattle.std.specs.Prelude.{Bool, true, false, not, ◌&&◌, ◌||◌, cond, [], ◌∷◌, ℕ}
use Rattle.formula.specs.Tree.{and, or, same_op, exists, for_all, Tree, lit, node, Forest, ∅, ◌▸◌, Prefix, Formula, binds, quantifier_of, some_child, keep}
use Rattle.formula.specs.Tidy.{tidy}
use Rattle.formula.specs.Expand.{after, occurs}

-- a clause: a literal, or OR of literals
unfoldable pub is_literal : Tree → Bool
is_literal (lit s v) = true
is_literal (node o ts) = false

unfoldable pub is_clause : Tree → Bool
is_clause (lit s v) = true
is_clause (node and ts) = false
is_clause (node or ts) = not (some_child (λ t. not (is_literal t)) ts)

-- the profile: AND of clauses; a root that is a clause is taken as a single one
unfoldable pub in_profile : Tree → Bool
in_profile (lit s v) = true
in_profile (node or ts) = is_clause (node or ts)
in_profile (node and ts) = not (some_child (λ t. not (is_clause t)) ts)

-- some row of the prefix is existential and has a literal in the clause
unfoldable pub has_existential : Prefix → Tree → Bool
has_existential [] c = false
has_existential (z ∷ p) c = (same_op exists z.quantifier && occurs c z.variable) || has_existential p c

-- the literals of x go: x is universal, and no existential literal of the clause comes after it in the prefix
unfoldable pub goes : Prefix → Tree → ℕ → Bool
goes p c x = binds p x && (same_op for_all (quantifier_of p x) && not (has_existential (after x p) c))

unfoldable pub stays : Prefix → Tree → Tree → Bool
stays p c (lit s v) = not (goes p c v)
stays p c (node o ts) = true

-- the clause without the literals that go; one that loses all becomes OR of nothing
unfoldable pub reduce_clause : Prefix → Tree → Tree
reduce_clause p (lit s v) = cond (goes p (lit s v) v) (node or ∅) (lit s v)
reduce_clause p (node o ts) = node o (keep (stays p (node o ts)) ts)

unfoldable pub reduce_all : Prefix → Forest → Forest
reduce_all p ∅ = ∅
reduce_all p (t ▸ ts) = reduce_clause p t ▸ reduce_all p ts

unfoldable pub reduce_tree : Prefix → Tree → Tree
reduce_tree p (lit s v) = reduce_clause p (lit s v)
reduce_tree p (node or ts) = reduce_clause p (node or ts)
reduce_tree p (node and ts) = node and (reduce_all p ts)

-- from each clause, then tidied; no prefix row goes
unfoldable pub reduced : Formula → Formula
reduced f = record { prefix = f.prefix; matrix = tidy (reduce_tree f.prefix f.matrix) }
