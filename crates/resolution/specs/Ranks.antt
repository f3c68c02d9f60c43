-- The ranks of the variables: a table for each quantifier has the place of each of its variables in the prefix.
-- Assumes nothing.
use Rattle.std.specs.Prelude.{◌≡◌, true, cond, List, [], ◌∷◌, ℕ, suc, ◌≤◌, eqb, length, get_or}
use Rattle.formula.specs.Tree.{Op, dual, same_op, Prefix, distinct}

-- one more than the row of x, the first row being row i, if its quantifier is q; else 0
unfoldable pub rank_from : Op → ℕ → Prefix → ℕ → ℕ
rank_from q i [] x = 0
rank_from q i (z ∷ p) x = cond (eqb z.variable x) (cond (same_op q z.quantifier) (suc i) 0) (rank_from q (suc i) p x)

-- the table of the quantifier q, with an entry for every code's variable
pub record Ranked (q : Op) (p : Prefix) (table : List ℕ) : Type 0 where
  pub room : 2048 ≤ length table
  pub ranks : (x : ℕ) → get_or table x 0 ≡ rank_from q 0 p x

-- the tables of the side's own quantifier and of the other one
pub record Ranks (o : Op) (p : Prefix) (own other : List ℕ) : Type 0 where
  pub is_distinct : distinct p ≡ true
  pub own_ranks : Ranked o p own
  pub other_ranks : Ranked (dual o) p other
