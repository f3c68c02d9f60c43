-- Pairs tested row by row: by one number for each variable, from the last pair to the first, that they are in order.
-- Assumes nothing.
use Rattle.std.specs.Prelude.{Bool, true, ◌&&◌, cond, [], ◌∷◌, ℕ, suc, eqb, ltb, length}
use Rattle.formula.specs.Tree.{Quantifier, dual, Tree, lit, node, Forest, ∅, ◌▸◌, Prefix}
use Rattle.formula.specs.Strategy.{Pairs, owns, before, is_covering}

-- the place of a row, from 1 on
unfoldable pub position : Prefix → ℕ → ℕ
position p x = suc (length (before x p))

unfoldable pub larger : ℕ → ℕ → ℕ
larger a b = cond (ltb a b) b a

-- the largest number of a tree's variables, 0 if there is none
unfoldable mutual
  pub deepest : (ℕ → ℕ) → Tree → ℕ
  deepest d (lit s v) = d v
  deepest d (node o ts) = deepest_all d ts

  pub deepest_all : (ℕ → ℕ) → Forest → ℕ
  deepest_all d ∅ = 0
  deepest_all d (t ▸ ts) = larger (deepest d t) (deepest_all d ts)

-- the place of the last row of the other side that x depends on; behind all rows where a variable without a later pair is read
unfoldable pub level : Quantifier → Prefix → Pairs → ℕ → ℕ
level q p [] x = cond (owns (dual q) p x) (position p x) (suc (length p))
level q p (c ∷ g) x = cond (eqb x c.variable) (deepest (level q p g) c.function) (level q p g x)

-- each variable's level is less than its place
unfoldable pub in_levels : Quantifier → Prefix → Pairs → Bool
in_levels q p [] = true
in_levels q p (c ∷ g) = ltb (level q p (c ∷ g) c.variable) (position p c.variable) && in_levels q p g

unfoldable pub is_well_formed : Quantifier → Prefix → Pairs → Bool
is_well_formed q p g = is_covering q p g && in_levels q p g
