-- The limits of a format, and the formulas that its sheets hold.
-- Assumes nothing.
use Rattle.std.specs.Prelude.{◌≡◌, Bool, true, not, ◌&&◌, ◌||◌, [], ◌∷◌, ◌≤◌, ◌<◌, ◌^◌, eqb, ltb, length}
use Rattle.formula.specs.Tree.{Prefix, Formula, distinct, rows, closed}
use Rattle.sheet.specs.Format.{Format}

-- the format's numbers hold its sizes
pub record Sound (F : Format) : Type 0 where
  pub variables_fit : F.most_variables < 256 ^ F.width
  pub nodes_fit : F.most_nodes < 256 ^ F.width

-- every quantifier number is 1 to the most
unfoldable pub numbered : Format → Prefix → Bool
numbered F [] = true
numbered F (z ∷ p) = not (eqb z.variable 0 || ltb F.most_variables z.variable) && numbered F p

-- a formula within the limits
pub record Within (F : Format) (f : Formula) : Type 0 where
  pub few_variables : length f.prefix ≤ F.most_variables
  pub few_nodes : rows f.matrix ≤ F.most_nodes
  pub is_numbered : numbered F f.prefix ≡ true
  pub is_distinct : distinct f.prefix ≡ true
  pub is_closed : closed f ≡ true
