-- The pairs of a strategy's sheet by the rows at which they stand.
-- Assumes nothing.
use Rattle.std.specs.Prelude.{◌≡◌, Bool, true, false, List, [], ◌∷◌, ℕ, ◌+◌, get_or}
use Rattle.std.proofs.Math.Option
use Rattle.std.proofs.Math.Option.{Option, none, some}
use Rattle.formula.specs.Tree.{Quantifier, exists, for_all, rows, closed}
use Rattle.formula.specs.Strategy.{Pairs, sets}
use Rattle.formula.specs.StrategyMatrix.{strategy_matrix, pairs_of}
use Rattle.sheet.specs.Format.{Bytes}
use Rattle.rows.specs.Formulas.{matrix_in, formula_in, Readable}
use Rattle.rows.specs.declared.Layout.{Layout}

-- the side that code names by whether it is the existential one
abbrev pub side : Bool → Quantifier
side true = exists
side false = for_all

-- whether something can be read
abbrev pub is_read : {A : Type 0} → Option A → Bool
is_read none = false
is_read (some a) = true

-- the pairs read off a sheet's matrix, none off one of another form
unfoldable pub pairs_in : Layout → Bytes → Pairs
pairs_in s b = Option.get_or (pairs_of (matrix_in s b)) []

-- the node rows at which the pairs begin, where the first is row i, and the row behind the last pair
unfoldable pub pair_cuts : ℕ → Pairs → List ℕ
pair_cuts i [] = i ∷ []
pair_cuts i (c ∷ g) = i ∷ pair_cuts (i + (2 + rows c.function)) g

-- a readable sheet of pairs, every literal of which is bound, with the table of their rows
pub record Paired (s : Layout) (b : Bytes) (cuts : List ℕ) : Type 0 where
  pub readable : Readable s b
  pub is_closed : closed (formula_in s b) ≡ true
  pub is_matrix : matrix_in s b ≡ strategy_matrix (pairs_in s b)
  pub are_cuts : cuts ≡ pair_cuts 1 (pairs_in s b)

-- the table marks the variables that have a pair
abbrev pub Marked : List Bool → Pairs → Type 0
Marked table g = (x : ℕ) → get_or table x false ≡ sets g x
