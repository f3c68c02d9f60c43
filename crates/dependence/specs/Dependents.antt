-- The variables that depend on x, as a set in words.
-- Assumes nothing.
use Rattle.std.specs.Prelude.{◌≡◌, true, false, List, ◌⊎◌, Option, Some, None, ℕ, ◌+◌, ◌*◌, ◌≤◌, ◌<◌, length, get_or}
use Rattle.formula.specs.Tree.{Formula}
use Rattle.formula.specs.Outer.{depends}
use Rattle.sets.specs.Sets.{holds, left_in}
use Rattle.relevance.specs.declared.Range.{Range}

-- 17 words that hold the depending variables, and nothing else
pub record Dependents (x : ℕ) (f : Formula) (set : List ℕ) : Type 0 where
  pub words : length set ≡ 17
  pub few : (v : ℕ) → holds set v ≡ true → v ≤ 1024
  pub is : (v : ℕ) → holds set v ≡ depends x f v

-- a number of the block that is found and not taken; or there is none, or the whole block is found
abbrev pub IsNext : List ℕ → List ℕ → List ℕ → Option ℕ → Type 0
IsNext bs fs ts (Some r) = (r < 1025) × (left_in bs fs ts r ≡ true)
IsNext bs fs ts None = ((v : ℕ) → v ≤ 1024 → left_in bs fs ts v ≡ false) ⊎ ((v : ℕ) → v ≤ 1024 → left_in bs bs fs v ≡ false)

-- the entries of y in the table of first and last literals
abbrev pub range_at : List ℕ → ℕ → Range
range_at ranges y = record { first = get_or ranges (2 * y) 0; last = get_or ranges (2 * y + 1) 0 }
