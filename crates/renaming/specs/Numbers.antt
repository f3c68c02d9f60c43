-- The new numbers of the copies, and the table that gives them.
-- Assumes nothing.
use Rattle.std.specs.Prelude.{◌≡◌, true, false, cond, List, [], ◌∷◌, ◌++◌, ℕ, zero, suc, ◌+◌, ◌-◌, ◌≤◌, length, set}
use Rattle.formula.specs.Tree.{Prefix, binds}
use Rattle.sets.specs.Sets.{holds}
use Rattle.substitution.specs.Changes.{putting}

-- a set of the numbers of a prefix
pub record Uses (p : Prefix) (ws : List ℕ) : Type 0 where
  pub words : length ws ≡ 17
  pub is : (v : ℕ) → holds ws v ≡ binds p v

-- the numbers from i on, n of them, that are not in the set
unfoldable pub free : List ℕ → ℕ → ℕ → List ℕ
free ws zero i = []
free ws (suc n) i = cond (holds ws i) (free ws n (suc i)) (i ∷ free ws n (suc i))

-- the first of those from `from` up to the highest, or the number behind that
pub record NextFree (ws : List ℕ) (highest from n : ℕ) : Type 0 where
  pub within : n ≤ suc highest
  pub same : free ws (suc highest - from) from ≡ free ws (suc highest - n) n
  pub is_free : n ≤ highest → holds ws n ≡ false

-- the i-th variable's entry is the i-th of the numbers
unfoldable pub renumbered : List ℕ → List ℕ → List ℕ → List ℕ
renumbered [] ns t = t
renumbered (y ∷ ys) [] t = t
renumbered (y ∷ ys) (n ∷ ns) t = renumbered ys ns (set t y n)

-- the tables of the copies, one behind the other: x = 0 put in and all else kept; x = 1 put in and each of ys renumbered
abbrev pub copy_tables : ℕ → List ℕ → List ℕ → List ℕ
copy_tables x ys ns = putting x false ++ renumbered ys ns (putting x true)

-- what is left to rename after v, which gets a new number if it is in the set
pub record Renamed (ws used : List ℕ) (highest from v : ℕ) (before table : List ℕ) (next : ℕ) : Type 0 where
  pub within : next ≤ suc highest
  pub same_length : length table ≡ length before
  pub left : length (free used (suc highest - from) from) ≡ cond (holds ws v) 1 0 + length (free used (suc highest - next) next)
  pub work : (ys : List ℕ)
      → renumbered (cond (holds ws v) (v ∷ ys) ys) (free used (suc highest - from) from) before ≡
      renumbered ys (free used (suc highest - next) next) table
