-- The rows after that of a variable, by the numbers of rows.
-- Assumes nothing.
use Rattle.std.specs.Prelude.{◌≡◌, Bool, true, ◌&&◌, ◌||◌, cond, List, [], ◌∷◌, Option, Some, None, ℕ, suc, ◌+◌, ◌≤◌, ◌<◌, eqb, length, drop}
use Rattle.std.specs.Bool.{beq}
use Rattle.formula.specs.Tree.{same_op, exists, Tree, Binding, Prefix, Formula, binds}
use Rattle.formula.specs.Expand.{occurs}
use Rattle.formula.specs.Outer.{block}
use Rattle.sheet.specs.Format.{Bytes}
use Rattle.rows.specs.Formulas.{prefix_in, matrix_in}
use Rattle.rows.specs.declared.Layout.{Layout}
use Rattle.prefixes.specs.Places.{place, binding_in}
use Rattle.sets.specs.Sets.{holds}
use Rattle.dependence.specs.declared.Target.{Target}

-- the prefix has no number above 1,024, the wider format's most
abbrev pub Numbered : Layout → Bytes → Type 0
Numbered s b = (j : ℕ) → j < s.variables → (binding_in s b j).variable ≤ 1024

-- a variable of such a prefix and its row
pub record Located (s : Layout) (b : Bytes) (t : Target) : Type 0 where
  pub inside : t.row < s.variables
  pub row_is : t.row ≡ place t.variable (prefix_in s b)
  pub few : t.variable ≤ 1024
  pub few_numbers : Numbered s b

-- a row with a literal that is existential, or universal, as asked
abbrev pub row_test : Bool → Tree → Binding → Bool
row_test exist t z = beq (same_op exists z.quantifier) exist && occurs t z.variable

-- the first such row, or the number of rows if there is none
unfoldable pub first_row : Bool → Tree → Prefix → ℕ
first_row exist t [] = 0
first_row exist t (z ∷ p) = cond (row_test exist t z) 0 (suc (first_row exist t p))

-- the first such row from row `from` on, if there is one
abbrev pub FirstFrom : Layout → Bytes → Bool → ℕ → Option ℕ → Type 0
FirstFrom s b exist from None = s.variables ≡ from + first_row exist (matrix_in s b) (drop from (prefix_in s b))
FirstFrom s b exist from (Some j) = (j < s.variables) × (j ≡ from + first_row exist (matrix_in s b) (drop from (prefix_in s b)))

-- the set with the variable of row j added, if the row is existential and has a literal
pub record WithRow (s : Layout) (b : Bytes) (j : ℕ) (old new : List ℕ) : Type 0 where
  pub same_length : length new ≡ length old
  pub is : (v : ℕ) → holds new v ≡ (holds old v || (row_test true (matrix_in s b) (binding_in s b j) && eqb (binding_in s b j).variable v))

-- 17 words that hold the existential block of x
pub record IsBlock (x : ℕ) (f : Formula) (set : List ℕ) : Type 0 where
  pub words : length set ≡ 17
  pub few : (v : ℕ) → holds set v ≡ true → v ≤ 1024
  pub is : (v : ℕ) → holds set v ≡ binds (block x f) v
