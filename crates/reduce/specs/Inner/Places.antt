-- The places of variables in the prefix, by a table with an entry for each variable number.
-- Assumes nothing.
use Rattle.std.specs.Prelude.{◌≡◌, Bool, true, ◌&&◌, cond, List, ℕ, suc, ◌≤◌, ◌<◌, length, get_or}
use Rattle.formula.specs.Tree.{same_op, exists, Prefix, binds, quantifier_of}
use Rattle.sheet.specs.Format.{Bytes, Row, row}
use Rattle.rows.specs.Layouts.{total, rows_in}
use Rattle.rows.specs.Formulas.{prefix_in, Readable}
use Rattle.rows.specs.declared.Layout.{Layout}
use Rattle.prefixes.specs.Places.{place}

-- a readable sheet whose variables' numbers are within the table
pub record Numbered (s : Layout) (b : Bytes) : Type 0 where
  pub readable : Readable s b
  pub few_numbers : (x : ℕ) → binds (prefix_in s b) x ≡ true → x ≤ 1024

-- the table that has the row of each variable
pub record Placed (s : Layout) (b : Bytes) (places : List ℕ) : Type 0 where
  pub numbered : Numbered s b
  pub size : length places ≡ 1025
  pub is_place : (x : ℕ) → binds (prefix_in s b) x ≡ true → get_or places x 0 ≡ place x (prefix_in s b)

-- row r, and its variable
abbrev pub row_of : Layout → Bytes → ℕ → Row
row_of s b r = get_or (rows_in s b) r (row 0 0)

abbrev pub variable_of : Layout → Bytes → ℕ → ℕ
variable_of s b r = (row_of s b r).argument

-- row r has a variable that is bound
pub record Bound (s : Layout) (b : Bytes) (r : ℕ) : Type 0 where
  pub inside : r < total s
  pub is_bound : binds (prefix_in s b) (variable_of s b r) ≡ true

-- v is bound by an existential row
unfoldable pub existential : Prefix → ℕ → Bool
existential p v = binds p v && same_op exists (quantifier_of p v)

-- the row behind that of v if v is existential, else 0
unfoldable pub behind : Prefix → ℕ → ℕ
behind p v = cond (existential p v) (suc (place v p)) 0
