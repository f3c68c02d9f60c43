-- The table of signs ("Settle x"): four entries to a variable number.
-- Assumes nothing.
use Rattle.std.specs.Prelude.{◌≡◌, Bool, true, false, ◌||◌, cond, List, ℕ, ◌+◌, ◌*◌, ◌<◌, length, get_or}
use Rattle.formula.specs.Tree.{of_sign, has}
use Rattle.formula.specs.Settle.{at_root}
use Rattle.sheet.specs.Format.{Bytes}
use Rattle.rows.specs.Formulas.{matrix_in}
use Rattle.rows.specs.declared.Layout.{Layout}
use Rattle.prefixes.specs.Places.{binding_in}

-- the entry of x for its literals of a sign: for unit literals, or for literals anywhere
abbrev pub entry_of : Bool → Bool → ℕ → ℕ
entry_of unit sign x = 4 * x + 2 * cond unit 1 0 + cond sign 0 1

-- the last entry of x
abbrev pub last_entry : ℕ → ℕ
last_entry x = 4 * x + 3

-- no entry is marked
abbrev pub Unmarked : List Bool → Type 0
Unmarked signs = (e : ℕ) → get_or signs e false ≡ false

-- entries are marked that were marked before, and those whose variable passes the test P, which takes whether the entry is for unit
-- literals, the sign and the variable; this holds for every variable that the table has
pub record Marked (before after : List Bool) (P : Bool → Bool → ℕ → Bool) : Type 0 where
  pub same_length : length after ≡ length before
  pub added : (unit sign : Bool) (x : ℕ) → last_entry x < length before
      → get_or after (entry_of unit sign x) false ≡ (get_or before (entry_of unit sign x) false || P unit sign x)

-- a table of n entries has every number of the prefix
abbrev pub Covers : Layout → Bytes → ℕ → Type 0
Covers s b n = (i : ℕ) → i < s.variables → last_entry (binding_in s b i).variable < n

-- the table of a sheet: for each variable that it has, whether it has a literal of each sign, and whether it has a unit literal of it
pub record Signed (s : Layout) (b : Bytes) (signs : List Bool) : Type 0 where
  pub covers : Covers s b (length signs)
  pub anywhere : (sign : Bool) (x : ℕ) → last_entry x < length signs
      → get_or signs (entry_of false sign x) false ≡ has (of_sign sign x) (matrix_in s b)
  pub units : (sign : Bool) (x : ℕ) → last_entry x < length signs
      → get_or signs (entry_of true sign x) false ≡ at_root (of_sign sign x) (matrix_in s b)
