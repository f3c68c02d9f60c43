-- How the tables of ranks are filled.
-- Assumes nothing.
use Rattle.std.specs.Prelude.{◌≡◌, Bool, true, false, List, ℕ, ◌<◌, replicate}
use Rattle.formula.specs.Tree.{Op, and, or}
use Rattle.sheet.specs.Format.{Bytes}
use Rattle.rows.specs.declared.Layout.{Layout}
use Rattle.prefixes.specs.Places.{binding_in}

-- exists, or for all
abbrev pub quantifier_for : Bool → Op
quantifier_for true = or
quantifier_for false = and

-- every bound number has an entry in the tables
abbrev pub Numbered : Layout → Bytes → Type 0
Numbered s b = (i : ℕ) → i < s.variables → (binding_in s b i).variable < 2048

-- a table of zeros
abbrev pub Unranked : List ℕ → Type 0
Unranked table = table ≡ replicate 2048 0
