-- The sheet under values for its first variables, as a table of changes and as rows.
-- Assumes nothing.
use Rattle.std.specs.Prelude.{Bool, List, [], ◌∷◌, ℕ, ◌-◌, ◌≤◌, ◌<◌, drop, set}
use Rattle.formula.specs.Tree.{Prefix, Formula, replace}
use Rattle.sheet.specs.Format.{Bytes}
use Rattle.rows.specs.Tables.{HIGHEST, NUMBERS}
use Rattle.rows.specs.declared.Layout.{Layout}
use Rattle.prefixes.specs.Places.{binding_in}
use Rattle.substitution.specs.Changes.{put_entry, numbers, changed}

-- every variable has an entry in a table
abbrev pub Numbered : Layout → Bytes → Type 0
Numbered s b = (i : ℕ) → i < s.variables → (binding_in s b i).variable ≤ HIGHEST

-- values put in for the variables of the first rows, one after another
unfoldable pub put_all : List Bool → Prefix → List ℕ → List ℕ
put_all [] p t = t
put_all (b ∷ bs) [] t = t
put_all (b ∷ bs) (z ∷ p) t = put_all bs p (set t z.variable (put_entry b))

abbrev pub moves : List Bool → Prefix → List ℕ
moves bs p = put_all bs p (numbers NUMBERS)

-- the first k rows go, and each literal becomes what the table says
unfoldable pub behind_raw : ℕ → List ℕ → Formula → Formula
behind_raw k t f = record { prefix = drop k f.prefix; matrix = replace (changed t) f.matrix }

abbrev pub layout_behind : Layout → ℕ → Layout
layout_behind s k = record { format = s.format; variables = s.variables - k; nodes = s.nodes }
