-- The price of a variable: whether it is in the innermost block, and if so its relevant subtree and raw rows.
-- Assumes nothing.
use Rattle.std.specs.Prelude.{◌≡◌, true, false, List, ℕ, Option, Some, None}
use Rattle.formula.specs.Expand.{innermost}
use Rattle.sheet.specs.Format.{Bytes}
use Rattle.rows.specs.Formulas.{formula_in}
use Rattle.rows.specs.declared.Layout.{Layout}
use Rattle.occurrences.specs.Occurrences.{Occurrences}
use Rattle.relevance.specs.declared.variable.Candidate.{Candidate}
use Rattle.choice.specs.Expanding.{priced_in}
use Rattle.elimination.specs.declared.admission.Binding.{Binding}

abbrev pub Prices : Layout → Bytes → Binding → List ℕ → List ℕ → Option Candidate → Type 0
Prices s b z ranges next None = innermost z.variable (formula_in s b) ≡ false
Prices s b z ranges next (Some c) =
    (innermost z.variable (formula_in s b) ≡ true) × (c ≡ priced_in s b z.row) × Occurrences s b ranges next
