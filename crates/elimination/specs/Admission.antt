-- Tests 1 to 10 of the operations on one variable ("What each operation turns away").
-- Assumes nothing.
use Rattle.std.specs.Prelude.{◌≡◌, true, List, ◌++◌, ℕ, Result, Ok, Err}
use Rattle.sheet.specs.Format as sheet
use Rattle.sheet.specs.Format.{Bytes}
use Rattle.sheet.specs.Check.{Test, answer, passes, check_tests}
use Rattle.sheet.specs.Operations.{tidy_and_bound_tests}
use Rattle.rows.specs.Formats.{format_of}
use Rattle.rows.specs.Layouts.{format_in}
use Rattle.rows.specs.declared.Format.{Format}
use Rattle.rows.specs.Refusals.{refused_by}
use Rattle.rows.specs.declared.Layout.{Layout}
use Rattle.rows.specs.declared.refusals.Refusal.{Refusal}
use Rattle.checking.specs.Sheets.{Sheet}
use Rattle.subtrees.specs.Ends.{Indexed}
use Rattle.elimination.specs.Steps.{Named}
use Rattle.elimination.specs.declared.admission.Binding.{Binding}

unfoldable pub admission_tests : sheet.Format → Bytes → ℕ → List Test
admission_tests F b x = check_tests F b ++ tidy_and_bound_tests F b x

-- a sheet that passes, by its layout with the table of ends, and the row of x
pub record Admitted (b : Bytes) (x : ℕ) (s : Layout) (i : ℕ) (ends : List ℕ) : Type 0 where
  pub sheet : Sheet s.format b s
  pub tests_pass : passes (admission_tests (format_in s) b x) ≡ true
  pub indexed : Indexed s b ends
  pub named : Named s b x i

abbrev pub Admits : Format → Bytes → ℕ → List ℕ → Result (Layout × Binding) Refusal → Type 0
Admits f b x ends (Err e) = refused_by e ≡ answer (admission_tests (format_of f) b x) x
Admits f b x ends (Ok (s, z)) =
    (s.format ≡ f) × (z.variable ≡ x) × Admitted b z.variable s z.row ends
