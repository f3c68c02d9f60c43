-- What Expand decides before it looks at the output ("Expand x"; "What each operation turns away").
-- Assumes nothing.
use Rattle.std.specs.Prelude.{◌≡◌, true, List, ℕ, Result, Ok, Err}
use Rattle.sheet.specs.Format.{Bytes}
use Rattle.sheet.specs.Sheet.{formula}
use Rattle.sheet.specs.Check.{answer, passes}
use Rattle.sheet.specs.Operations.{quote_tests}
use Rattle.rows.specs.Formats.{format_of}
use Rattle.rows.specs.Layouts.{format_in}
use Rattle.rows.specs.Formulas.{formula_in}
use Rattle.rows.specs.declared.Format.{Format}
use Rattle.rows.specs.Refusals.{refused_by}
use Rattle.rows.specs.declared.Layout.{Layout}
use Rattle.rows.specs.declared.refusals.Refusal.{Refusal}
use Rattle.elimination.specs.Steps.{Steppable, Named}
use Rattle.elimination.specs.Expanding.{Prepared}
use Rattle.elimination.specs.declared.survey.Survey.{Survey}

-- every test short of 13 passes, and what is written is the expansion of x, with its cuts at the front of a table
pub record ExpandPlanned (b : Bytes) (x : ℕ) (table : List ℕ) (s : Layout) (w : Survey) : Type 0 where
  pub tests_pass : passes (quote_tests (format_in s) b x) ≡ true
  pub from : Steppable s b
  pub named : Named s b x w.to.row
  pub prepared : Prepared s b x w.to.row table w
  pub same_formula : formula_in s b ≡ formula (format_in s) b

abbrev pub ExpandPlans : Format → Bytes → ℕ → List ℕ → Result (Layout × Survey) Refusal → Type 0
ExpandPlans f b x table (Err e) = refused_by e ≡ answer (quote_tests (format_of f) b x) x
ExpandPlans f b x table (Ok (s, w)) = (s.format ≡ f) × ExpandPlanned b x table s w
