-- What Response decides before it writes.
-- Assumes nothing.
use Rattle.std.specs.Prelude.{◌≡◌, true, cond, List, ℕ, ◌-◌, Result, Ok, Err}
use Rattle.sheet.specs.Format.{Bytes, fits}
use Rattle.sheet.specs.Sheet.{formula}
use Rattle.sheet.specs.Check.{answer, passes}
use Rattle.sheet.specs.Strategy.{response_tests}
use Rattle.rows.specs.Formats.{format_of}
use Rattle.rows.specs.Layouts.{format_in}
use Rattle.rows.specs.Formulas.{formula_in}
use Rattle.rows.specs.declared.Format.{Format}
use Rattle.rows.specs.Refusals.{refused_by}
use Rattle.rows.specs.declared.Layout.{Layout}
use Rattle.rows.specs.declared.refusals.Refusal.{Refusal}
use Rattle.rows.specs.declared.refusals.Refusal.TheVariants.{NoRoom}
use Rattle.response.specs.Inner.Function.{ByConstant, ByCopy}
use Rattle.response.specs.declared.plan.ResponsePlan as plan
use Rattle.response.specs.declared.plan.ResponsePlan.{ResponsePlan}

-- a plan by which so many node rows are written, or 13
abbrev pub in_room : Layout → ℕ → ℕ → ResponsePlan → Result ResponsePlan Refusal
in_room s rows room p = cond (fits (format_in s) room (s.variables - 1) rows) (Ok p) (Err NoRoom)

-- every test passes
pub record Passes (b : Bytes) (x room : ℕ) (s : Layout) : Type 0 where
  pub tests_pass : passes (response_tests (format_in s) b x room) ≡ true
  pub same_formula : formula_in s b ≡ formula (format_in s) b

-- refused as the tests say; or they pass, and the function is the constant, or what is copied by the cuts at the front of a table
abbrev pub ResponsePlans : Format → Bytes → ℕ → ℕ → List ℕ → Result ResponsePlan Refusal → Type 0
ResponsePlans f b x room table (Err e) = refused_by e ≡ answer (response_tests (format_of f) b x room) x
ResponsePlans f b x room table (Ok (plan.TheVariants.Constant s p)) =
    (s.format ≡ f) × (p.variable ≡ x) × Passes b x room s × ByConstant s b p room
ResponsePlans f b x room table (Ok (plan.TheVariants.Copy s w)) = (s.format ≡ f) × Passes b x room s × ByCopy s b x table w room
