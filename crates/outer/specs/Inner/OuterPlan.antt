-- What the step decides before it looks at the output.
-- Assumes nothing.
use Rattle.std.specs.Prelude.{◌≡◌, Bool, true, not, List, [], ◌∷◌, ◌++◌, ℕ, ◌+◌, ◌-◌, Result, Ok, Err}
use Rattle.formula.specs.Tree.{and, Formula}
use Rattle.formula.specs.Outer.{one_block_out, dependents, copies_of, outer_expanded, lowest_of}
use Rattle.sheet.specs.Format as sheet
use Rattle.sheet.specs.Format.{Bytes, fits}
use Rattle.sheet.specs.Sheet.{formula, operator_kind}
use Rattle.sheet.specs.Refusals.{wrong_block}
use Rattle.sheet.specs.Check.{Test, test, answer, passes}
use Rattle.sheet.specs.Outer.{copies, numbers_test}
use Rattle.rows.specs.Formats.{format_of}
use Rattle.rows.specs.Layouts.{format_in}
use Rattle.rows.specs.Formulas.{formula_in}
use Rattle.rows.specs.Refusals.{refused_by}
use Rattle.rows.specs.declared.Format.{Format}
use Rattle.rows.specs.declared.refusals.Refusal.{Refusal}
use Rattle.dependence.specs.Dependents.{Dependents}
use Rattle.substitution.specs.Changes.{chosen}
use Rattle.raw.specs.Formulas.{second_table}
use Rattle.elimination.specs.Steps.{Steppable, Named}
use Rattle.elimination.specs.Admission.{admission_tests}
use Rattle.elimination.specs.Survey.{Surveyed}
use Rattle.elimination.specs.declared.survey.Draft.{Draft}
use Rattle.renaming.specs.Numbers.{copy_tables}
use Rattle.outer.specs.declared.plan.Copying.{Copying}

-- whether x is one block out, and if so the set of those that depend on it
abbrev pub Finds : ℕ → Formula → List ℕ → Bool → Type 0
Finds x f set r = (r ≡ one_block_out x f) × (r ≡ true → Dependents x f set)

-- 11 x is no such variable
abbrev pub block_test : sheet.Format → Bytes → ℕ → Test
block_test F b x = test (not (one_block_out x (formula F b))) wrong_block 0

-- 1 to 11 and 18
unfoldable pub plan_tests : sheet.Format → Bytes → ℕ → List Test
plan_tests F b x = admission_tests F b x ++ (block_test F b x ∷ numbers_test F b x ∷ [])

-- the tables of the copies: x = 0 put in; x = 1 put in and the depending variables renamed
abbrev pub tables_of : sheet.Format → Bytes → ℕ → List ℕ
tables_of F b x = copy_tables x (dependents x (formula F b)) (copies_of F.most_variables x (formula F b))

-- the formula that is written
abbrev pub copied_formula : Bytes → Copying → Formula
copied_formula b w =
    let F = format_in w.from in
    outer_expanded F.most_variables w.variable (formula F b)

-- every test short of 13 passes, and all that the writing needs
pub record OuterPlanned (b : Bytes) (tables table : List ℕ) (w : Copying) : Type 0 where
  pub tests_pass : passes (plan_tests (format_in w.from) b w.variable) ≡ true
  pub from : Steppable w.from b
  pub same_formula : formula_in w.from b ≡ formula (format_in w.from) b
  pub named : Named w.from b w.variable w.survey.to.row
  pub copied_are : w.copied ≡ copies (format_in w.from) b w.variable
  pub lowest_is : w.lowest ≡ lowest_of (dependents w.variable (formula (format_in w.from) b))
  pub tables_are : tables ≡ tables_of (format_in w.from) b w.variable
  pub draft : Draft
  pub variables_are : draft.variables ≡ w.from.variables - 1 + w.copied
  pub joint_is : draft.joint ≡ operator_kind and
  pub surveyed : Surveyed (chosen (second_table tables)) w.from b draft table w.survey

abbrev pub OuterPlans : Format → Bytes → ℕ → List ℕ → List ℕ → Result Copying Refusal → Type 0
OuterPlans f b x tables table (Err e) = refused_by e ≡ answer (plan_tests (format_of f) b x) x
OuterPlans f b x tables table (Ok w) = (w.from.format ≡ f) × (w.variable ≡ x) × OuterPlanned b tables table w

-- a plan whose raw sheet fits len bytes
pub record Fitting (b : Bytes) (tables table : List ℕ) (w : Copying) (len : ℕ) : Type 0 where
  pub planned : OuterPlanned b tables table w
  pub has_room : fits (format_in w.from) len w.survey.to.layout.variables w.survey.to.layout.nodes ≡ true
