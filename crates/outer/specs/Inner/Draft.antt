-- What is expanded: the literals that a table changes.
-- Assumes nothing.
use Rattle.std.specs.Prelude.{◌≡◌, List, ℕ}
use Rattle.formula.specs.Tree.{and}
use Rattle.sheet.specs.Format.{Bytes}
use Rattle.sheet.specs.Sheet.{operator_kind}
use Rattle.substitution.specs.Changes.{chosen}
use Rattle.dependence.specs.declared.Target.{Target}
use Rattle.elimination.specs.Survey.{Drafts}
use Rattle.elimination.specs.declared.survey.Draft.{Draft}

-- the draft of their expansion: the row of t's variable goes, the raw sheet has so many variables, and AND joins the copies
pub record DraftsChosen (table : List ℕ) (b : Bytes) (t : Target) (variables : ℕ) (ends next : List ℕ) (d : Draft) : Type 0 where
  pub drafts : Drafts (chosen table) t.layout b ends next d
  pub row_is : d.row ≡ t.row
  pub variables_are : d.variables ≡ variables
  pub joint_is : d.joint ≡ operator_kind and
