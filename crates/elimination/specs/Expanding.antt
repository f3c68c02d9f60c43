-- A variable expanded ("Expand x"): what is found before the raw sheet is written.
-- Assumes nothing.
use Rattle.std.specs.Prelude.{◌≡◌, true, List, ℕ, ◌*◌, ◌-◌, ◌≤◌, length, get_or}
use Rattle.formula.specs.Tree.{of, quantifier_of, has}
use Rattle.formula.specs.Expand.{raw_rows}
use Rattle.sheet.specs.Format.{Bytes, fits}
use Rattle.sheet.specs.Sheet.{operator_kind}
use Rattle.rows.specs.Layouts.{format_in}
use Rattle.rows.specs.Formulas.{prefix_in, matrix_in}
use Rattle.rows.specs.declared.Layout.{Layout}
use Rattle.subtrees.specs.Ends.{Indexed}
use Rattle.prefixes.specs.Places.{binding_in}
use Rattle.occurrences.specs.Occurrences.{Occurrences}
use Rattle.relevance.specs.Raw.{presence}
use Rattle.relevance.specs.declared.variable.Candidate.{Candidate}
use Rattle.raw.specs.Formulas.{raw_layout}
use Rattle.elimination.specs.Steps.{Steppable, Named}
use Rattle.elimination.specs.Survey.{FoundPart}
use Rattle.elimination.specs.declared.survey.Draft.{Draft}
use Rattle.elimination.specs.declared.survey.Survey.{Survey}

-- a variable with its relevant subtree and its raw rows, and the tables they were found by
pub record Priced (s : Layout) (b : Bytes) (ends ranges next : List ℕ) (c : Candidate) : Type 0 where
  pub indexed : Indexed s b ends
  pub occurrences : Occurrences s b ranges next
  pub named : Named s b c.variable c.row
  pub part_is : c.relevant ≡ presence (of c.variable) (matrix_in s b)
  pub raw_is : c.raw ≡ raw_rows (of c.variable) (matrix_in s b)

-- what is expanded of it: its literals, the first of which the table has; its row goes, and its quantifier's operator joins the copies
abbrev pub draft_of : Layout → Bytes → List ℕ → Candidate → Draft
draft_of s b ranges c =
    record {
      relevant = c.relevant;
      first = get_or ranges (2 * c.variable) 0;
      raw = c.raw;
      row = c.row;
      variables = s.variables - 1;
      joint = operator_kind (binding_in s b c.row).quantifier;
    }

-- all that the writing of the expansion of x, the variable of row i, needs
pub record Prepared (s : Layout) (b : Bytes) (x i : ℕ) (table : List ℕ) (w : Survey) : Type 0 where
  pub row_is : w.to.row ≡ i
  pub few_cuts : w.cuts ≤ length table
  pub joint_is : w.to.joint ≡ operator_kind (quantifier_of (prefix_in s b) x)
  pub layout_is : w.to.layout ≡ raw_layout s (raw_rows (of x) (matrix_in s b))
  pub occurs_is : w.to.occurs ≡ has (of x) (matrix_in s b)
  pub found : w.to.occurs ≡ true → FoundPart (of x) s b table w

-- an expansion that fits len bytes
pub record Expands (s : Layout) (b : Bytes) (x : ℕ) (table : List ℕ) (w : Survey) (len : ℕ) : Type 0 where
  pub from : Steppable s b
  pub named : Named s b x w.to.row
  pub prepared : Prepared s b x w.to.row table w
  pub has_room : fits (format_in s) len (s.variables - 1) w.to.layout.nodes ≡ true
