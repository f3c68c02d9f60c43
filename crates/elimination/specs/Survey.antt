-- Where the copies of an expansion go ("Expand x"): what is found before the raw sheet is written, for any set of literals.
-- Assumes nothing.
use Rattle.std.specs.Prelude.{◌≡◌, Bool, true, false, List, ℕ, suc, ◌+◌, ◌≤◌, ◌<◌, length, get_or, take, Option, Some, None}
use Rattle.formula.specs.Tree.{Literals, rows, has}
use Rattle.formula.specs.Expand.{raw_rows}
use Rattle.sheet.specs.Format.{Bytes}
use Rattle.rows.specs.Formulas.{matrix_in}
use Rattle.rows.specs.declared.Layout.{Layout}
use Rattle.subtrees.specs.Subtrees.{kids, subtree_in}
use Rattle.subtrees.specs.Ends.{Indexed}
use Rattle.occurrences.specs.Chains.{Chain}
use Rattle.subtrees.specs.Cuts.{cuts}
use Rattle.subtrees.specs.Parts.{relevant_subtree}
use Rattle.relevance.specs.Raw.{presence}
use Rattle.subtrees.specs.declared.relevant.Relevant.{Relevant}
use Rattle.raw.specs.declared.expand.Expansion.{Expansion}
use Rattle.elimination.specs.declared.survey.Draft.{Draft}
use Rattle.elimination.specs.declared.survey.Survey.{Survey}

-- the layout of a draft's raw sheet
abbrev pub draft_layout : Layout → Draft → ℕ → Layout
draft_layout s d n = record { format = s.format; variables = d.variables; nodes = n }

-- a table of ends has an entry for the relevant subtree
abbrev pub Ended : List ℕ → Option Relevant → Type 0
Ended ends None = Unit {0}
Ended ends (Some p) = (p.operator < 65536) × (p.operator < length ends)

-- the expansion by whether a literal occurs, the relevant subtree and the row behind it
abbrev pub expansion : Layout → Draft → Bool → Relevant → ℕ → Expansion
expansion s d occurs p end =
    record { occurs = occurs; relevant = p; end = end; row = d.row; joint = d.joint; layout = draft_layout s d d.raw }

abbrev pub outline_by : Layout → List ℕ → Draft → Option Relevant → Expansion
outline_by s ends d None = expansion s d false (record { operator = 0; all = true; rows = 0; children = 0 }) 0
outline_by s ends d (Some p) = expansion s d true p (get_or ends p.operator 0)

abbrev pub outline_of : Layout → List ℕ → Draft → Expansion
outline_of s ends d = outline_by s ends d d.relevant

-- the draft of an expansion of the literals of a set, with the chain of their rows
pub record Drafts (L : Literals) (s : Layout) (b : Bytes) (ends next : List ℕ) (d : Draft) : Type 0 where
  pub indexed : Indexed s b ends
  pub part_is : d.relevant ≡ presence L (matrix_in s b)
  pub raw_is : d.raw ≡ raw_rows L (matrix_in s b)
  pub last : ℕ
  pub chain : has L (matrix_in s b) ≡ true → Chain L s b next d.first last

abbrev pub Drafted : Layout → Bytes → List ℕ → List ℕ → Draft → Type 0
Drafted s b ends next d = (L : Literals) × Drafts L s b ends next d

-- the relevant subtree, the row behind it and, where not every child is relevant, the cuts at the front of a table
pub record FoundPart (L : Literals) (s : Layout) (b : Bytes) (table : List ℕ) (w : Survey) : Type 0 where
  pub part_is : w.to.relevant ≡ relevant_subtree L 0 (matrix_in s b)
  pub end_is : w.to.end ≡ w.to.relevant.operator + rows (subtree_in s b w.to.relevant.operator)
  pub cuts_are : w.to.relevant.all ≡ false
      → take w.cuts table ≡ cuts L (suc w.to.relevant.operator) (kids (subtree_in s b w.to.relevant.operator))

-- all that the writing needs, except the tables of changes
pub record Surveyed (L : Literals) (s : Layout) (b : Bytes) (d : Draft) (table : List ℕ) (w : Survey) : Type 0 where
  pub row_is : w.to.row ≡ d.row
  pub joint_is : w.to.joint ≡ d.joint
  pub layout_is : w.to.layout ≡ draft_layout s d (raw_rows L (matrix_in s b))
  pub occurs_is : w.to.occurs ≡ has L (matrix_in s b)
  pub few_cuts : w.cuts ≤ length table
  pub found : w.to.occurs ≡ true → FoundPart L s b table w

abbrev pub Surveys : Layout → Bytes → List ℕ → List ℕ → Draft → List ℕ → Survey → Type 0
Surveys s b ends next d table w = (L : Literals) → Drafts L s b ends next d → Surveyed L s b d table w
