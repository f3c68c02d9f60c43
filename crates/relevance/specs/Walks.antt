-- What the walks along a chain find, for each set that has the chain.
-- Assumes nothing.
use Rattle.std.specs.Prelude.{◌≡◌, Bool, cond, List, ◌++◌, ℕ, zero, suc, ◌+◌, ◌-◌, ◌≤◌, ◌<◌, eqb, ltb, length, get_or, drop, set}
use Rattle.std.specs.Bool.{beq}
use Rattle.formula.specs.Tree.{Tree, Forest, ∅, ◌▸◌, Literals, rows, rows_all, count}
use Rattle.formula.specs.Expand.{relevant}
use Rattle.sheet.specs.Format.{Bytes}
use Rattle.rows.specs.Formulas.{matrix_in}
use Rattle.rows.specs.declared.Layout.{Layout}
use Rattle.subtrees.specs.Subtrees.{kids, subtree_in}
use Rattle.subtrees.specs.Ends.{Indexed}
use Rattle.occurrences.specs.Chains.{Bounds, Chain}
use Rattle.subtrees.specs.Cuts.{cuts}
use Rattle.subtrees.specs.Parts.{relevant_subtree, operator_part}
use Rattle.subtrees.specs.declared.relevant.Relevant.{Relevant}
use Rattle.relevance.specs.declared.Range.{Range}
use Rattle.relevance.specs.declared.Site.{Site}
use Rattle.relevance.specs.declared.cuts.Runs.{Runs}
use Rattle.relevance.specs.declared.subtree.Span.{Span}
use Rattle.relevance.specs.declared.subtree.Share.{Share}

-- of k subtrees side by side from row `at` on, by the table of their ends: the rows of the one that row r lies in
unfoldable pub span_by : List ℕ → ℕ → ℕ → ℕ → Span
span_by ends r at zero = record { from = at; to = at }
span_by ends r at (suc k) =
    cond (ltb r (get_or ends at 0)) (record { from = at; to = get_or ends at 0 }) (span_by ends r (get_or ends at 0) k)

-- the same for the trees themselves, where the first tree's row is row i
unfoldable pub child_span : ℕ → ℕ → Forest → Span
child_span r i ∅ = record { from = i; to = i }
child_span r i (t ▸ ts) = cond (ltb r (i + rows t)) (record { from = i; to = i + rows t }) (child_span r (i + rows t) ts)

-- from the tree at row i to the child that has all rows from `first` to `last`, if there is one
unfoldable pub narrower : Range → ℕ → Tree → ℕ
narrower c i t =
    cond (eqb i c.first) i
    (cond (ltb c.last (child_span c.first (suc i) (kids t)).to) (child_span c.first (suc i) (kids t)).from i)

-- a sheet with its ends, and the first and the last literal of some set
pub record Bounded (s : Layout) (b : Bytes) (ends : List ℕ) (c : Range) : Type 0 where
  pub indexed : Indexed s b ends
  pub chosen : Literals
  pub bounds : Bounds chosen s b c.first c.last

-- a sheet with its ends, and the chain of some set
pub record Chained (s : Layout) (b : Bytes) (ends next : List ℕ) (first last : ℕ) : Type 0 where
  pub indexed : Indexed s b ends
  pub chosen : Literals
  pub chain : Chain chosen s b next first last

-- the row of the relevant subtree's operator, or of the one literal
abbrev pub IsAncestor : Layout → Bytes → Range → ℕ → Type 0
IsAncestor s b c r = (L : Literals) → Bounds L s b c.first c.last → r ≡ (relevant_subtree L 0 (matrix_in s b)).operator

-- a way along a table: each row leads to a later one, up to the first that is not before row `end`
pub data Way : List ℕ → ℕ → ℕ → ℕ → Type 0 where
  there : {next : List ℕ} {end row : ℕ} → end ≤ row → Way next end row row
  on : {next : List ℕ} {end row to : ℕ} → row < end → row < length next → row < get_or next row 0 → Way next end (get_or next row 0) to
      → Way next end row to

pub record Leads (next : List ℕ) (end row : ℕ) : Type 0 where
  pub to : ℕ
  pub way : Way next end row to

-- a share with the tree from row i up to `end` added, if it is relevant
unfoldable pub with_child : Bool → Share → ℕ → ℕ → Share
with_child c r i end = cond c (record { rows = r.rows + (end - i); children = r.children + 1 }) r

-- an operator before the first literal of a chain
pub record Sited (s : Layout) (b : Bytes) (ends next : List ℕ) (o : Site) : Type 0 where
  pub last : ℕ
  pub chained : Chained s b ends next o.first last
  pub before : o.operator < o.first

-- of its children those that hold a literal of the set
abbrev pub IsShare : Layout → Bytes → List ℕ → Site → Share → Type 0
IsShare s b next o r =
    (L : Literals) (last : ℕ) → Chain L s b next o.first last
    → (r.rows ≡ rows_all (relevant L (kids (subtree_in s b o.operator))))
    × (r.children ≡ count (relevant L (kids (subtree_in s b o.operator))))

abbrev pub IsRelevantAt : Layout → Bytes → List ℕ → Site → Relevant → Type 0
IsRelevantAt s b next o r =
    (L : Literals) (last : ℕ) → Chain L s b next o.first last
    → r ≡ operator_part L o.operator (kids (subtree_in s b o.operator))

-- the relevant subtree
abbrev pub IsRelevant : Layout → Bytes → List ℕ → Range → Relevant → Type 0
IsRelevant s b next c r =
    (L : Literals) → Chain L s b next c.first c.last → r ≡ relevant_subtree L 0 (matrix_in s b)

-- the runs after a cut at row `at`; without one the run goes on
unfoldable pub run_cut : Bool → Runs → Runs
run_cut holds r = cond (beq holds r.holding) r (record { cuts = r.cuts + 1; holding = holds })

unfoldable pub table_cut : Bool → Runs → ℕ → List ℕ → List ℕ
table_cut holds r at table = cond (beq holds r.holding) table (set table r.cuts at)

-- a table with the k cuts of the operator's children at its front, and behind them what it held before
abbrev pub IsCuts : Layout → Bytes → List ℕ → Site → List ℕ → ℕ → List ℕ → Type 0
IsCuts s b next o before k table =
    (L : Literals) (last : ℕ) → Chain L s b next o.first last
    → (k ≡ length (cuts L (suc o.operator) (kids (subtree_in s b o.operator))))
    × (table ≡ cuts L (suc o.operator) (kids (subtree_in s b o.operator)) ++ drop k before)
