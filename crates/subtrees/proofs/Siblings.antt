-- A readable sheet's subtrees: what their first row says, and the walk over subtrees side by side.
-- Assumes nothing.
use mathlib.Core.Path.{◌≡◌, refl, sym, ap, ◌∙◌}
use mathlib.Core.Bool.{Bool, true, false, ◌||◌}
use mathlib.Core.List.{List}
use Prim.Native.Nat.{ℕ, zero, suc, ◌+◌, ◌-◌, ◌≤◌, ◌<◌}
use native.Mathlib.Nat.{add-zero, zero-add}
use native.Mathlib.Omega.{arith}
use lib.ListN.{length, get_or}
use Rattle.formula.specs.Tree.{and, or, Tree, lit, node, Forest, ∅, ◌▸◌, rows, count, ◌⧺◌}
use Rattle.formula.proofs.Forests.{count-⧺}
use Rattle.sheet.proofs.Forests.{front-⧺}
use Rattle.sheet.specs.Format.{Bytes, Row, row}
use Rattle.sheet.specs.Sheet.{front}
use Rattle.rows.specs.Layouts.{rows_in}
use Rattle.rows.specs.Formulas.{node_rows_in, matrix_in, Readable}
use Rattle.rows.specs.declared.Layout.{Layout}
use Rattle.rows.proofs.Formulas.{node_row, length-nodes, rows-nodes}
use Rattle.subtrees.specs.Ends.{Indexed}
use Rattle.subtrees.specs.Subtrees.{top, kids, forest_in, subtree_in, siblings_in, Beside}
use Rattle.subtrees.proofs.Forest.{rest, stepped_at, some_row, siblings, end_within}
use Rattle.subtrees.proofs.Matrix.{sound_nodes, end_of}

-- the first of `left` subtrees side by side from row `at` on, and those from its end on
pub record Walked (s : Layout) (b : Bytes) (ends : List ℕ) (at left : ℕ) : Type 0 where
  pub inside : at < s.nodes
  pub next : get_or ends at 0 ≡ at + rows (subtree_in s b at)
  pub next_within : get_or ends at 0 ≤ s.nodes
  pub split : siblings_in s b at left ≡ subtree_in s b at ▸ siblings_in s b (get_or ends at 0) (left - 1)
  pub few : Beside s b (get_or ends at 0) (left - 1)

-- an operator has as many children as its argument says
operator_children : (t : Tree) → 4 < (top t).kind → (top t).argument ≡ count (kids t)
operator_children (lit true v) h = absurd (omega arith)
operator_children (lit false v) h = absurd (omega arith)
operator_children (node and ts) h = refl
operator_children (node or ts) h = refl

-- k subtrees from the row `from` on are the children of the subtree at row i
pub record Children (s : Layout) (b : Bytes) (i from k : ℕ) : Type 0 where
  pub few : Beside s b from k
  pub are : siblings_in s b from k ≡ kids (subtree_in s b i)

pub siblings-none : (s : Layout) (b : Bytes) (at : ℕ) {left : ℕ} → left ≤ 0 → siblings_in s b at left ≡ ∅
unfolding siblings_in front
siblings-none s b at {left = zero} h = refl
siblings-none s b at {left = suc l} h = absurd (omega arith)

module _ {s : Layout} (b : Bytes) (ok : Readable s b) where
  -- a row is the first of its subtree
  pub row-top : (i : ℕ) → i < s.nodes → get_or (rows_in s b) (s.variables + i) (row 0 0) ≡ top (subtree_in s b i)
  unfolding subtree_in forest_in
  row-top i h =
      node_row s b i ∙
      (stepped_at (node_rows_in s b) (sound_nodes b ok) i (omega (arith, length-nodes b ok))).is_top

  pub kind-top : {k : ℕ} (i : ℕ) → i < s.nodes → k ≡ (get_or (rows_in s b) (s.variables + i) (row 0 0)).kind → k ≡ (top (subtree_in s b i)).kind
  kind-top i h e = e ∙ ap (λ (r : Row). r.kind) (row-top i h)

  pub argument_top : {a : ℕ} (i : ℕ) → i < s.nodes → a ≡ (get_or (rows_in s b) (s.variables + i) (row 0 0)).argument
      → a ≡ (top (subtree_in s b i)).argument
  argument_top i h e = e ∙ ap (λ (r : Row). r.argument) (row-top i h)

  -- the subtree at row 0 is the matrix
  pub subtree_root : subtree_in s b 0 ≡ matrix_in s b
  unfolding subtree_in forest_in matrix_in
  subtree_root = refl

  pub root-top : get_or (rows_in s b) s.variables (row 0 0) ≡ top (matrix_in s b)
  root-top =
      ap (λ j. get_or (rows_in s b) j (row 0 0)) (sym (add-zero s.variables)) ∙ row-top 0 ok.some_nodes ∙ ap top subtree_root

  pub kind-root : {k : ℕ} → k ≡ (get_or (rows_in s b) s.variables (row 0 0)).kind → k ≡ (top (matrix_in s b)).kind
  kind-root e = e ∙ ap (λ (r : Row). r.kind) root-top

  pub argument_root : {a : ℕ} → a ≡ (get_or (rows_in s b) s.variables (row 0 0)).argument → a ≡ (top (matrix_in s b)).argument
  argument_root e = e ∙ ap (λ (r : Row). r.argument) root-top

  pub root_end : s.nodes ≡ 0 + rows (subtree_in s b 0)
  root_end = sym (rows-nodes b ok) ∙ ap rows (sym subtree_root) ∙ sym (zero-add (rows (subtree_in s b 0)))

  -- a subtree ends within the rows
  pub subtree_within : (i : ℕ) → i < s.nodes → i + rows (subtree_in s b i) ≤ s.nodes
  unfolding subtree_in forest_in
  subtree_within i h =
      omega (arith, length-nodes b ok, end_within (node_rows_in s b) (sound_nodes b ok) i (omega (arith, length-nodes b ok)))

  -- an entry of the table is the end of the subtree at its row
  pub end_subtree : (ends : List ℕ) → Indexed s b ends → (i : ℕ) → i < s.nodes → get_or ends i 0 ≡ i + rows (subtree_in s b i)
  unfolding subtree_in forest_in
  end_subtree ends e i h = end_of b ok ends e i h

  -- the children of the subtree at row i stand from the next row on
  pub below_row : (i : ℕ) → i < s.nodes → forest_in s b (suc i) ≡ kids (subtree_in s b i) ⧺ rest (forest_in s b i)
  unfolding subtree_in forest_in
  below_row i h = (stepped_at (node_rows_in s b) (sound_nodes b ok) i (omega (arith, length-nodes b ok))).below

  pub children_read : (i : ℕ) {from k : ℕ} → i < s.nodes → from ≡ suc i → k ≡ count (kids (subtree_in s b i))
      → Children s b i from k
  unfolding siblings_in
  children_read i {from} {k} h next all =
      let cs = kids (subtree_in s b i) in
      let us = rest (forest_in s b i) in
      record {
        few = rw next (omega (arith, ap count (below_row i h), count-⧺ cs us));
        are = rw (next, all) (ap (front (count cs)) (below_row i h) ∙ front-⧺ cs us);
      }

  pub children_of : (i : ℕ) {from k : ℕ} → i < s.nodes → from ≡ suc i → 4 < (top (subtree_in s b i)).kind
      → k ≡ (top (subtree_in s b i)).argument → Children s b i from k
  children_of i h next op e = children_read i h next (e ∙ operator_children (subtree_in s b i) op)

  pub walk_on : (ends : List ℕ) → Indexed s b ends → (at : ℕ) {left : ℕ} → 0 < left → Beside s b at left → Walked s b ends at left
  unfolding forest_in siblings_in subtree_in front count
  walk_on ends e at {left = zero} h few = absurd (omega arith)
  walk_on ends e at {left = suc l} h few =
      let rs = node_rows_in s b in
      let long = length-nodes b ok in
      let in_rows : at < length rs = some_row rs at (omega arith) in
      let next = end_of b ok ends e at (omega arith) in
      let sib = siblings rs (sound_nodes b ok) at in_rows in
      let back : suc l - 1 ≡ l = omega arith in
      record {
        inside = omega arith;
        next = next;
        next_within = omega (arith, end_within rs (sound_nodes b ok) at in_rows);
        split = rw (back, next) (ap (front (suc l)) sib);
        few = rw (back, next) (omega (arith, ap count sib));
      }

-- What is left of a walk that looks for a tree, by a test of the tree and those beside it. `found` is the answer for all.
pub record Looking (all : Forest → Bool) (s : Layout) (b : Bytes) (found : Bool) (at left : ℕ) : Type 0 where
  pub few : Beside s b at left
  pub same : found ≡ all (siblings_in s b at left)

module _ (test : Tree → Forest → Bool) (all : Forest → Bool) (none : all ∅ ≡ false)
    (more : (t : Tree) (ts : Forest) → all (t ▸ ts) ≡ (test t ts || all ts)) {s : Layout} {b : Bytes} where
  pub look_none : {found : Bool} {at left : ℕ} → left ≤ 0 → Looking all s b found at left → found ≡ false
  look_none {found} {at} {left} h l = l.same ∙ ap all (siblings-none s b at h) ∙ none

  module _ {ends : List ℕ} {at left : ℕ} (walked : Walked s b ends at left) {found : Bool} (l : Looking all s b found at left) where
    abbrev others : Forest
    others = siblings_in s b (get_or ends at 0) (left - 1)

    looked : {yes : Bool} → test (subtree_in s b at) others ≡ yes → found ≡ (yes || all others)
    looked e =
        l.same ∙ ap all walked.split ∙ more (subtree_in s b at) others ∙ ap (λ c. c || all others) e

    pub look-found : test (subtree_in s b at) (siblings_in s b (get_or ends at 0) (left - 1)) ≡ true → found ≡ true
    look-found e = looked e

    pub look-on : test (subtree_in s b at) (siblings_in s b (get_or ends at 0) (left - 1)) ≡ false
        → Looking all s b found (get_or ends at 0) (left - 1)
    look-on e = record { few = walked.few; same = looked e }
