-- Faults, child by child and row by row.
-- Assumes nothing.
use mathlib.Core.Path.{◌≡◌, refl, sym, ap, ap₂, ◌∙◌}
use mathlib.Core.Bool.{Bool, true, false, not, ◌&&◌, ◌||◌, cond, or-false, or-true, and-false, and-true}
use mathlib.Core.List.{List, [], ◌∷◌, append-nil}
use Prim.Native.Nat.{ℕ, zero, suc, ◌+◌, ◌≤◌, ◌<◌}
use native.Mathlib.Omega.{arith}
use lib.Dec.{eqb}
use lib.ListN.{length, drop}
use lib.Seq.{drop-length}
use borrow.Author.Tests.{ne_eqb}
use Rattle.formula.proofs.Booleans.{or-none, or_later}
use Rattle.formula.proofs.Tidy.Children.{some_child_same, some_two-or}
use Rattle.formula.specs.Tree.{Op, and, or, Tree, lit, node, Forest, ∅, ◌▸◌, count, some_child, some_two, ◌⧺◌}
use Rattle.formula.specs.Tidy.{is_op, duplicate, same_variable, alone, childless, breaks, faults, faults_all, root_faults, any, first_true, is_tidy, first_fault}
use Rattle.sheet.specs.Format.{Bytes}
use Rattle.sheet.specs.Sheet.{operator_kind, trees}
use Rattle.rows.specs.Formulas.{node_rows_in, matrix_in, Readable}
use Rattle.rows.specs.declared.Layout.{Layout}
use Rattle.rows.proofs.Formulas.{length-nodes}
use Rattle.subtrees.specs.Subtrees.{top, kids, forest_in, subtree_in}
use Rattle.subtrees.proofs.Forest.{rest, stepped_at, faults-⧺}
use Rattle.subtrees.proofs.Matrix.{sound_nodes, trees-nodes}
use Rattle.subtrees.proofs.Siblings.{below_row}
use Rattle.buckets.specs.Chains.{BUCKETS}
use Rattle.duplicates.specs.Members.{clash}
use Rattle.tidiness.specs.Faults.{some_kind, at_fault, plain_fault}

-- some-kind

pub some_kind-none : (k : ℕ) → some_kind k ∅ ≡ false
unfolding some_kind some_child
some_kind-none k = refl

pub some_kind_more : (k : ℕ) (t : Tree) (ts : Forest) → some_kind k (t ▸ ts) ≡ (eqb (top t).kind k || some_kind k ts)
unfolding some_kind some_child
some_kind_more k t ts = refl

is_op-kind : (o : Op) (t : Tree) → is_op o t ≡ eqb (top t).kind (operator_kind o)
unfolding is_op
is_op-kind and (lit true v) = refl
is_op-kind and (lit false v) = refl
is_op-kind and (node and ts) = refl
is_op-kind and (node or ts) = refl
is_op-kind or (lit true v) = refl
is_op-kind or (lit false v) = refl
is_op-kind or (node and ts) = refl
is_op-kind or (node or ts) = refl

-- plain-fault

pub fault_literal : (i : ℕ) (t : Tree) → (top t).kind ≤ 4 → plain_fault i t ≡ false
unfolding plain_fault
fault_literal i (lit s v) h = refl
fault_literal i (node and ts) h = absurd (omega arith)
fault_literal i (node or ts) h = absurd (omega arith)

pub fault_childless : (i : ℕ) (t : Tree) → 4 < (top t).kind → (top t).argument ≡ 0 → plain_fault i t ≡ not (eqb i 0)
unfolding plain_fault childless alone some_child some_two count
fault_childless i (lit true v) h e = absurd (omega arith)
fault_childless i (lit false v) h e = absurd (omega arith)
fault_childless i (node o ∅) h e = or-false (not (eqb i 0) && true) ∙ and-true (not (eqb i 0))
fault_childless i (node o (t ▸ ts)) h e = absurd (omega arith)

pub fault_alone : (i : ℕ) (t : Tree) → 4 < (top t).kind → (top t).argument ≡ 1 → plain_fault i t ≡ true
unfolding plain_fault childless alone count
fault_alone i (lit true v) h e = absurd (omega arith)
fault_alone i (lit false v) h e = absurd (omega arith)
fault_alone i (node o ∅) h e = absurd (omega arith)
fault_alone i (node o (t ▸ ∅)) h e = or-true (not (eqb i 0) && false)
fault_alone i (node o (t ▸ u ▸ ts)) h e = absurd (omega arith)

pub fault_more : (i : ℕ) (t : Tree) → 4 < (top t).kind → 1 < (top t).argument
    → plain_fault i t ≡ some_kind (top t).kind (kids t)
unfolding plain_fault childless alone count some_kind
fault_more i (lit true v) h e = absurd (omega arith)
fault_more i (lit false v) h e = absurd (omega arith)
fault_more i (node o ∅) h e = absurd (omega arith)
fault_more i (node o (t ▸ ∅)) h e = absurd (omega arith)
fault_more i (node o (t ▸ u ▸ ts)) h e =
    rw (and-false (not (eqb i 0))) (some_child_same (is_op-kind o) (t ▸ u ▸ ts))

-- at-fault

some_two-clash : (ts : Forest) → some_two clash ts ≡ (some_two same_variable ts || some_two duplicate ts)
unfolding clash
some_two-clash ts = some_two-or same_variable duplicate ts

fault_parts : (i : ℕ) (t : Tree) → at_fault i t ≡ (plain_fault i t || some_two clash (kids t))
unfolding at_fault plain_fault breaks some_two
fault_parts i (lit s v) = refl
fault_parts i (node o ts) =
    parts (not (eqb i 0) && childless ts) (alone ts || some_child (is_op o) ts) (some_two same_variable ts) (some_two duplicate ts) ∙
    ap (λ (c : Bool). ((not (eqb i 0) && childless ts) || (alone ts || some_child (is_op o) ts)) || c) (sym (some_two-clash ts))
  where
    parts : (a b c d : Bool) → (a || ((b || c) || d)) ≡ ((a || b) || (c || d))
    parts true b c d = refl
    parts false true c d = refl
    parts false false c d = refl

module _ (i : ℕ) (t : Tree) where
  pub fault_plain : plain_fault i t ≡ true → at_fault i t ≡ true
  fault_plain e = fault_parts i t ∙ ap (λ (c : Bool). c || some_two clash (kids t)) e

  pub fault_two : some_two clash (kids t) ≡ true → at_fault i t ≡ true
  fault_two e = fault_parts i t ∙ or_later (plain_fault i t) e

  pub fault_none : plain_fault i t ≡ false → some_two clash (kids t) ≡ false → at_fault i t ≡ false
  fault_none e f = fault_parts i t ∙ or-none e f

-- row by row

faults-row : (i : ℕ) (t : Tree) (ts : Forest) → faults_all (t ▸ ts) ≡ at_fault (suc i) t ∷ faults_all (kids t ⧺ ts)
unfolding faults_all faults at_fault ◌⧺◌
faults-row i (lit s v) ts = refl
faults-row i (node o cs) ts =
    ap₂ ◌∷◌ (ap (λ c. (c && childless cs) || breaks o cs) (sym (ap not (ne_eqb (suc i) 0 (λ e. omega arith))))) (sym (faults-⧺ cs ts))

root_faults-row : (t : Tree) → root_faults t ≡ at_fault 0 t ∷ faults_all (kids t ⧺ ∅)
unfolding root_faults at_fault faults_all ◌⧺◌
root_faults-row (lit s v) = refl
root_faults-row (node o ts) = ap (λ l. breaks o ts ∷ l) (sym (faults-⧺ ts ∅ ∙ append-nil (faults_all ts)))

-- what is left of the matrix's faults from row i on
abbrev remaining : Layout → Bytes → ℕ → List Bool
remaining s b zero = root_faults (matrix_in s b)
remaining s b (suc i) = faults_all (forest_in s b (suc i))

pub record Searching (s : Layout) (b : Bytes) (i : ℕ) : Type 0 where
  pub within : i ≤ s.nodes
  pub first : first_fault (matrix_in s b) ≡ i + first_true (remaining s b i)
  pub some : any (root_faults (matrix_in s b)) ≡ any (remaining s b i)

-- where the search's tables keep their lengths
pub record Passing (s : Layout) (b : Bytes) (heads links members : List ℕ) (i : ℕ) : Type 0 where
  pub searching : Searching s b i
  pub all_heads : length heads ≡ BUCKETS
  pub all_links : length links ≡ 8192
  pub all_members : length members ≡ 8192

module _ {s : Layout} (b : Bytes) (ok : Readable s b) where
  remaining_row : (i : ℕ) → i < s.nodes → remaining s b i ≡ at_fault i (subtree_in s b i) ∷ remaining s b (suc i)
  unfolding subtree_in forest_in matrix_in rest
  remaining_row zero h =
      root_faults-row (matrix_in s b) ∙
      ap (λ ts. at_fault 0 (matrix_in s b) ∷ faults_all ts)
      (sym (below_row b ok 0 h ∙ ap (λ ts. kids (matrix_in s b) ⧺ rest ts) (trees-nodes b ok)))
  remaining_row (suc i) h =
      ap faults_all (stepped_at (node_rows_in s b) (sound_nodes b ok) (suc i) (omega (arith, length-nodes b ok))).whole ∙
      faults-row i (subtree_in s b (suc i)) (rest (forest_in s b (suc i))) ∙
      ap (λ ts. at_fault (suc i) (subtree_in s b (suc i)) ∷ faults_all ts) (sym (below_row b ok (suc i) h))

  pub search_start : Searching s b 0
  unfolding first_fault
  search_start = record { within = omega arith; first = omega arith; some = refl }

  pub search_on : (i : ℕ) {j : ℕ} → i < s.nodes → j ≡ suc i → Searching s b i → at_fault i (subtree_in s b i) ≡ false
      → Searching s b j
  unfolding first_true any
  search_on i {j} h next so e =
      let row = remaining_row i h ∙ ap (λ c. c ∷ remaining s b (suc i)) e in
      rw next
      (record {
        within = h;
        first = omega (arith, so.first, ap first_true row);
        some = so.some ∙ ap any row;
      })

  pub search_found : (i : ℕ) → i < s.nodes → Searching s b i → at_fault i (subtree_in s b i) ≡ true
      → i ≡ cond (is_tidy (matrix_in s b)) s.nodes (first_fault (matrix_in s b))
  unfolding first_true any is_tidy
  search_found i h so e =
      let row = remaining_row i h ∙ ap (λ c. c ∷ remaining s b (suc i)) e in
      rw (so.some ∙ ap any row) (omega (arith, so.first, ap first_true row))

  nothing_remains : (i : ℕ) → i ≡ s.nodes → remaining s b i ≡ []
  unfolding forest_in faults_all trees
  nothing_remains zero e = absurd (omega (arith, ok.some_nodes))
  nothing_remains (suc i) e =
      ap (λ m. faults_all (trees (drop m (node_rows_in s b)))) (e ∙ sym (length-nodes b ok)) ∙
      ap (λ l. faults_all (trees l)) (drop-length (node_rows_in s b))

  pub search_all : (i : ℕ) → s.nodes ≤ i → Searching s b i → s.nodes ≡ cond (is_tidy (matrix_in s b)) s.nodes (first_fault (matrix_in s b))
  unfolding any is_tidy
  search_all i h so = rw (so.some ∙ ap any (nothing_remains i (omega (arith, so.within))))
