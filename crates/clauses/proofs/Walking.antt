-- The walk over the rows of a matrix, with the next conjunct's row: the trees left of the conjunct it is in, and the conjuncts behind.
-- Assumes nothing.
use mathlib.Core.Path.{◌≡◌, refl, sym, ap, ap₂, ◌∙◌}
use mathlib.Core.Bool.{Bool, true, false, cond}
use mathlib.Core.List.{List, ◌∷◌}
use Prim.Native.Nat.{ℕ, suc, ◌+◌, ◌≤◌, ◌<◌}
use native.Mathlib.Omega.{arith}
use lib.Dec.{eqb}
use lib.ListN.{get_or, length}
use lib.ListN.{drop_of_length-le}
use borrow.Author.Tests.{eq-eqb, ne_eqb}
use Rattle.formula.specs.Tree.{and, or, Tree, lit, node, Forest, ∅, ◌▸◌, ◌⧺◌, rows, rows_all, count}
use Rattle.formula.specs.Clausal.{operators_all, conjuncts, named_all}
use Rattle.formula.proofs.Forests.{⧺-assoc, ⧺-none, rows-⧺, rows_positive}
use Rattle.sheet.specs.Format.{Bytes}
use Rattle.sheet.specs.Sheet.{trees, root}
use Rattle.rows.specs.Formulas.{node_rows_in, matrix_in, Readable}
use Rattle.rows.specs.declared.Layout.{Layout}
use Rattle.rows.proofs.Formulas.{length-nodes}
use Rattle.subtrees.specs.Ends.{Indexed}
use Rattle.subtrees.specs.Subtrees.{kids, forest_in, subtree_in}
use Rattle.subtrees.proofs.Forest.{rest, rows-kids, stepped_at}
use Rattle.subtrees.proofs.Matrix.{sound_nodes, trees-nodes}
use Rattle.subtrees.proofs.Siblings.{subtree_root, below_row, end_subtree}
use Rattle.clauses.specs.Inner.Named.{own_clauses, clauses_left, next_name, marks_left, first_conjunct}
use Rattle.clauses.proofs.Named.{left-conjunct, left_below, marks-conjunct, marks-below, names-conjunct, names-below}

-- at row j: the trees ts of a conjunct and the conjuncts us are left, and `next` is the row of the first of these
pub record Walking (s : Layout) (b : Bytes) (j next : ℕ) (ts us : Forest) : Type 0 where
  pub within : j ≤ s.nodes
  pub are_left : forest_in s b j ≡ ts ⧺ us
  pub boundary : next ≡ j + rows_all ts

-- one row further, where c says whether row j is a conjunct
pub record Turned (s : Layout) (b : Bytes) (j next : ℕ) (ts us : Forest) (c : Bool) (next₁ : ℕ) : Type 0 where
  pub ts₁ : Forest
  pub us₁ : Forest
  pub walking : Walking s b (suc j) next₁ ts₁ us₁
  pub clauses : (L : List ℕ) → clauses_left L j ts us ≡ own_clauses L j c (subtree_in s b j) ⧺ clauses_left L (suc j) ts₁ us₁
  pub marked : (fresh : ℕ → ℕ) (i : ℕ) → marks_left fresh i ts us ≡ fresh i ∷ marks_left fresh (next_name i c (subtree_in s b j)) ts₁ us₁
  pub names : (i : ℕ) → i + (operators_all ts + named_all us) ≡ next_name i c (subtree_in s b j) + (operators_all ts₁ + named_all us₁)

-- no tree is left behind the last row
none_left : (ts us : Forest) → ts ⧺ us ≡ ∅ → (ts ≡ ∅) × (us ≡ ∅)
unfolding ◌⧺◌ count
none_left ∅ us e = (refl, e)
none_left (t ▸ ts) us e = let z : ◌≡◌ {A = ℕ} (suc (count (ts ⧺ us))) 0 = ap count e in absurd (omega arith)

module _ {s : Layout} (b : Bytes) (ok : Readable s b) where
  whole : forest_in s b 0 ≡ matrix_in s b ▸ ∅
  unfolding forest_in
  whole = trees-nodes b ok

  -- below a root there is nothing beside its children
  below_root : forest_in s b 1 ≡ kids (matrix_in s b)
  unfolding rest
  below_root =
      below_row b ok 0 ok.some_nodes ∙ ap₂ (λ t ts. kids t ⧺ rest ts) (subtree_root b ok) whole ∙ ⧺-none (kids (matrix_in s b))

  -- the conjuncts stand from the first one's row on
  conjuncts_at : (t : Tree) → matrix_in s b ≡ t → forest_in s b (first_conjunct t) ≡ conjuncts t
  unfolding conjuncts
  conjuncts_at (lit v x) e = whole ∙ ap (λ u. u ▸ ∅) e
  conjuncts_at (node and ts) e = below_root ∙ ap kids e
  conjuncts_at (node or ts) e = whole ∙ ap (λ u. u ▸ ∅) e

  first_few : (t : Tree) → first_conjunct t ≤ 1
  first_few (lit v x) = omega arith
  first_few (node and ts) = omega arith
  first_few (node or ts) = omega arith

  pub walking_first : {j : ℕ} → j ≡ first_conjunct (matrix_in s b) → Walking s b j j ∅ (conjuncts (matrix_in s b))
  unfolding ◌⧺◌ rows_all
  walking_first {j} e =
      record {
        within = omega (arith, e, first_few (matrix_in s b), ok.some_nodes);
        are_left = ap (forest_in s b) e ∙ conjuncts_at (matrix_in s b) refl;
        boundary = omega arith;
      }

  pub walking_none : {j next : ℕ} {ts us : Forest} → s.nodes ≤ j → Walking s b j next ts us → (ts ≡ ∅) × (us ≡ ∅)
  unfolding forest_in trees
  walking_none {j} {ts = ts} {us = us} h w =
      let long : length (node_rows_in s b) ≤ j = omega (arith, length-nodes b ok) in
      none_left ts us (sym w.are_left ∙ ap trees (drop_of_length-le (node_rows_in s b) long))

  module _ {j : ℕ} (more : j < s.nodes) where
    here : forest_in s b j ≡ subtree_in s b j ▸ rest (forest_in s b j)
    unfolding subtree_in forest_in
    here = (stepped_at (node_rows_in s b) (sound_nodes b ok) j (omega (arith, length-nodes b ok))).whole

    pub walking_on : (ends : List ℕ) → Indexed s b ends → {next : ℕ} (ts us : Forest) → Walking s b j next ts us → {c : Bool} → c ≡ eqb j next
        → {next₁ : ℕ} → next₁ ≡ cond c (get_or ends j 0) next → Turned s b j next ts us c next₁
    unfolding ◌⧺◌ rows_all root rest
    walking_on ends e {next} ∅ us w {c} is {next₁} to =
        let t = subtree_in s b j in
        let same : us ≡ t ▸ rest (forest_in s b j) = sym w.are_left ∙ here in
        let conjunct : c ≡ true = is ∙ eq-eqb j next (omega (arith, w.boundary)) in
        let end : next₁ ≡ suc j + rows_all (kids t)
        = to ∙ ap (λ (m : Bool). cond m (get_or ends j 0) next) conjunct ∙ end_subtree b ok ends e j more ∙ omega (arith, rows-kids t) in
        rw (same, conjunct)
        (record {
          ts₁ = kids t;
          us₁ = rest (forest_in s b j);
          walking = record { within = more; are_left = below_row b ok j more; boundary = end };
          clauses = λ L. left-conjunct L j t (rest (forest_in s b j));
          marked = λ fresh i. marks-conjunct fresh i t (rest (forest_in s b j));
          names = λ i. names-conjunct i t (rest (forest_in s b j));
        })
    walking_on ends e {next} (u ▸ ts) us w {c} is {next₁} to =
        let t = subtree_in s b j in
        let both : u ▸ (ts ⧺ us) ≡ t ▸ rest (forest_in s b j) = sym w.are_left ∙ here in
        let first : u ≡ t = ap root both in
        let others : ts ⧺ us ≡ rest (forest_in s b j) = ap rest both in
        let below : c ≡ false = is ∙ ne_eqb j next (λ e. omega (arith, e, w.boundary, rows_positive u)) in
        let end : next₁ ≡ next = to ∙ ap (λ (m : Bool). cond m (get_or ends j 0) next) below in
        rw (first, below)
        (record {
          ts₁ = kids t ⧺ ts;
          us₁ = us;
          walking =
              record {
                within = more;
                are_left = below_row b ok j more ∙ ap (λ l. kids t ⧺ l) (sym others) ∙ sym (⧺-assoc (kids t) ts us);
                boundary = omega (arith, end, w.boundary, rows-kids t, rows-⧺ (kids t) ts, ap rows first);
              };
          clauses = λ L. left_below L j t ts us;
          marked = λ fresh i. marks-below fresh i t ts us;
          names = λ i. names-below i t ts us;
        })
