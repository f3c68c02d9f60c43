-- The relevant subtree among the rows of its tree: where its operator's subtree starts, and what is taken of it.
-- Assumes nothing.
use mathlib.Core.Path.{◌≡◌, refl, sym, ap, ap₂, ◌∙◌}
use mathlib.Core.Bool.{Bool, true, false, not, cond, true≢false}
use mathlib.Core.List.{List, [], ◌∷◌, ◌++◌, append-nil, append_assoc, map}
use Prim.Native.Nat.{ℕ, suc, ◌+◌, ◌≤◌, ◌<◌}
use native.Mathlib.Nat.{add-zero, add-suc, suc-add, add_assoc}
use native.Mathlib.Omega.{arith}
use lib.ListN.{length, drop, length-append}
use lib.Seq.{drop-append-le, drop-append-add}
use borrow.Author.Tests.{not-true, not-false}
use Rattle.formula.specs.Tree.{Op, Tree, lit, node, Forest, ∅, ◌▸◌, Literals, rows, has, count, some_child, keep, replace}
use Rattle.formula.specs.Expand.{relevant, one_relevant, all_relevant}
use Rattle.formula.specs.Strategy as strategy
use Rattle.formula.proofs.Booleans.{or_parts}
use Rattle.formula.proofs.Expand.{one_later, one_counts, no_child}
use Rattle.formula.proofs.Strategy.Function.{rows-relevant_subtree}
use Rattle.sheet.specs.Format.{Bytes, Row, row}
use Rattle.sheet.specs.Sheet.{operator_kind, tree_rows, forest_rows}
use Rattle.sheet.proofs.Preorder.{count-rows, length-tree_rows}
use Rattle.rows.specs.Formulas.{matrix_in, Readable}
use Rattle.rows.specs.declared.Layout.{Layout}
use Rattle.rows.proofs.Formulas.{rows-nodes}
use Rattle.subtrees.specs.Subtrees.{top, kids}
use Rattle.subtrees.specs.Parts.{literal_part, operator_part, relevant_subtree, part_below}
use Rattle.subtrees.specs.declared.relevant.Relevant.{Relevant}
use Rattle.substitution.specs.Changes.{chosen, changed, changed_row}
use Rattle.substitution.proofs.Changed.{count-replace_all, rows-changed, rows-changed-all}

-- the part whose operator, or whose literal, is a tree's own, and what is taken of the tree
abbrev pub own_part : Literals → ℕ → Tree → Relevant
own_part L i (lit s v) = literal_part i
own_part L i (node o ts) = operator_part L i ts

abbrev pub own_tree : Literals → Tree → Tree
own_tree L (lit s v) = lit s v
own_tree L (node o ts) = node o (relevant L ts)

-- Behind some rows stand those of a tree whose own part is the part p at row i, and w is taken of it.
pub record Placed (L : Literals) (i : ℕ) (p : Relevant) (w : Tree) (rs : List Row) : Type 0 where
  pub skipped : ℕ
  pub tree : Tree
  pub more : List Row
  pub within : skipped ≤ length rs
  pub stands : drop skipped rs ≡ tree_rows tree ++ more
  pub found : p ≡ own_part L (i + skipped) tree
  pub taken : w ≡ own_tree L tree

module _ (L : Literals) where
  here : (i : ℕ) (u : Tree) → Placed L i (own_part L i u) (own_tree L u) (tree_rows u)
  here i u =
      record {
        skipped = 0;
        tree = u;
        more = [];
        within = omega arith;
        stands = sym (append-nil (tree_rows u));
        found = ap (λ n. own_part L n u) (sym (add-zero i));
        taken = refl;
      }

  under : (i : ℕ) (o : Op) (ts : Forest) {p : Relevant} {w : Tree} → Placed L (suc i) p w (forest_rows ts)
      → Placed L i p w (tree_rows (node o ts))
  unfolding tree_rows
  under i o ts a =
      record {
        skipped = suc a.skipped;
        tree = a.tree;
        more = a.more;
        within = omega (arith, a.within);
        stands = a.stands;
        found = a.found ∙ ap (λ n. own_part L n a.tree) (suc-add i a.skipped ∙ sym (add-suc i a.skipped));
        taken = a.taken;
      }

  leading : (i : ℕ) (u : Tree) (ts : Forest) {p : Relevant} {w : Tree} → Placed L i p w (tree_rows u) → Placed L i p w (forest_rows (u ▸ ts))
  unfolding forest_rows
  leading i u ts a =
      record {
        skipped = a.skipped;
        tree = a.tree;
        more = a.more ++ forest_rows ts;
        within = omega (arith, a.within, length-append (tree_rows u) (forest_rows ts));
        stands =
            drop-append-le a.skipped (tree_rows u) (forest_rows ts) a.within ∙ ap (λ l. l ++ forest_rows ts) a.stands ∙
            append_assoc (tree_rows a.tree) a.more (forest_rows ts);
        found = a.found;
        taken = a.taken;
      }

  later : (i : ℕ) (u : Tree) (ts : Forest) {p : Relevant} {w : Tree} → Placed L (i + rows u) p w (forest_rows ts)
      → Placed L i p w (forest_rows (u ▸ ts))
  unfolding forest_rows
  later i u ts a =
      record {
        skipped = rows u + a.skipped;
        tree = a.tree;
        more = a.more;
        within = omega (arith, a.within, length-append (tree_rows u) (forest_rows ts), length-tree_rows u);
        stands =
            ap (λ n. drop (n + a.skipped) (tree_rows u ++ forest_rows ts)) (sym (length-tree_rows u)) ∙
            drop-append-add (tree_rows u) (forest_rows ts) a.skipped ∙ a.stands;
        found = a.found ∙ ap (λ n. own_part L n a.tree) (add_assoc i (rows u) a.skipped);
        taken = a.taken;
      }

  mutual
    unfolding relevant_subtree part_below strategy.relevant_subtree strategy.relevant_below

    pub placed : (u : Tree) (i : ℕ) → Placed L i (relevant_subtree L i u) (strategy.relevant_subtree L u) (tree_rows u)
    placed (lit s v) i = here i (lit s v)
    placed (node o ts) i = by (one_relevant L ts) refl (λ k. placed_below ts (suc i) k)
      where
        by : (one : Bool) → one_relevant L ts ≡ one
            → (count (keep (has L) ts) ≡ 1 → Placed L (suc i) (part_below L (suc i) ts) (strategy.relevant_below L ts) (forest_rows ts))
            → Placed L i (cond one (part_below L (suc i) ts) (operator_part L i ts))
            (cond one (strategy.relevant_below L ts) (node o (relevant L ts))) (tree_rows (node o ts))
        by true e below = under i o ts (below (one_counts L ts e))
        by false e below = here i (node o ts)

    placed_below : (ts : Forest) (i : ℕ) → count (keep (has L) ts) ≡ 1
        → Placed L i (part_below L i ts) (strategy.relevant_below L ts) (forest_rows ts)
    placed_below ∅ i h = absurd (no_child L h)
    placed_below (u ▸ ts) i h = by (has L u) refl (placed u i) (λ k. placed_below ts (i + rows u) k)
      where
        by : (m : Bool) → has L u ≡ m → Placed L i (relevant_subtree L i u) (strategy.relevant_subtree L u) (tree_rows u)
            → (count (keep (has L) ts) ≡ 1
            → Placed L (i + rows u) (part_below L (i + rows u) ts) (strategy.relevant_below L ts) (forest_rows ts))
            → Placed L i (cond m (relevant_subtree L i u) (part_below L (i + rows u) ts))
            (cond m (strategy.relevant_subtree L u) (strategy.relevant_below L ts)) (forest_rows (u ▸ ts))
        by true e in-u in-ts = leading i u ts in-u
        by false e in-u in-ts = later i u ts (in-ts (one_later L u ts h e))

  own_rows : (i : ℕ) (u : Tree) → (own_part L i u).rows ≡ rows (own_tree L u)
  unfolding operator_part rows
  own_rows i (lit s v) = refl
  own_rows i (node o ts) = omega arith

  pub own_few : (i : ℕ) (u : Tree) → (own_part L i u).children < (own_part L i u).rows
  unfolding operator_part
  own_few i (lit s v) = omega arith
  own_few i (node o ts) = omega (arith, count-rows (relevant L ts))

  pub own_operator : (i : ℕ) (u : Tree) → (own_part L i u).operator ≡ i
  unfolding operator_part
  own_operator i (lit s v) = refl
  own_operator i (node o ts) = refl

  -- as many rows as are counted
  pub rows_taken : (i : ℕ) (t : Tree) → (relevant_subtree L i t).rows ≡ rows (strategy.relevant_subtree L t)
  rows_taken i t =
      let a = placed t i in
      ap (λ (p : Relevant). p.rows) a.found ∙ own_rows (i + a.skipped) a.tree ∙ ap rows (sym a.taken)

  -- where every child is relevant, the whole tree is taken
  none_out : (ts : Forest) → some_child (λ t. not (has L t)) ts ≡ false → keep (has L) ts ≡ ts
  unfolding keep some_child
  none_out ∅ h = refl
  none_out (t ▸ ts) h =
      let parts = or_parts (not (has L t)) (some_child (λ t. not (has L t)) ts) h in
      ap₂ (λ (m : Bool) (us : Forest). cond m (t ▸ us) us) (not-false (has L t) parts.0) (none_out ts parts.1)

  pub own_whole : (i : ℕ) (u : Tree) → (own_part L i u).all ≡ true → own_tree L u ≡ u
  unfolding operator_part all_relevant relevant
  own_whole i (lit s v) h = refl
  own_whole i (node o ts) h = ap (node o) (none_out ts (not-true (some_child (λ t. not (has L t)) ts) h))

-- no more than the sheet has
pub few_taken : {s : Layout} {b : Bytes} → Readable s b → (L : Literals) → (relevant_subtree L 0 (matrix_in s b)).rows ≤ 8192
few_taken {s} {b} ok L =
    omega (arith, rows_taken L 0 (matrix_in s b), rows-relevant_subtree L (matrix_in s b), rows-nodes b ok, ok.few_nodes)

-- the rows of what is taken, changed by a table: all rows of the tree, or its operator over the relevant children's
module _ (t : List ℕ) where
  pub whole_rows : (i : ℕ) (u : Tree) → (own_part (chosen t) i u).all ≡ true
      → map (changed_row t) (tree_rows u) ≡ tree_rows (replace (changed t) (own_tree (chosen t) u))
  whole_rows i u h = rows-changed t u ∙ ap (λ w. tree_rows (replace (changed t) w)) (sym (own_whole (chosen t) i u h))

  pub some_rows : (i : ℕ) (u : Tree) → (own_part (chosen t) i u).all ≡ false → {rs : List Row}
      → rs ≡ forest_rows (relevant (chosen t) (kids u)) → {k n : ℕ} → k ≡ (top u).kind → n ≡ (own_part (chosen t) i u).children
      → row k n ∷ map (changed_row t) rs ≡ tree_rows (replace (changed t) (own_tree (chosen t) u))
  unfolding operator_part tree_rows replace
  some_rows i (lit s v) h e a b = absurd (true≢false h)
  some_rows i (node o ts) h {rs} e a b =
      let taken = relevant (chosen t) ts in
      ap₂ (λ k n. row k n ∷ map (changed_row t) rs) a b ∙
      ap₂ (λ n l. row (operator_kind o) n ∷ l) (sym (count-replace_all (changed t) taken)) (ap (map (changed_row t)) e ∙ rows-changed-all t taken)
