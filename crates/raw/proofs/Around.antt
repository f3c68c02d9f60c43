-- What an expansion leaves as it is: the rows before and behind the subtree that it replaces.
-- Assumes nothing.
use mathlib.Core.Path.{◌≡◌, refl, sym, ap, ap₂, ◌∙◌}
use mathlib.Core.Bool.{Bool, true, false, cond}
use mathlib.Core.List.{List, [], ◌∷◌, ◌++◌, append-nil, append_assoc}
use Prim.Native.Nat.{ℕ, suc, ◌+◌}
use native.Mathlib.Nat.{add-zero, add-suc, suc-add, add_assoc}
use lib.ListN.{length, length-append}
use Rattle.formula.specs.Tree.{Op, Tree, lit, node, Forest, ∅, ◌▸◌, Literals, rows, has, has_any, count, keep}
use Rattle.formula.specs.Expand.{Copying, one_relevant, all_relevant, relevant, copies, at_first, expand_tree, expand_below}
use Rattle.formula.proofs.Expand.{one_later, one_counts, no_child}
use Rattle.sheet.specs.Format.{Row, row}
use Rattle.sheet.specs.Sheet.{operator_kind, tree_rows, forest_rows}
use Rattle.sheet.proofs.Preorder.{length-tree_rows}
use Rattle.subtrees.specs.Parts.{literal_part, operator_part, relevant_subtree, part_below}
use Rattle.subtrees.specs.declared.relevant.Relevant.{Relevant}

-- some literal is chosen, and no single child has them all
abbrev pub Deepest : Literals → Tree → Type 0
Deepest L (lit s v) = L s v ≡ true
Deepest L (node o ts) = (has_any L ts ≡ true) × (one_relevant L ts ≡ false)

-- the relevant subtree is such a tree's own
abbrev pub own_part : Literals → ℕ → Tree → Relevant
own_part L i (lit s v) = literal_part i
own_part L i (node o ts) = operator_part L i ts

-- Rows and raw rows that are alike but for those of a tree, the part's own.
pub record Around (c : Copying) (i : ℕ) (p : Relevant) (rs raw : List Row) : Type 0 where
  pub front : List Row
  pub back : List Row
  pub tree : Tree
  pub deep : Deepest c.chosen tree
  pub found : p ≡ own_part c.chosen (i + length front) tree
  pub in_rows : rs ≡ front ++ (tree_rows tree ++ back)
  pub in_raw : raw ≡ front ++ (tree_rows (expand_tree c tree) ++ back)

count-below : (c : Copying) (ts : Forest) → count (expand_below c ts) ≡ count ts
unfolding count expand_below
count-below c ∅ = refl
count-below c (t ▸ ts) = by (has c.chosen t) (count-below c ts)
  where
    by : (m : Bool) → count (expand_below c ts) ≡ count ts → count (cond m (expand_tree c t ▸ ts) (t ▸ expand_below c ts)) ≡ suc (count ts)
    by true e = refl
    by false e = ap suc e

module _ (c : Copying) where
  abbrev L : Literals
  L = c.chosen

  here : (i : ℕ) (u : Tree) → Deepest L u → Around c i (own_part L i u) (tree_rows u) (tree_rows (expand_tree c u))
  here i u d =
      record {
        front = [];
        back = [];
        tree = u;
        deep = d;
        found = ap (λ n. own_part L n u) (sym (add-zero i));
        in_rows = sym (append-nil (tree_rows u));
        in_raw = sym (append-nil (tree_rows (expand_tree c u)));
      }

  under : (i : ℕ) (o : Op) (ts : Forest) {p : Relevant} → Around c (suc i) p (forest_rows ts) (forest_rows (expand_below c ts))
      → Around c i p (tree_rows (node o ts)) (tree_rows (node o (expand_below c ts)))
  unfolding tree_rows
  under i o ts a =
      record {
        front = row (operator_kind o) (count ts) ∷ a.front;
        back = a.back;
        tree = a.tree;
        deep = a.deep;
        found = a.found ∙ ap (λ n. own_part L n a.tree) (suc-add i (length a.front) ∙ sym (add-suc i (length a.front)));
        in_rows = ap (λ l. row (operator_kind o) (count ts) ∷ l) a.in_rows;
        in_raw = ap₂ (λ n l. row (operator_kind o) n ∷ l) (count-below c ts) a.in_raw;
      }

  leading : (i : ℕ) (u : Tree) (ts : Forest) {p : Relevant}
      → Around c i p (tree_rows u) (tree_rows (expand_tree c u))
      → Around c i p (forest_rows (u ▸ ts)) (forest_rows (expand_tree c u ▸ ts))
  unfolding forest_rows
  leading i u ts a =
      record {
        front = a.front;
        back = a.back ++ forest_rows ts;
        tree = a.tree;
        deep = a.deep;
        found = a.found;
        in_rows = ap (λ l. l ++ forest_rows ts) a.in_rows ∙ simp append_assoc;
        in_raw = ap (λ l. l ++ forest_rows ts) a.in_raw ∙ simp append_assoc;
      }

  later : (i : ℕ) (u : Tree) (ts : Forest) {p : Relevant}
      → Around c (i + rows u) p (forest_rows ts) (forest_rows (expand_below c ts))
      → Around c i p (forest_rows (u ▸ ts)) (forest_rows (u ▸ expand_below c ts))
  unfolding forest_rows
  later i u ts a =
      record {
        front = tree_rows u ++ a.front;
        back = a.back;
        tree = a.tree;
        deep = a.deep;
        found = a.found ∙ ap (λ n. own_part L n a.tree) (add_assoc i (rows u) (length a.front) ∙ ap (λ n. i + n) counted);
        in_rows = ap (λ l. tree_rows u ++ l) a.in_rows ∙ sym (append_assoc (tree_rows u) a.front _);
        in_raw = ap (λ l. tree_rows u ++ l) a.in_raw ∙ sym (append_assoc (tree_rows u) a.front _);
      }
    where
      counted : rows u + length a.front ≡ length (tree_rows u ++ a.front)
      counted = sym (length-append (tree_rows u) a.front ∙ ap (λ n. n + length a.front) (length-tree_rows u))

  mutual
    unfolding has expand_tree relevant_subtree part_below

    pub around : (u : Tree) (i : ℕ) → has L u ≡ true
        → Around c i (relevant_subtree L i u) (tree_rows u) (tree_rows (expand_tree c u))
    around (lit s v) i h = here i (lit s v) h
    around (node o ts) i h = by (one_relevant L ts) refl (λ k. around-below ts (suc i) k)
      where
        other : Tree
        other = cond (all_relevant L ts) (copies c o ts) (node o (at_first L (copies c o (relevant L ts)) ts))

        by : (one : Bool) → one_relevant L ts ≡ one
            → (count (keep (has L) ts) ≡ 1 → Around c (suc i) (part_below L (suc i) ts) (forest_rows ts) (forest_rows (expand_below c ts)))
            → Around c i (cond one (part_below L (suc i) ts) (operator_part L i ts)) (tree_rows (node o ts))
            (tree_rows (cond one (node o (expand_below c ts)) other))
        by true e below = under i o ts (below (one_counts L ts e))
        by false e below = stop e (here i (node o ts) (h, e))
          where
            stop : one_relevant L ts ≡ false
                → Around c i (operator_part L i ts) (tree_rows (node o ts)) (tree_rows (cond (one_relevant L ts) (node o (expand_below c ts)) other))
                → Around c i (operator_part L i ts) (tree_rows (node o ts)) (tree_rows other)
            stop e a = rw e at a

    around-below : (ts : Forest) (i : ℕ) → count (keep (has L) ts) ≡ 1
        → Around c i (part_below L i ts) (forest_rows ts) (forest_rows (expand_below c ts))
    around-below ∅ i h = absurd (no_child L h)
    around-below (u ▸ ts) i h = by (has L u) refl (λ k. around u i k) (λ k. around-below ts (i + rows u) k)
      where
        by : (m : Bool) → has L u ≡ m
            → (has L u ≡ true → Around c i (relevant_subtree L i u) (tree_rows u) (tree_rows (expand_tree c u)))
            → (count (keep (has L) ts) ≡ 1
            → Around c (i + rows u) (part_below L (i + rows u) ts) (forest_rows ts) (forest_rows (expand_below c ts)))
            → Around c i (cond m (relevant_subtree L i u) (part_below L (i + rows u) ts)) (forest_rows (u ▸ ts))
            (forest_rows (cond m (expand_tree c u ▸ ts) (u ▸ expand_below c ts)))
        by true e in-u in-ts = leading i u ts (in-u e)
        by false e in-u in-ts = later i u ts (in-ts (one_later L u ts h e))
