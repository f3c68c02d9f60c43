-- The subtree that an expansion replaces, in the rows of the sheet.
-- Assumes nothing.
use mathlib.Core.Path.{◌≡◌, refl, sym, ap, ap₂, ◌∙◌, subst}
use mathlib.Core.List.{List, ◌++◌, map}
use Prim.Native.Nat.{ℕ, suc, ◌+◌, ◌-◌, ◌≤◌, ◌<◌}
use native.Mathlib.Nat.{add-zero, zero-add}
use native.Mathlib.Omega.{arith}
use lib.ListN.{length, take, drop, length-append}
use lib.Seq.{slice, take_all, take_at, drop_at, drop-drop}
use Rattle.formula.specs.Tree.{Tree, lit, node, Literals, rows}
use Rattle.formula.specs.Expand.{Copying, expand_tree, raw_tree}
use Rattle.sheet.specs.Format.{Bytes, Row}
use Rattle.sheet.specs.Sheet.{trees, root, tree_rows, forest_rows}
use Rattle.sheet.proofs.Preorder.{length-tree_rows, rows_positive, trees_tree}
use Rattle.rows.specs.Layouts.{total, rows_in}
use Rattle.rows.specs.Formulas.{node_rows_in, matrix_in}
use Rattle.rows.specs.declared.Layout.{Layout}
use Rattle.rows.proofs.Formulas.{length-nodes, one_tree}
use Rattle.subtrees.specs.Subtrees.{kids, forest_in, subtree_in}
use Rattle.subtrees.proofs.Forest.{tree_rows-top}
use Rattle.subtrees.specs.Parts.{operator_part, relevant_subtree}
use Rattle.subtrees.specs.declared.relevant.Relevant.{Relevant}
use Rattle.substitution.specs.Changes.{changed_row, copied}
use Rattle.raw.specs.Formulas.{second_table, chosen_by, copying_by}
use Rattle.raw.specs.Expansions.{Copyable, Located, part_in, new_rows}
use Rattle.raw.specs.declared.expand.Expansion.{Expansion}
use Rattle.raw.proofs.Cuts.{slice_take, Stands}
use Rattle.raw.proofs.Around.{Deepest, own_part, Around, around}
use Rattle.raw.proofs.Source.{nodes_part, nodes-copied}
use Rattle.raw.proofs.Raws.{rows-raw}

own_operator : (L : Literals) (i : ℕ) (u : Tree) → (own_part L i u).operator ≡ i
unfolding operator_part
own_operator L i (lit s v) = refl
own_operator L i (node o ts) = refl

-- lists in three parts
module _ {A : Type 0} (l p q r : List A) (e : l ≡ p ++ (q ++ r)) {i k : ℕ} (counted : length p ≡ i) (measured : length q ≡ k) where
  whole : length l ≡ i + (k + length r)
  whole = ap length e ∙ length-append p (q ++ r) ∙ ap₂ ◌+◌ counted (length-append q r ∙ ap (λ n. n + length r) measured)

  behind_first : drop i l ≡ q ++ r
  behind_first = ap (drop i) e ∙ drop_at p (q ++ r) i counted

  first_part : slice 0 i l ≡ p
  first_part = ap (take i) e ∙ take_at p (q ++ r) i counted

  middle_part : slice i (i + k) l ≡ q
  middle_part = slice_take l i k (omega (arith, whole)) ∙ ap (take k) behind_first ∙ take_at q r k measured

  last_part : slice (i + k) (length l) l ≡ r
  last_part =
      ap (drop (i + k)) (take_all (length l) l (omega arith)) ∙ sym (drop-drop k i l) ∙ ap (drop k) behind_first ∙ drop_at q r k measured

-- What the writing functions need to know of the subtree.
pub record Sited (s : Layout) (b : Bytes) (tables : List ℕ) (e : Expansion) : Type 0 where
  pub inside : e.relevant.operator < e.end
  pub end_in : e.end ≤ s.nodes
  pub deep : Deepest (chosen_by tables) (part_in s b e)
  pub found : e.relevant ≡ own_part (chosen_by tables) e.relevant.operator (part_in s b e)
  pub stands : Stands (node_rows_in s b) (suc e.relevant.operator) (kids (part_in s b e))
  pub here : (t : List ℕ)
      → copied t (s.variables + e.relevant.operator) (s.variables + e.end) (rows_in s b) ≡ map (changed_row t) (tree_rows (part_in s b e))
  pub raw : tree_rows (raw_tree (copying_by tables e.joint) (matrix_in s b)) ≡
      slice s.variables (s.variables + e.relevant.operator) (rows_in s b) ++
      (new_rows s b tables e ++ slice (s.variables + e.end) (total s) (rows_in s b))
  pub measured : e.relevant.operator + (length (new_rows s b tables e) + (s.nodes - e.end)) ≡ e.layout.nodes

module _ (s : Layout) (b : Bytes) (tables : List ℕ) (e : Expansion) {out : Bytes} (x : Copyable s b tables e out)
    (l : Located s b tables e) where
  abbrev L : Literals
  L = chosen_by tables

  abbrev c : Copying
  c = copying_by tables e.joint

  abbrev N : List Row
  N = node_rows_in s b

  abbrev op : ℕ
  op = e.relevant.operator

  abbrev second : List ℕ
  second = second_table tables

  A : Around c 0 (relevant_subtree L 0 (matrix_in s b)) (tree_rows (matrix_in s b)) (tree_rows (expand_tree c (matrix_in s b)))
  A = around c (matrix_in s b) 0 l.present

  in_N : N ≡ A.front ++ (tree_rows A.tree ++ A.back)
  in_N = sym (one_tree b x.readable) ∙ A.in_rows

  op_is : op ≡ length A.front
  op_is =
      ap (λ (p : Relevant). p.operator) (l.part_is ∙ A.found) ∙ own_operator L (0 + length A.front) A.tree ∙
      zero-add (length A.front)

  tree_is : part_in s b e ≡ A.tree
  unfolding subtree_in forest_in root
  tree_is =
      ap (λ rs. root (trees rs))
      (behind_first N A.front (tree_rows A.tree) A.back in_N (sym op_is) (length-tree_rows A.tree)) ∙
      ap root (trees_tree A.tree A.back)

  -- all that follows is of this tree
  abbrev u : Tree
  u = part_in s b e

  rows_N : N ≡ A.front ++ (tree_rows u ++ A.back)
  rows_N = in_N ∙ ap (λ t. A.front ++ (tree_rows t ++ A.back)) (sym tree_is)

  total_N : s.nodes ≡ op + (rows u + length A.back)
  total_N = sym (length-nodes b x.readable) ∙ whole N A.front (tree_rows u) A.back rows_N (sym op_is) (length-tree_rows u)

  front_is : slice s.variables (s.variables + op) (rows_in s b) ≡ A.front
  front_is =
      ap (λ k. slice k (s.variables + op) (rows_in s b)) (sym (add-zero s.variables)) ∙ nodes_part s b x.readable 0 op ∙
      first_part N A.front (tree_rows u) A.back rows_N (sym op_is) (length-tree_rows u)

  back_is : slice (s.variables + e.end) (total s) (rows_in s b) ≡ A.back
  back_is =
      nodes_part s b x.readable e.end s.nodes ∙
      ap₂ (λ i k. slice i k N) l.end_is (sym (length-nodes b x.readable)) ∙
      last_part N A.front (tree_rows u) A.back rows_N (sym op_is) (length-tree_rows u)

  raw_is : tree_rows (raw_tree c (matrix_in s b)) ≡
      slice s.variables (s.variables + op) (rows_in s b) ++
      (new_rows s b tables e ++ slice (s.variables + e.end) (total s) (rows_in s b))
  unfolding raw_tree
  raw_is =
      rw l.present
      (A.in_raw ∙ ap (λ t. A.front ++ (tree_rows (expand_tree c t) ++ A.back)) (sym tree_is) ∙
      ap₂ (λ f r. f ++ (new_rows s b tables e ++ r)) (sym front_is) (sym back_is))

  pub sited : Sited s b tables e
  sited =
      record {
        inside = omega (arith, l.end_is, rows_positive u);
        end_in = omega (arith, l.end_is, total_N);
        deep = subst (Deepest L) (sym tree_is) A.deep;
        found = l.part_is ∙ A.found ∙ ap₂ (own_part L) (zero-add (length A.front) ∙ sym op_is) (sym tree_is);
        stands =
            record {
              more = A.back;
              start = omega (arith, total_N, length-nodes b x.readable, rows_positive u);
              are = below;
            };
        here = λ t.
            nodes-copied s b x.readable t op e.end ∙
            ap (map (changed_row t))
            (ap (λ k. slice op k N) l.end_is ∙ middle_part N A.front (tree_rows u) A.back rows_N (sym op_is) (length-tree_rows u));
        raw = raw_is;
        measured = sizes;
      }
    where
      below : drop (suc op) N ≡ forest_rows (kids u) ++ A.back
      below =
          ap (λ k. drop k N) one ∙ sym (drop-drop 1 op N) ∙
          ap (drop 1)
          (behind_first N A.front (tree_rows u) A.back rows_N (sym op_is) (length-tree_rows u) ∙ ap (λ l. l ++ A.back) (tree_rows-top u))
        where
          one : suc op ≡ op + 1
          one = omega arith

      sizes : op + (length (new_rows s b tables e) + (s.nodes - e.end)) ≡ e.layout.nodes
      sizes =
          sym
          (x.nodes_are ∙ sym (rows-raw tables e.joint (matrix_in s b)) ∙ sym (length-tree_rows (raw_tree c (matrix_in s b))) ∙
          ap length
          (raw_is ∙ ap₂ (λ f r. f ++ (new_rows s b tables e ++ r)) front_is back_is) ∙
          omega (
            arith,
            length-append A.front (new_rows s b tables e ++ A.back),
            length-append (new_rows s b tables e) A.back,
            op_is,
            total_N,
            l.end_is,
          ))
