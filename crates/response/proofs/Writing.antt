-- What is written of the relevant subtree, piece by piece, and the room for it.
-- Assumes nothing.
use mathlib.Core.Path.{◌≡◌, refl, sym, ap, ◌∙◌, subst₂}
use mathlib.Core.Bool.{true, false}
use mathlib.Core.List.{List, ◌∷◌, ◌++◌, map}
use Prim.Native.Nat.{ℕ, suc, ◌+◌, ◌-◌, ◌≤◌, ◌<◌}
use native.Mathlib.Nat.{zero-add}
use native.Mathlib.Omega.{arith}
use lib.ListN.{length, get_or, take, drop, length-append, length-drop, length-map}
use lib.Seq.{slice, drop-cons, drop-drop, take_at}
use Rattle.formula.specs.Tree.{Tree, Literals, rows, replace}
use Rattle.formula.specs.Strategy as strategy
use Rattle.formula.proofs.Evaluation.{rows-replace}
use Rattle.sheet.specs.Format.{Bytes, Row, row}
use Rattle.sheet.specs.Sheet.{trees, root, tree_rows}
use Rattle.sheet.proofs.Preorder.{rows_positive, length-tree_rows, trees_tree}
use Rattle.rows.specs.Layouts.{Fits, total, rows_in}
use Rattle.rows.specs.Formulas.{node_rows_in, matrix_in}
use Rattle.rows.specs.declared.Layout.{Layout}
use Rattle.rows.proofs.Limits.{number_fits}
use Rattle.rows.proofs.Formulas.{length-nodes, one_tree}
use Rattle.subtrees.specs.Subtrees.{top, kids, forest_in, subtree_in}
use Rattle.subtrees.specs.Parts.{relevant_subtree}
use Rattle.subtrees.specs.declared.relevant.Relevant.{Relevant}
use Rattle.subtrees.proofs.Forest.{tree_rows-top}
use Rattle.substitution.specs.Changes.{chosen, changed, changed_row, copied}
use Rattle.substitution.specs.Output.{CopyReady}
use Rattle.substitution.proofs.Changed.{one_row}
use Rattle.raw.specs.Expansions.{Climbs, runs_in}
use Rattle.raw.proofs.Cuts.{slice_take, Stands, climbs_from, Parted, parted}
use Rattle.raw.proofs.Source.{nodes-copied}
use Rattle.response.specs.Inner.Function.{selected_rows, SelectionReady, SelectionCuts}
use Rattle.response.specs.declared.function.Selection.{Selection}
use Rattle.response.proofs.Selection.{own_part, own_tree, Placed, placed, own_few, own_operator, rows_taken, few_taken, whole_rows, some_rows}

-- Every child is relevant.
pub record Whole (s : Layout) (b : Bytes) (t : List ℕ) (p : Selection) : Type 0 where
  pub inside : p.relevant.operator < p.end
  pub end_in : p.end ≤ s.nodes
  pub room : p.layout.variables + (p.end - p.relevant.operator) ≤ total p.layout
  pub written : copied t (s.variables + p.relevant.operator) (s.variables + p.end) (rows_in s b) ≡ selected_rows s b t

-- Not every child is relevant.
pub record Some (s : Layout) (b : Bytes) (t cs : List ℕ) (p : Selection) : Type 0 where
  pub operator_in : p.relevant.operator < s.nodes
  pub some_cuts : 1 ≤ length cs
  pub climbs : Climbs 0 (drop 1 cs) s.nodes
  pub fits_children : Fits s p.relevant.children
  pub room : suc p.layout.variables + length (runs_in s b (drop 1 cs)) ≤ total p.layout
  pub written : {k : ℕ} → k ≡ (top (subtree_in s b p.relevant.operator)).kind
      → row k p.relevant.children ∷ map (changed_row t) (runs_in s b (drop 1 cs)) ≡ selected_rows s b t

module _ {s : Layout} {b : Bytes} {t : List ℕ} {p : Selection} {out : Bytes} (r : SelectionReady s b t p out) where
  abbrev L : Literals
  L = chosen t

  abbrev N : List Row
  N = node_rows_in s b

  abbrev op : ℕ
  op = p.relevant.operator

  abbrev taken : Tree
  taken = strategy.relevant_subtree L (matrix_in s b)

  -- the output is ready for a copy
  pub selection_copy : CopyReady s b p.layout out
  selection_copy = record { source = r.readable.room; room = r.room; same_format = r.same_format }

  -- as many rows as the layout has nodes
  pub selection_length : length (selected_rows s b t) ≡ p.layout.nodes
  selection_length =
      length-tree_rows _ ∙ rows-replace (changed t) (one_row t) taken ∙ sym (rows_taken L 0 (matrix_in s b)) ∙
      ap (λ (q : Relevant). q.rows) (sym r.part_is) ∙ sym r.nodes_are

  A : Placed L 0 (relevant_subtree L 0 (matrix_in s b)) taken (tree_rows (matrix_in s b))
  A = placed L (matrix_in s b) 0

  op_is : op ≡ A.skipped
  op_is =
      ap (λ (q : Relevant). q.operator) (r.part_is ∙ A.found) ∙ own_operator L (0 + A.skipped) A.tree ∙ zero-add A.skipped

  behind : drop op N ≡ tree_rows A.tree ++ A.more
  behind = ap (λ k. drop k N) op_is ∙ ap (drop A.skipped) (sym (one_tree b r.readable)) ∙ A.stands

  tree_is : subtree_in s b op ≡ A.tree
  unfolding subtree_in forest_in root
  tree_is = ap (λ rs. root (trees rs)) behind ∙ ap root (trees_tree A.tree A.more)

  -- all that follows is of this tree
  abbrev u : Tree
  u = subtree_in s b op

  rows_here : drop op N ≡ tree_rows u ++ A.more
  rows_here = behind ∙ ap (λ t. tree_rows t ++ A.more) (sym tree_is)

  own_here : p.relevant ≡ own_part L op u
  own_here =
      r.part_is ∙ A.found ∙ ap (λ n. own_part L n A.tree) (zero-add A.skipped ∙ sym op_is) ∙ ap (own_part L op) (sym tree_is)

  taken_here : taken ≡ own_tree L u
  taken_here = A.taken ∙ ap (own_tree L) (sym tree_is)

  sizes : op + (rows u + length A.more) ≡ s.nodes
  sizes =
      omega (
        arith,
        op_is,
        A.within,
        ap length (one_tree b r.readable),
        ap length rows_here,
        length-append (tree_rows u) A.more,
        length-tree_rows u,
        length-drop op N,
        length-nodes b r.readable,
      )

  here : copied t (s.variables + op) (s.variables + p.end) (rows_in s b) ≡ map (changed_row t) (tree_rows u)
  here =
      nodes-copied s b r.readable t op p.end ∙
      ap (map (changed_row t))
      (ap (λ k. slice op k N) r.end_is ∙ slice_take N op (rows u) (omega (arith, sizes, length-nodes b r.readable)) ∙
      ap (take (rows u)) rows_here ∙ take_at (tree_rows u) A.more (rows u) (length-tree_rows u))

  pub whole : p.relevant.all ≡ true → Whole s b t p
  whole h =
      record {
        inside = omega (arith, r.end_is, rows_positive u);
        end_in = omega (arith, r.end_is, sizes);
        room =
            omega (
              arith,
              r.end_is,
              selection_length,
              ap length (sym written),
              ap length here,
              length-map (tree_rows u) (changed_row t),
              length-tree_rows u,
            );
        written = written;
      }
    where
      written : copied t (s.variables + op) (s.variables + p.end) (rows_in s b) ≡ selected_rows s b t
      written =
          here ∙ whole_rows t op u (ap (λ (q : Relevant). q.all) (sym own_here) ∙ h) ∙
          ap (λ w. tree_rows (replace (changed t) w)) (sym taken_here)

  pub some : p.relevant.all ≡ false → {cs : List ℕ} → SelectionCuts s b t p cs → Some s b t cs p
  some h {cs} c =
      record {
        operator_in = omega (arith, sizes, rows_positive u);
        some_cuts = omega (arith, q.two);
        climbs = climbs_from 0 (get_or cs 0 0) s.nodes (omega arith) (drop 1 cs) climbing.1;
        fits_children =
            number_fits s.format
            (omega (
              arith,
              few_taken r.readable L,
              ap (λ (q : Relevant). q.rows) r.part_is,
              own_few L op u,
              ap (λ (q : Relevant). q.children) own_here,
              ap (λ (q : Relevant). q.rows) own_here,
            ));
        room = omega (arith, selection_length, ap length (sym (written refl)), length-map (runs_in s b (drop 1 cs)) (changed_row t));
        written = written;
      }
    where
      stands : Stands N (suc op) (kids u)
      stands =
          record {
            more = A.more;
            start = omega (arith, sizes, rows_positive u, length-nodes b r.readable);
            are = ap (λ k. drop k N) one ∙ sym (drop-drop 1 op N) ∙ ap (drop 1) (rows_here ∙ ap (λ l. l ++ A.more) (tree_rows-top u));
          }
        where
          one : suc op ≡ op + 1
          one = omega arith

      q : Parted t N (suc op) (kids u) cs
      q = parted t N (suc op) (kids u) stands c

      climbing : Climbs 0 (get_or cs 0 0 ∷ drop 1 cs) s.nodes
      climbing = subst₂ (λ l n. Climbs 0 l n) (drop-cons cs 0 0 (omega (arith, q.two))) (length-nodes b r.readable) q.climbs

      written : {k : ℕ} → k ≡ (top u).kind → row k p.relevant.children ∷ map (changed_row t) (runs_in s b (drop 1 cs)) ≡ selected_rows s b t
      written e =
          some_rows t op u (ap (λ (q : Relevant). q.all) (sym own_here) ∙ h) q.holding e (ap (λ (q : Relevant). q.children) own_here) ∙
          ap (λ w. tree_rows (replace (changed t) w)) (sym taken_here)
