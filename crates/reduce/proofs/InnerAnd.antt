-- The search for AND below the root, row by row.
-- Assumes nothing.
use mathlib.Core.Path.{◌≡◌, refl, sym, ap, ap₂, ◌∙◌}
use mathlib.Core.Bool.{Bool, true, false, ◌||◌, or_assoc}
use mathlib.Core.List.{List, [], ◌∷◌, ◌++◌}
use Prim.Native.Nat.{ℕ, suc, ◌+◌, ◌≤◌, ◌<◌}
use native.Mathlib.Omega.{arith}
use lib.Dec.{eqb}
use lib.ListN.{length, get_or, drop, drop_of_length-le}
use lib.Seq.{drop-cons, drop-drop}
use borrow.Author.Tests.{eq-eqb, ne_eqb}
use Rattle.formula.specs.Tree.{and, or, Tree, lit, node, Forest, ∅, ◌▸◌}
use Rattle.formula.specs.Inner.Clauses.{has_and, some_and, and_below}
use Rattle.sheet.specs.Format.{Bytes, Row, row}
use Rattle.sheet.specs.Sheet.{tree_rows, forest_rows}
use Rattle.rows.specs.Layouts.{total, rows_in}
use Rattle.rows.specs.Formulas.{node_rows_in, matrix_in, Readable}
use Rattle.rows.specs.declared.Layout.{Layout}
use Rattle.rows.proofs.Formulas.{one_tree}
use Rattle.rows.proofs.Layouts.{length-rows_in}
use Rattle.reduce.specs.Inner.Clauses.{some_and_row}

some_and-++ : (rs ss : List Row) → some_and_row (rs ++ ss) ≡ (some_and_row rs || some_and_row ss)
unfolding some_and_row
some_and-++ [] ss = refl
some_and-++ (r ∷ rs) ss =
    ap (λ (m : Bool). eqb r.kind 5 || m) (some_and-++ rs ss) ∙ sym (or_assoc (eqb r.kind 5) (some_and_row rs) (some_and_row ss))

mutual
  unfolding some_and_row has_and tree_rows

  has_and-rows : (t : Tree) → some_and_row (tree_rows t) ≡ has_and t
  has_and-rows (lit true v) = refl
  has_and-rows (lit false v) = refl
  has_and-rows (node and ts) = refl
  has_and-rows (node or ts) = some_and-rows ts

  some_and-rows : (ts : Forest) → some_and_row (forest_rows ts) ≡ some_and ts
  some_and-rows ∅ = refl
  some_and-rows (t ▸ ts) = some_and-++ (tree_rows t) (forest_rows ts) ∙ ap₂ ◌||◌ (has_and-rows t) (some_and-rows ts)

below_rows : (t : Tree) → some_and_row (drop 1 (tree_rows t)) ≡ and_below t
unfolding some_and_row and_below tree_rows
below_rows (lit s v) = refl
below_rows (node o ts) = some_and-rows ts

-- what is left to look through from row r on
pub record Looking (s : Layout) (b : Bytes) (r : ℕ) : Type 0 where
  pub within : r ≤ total s
  pub same : and_below (matrix_in s b) ≡ some_and_row (drop r (rows_in s b))

module _ {s : Layout} (b : Bytes) (ok : Readable s b) where
  pub look_start : Looking s b (s.variables + 1)
  unfolding node_rows_in
  look_start =
      record {
        within = omega (arith, ok.some_nodes);
        same =
            sym (below_rows (matrix_in s b)) ∙ ap (λ (rs : List Row). some_and_row (drop 1 rs)) (one_tree b ok) ∙
            ap some_and_row (drop-drop 1 s.variables (rows_in s b));
      }

  module _ {r k : ℕ} (h : r < total s) (l : Looking s b r) (is : k ≡ (get_or (rows_in s b) r (row 0 0)).kind) where
    opened : and_below (matrix_in s b) ≡ (eqb k 5 || some_and_row (drop (suc r) (rows_in s b)))
    unfolding some_and_row
    opened =
        l.same ∙ ap some_and_row (drop-cons (rows_in s b) r (row 0 0) (omega (arith, length-rows_in b ok.room))) ∙
        ap (λ (m : ℕ). eqb m 5 || some_and_row (drop (suc r) (rows_in s b))) (sym is)

    pub look-found : k ≡ 5 → true ≡ and_below (matrix_in s b)
    look-found e = sym (opened ∙ ap (λ (m : Bool). m || some_and_row (drop (suc r) (rows_in s b))) (eq-eqb k 5 e))

    pub look-on : {next : ℕ} → next ≡ suc r → (k ≡ 5 → ⊥) → Looking s b next
    look-on n e =
        rw n
        (record { within = h; same = opened ∙ ap (λ (m : Bool). m || some_and_row (drop (suc r) (rows_in s b))) (ne_eqb k 5 e) })

  pub look_none : {r : ℕ} → total s ≤ r → Looking s b r → false ≡ and_below (matrix_in s b)
  unfolding some_and_row
  look_none {r} h l =
      let past : length (rows_in s b) ≤ r = omega (arith, length-rows_in b ok.room) in
      sym (l.same ∙ ap some_and_row (drop_of_length-le (rows_in s b) past))
