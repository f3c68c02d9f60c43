-- The rows of the source: those of the prefix without one row, and those of the matrix.
-- Assumes nothing.
use mathlib.Core.Path.{◌≡◌, refl, sym, ap, ap₂, ◌∙◌}
use mathlib.Core.Bool.{false}
use mathlib.Core.List.{List, [], ◌∷◌, ◌++◌, map}
use Prim.Native.Nat.{ℕ, zero, suc, ◌+◌, ◌≤◌, ◌<◌}
use native.Mathlib.Nat.{add-zero}
use native.Mathlib.Numerals.{add-one}
use native.Mathlib.Omega.{arith}
use lib.ListN.{length, take, drop, take-append-drop}
use lib.Seq.{slice, length-take-le, take-take, take-append-add, drop-append-add, take_all}
use Rattle.formula.specs.Tree.{and, or, Quantifier, Binding, Prefix, replace}
use Rattle.sheet.specs.Format.{Bytes, Row, row}
use Rattle.sheet.specs.Sheet.{quantifier_kind, binding_row, tree_rows}
use Rattle.rows.specs.Layouts.{total, rows_in}
use Rattle.rows.specs.Formulas.{prefix_in, node_rows_in, matrix_in, Readable}
use Rattle.rows.specs.declared.Layout.{Layout}
use Rattle.rows.proofs.Layouts.{length-rows_in}
use Rattle.rows.proofs.Formulas.{length-nodes, length_prefix, quantifiers, one_tree}
use Rattle.substitution.specs.Changes.{changed, chosen_row, changed_row, copied}
use Rattle.substitution.proofs.Changed.{map-append, row_kept, rows-changed}
use Rattle.raw.specs.Formulas.{without_row}

-- lists

take-map : {A B : Type 0} (f : A → B) (n : ℕ) (l : List A) → take n (map f l) ≡ map f (take n l)
take-map f zero l = refl
take-map f (suc n) [] = refl
take-map f (suc n) (x ∷ l) = ap (λ r. f x ∷ r) (take-map f n l)

drop-map : {A B : Type 0} (f : A → B) (n : ℕ) (l : List A) → drop n (map f l) ≡ map f (drop n l)
drop-map f zero l = refl
drop-map f (suc n) [] = refl
drop-map f (suc n) (x ∷ l) = drop-map f n l

-- a part behind v others
slice_behind : {A : Type 0} (v from to : ℕ) (l : List A) → v ≤ length l → slice (v + from) (v + to) l ≡ slice from to (drop v l)
slice_behind v from to l h =
    ap (λ r. drop (v + from) (take (v + to) r)) (sym (take-append-drop v l)) ∙
    ap (λ n. drop (v + from) (take (n + to) (take v l ++ drop v l))) (sym counted) ∙
    ap (drop (v + from)) (take-append-add (take v l) (drop v l) to) ∙
    ap (λ n. drop (n + from) (take v l ++ take to (drop v l))) (sym counted) ∙
    drop-append-add (take v l) (take to (drop v l)) from
  where
    counted : length (take v l) ≡ v
    counted = length-take-le v l h

-- a quantifier's row stays by any table

quantifier-kept : (t : List ℕ) (z : Binding) → changed_row t (binding_row z) ≡ binding_row z
unfolding binding_row chosen_row
quantifier-kept t z = row_kept t (binding_row z) (by z.quantifier)
  where
    by : (q : Quantifier) → chosen_row t (row (quantifier_kind q) z.variable) ≡ false
    by and = refl
    by or = refl

prefix_kept : (t : List ℕ) (p : Prefix) → map (changed_row t) (map binding_row p) ≡ map binding_row p
prefix_kept t [] = refl
prefix_kept t (z ∷ p) = ap₂ ◌∷◌ (quantifier-kept t z) (prefix_kept t p)

module _ (s : Layout) (b : Bytes) (ok : Readable s b) where
  abbrev R : List Row
  R = rows_in s b

  abbrev p : Prefix
  p = prefix_in s b

  length_R : length R ≡ total s
  length_R = length-rows_in b ok.room

  -- a part of the prefix
  prefix_part : (from to : ℕ) → to ≤ s.variables → slice from to R ≡ map binding_row (drop from (take to p))
  prefix_part from to h =
      ap (drop from) (sym (take-take to s.variables R h) ∙ ap (take to) (sym (quantifiers b ok)) ∙ take-map binding_row to p) ∙
      drop-map binding_row from (take to p)

  pub prefix_without : (i : ℕ) → i < s.variables
      → slice 0 i R ++ slice (i + 1) s.variables R ≡ map binding_row (without_row i p)
  unfolding without_row
  prefix_without i h =
      ap₂ ◌++◌ (prefix_part 0 i (omega arith))
      (prefix_part (i + 1) s.variables (omega arith) ∙
      ap₂ (λ k l. map binding_row (drop k l)) (add-one i) (take_all s.variables p (omega (arith, length_prefix b ok)))) ∙
      sym (map-append binding_row (take i p) (drop (suc i) p))

  -- a part of the matrix, and the whole of it
  pub nodes_part : (from to : ℕ) → slice (s.variables + from) (s.variables + to) R ≡ slice from to (node_rows_in s b)
  unfolding node_rows_in
  nodes_part from to = slice_behind s.variables from to R (omega (arith, length_R))

  pub matrix_part : slice s.variables (total s) R ≡ tree_rows (matrix_in s b)
  matrix_part =
      ap (λ k. slice k (total s) R) (sym (add-zero s.variables)) ∙ nodes_part 0 s.nodes ∙
      take_all s.nodes (node_rows_in s b) (omega (arith, length-nodes b ok)) ∙ sym (one_tree b ok)

module _ (s : Layout) (b : Bytes) (ok : Readable s b) (t : List ℕ) where
  -- a part of the prefix, by a table
  pub copied_prefix : (from to : ℕ) → to ≤ s.variables
      → copied t from to (rows_in s b) ≡ map binding_row (drop from (take to (prefix_in s b)))
  unfolding copied
  copied_prefix from to h =
      ap (map (changed_row t)) (prefix_part s b ok from to h) ∙ prefix_kept t (drop from (take to (prefix_in s b)))

  -- a part of the matrix, and the whole of it
  pub nodes-copied : (from to : ℕ)
      → copied t (s.variables + from) (s.variables + to) (rows_in s b) ≡ map (changed_row t) (slice from to (node_rows_in s b))
  unfolding copied
  nodes-copied from to = ap (map (changed_row t)) (nodes_part s b ok from to)

  pub matrix_copied : copied t s.variables (total s) (rows_in s b) ≡ tree_rows (replace (changed t) (matrix_in s b))
  unfolding copied
  matrix_copied = ap (map (changed_row t)) (matrix_part s b ok) ∙ rows-changed t (matrix_in s b)
