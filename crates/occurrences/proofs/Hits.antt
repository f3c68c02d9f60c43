-- Which rows are literals of a set, row by row.
-- Assumes nothing.
use mathlib.Core.Path.{◌≡◌, refl, sym, ap, ap₂, ◌∙◌}
use mathlib.Core.Bool.{false, ◌||◌, or-false}
use mathlib.Core.List.{◌∷◌, ◌++◌, append_assoc}
use Prim.Native.Nat.{ℕ, suc, ◌+◌, ◌<◌}
use native.Mathlib.Omega.{arith}
use lib.ListN.{length, drop, length-append}
use lib.Seq.{drop-length}
use Rattle.formula.specs.Tree.{Tree, lit, node, Forest, ∅, ◌▸◌, ◌⧺◌, Literals, rows, rows_all, has, has_any}
use Rattle.formula.specs.Tidy.{any}
use Rattle.formula.specs.Settle.{is_lit}
use Rattle.formula.proofs.Tidy.Limits.{any-++}
use Rattle.sheet.specs.Format.{Bytes}
use Rattle.sheet.specs.Sheet.{trees}
use Rattle.rows.specs.Formulas.{node_rows_in, matrix_in, Readable}
use Rattle.rows.specs.declared.Layout.{Layout}
use Rattle.rows.proofs.Formulas.{length-nodes}
use Rattle.subtrees.specs.Subtrees.{kids, forest_in, subtree_in}
use Rattle.subtrees.proofs.Forest.{rest, stepped_at, siblings, all-⧺}
use Rattle.subtrees.proofs.Matrix.{trees-nodes, sound_nodes}
use Rattle.subtrees.proofs.Siblings.{below_row}
use Rattle.occurrences.specs.Chains.{hits, hits_all}

mutual
  unfolding has hits any

  pub has-hits : (L : Literals) (t : Tree) → has L t ≡ any (hits L t)
  has-hits L (lit s v) = sym (or-false (L s v))
  has-hits L (node o ts) = has-hits_all L ts

  has-hits_all : (L : Literals) (ts : Forest) → has_any L ts ≡ any (hits_all L ts)
  has-hits_all L ∅ = refl
  has-hits_all L (t ▸ ts) = ap₂ ◌||◌ (has-hits L t) (has-hits_all L ts) ∙ sym (any-++ (hits L t) (hits_all L ts))

mutual
  unfolding rows hits

  pub length-hits : (L : Literals) (t : Tree) → length (hits L t) ≡ rows t
  length-hits L (lit s v) = refl
  length-hits L (node o ts) = ap suc (length-hits_all L ts)

  length-hits_all : (L : Literals) (ts : Forest) → length (hits_all L ts) ≡ rows_all ts
  length-hits_all L ∅ = refl
  length-hits_all L (t ▸ ts) = length-append (hits L t) (hits_all L ts) ∙ ap₂ ◌+◌ (length-hits L t) (length-hits_all L ts)

hits-⧺ : (L : Literals) (ts us : Forest) → hits_all L (ts ⧺ us) ≡ hits_all L ts ++ hits_all L us
unfolding hits_all
hits-⧺ L = all-⧺ ◌++◌ append_assoc (hits L) (hits_all L) (λ a. refl) (λ t ts. refl)

hits-top : (L : Literals) (t : Tree) (ts : Forest) → hits_all L (t ▸ ts) ≡ is_lit L t ∷ hits_all L (kids t ⧺ ts)
unfolding hits_all hits is_lit ◌⧺◌
hits-top L (lit s v) ts = refl
hits-top L (node o cs) ts = ap (λ l. false ∷ l) (sym (hits-⧺ L cs ts))

module _ (L : Literals) {s : Layout} (b : Bytes) (ok : Readable s b) (i : ℕ) (h : i < s.nodes) where
  -- row i, and the rows behind it
  pub hits-row : hits_all L (forest_in s b i) ≡ is_lit L (subtree_in s b i) ∷ hits_all L (forest_in s b (suc i))
  unfolding forest_in subtree_in
  hits-row =
      ap (hits_all L) (stepped_at (node_rows_in s b) (sound_nodes b ok) i (omega (arith, length-nodes b ok))).whole ∙
      hits-top L (subtree_in s b i) (rest (forest_in s b i)) ∙
      ap (λ ts. is_lit L (subtree_in s b i) ∷ hits_all L ts) (sym (below_row b ok i h))

  -- the subtree at row i, and the rows from its end on
  pub hits_subtree : hits_all L (forest_in s b i)
      ≡ hits L (subtree_in s b i) ++ hits_all L (forest_in s b (i + rows (subtree_in s b i)))
  unfolding forest_in subtree_in hits_all
  hits_subtree = ap (hits_all L) (siblings (node_rows_in s b) (sound_nodes b ok) i (omega (arith, length-nodes b ok)))

-- all rows, none, and one before others
module _ {s : Layout} (b : Bytes) (ok : Readable s b) where
  forest_root : forest_in s b 0 ≡ matrix_in s b ▸ ∅
  unfolding forest_in
  forest_root = trees-nodes b ok

  pub no_rows : (i : ℕ) → i ≡ s.nodes → forest_in s b i ≡ ∅
  unfolding forest_in trees
  no_rows i e =
      ap (λ m. trees (drop m (node_rows_in s b))) (e ∙ sym (length-nodes b ok)) ∙ ap trees (drop-length (node_rows_in s b))

module _ (L : Literals) {s : Layout} (b : Bytes) (ok : Readable s b) where
  pub has-root : has_any L (forest_in s b 0) ≡ has L (matrix_in s b)
  unfolding has_any
  has-root = ap (has_any L) (forest_root b ok) ∙ or-false (has L (matrix_in s b))

  pub has_row : (i : ℕ) → i < s.nodes
      → has_any L (forest_in s b i) ≡ (is_lit L (subtree_in s b i) || has_any L (forest_in s b (suc i)))
  unfolding any
  has_row i h =
      has-hits_all L (forest_in s b i) ∙ ap any (hits-row L b ok i h) ∙
      ap (λ c. is_lit L (subtree_in s b i) || c) (sym (has-hits_all L (forest_in s b (suc i))))
