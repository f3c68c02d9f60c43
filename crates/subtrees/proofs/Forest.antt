-- Rows in preorder and the forest that is read off them: what stands at a row, below it and beside it.
-- Assumes nothing.
use mathlib.Core.Path.{◌≡◌, refl, sym, ap, ◌∙◌}
use mathlib.Core.List.{List, [], ◌∷◌, ◌++◌, append-nil, append_assoc}
use Prim.Native.Nat.{ℕ, zero, suc, ◌+◌, ◌≤◌, ◌<◌}
use native.Mathlib.Nat.{add-zero, add_assoc}
use native.Mathlib.Omega.{arith}
use lib.ListN.{length, get_or, drop, length-append, length-drop}
use lib.Seq.{drop_at, drop-cons, drop-drop}
use Rattle.formula.specs.Tree.{Tree, lit, node, Forest, ∅, ◌▸◌, rows, rows_all, count, ◌⧺◌}
use Rattle.formula.specs.Tidy.{faults, faults_all}
use Rattle.formula.proofs.Forests.{⧺-none}
pub use Rattle.formula.proofs.Forests.{all-⧺, has-⧺}
use Rattle.sheet.specs.Format.{Row, row}
use Rattle.sheet.specs.Sheet.{trees, root, tree_rows, forest_rows}
use Rattle.sheet.proofs.Preorder.{trees_forest, forest_rows-⧺, length-tree_rows, length-forest_rows}
use Rattle.subtrees.specs.Ends.{subtree_ends, forest_ends}
use Rattle.subtrees.specs.Subtrees.{top, kids}

pub faults-⧺ : (ts us : Forest) → faults_all (ts ⧺ us) ≡ faults_all ts ++ faults_all us
unfolding faults_all
faults-⧺ = all-⧺ ◌++◌ append_assoc faults faults_all (λ a. refl) (λ t ts. refl)

pub ends-⧺ : (ts us : Forest) (i : ℕ) → forest_ends i (ts ⧺ us) ≡ forest_ends i ts ++ forest_ends (i + rows_all ts) us
unfolding ◌⧺◌ forest_ends rows_all
ends-⧺ ∅ us i = ap (λ j. forest_ends j us) (sym (add-zero i))
ends-⧺ (t ▸ ts) us i =
    ap (λ l. subtree_ends i t ++ l)
    (ends-⧺ ts us (i + rows t) ∙
    ap (λ j. forest_ends (i + rows t) ts ++ forest_ends j us) (add_assoc i (rows t) (rows_all ts))) ∙
    sym (append_assoc (subtree_ends i t) (forest_ends (i + rows t) ts) (forest_ends (i + (rows t + rows_all ts)) us))

-- a tree's first row and children

-- the trees beside the first
unfoldable pub rest : Forest → Forest
rest ∅ = ∅
rest (t ▸ ts) = ts

pub tree_rows-top : (t : Tree) → tree_rows t ≡ top t ∷ forest_rows (kids t)
unfolding tree_rows
tree_rows-top (lit s v) = refl
tree_rows-top (node o ts) = refl

pub rows-kids : (t : Tree) → rows t ≡ suc (rows_all (kids t))
unfolding rows
rows-kids (lit s v) = refl
rows-kids (node o ts) = refl

-- trees

pub trees-rows : (ts : Forest) → trees (forest_rows ts) ≡ ts
unfolding trees
trees-rows ts = ap trees (sym (append-nil (forest_rows ts))) ∙ trees_forest ts [] ∙ ⧺-none ts

-- Sound rows are those of their trees.
abbrev pub Sound : List Row → Type 0
Sound rs = forest_rows (trees rs) ≡ rs

sound_rows : {rs : List Row} (ts : Forest) → rs ≡ forest_rows ts → Sound rs × (trees rs ≡ ts)
sound_rows ts e = let is = ap trees e ∙ trees-rows ts in (ap forest_rows is ∙ sym e, is)

-- what row r, with the rows rs behind it, says of the forest ts read from it on
pub record Stepped (r : Row) (rs : List Row) (ts : Forest) : Type 0 where
  pub whole : ts ≡ root ts ▸ rest ts
  pub is_top : r ≡ top (root ts)
  pub below : trees rs ≡ kids (root ts) ⧺ rest ts
  pub beside : trees (drop (rows (root ts)) (r ∷ rs)) ≡ rest ts
  pub size : suc (length rs) ≡ rows (root ts) + rows_all (rest ts)
  pub sound : Sound rs

stepped : (r : Row) (rs : List Row) (ts : Forest) → forest_rows ts ≡ r ∷ rs → Stepped r rs ts
unfolding root rest forest_rows
stepped r rs ∅ e = let z : ◌≡◌ {A = ℕ} 0 (suc (length rs)) = ap length e in absurd (omega arith)
stepped r rs (t ▸ ts) e =
    let all : top t ∷ (forest_rows (kids t) ++ forest_rows ts) ≡ r ∷ rs = ap (λ l. l ++ forest_rows ts) (sym (tree_rows-top t)) ∙ e in
    let next = sound_rows (kids t ⧺ ts) (sym (ap (drop 1) all) ∙ sym (forest_rows-⧺ (kids t) ts)) in
    record {
      whole = refl;
      is_top = sym (ap (λ l. get_or l 0 (row 0 0)) all);
      below = next.1;
      beside =
          ap (λ l. trees (drop (rows t) l)) (sym e) ∙
          ap trees (drop_at (tree_rows t) (forest_rows ts) (rows t) (length-tree_rows t)) ∙
          trees-rows ts;
      size =
          omega (arith, ap length e, length-append (tree_rows t) (forest_rows ts), length-tree_rows t, length-forest_rows ts);
      sound = next.0;
    }

-- the forest from row i on, and what row i says of it
abbrev pub forest_at : List Row → ℕ → Forest
forest_at rs i = trees (drop i rs)

pub sound_at : (rs : List Row) → Sound rs → (i : ℕ) → Sound (drop i rs)
sound_at rs s zero = s
sound_at [] s (suc i) = s
sound_at (r ∷ rs) s (suc i) = sound_at rs (stepped r rs (trees (r ∷ rs)) s).sound i

pub stepped_at : (rs : List Row) → Sound rs → (i : ℕ) → i < length rs
    → Stepped (get_or rs i (row 0 0)) (drop (suc i) rs) (forest_at rs i)
stepped_at rs s i h = stepped _ _ (forest_at rs i) (sound_at rs s i ∙ drop-cons rs i (row 0 0) h)

-- no tree stands behind the last row
pub some_row : (rs : List Row) (i : ℕ) → 0 < count (forest_at rs i) → i < length rs
unfolding trees count
some_row [] zero h = h
some_row [] (suc i) h = absurd (omega arith)
some_row (r ∷ rs) zero h = omega arith
some_row (r ∷ rs) (suc i) h = omega (arith, some_row rs i h)

module _ (rs : List Row) (s : Sound rs) (i : ℕ) (h : i < length rs) where
  st : Stepped (get_or rs i (row 0 0)) (drop (suc i) rs) (forest_at rs i)
  st = stepped_at rs s i h

  -- the trees from row i on: the one that starts there, and those from its end on
  pub siblings : forest_at rs i ≡ root (forest_at rs i) ▸ forest_at rs (i + rows (root (forest_at rs i)))
  siblings =
      st.whole ∙
      ap (λ ts. root (forest_at rs i) ▸ ts)
      (sym st.beside ∙
      ap (λ l. trees (drop (rows (root (forest_at rs i))) l)) (sym (drop-cons rs i (row 0 0) h)) ∙
      ap trees (drop-drop (rows (root (forest_at rs i))) i rs))

  -- its end is within the rows
  pub end_within : i + rows (root (forest_at rs i)) ≤ length rs
  end_within = omega (arith, st.size, length-drop (suc i) rs)
