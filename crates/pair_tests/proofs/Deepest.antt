-- The level of a row, and the largest of several rows, which are those of a tree.
-- Assumes nothing.
use mathlib.Core.Path.{◌≡◌, refl, sym, ap, ap₂, ◌∙◌}
use mathlib.Core.Bool.{Bool, true, false, cond, beq}
use mathlib.Core.List.{List, [], ◌∷◌, ◌++◌, append-nil, append_assoc}
use Prim.Native.Nat.{ℕ, suc, max, ◌+◌, ◌-◌, ◌≤◌, ◌<◌}
use native.Mathlib.Omega.{arith}
use lib.Dec.{eqb, ltb}
use lib.ListN.{length, get_or}
use lib.Seq.{slice, slice_empty, slice-cons}
use borrow.Author.Tests.{ltb-true, ltb-false, lt-ltb, le-ltb, le-leb, lt-leb, eq-eqb, ne_eqb}
use Rattle.formula.specs.Tree.{and, or, Quantifier, same_op, dual, exists, Tree, lit, node, Forest, ∅, ◌▸◌, Prefix}
use Rattle.formula.specs.Strategy.{before}
use Rattle.formula.specs.Inner.Pairs.{position, larger, deepest, deepest_all, level}
use Rattle.sheet.specs.Format.{Bytes, Row, row}
use Rattle.sheet.specs.Sheet.{tree_rows, forest_rows}
use Rattle.rows.specs.Layouts.{total, rows_in, Room}
use Rattle.rows.specs.Formulas.{prefix_in}
use Rattle.rows.specs.declared.Layout.{Layout}
use Rattle.rows.proofs.Layouts.{length-rows_in}
use Rattle.rows.proofs.Formulas.{length_prefix}
use Rattle.prefixes.specs.Places.{place, binding_in}
use Rattle.reduce.specs.Inner.Places.{Placed, row_of, variable_of, Bound}
use Rattle.pair_tests.specs.Pairs.{side}
use Rattle.pair_tests.specs.Levels.{level_by, row_level, deepest_row}
use Rattle.pair_tests.proofs.Marking.{owner_here}

-- larger

larger_second : (a b : ℕ) → a < b → b ≡ larger a b
unfolding larger
larger_second a b h = ap (λ m. cond m b a) (sym (lt-ltb a b h))

larger_first : (a b : ℕ) → b ≤ a → a ≡ larger a b
unfolding larger
larger_first a b h = ap (λ m. cond m b a) (sym (le-ltb a b h))

pub larger-max : (a b : ℕ) → larger a b ≡ max a b
larger-max a b = by (ltb a b) refl
  where
    by : (m : Bool) → ltb a b ≡ m → larger a b ≡ max a b
    by true e = let h = ltb-true a b e in sym (larger_second a b h) ∙ omega arith
    by false e = let h = ltb-false a b e in sym (larger_first a b h) ∙ omega arith

larger-zero : (a : ℕ) → larger a 0 ≡ a
larger-zero a = sym (larger_first a 0 (omega arith))

zero-larger : (a : ℕ) → larger 0 a ≡ a
zero-larger a = larger-max 0 a ∙ omega arith

larger_assoc : (a b c : ℕ) → larger (larger a b) c ≡ larger a (larger b c)
larger_assoc a b c =
    larger-max (larger a b) c ∙ ap (λ m. max m c) (larger-max a b) ∙ assoc ∙ sym (larger-max a (larger b c) ∙ ap (max a) (larger-max b c))
  where
    assoc : max (max a b) c ≡ max a (max b c)
    assoc = omega arith

-- the rows of a tree
mutual
  unfolding deepest deepest_row row_level tree_rows

  deepest_tree : (d : ℕ → ℕ) (t : Tree) (rs : List Row) → deepest_row d (tree_rows t ++ rs) ≡ larger (deepest d t) (deepest_row d rs)
  deepest_tree d (lit true v) rs = refl
  deepest_tree d (lit false v) rs = refl
  deepest_tree d (node and ts) rs = zero-larger (deepest_row d (forest_rows ts ++ rs)) ∙ deepest_forest d ts rs
  deepest_tree d (node or ts) rs = zero-larger (deepest_row d (forest_rows ts ++ rs)) ∙ deepest_forest d ts rs

  deepest_forest : (d : ℕ → ℕ) (ts : Forest) (rs : List Row) → deepest_row d (forest_rows ts ++ rs) ≡ larger (deepest_all d ts) (deepest_row d rs)
  deepest_forest d ∅ rs = sym (zero-larger (deepest_row d rs))
  deepest_forest d (t ▸ ts) rs =
      ap (deepest_row d) (append_assoc (tree_rows t) (forest_rows ts) rs) ∙ deepest_tree d t (forest_rows ts ++ rs) ∙
      ap (larger (deepest d t)) (deepest_forest d ts rs) ∙ sym (larger_assoc (deepest d t) (deepest_all d ts) (deepest_row d rs))

pub deepest-rows : (d : ℕ → ℕ) (t : Tree) → deepest_row d (tree_rows t) ≡ deepest d t
unfolding deepest_row
deepest-rows d t = ap (deepest_row d) (sym (append-nil (tree_rows t))) ∙ deepest_tree d t [] ∙ larger-zero (deepest d t)

-- rows from the last to the first

pub record Deepening (d : ℕ → ℕ) (R : List Row) (from to n r : ℕ) : Type 0 where
  pub start : from ≤ r
  pub within : r ≤ to
  pub so_far : n ≡ deepest_row d (slice r to R)

module _ (d : ℕ → ℕ) {s : Layout} (b : Bytes) (room : Room s (length b)) {from to : ℕ} (ordered : from ≤ to) (inside : to ≤ total s) where
  pub deepening_none : Deepening d (rows_in s b) from to 0 to
  unfolding deepest_row
  deepening_none =
      record { start = ordered; within = omega arith; so_far = ap (deepest_row d) (sym (slice_empty to (rows_in s b))) }

  pub deepening_on : {n m k r i : ℕ} → r ≡ suc i → from < r → Deepening d (rows_in s b) from to n r → k ≡ row_level d (row_of s b i) → m ≡ larger k n
      → Deepening d (rows_in s b) from to m i
  unfolding deepest_row
  deepening_on {n} {m} {k} {r} {i} next h l e is =
      record {
        start = omega arith;
        within = omega (arith, l.within);
        so_far =
            is ∙ ap₂ larger e (l.so_far ∙ ap (λ j. deepest_row d (slice j to (rows_in s b))) next) ∙
            ap (deepest_row d) (sym (slice-cons i to (rows_in s b) (row 0 0) (omega (arith, l.within)) (omega (arith, length-rows_in b room))));
      }

-- the level of a row

before-place : (x : ℕ) (p : Prefix) → length (before x p) ≡ place x p
unfolding before place
before-place x [] = refl
before-place x (z ∷ p) = by (eqb z.variable x) (before-place x p)
  where
    by : (m : Bool) → length (before x p) ≡ place x p → length (cond m [] (z ∷ before x p)) ≡ cond m 0 (suc (place x p))
    by true e = refl
    by false e = ap suc e

pub position-place : (x : ℕ) (p : Prefix) → position p x ≡ suc (place x p)
unfolding position
position-place x p = ap suc (before-place x p)

pub operator_level : (d : ℕ → ℕ) (r : Row) → 4 < r.kind → 0 ≡ row_level d r
unfolding row_level
operator_level d r h = sym (ap (λ m. cond m (d r.argument) 0) (lt-leb r.kind 4 h))

literal-level : (d : ℕ → ℕ) (r : Row) → r.kind ≤ 4 → row_level d r ≡ d r.argument
unfolding row_level
literal-level d r h = ap (λ m. cond m (d r.argument) 0) (le-leb r.kind 4 h)

module _ (q : Quantifier) (p : Prefix) (t : List ℕ) (r : Row) (h : r.kind ≤ 4) {x : ℕ} (is : x ≡ r.argument) where
  pub set-level : {e : ℕ} → e ≡ get_or t x 0 → 0 < e → e - 1 ≡ row_level (level_by q p t) r
  unfolding level_by
  set-level {e} k l =
      sym
      (literal-level (level_by q p t) r h ∙ ap (λ y. cond (eqb (get_or t y 0) 0) (level q p [] y) (get_or t y 0 - 1)) (sym is) ∙
      ap (λ m. cond (eqb m 0) (level q p [] x) (m - 1)) (sym k) ∙
      ap (λ m. cond m (level q p [] x) (e - 1)) (ne_eqb e 0 (λ z. omega arith)))

  pub unset_level : {e : ℕ} → e ≡ get_or t x 0 → e ≤ 0 → row_level (level_by q p t) r ≡ level q p [] r.argument
  unfolding level_by
  unset_level {e} k l =
      literal-level (level_by q p t) r h ∙
      ap (λ m. cond (eqb m 0) (level q p [] r.argument) (m - 1)) (ap (λ y. get_or t y 0) (sym is) ∙ sym k) ∙
      ap (λ m. cond m (level q p [] r.argument) (e - 1)) (eq-eqb e 0 (omega arith))

module _ {s : Layout} (b : Bytes) {places : List ℕ} (t : Placed s b places) {r i : ℕ} (h : Bound s b r) (at : i ≡ place (variable_of s b r) (prefix_in s b))
    (e : Bool) {f : Bool} (is : f ≡ same_op exists (binding_in s b i).quantifier) where
  abbrev x : ℕ
  x = variable_of s b r

  abbrev p : Prefix
  p = prefix_in s b

  other : (e : Bool) (k : Quantifier) → (beq (same_op exists k) e ≡ true → same_op (dual (side e)) k ≡ false) ×
      (beq (same_op exists k) e ≡ false → same_op (dual (side e)) k ≡ true)
  other true and = ((λ k. sym k), (λ k. refl))
  other true or = ((λ k. refl), (λ k. sym k))
  other false and = ((λ k. refl), (λ k. sym k))
  other false or = ((λ k. sym k), (λ k. refl))

  by_owner : {m : Bool} → same_op (dual (side e)) (binding_in s b i).quantifier ≡ m → level (side e) p [] x ≡ cond m (position p x) (suc (length p))
  unfolding level
  by_owner k = ap (λ m. cond m (position p x) (suc (length p))) (owner_here b t h at (dual (side e)) ∙ k)

  pub own_level : beq f e ≡ true → s.variables + 1 ≡ level (side e) (prefix_in s b) [] (variable_of s b r)
  own_level k =
      omega (
        arith,
        by_owner ((other e (binding_in s b i).quantifier).0 (ap (λ (z : Bool). beq z e) (sym is) ∙ k)),
        length_prefix b t.numbered.readable,
      )

  pub other_level : beq f e ≡ false → i + 1 ≡ level (side e) (prefix_in s b) [] (variable_of s b r)
  other_level k =
      omega (
        arith,
        at,
        position-place x p,
        by_owner ((other e (binding_in s b i).quantifier).1 (ap (λ (z : Bool). beq z e) (sym is) ∙ k)),
      )
