-- The table of places: filled from the last row of the prefix to the first, and what is read from it.
-- Assumes nothing.
use mathlib.Core.Path.{◌≡◌, refl, sym, ap, ◌∙◌}
use mathlib.Core.Bool.{Bool, true, false, not, ◌&&◌, ◌||◌, cond, false≢true}
use mathlib.Core.List.{List, ◌∷◌}
use Prim.Native.Nat.{ℕ, suc, ◌+◌, ◌≤◌, ◌<◌}
use native.Mathlib.Nat.{zero-add}
use native.Mathlib.Omega.{arith}
use lib.Dec.{eqb, ltb, leb}
use lib.ListN.{length, get_or, set, drop, length-set}
use lib.Seq.{get_or-set_same, get_or-set_other}
use borrow.Author.Tests.{eqb-true, eqb-false, ltb-true, le-leb, lt-leb, ltb-false}
use Rattle.formula.specs.Tree.{and, or, Quantifier, same_op, exists, for_all, Binding, Prefix, binds, quantifier_of}
use Rattle.sheet.specs.Format.{Bytes, row}
use Rattle.rows.specs.Layouts.{rows_in}
use Rattle.rows.specs.Formulas.{prefix_in}
use Rattle.rows.specs.declared.Layout.{Layout}
use Rattle.rows.proofs.Formulas.{length_prefix}
use Rattle.prefixes.specs.Places.{place, binding_in}
use Rattle.prefixes.proofs.Places.{binds-place, quantifier_of-place, prefix_row, no_rows, binds-row}
use Rattle.reduce.specs.Inner.Places.{Numbered, Placed, variable_of, Bound, existential, behind}
use Rattle.reduce.specs.Inner.Clauses.{goes_row}

-- filled for the rows from i on
pub record Filling (s : Layout) (b : Bytes) (places : List ℕ) (i : ℕ) : Type 0 where
  pub within : i ≤ s.variables
  pub size : length places ≡ 1025
  pub so_far : (x : ℕ) → binds (drop i (prefix_in s b)) x ≡ true → get_or places x 0 ≡ i + place x (drop i (prefix_in s b))

module _ {s : Layout} (b : Bytes) (n : Numbered s b) where
  pub few_here : (i : ℕ) {x : ℕ} → i < s.variables → x ≡ (binding_in s b i).variable → x ≤ 1024
  few_here i h e =
      omega (arith, e, n.few_numbers _ (binds-row (prefix_in s b) i (omega (arith, length_prefix b n.readable))))

  pub filling_none : {places : List ℕ} → length places ≡ 1025 → Filling s b places s.variables
  unfolding binds
  filling_none size =
      record {
        within = omega arith;
        size = size;
        so_far = λ x h. absurd (false≢true (sym (ap (λ (q : Prefix). binds q x) (no_rows b n.readable s.variables refl)) ∙ h));
      }

  pub filling_row : {places : List ℕ} {i j x : ℕ} → i ≡ suc j → x ≡ (binding_in s b j).variable → Filling s b places i
      → Filling s b (set places x j) j
  unfolding place binds
  filling_row {places} {i} {j} {x} next is f =
      record {
        within = omega (arith, f.within);
        size = length-set places x j ∙ f.size;
        so_far =
            λ y h. by y (eqb z.variable y) refl (sym (ap (λ (q : Prefix). binds q y) opened) ∙ h) ∙
            ap (λ (q : Prefix). j + place y q) (sym opened);
      }
    where
      z : Binding
      z = binding_in s b j

      inside : j < s.variables
      inside = omega (arith, f.within)

      rest : Prefix
      rest = drop (suc j) (prefix_in s b)

      opened : drop j (prefix_in s b) ≡ z ∷ rest
      opened = prefix_row b n.readable j inside

      by : (y : ℕ) (m : Bool) → eqb z.variable y ≡ m → (eqb z.variable y || binds rest y) ≡ true
          → get_or (set places x j) y 0 ≡ j + cond (eqb z.variable y) 0 (suc (place y rest))
      by y true e h =
          rw (e, ← eqb-true z.variable y e, ← is)
          (get_or-set_same places x j 0 (omega (arith, few_here j inside is, f.size)) ∙ behind-zero j)
        where
          behind-zero : (m : ℕ) → m ≡ m + 0
          behind-zero m = omega arith
      by y false e h =
          let here : binds rest y ≡ true = sym (ap (λ (m : Bool). m || binds rest y) e) ∙ h in
          rw e
          (get_or-set_other places x y j 0 (λ k. eqb-false z.variable y e (sym is ∙ sym k)) ∙
          omega (
            arith,
            f.so_far y (ap (λ (k : ℕ). binds (drop k (prefix_in s b)) y) next ∙ here),
            ap (λ (k : ℕ). place y (drop k (prefix_in s b))) next,
          ))

  pub filling_all : {places : List ℕ} {i : ℕ} → i ≤ 0 → Filling s b places i → Placed s b places
  filling_all {places} {i} none f =
      let first : i ≡ 0 = omega arith in
      record {
        numbered = n;
        size = f.size;
        is_place = λ x h. rw first at f.so_far x h ∙ zero-add (place x (prefix_in s b));
      }

-- what is read of a bound literal

module _ {s : Layout} (b : Bytes) {places : List ℕ} (t : Placed s b places) {r : ℕ} (h : Bound s b r) where
  abbrev p : Prefix
  p = prefix_in s b

  abbrev x : ℕ
  x = variable_of s b r

  pub few_entry : x < length places
  few_entry = omega (arith, t.numbered.few_numbers x h.is_bound, t.size)

  pub place_inside : place x p < s.variables
  place_inside =
      omega (
        arith,
        ltb-true (place x p) (length p) (sym (binds-place x p) ∙ h.is_bound),
        length_prefix b t.numbered.readable,
      )

  pub entry_place : {a : ℕ} → a ≡ x → get_or places a 0 ≡ place x p
  entry_place e = ap (λ (k : ℕ). get_or places k 0) e ∙ t.is_place x h.is_bound

  quantifier_here : {i : ℕ} → i ≡ place x p → (binding_in s b i).quantifier ≡ quantifier_of p x
  quantifier_here e =
      ap (λ (i : ℕ). (binding_in s b i).quantifier) e ∙
      sym (quantifier_of-place x p (omega (arith, place_inside, length_prefix b t.numbered.readable)))

  module _ {i : ℕ} {e : Bool} (at : i ≡ place x p) (is : e ≡ same_op exists (binding_in s b i).quantifier) where
    same : e ≡ same_op exists (quantifier_of p x)
    same = is ∙ ap (same_op exists) (quantifier_here at)

    universal : (q : Quantifier) → same_op exists q ≡ not (same_op for_all q)
    universal and = refl
    universal or = refl

    twice : (m : Bool) → not (not m) ≡ m
    twice true = refl
    twice false = refl

    for-all-is : same_op for_all (quantifier_of p x) ≡ not e
    for-all-is = sym (ap not (same ∙ universal (quantifier_of p x)) ∙ twice (same_op for_all (quantifier_of p x)))

    existential-is : existential p x ≡ e
    unfolding existential
    existential-is = ap (λ (m : Bool). m && same_op exists (quantifier_of p x)) h.is_bound ∙ sym same

    pub behind-existential : e ≡ true → i + 1 ≡ behind p x
    unfolding behind
    behind-existential k = rw (existential-is, k) (omega (arith, at))

    pub behind-universal : e ≡ false → 0 ≡ behind p x
    unfolding behind
    behind-universal k = rw (existential-is, k)

    pub existential-stays : (last : ℕ) → e ≡ true → false ≡ goes_row p last (get_or (rows_in s b) r (row 0 0))
    unfolding goes_row
    existential-stays last k = rw (for-all-is, k)

    pub universal-goes : (last : ℕ) → e ≡ false → leb last (i + 1) ≡ goes_row p last (get_or (rows_in s b) r (row 0 0))
    unfolding goes_row
    universal-goes last k = rw (for-all-is, k) (by (ltb (suc (place x p)) last) refl)
      where
        by : (m : Bool) → ltb (suc (place x p)) last ≡ m → leb last (i + 1) ≡ not m
        by true l = lt-leb last (i + 1) (omega (arith, at, ltb-true (suc (place x p)) last l))
        by false l = le-leb last (i + 1) (omega (arith, at, ltb-false (suc (place x p)) last l))
