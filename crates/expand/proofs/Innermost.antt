-- The walk over the rows after that of x: none so far is in the way.
-- Assumes nothing.
use mathlib.Core.Path.{◌≡◌, refl, sym, ap, ap₂, ◌∙◌}
use mathlib.Core.Bool.{Bool, true, false, not, ◌&&◌, cond}
use mathlib.Core.List.{◌∷◌}
use Prim.Native.Nat.{ℕ, suc, ◌+◌, ◌≤◌, ◌<◌}
use native.Mathlib.Numerals.{add-one}
use native.Mathlib.Omega.{arith}
use lib.ListN.{length, drop}
use borrow.Author.Tests.{lt-ltb}
use Rattle.formula.specs.Tree.{Quantifier, same_op, Binding, Prefix, quantifier_of}
use Rattle.formula.specs.Expand.{all_of, among, occurs, occurring, later, innermost}
use Rattle.sheet.specs.Format.{Bytes}
use Rattle.rows.specs.Formulas.{prefix_in, matrix_in, formula_in, Readable}
use Rattle.rows.specs.declared.Layout.{Layout}
use Rattle.rows.proofs.Formulas.{length_prefix}
use Rattle.prefixes.specs.Places.{place, binding_at, binding_in}
use Rattle.prefixes.proofs.Places.{binds-place, quantifier_of-place, prefix_row, no_rows, after-place}
use Rattle.elimination.specs.Steps.{Named}
use Rattle.expand.specs.Inner.Block.{in_the_way}

-- one row more
all_of-row : (q : Quantifier) (P : ℕ → Bool) (z : Binding) (p : Prefix)
    → all_of q (among P (z ∷ p)) ≡ (not (not (same_op q z.quantifier) && P z.variable) && all_of q (among P p))
unfolding all_of among
all_of-row q P z p = by (P z.variable) (same_op q z.quantifier) refl
  where
    by : (m n : Bool) → same_op q z.quantifier ≡ n
        → all_of q (cond m (z ∷ among P p) (among P p)) ≡ (not (not n && m) && all_of q (among P p))
    by true true e = ap (λ (k : Bool). k && all_of q (among P p)) e
    by true false e = ap (λ (k : Bool). k && all_of q (among P p)) e
    by false true e = refl
    by false false e = refl

-- the rows from row j on that have a literal are of the kind of row i
abbrev of_its_kind : Layout → Bytes → ℕ → ℕ → Bool
of_its_kind s b i j = all_of (binding_in s b i).quantifier (among (occurs (matrix_in s b)) (drop j (prefix_in s b)))

-- no row between row i and row j is in the way
pub record Clear (s : Layout) (b : Bytes) (i j : ℕ) : Type 0 where
  pub behind : i < j
  pub within : j ≤ s.variables
  pub same : of_its_kind s b i (suc i) ≡ of_its_kind s b i j

pub clear_start : (s : Layout) (b : Bytes) {i j : ℕ} → i < s.variables → j ≡ i + 1 → Clear s b i j
clear_start s b {i} {j} h e =
    record { behind = omega arith; within = omega arith; same = ap (of_its_kind s b i) (sym (e ∙ add-one i)) }

module _ {s : Layout} (b : Bytes) (ok : Readable s b) where
  innermost-row : {x i : ℕ} → Named s b x i → innermost x (formula_in s b) ≡ of_its_kind s b i (suc i)
  unfolding innermost later occurring formula_in
  innermost-row {x} {i} n =
      let p = prefix_in s b in
      let inside : place x p < length p = omega (arith, n.inside, n.row_is, length_prefix b ok) in
      ap₂ (λ (m : Bool) (l : Prefix). m && all_of (quantifier_of p x) (among (occurs (matrix_in s b)) l))
      (binds-place x p ∙ lt-ltb _ _ inside) (after-place x p ∙ ap (λ j. drop (suc j) p) (sym n.row_is)) ∙
      ap (λ (q : Quantifier). all_of q (among (occurs (matrix_in s b)) (drop (suc i) p)))
      (quantifier_of-place x p inside ∙ ap (λ j. (binding_at p j).quantifier) (sym n.row_is))

  module _ {i j : ℕ} (c : Clear s b i j) where
    module _ (h : j < s.variables) {w : Bool} (e : w ≡ in_the_way s b i j) where
      one_row : of_its_kind s b i (suc i) ≡ (not w && of_its_kind s b i (suc j))
      one_row =
          c.same ∙ ap (λ (l : Prefix). all_of (binding_in s b i).quantifier (among (occurs (matrix_in s b)) l)) (prefix_row b ok j h) ∙
          all_of-row (binding_in s b i).quantifier (occurs (matrix_in s b)) (binding_in s b j) (drop (suc j) (prefix_in s b)) ∙
          ap (λ (m : Bool). not m && of_its_kind s b i (suc j)) (sym e)

      pub row-stops : {x : ℕ} → Named s b x i → w ≡ true → false ≡ innermost x (formula_in s b)
      row-stops n t = sym (innermost-row n ∙ one_row ∙ ap (λ (m : Bool). not m && of_its_kind s b i (suc j)) t)

      pub row-passes : {k : ℕ} → w ≡ false → k ≡ j + 1 → Clear s b i k
      row-passes t next =
          record {
            behind = omega (arith, c.behind);
            within = omega arith;
            same = one_row ∙ ap (λ (m : Bool). not m && of_its_kind s b i (suc j)) t ∙ ap (of_its_kind s b i) (sym (next ∙ add-one j));
          }

    pub all_pass : {x : ℕ} → Named s b x i → s.variables ≤ j → true ≡ innermost x (formula_in s b)
    unfolding all_of among
    all_pass n h =
        sym
        (innermost-row n ∙ c.same ∙
        ap (λ (l : Prefix). all_of (binding_in s b i).quantifier (among (occurs (matrix_in s b)) l))
        (no_rows b ok j (omega (arith, c.within))))
