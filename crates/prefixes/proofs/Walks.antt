-- The turns of the walks over the prefix.
-- Assumes nothing.
use mathlib.Core.Path.{◌≡◌, sym, ap, ap₂, ◌∙◌}
use mathlib.Core.Bool.{Bool, true, false, ◌&&◌, cond, beq}
use Prim.Native.Nat.{ℕ, suc, ◌+◌, ◌≤◌, ◌<◌}
use native.Mathlib.Omega.{arith}
use lib.Dec.{eqb}
use lib.ListN.{drop}
use borrow.Author.Tests.{eq-eqb, ne_eqb}
use Rattle.formula.specs.Tree.{Quantifier, same_op, exists}
use Rattle.formula.specs.Expand.{all_of}
use Rattle.sheet.specs.Format.{Bytes}
use Rattle.rows.specs.Formulas.{prefix_in, Readable}
use Rattle.rows.specs.declared.Layout.{Layout}
use Rattle.prefixes.specs.Places.{place, binding_in, block_start}
use Rattle.prefixes.proofs.Places.{prefix_row, no_rows, block_here, block_from}
use Rattle.formula.proofs.Booleans.{same_op_eq, same_op-exists}

-- looking for x from row i on
pub record Finding (s : Layout) (b : Bytes) (x i : ℕ) : Type 0 where
  pub same : place x (prefix_in s b) ≡ i + place x (drop i (prefix_in s b))

module _ {s : Layout} (b : Bytes) (ok : Readable s b) where
  pub find_start : (x : ℕ) → Finding s b x 0
  find_start x = record { same = omega arith }

  found_by : (x i : ℕ) {a : ℕ} {e : Bool} → i < s.variables → Finding s b x i → a ≡ (binding_in s b i).variable → eqb a x ≡ e
      → place x (prefix_in s b) ≡ i + cond e 0 (suc (place x (drop (suc i) (prefix_in s b))))
  unfolding place
  found_by x i {a} {e} h f r t =
      f.same ∙ ap (λ p. i + place x p) (prefix_row b ok i h) ∙
      ap (λ c. i + cond c 0 (suc (place x (drop (suc i) (prefix_in s b))))) (ap (λ m. eqb m x) (sym r) ∙ t)

  pub find_found : (x i : ℕ) {a : ℕ} → i < s.variables → Finding s b x i → a ≡ (binding_in s b i).variable → a ≡ x
      → i ≡ place x (prefix_in s b)
  find_found x i {a} h f r e = omega (arith, found_by x i h f r (eq-eqb a x e))

  pub find_on : (x i : ℕ) {j a : ℕ} → i < s.variables → j ≡ suc i → Finding s b x i → a ≡ (binding_in s b i).variable
      → (a ≡ x → ⊥) → Finding s b x j
  find_on x i {j} {a} h next f r e =
      rw next (record { same = omega (arith, found_by x i h f r (ne_eqb a x e)) })

  pub find_none : (x i : ℕ) → i ≡ s.variables → Finding s b x i → place x (prefix_in s b) ≡ s.variables
  unfolding place
  find_none x i h f = omega (arith, h, f.same, ap (place x) (no_rows b ok i h))

-- from row i on all rows are of one kind, existential or not
pub record Block (s : Layout) (b : Bytes) (exist : Bool) (i : ℕ) : Type 0 where
  pub inside : i < s.variables
  pub kind : exist ≡ same_op exists (binding_in s b i).quantifier
  pub one_kind : all_of (binding_in s b i).quantifier (drop (suc i) (prefix_in s b)) ≡ true

module _ {s : Layout} (b : Bytes) (ok : Readable s b) {exist : Bool} where
  pub last_row : {i : ℕ} → i < s.variables → s.variables ≤ suc i → exist ≡ same_op exists (binding_in s b i).quantifier → Block s b exist i
  unfolding all_of
  last_row {i} h l e =
      record {
        inside = h;
        kind = e;
        one_kind = ap (all_of (binding_in s b i).quantifier) (no_rows b ok (suc i) (omega arith));
      }

  module _ {i j : ℕ} (next : i ≡ suc j) (k : Block s b exist i) {own : Bool} (is : own ≡ same_op exists (binding_in s b j).quantifier) where
    abbrev q : Quantifier
    q = (binding_in s b j).quantifier

    at_next : Block s b exist (suc j)
    at_next = rw next at k

    compared : {e : Bool} → beq own exist ≡ e → same_op q (binding_in s b (suc j)).quantifier ≡ e
    compared h = same_op-exists q (binding_in s b (suc j)).quantifier ∙ ap₂ beq (sym is) (sym at_next.kind) ∙ h

    behind : all_of q (drop (suc j) (prefix_in s b)) ≡
        (same_op q (binding_in s b (suc j)).quantifier && all_of q (drop (suc (suc j)) (prefix_in s b)))
    unfolding all_of
    behind = ap (all_of q) (prefix_row b ok (suc j) at_next.inside)

    pub one_more : beq own exist ≡ true → Block s b exist j
    one_more h =
        record {
          inside = omega (arith, k.inside);
          kind = at_next.kind ∙ ap (same_op exists) (sym (same_op_eq q _ (compared h)));
          one_kind =
              behind ∙
              ap₂ ◌&&◌ (compared h)
              (ap (λ z. all_of z (drop (suc (suc j)) (prefix_in s b))) (same_op_eq q _ (compared h)) ∙ at_next.one_kind);
        }

    pub other_kind : beq own exist ≡ false → i ≡ block_start (prefix_in s b)
    unfolding block_start
    other_kind h =
        let here : block_start (drop j (prefix_in s b)) ≡ 1 =
        ap block_start (prefix_row b ok j (omega (arith, k.inside))) ∙
        ap (λ c. cond c 0 (suc (block_start (drop (suc j) (prefix_in s b)))))
        (behind ∙ ap (λ c. c && all_of q (drop (suc (suc j)) (prefix_in s b))) (compared h)) ∙
        ap suc (block_here b ok (suc j) at_next.inside at_next.one_kind) in
        omega (arith, next, here, block_from (prefix_in s b) j (omega (arith, here)))

  pub at_first : {i : ℕ} → i ≤ 0 → Block s b exist i → i ≡ block_start (prefix_in s b)
  at_first {i} h k =
      let first : i ≡ 0 = omega arith in
      let k₀ : Block s b exist 0 = rw first at k in
      first ∙ sym (block_here b ok 0 k₀.inside k₀.one_kind)
