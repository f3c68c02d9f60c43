-- A prefix of distinct numbers by its rows: each variable's row, what may be done with it, and the choice among the rows from one on.
-- Assumes nothing.
use mathlib.Core.Path.{◌≡◌, refl, ap, ◌∙◌}
use mathlib.Core.Bool.{Bool, true, false, cond}
use mathlib.Core.List.{[], ◌∷◌}
use Prim.Native.Nat.{ℕ, zero, suc, ◌≤◌, ◌<◌}
use native.Mathlib.Omega.{arith}
use lib.Dec.{leb}
use lib.ListN.{length, drop}
use Rattle.formula.specs.Tree.{Binding, Prefix}
use Rattle.formula.specs.Settle.{settling, may_settle}
use Rattle.formula.specs.Expand.{all_of, innermost}
use Rattle.formula.specs.Solve.{those, earlier, least}
use Rattle.formula.proofs.Innermost.{solve-block}
use Rattle.sheet.specs.Format.{Bytes}
use Rattle.rows.specs.Formulas.{prefix_in, matrix_in, formula_in, Readable}
use Rattle.rows.specs.declared.Layout.{Layout}
use Rattle.rows.proofs.Formulas.{length_prefix}
use Rattle.prefixes.specs.Places.{place, binding_at, binding_in, block_start}
use Rattle.prefixes.proofs.Places.{quantifier_of-place, block-place, place-row}
use Rattle.polarity.specs.Value.{settling_in, Bound}
use Rattle.choice.specs.Settling.{Unsettled}

-- the innermost block has a row
pub block_within : (p : Prefix) → 0 < length p → block_start p < length p
unfolding block_start all_of
block_within [] h = absurd (omega arith)
block_within (z ∷ []) h = omega arith
block_within (z ∷ y ∷ p) h = go (all_of z.quantifier (y ∷ p)) (block_within (y ∷ p) (omega arith))
  where
    go : (c : Bool) → block_start (y ∷ p) < suc (length p) → cond c 0 (suc (block_start (y ∷ p))) < suc (suc (length p))
    go true k = omega arith
    go false k = omega arith

-- the choice among the rows from a row on, by that among the rows behind it
pub least-row : (before : ℕ → ℕ → Bool) (P : ℕ → Bool) {p q : Prefix} {z : Binding} {m : Bool} → p ≡ z ∷ q → P z.variable ≡ m
    → least before (those P p) ≡ cond m (earlier before z.variable (least before (those P q))) (least before (those P q))
unfolding those least
least-row before P {p} {q} {z} {m} e t =
    ap (λ l. least before (those P l)) e ∙
    ap (λ (c : Bool). least before (cond c (z.variable ∷ those P q) (those P q))) t ∙ go m
  where
    go : (m : Bool) → least before (cond m (z.variable ∷ those P q) (those P q)) ≡
        cond m (earlier before z.variable (least before (those P q))) (least before (those P q))
    go true = refl
    go false = refl

-- rows in front whose variables don't pass are nothing to the choice
pub those-behind : (P : ℕ → Bool) (p : Prefix) (i : ℕ) → i ≤ length p
    → ((j : ℕ) → j < i → P (binding_at p j).variable ≡ false) → those P p ≡ those P (drop i p)
unfolding those binding_at
those-behind P p zero h none = refl
those-behind P [] (suc i) h none = refl
those-behind P (z ∷ p) (suc i) h none =
    ap (λ (c : Bool). cond c (z.variable ∷ those P p) (those P p)) (none 0 (omega arith)) ∙
    those-behind P p i (omega arith) (λ j k. none (suc j) (omega arith))

module _ {s : Layout} (b : Bytes) (ok : Readable s b) (bound : Bound s b) where
  pub place_in : (i : ℕ) → i < s.variables → place (binding_in s b i).variable (prefix_in s b) ≡ i
  place_in i h = place-row (prefix_in s b) i bound.is_distinct (omega (arith, length_prefix b ok))

  pub may_settle-row : (i : ℕ) → i < s.variables → may_settle (binding_in s b i).variable (formula_in s b) ≡ settling_in s b i
  unfolding formula_in may_settle
  may_settle-row i h =
      let x = (binding_in s b i).variable in
      let p = prefix_in s b in
      ap (λ q. settling q x (matrix_in s b))
      (quantifier_of-place x p (omega (arith, place_in i h, length_prefix b ok)) ∙ ap (λ j. (binding_at p j).quantifier) (place_in i h))

  -- where none may be settled, a row's variable is innermost exactly if the row is not before the block
  pub innermost-row : Unsettled s b → (i : ℕ) → i < s.variables
      → innermost (binding_in s b i).variable (formula_in s b) ≡ leb (block_start (prefix_in s b)) i
  unfolding formula_in
  innermost-row nothing i h =
      let x = (binding_in s b i).variable in
      let p = prefix_in s b in
      solve-block (formula_in s b) nothing x ∙ block-place x p (omega (arith, place_in i h, length_prefix b ok)) ∙ ap (leb (block_start p)) (place_in i h)
