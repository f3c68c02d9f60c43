-- The tests of pairs, row by row, pass exactly if the pairs cover exactly the side's variables and are in order.
-- Assumes nothing.
use mathlib.Core.Path.{◌≡◌, refl, sym, ◌∙◌, ap, ap₂}
use mathlib.Core.Bool.{Bool, true, false, not, ◌&&◌, ◌||◌, or-true, false≢true, true≢false}
use mathlib.Core.List.{[], ◌∷◌}
use mathlib.Core.Logic.{◌↔◌}
use Prim.Native.Nat.{ℕ}
use lib.Dec.{eqb}
use borrow.Author.Tests.{eqb-true, eq-eqb}
use Rattle.formula.specs.Tree.{Quantifier, same_op, Prefix, binds, distinct}
use Rattle.formula.specs.Strategy.{Pairs, owns, sets, once, owned_all, set_all, is_covering, in_order, WellFormed}
use Rattle.formula.specs.Inner.Pairs.{in_levels, is_well_formed}
use Rattle.formula.proofs.Booleans.{and_parts, leads-both}
use Rattle.formula.proofs.Prefixes.{distinct_parts}
use Rattle.formula.proofs.Strategy.Rows.{owns_other, owns_own, owns_none, owns-unbound}
use Rattle.formula.proofs.Strategy.Levels.{in_order_levels}

-- each pair's variable is of the side

owned_sets : (q : Quantifier) (p : Prefix) (g : Pairs) → owned_all q p g ≡ true → (x : ℕ) → sets g x ≡ true → owns q p x ≡ true
unfolding owned_all sets
owned_sets q p [] h x k = absurd (false≢true k)
owned_sets q p (c ∷ g) h x k =
    let parts = and_parts (owns q p c.variable) (owned_all q p g) h in
    by (eqb c.variable x) refl k (owned_sets q p g parts.1 x) parts.0
  where
    by : (m : Bool) → eqb c.variable x ≡ m → (m || sets g x) ≡ true → (sets g x ≡ true → owns q p x ≡ true)
        → owns q p c.variable ≡ true → owns q p x ≡ true
    by true e i rest own = ap (owns q p) (sym (eqb-true c.variable x e)) ∙ own
    by false e i rest own = rest i

sets_owned : (q : Quantifier) (p : Prefix) (g : Pairs) → ((x : ℕ) → sets g x ≡ true → owns q p x ≡ true) → owned_all q p g ≡ true
unfolding owned_all sets
sets_owned q p [] h = refl
sets_owned q p (c ∷ g) h =
    ap₂ ◌&&◌ (h c.variable (ap (λ (m : Bool). m || sets g c.variable) (eq-eqb c.variable c.variable refl)))
    (sets_owned q p g (λ x k. h x (ap (λ (m : Bool). eqb c.variable x || m) k ∙ or-true (eqb c.variable x))))

-- each row of the side has a pair

set-owns : (q : Quantifier) (g : Pairs) (p : Prefix) → set_all q g p ≡ true → (x : ℕ) → owns q p x ≡ true → sets g x ≡ true
unfolding set_all
set-owns q g [] h x k = absurd (false≢true (sym (owns_none q x) ∙ k))
set-owns q g (z ∷ p) h x k =
    let parts = and_parts (not (same_op q z.quantifier) || sets g z.variable) (set_all q g p) h in
    by (eqb z.variable x) refl (set-owns q g p parts.1 x) parts.0
  where
    by : (m : Bool) → eqb z.variable x ≡ m → (owns q p x ≡ true → sets g x ≡ true)
        → (not (same_op q z.quantifier) || sets g z.variable) ≡ true → sets g x ≡ true
    by true e rest here =
        ap (sets g) (sym (eqb-true z.variable x e)) ∙
        ap (λ (m : Bool). not m || sets g z.variable) (sym (sym (owns_own q z p x e) ∙ k)) ∙ here
    by false e rest here = rest (sym (owns_other q z p x e) ∙ k)

owns-set : (q : Quantifier) (g : Pairs) (p : Prefix) → distinct p ≡ true → ((x : ℕ) → owns q p x ≡ true → sets g x ≡ true)
    → set_all q g p ≡ true
unfolding set_all
owns-set q g [] d h = refl
owns-set q g (z ∷ p) d h = ap₂ ◌&&◌ (here (same_op q z.quantifier) refl) (owns-set q g p (distinct_parts z p d).1 (λ x k. later x k (eqb z.variable x) refl))
  where
    here : (m : Bool) → same_op q z.quantifier ≡ m → (not m || sets g z.variable) ≡ true
    here true e = h z.variable (owns_own q z p z.variable (eq-eqb z.variable z.variable refl) ∙ e)
    here false e = refl

    later : (x : ℕ) → owns q p x ≡ true → (m : Bool) → eqb z.variable x ≡ m → sets g x ≡ true
    later x k true e =
        absurd
        (true≢false (sym k ∙ owns-unbound q p x (ap (binds p) (sym (eqb-true z.variable x e)) ∙ (distinct_parts z p d).0)))
    later x k false e = h x (owns_other q z p x e ∙ k)

module _ (q : Quantifier) (p : Prefix) (g : Pairs) (d : distinct p ≡ true) where
  -- exactly the side's variables have a pair, each of them one
  pub covering_tested : (is_covering q p g ≡ true) ↔ (((x : ℕ) → sets g x ≡ owns q p x) × (once g ≡ true))
  unfolding is_covering
  covering_tested = (
    λ h. (
        let owned = and_parts (owned_all q p g) (set_all q g p && once g) h in
        let all = and_parts (set_all q g p) (once g) owned.1 in
        ((λ x. leads-both (sets g x) (owns q p x) (owned_sets q p g owned.0 x) (set-owns q g p all.0 x)), all.1)),
    λ w. ap₂ ◌&&◌ (sets_owned q p g (λ x k. sym (w.0 x) ∙ k)) (ap₂ ◌&&◌ (owns-set q g p d (λ x k. w.0 x ∙ k)) w.1),
  )

  pub well_formed_passed : is_covering q p g ≡ true → in_order q p g ≡ true → WellFormed q p g
  well_formed_passed h o =
      let c = covering_tested.0 h in
      record { covers = c.0; has_once = c.1; is_in_order = o }

  pub covering_passes : WellFormed q p g → is_covering q p g ≡ true
  covering_passes w = covering_tested.1 (w.covers, w.has_once)

  pub well_formed_tested : (is_well_formed q p g ≡ true) ↔ WellFormed q p g
  unfolding is_well_formed
  well_formed_tested = (
    λ h. (
        let parts = and_parts (is_covering q p g) (in_levels q p g) h in
        well_formed_passed parts.0 (in_order_levels q p g ∙ parts.1)),
    λ w. ap₂ ◌&&◌ (covering_passes w) (sym (in_order_levels q p g) ∙ w.is_in_order),
  )
