-- Pairs tested from the last to the first by their levels, and the first that is found at fault.
-- Assumes nothing.
use mathlib.Core.Path.{◌≡◌, refl, sym, ap, ap₂, ◌∙◌, fun_ext}
use mathlib.Core.Bool.{Bool, true, false, not, ◌&&◌, cond, and-false}
use mathlib.Core.List.{List, [], ◌∷◌}
use Prim.Native.Nat.{ℕ, zero, suc, ◌+◌, ◌-◌, ◌≤◌, ◌<◌}
use native.Mathlib.Omega.{arith}
use lib.Dec.{eqb, ltb}
use lib.ListN.{length, get_or, set, drop, length-set}
use lib.Seq.{drop-length, get_or-set_same, get_or-set_other}
use borrow.Author.Tests.{eqb-true, eqb-false, eq-eqb, lt-ltb, le-ltb, ne_eqb}
use Rattle.formula.specs.Tree.{Quantifier, Prefix, rows}
use Rattle.formula.specs.Strategy.{Pair, Pairs, reads, beyond, in_order}
use Rattle.formula.specs.Inner.Pairs.{deepest, level, in_levels}
use Rattle.formula.proofs.Strategy.Levels.{in_order_levels}
use Rattle.sheet.specs.Strategy.{fault_row}
use Rattle.prefixes.specs.Places.{place}
use Rattle.pair_tests.specs.Pairs.{pair_cuts}
use Rattle.pair_tests.specs.Levels.{level_by, fault_in}
use Rattle.pair_tests.proofs.Deepest.{position-place}

-- the pair at fault

unordered_later : (q : Quantifier) (p : Prefix) (g : Pairs) (j : ℕ) → in_order q p (drop j g) ≡ false → in_order q p g ≡ false
unfolding in_order
unordered_later q p g zero e = e
unordered_later q p [] (suc j) e = e
unordered_later q p (c ∷ g) (suc j) e =
    ap (λ m. not (reads (beyond q p c.variable) (c ∷ g) c.variable) && m) (unordered_later q p g j e) ∙
    and-false (not (reads (beyond q p c.variable) (c ∷ g) c.variable))

fault_at : (q : Quantifier) (p : Prefix) (g : Pairs) (i j : ℕ) → j < length g → in_order q p (drop (suc j) g) ≡ true
    → in_order q p (drop j g) ≡ false → fault_row q p i g ≡ get_or (pair_cuts i g) j 0
unfolding fault_row pair_cuts
fault_at q p [] i j h t f = absurd (omega arith)
fault_at q p (c ∷ g) i zero h t f = ap (λ m. cond m i (fault_row q p (i + (2 + rows c.function)) g)) t
fault_at q p (c ∷ g) i (suc j) h t f =
    ap (λ m. cond m i (fault_row q p (i + (2 + rows c.function)) g)) (unordered_later q p g j f) ∙
    fault_at q p g (i + (2 + rows c.function)) j (omega arith) t f

-- one pair more

order_step : (q : Quantifier) (p : Prefix) (c : Pair) (g : Pairs)
    → in_order q p (c ∷ g) ≡ (ltb (deepest (level q p g) c.function) (suc (place c.variable p)) && in_order q p g)
unfolding in_levels level
order_step q p c g =
    in_order_levels q p (c ∷ g) ∙
    ap₂ ◌&&◌
    (ap₂ ltb (ap (λ m. cond m (deepest (level q p g) c.function) (level q p g c.variable)) (eq-eqb c.variable c.variable refl))
    (position-place c.variable p))
    (sym (in_order_levels q p g))

-- the pairs from pair j on are in order, and the table has their levels
pub record Levelling (q : Quantifier) (p : Prefix) (g : Pairs) (levels : List ℕ) (j : ℕ) : Type 0 where
  pub within : j ≤ length g
  pub ordered : in_order q p (drop j g) ≡ true
  pub are_levels : (x : ℕ) → level_by q p levels x ≡ level q p (drop j g) x
  pub size : length levels ≡ 1025

module _ (q : Quantifier) (p : Prefix) (g : Pairs) where
  pub levelling_none : {levels : List ℕ} {j : ℕ} → suc j ≡ suc (length g) → ((x : ℕ) → get_or levels x 0 ≡ 0) → length levels ≡ 1025
      → Levelling q p g levels j
  unfolding in_order level_by
  levelling_none {levels} {j} e z n =
      let all : j ≡ length g = omega arith in
      let none : drop j g ≡ [] = ap (λ k. drop k g) all ∙ drop-length g in
      record {
        within = omega arith;
        ordered = ap (in_order q p) none;
        are_levels = λ x. ap (λ m. cond (eqb m 0) (level q p [] x) (m - 1)) (z x) ∙ ap (λ h. level q p h x) (sym none);
        size = n;
      }

  module _ {levels : List ℕ} {i j : ℕ} {c : Pair} (l : Levelling q p g levels j) (next : j ≡ suc i) (split : drop i g ≡ c ∷ drop (suc i) g)
      {n : ℕ} (is : n ≡ deepest (level_by q p levels) c.function) {k : ℕ} (at : k ≡ place c.variable p) where
    behind : drop j g ≡ drop (suc i) g
    behind = ap (λ m. drop m g) next

    same-levels : level_by q p levels ≡ level q p (drop (suc i) g)
    same-levels = fun_ext (λ x. l.are_levels x ∙ ap (λ h. level q p h x) behind)

    depth : deepest (level q p (drop (suc i) g)) c.function ≡ n
    depth = ap (λ d. deepest d c.function) (sym same-levels) ∙ sym is

    step : in_order q p (drop i g) ≡ (ltb n (suc k) && in_order q p (drop (suc i) g))
    step =
        ap (in_order q p) split ∙ order_step q p c (drop (suc i) g) ∙
        ap₂ (λ m o. ltb m o && in_order q p (drop (suc i) g)) depth (ap suc (sym at))

    pub fault-found : {r : ℕ} → r ≡ get_or (pair_cuts 1 g) i 0 → k < n → r ≡ fault_in q p g
    unfolding fault_in
    fault-found row h =
        let false-here : in_order q p (drop i g) ≡ false = step ∙ ap (λ m. m && in_order q p (drop (suc i) g)) (le-ltb n (suc k) h) in
        row ∙ sym (fault_at q p g 1 i (omega (arith, l.within)) (ap (in_order q p) (sym behind) ∙ l.ordered) false-here) ∙
        ap (λ m. cond m 0 (fault_row q p 1 g)) (sym (unordered_later q p g i false-here))

    pub levelling-on : {x m : ℕ} → x ≡ c.variable → x < 1025 → m ≡ suc n → n ≤ k → Levelling q p g (set levels x m) i
    unfolding level level_by
    levelling-on {x} {m} named few one h =
        record {
          within = omega (arith, l.within);
          ordered =
              step ∙ ap₂ ◌&&◌ (lt-ltb n (suc k) (omega arith)) (ap (in_order q p) (sym behind) ∙ l.ordered);
          are_levels = λ y. by y (eqb y c.variable) refl ∙ ap (λ h. level q p h y) (sym split);
          size = length-set levels x m ∙ l.size;
        }
      where
        new : (a : ℕ) → cond (eqb m 0) a (m - 1) ≡ n
        new a = ap (λ o. cond (eqb o 0) a (o - 1)) one ∙ ap (λ o. cond o a (suc n - 1)) (ne_eqb (suc n) 0 (λ z. omega arith)) ∙ back n
          where
            back : (n : ℕ) → suc n - 1 ≡ n
            back n = omega arith

        by : (y : ℕ) (o : Bool) → eqb y c.variable ≡ o
            → cond (eqb (get_or (set levels x m) y 0) 0) (level q p [] y) (get_or (set levels x m) y 0 - 1) ≡
            cond (eqb y c.variable) (deepest (level q p (drop (suc i) g)) c.function) (level q p (drop (suc i) g) y)
        by y true e =
            ap (λ v. cond (eqb v 0) (level q p [] y) (v - 1))
            (ap (λ z. get_or (set levels x m) z 0) (eqb-true y c.variable e ∙ sym named) ∙ get_or-set_same levels x m 0 (omega (arith, l.size))) ∙
            new (level q p [] y) ∙ sym depth ∙
            ap (λ v. cond v (deepest (level q p (drop (suc i) g)) c.function) (level q p (drop (suc i) g) y)) (sym e)
        by y false e =
            ap (λ v. cond (eqb v 0) (level q p [] y) (v - 1)) (get_or-set_other levels x y m 0 (λ z. eqb-false y c.variable e (z ∙ named))) ∙
            ap (λ d. d y) same-levels ∙
            ap (λ v. cond v (deepest (level q p (drop (suc i) g)) c.function) (level q p (drop (suc i) g) y)) (sym e)

  pub no_fault : {levels : List ℕ} {j : ℕ} → Levelling q p g levels j → j ≤ 0 → 0 ≡ fault_in q p g
  unfolding fault_in
  no_fault {levels} {j} l h =
      let none : j ≡ 0 = omega arith in
      ap (λ m. cond m 0 (fault_row q p 1 g)) (sym (ap (λ k. in_order q p (drop k g)) (sym none) ∙ l.ordered))
