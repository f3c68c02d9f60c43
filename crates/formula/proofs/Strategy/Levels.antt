-- Pairs are in order exactly if each variable's level is less than its place.
-- Assumes nothing.
use mathlib.Core.Path.{◌≡◌, refl, sym, ◌∙◌, ap, ap₂, fun_ext}
use mathlib.Core.Bool.{Bool, true, false, not, ◌&&◌, ◌||◌, cond, true≢false}
use mathlib.Core.List.{[], ◌∷◌}
use Prim.Native.Nat.{ℕ, suc, ◌≤◌}
use native.Mathlib.Omega.{arith}
use lib.Dec.{eqb, ltb}
use lib.ListN.{length}
use borrow.Author.Tests.{ltb-true, ltb-false, lt-ltb, le-ltb}
use Rattle.formula.specs.Tree.{Quantifier, dual, Tree, lit, node, Forest, ∅, ◌▸◌, Prefix, has, has_any}
use Rattle.formula.specs.Strategy.{Pairs, owns, before, reads, beyond, in_order}
use Rattle.formula.specs.Inner.Pairs.{position, larger, deepest, deepest_all, level, in_levels}
use Rattle.formula.proofs.Strategy.Rows.{owns_other, owns_own, owns_none, owns-before}

-- numbers

ltb_larger : (a b n : ℕ) → not (ltb (larger a b) n) ≡ (not (ltb a n) || not (ltb b n))
unfolding larger
ltb_larger a b n = by (ltb a b) refl (ltb a n) refl (ltb b n) refl
  where
    by : (m : Bool) → ltb a b ≡ m → (i : Bool) → ltb a n ≡ i → (j : Bool) → ltb b n ≡ j
        → not (ltb (cond m b a) n) ≡ (not i || not j)
    by true e true i true j = ap not j
    by true e true i false j = ap not j
    by true e false i true j =
        absurd (omega (arith, ltb-true a b e, ltb-false a n i, ltb-true b n j))
    by true e false i false j = ap not j
    by false e true i true j = ap not i
    by false e true i false j =
        absurd (omega (arith, ltb-false a b e, ltb-true a n i, ltb-false b n j))
    by false e false i j k = ap not i

ltb_suc : (a b : ℕ) → ltb (suc a) (suc b) ≡ ltb a b
ltb_suc a b = by (ltb a b) refl
  where
    by : (m : Bool) → ltb a b ≡ m → ltb (suc a) (suc b) ≡ m
    by true e = lt-ltb (suc a) (suc b) (omega (arith, ltb-true a b e))
    by false e = le-ltb (suc a) (suc b) (omega (arith, ltb-false a b e))

-- a literal with a number that isn't less
mutual
  unfolding has deepest

  has-deepest : (t : Tree) (d : ℕ → ℕ) (n : ℕ) → has (λ s v. not (ltb (d v) (suc n))) t ≡ not (ltb (deepest d t) (suc n))
  has-deepest (lit s v) d n = refl
  has-deepest (node o ts) d n = has_any-deepest ts d n

  has_any-deepest : (ts : Forest) (d : ℕ → ℕ) (n : ℕ) → has_any (λ s v. not (ltb (d v) (suc n))) ts ≡ not (ltb (deepest_all d ts) (suc n))
  has_any-deepest ∅ d n = sym (ap not (lt-ltb 0 (suc n) (omega arith)))
  has_any-deepest (t ▸ ts) d n =
      ap₂ ◌||◌ (has-deepest t d n) (has_any-deepest ts d n) ∙ sym (ltb_larger (deepest d t) (deepest_all d ts) (suc n))

-- rows in front have lower places

before-length : (x : ℕ) (p : Prefix) → length (before x p) ≤ length p
unfolding before
before-length x [] = omega arith
before-length x (z ∷ p) = by (eqb z.variable x) (before-length x p)
  where
    by : (m : Bool) → length (before x p) ≤ length p → length (cond m [] (z ∷ before x p)) ≤ suc (length p)
    by true l = omega arith
    by false l = omega arith

position-front : (q : Quantifier) (x v : ℕ) (p : Prefix) → owns q p v ≡ true → owns q (before x p) v ≡ ltb (position p v) (position p x)
unfolding position before
position-front q x v [] h = absurd (true≢false (sym h ∙ owns_none q v))
position-front q x v (z ∷ p) h = by (eqb z.variable x) (eqb z.variable v) refl (position-front q x v p)
  where
    by : (m n : Bool) → eqb z.variable v ≡ n
        → (owns q p v ≡ true → owns q (before x p) v ≡ ltb (suc (length (before v p))) (suc (length (before x p))))
        → owns q (cond m [] (z ∷ before x p)) v ≡
        ltb (suc (length (cond n [] (z ∷ before v p)))) (suc (length (cond m [] (z ∷ before x p))))
    by true n e rest = owns_none q v ∙ sym (le-ltb (suc (length (cond n [] (z ∷ before v p)))) 1 (omega arith))
    by false true e rest =
        owns_own q z (before x p) v e ∙ sym (owns_own q z p v e) ∙ h ∙ sym (lt-ltb 1 (suc (suc (length (before x p)))) (omega arith))
    by false false e rest =
        owns_other q z (before x p) v e ∙ rest (sym (owns_other q z p v e) ∙ h) ∙
        sym (ltb_suc (suc (length (before v p))) (suc (length (before x p))))

beyond-level : (q : Quantifier) (p : Prefix) (x v : ℕ) → beyond q p x v ≡ not (ltb (level q p [] v) (position p x))
unfolding level position
beyond-level q p x v = ap not (by (owns (dual q) p v) refl (owns (dual q) (before x p) v) refl)
  where
    by : (m : Bool) → owns (dual q) p v ≡ m → (n : Bool) → owns (dual q) (before x p) v ≡ n
        → n ≡ ltb (cond m (suc (length (before v p))) (suc (length p))) (suc (length (before x p)))
    by true e n k = sym k ∙ position-front (dual q) x v p e
    by false e true k = absurd (true≢false (sym (owns-before (dual q) x v p k) ∙ e))
    by false e false k = sym (le-ltb (suc (length p)) (suc (length (before x p))) (omega (arith, before-length x p)))

reads-level : (q : Quantifier) (p : Prefix) (x : ℕ) (g : Pairs) (v : ℕ)
    → reads (beyond q p x) g v ≡ not (ltb (level q p g v) (position p x))
unfolding reads level position
reads-level q p x [] v = beyond-level q p x v
reads-level q p x (c ∷ g) v = by (eqb v c.variable) (fun_ext (reads-level q p x g))
  where
    n : ℕ
    n = length (before x p)

    by : (m : Bool) → reads (beyond q p x) g ≡ (λ u. not (ltb (level q p g u) (suc n)))
        → cond m (has (λ s u. reads (beyond q p x) g u) c.function) (reads (beyond q p x) g v) ≡
        not (ltb (cond m (deepest (level q p g) c.function) (level q p g v)) (suc n))
    by true e = ap (λ (Y : ℕ → Bool). has (λ s u. Y u) c.function) e ∙ has-deepest c.function (level q p g) n
    by false e = ap (λ (Y : ℕ → Bool). Y v) e

pub in_order_levels : (q : Quantifier) (p : Prefix) (g : Pairs) → in_order q p g ≡ in_levels q p g
unfolding in_order in_levels
in_order_levels q p [] = refl
in_order_levels q p (c ∷ g) =
    ap₂ ◌&&◌ (ap not (reads-level q p c.variable (c ∷ g) c.variable) ∙ twice (ltb (level q p (c ∷ g) c.variable) (position p c.variable)))
    (in_order_levels q p g)
  where
    twice : (b : Bool) → not (not b) ≡ b
    twice true = refl
    twice false = refl
