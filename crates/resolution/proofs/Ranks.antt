-- Ranks: in a prefix that binds no number twice, they say which variables a quantifier binds, and which stand behind which.
-- Assumes nothing.
use mathlib.Core.Path.{◌≡◌, refl, sym, ap, ◌∙◌}
use mathlib.Core.Bool.{Bool, true, false, not, ◌&&◌, ◌||◌, cond, false≢true}
use mathlib.Core.List.{[], ◌∷◌}
use Prim.Native.Nat.{ℕ, zero, suc, ◌≤◌, ◌<◌}
use native.Mathlib.Omega.{arith}
use lib.Dec.{eqb, ltb, eqb-suc-zero}
use borrow.Author.Tests.{eqb-true, lt-ltb, le-ltb, not-true}
use Rattle.formula.specs.Tree.{Op, and, or, dual, same_op, Prefix, binds, quantifier_of, distinct}
use Rattle.formula.specs.Expand.{after}
use Rattle.formula.proofs.Booleans.{and_parts}
use Rattle.formula.proofs.Prefixes.{after-binds}
use Rattle.resolution.specs.Ranks.{rank_from}

-- x is bound by q
abbrev pub bound_by : Op → Prefix → ℕ → Bool
bound_by q p x = binds p x && same_op q (quantifier_of p x)

rank_zero : (q : Op) (i : ℕ) (p : Prefix) (x : ℕ) → bound_by q p x ≡ false → rank_from q i p x ≡ 0
unfolding rank_from binds quantifier_of
rank_zero q i [] x h = refl
rank_zero q i (z ∷ p) x h = by (eqb z.variable x) h (rank_zero q (suc i) p x)
  where
    by : (e : Bool) → ((e || binds p x) && same_op q (cond e z.quantifier (quantifier_of p x))) ≡ false
        → (bound_by q p x ≡ false → rank_from q (suc i) p x ≡ 0)
        → cond e (cond (same_op q z.quantifier) (suc i) 0) (rank_from q (suc i) p x) ≡ 0
    by true h rest = ap (λ (s : Bool). cond s (suc i) 0) h
    by false h rest = rest h

rank_above : (q : Op) (i : ℕ) (p : Prefix) (x : ℕ) → bound_by q p x ≡ true → i < rank_from q i p x
unfolding rank_from binds quantifier_of
rank_above q i [] x h = absurd (false≢true h)
rank_above q i (z ∷ p) x h = by (eqb z.variable x) h (rank_above q (suc i) p x)
  where
    by : (e : Bool) → ((e || binds p x) && same_op q (cond e z.quantifier (quantifier_of p x))) ≡ true
        → (bound_by q p x ≡ true → suc i < rank_from q (suc i) p x)
        → i < cond e (cond (same_op q z.quantifier) (suc i) 0) (rank_from q (suc i) p x)
    by true h rest = let r = ap (λ (s : Bool). cond s (suc i) 0) h in omega arith
    by false h rest = omega (arith, rest h)

-- a rank is one from row i on exactly if q binds x
rank_bound : (q : Op) (i : ℕ) (p : Prefix) (x : ℕ) → ltb i (rank_from q i p x) ≡ bound_by q p x
rank_bound q i p x = by (bound_by q p x) refl
  where
    by : (b : Bool) → bound_by q p x ≡ b → ltb i (rank_from q i p x) ≡ b
    by true h = lt-ltb i (rank_from q i p x) (rank_above q i p x h)
    by false h = le-ltb i (rank_from q i p x) (omega (arith, rank_zero q i p x h))

pub rank_some : (q : Op) (p : Prefix) (x : ℕ) → not (eqb (rank_from q 0 p x) 0) ≡ bound_by q p x
rank_some q p x = positive (rank_from q 0 p x) ∙ rank_bound q 0 p x
  where
    positive : (n : ℕ) → not (eqb n 0) ≡ ltb 0 n
    positive zero = refl
    positive (suc n) = rw (eqb-suc-zero n) (sym (lt-ltb 0 (suc n) (omega arith)))

-- a number that isn't bound isn't bound behind x
unbound-after : (x : ℕ) (p : Prefix) (y : ℕ) → binds p y ≡ false → binds (after x p) y ≡ false
unbound-after x p y h = by (binds (after x p) y) refl
  where
    by : (b : Bool) → binds (after x p) y ≡ b → b ≡ false
    by true e = absurd (false≢true (sym h ∙ after-binds x y p e))
    by false e = refl

other_op : (o q : Op) → same_op (dual o) q ≡ true → same_op o q ≡ false
other_op and and h = absurd (false≢true h)
other_op and or h = refl
other_op or and h = refl
other_op or or h = absurd (false≢true h)

-- a variable of the side's own stands behind x, of the other quantifier, exactly if its rank is later
pub rank_behind : (o : Op) (i : ℕ) (p : Prefix) (x y : ℕ) → distinct p ≡ true → bound_by (dual o) p x ≡ true
    → (binds (after x p) y && same_op o (quantifier_of p y)) ≡ ltb (rank_from (dual o) i p x) (rank_from o i p y)
unfolding rank_from binds quantifier_of after distinct
rank_behind o i [] x y d h = absurd (false≢true h)
rank_behind o i (z ∷ p) x y d h = by (eqb z.variable x) (eqb z.variable y) refl h (rank_behind o (suc i) p x y parts.1)
  where
    parts : (not (binds p z.variable) ≡ true) × (distinct p ≡ true)
    parts = and_parts (not (binds p z.variable)) (distinct p) d

    -- the number of the first row isn't bound behind it
    once : eqb z.variable y ≡ true → binds p y ≡ false
    once e = ap (binds p) (sym (eqb-true z.variable y e)) ∙ not-true (binds p z.variable) parts.0

    by : (e f : Bool) → eqb z.variable y ≡ f → ((e || binds p x) && same_op (dual o) (cond e z.quantifier (quantifier_of p x))) ≡ true
        → (bound_by (dual o) p x ≡ true
        → (binds (after x p) y && same_op o (quantifier_of p y)) ≡ ltb (rank_from (dual o) (suc i) p x) (rank_from o (suc i) p y))
        → (binds (cond e p (after x p)) y && same_op o (cond f z.quantifier (quantifier_of p y))) ≡
        ltb (cond e (cond (same_op (dual o) z.quantifier) (suc i) 0) (rank_from (dual o) (suc i) p x))
        (cond f (cond (same_op o z.quantifier) (suc i) 0) (rank_from o (suc i) p y))
    by true true g h rest = rw (once g, h, other_op o z.quantifier h) (sym (le-ltb (suc i) 0 (omega arith)))
    by true false g h rest = rw h (sym (rank_bound o (suc i) p y))
    by false true g h rest =
        rw (unbound-after x p y (once g))
        (sym
        (le-ltb (rank_from (dual o) (suc i) p x) (cond (same_op o z.quantifier) (suc i) 0)
        (most (same_op o z.quantifier) (rank_above (dual o) (suc i) p x h))))
      where
        most : (s : Bool) {n : ℕ} → suc i < n → cond s (suc i) 0 ≤ n
        most true l = omega arith
        most false l = omega arith
    by false false g h rest = rest h
