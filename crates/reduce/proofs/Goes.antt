-- Which literals go, by places in the prefix: a universal one goes exactly if it stands behind the clause's last existential one.
-- Assumes nothing.
use mathlib.Core.Path.{◌≡◌, refl, sym, ◌∙◌, ap, ap₂}
use mathlib.Core.Bool.{Bool, true, false, not, ◌&&◌, ◌||◌, cond, and-false, false≢true, true≢false}
use mathlib.Core.List.{[], ◌∷◌}
use Prim.Native.Nat.{ℕ, suc, max}
use native.Mathlib.Omega.{arith}
use lib.Dec.{eqb, ltb, leb-suc-suc}
use borrow.Author.Tests.{eqb-true, eq-eqb, not-true, lt-ltb, le-ltb, ltb-true, ltb-false}
use Rattle.formula.specs.Tree.{same_op, exists, for_all, Tree, lit, node, Forest, ∅, ◌▸◌, Binding, Prefix, binds, quantifier_of, distinct, of, has, has_any, some_child}
use Rattle.formula.specs.Expand.{after, occurs}
use Rattle.formula.specs.Reduce.{is_literal, has_existential, goes}
use Rattle.formula.proofs.Booleans.{and_parts}
use Rattle.prefixes.specs.Places.{place}
use Rattle.reduce.specs.Inner.Places.{existential, behind}
use Rattle.formula.proofs.Prefixes.{after-unbound, distinct-after}

-- the row behind the last existential literal of a clause
unfoldable pub last : Prefix → Forest → ℕ
last p ∅ = 0
last p (lit s v ▸ ts) = max (behind p v) (last p ts)
last p (node o us ▸ ts) = last p ts

existential-row : (z : Binding) (p : Prefix) (v : ℕ) → existential (z ∷ p) v ≡ cond (eqb z.variable v) (same_op exists z.quantifier) (existential p v)
unfolding existential binds quantifier_of
existential-row z p v = by (eqb z.variable v)
  where
    by : (m : Bool) → ((m || binds p v) && same_op exists (cond m z.quantifier (quantifier_of p v))) ≡
        cond m (same_op exists z.quantifier) (binds p v && same_op exists (quantifier_of p v))
    by true = refl
    by false = refl

unbound-existential : (p : Prefix) (v : ℕ) → binds p v ≡ false → existential p v ≡ false
unfolding existential
unbound-existential p v e = ap (λ (m : Bool). m && same_op exists (quantifier_of p v)) e

-- v is existential and stands after x
after-place : (p : Prefix) (x v : ℕ) → distinct p ≡ true → binds p x ≡ true → existential (after x p) v ≡ ltb (suc (place x p)) (behind p v)
unfolding after place behind distinct binds
after-place [] x v d b = absurd (false≢true b)
after-place (z ∷ p) x v d b =
    let parts = and_parts (not (binds p z.variable)) (distinct p) d in
    rw (existential-row z p v)
    (by (eqb z.variable x) (eqb z.variable v) refl b (not-true (binds p z.variable) parts.0) (λ k. after-place p x v parts.1 k))
  where
    E : Bool
    E = existential p v

    own : (m : Bool) (n : ℕ) → false ≡ ltb (suc n) (cond m 1 0)
    own true n = sym (le-ltb (suc n) 1 (omega arith))
    own false n = sym (le-ltb (suc n) 0 (omega arith))

    first : (m : Bool) → m ≡ ltb 1 (cond m (suc (suc (place v p))) 0)
    first true = sym (lt-ltb 1 (suc (suc (place v p))) (omega arith))
    first false = refl

    shift : (m : Bool) → ltb (suc (place x p)) (cond m (suc (place v p)) 0) ≡ ltb (suc (suc (place x p))) (cond m (suc (suc (place v p))) 0)
    shift true = sym (leb-suc-suc (suc (suc (place x p))) (suc (place v p)))
    shift false = le-ltb (suc (place x p)) 0 (omega arith) ∙ sym (le-ltb (suc (suc (place x p))) 0 (omega arith))

    by : (m n : Bool) → eqb z.variable v ≡ n → (m || binds p x) ≡ true → binds p z.variable ≡ false
        → (binds p x ≡ true → existential (after x p) v ≡ ltb (suc (place x p)) (cond E (suc (place v p)) 0))
        → existential (cond m p (after x p)) v ≡
        ltb (suc (cond m 0 (suc (place x p)))) (cond (cond n (same_op exists z.quantifier) E) (suc (cond n 0 (suc (place v p)))) 0)
    by true true e k f more = unbound-existential p v (ap (binds p) (sym (eqb-true z.variable v e)) ∙ f) ∙ own (same_op exists z.quantifier) 0
    by true false e k f more = first E
    by false true e k f more =
        unbound-existential (after x p) v (after-unbound x v p (ap (binds p) (sym (eqb-true z.variable v e)) ∙ f)) ∙
        own (same_op exists z.quantifier) (suc (place x p))
    by false false e k f more = more k ∙ shift E

-- some literal of the clause is bound by an existential row of the prefix
exists-among : Prefix → Forest → Bool
exists-among q ∅ = false
exists-among q (lit s v ▸ ts) = existential q v || exists-among q ts
exists-among q (node o us ▸ ts) = exists-among q ts

exists-none : (ts : Forest) → exists-among [] ts ≡ false
unfolding exists-among existential binds
exists-none ∅ = refl
exists-none (lit s v ▸ ts) = exists-none ts
exists-none (node o us ▸ ts) = exists-none ts

-- row by row, or literal by literal
exists-row : (z : Binding) (p : Prefix) → binds p z.variable ≡ false → (ts : Forest) → some_child (λ t. not (is_literal t)) ts ≡ false
    → exists-among (z ∷ p) ts ≡ ((same_op exists z.quantifier && has_any (of z.variable) ts) || exists-among p ts)
unfolding exists-among has some_child is_literal
exists-row z p f ∅ l = sym (ap (λ (m : Bool). m || false) (and-false (same_op exists z.quantifier)))
exists-row z p f (node o us ▸ ts) l = absurd (true≢false l)
exists-row z p f (lit s v ▸ ts) l =
    rw (existential-row z p v, exists-row z p f ts l) (by (eqb z.variable v) refl (eqb v z.variable) refl (same_op exists z.quantifier))
  where
    H : Bool
    H = has_any (of z.variable) ts

    R : Bool
    R = exists-among p ts

    same : (q h r : Bool) → (q || (q && h || r)) ≡ (q && true || (false || r))
    same true h r = refl
    same false h r = refl

    other : (e q h r : Bool) → (e || (q && h || r)) ≡ (q && h || (e || r))
    other true true true r = refl
    other true true false r = refl
    other true false h r = refl
    other false q h r = refl

    by : (m : Bool) → eqb z.variable v ≡ m → (n : Bool) → eqb v z.variable ≡ n → (q : Bool)
        → (cond m q (existential p v) || (q && H || R)) ≡ (q && (n || H) || (existential p v || R))
    by true e true h q =
        same q H R ∙
        ap (λ (m : Bool). q && true || (m || R)) (sym (unbound-existential p v (ap (binds p) (sym (eqb-true z.variable v e)) ∙ f)))
    by true e false h q = absurd (true≢false (sym (eq-eqb v z.variable (sym (eqb-true z.variable v e))) ∙ h))
    by false e true h q = absurd (true≢false (sym (eq-eqb z.variable v (sym (eqb-true v z.variable h))) ∙ e))
    by false e false h q = other (existential p v) q H R

has-exists : (p : Prefix) → distinct p ≡ true → (c : Tree) (ts : Forest) → ((x : ℕ) → occurs c x ≡ has_any (of x) ts)
    → some_child (λ t. not (is_literal t)) ts ≡ false → has_existential p c ≡ exists-among p ts
unfolding has_existential distinct
has-exists [] d c ts o l = sym (exists-none ts)
has-exists (z ∷ p) d c ts o l =
    let parts = and_parts (not (binds p z.variable)) (distinct p) d in
    ap₂ (λ (m n : Bool). same_op exists z.quantifier && m || n) (o z.variable) (has-exists p parts.1 c ts o l) ∙
    sym (exists-row z p (not-true (binds p z.variable) parts.0) ts l)

-- the last existential literal stands after x
exists-last : (p : Prefix) (x : ℕ) → distinct p ≡ true → binds p x ≡ true → (ts : Forest)
    → exists-among (after x p) ts ≡ ltb (suc (place x p)) (last p ts)
unfolding exists-among last
exists-last p x d b ∅ = sym (le-ltb (suc (place x p)) 0 (omega arith))
exists-last p x d b (node o us ▸ ts) = exists-last p x d b ts
exists-last p x d b (lit s v ▸ ts) =
    ap₂ ◌||◌ (after-place p x v d b) (exists-last p x d b ts) ∙ greater (suc (place x p)) (behind p v) (last p ts)
  where
    greater : (a m n : ℕ) → (ltb a m || ltb a n) ≡ ltb a (max m n)
    greater a m n = by (ltb a m) refl (ltb a n) refl
      where
        by : (c : Bool) → ltb a m ≡ c → (d : Bool) → ltb a n ≡ d → (c || d) ≡ ltb a (max m n)
        by true e d f = sym (lt-ltb a (max m n) (omega (arith, ltb-true a m e)))
        by false e true f = sym (lt-ltb a (max m n) (omega (arith, ltb-true a n f)))
        by false e false f = sym (le-ltb a (max m n) (omega (arith, ltb-false a m e, ltb-false a n f)))

-- a bound universal literal goes exactly if no existential one of the clause is behind it
pub goes-place : (p : Prefix) → distinct p ≡ true → (c : Tree) (ts : Forest) → ((x : ℕ) → occurs c x ≡ has_any (of x) ts)
    → some_child (λ t. not (is_literal t)) ts ≡ false → (x : ℕ) → binds p x ≡ true
    → goes p c x ≡ (same_op for_all (quantifier_of p x) && not (ltb (suc (place x p)) (last p ts)))
unfolding goes
goes-place p d c ts o l x b =
    ap (λ (m : Bool). m && (same_op for_all (quantifier_of p x) && not (has_existential (after x p) c))) b ∙
    ap (λ (m : Bool). same_op for_all (quantifier_of p x) && not m)
    (has-exists (after x p) (distinct-after x p d) c ts o l ∙ exists-last p x d b ts)
