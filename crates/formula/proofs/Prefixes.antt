-- Laws of prefixes: the numbers that rows bind, rows put together, the rows after x, rows chosen by a test, and tests on rows.
-- Assumes nothing.
use mathlib.Core.Path.{◌≡◌, refl, sym, ◌∙◌, ap, ap₂}
use mathlib.Core.Bool.{Bool, true, false, not, ◌&&◌, ◌||◌, cond, or_assoc, false≢true, true≢false}
use mathlib.Core.List.{[], ◌∷◌, ◌++◌}
use mathlib.Core.Logic.{⊎_elim}
use Prim.Native.Nat.{ℕ}
use lib.Dec.{eqb}
use borrow.Author.Tests.{eqb-true, eq-eqb, not-true}
use Rattle.formula.specs.Tree.{Op, same_op, Binding, Prefix, binds, distinct}
use Rattle.formula.specs.Truth.{Leads}
use Rattle.formula.specs.Expand.{all_of, after, among}
use Rattle.formula.specs.Outer.{some_row}
use Rattle.formula.proofs.Booleans.{and_parts, or_parts, or_cases, or_later, cond_cases, by_cases}

-- binds

pub binds_first : (z : Binding) (p : Prefix) → binds (z ∷ p) z.variable ≡ true
unfolding binds
binds_first z p = ap (λ (m : Bool). m || binds p z.variable) (eq-eqb z.variable z.variable refl)

pub binds-later : (z : Binding) (p : Prefix) (v : ℕ) → binds p v ≡ true → binds (z ∷ p) v ≡ true
unfolding binds
binds-later z p v h = or_later (eqb z.variable v) h

pub binds-++ : (p q : Prefix) (v : ℕ) → binds (p ++ q) v ≡ (binds p v || binds q v)
unfolding binds
binds-++ [] q v = refl
binds-++ (z ∷ p) q v =
    ap (λ (m : Bool). eqb z.variable v || m) (binds-++ p q v) ∙ sym (or_assoc (eqb z.variable v) (binds p v) (binds q v))

-- distinct

pub distinct_parts : (z : Binding) (p : Prefix) → distinct (z ∷ p) ≡ true → (binds p z.variable ≡ false) × (distinct p ≡ true)
unfolding distinct
distinct_parts z p h =
    let parts = and_parts (not (binds p z.variable)) (distinct p) h in
    (not-true (binds p z.variable) parts.0, parts.1)

pub distinct-++ : (p q : Prefix) → distinct p ≡ true → distinct q ≡ true → ((v : ℕ) → binds q v ≡ true → binds p v ≡ false)
    → distinct (p ++ q) ≡ true
unfolding distinct binds
distinct-++ [] q d e h = e
distinct-++ (z ∷ p) q d e h =
    let parts = distinct_parts z p d in
    ap₂ (λ (a b : Bool). not a && b) (binds-++ p q z.variable ∙ ap₂ ◌||◌ parts.0 none)
    (distinct-++ p q parts.1 e (λ v k. (or_parts (eqb z.variable v) (binds p v) (h v k)).1))
  where
    none : binds q z.variable ≡ false
    none =
        by_cases (binds q z.variable) (λ k. absurd (true≢false (sym (binds_first z p) ∙ h z.variable k))) (λ k. k)

-- all_of

pub all_of-++ : (q : Op) (p r : Prefix) → all_of q p ≡ true → all_of q r ≡ true → all_of q (p ++ r) ≡ true
unfolding all_of
all_of-++ q [] r h k = k
all_of-++ q (z ∷ p) r h k =
    let parts = and_parts (same_op q z.quantifier) (all_of q p) h in
    ap₂ ◌&&◌ parts.0 (all_of-++ q p r parts.1 k)

-- after

pub after-binds : (x v : ℕ) (p : Prefix) → binds (after x p) v ≡ true → binds p v ≡ true
unfolding after
after-binds x v [] h = h
after-binds x v (z ∷ p) h =
    cond_cases (λ (q : Prefix). binds q v ≡ true → binds (z ∷ p) v ≡ true) (eqb z.variable x)
    (λ e k. binds-later z p v k) (λ e k. binds-later z p v (after-binds x v p k)) h

pub after-unbound : (x v : ℕ) (p : Prefix) → binds p v ≡ false → binds (after x p) v ≡ false
unfolding after binds
after-unbound x v [] h = refl
after-unbound x v (z ∷ p) h =
    let absent = (or_parts (eqb z.variable v) (binds p v) h).1 in
    cond_cases (λ (q : Prefix). binds q v ≡ false) (eqb z.variable x) (λ e. absent) (λ e. after-unbound x v p absent)

pub after_own : (x : ℕ) (p : Prefix) → distinct p ≡ true → binds (after x p) x ≡ false
unfolding after binds
after_own x [] d = refl
after_own x (z ∷ p) d =
    let parts = distinct_parts z p d in
    cond_cases (λ (q : Prefix). binds q x ≡ false) (eqb z.variable x)
    (λ e. ap (binds p) (sym (eqb-true z.variable x e)) ∙ parts.0) (λ e. after_own x p parts.1)

pub distinct-after : (x : ℕ) (p : Prefix) → distinct p ≡ true → distinct (after x p) ≡ true
unfolding after distinct
distinct-after x [] d = refl
distinct-after x (z ∷ p) d =
    let rest = (distinct_parts z p d).1 in
    cond_cases (λ (q : Prefix). distinct q ≡ true) (eqb z.variable x) (λ e. rest) (λ e. distinct-after x p rest)

-- among

pub among-binds : (P : ℕ → Bool) (v : ℕ) (p : Prefix) → binds (among P p) v ≡ true → binds p v ≡ true
unfolding among binds
among-binds P v [] h = h
among-binds P v (z ∷ p) h =
    cond_cases (λ (q : Prefix). binds q v ≡ true → binds (z ∷ p) v ≡ true) (P z.variable)
    (λ e k.
    ⊎_elim (λ i. ap (λ (m : Bool). m || binds p v) i) (λ i. binds-later z p v (among-binds P v p i))
    (or_cases (eqb z.variable v) (binds (among P p) v) k)) (λ e k. binds-later z p v (among-binds P v p k)) h

pub among-++ : (P : ℕ → Bool) (p q : Prefix) → among P (p ++ q) ≡ (among P p ++ among P q)
unfolding among
among-++ P [] q = refl
among-++ P (z ∷ p) q = by (P z.variable) (among-++ P p q)
  where
    by : (m : Bool) → among P (p ++ q) ≡ (among P p ++ among P q)
        → cond m (z ∷ among P (p ++ q)) (among P (p ++ q)) ≡ (cond m (z ∷ among P p) (among P p) ++ among P q)
    by true e = ap (λ (r : Prefix). z ∷ r) e
    by false e = e

pub among_same : (P Q : ℕ → Bool) (p : Prefix) → ((v : ℕ) → binds p v ≡ true → P v ≡ Q v) → among P p ≡ among Q p
unfolding among
among_same P Q [] h = refl
among_same P Q (z ∷ p) h =
    ap₂ (λ (m : Bool) (r : Prefix). cond m (z ∷ r) r) (h z.variable (binds_first z p))
    (among_same P Q p (λ v k. h v (binds-later z p v k)))

pub among-all : (P : ℕ → Bool) (p : Prefix) → ((v : ℕ) → binds p v ≡ true → P v ≡ true) → among P p ≡ p
unfolding among
among-all P [] h = refl
among-all P (z ∷ p) h =
    ap₂ (λ (m : Bool) (r : Prefix). cond m (z ∷ r) r) (h z.variable (binds_first z p))
    (among-all P p (λ v k. h v (binds-later z p v k)))

-- some-row

pub some_here : (P : ℕ → Bool) (p : Prefix) (y : ℕ) → binds p y ≡ true → P y ≡ true → some_row P p ≡ true
unfolding some_row binds
some_here P [] y b h = absurd (false≢true b)
some_here P (z ∷ p) y b h =
    ⊎_elim (λ e. ap (λ (m : Bool). m || some_row P p) (ap P (eqb-true z.variable y e) ∙ h))
    (λ e. or_later (P z.variable) (some_here P p y e h)) (or_cases (eqb z.variable y) (binds p y) b)

pub some_found : (P : ℕ → Bool) (p : Prefix) → some_row P p ≡ true → (y : ℕ) × (P y ≡ true)
unfolding some_row
some_found P [] h = absurd (false≢true h)
some_found P (z ∷ p) h = ⊎_elim (λ e. (z.variable, e)) (λ e. some_found P p e) (or_cases (P z.variable) (some_row P p) h)

pub some_leads : (P Q : ℕ → Bool) → ((v : ℕ) → Leads (P v) (Q v)) → (p : Prefix) → Leads (some_row P p) (some_row Q p)
unfolding some_row
some_leads P Q f [] h = h
some_leads P Q f (z ∷ p) h =
    ⊎_elim (λ e. ap (λ (m : Bool). m || some_row Q p) (f z.variable e)) (λ e. or_later (Q z.variable) (some_leads P Q f p e))
    (or_cases (P z.variable) (some_row P p) h)
