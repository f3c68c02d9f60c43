-- Whose variable a row binds and which rows stand in front of it, where a row is added or taken out.
-- Assumes nothing.
use mathlib.Core.Path.{◌≡◌, refl, sym, ◌∙◌, ap, ap₂}
use mathlib.Core.Bool.{Bool, true, false, ◌&&◌, ◌||◌, cond, false≢true, true≢false}
use mathlib.Core.List.{[], ◌∷◌}
use Prim.Native.Nat.{ℕ}
use lib.Dec.{eqb}
use borrow.Author.Tests.{eqb-true, ne_eqb, eqb-false}
use Rattle.formula.specs.Tree.{Op, and, or, dual, same_op, Quantifier, Binding, Prefix, Formula, binds, quantifier_of, without, distinct}
use Rattle.formula.specs.Expand.{all_of, after, among, occurs, occurring, later, innermost}
use Rattle.formula.specs.Strategy.{owns, before}
use Rattle.formula.proofs.Booleans.{and_parts, by_cases}
use Rattle.formula.proofs.Binding.{same_op_eq}
use Rattle.formula.proofs.Closed.{binds-without}
use Rattle.formula.proofs.Prefixes.{distinct_parts}

-- numbers that are equal or not, by way of a third
pub apart_by : (x u v : ℕ) → eqb x u ≡ true → eqb v u ≡ false → eqb x v ≡ false
apart_by x u v e h = ne_eqb x v (λ k. eqb-false v u h (sym k ∙ eqb-true x u e))

-- the two sides

pub sides_apart : (q r : Op) → same_op q r ≡ true → same_op (dual q) r ≡ true → ⊥
sides_apart and and h k = false≢true k
sides_apart and or h k = false≢true h
sides_apart or and h k = false≢true h
sides_apart or or h k = false≢true k

pub side-dual : (q r : Op) → same_op q r ≡ false → r ≡ dual q
side-dual and and h = absurd (true≢false h)
side-dual and or h = refl
side-dual or and h = refl
side-dual or or h = absurd (true≢false h)

pub other_side : (q r : Op) → same_op q r ≡ false → same_op (dual q) r ≡ true
other_side and and h = absurd (true≢false h)
other_side and or h = refl
other_side or and h = refl
other_side or or h = absurd (true≢false h)

-- a row in front

pub owns_other : (q : Quantifier) (z : Binding) (p : Prefix) (v : ℕ) → eqb z.variable v ≡ false → owns q (z ∷ p) v ≡ owns q p v
unfolding owns binds quantifier_of
owns_other q z p v h = ap (λ (m : Bool). (m || binds p v) && same_op q (cond m z.quantifier (quantifier_of p v))) h

pub owns_own : (q : Quantifier) (z : Binding) (p : Prefix) (v : ℕ) → eqb z.variable v ≡ true → owns q (z ∷ p) v ≡ same_op q z.quantifier
unfolding owns binds quantifier_of
owns_own q z p v h = ap (λ (m : Bool). (m || binds p v) && same_op q (cond m z.quantifier (quantifier_of p v))) h

pub owns-bound : (q : Quantifier) (p : Prefix) (v : ℕ) → owns q p v ≡ true → (binds p v ≡ true) × (same_op q (quantifier_of p v) ≡ true)
unfolding owns
owns-bound q p v h = and_parts (binds p v) (same_op q (quantifier_of p v)) h

pub owns-unbound : (q : Quantifier) (p : Prefix) (v : ℕ) → binds p v ≡ false → owns q p v ≡ false
unfolding owns
owns-unbound q p v h = ap (λ (m : Bool). m && same_op q (quantifier_of p v)) h

-- a variable is of one side
pub owns_apart : (q : Quantifier) (p : Prefix) (u v : ℕ) → owns q p v ≡ true → owns (dual q) p u ≡ true → eqb u v ≡ false
owns_apart q p u v h k =
    ne_eqb u v (λ e. sides_apart q (quantifier_of p v) (owns-bound q p v h).1 (ap (λ (w : ℕ). same_op (dual q) (quantifier_of p w)) (sym e) ∙ (owns-bound (dual q) p u k).1))

-- a bound variable that isn't of the side is of the other
pub owns-dual : (q : Quantifier) (p : Prefix) (v : ℕ) → binds p v ≡ true → owns q p v ≡ false → owns (dual q) p v ≡ true
unfolding owns
owns-dual q p v h k = ap₂ ◌&&◌ h (other_side q (quantifier_of p v) (ap (λ (m : Bool). m && same_op q (quantifier_of p v)) (sym h) ∙ k))

-- a row taken out

binds_gone : (x : ℕ) (p : Prefix) → distinct p ≡ true → binds (without x p) x ≡ false
unfolding binds without
binds_gone x [] d = refl
binds_gone x (z ∷ p) d = by (eqb z.variable x) refl (distinct_parts z p d).0 (binds_gone x p (distinct_parts z p d).1)
  where
    by : (m : Bool) → eqb z.variable x ≡ m → binds p z.variable ≡ false → binds (without x p) x ≡ false
        → binds (cond m p (z ∷ without x p)) x ≡ false
    by true e fresh rest = ap (binds p) (sym (eqb-true z.variable x e)) ∙ fresh
    by false e fresh rest = ap₂ ◌||◌ e rest

pub owns_gone : (q : Quantifier) (x : ℕ) (p : Prefix) → distinct p ≡ true → owns q (without x p) x ≡ false
owns_gone q x p d = owns-unbound q (without x p) x (binds_gone x p d)

quantifier-without : (x v : ℕ) (p : Prefix) → eqb v x ≡ false → quantifier_of (without x p) v ≡ quantifier_of p v
unfolding quantifier_of without
quantifier-without x v [] h = refl
quantifier-without x v (z ∷ p) h = by (eqb z.variable x) refl (quantifier-without x v p h)
  where
    by : (m : Bool) → eqb z.variable x ≡ m → quantifier_of (without x p) v ≡ quantifier_of p v
        → quantifier_of (cond m p (z ∷ without x p)) v ≡ cond (eqb z.variable v) z.quantifier (quantifier_of p v)
    by true e rest = sym (ap (λ (n : Bool). cond n z.quantifier (quantifier_of p v)) (apart_by z.variable x v e h))
    by false e rest = ap (cond (eqb z.variable v) z.quantifier) rest

pub owns-without : (q : Quantifier) (x v : ℕ) (p : Prefix) → eqb v x ≡ false → owns q (without x p) v ≡ owns q p v
unfolding owns
owns-without q x v p h = ap₂ (λ (b : Bool) (r : Op). b && same_op q r) (binds-without x v p h) (quantifier-without x v p h)

-- whoever is left has the side it had
pub owns-left : (q : Quantifier) (x v : ℕ) (p : Prefix) → distinct p ≡ true → owns q (without x p) v ≡ true → owns q p v ≡ true
owns-left q x v p d h =
    by_cases (eqb v x)
    (λ e. absurd (false≢true (sym (owns_gone q x p d) ∙ ap (owns q (without x p)) (sym (eqb-true v x e)) ∙ h)))
    (λ e. sym (owns-without q x v p e) ∙ h)

-- what stands in front stays in front

-- nobody owns a variable of the empty prefix
pub owns_none : (q : Quantifier) (v : ℕ) → owns q [] v ≡ false
unfolding owns binds
owns_none q v = refl

pub owns-before : (q : Quantifier) (v u : ℕ) (p : Prefix) → owns q (before v p) u ≡ true → owns q p u ≡ true
unfolding before
owns-before q v u [] h = h
owns-before q v u (z ∷ p) h = by (eqb z.variable v) h (owns-before q v u p)
  where
    by : (m : Bool) → owns q (cond m [] (z ∷ before v p)) u ≡ true → (owns q (before v p) u ≡ true → owns q p u ≡ true)
        → owns q (z ∷ p) u ≡ true
    by true k rest = absurd (false≢true (sym (owns_none q u) ∙ k))
    by false k rest =
        by_cases (eqb z.variable u)
        (λ e. owns_own q z p u e ∙ sym (owns_own q z (before v p) u e) ∙ k)
        (λ e. owns_other q z p u e ∙ rest (sym (owns_other q z (before v p) u e) ∙ k))

stays_in_front : (q : Quantifier) (x v u : ℕ) (p : Prefix) → eqb v x ≡ false → eqb u x ≡ false → owns q (before v (without x p)) u ≡ true
    → owns q (before v p) u ≡ true
unfolding before without
stays_in_front q x v u [] hv hu h = h
stays_in_front q x v u (z ∷ p) hv hu h = by (eqb z.variable x) refl h (stays_in_front q x v u p hv hu)
  where
    -- the row stays, and stands in front of v or not
    kept : (n : Bool) → owns q (cond n [] (z ∷ before v (without x p))) u ≡ true
        → (owns q (before v (without x p)) u ≡ true → owns q (before v p) u ≡ true) → owns q (cond n [] (z ∷ before v p)) u ≡ true
    kept true k rest = k
    kept false k rest =
        by_cases (eqb z.variable u)
        (λ e. owns_own q z (before v p) u e ∙ sym (owns_own q z (before v (without x p)) u e) ∙ k)
        (λ e. owns_other q z (before v p) u e ∙ rest (sym (owns_other q z (before v (without x p)) u e) ∙ k))

    by : (m : Bool) → eqb z.variable x ≡ m → owns q (before v (cond m p (z ∷ without x p))) u ≡ true
        → (owns q (before v (without x p)) u ≡ true → owns q (before v p) u ≡ true)
        → owns q (cond (eqb z.variable v) [] (z ∷ before v p)) u ≡ true
    by true e k rest =
        ap (λ (n : Bool). owns q (cond n [] (z ∷ before v p)) u) (apart_by z.variable x v e hv) ∙
        owns_other q z (before v p) u (apart_by z.variable x u e hu) ∙ k
    by false e k rest = kept (eqb z.variable v) k rest

pub before-without : (q : Quantifier) (x v u : ℕ) (p : Prefix) → distinct p ≡ true → eqb v x ≡ false
    → owns q (before v (without x p)) u ≡ true → owns q (before v p) u ≡ true
before-without q x v u p d hv h =
    by_cases (eqb u x)
    (λ e. absurd
    (false≢true
    (sym (owns_gone q x p d) ∙ ap (owns q (without x p)) (sym (eqb-true u x e)) ∙ owns-before q v u (without x p) h)))
    (λ e. stays_in_front q x v u p hv e h)

-- the innermost block: the other side's variables that have a literal all stand in front of it

all_of_one_side : (r : Quantifier) (P : ℕ → Bool) (u : ℕ) (p : Prefix) → all_of r (among P p) ≡ true → owns (dual r) p u ≡ true
    → P u ≡ true → ⊥
unfolding all_of among
all_of_one_side r P u [] a h k = false≢true (sym (owns_none (dual r) u) ∙ h)
all_of_one_side r P u (z ∷ p) a h k = by (eqb z.variable u) refl (P z.variable) refl a (λ a' h'. all_of_one_side r P u p a' h' k)
  where
    by : (m : Bool) → eqb z.variable u ≡ m → (n : Bool) → P z.variable ≡ n → all_of r (cond n (z ∷ among P p) (among P p)) ≡ true
        → (all_of r (among P p) ≡ true → owns (dual r) p u ≡ true → ⊥) → ⊥
    by true e true i b rest =
        sides_apart r z.quantifier (and_parts (same_op r z.quantifier) (all_of r (among P p)) b).0 (sym (owns_own (dual r) z p u e) ∙ h)
    by true e false i b rest = false≢true (sym i ∙ ap P (eqb-true z.variable u e) ∙ k)
    by false e true i b rest =
        rest (and_parts (same_op r z.quantifier) (all_of r (among P p)) b).1 (sym (owns_other (dual r) z p u e) ∙ h)
    by false e false i b rest = rest b (sym (owns_other (dual r) z p u e) ∙ h)

after_one_side : (r : Quantifier) (P : ℕ → Bool) (x u : ℕ) (p : Prefix) → all_of r (among P (after x p)) ≡ true → owns (dual r) p u ≡ true
    → P u ≡ true → eqb u x ≡ false → owns (dual r) (before x p) u ≡ true
unfolding after before
after_one_side r P x u [] a h k n = h
after_one_side r P x u (z ∷ p) a h k n = by (eqb z.variable x) refl a (λ a' h'. after_one_side r P x u p a' h' k n)
  where
    by : (m : Bool) → eqb z.variable x ≡ m → all_of r (among P (cond m p (after x p))) ≡ true
        → (all_of r (among P (after x p)) ≡ true → owns (dual r) p u ≡ true → owns (dual r) (before x p) u ≡ true)
        → owns (dual r) (cond m [] (z ∷ before x p)) u ≡ true
    by true e b rest = absurd (all_of_one_side r P u p b (sym (owns_other (dual r) z p u (apart_by z.variable x u e n)) ∙ h) k)
    by false e b rest =
        by_cases (eqb z.variable u)
        (λ i. owns_own (dual r) z (before x p) u i ∙ sym (owns_own (dual r) z p u i) ∙ h)
        (λ i. owns_other (dual r) z (before x p) u i ∙ rest b (sym (owns_other (dual r) z p u i) ∙ h))

pub innermost-front : (q : Quantifier) (x u : ℕ) (f : Formula) → innermost x f ≡ true → owns q f.prefix x ≡ true
    → owns (dual q) f.prefix u ≡ true → occurs f.matrix u ≡ true → owns (dual q) (before x f.prefix) u ≡ true
unfolding innermost later occurring
innermost-front q x u f i h k o =
    let r : Quantifier = quantifier_of f.prefix x in
    let same : q ≡ r = same_op_eq q r (owns-bound q f.prefix x h).1 in
    after_one_side q (occurs f.matrix) x u f.prefix
    (ap (λ (r : Quantifier). all_of r (among (occurs f.matrix) (after x f.prefix))) same ∙
    (and_parts (binds f.prefix x) (all_of r (later x f)) i).1)
    k o (owns_apart q f.prefix u x h k)
