-- The set of the depending variables in words against their list in prefix order: as many ones as the list is long, and the lowest.
-- Assumes nothing.
use mathlib.Core.Path.{◌≡◌, refl, sym, ◌∙◌, ap, ap₂}
use mathlib.Core.Bool.{Bool, true, false, not, ◌&&◌, ◌||◌, cond, true≢false, false≢true}
use mathlib.Core.List.{List, [], ◌∷◌}
use mathlib.Core.Logic.{⊎_elim}
use Prim.Native.Nat.{ℕ, suc, ◌*◌, ◌≤◌, ◌<◌}
use native.Mathlib.Omega.{arith}
use lib.Dec.{eqb, ltb}
use lib.ListN.{length}
use borrow.Author.Tests.{eqb-true, eq-eqb, ltb-true, ltb-false, not-true}
use Rattle.formula.specs.Tree.{same_op, exists, Binding, Prefix, Formula, binds, distinct}
use Rattle.formula.specs.Expand.{after, among, occurs, occurring, later}
use Rattle.formula.specs.Solve.{those}
use Rattle.formula.specs.Outer.{existentials, block, depends, dependents, lowest_of}
use Rattle.formula.proofs.Booleans.{and_parts, or_parts, or_cases, or_later, eqb_comm, by_cases}
use Rattle.formula.proofs.Outer.Closure.{stage-binds}
use Rattle.formula.proofs.Outer.Fresh.{rows_of, those-binds}
use Rattle.formula.proofs.Prefixes.{distinct-after}
use Rattle.sets.specs.Sets.{holds, amount, size, IsLowest}
use Rattle.sets.proofs.Members.{amount_same, amount-none, amount_more}
use Rattle.dependence.specs.Dependents.{Dependents}

-- rows that pass a test have no number twice if all have none

unfoldable rows_by : (Binding → Bool) → Prefix → Prefix
rows_by T [] = []
rows_by T (z ∷ p) = cond (T z) (z ∷ rows_by T p) (rows_by T p)

among_by : (P : ℕ → Bool) (p : Prefix) → among P p ≡ rows_by (λ z. P z.variable) p
unfolding among rows_by
among_by P [] = refl
among_by P (z ∷ p) = ap (λ (q : Prefix). cond (P z.variable) (z ∷ q) q) (among_by P p)

existentials_by : (p : Prefix) → existentials p ≡ rows_by (λ z. same_op exists z.quantifier) p
unfolding existentials rows_by
existentials_by [] = refl
existentials_by (z ∷ p) = ap (λ (q : Prefix). cond (same_op exists z.quantifier) (z ∷ q) q) (existentials_by p)

unbound_by : (T : Binding → Bool) (v : ℕ) (p : Prefix) → binds p v ≡ false → binds (rows_by T p) v ≡ false
unfolding rows_by binds
unbound_by T v [] h = refl
unbound_by T v (z ∷ p) h =
    let parts = or_parts (eqb z.variable v) (binds p v) h in
    by (T z) parts.0 (unbound_by T v p parts.1)
  where
    by : (m : Bool) → eqb z.variable v ≡ false → binds (rows_by T p) v ≡ false → binds (cond m (z ∷ rows_by T p) (rows_by T p)) v ≡ false
    by true e rest = ap₂ ◌||◌ e rest
    by false e rest = rest

distinct_by : (T : Binding → Bool) (p : Prefix) → distinct p ≡ true → distinct (rows_by T p) ≡ true
unfolding rows_by distinct
distinct_by T [] d = refl
distinct_by T (z ∷ p) d =
    let parts = and_parts (not (binds p z.variable)) (distinct p) d in
    by (T z) (not-true (binds p z.variable) parts.0) (distinct_by T p parts.1)
  where
    by : (m : Bool) → binds p z.variable ≡ false → distinct (rows_by T p) ≡ true → distinct (cond m (z ∷ rows_by T p) (rows_by T p)) ≡ true
    by true e rest = ap₂ (λ (a b : Bool). not a && b) (unbound_by T z.variable p e) rest
    by false e rest = rest

distinct_block : (x : ℕ) (f : Formula) → distinct f.prefix ≡ true → distinct (block x f) ≡ true
unfolding block later occurring
distinct_block x f d =
    ap distinct (existentials_by (later x f)) ∙
    distinct_by (λ z. same_op exists z.quantifier) (later x f)
    (ap distinct (among_by (occurs f.matrix) (after x f.prefix)) ∙
    distinct_by (λ z. occurs f.matrix z.variable) (after x f.prefix) (distinct-after x f.prefix d))

-- the members of a set among the rows of a prefix, counted by number and listed by row
amount_those : (D : ℕ → Bool) (n : ℕ) → ((v : ℕ) → D v ≡ true → v < n) → (p : Prefix) → distinct p ≡ true
    → amount (λ v. D v && binds p v) n 0 ≡ length (those D p)
unfolding those binds distinct
amount_those D n few [] d = amount-none (λ v. D v && false) (λ v. never (D v)) n 0
  where
    never : (m : Bool) → (m && false) ≡ false
    never true = refl
    never false = refl
amount_those D n few (z ∷ p) d =
    let parts = and_parts (not (binds p z.variable)) (distinct p) d in
    by (D z.variable) refl (not-true (binds p z.variable) parts.0) (amount_those D n few p parts.1)
  where
    here : (v : ℕ) → D z.variable ≡ true → (D v && (eqb z.variable v || binds p v)) ≡ (eqb v z.variable || (D v && binds p v))
    here v e = go (eqb v z.variable) refl
      where
        go : (m : Bool) → eqb v z.variable ≡ m → (D v && (eqb z.variable v || binds p v)) ≡ (m || (D v && binds p v))
        go true k = ap₂ (λ (a b : Bool). a && (b || binds p v)) (ap D (eqb-true v z.variable k) ∙ e) (eqb_comm z.variable v ∙ k)
        go false k = ap (λ (b : Bool). D v && (b || binds p v)) (eqb_comm z.variable v ∙ k)

    other : (v : ℕ) → D z.variable ≡ false → (D v && (eqb z.variable v || binds p v)) ≡ (D v && binds p v)
    other v e = go (eqb z.variable v) refl
      where
        go : (m : Bool) → eqb z.variable v ≡ m → (D v && (m || binds p v)) ≡ (D v && binds p v)
        go true k =
            let none : D v ≡ false = ap D (sym (eqb-true z.variable v k)) ∙ e in
            ap (λ (a : Bool). a && true) none ∙ sym (ap (λ (a : Bool). a && binds p v) none)
        go false k = refl

    by : (m : Bool) → D z.variable ≡ m → binds p z.variable ≡ false → amount (λ v. D v && binds p v) n 0 ≡ length (those D p)
        → amount (λ v. D v && (eqb z.variable v || binds p v)) n 0 ≡ length (cond m (z.variable ∷ those D p) (those D p))
    by true e new rest =
        amount_more (λ v. D v && binds p v) (λ v. D v && (eqb z.variable v || binds p v)) z.variable (λ v. here v e) n 0 (omega arith)
        (omega (arith, few z.variable e)) (ap₂ ◌&&◌ e new) ∙
        ap suc rest
    by false e new rest =
        amount_same (λ v. D v && (eqb z.variable v || binds p v)) (λ v. D v && binds p v) (λ v. other v e) n 0 ∙ rest

-- the lowest of a list

lowest_in : (y : ℕ) (ys : List ℕ) → binds (rows_of (y ∷ ys)) (lowest_of (y ∷ ys)) ≡ true
unfolding binds lowest_of
lowest_in y [] = ap (λ (m : Bool). m || false) (eq-eqb y y refl)
lowest_in y (z ∷ ys) = by (ltb y (lowest_of (z ∷ ys))) (lowest_in z ys)
  where
    by : (m : Bool) → binds (rows_of (z ∷ ys)) (lowest_of (z ∷ ys)) ≡ true
        → (eqb y (cond m y (lowest_of (z ∷ ys))) || binds (rows_of (z ∷ ys)) (cond m y (lowest_of (z ∷ ys)))) ≡ true
    by true rest = ap (λ (b : Bool). b || binds (rows_of (z ∷ ys)) y) (eq-eqb y y refl)
    by false rest = or_later (eqb y (lowest_of (z ∷ ys))) rest

lowest_below : (ys : List ℕ) (v : ℕ) → binds (rows_of ys) v ≡ true → lowest_of ys ≤ v
unfolding binds lowest_of
lowest_below [] v h = absurd (false≢true h)
lowest_below (y ∷ []) v h =
    ⊎_elim (λ e. let own = eqb-true y v e in omega (arith, own)) (λ e. absurd (false≢true e)) (or_cases (eqb y v) false h)
lowest_below (y ∷ z ∷ ys) v h = by (ltb y (lowest_of (z ∷ ys))) refl (lowest_below (z ∷ ys) v)
  where
    by : (m : Bool) → ltb y (lowest_of (z ∷ ys)) ≡ m → (binds (rows_of (z ∷ ys)) v ≡ true → lowest_of (z ∷ ys) ≤ v)
        → cond m y (lowest_of (z ∷ ys)) ≤ v
    by true k rest =
        let less = ltb-true y (lowest_of (z ∷ ys)) k in
        ⊎_elim (λ e. let own = eqb-true y v e in omega (arith, own)) (λ e. let r = rest e in omega (arith, r, less))
        (or_cases (eqb y v) (binds (rows_of (z ∷ ys)) v) h)
    by false k rest =
        let most = ltb-false y (lowest_of (z ∷ ys)) k in
        ⊎_elim (λ e. let own = eqb-true y v e in omega (arith, own, most)) rest (or_cases (eqb y v) (binds (rows_of (z ∷ ys)) v) h)

lowest_is : (ys : List ℕ) (r : ℕ) → binds (rows_of ys) r ≡ true → ((v : ℕ) → v < r → binds (rows_of ys) v ≡ false) → r ≡ lowest_of ys
unfolding binds
lowest_is [] r h none = absurd (false≢true h)
lowest_is (y ∷ ys) r h none =
    by_cases (ltb (lowest_of (y ∷ ys)) r)
    (λ e. absurd (true≢false (sym (lowest_in y ys) ∙ none (lowest_of (y ∷ ys)) (ltb-true _ _ e))))
    (λ e. let below = lowest_below (y ∷ ys) r h in let above = ltb-false (lowest_of (y ∷ ys)) r e in omega (arith, below, above))

no_those : (D : ℕ → Bool) → ((v : ℕ) → D v ≡ false) → (p : Prefix) → those D p ≡ []
unfolding those
no_those D none [] = refl
no_those D none (z ∷ p) =
    ap (λ (m : Bool). cond m (z.variable ∷ those D p) (those D p)) (none z.variable) ∙ no_those D none p

module _ (x : ℕ) (f : Formula) {set : List ℕ} (d : Dependents x f set) where
  in_block : (v : ℕ) → depends x f v ≡ true → binds (block x f) v ≡ true
  unfolding depends
  in_block v h = stage-binds f.matrix (block x f) x (length (block x f)) v h

  few : (v : ℕ) → depends x f v ≡ true → v ≤ 1024
  few v h = d.few v (d.is v ∙ h)

  -- as many ones as the list is long
  pub size-dependents : distinct f.prefix ≡ true → size set ≡ length (dependents x f)
  unfolding size dependents
  size-dependents own =
      ap (λ (n : ℕ). amount (holds set) (64 * n) 0) d.words ∙
      amount_same (holds set) (λ v. depends x f v && binds (block x f) v) (λ v. d.is v ∙ by v (depends x f v) refl) 1088 0 ∙
      amount_those (depends x f) 1088 (λ v h. let l = few v h in omega (arith, l)) (block x f) (distinct_block x f own)
    where
      by : (v : ℕ) (m : Bool) → depends x f v ≡ m → m ≡ (m && binds (block x f) v)
      by v true e = sym (in_block v e)
      by v false e = refl

  listed : (v : ℕ) → binds (rows_of (dependents x f)) v ≡ holds set v
  unfolding dependents
  listed v = those-binds (depends x f) (block x f) v ∙ by (depends x f v) refl ∙ sym (d.is v)
    where
      by : (m : Bool) → depends x f v ≡ m → (binds (block x f) v && m) ≡ m
      by true e = ap (λ (b : Bool). b && true) (in_block v e)
      by false e = never (binds (block x f) v)
        where
          never : (b : Bool) → (b && false) ≡ false
          never true = refl
          never false = refl

  -- the lowest member of the set is the list's lowest; a number above all that are used stands for none
  module _ {r : ℕ} (l : IsLowest set r) where
    pub lowest-dependents : r ≤ 1024 → r ≡ lowest_of (dependents x f)
    lowest-dependents h =
        let size = d.words in
        lowest_is (dependents x f) r (listed r ∙ l.is_in (omega (arith, h, size))) (λ v k. listed v ∙ l.none_below v k)

    pub no-dependents : 1025 ≤ r → 0 ≡ lowest_of (dependents x f)
    unfolding dependents lowest_of
    no-dependents h = sym (ap lowest_of (no_those (depends x f) (λ v. by v (depends x f v) refl) (block x f)))
      where
        by : (v : ℕ) (m : Bool) → depends x f v ≡ m → m ≡ false
        by v true e =
            let near = few v e in
            sym (d.is v ∙ e) ∙ l.none_below v (omega (arith, near, h))
        by v false e = refl
