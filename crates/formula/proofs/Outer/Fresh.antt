-- The copies' new numbers: unused, no number twice; renaming to them and back.
-- Assumes nothing.
use mathlib.Core.Path.{◌≡◌, refl, sym, ◌∙◌, ap, ap₂}
use mathlib.Core.Bool.{Bool, true, false, not, ◌&&◌, ◌||◌, cond, true≢false, false≢true, and-false}
use mathlib.Core.List.{List, [], ◌∷◌, map}
use mathlib.Core.Logic.{⊎_elim}
use Prim.Native.Nat.{ℕ, zero, suc, ◌+◌, ◌≤◌, ◌<◌}
use native.Mathlib.Omega.{arith}
use lib.Dec.{eqb, ltb}
use lib.ListN.{length, take}
use borrow.Author.Tests.{eqb-true, eqb-false, eq-eqb, ne_eqb, not-true, ltb-true, ltb-false}
use Rattle.formula.specs.Tree.{Binding, Prefix, binds, distinct}
use Rattle.formula.specs.Truth.{Assignment}
use Rattle.formula.specs.Solve.{those}
use Rattle.formula.specs.Outer.{unused, renamed, existential}
use Rattle.formula.proofs.Booleans.{and_parts, or_parts, or_cases, or_later, eqb_comm, by_cases}

-- the exists rows of a list of numbers; what they bind is what the list holds
abbrev pub rows_of : List ℕ → Prefix
rows_of ns = map existential ns

-- unused numbers

pub unused-above : (p : Prefix) (n i : ℕ) (v : ℕ) → binds (rows_of (unused p n i)) v ≡ true → i ≤ v
unfolding unused binds
unused-above p zero i v h = absurd (false≢true h)
unused-above p (suc n) i v h = by (binds p i) h (unused-above p n (suc i) v)
  where
    by : (m : Bool) → binds (rows_of (cond m (unused p n (suc i)) (i ∷ unused p n (suc i)))) v ≡ true
        → (binds (rows_of (unused p n (suc i))) v ≡ true → suc i ≤ v) → i ≤ v
    by true k rest = let r = rest k in omega arith
    by false k rest =
        ⊎_elim (λ e. let r = eqb-true i v e in omega (arith, r)) (λ e. let r = rest e in omega (arith, r))
        (or_cases (eqb i v) (binds (rows_of (unused p n (suc i))) v) k)

pub unused-below : (p : Prefix) (n i : ℕ) (v : ℕ) → binds (rows_of (unused p n i)) v ≡ true → v < i + n
unfolding unused binds
unused-below p zero i v h = absurd (false≢true h)
unused-below p (suc n) i v h = by (binds p i) h (unused-below p n (suc i) v)
  where
    by : (m : Bool) → binds (rows_of (cond m (unused p n (suc i)) (i ∷ unused p n (suc i)))) v ≡ true
        → (binds (rows_of (unused p n (suc i))) v ≡ true → v < suc i + n) → v < i + suc n
    by true k rest = let r = rest k in omega arith
    by false k rest =
        ⊎_elim (λ e. let r = eqb-true i v e in omega (arith, r)) (λ e. let r = rest e in omega (arith, r))
        (or_cases (eqb i v) (binds (rows_of (unused p n (suc i))) v) k)

pub unused-unbound : (p : Prefix) (n i : ℕ) (v : ℕ) → binds (rows_of (unused p n i)) v ≡ true → binds p v ≡ false
unfolding unused binds
unused-unbound p zero i v h = absurd (false≢true h)
unused-unbound p (suc n) i v h = by (binds p i) refl h (unused-unbound p n (suc i) v)
  where
    by : (m : Bool) → binds p i ≡ m → binds (rows_of (cond m (unused p n (suc i)) (i ∷ unused p n (suc i)))) v ≡ true
        → (binds (rows_of (unused p n (suc i))) v ≡ true → binds p v ≡ false) → binds p v ≡ false
    by true e k rest = rest k
    by false e k rest =
        ⊎_elim (λ q. ap (binds p) (sym (eqb-true i v q)) ∙ e) rest (or_cases (eqb i v) (binds (rows_of (unused p n (suc i))) v) k)

pub unused-distinct : (p : Prefix) (n i : ℕ) → distinct (rows_of (unused p n i)) ≡ true
unfolding unused distinct
unused-distinct p zero i = refl
unused-distinct p (suc n) i = by (binds p i) (unused-distinct p n (suc i))
  where
    none : (b : Bool) → binds (rows_of (unused p n (suc i))) i ≡ b → b ≡ false
    none true e = let r = unused-above p n (suc i) i e in absurd (omega arith)
    none false e = refl

    by : (m : Bool) → distinct (rows_of (unused p n (suc i))) ≡ true
        → distinct (rows_of (cond m (unused p n (suc i)) (i ∷ unused p n (suc i)))) ≡ true
    by true rest = rest
    by false rest = ap₂ (λ (a b : Bool). not a && b) (none (binds (rows_of (unused p n (suc i))) i) refl) rest

-- of the numbers from 1 to the highest, those that a prefix without a number twice doesn't bind

unused-past : (z : Binding) (p : Prefix) (n i : ℕ) → z.variable < i → unused (z ∷ p) n i ≡ unused p n i
unfolding unused binds
unused-past z p zero i h = refl
unused-past z p (suc n) i h =
    ap₂ (λ (m : Bool) (ns : List ℕ). cond m ns (i ∷ ns)) (ap (λ (m : Bool). m || binds p i) (ne_eqb z.variable i (λ e. omega (arith, e))))
    (unused-past z p n (suc i) (omega arith))

different : (v i : ℕ) → i ≤ v → (v ≡ i → ⊥) → suc i ≤ v
different v i l n =
    by_cases (ltb i v)
    (λ e. ltb-true i v e)
    (λ e. absurd (n (let k = ltb-false i v e in omega (arith, k))))

unused-none : (n i : ℕ) → length (unused [] n i) + 0 ≡ n
unfolding unused binds
unused-none zero i = refl
unused-none (suc n) i = let r = unused-none n (suc i) in omega arith

unused_less : (z : Binding) (p : Prefix) (n i : ℕ) → i ≤ z.variable → z.variable < i + n → binds p z.variable ≡ false
    → suc (length (unused (z ∷ p) n i)) ≡ length (unused p n i)
unfolding unused binds
unused_less z p zero i l h f = absurd (omega arith)
unused_less z p (suc n) i l h f = by (eqb z.variable i) refl (binds p i) refl (λ k. unused_less z p n (suc i) k (omega arith) f)
  where
    by : (m : Bool) → eqb z.variable i ≡ m → (k : Bool) → binds p i ≡ k
        → (suc i ≤ z.variable → suc (length (unused (z ∷ p) n (suc i))) ≡ length (unused p n (suc i)))
        → suc (length (cond (m || k) (unused (z ∷ p) n (suc i)) (i ∷ unused (z ∷ p) n (suc i)))) ≡
        length (cond k (unused p n (suc i)) (i ∷ unused p n (suc i)))
    by true e true q rest = absurd (true≢false (sym q ∙ ap (binds p) (sym (eqb-true z.variable i e)) ∙ f))
    by true e false q rest = let r = eqb-true z.variable i e in ap (λ (ns : List ℕ). suc (length ns)) (unused-past z p n (suc i) (omega arith))
    by false e true q rest = let r = eqb-false z.variable i e in rest (different z.variable i l r)
    by false e false q rest = let r = eqb-false z.variable i e in ap suc (rest (different z.variable i l r))

pub unused_many : (highest : ℕ) (p : Prefix) → distinct p ≡ true → ((v : ℕ) → binds p v ≡ true → (1 ≤ v) × (v ≤ highest))
    → length (unused p highest 1) + length p ≡ highest
unfolding binds distinct
unused_many highest [] d h = unused-none highest 1
unused_many highest (z ∷ p) d h =
    let parts = and_parts (not (binds p z.variable)) (distinct p) d in
    let own = h z.variable (ap (λ (m : Bool). m || binds p z.variable) (eq-eqb z.variable z.variable refl)) in
    let rest = unused_many highest p parts.1 (λ v k. h v (or_later (eqb z.variable v) k)) in
    let less = unused_less z p highest 1 own.0 (omega (arith, own.1)) (not-true (binds p z.variable) parts.0) in
    omega (arith, rest, less)

-- as many as are taken

pub take-binds : (k : ℕ) (ns : List ℕ) (v : ℕ) → binds (rows_of (take k ns)) v ≡ true → binds (rows_of ns) v ≡ true
unfolding binds
take-binds zero ns v h = absurd (false≢true h)
take-binds (suc k) [] v h = absurd (false≢true h)
take-binds (suc k) (n ∷ ns) v h =
    ⊎_elim (λ e. ap (λ (m : Bool). m || binds (rows_of ns) v) e) (λ e. or_later (eqb n v) (take-binds k ns v e))
    (or_cases (eqb n v) (binds (rows_of (take k ns)) v) h)

pub take-distinct : (k : ℕ) (ns : List ℕ) → distinct (rows_of ns) ≡ true → distinct (rows_of (take k ns)) ≡ true
unfolding distinct
take-distinct zero ns h = refl
take-distinct (suc k) [] h = refl
take-distinct (suc k) (n ∷ ns) h =
    let parts = and_parts (not (binds (rows_of ns) n)) (distinct (rows_of ns)) h in
    ap₂ (λ (a b : Bool). not a && b) (none (binds (rows_of (take k ns)) n) refl (not-true (binds (rows_of ns) n) parts.0))
    (take-distinct k ns parts.1)
  where
    none : (b : Bool) → binds (rows_of (take k ns)) n ≡ b → binds (rows_of ns) n ≡ false → b ≡ false
    none true e f = absurd (true≢false (sym (take-binds k ns n e) ∙ f))
    none false e f = refl

-- renaming

pub renamed_other : (ys ns : List ℕ) (v : ℕ) → binds (rows_of ys) v ≡ false → renamed ys ns v ≡ v
unfolding renamed binds
renamed_other [] ns v h = refl
renamed_other (y ∷ ys) [] v h = refl
renamed_other (y ∷ ys) (n ∷ ns) v h =
    let parts = or_parts (eqb y v) (binds (rows_of ys) v) h in
    ap (λ (m : Bool). cond m n (renamed ys ns v)) (eqb_comm v y ∙ parts.0) ∙ renamed_other ys ns v parts.1

pub renamed-new : (ys ns : List ℕ) (v : ℕ) → length ys ≤ length ns → binds (rows_of ys) v ≡ true
    → binds (rows_of ns) (renamed ys ns v) ≡ true
unfolding renamed binds
renamed-new [] ns v l h = absurd (false≢true h)
renamed-new (y ∷ ys) [] v l h = absurd (omega arith)
renamed-new (y ∷ ys) (n ∷ ns) v l h = by (eqb v y) refl (renamed-new ys ns v (omega arith))
  where
    by : (m : Bool) → eqb v y ≡ m → (binds (rows_of ys) v ≡ true → binds (rows_of ns) (renamed ys ns v) ≡ true)
        → (eqb n (cond m n (renamed ys ns v)) || binds (rows_of ns) (cond m n (renamed ys ns v))) ≡ true
    by true e rest = ap (λ (m : Bool). m || binds (rows_of ns) n) (eq-eqb n n refl)
    by false e rest = or_later (eqb n (renamed ys ns v)) (rest (other h))
      where
        other : (eqb y v || binds (rows_of ys) v) ≡ true → binds (rows_of ys) v ≡ true
        other k = sym (ap (λ (m : Bool). m || binds (rows_of ys) v) (eqb_comm y v ∙ e)) ∙ k

-- the assignment that has at each new number the value of e at the old one
unfoldable pub placed : List ℕ → List ℕ → Assignment → Assignment → Assignment
placed [] ns e base v = base v
placed (y ∷ ys) [] e base v = base v
placed (y ∷ ys) (n ∷ ns) e base v = cond (eqb v n) (e y) (placed ys ns e base v)

pub placed_other : (ys ns : List ℕ) (e base : Assignment) (v : ℕ) → binds (rows_of ns) v ≡ false → placed ys ns e base v ≡ base v
unfolding placed binds
placed_other [] ns e base v h = refl
placed_other (y ∷ ys) [] e base v h = refl
placed_other (y ∷ ys) (n ∷ ns) e base v h =
    let parts = or_parts (eqb n v) (binds (rows_of ns) v) h in
    ap (λ (m : Bool). cond m (e y) (placed ys ns e base v)) (eqb_comm v n ∙ parts.0) ∙ placed_other ys ns e base v parts.1

pub placed_renamed : (ys ns : List ℕ) (e base : Assignment) (v : ℕ) → length ys ≤ length ns → distinct (rows_of ns) ≡ true
    → binds (rows_of ys) v ≡ true → placed ys ns e base (renamed ys ns v) ≡ e v
unfolding placed renamed binds distinct
placed_renamed [] ns e base v l d h = absurd (false≢true h)
placed_renamed (y ∷ ys) [] e base v l d h = absurd (omega arith)
placed_renamed (y ∷ ys) (n ∷ ns) e base v l d h =
    let parts = and_parts (not (binds (rows_of ns) n)) (distinct (rows_of ns)) d in
    by (eqb v y) refl (not-true (binds (rows_of ns) n) parts.0) (placed_renamed ys ns e base v (omega arith) parts.1)
  where
    by : (m : Bool) → eqb v y ≡ m → binds (rows_of ns) n ≡ false
        → (binds (rows_of ys) v ≡ true → placed ys ns e base (renamed ys ns v) ≡ e v)
        → cond (eqb (cond m n (renamed ys ns v)) n) (e y) (placed ys ns e base (cond m n (renamed ys ns v))) ≡ e v
    by true k f rest =
        ap (λ (m : Bool). cond m (e y) (placed ys ns e base n)) (eq-eqb n n refl) ∙ ap e (sym (eqb-true v y k))
    by false k f rest =
        ap (λ (m : Bool). cond m (e y) (placed ys ns e base (renamed ys ns v))) (ne_eqb (renamed ys ns v) n apart) ∙ rest listed
      where
        listed : binds (rows_of ys) v ≡ true
        listed = sym (ap (λ (m : Bool). m || binds (rows_of ys) v) (eqb_comm y v ∙ k)) ∙ h

        apart : renamed ys ns v ≡ n → ⊥
        apart q = true≢false (sym (renamed-new ys ns v (omega arith) listed) ∙ ap (binds (rows_of ns)) q ∙ f)

-- a set's members among the rows of a prefix
pub those-binds : (D : ℕ → Bool) (p : Prefix) (v : ℕ) → binds (rows_of (those D p)) v ≡ (binds p v && D v)
unfolding those binds
those-binds D [] v = refl
those-binds D (z ∷ p) v = by (eqb z.variable v) refl (D z.variable) refl (those-binds D p v)
  where
    by : (m : Bool) → eqb z.variable v ≡ m → (n : Bool) → D z.variable ≡ n → binds (rows_of (those D p)) v ≡ (binds p v && D v)
        → binds (rows_of (cond n (z.variable ∷ those D p) (those D p))) v ≡ ((m || binds p v) && D v)
    by true e true k rest =
        ap (λ (m : Bool). m || binds (rows_of (those D p)) v) e ∙ sym (ap D (sym (eqb-true z.variable v e)) ∙ k)
    by true e false k rest =
        let none : D v ≡ false = ap D (sym (eqb-true z.variable v e)) ∙ k in
        rest ∙ ap (λ (m : Bool). binds p v && m) none ∙ and-false (binds p v) ∙ sym none
    by false e true k rest = ap (λ (m : Bool). m || binds (rows_of (those D p)) v) e ∙ rest
    by false e false k rest = rest
