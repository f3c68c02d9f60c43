-- The depending variables in the order of the whole prefix, and the numbers that their copies get.
-- Assumes nothing.
use mathlib.Core.Path.{◌≡◌, refl, sym, ◌∙◌, ap, ap₂}
use mathlib.Core.Bool.{Bool, true, false, not, ◌&&◌, ◌||◌, cond, true≢false}
use mathlib.Core.List.{List, [], ◌∷◌, map}
use mathlib.Core.Logic.{⊎_elim}
use Prim.Native.Nat.{ℕ, ◌+◌, ◌≤◌, ◌<◌}
use native.Mathlib.Omega.{arith}
use lib.Dec.{eqb}
use lib.ListN.{length, take, set, length-set}
use lib.Seq.{get_or-set_same, get_or-set_other}
use borrow.Author.Tests.{eqb-true, eqb-false, eq-eqb, ne_eqb, not-true}
use Rattle.formula.specs.Tree.{same_op, exists, Binding, Prefix, Formula, binds, distinct}
use Rattle.formula.specs.Expand.{after, among, occurs, occurring, later}
use Rattle.formula.specs.Solve.{those}
use Rattle.formula.specs.Outer.{existentials, block, depends, dependents, unused, renamed}
use Rattle.formula.proofs.Booleans.{and_parts, or_cases, or_later, eqb_comm}
use Rattle.formula.proofs.Outer.Closure.{stage-binds}
use Rattle.formula.proofs.Outer.Fresh.{rows_of, unused_many, those-binds}
use Rattle.formula.proofs.Prefixes.{after_own}
use Rattle.sheet.specs.Format.{Format}
use Rattle.sheet.specs.Limits.{numbered}
use Rattle.sheet.proofs.Limits.{binds-numbered, binds_positive}
use Rattle.substitution.specs.Changes.{entry}
use Rattle.renaming.specs.Numbers.{renumbered}

-- some rows of a prefix, in its order
data Part : Prefix → Prefix → Type 0 where
  none : Part [] []
  kept : {z : Binding} {q p : Prefix} → Part q p → Part (z ∷ q) (z ∷ p)
  left : {z : Binding} {q p : Prefix} → Part q p → Part q (z ∷ p)

part_all : (p : Prefix) → Part p p
part_all [] = none
part_all (z ∷ p) = kept (part_all p)

part_again : {r q p : Prefix} → Part r q → Part q p → Part r p
part_again none none = none
part_again a (left b) = left (part_again a b)
part_again (kept a) (kept b) = kept (part_again a b)
part_again (left a) (kept b) = left (part_again a b)

part_after : (x : ℕ) (p : Prefix) → Part (after x p) p
unfolding after
part_after x [] = none
part_after x (z ∷ p) = by (eqb z.variable x) (part_after x p)
  where
    by : (m : Bool) → Part (after x p) p → Part (cond m p (after x p)) (z ∷ p)
    by true h = left (part_all p)
    by false h = left h

part_among : (P : ℕ → Bool) (p : Prefix) → Part (among P p) p
unfolding among
part_among P [] = none
part_among P (z ∷ p) = by (P z.variable) (part_among P p)
  where
    by : (m : Bool) → Part (among P p) p → Part (cond m (z ∷ among P p) (among P p)) (z ∷ p)
    by true h = kept h
    by false h = left h

part_existentials : (p : Prefix) → Part (existentials p) p
unfolding existentials
part_existentials [] = none
part_existentials (z ∷ p) = by (same_op exists z.quantifier) (part_existentials p)
  where
    by : (m : Bool) → Part (existentials p) p → Part (cond m (z ∷ existentials p) (existentials p)) (z ∷ p)
    by true h = kept h
    by false h = left h

part_binds : {q p : Prefix} → Part q p → (v : ℕ) → binds q v ≡ true → binds p v ≡ true
unfolding binds
part_binds none v h = h
part_binds (kept {z} {q} {p} a) v h =
    ⊎_elim (λ e. ap (λ (m : Bool). m || binds p v) e) (λ e. or_later (eqb z.variable v) (part_binds a v e)) (or_cases (eqb z.variable v) (binds q v) h)
part_binds (left {z} {q} {p} a) v h = or_later (eqb z.variable v) (part_binds a v h)

-- a set whose members in the prefix are in the part, in the order of either
part_those : (D : ℕ → Bool) {q p : Prefix} → Part q p → distinct p ≡ true → ((v : ℕ) → D v ≡ true → binds p v ≡ true → binds q v ≡ true)
    → those D q ≡ those D p
unfolding those distinct binds
part_those D none d h = refl
part_those D (kept {z} {q} {p} a) d h =
    let parts = and_parts (not (binds p z.variable)) (distinct p) d in
    ap (λ ys. cond (D z.variable) (z.variable ∷ ys) ys) (part_those D a parts.1 (inner (not-true (binds p z.variable) parts.0)))
  where
    inner : binds p z.variable ≡ false → (v : ℕ) → D v ≡ true → binds p v ≡ true → binds q v ≡ true
    inner f v m k =
        ⊎_elim (λ e. absurd (true≢false (sym k ∙ ap (binds p) (sym (eqb-true z.variable v e)) ∙ f))) (λ e. e)
        (or_cases (eqb z.variable v) (binds q v) (h v m (or_later (eqb z.variable v) k)))
part_those D (left {z} {q} {p} a) d h =
    let parts = and_parts (not (binds p z.variable)) (distinct p) d in
    part_those D a parts.1 (λ v m k. h v m (or_later (eqb z.variable v) k)) ∙
    by (D z.variable) refl (not-true (binds p z.variable) parts.0)
  where
    by : (m : Bool) → D z.variable ≡ m → binds p z.variable ≡ false → those D p ≡ cond m (z.variable ∷ those D p) (those D p)
    by true e f =
        absurd
        (true≢false
        (sym
        (part_binds a z.variable
        (h z.variable e (ap (λ (m : Bool). m || binds p z.variable) (eq-eqb z.variable z.variable refl)))) ∙
        f))
    by false e f = refl

those-distinct : (D : ℕ → Bool) (p : Prefix) → distinct p ≡ true → distinct (rows_of (those D p)) ≡ true
unfolding those distinct
those-distinct D [] d = refl
those-distinct D (z ∷ p) d =
    let parts = and_parts (not (binds p z.variable)) (distinct p) d in
    by (D z.variable) (not-true (binds p z.variable) parts.0) (those-distinct D p parts.1)
  where
    by : (m : Bool) → binds p z.variable ≡ false → distinct (rows_of (those D p)) ≡ true
        → distinct (rows_of (cond m (z.variable ∷ those D p) (those D p))) ≡ true
    by true f rest =
        ap₂ (λ (a b : Bool). not a && b) (those-binds D p z.variable ∙ ap (λ (m : Bool). m && D z.variable) f) rest
    by false f rest = rest

pub those_same : (D E : ℕ → Bool) → ((v : ℕ) → D v ≡ E v) → (p : Prefix) → those D p ≡ those E p
unfolding those
those_same D E h [] = refl
those_same D E h (z ∷ p) = ap₂ (λ (m : Bool) (ys : List ℕ). cond m (z.variable ∷ ys) ys) (h z.variable) (those_same D E h p)

-- the numbers of a sheet's prefix

pub numbers_left : (F : Format) (p : Prefix) → numbered F p ≡ true → distinct p ≡ true → length (unused p F.most_variables 1) + length p ≡ F.most_variables
numbers_left F p n d = unused_many F.most_variables p d (λ v k. (binds_positive F p v n k, binds-numbered F p v n k))

module _ (x : ℕ) (f : Formula) (d : distinct f.prefix ≡ true) where
  abbrev p : Prefix
  p = f.prefix

  abbrev D : ℕ → Bool
  D = depends x f

  depends_in : (v : ℕ) → D v ≡ true → binds (block x f) v ≡ true
  unfolding depends
  depends_in v h = stage-binds f.matrix (block x f) x (length (block x f)) v h

  part_block : Part (block x f) (after x p)
  unfolding block later occurring
  part_block = part_again (part_existentials (among (occurs f.matrix) (after x p))) (part_among (occurs f.matrix) (after x p))

  pub depends-bound : (v : ℕ) → D v ≡ true → binds p v ≡ true
  depends-bound v h = part_binds (part_again part_block (part_after x p)) v (depends_in v h)

  pub depends_other : (v : ℕ) → D v ≡ true → eqb v x ≡ false
  depends_other v h = ne_eqb v x (λ e. true≢false (sym (part_binds part_block v (depends_in v h)) ∙ ap (binds (after x p)) e ∙ after_own x p d))

  -- the whole prefix gives them in the same order
  pub dependents_whole : dependents x f ≡ those D p
  unfolding dependents
  dependents_whole = part_those D (part_again part_block (part_after x p)) d (λ v m k. depends_in v m)

  pub dependents-distinct : distinct (rows_of (dependents x f)) ≡ true
  dependents-distinct = ap (λ ys. distinct (rows_of ys)) dependents_whole ∙ those-distinct D p d

  pub dependents_are : (v : ℕ) → binds (rows_of (dependents x f)) v ≡ D v
  dependents_are v = ap (λ ys. binds (rows_of ys) v) dependents_whole ∙ those-binds D p v ∙ by (D v) refl
    where
      by : (m : Bool) → D v ≡ m → (binds p v && m) ≡ m
      by true e = ap (λ (b : Bool). b && true) (depends-bound v e)
      by false e = none_of (binds p v)
        where
          none_of : (b : Bool) → (b && false) ≡ false
          none_of true = refl
          none_of false = refl

-- tables

pub renumbered-take : (ys ns t : List ℕ) → renumbered ys ns t ≡ renumbered ys (take (length ys) ns) t
unfolding renumbered
renumbered-take [] ns t = refl
renumbered-take (y ∷ ys) [] t = refl
renumbered-take (y ∷ ys) (n ∷ ns) t = renumbered-take ys ns (set t y n)

pub length-renumbered : (ys ns t : List ℕ) → length (renumbered ys ns t) ≡ length t
unfolding renumbered
length-renumbered [] ns t = refl
length-renumbered (y ∷ ys) [] t = refl
length-renumbered (y ∷ ys) (n ∷ ns) t = length-renumbered ys ns (set t y n) ∙ length-set t y n

pub entry-renumbered : (ys ns t : List ℕ) → distinct (rows_of ys) ≡ true → length ys ≤ length ns
    → ((v : ℕ) → binds (rows_of ys) v ≡ true → v < length t)
    → (v : ℕ) → entry (renumbered ys ns t) v ≡ cond (binds (rows_of ys) v) (renamed ys ns v) (entry t v)
unfolding renumbered renamed binds distinct
entry-renumbered [] ns t d l h v = refl
entry-renumbered (y ∷ ys) [] t d l h v = absurd (omega arith)
entry-renumbered (y ∷ ys) (n ∷ ns) t d l h v =
    let parts = and_parts (not (binds (rows_of ys) y)) (distinct (rows_of ys)) d in
    entry-renumbered ys ns (set t y n) parts.1 (omega arith)
    (λ w k. omega (arith, length-set t y n, h w (or_later (eqb y w) k))) v ∙
    by (eqb v y) refl (not-true (binds (rows_of ys) y) parts.0)
  where
    by : (m : Bool) → eqb v y ≡ m → binds (rows_of ys) y ≡ false
        → cond (binds (rows_of ys) v) (renamed ys ns v) (entry (set t y n) v) ≡
        cond (eqb y v || binds (rows_of ys) v) (cond m n (renamed ys ns v)) (entry t v)
    by true e f =
        let same = eqb-true v y e in
        ap (λ (c : Bool). cond c (renamed ys ns v) (entry (set t y n) v)) (ap (binds (rows_of ys)) same ∙ f) ∙
        ap (λ w. entry (set t y n) w) same ∙
        get_or-set_same t y n y (h y (ap (λ (c : Bool). c || binds (rows_of ys) y) (eq-eqb y y refl))) ∙
        sym (ap (λ (c : Bool). cond (c || binds (rows_of ys) v) n (entry t v)) (eqb_comm y v ∙ e))
    by false e f =
        ap (λ w. cond (binds (rows_of ys) v) (renamed ys ns v) w) (get_or-set_other t y v n v (eqb-false v y e)) ∙
        sym (ap (λ (c : Bool). cond (c || binds (rows_of ys) v) (renamed ys ns v) (entry t v)) (eqb_comm y v ∙ e))

-- each variable's new number, in the order of the variables
pub renamed-all : (g : ℕ → ℕ) (ys ns : List ℕ) → distinct (rows_of ys) ≡ true → length ns ≡ length ys
    → ((v : ℕ) → binds (rows_of ys) v ≡ true → g v ≡ renamed ys ns v) → map g ys ≡ ns
unfolding renamed binds distinct
renamed-all g [] [] d l h = refl
renamed-all g [] (n ∷ ns) d l h = absurd (omega arith)
renamed-all g (y ∷ ys) [] d l h = absurd (omega arith)
renamed-all g (y ∷ ys) (n ∷ ns) d l h =
    let parts = and_parts (not (binds (rows_of ys) y)) (distinct (rows_of ys)) d in
    ap₂ ◌∷◌
    (h y (ap (λ (c : Bool). c || binds (rows_of ys) y) (eq-eqb y y refl)) ∙ ap (λ (c : Bool). cond c n (renamed ys ns y)) (eq-eqb y y refl))
    (renamed-all g ys ns parts.1 (omega arith) (rest (not-true (binds (rows_of ys) y) parts.0)))
  where
    rest : binds (rows_of ys) y ≡ false → (v : ℕ) → binds (rows_of ys) v ≡ true → g v ≡ renamed ys ns v
    rest f v k =
        h v (or_later (eqb y v) k) ∙
        ap (λ (c : Bool). cond c n (renamed ys ns v)) (ne_eqb v y (λ e. true≢false (sym k ∙ ap (binds (rows_of ys)) e ∙ f)))
