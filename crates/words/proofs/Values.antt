-- The variable and the kind that a number's literal says.
-- Assumes nothing.
use mathlib.Core.Logic.{◌⊎◌, inl, inr}
use mathlib.Core.Path.{◌≡◌, refl, sym, ap, ◌∙◌}
use mathlib.Core.Bool.{Bool, true, false, cond}
use Prim.Native.Nat.{ℕ, zero, suc, ◌≤◌, ◌<◌}
use native.Mathlib.Omega.{arith}
use lib.Dec.{eqb, ltb}
use borrow.Author.Tests.{ltb-true, ltb-false, lt-ltb}
use Rattle.sheet.specs.Sheet.{literal_kind}
use Rattle.sheet.specs.Qdimacs.{Token, is_plain, absolute}
use Rattle.words.specs.Numbers.{Capped, largest}
use Rattle.words.specs.Literals.{clamped, literal, variable, kind}
use Rattle.words.specs.Literals as literals
use Rattle.words.proofs.Classes.{View, view_other, view_exists, view_for_all, view_p, view_cnf, view_zero, view_plain, view_minus}

-- the same number, or both above every variable number
abbrev pub Near : ℕ → ℕ → Type 0
Near x a = (x ≡ a) ⊎ ((1024 < x) × (1024 < a))

near_clamped : (m v : ℕ) → Capped largest m v → Near (clamped v) m
near_clamped m v c = go (ltb 2147483647 v) refl c
  where
    go : (t : Bool) → ltb 2147483647 v ≡ t → Capped largest m v → Near (cond t 2147483647 v) m
    go true e (inl q) = inr (omega arith, omega (arith, ltb-true 2147483647 v e))
    go true e (inr q) = inr (omega arith, omega (arith, q.0))
    go false e (inl q) = inl q
    go false e (inr q) = absurd (omega (arith, ltb-false 2147483647 v e, q.1))

near_suc : (x a : ℕ) → Near x a → Near (suc x) (suc a)
near_suc x a (inl e) = inl (ap suc e)
near_suc x a (inr e) = inr (omega (arith, e.0), omega (arith, e.1))

before_capped : (n u : ℕ) → Capped largest (suc n) (suc u) → Near (clamped u) n
before_capped n u c = go (ltb 2147483647 u) refl c
  where
    go : (t : Bool) → ltb 2147483647 u ≡ t → Capped largest (suc n) (suc u) → Near (cond t 2147483647 u) n
    go true e (inl q) = inr (omega arith, omega (arith, ltb-true 2147483647 u e))
    go true e (inr q) = inr (omega arith, omega (arith, q.0))
    go false e (inl q) = inl (omega arith)
    go false e (inr q) = absurd (omega (arith, ltb-false 2147483647 u e, q.1))

pub near : {k m : ℕ} {t : Token} → View k t m → 6 ≤ k → (v : ℕ) → Capped largest m v → Near (variable (literal (eqb k 8) v)) (absolute t)
unfolding literal literals.minus
near view_other l v c = absurd (omega arith)
near view_exists l v c = absurd (omega arith)
near view_for_all l v c = absurd (omega arith)
near view_p l v c = absurd (omega arith)
near view_cnf l v c = absurd (omega arith)
near view_zero l v c = near_clamped 0 v c
near (view_plain {n = n}) l v c = near_clamped (suc n) v c
near (view_minus {n = n}) l zero (inl e) = absurd (omega arith)
near (view_minus {n = n}) l zero (inr e) = absurd (omega (arith, e.1))
near (view_minus {n = n}) l (suc u) c = near_suc (clamped u) n (before_capped n u c)

pub near_above : (n x a : ℕ) → n ≤ 1024 → Near x a → ltb n x ≡ ltb n a
near_above n x a l (inl e) = ap (ltb n) e
near_above n x a l (inr e) = lt-ltb n x (omega (arith, e.0)) ∙ sym (lt-ltb n a (omega (arith, e.1)))

pub near_same : (x a : ℕ) → a ≤ 1024 → Near x a → x ≡ a
near_same x a l (inl e) = e
near_same x a l (inr e) = absurd (omega (arith, e.1))

pub literal_kind_is : {k m : ℕ} {t : Token} → View k t m → 6 ≤ k → (v : ℕ) → Capped largest m v → kind (literal (eqb k 8) v) ≡ literal_kind (is_plain t)
unfolding literal literals.minus
literal_kind_is view_other l v c = absurd (omega arith)
literal_kind_is view_exists l v c = absurd (omega arith)
literal_kind_is view_for_all l v c = absurd (omega arith)
literal_kind_is view_p l v c = absurd (omega arith)
literal_kind_is view_cnf l v c = absurd (omega arith)
literal_kind_is view_zero l v c = refl
literal_kind_is view_plain l v c = refl
literal_kind_is (view_minus {n = n}) l zero (inl e) = absurd (omega arith)
literal_kind_is (view_minus {n = n}) l zero (inr e) = absurd (omega (arith, e.1))
literal_kind_is (view_minus {n = n}) l (suc u) c = refl
