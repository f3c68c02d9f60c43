-- Numbers of 32 bits with a sign, and their negation.
-- Assumes nothing.
use mathlib.Core.Path.{◌≡◌, refl, sym, ap, ◌∙◌, subst}
use mathlib.Core.Bool.{Bool, true, false, cond}
use Prim.Native.Nat.{ℕ, zero, suc, ◌≤◌, ◌<◌}
use native.Mathlib.Omega.{arith}
use lib.Dec.{ltb}
use lib.IntN.{ℤ, pos, negsuc, neg_ℤ, ◌-ℤ◌, +ℤ_idl}
use borrow.Author.Tests.{ltb-false, lt-ltb, le-ltb}
use mir.Syntax.{w32}
use mir.Val.{SFits, to_z, of_z}
use mir.ValLaws.{to_z-of_z}
use Rattle.std.specs.Prelude.{Result, Ok, Err}
use Rattle.std.specs.Result.{OkIff, result_unwrap_or}
use Rattle.words.specs.Literals.{minus, literal}

-- literal_of

pub literal_large : {m : ℕ} → 2147483647 < m → pos 2147483647 ≡ literal false m
unfolding literal
literal_large {m} l = ap (λ t. pos (cond t 2147483647 m)) (sym (lt-ltb 2147483647 m l))

pub literal_small : {m : ℕ} → m ≤ 2147483647 → pos m ≡ literal false m
unfolding literal
literal_small {m} l = ap (λ t. pos (cond t 2147483647 m)) (sym (le-ltb 2147483647 m l))

pub too_large : {m : ℕ} → (SFits w32 (pos m) → ⊥) → 2147483647 < m
too_large {m} none = let k : (m < 2147483648 → ⊥) = λ l. none (record { sfits = l }) in omega (arith, k)

-- the magnitude if it fits, else the largest number
pub literal-clamped : {E : Type 0} (r : Result ℤ E) (m : ℕ) → OkIff r (SFits w32 (pos m)) (pos m) → result_unwrap_or r (pos 2147483647) ≡ literal false m
literal-clamped (Ok y) m h = let s = h.0.sfits in h.1 ∙ literal_small (omega (arith, s))
literal-clamped (Err e) m h = literal_large (too_large h)

pub minus_large : (m : ℕ) → 2147483647 < m → negsuc 2147483647 ≡ minus m
unfolding minus
minus_large zero l = absurd (omega arith)
minus_large (suc n) l = ap negsuc (go (ltb 2147483647 n) refl)
  where
    go : (t : Bool) → ltb 2147483647 n ≡ t → ◌≡◌ {A = ℕ} 2147483647 (cond t 2147483647 n)
    go true e = refl
    go false e = omega (arith, ltb-false 2147483647 n e)

minus_small : (m : ℕ) → m ≤ 2147483647 → neg_ℤ (pos m) ≡ minus m
unfolding minus
minus_small zero l = refl
minus_small (suc n) l = ap (λ t. negsuc (cond t 2147483647 n)) (sym (le-ltb 2147483647 n (omega arith)))

pub literal-fits : (m : ℕ) → SFits w32 (minus m)
unfolding minus
literal-fits zero = record { sfits = omega arith }
literal-fits (suc n) = record { sfits = go (ltb 2147483647 n) refl }
  where
    go : (t : Bool) → ltb 2147483647 n ≡ t → cond t 2147483647 n < 2147483648
    go true e = omega arith
    go false e = omega (arith, ltb-false 2147483647 n e)

-- the negation of a magnitude that fits
pub minus_read : (n : ℕ) {m : ℤ} → SFits w32 (pos n) → m ≡ pos n → to_z w32 (of_z w32 (pos 0 -ℤ to_z w32 (of_z w32 m))) ≡ minus n
minus_read n {m} f e =
    let s = f.sfits in
    let is : pos 0 -ℤ to_z w32 (of_z w32 m) ≡ minus n
    = ap (λ y. pos 0 -ℤ y) (ap (λ y. to_z w32 (of_z w32 y)) e ∙ to_z-of_z w32 (pos n) f) ∙ +ℤ_idl (neg_ℤ (pos n)) ∙ minus_small n (omega (arith, s)) in
    to_z-of_z w32 (pos 0 -ℤ to_z w32 (of_z w32 m)) (subst (SFits w32) (sym is) (literal-fits n)) ∙ is

-- a literal that is passed on is read back as it is
pub literal_passed : (s : Bool) (m : ℕ) {z : ℤ} → z ≡ literal s m → to_z w32 (of_z w32 z) ≡ literal s m
unfolding literal
literal_passed s m {z} e = to_z-of_z w32 z (subst (SFits w32) (sym e) (both-fit s)) ∙ e
  where
    small : (t : Bool) → ltb 2147483647 m ≡ t → cond t 2147483647 m < 2147483648
    small true e = omega arith
    small false e = omega (arith, ltb-false 2147483647 m e)

    both-fit : (s : Bool) → SFits w32 (literal s m)
    both-fit true = literal-fits m
    both-fit false = record { sfits = small (ltb 2147483647 m) refl }
