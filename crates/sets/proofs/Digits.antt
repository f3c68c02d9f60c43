-- The digits of a word: set, counted, and the lowest that is set.
-- Assumes nothing.
use mathlib.Core.Path.{◌≡◌, refl, sym, ◌∙◌, ap}
use mathlib.Core.Bool.{Bool, true, false, not, ◌&&◌, ◌||◌, true≢false, or_comm}
use Prim.Native.Nat.{ℕ, zero, suc, ◌+◌, ◌*◌, ◌/◌, ◌%◌, ◌^◌, ◌-◌, min, max, ◌<◌}
use native.Mathlib.Omega.{arith}
use native.Mathlib.Nat.{pow-suc}
use lib.Dec.{eqb}
use lib.Bits.{bit_and, bit_or, and_step, or_step, and_shr, or_shr}
use lib.Count.{ones_in, ones, ones_step, under, count_trailing_zeros}
use lib.Pow.{pow-lt, shr-shr}
use borrow.Author.Tests.{eqb-true, eq-eqb, ne_eqb}
use Rattle.sets.specs.Sets.{digit}

pub digit_first : (w : ℕ) → digit w 0 ≡ eqb (w % 2) 1
unfolding digit
digit_first w = ap (λ (n : ℕ). eqb (n % 2) 1) (whole w)
  where
    whole : (w : ℕ) → w / 1 ≡ w
    whole w = omega arith

pub digit-next : (w k : ℕ) → digit w (suc k) ≡ digit (w / 2) k
unfolding digit
digit-next w k = ap (λ (n : ℕ). eqb (n % 2) 1) (ap (λ (n : ℕ). w / 2 ^ n) (one k) ∙ sym (shr-shr w 1 k))
  where
    one : (k : ℕ) → suc k ≡ 1 + k
    one k = omega arith

pub digit-none : (k : ℕ) → digit 0 k ≡ false
digit-none zero = digit_first 0
digit-none (suc k) = digit-next 0 k ∙ digit-none k

pub digit_is : (w k : ℕ) → digit w k ≡ eqb (w / 2 ^ k % 2) 1
unfolding digit
digit_is w k = refl

-- a digit is 0 or 1
two_cases : (n : ℕ) → n < 2 → (P : ℕ → Type 0) → P 0 → P 1 → P n
two_cases zero h P p q = p
two_cases (suc zero) h P p q = q
two_cases (suc (suc n)) h P p q = absurd (omega arith)

even_or_odd : (n : ℕ) → n % 2 < 2
even_or_odd n = omega arith

digit_or : (a b k : ℕ) → digit (bit_or a b) k ≡ (digit a k || digit b k)
unfolding digit
digit_or a b k =
    ap (λ (n : ℕ). eqb (n % 2) 1) (or_shr a b k) ∙ ap (λ (n : ℕ). eqb n 1) (last (a / 2 ^ k) (b / 2 ^ k)) ∙
    either (a / 2 ^ k % 2) (even_or_odd (a / 2 ^ k)) (b / 2 ^ k % 2) (even_or_odd (b / 2 ^ k))
  where
    last : (c d : ℕ) → bit_or c d % 2 ≡ max (c % 2) (d % 2)
    last c d = let s = or_step c d in let l = even_or_odd c in let m = even_or_odd d in omega arith

    either : (m : ℕ) → m < 2 → (n : ℕ) → n < 2 → eqb (max m n) 1 ≡ (eqb m 1 || eqb n 1)
    either m h n k =
        two_cases m h (λ (m : ℕ). eqb (max m n) 1 ≡ (eqb m 1 || eqb n 1))
        (two_cases n k (λ (n : ℕ). eqb (max 0 n) 1 ≡ (eqb 0 1 || eqb n 1)) refl refl)
        (two_cases n k (λ (n : ℕ). eqb (max 1 n) 1 ≡ (eqb 1 1 || eqb n 1)) refl refl)

digit_power : (k j : ℕ) → digit (2 ^ k) j ≡ eqb j k
digit_power zero zero = digit_first 1
digit_power (suc k) zero = digit_first (2 ^ suc k) ∙ even k ∙ sym (ne_eqb 0 (suc k) (λ e. omega (arith, e)))
  where
    even : (k : ℕ) → eqb (2 ^ suc k % 2) 1 ≡ false
    even k = let p = pow-suc 2 k in ne_eqb (2 ^ suc k % 2) 1 (λ e. omega (arith, p, e))
digit_power zero (suc j) = digit-next 1 j ∙ digit-none j ∙ sym (ne_eqb (suc j) 0 (λ e. omega (arith, e)))
digit_power (suc k) (suc j) = digit-next (2 ^ suc k) j ∙ ap (λ (n : ℕ). digit n j) (half k) ∙ digit_power k j ∙ both k j
  where
    half : (k : ℕ) → 2 ^ suc k / 2 ≡ 2 ^ k
    half k = let p = pow-suc 2 k in omega arith

    both : (k j : ℕ) → eqb j k ≡ eqb (suc j) (suc k)
    both k j = by (eqb j k) refl
      where
        by : (m : Bool) → eqb j k ≡ m → m ≡ eqb (suc j) (suc k)
        by true e = sym (eq-eqb (suc j) (suc k) (ap suc (eqb-true j k e)))
        by false e = sym (ne_eqb (suc j) (suc k) (λ p. true≢false (sym (eq-eqb j k (omega (arith, p))) ∙ e)))

-- a digit set by OR
pub digit_set : (w k j : ℕ) → k < 64 → digit (bit_or w ((1 * 2 ^ k) % 18446744073709551616)) j ≡ (eqb j k || digit w j)
digit_set w k j h =
    ap (λ (n : ℕ). digit (bit_or w n) j) (small k h) ∙ digit_or w (2 ^ k) j ∙ ap (λ (m : Bool). digit w j || m) (digit_power k j) ∙
    or_comm (digit w j) (eqb j k)
  where
    small : (k : ℕ) → k < 64 → (1 * 2 ^ k) % 18446744073709551616 ≡ 2 ^ k
    small k h = let l = pow-lt {i = k} {j = 64} h in omega arith

pub digit_and : (a b k : ℕ) → digit (bit_and a b) k ≡ (digit a k && digit b k)
unfolding digit
digit_and a b k =
    ap (λ (n : ℕ). eqb (n % 2) 1) (and_shr a b k) ∙ ap (λ (n : ℕ). eqb n 1) (last (a / 2 ^ k) (b / 2 ^ k)) ∙
    both (a / 2 ^ k % 2) (even_or_odd (a / 2 ^ k)) (b / 2 ^ k % 2) (even_or_odd (b / 2 ^ k))
  where
    last : (c d : ℕ) → bit_and c d % 2 ≡ min (c % 2) (d % 2)
    last c d = let s = and_step c d in let l = even_or_odd c in let m = even_or_odd d in omega arith

    both : (m : ℕ) → m < 2 → (n : ℕ) → n < 2 → eqb (min m n) 1 ≡ (eqb m 1 && eqb n 1)
    both m h n k =
        two_cases m h (λ (m : ℕ). eqb (min m n) 1 ≡ (eqb m 1 && eqb n 1))
        (two_cases n k (λ (n : ℕ). eqb (min 0 n) 1 ≡ (eqb 0 1 && eqb n 1)) refl refl)
        (two_cases n k (λ (n : ℕ). eqb (min 1 n) 1 ≡ (eqb 1 1 && eqb n 1)) refl refl)

-- the other digits of a word of n digits
pub digit_not : (n w k : ℕ) → w < 2 ^ n → k < n → digit (2 ^ n - 1 - w) k ≡ not (digit w k)
digit_not zero w k h l = absurd (omega arith)
digit_not (suc n) w zero h l = digit_first (2 ^ suc n - 1 - w) ∙ by (w % 2) refl (even_or_odd w) ∙ ap not (sym (digit_first w))
  where
    by : (d : ℕ) → w % 2 ≡ d → d < 2 → eqb ((2 ^ suc n - 1 - w) % 2) 1 ≡ not (eqb (w % 2) 1)
    by zero e l =
        let p = pow-suc 2 n in
        eq-eqb ((2 ^ suc n - 1 - w) % 2) 1 (omega (arith, p, h, e)) ∙ ap not (sym (ne_eqb (w % 2) 1 (λ q. omega (arith, e, q))))
    by (suc zero) e l =
        let p = pow-suc 2 n in
        ne_eqb ((2 ^ suc n - 1 - w) % 2) 1 (λ q. omega (arith, p, h, e, q)) ∙ ap not (sym (eq-eqb (w % 2) 1 e))
    by (suc (suc d)) e l = absurd (omega arith)
digit_not (suc n) w (suc k) h l =
    let p = pow-suc 2 n in
    digit-next (2 ^ suc n - 1 - w) k ∙ ap (λ (m : ℕ). digit m k) (half p) ∙ digit_not n (w / 2) k (omega (arith, p, h)) (omega arith) ∙
    ap not (sym (digit-next w k))
  where
    half : 2 ^ suc n ≡ 2 ^ n * 2 → (2 ^ suc n - 1 - w) / 2 ≡ 2 ^ n - 1 - w / 2
    half p = omega (arith, p, h)

-- digits counted
pub ones_in_lem : (d w : ℕ) → w < 2 ^ d → ones_in d w ≡ ones w
unfolding ones_in ones
ones_in_lem zero w h = ap ones (sym (none w h))
  where
    none : (w : ℕ) → w < 1 → w ≡ 0
    none w h = omega arith
ones_in_lem (suc d) w h =
    let p = pow-suc 2 d in
    ap (λ (n : ℕ). w % 2 + n) (ones_in_lem d (w / 2) (omega arith)) ∙ sym (ones_step w)

-- the lowest that is set
pub record Trails (w n r : ℕ) : Type 0 where
  pub within : r < n
  pub is_set : digit w r ≡ true
  pub none_below : (k : ℕ) → k < r → digit w k ≡ false

trails_even : (n w r : ℕ) → w % 2 ≡ 0 → Trails (w / 2) n r → Trails w (suc n) (suc r)
trails_even n w r e t =
    record {
      within = omega (arith, t.within);
      is_set = digit-next w r ∙ t.is_set;
      none_below = below;
    }
  where
    below : (k : ℕ) → k < suc r → digit w k ≡ false
    below zero l = digit_first w ∙ ne_eqb (w % 2) 1 (λ q. omega (arith, e, q))
    below (suc k) l = digit-next w k ∙ t.none_below k (omega arith)

trails_odd : (n w : ℕ) → w % 2 ≡ 1 → Trails w (suc n) 0
trails_odd n w e =
    record { within = omega arith; is_set = digit_first w ∙ eq-eqb (w % 2) 1 e; none_below = λ k l. absurd (omega arith) }

pub trails : (n w : ℕ) → w < 2 ^ n → (w ≡ 0 → ⊥) → Trails w n (count_trailing_zeros n w)
unfolding count_trailing_zeros
trails zero w h z = absurd (z (omega arith))
trails (suc n) w h z =
    by (w % 2) refl (even_or_odd w)
    (λ e. let p = pow-suc 2 n in trails n (w / 2) (omega (arith, h, p)) (λ q. z (omega (arith, e, q))))
  where
    by : (d : ℕ) → w % 2 ≡ d → d < 2 → (w % 2 ≡ 0 → Trails (w / 2) n (count_trailing_zeros n (w / 2)))
        → Trails w (suc n) (under d (count_trailing_zeros n (w / 2)))
    by zero e l rest = trails_even n w (count_trailing_zeros n (w / 2)) e (rest e)
    by (suc zero) e l rest = trails_odd n w e
    by (suc (suc d)) e l rest = absurd (omega arith)
