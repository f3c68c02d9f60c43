-- Numbers in bytes: number and digits are inverse to one another, and bounded by the width.
-- Assumes nothing.
use mathlib.Core.Path.{◌≡◌, refl, ap, ap₂, ◌∙◌, subst}
use mathlib.Core.List.{[], ◌∷◌}
use Prim.Native.Nat.{ℕ, zero, suc, ◌+◌, ◌*◌, ◌/◌, ◌%◌, ◌^◌, ◌<◌}
use native.Mathlib.Nat.{pow-suc}
use native.Mathlib.Omega.{arith}
use lib.ListN.{length}
use Rattle.sheet.specs.Format.{Bytes, AllBytes, number, digits}

pub length_digits : (w n : ℕ) → length (digits w n) ≡ w
unfolding digits
length_digits zero n = refl
length_digits (suc w) n = ap suc (length_digits w (n / 256))

pub digits_bytes : (w n : ℕ) → AllBytes (digits w n)
unfolding digits
digits_bytes zero n = tt
digits_bytes (suc w) n = (omega arith, digits_bytes w (n / 256))

pub number_digits : (w n : ℕ) → n < 256 ^ w → number (digits w n) ≡ n
unfolding digits number
number_digits zero n h = omega arith
number_digits (suc w) n h = rw (number_digits w (n / 256) (omega (arith, pow-suc 256 w))) (omega arith)

pub number_bound : (bs : Bytes) → AllBytes bs → number bs < 256 ^ length bs
unfolding number
number_bound [] h = omega arith
number_bound (b ∷ bs) h = let k = number_bound bs h.1 in omega (arith, pow-suc 256 (length bs))

pub digits_number : (bs : Bytes) → AllBytes bs → digits (length bs) (number bs) ≡ bs
unfolding digits number
digits_number [] h = refl
digits_number (b ∷ bs) h = ap₂ ◌∷◌ low (ap (digits (length bs)) high ∙ digits_number bs h.1)
  where
    low : (b + 256 * number bs) % 256 ≡ b
    low = omega arith

    high : (b + 256 * number bs) / 256 ≡ number bs
    high = omega arith

-- the same at a width that is the length
pub digits-number_at : (w : ℕ) (bs : Bytes) → length bs ≡ w → AllBytes bs → digits w (number bs) ≡ bs
digits-number_at w bs e h = subst (λ n. digits n (number bs) ≡ bs) e (digits_number bs h)
