-- Tables that have one value.
-- Assumes nothing.
use mathlib.Core.Path.{◌≡◌, refl}
use Prim.Native.Nat.{ℕ, zero, suc}
use lib.ListN.{get_or, replicate}

-- every entry is that value, past the end too
pub replicate_at : {A : Type 0} (a : A) (n x : ℕ) → get_or (replicate n a) x a ≡ a
replicate_at a zero x = refl
replicate_at a (suc n) zero = refl
replicate_at a (suc n) (suc x) = replicate_at a n x
