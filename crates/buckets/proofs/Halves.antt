-- Each half of a number is what it was made of.
-- Assumes nothing.
use mathlib.Core.Path.{◌≡◌}
use Prim.Native.Nat.{ℕ, ◌<◌}
use native.Mathlib.Omega.{arith}
use Rattle.buckets.specs.Halves.{member_of, row_of, known_of, children_of, hash_of}

pub row_made : (r p : ℕ) → p < 65536 → row_of (member_of r p) ≡ r
row_made r p l = omega arith

pub children-made : (n p : ℕ) → p < 65536 → children_of (known_of n p) ≡ n
children-made n p l = omega arith

-- of a member, and of what is told of an operator
pub hash-made : (r p : ℕ) → p < 65536 → hash_of (member_of r p) ≡ p
hash-made r p l = omega arith

pub hash_small : (x : ℕ) → hash_of x < 65536
hash_small x = omega arith
