-- Hashes: they have 16 bits, trees whose hashes differ differ, and a bucket is no variable's.
-- Assumes nothing.
use mathlib.Core.Path.{◌≡◌, sym, ap, ◌∙◌}
use mathlib.Core.Bool.{Bool, true, false}
use Prim.Native.Nat.{ℕ, ◌/◌, ◌%◌, ◌≤◌, ◌<◌}
use native.Mathlib.Omega.{arith}
use Rattle.formula.specs.Tree.{and, or, Tree, lit, node, Forest, ∅, ◌▸◌}
use Rattle.buckets.specs.Chains.{BUCKETS, bucket}
use Rattle.buckets.specs.Hashes.{literal_mix, sign, mix, hash, hash_on}

pub mix_few : (h p : ℕ) → mix h p < 65536
mix_few h p = omega arith

mutual
  unfolding hash

  pub hash_few : (t : Tree) → hash t < 65536
  hash_few (lit true v) = omega arith
  hash_few (lit false v) = omega arith
  hash_few (node and ts) = hash_on_few 5 ts (omega arith)
  hash_few (node or ts) = hash_on_few 6 ts (omega arith)

  hash_on_few : (h : ℕ) (ts : Forest) → h < 65536 → hash_on h ts < 65536
  hash_on_few h ∅ l = l
  hash_on_few h (t ▸ ts) l = hash_on_few (mix h (hash t)) ts (mix_few h (hash t))

pub hashes_differ : (t u : Tree) → (hash t ≡ hash u → ⊥) → t ≡ u → ⊥
hashes_differ t u d e = d (ap hash e)

-- the bucket of a literal
pub literal-bucket : (s : Bool) (v : ℕ) → bucket (literal_mix (sign s) v) ≡ v / 4 % BUCKETS
literal-bucket true v = omega arith
literal-bucket false v = omega arith

-- literals of four variables that follow one another share it, whatever their signs
pub bucket_shared : (s t : Bool) (v w : ℕ) → v / 4 ≡ w / 4 → bucket (hash (lit s v)) ≡ bucket (hash (lit t w))
unfolding hash
bucket_shared s t v w e = literal-bucket s v ∙ ap (λ x. x % BUCKETS) e ∙ sym (literal-bucket t w)

-- and those of n variables have n / 4 + 1 buckets at most, 65 at the narrow format and 257 at the wide one
pub few_buckets : (s : Bool) (n v : ℕ) → v ≤ n → bucket (hash (lit s v)) ≤ n / 4
unfolding hash
few_buckets s n v l = omega (arith, literal-bucket s v)
