-- Tables of hashes: each row's entry is the hash of the subtree that starts there.
-- Assumes nothing.
use Rattle.std.specs.Prelude.{◌≡◌, List, ℕ, zero, suc, ◌≤◌, ◌<◌, length, get_or}
use Rattle.buckets.specs.Hashes.{mix, hash}
use Rattle.sheet.specs.Format.{Bytes}
use Rattle.rows.specs.declared.Layout.{Layout}
use Rattle.subtrees.specs.Subtrees.{subtree_in}

-- a table that holds the hashes of the subtrees from row `from` on
pub record Hashed (s : Layout) (b : Bytes) (hashes : List ℕ) (from : ℕ) : Type 0 where
  pub room : s.nodes ≤ length hashes
  pub filled : (i : ℕ) → from ≤ i → i < s.nodes → get_or hashes i 0 ≡ hash (subtree_in s b i)

-- the hashes of k subtrees side by side from row i on, mixed into h by the tables; and that the tables have entries for these rows
unfoldable pub mixes : List ℕ → List ℕ → ℕ → ℕ → ℕ → ℕ
mixes ends hashes i zero h = h
mixes ends hashes i (suc k) h = mixes ends hashes (get_or ends i 0) k (mix h (get_or hashes i 0))

abbrev pub Mixes : List ℕ → List ℕ → ℕ → ℕ → Type 0
Mixes ends hashes i zero = Unit {0}
Mixes ends hashes i (suc k) = (i < length ends) × (i < length hashes) × Mixes ends hashes (get_or ends i 0) k
