-- Sets of numbers in words of 64 digits: v is in the set if digit v % 64 of word v / 64 is 1.
-- Assumes nothing.
use Rattle.std.specs.Prelude.{◌≡◌, Bool, true, false, not, ◌&&◌, cond, List, ℕ, zero, suc, ◌*◌, ◌/◌, ◌%◌, ◌^◌, ◌≤◌, ◌<◌, eqb, length, get_or}

-- digit k of a word, the lowest first
unfoldable pub digit : ℕ → ℕ → Bool
digit w k = eqb (w / 2 ^ k % 2) 1

unfoldable pub holds : List ℕ → ℕ → Bool
holds ws v = digit (get_or ws (v / 64) 0) (v % 64)

-- how many of the n numbers from i on pass a test; and how many are in the set
unfoldable pub amount : (ℕ → Bool) → ℕ → ℕ → ℕ
amount P zero i = 0
amount P (suc n) i = cond (P i) (suc (amount P n (suc i))) (amount P n (suc i))

abbrev pub members : List ℕ → ℕ → ℕ → ℕ
members ws n i = amount (holds ws) n i

unfoldable pub size : List ℕ → ℕ
size ws = members ws (64 * length ws) 0

-- r is below n, passes a test, and no number below r does; or r is n, and none below n does
pub record IsFirst (P : ℕ → Bool) (n r : ℕ) : Type 0 where
  pub within : r ≤ n
  pub is_in : r < n → P r ≡ true
  pub none_below : (v : ℕ) → v < r → P v ≡ false

abbrev pub IsLowest : List ℕ → ℕ → Type 0
IsLowest ws r = IsFirst (holds ws) (64 * length ws) r

-- v is in two sets and not in a third
abbrev pub left_in : List ℕ → List ℕ → List ℕ → ℕ → Bool
left_in ws us ts v = holds ws v && holds us v && not (holds ts v)
