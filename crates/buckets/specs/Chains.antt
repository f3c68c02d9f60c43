-- Chains of members in one bucket: which member comes next, and when tables have it.
-- Assumes nothing.
use Rattle.std.specs.Prelude.{◌≡◌, cond, List, ◌⊎◌, ℕ, zero, suc, ◌/◌, ◌%◌, ◌≤◌, ◌<◌, eqb, length, get_or, Option, Some, None}

-- a link, to a member by its number or to none at a chain's end, as a table's entry: 0 at the end, else one more than the member's number
abbrev pub entry_of : Option ℕ → ℕ
entry_of None = 0
entry_of (Some i) = suc i

-- how many buckets there are
abbrev pub BUCKETS : ℕ
BUCKETS = 1024

-- the bucket that a member falls into: the lowest three bits of its hash are no part of it
abbrev pub bucket : ℕ → ℕ
bucket m = m / 8 % BUCKETS

-- the last of the first n members that is in bucket k, the end if none is
unfoldable pub last : List ℕ → ℕ → ℕ → Option ℕ
last M k zero = None
last M k (suc n) = cond (eqb (bucket (get_or M n 0)) k) (Some n) (last M k n)

-- an entry of a table of heads is the last member of its bucket, if the bucket has one
abbrev pub Head : List ℕ → ℕ → ℕ → ℕ → Type 0
Head M k n h = (last M k n ≡ None) ⊎ (entry_of (last M k n) ≡ h)

-- tables that are long enough for n members
pub record Room (H L M : List ℕ) (n : ℕ) : Type 0 where
  pub all_heads : length H ≡ BUCKETS
  pub links_fit : n ≤ length L
  pub members_fit : n ≤ length M
  pub countable : n < 65536

-- Tables of heads and links for the first n members: a head is right wherever its bucket has a member, and a link wherever there is a
-- member. Other entries may hold anything.
pub record Linked (H L M : List ℕ) (n : ℕ) : Type 0 where
  pub heads : (k : ℕ) → k < BUCKETS → Head M k n (get_or H k 0)
  pub links : (i : ℕ) → i < n → get_or L i 0 ≡ entry_of (last M (bucket (get_or M i 0)) i)

-- a walk along a chain has come to a link: the members of the bucket that it has passed, those with higher numbers, don't pass the test
pub record Passed (M : List ℕ) (n k : ℕ) (Test : ℕ → Type 0) (l : Option ℕ) : Type 0 where
  pub within : entry_of l ≤ n
  pub here : (i : ℕ) → l ≡ Some i → bucket (get_or M i 0) ≡ k
  pub failed : (j : ℕ) → entry_of l ≤ j → j < n → bucket (get_or M j 0) ≡ k → Test j → ⊥
