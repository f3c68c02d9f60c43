-- Two numbers of 16 bits in one of 32, with a tree's hash in the lower half.
-- Assumes nothing.
use Rattle.std.specs.Prelude.{ℕ, ◌+◌, ◌*◌, ◌/◌, ◌%◌}

-- a member of the tables: a tree, by the row where it begins and its hash
abbrev pub member_of : ℕ → ℕ → ℕ
member_of row hash = row * 65536 + hash

abbrev pub row_of : ℕ → ℕ
row_of m = m / 65536

-- what a table holds for an operator: its number of children and its hash
abbrev pub known_of : ℕ → ℕ → ℕ
known_of children hash = children * 65536 + hash

abbrev pub children_of : ℕ → ℕ
children_of w = w / 65536

-- the hash in either
abbrev pub hash_of : ℕ → ℕ
hash_of x = x % 65536
