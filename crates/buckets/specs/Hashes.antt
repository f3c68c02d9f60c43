-- Hashes of trees: numbers of 16 bits. Equal trees have equal hashes; a literal, its opposite and the literals of the variables next
-- to it fall into one bucket.
-- Assumes nothing.
use Rattle.std.specs.Prelude.{Bool, true, false, ℕ, ◌+◌, ◌*◌, ◌%◌}
use Rattle.formula.specs.Tree.{Op, and, or, Tree, lit, node, Forest, ∅, ◌▸◌}

-- a literal's hash: the sign is its lowest bit
abbrev pub literal_mix : ℕ → ℕ → ℕ
literal_mix sign v = v % 32768 * 2 + sign

abbrev pub sign : Bool → ℕ
sign true = 1
sign false = 0

-- an operator's hash: its kind, then its children's hashes from left to right
abbrev pub operator_mix : Op → ℕ
operator_mix and = 5
operator_mix or = 6

abbrev pub mix : ℕ → ℕ → ℕ
mix h p = (h + p) * 42109 % 65536

unfoldable mutual
  pub hash : Tree → ℕ
  hash (lit s v) = literal_mix (sign s) v
  hash (node o ts) = hash_on (operator_mix o) ts

  pub hash_on : ℕ → Forest → ℕ
  hash_on h ∅ = h
  hash_on h (t ▸ ts) = hash_on (mix h (hash t)) ts
