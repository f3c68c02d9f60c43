-- What a table has for operators, by their rows: the number of children and the hash.
-- Assumes nothing.
use Rattle.std.specs.Prelude.{◌≡◌, List, ℕ, suc, ◌+◌, get_or}
use Rattle.formula.specs.Tree.{node, count}
use Rattle.buckets.specs.Halves.{known_of}
use Rattle.buckets.specs.Hashes.{hash}
use Rattle.tidy_rules.specs.Segments.{Segment, gone, literal, operator, Segments, none, ◌◂◌, size, live}

-- an operator's number of children and its hash, in one number
unfoldable pub Says : ℕ → Segment → Type 0
Says w (gone rs) = Unit {0}
Says w (literal s v) = Unit {0}
Says w (operator o ks) = w ≡ known_of (count (live ks)) (hash (node o (live ks)))

-- the table has this number for every operator in the segments from a row on
unfoldable mutual
  pub Told : List ℕ → ℕ → Segment → Type 0
  Told K r (gone rs) = Unit {0}
  Told K r (literal s v) = Unit {0}
  Told K r (operator o ks) = Says (get_or K r 0) (operator o ks) × AllTold K (suc r) ks

  pub AllTold : List ℕ → ℕ → Segments → Type 0
  AllTold K r none = Unit {0}
  AllTold K r (x ◂ bs) = Told K r x × AllTold K (r + size x) bs
