-- Numbers of any number of digits as machine numbers: one that is too large becomes the largest.
-- Assumes nothing.
use Rattle.std.specs.Prelude.{◌⊎◌, ◌≡◌, ℕ, ◌≤◌}

-- v is n, or n is at least `most` and v is `most`
abbrev pub Capped : ℕ → ℕ → ℕ → Type 0
Capped most n v = (v ≡ n) ⊎ ((most ≤ n) × (v ≡ most))

-- the largest number of 64 bits
abbrev pub largest : ℕ
largest = 18446744073709551615
