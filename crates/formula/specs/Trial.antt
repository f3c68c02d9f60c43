-- Trial: the semantic tree, value 0 first ("Trial"; document 001, section 2.1).
-- Assumes nothing.
use Rattle.std.specs.Prelude.{Bool, true, false, cond, [], ◌∷◌, ℕ, ◌+◌}
use Rattle.std.specs.Bool.{beq}
use Rattle.formula.specs.Tree.{Quantifier, and, or, Prefix, Formula}
use Rattle.formula.specs.Truth.{Assignment, put, eval}

-- a verdict and the leaves tried
pub record Tried : Type 0 where
  pub verdict : Bool
  pub leaves : ℕ

-- an existential turn stops at true, a universal turn at false
abbrev pub stops_at : Quantifier → Bool
stops_at or = true
stops_at and = false

-- the second value is tried where the first did not stop the turn
unfoldable pub turn : Quantifier → Tried → Tried → Tried
turn q t₀ t₁ = cond (beq (stops_at q) t₀.verdict) t₀ (record { verdict = t₁.verdict; leaves = t₀.leaves + t₁.leaves })

unfoldable pub try : Prefix → (Assignment → Bool) → Assignment → Tried
try [] f ρ = record { verdict = f ρ; leaves = 1 }
try (z ∷ p) f ρ = turn z.quantifier (try p f (put ρ z.variable false)) (try p f (put ρ z.variable true))

unfoldable pub trial : Formula → Tried
trial f = try f.prefix (eval f.matrix) (λ _. false)
