-- Trial's verdict is the truth, and its leaves are at most 2 to the power of the variables.
-- Assumes nothing.
use mathlib.Core.Path.{◌≡◌, refl, ◌∙◌, ap₂}
use mathlib.Core.Bool.{Bool, true, false, cond, beq}
use mathlib.Core.List.{[], ◌∷◌}
use Prim.Native.Nat.{ℕ, suc, ◌+◌, ◌^◌, ◌≤◌}
use native.Mathlib.Omega.{arith}
use lib.ListN.{length}
use Rattle.formula.specs.Tree.{Quantifier, and, or, Prefix, Formula}
use Rattle.formula.specs.Truth.{Assignment, put, join, eval, bind, truth}
use Rattle.formula.specs.Trial.{Tried, stops_at, turn, try, trial}

turn-verdict : (q : Quantifier) (t₀ t₁ : Tried) → (turn q t₀ t₁).verdict ≡ join q t₀.verdict t₁.verdict
unfolding turn
turn-verdict q t₀ t₁ = by q t₀.verdict refl
  where
    both : Tried
    both = record { verdict = t₁.verdict; leaves = t₀.leaves + t₁.leaves }

    by : (q : Quantifier) (b : Bool) → t₀.verdict ≡ b → (cond (beq (stops_at q) b) t₀ both).verdict ≡ join q b t₁.verdict
    by or true e = e
    by or false e = refl
    by and true e = refl
    by and false e = e

turn-leaves : (q : Quantifier) (t₀ t₁ : Tried) → (turn q t₀ t₁).leaves ≤ t₀.leaves + t₁.leaves
unfolding turn
turn-leaves q t₀ t₁ = by (beq (stops_at q) t₀.verdict)
  where
    both : Tried
    both = record { verdict = t₁.verdict; leaves = t₀.leaves + t₁.leaves }

    by : (m : Bool) → (cond m t₀ both).leaves ≤ t₀.leaves + t₁.leaves
    by true = omega arith
    by false = omega arith

pub try-verdict : (p : Prefix) (f : Assignment → Bool) (ρ : Assignment) → (try p f ρ).verdict ≡ bind p f ρ
unfolding try bind
try-verdict [] f ρ = refl
try-verdict (z ∷ p) f ρ =
    turn-verdict z.quantifier (try p f (put ρ z.variable false)) (try p f (put ρ z.variable true)) ∙
    ap₂ (join z.quantifier) (try-verdict p f (put ρ z.variable false)) (try-verdict p f (put ρ z.variable true))

-- two halves of at most 2 to the n
doubled : (n a b l : ℕ) → l ≤ a + b → a ≤ 2 ^ n → b ≤ 2 ^ n → l ≤ 2 ^ suc n
doubled n a b l h ha hb = omega arith

pub try-leaves : (p : Prefix) (f : Assignment → Bool) (ρ : Assignment) → (try p f ρ).leaves ≤ 2 ^ length p
unfolding try
try-leaves [] f ρ = omega arith
try-leaves (z ∷ p) f ρ =
    let t₀ = try p f (put ρ z.variable false) in
    let t₁ = try p f (put ρ z.variable true) in
    doubled (length p) t₀.leaves t₁.leaves (turn z.quantifier t₀ t₁).leaves (turn-leaves z.quantifier t₀ t₁)
    (try-leaves p f (put ρ z.variable false)) (try-leaves p f (put ρ z.variable true))

pub trial-verdict : (f : Formula) → (trial f).verdict ≡ truth f
unfolding trial truth
trial-verdict f = try-verdict f.prefix (eval f.matrix) (λ _. false)

pub trial-leaves : (f : Formula) → (trial f).leaves ≤ 2 ^ length f.prefix
unfolding trial
trial-leaves f = try-leaves f.prefix (eval f.matrix) (λ _. false)
