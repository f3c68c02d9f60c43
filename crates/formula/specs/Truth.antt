-- Truth by the two splitting rules (document 001, section 2.1).
-- Assumes nothing.
use Rattle.std.specs.Prelude.{Bool, true, false, ◌&&◌, ◌||◌, cond, [], ◌∷◌, ℕ, eqb, ◌≡◌}
use Rattle.std.specs.Bool.{beq}
use Rattle.formula.specs.Tree.{Op, and, or, Tree, lit, node, Forest, ∅, ◌▸◌, Prefix, Formula}

abbrev pub Assignment : Type 0
Assignment = ℕ → Bool

-- the assignment with x = b
abbrev pub put : Assignment → ℕ → Bool → Assignment
put ρ x b v = cond (eqb v x) b (ρ v)

-- AND and OR of two values, and of none
abbrev pub join : Op → Bool → Bool → Bool
join and a b = a && b
join or a b = a || b

abbrev pub unit : Op → Bool
unit and = true
unit or = false

-- with no quantifier left, AND and OR have their usual meaning
unfoldable mutual
  pub eval : Tree → Assignment → Bool
  eval (lit s v) ρ = beq s (ρ v)
  eval (node o ts) ρ = eval_all ts o ρ

  pub eval_all : Forest → Op → Assignment → Bool
  eval_all ∅ o ρ = unit o
  eval_all (t ▸ ts) o ρ = join o (eval t ρ) (eval_all ts o ρ)

-- exists z: true with z = 0 or with z = 1; for all z: with both
unfoldable pub bind : Prefix → (Assignment → Bool) → Assignment → Bool
bind [] f ρ = f ρ
bind (z ∷ p) f ρ = join z.quantifier (bind p f (put ρ z.variable false)) (bind p f (put ρ z.variable true))

-- every literal of a formula is bound, so the first assignment is never read
unfoldable pub truth : Formula → Bool
truth f = bind f.prefix (eval f.matrix) (λ _. false)

-- a function of the assignment that doesn't depend on the variable v
abbrev pub Ignores : (Assignment → Bool) → ℕ → Type 0
Ignores f v = (ρ : Assignment) (b : Bool) → f (put ρ v b) ≡ f ρ

-- if the first truth value is true, so is the second
abbrev pub Leads : Bool → Bool → Type 0
Leads a b = a ≡ true → b ≡ true
