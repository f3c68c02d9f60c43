-- Who can force the line (N9): values for the first variables of the prefix, whose turn is next, and with which values its owner gets
-- the outcome wanted.
-- Assumes nothing.
use Rattle.std.specs.Prelude.{◌≡◌, Bool, true, false, not, List, [], ◌∷◌, ◌++◌, ℕ}
use Rattle.std.specs.Bool.{beq}
use Rattle.formula.specs.Tree.{Quantifier, and, or, exists, Tree, Prefix, Formula, assign}
use Rattle.formula.specs.Truth.{truth}
use Rattle.formula.specs.Solve.{End, ended, stopped, Fits, Run, solve}

-- "the sheet without the rows of the values given .., with constants for their literals"
unfoldable pub given_by : List Bool → Prefix → Tree → Formula
given_by [] p t = record { prefix = p; matrix = t }
given_by (b ∷ bs) [] t = record { prefix = []; matrix = t }
given_by (b ∷ bs) (z ∷ p) t = given_by bs p (assign z.variable b t)

abbrev pub given : List Bool → Formula → Formula
given bs f = given_by bs f.prefix f.matrix

-- "of the values given and tried"
abbrev pub tried : List Bool → Bool → Formula → Formula
tried bs b f = given (bs ++ (b ∷ [])) f

-- "whose turn is next": the owner of the first row without a value
unfoldable pub owner : Prefix → Quantifier
owner [] = exists
owner (z ∷ p) = z.quantifier

abbrev pub turn_after : List Bool → Formula → Quantifier
turn_after bs f = owner (given bs f).prefix

-- "the outcome wanted: true for exists, false for all"
abbrev pub wanted : Quantifier → Bool
wanted or = true
wanted and = false

-- "neither, 0, 1 or both", or "stopped with the variable that run names"
pub data Forced : Type 0 where
  neither with-0 with-1 both : Forced
  stopped_at : ℕ → Forced

abbrev pub which : Bool → Bool → Forced
which false false = neither
which true false = with-0
which false true = with-1
which true true = both

-- "if either run stops, the answer .. is stopped with the variable that run names, value 0's run first"
unfoldable pub forced_by : Bool → End → End → Forced
forced_by w (stopped x) e = stopped_at x
forced_by w (ended v₀) (stopped x) = stopped_at x
forced_by w (ended v₀) (ended v₁) = which (beq w v₀) (beq w v₁)

-- "each judged by Solve on the sheet without the rows of the values given and tried"
abbrev pub judged : Fits → List Bool → Bool → Formula → Run
judged fits bs b f = solve fits (tried bs b f)

unfoldable pub forced : Fits → List Bool → Formula → Forced
forced fits bs f = forced_by (wanted (turn_after bs f)) (judged fits bs false f).end (judged fits bs true f).end

-- whether an answer names a value, and whether it names any; a stopped answer names none
unfoldable pub allows : Bool → Forced → Bool
allows b neither = false
allows b with-0 = not b
allows b with-1 = b
allows b both = true
allows b (stopped_at x) = false

unfoldable pub allows_some : Forced → Bool
allows_some neither = false
allows_some with-0 = true
allows_some with-1 = true
allows_some both = true
allows_some (stopped_at x) = false

-- no run stopped
abbrev pub Told : Forced → Type 0
Told a = (x : ℕ) → a ≡ stopped_at x → ⊥

-- a formula has the truth that the owner of the next turn wants
abbrev pub is_won : List Bool → Formula → Formula → Bool
is_won bs f g = beq (wanted (turn_after bs f)) (truth g)

-- What an answer is relied on for where no run stopped: it names a value exactly if the formula so reduced has the truth wanted, and it
-- names some value exactly if the formula under the values given has it.
pub record ForceRight (bs : List Bool) (f : Formula) (a : Forced) : Type 0 where
  pub exactly : (b : Bool) → allows b a ≡ is_won bs f (tried bs b f)
  pub some_value : allows_some a ≡ is_won bs f (given bs f)
