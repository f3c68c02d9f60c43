-- The states that a run of Solve goes through, and tests of fit of which one allows all that another allows.
-- Assumes nothing.
use Rattle.std.specs.Prelude.{◌≡◌, true, List, [], ◌∷◌, ℕ, zero, suc, length}
use Rattle.formula.specs.Tree.{Formula}
use Rattle.formula.specs.Tidy.{tidied}
use Rattle.formula.specs.Solve.{State, Step, halt, next, Fits, step}

-- the second test is the looser one: it allows all that the first allows
abbrev pub Looser : Fits → Fits → Type 0
Looser fits fits' = (v n : ℕ) → fits v n ≡ true → fits' v n ≡ true

unfoldable pub onward : Step → (State → List State) → List State
onward (halt e) more = []
onward (next s) more = more s

-- the states from the first to the last, in the turns of `run`
unfoldable pub trace : Fits → ℕ → State → List State
trace fits zero s = s ∷ []
trace fits (suc n) s = s ∷ onward (step fits s) (λ s'. trace fits n s')

-- those of `solve`; the first has the tidied formula
unfoldable pub solve_trace : Fits → Formula → List State
solve_trace fits f = trace fits (suc (length f.prefix)) (record { formula = tidied f; settles = 0; expands = 0 })
