-- Solve on formulas: one step, and its iteration ("Solve").
-- Assumes nothing.
use Rattle.std.specs.Prelude.{Bool, true, false, ◌&&◌, ◌||◌, cond, List, [], ◌∷◌, ℕ, zero, suc, ◌-◌, eqb, ltb, length}
use Rattle.std.proofs.Math.Option.{Option, none, some}
use Rattle.formula.specs.Tree.{Prefix, Formula, of}
use Rattle.formula.specs.Tidy.{tidied, verdict}
use Rattle.formula.specs.Settle.{may_settle, settled}
use Rattle.formula.specs.Expand.{innermost, raw_rows, expanded}

-- the variables of a prefix that pass a test
unfoldable pub those : (ℕ → Bool) → Prefix → List ℕ
those P [] = []
those P (z ∷ p) = cond (P z.variable) (z.variable ∷ those P p) (those P p)

-- the first of a list's numbers in an order
unfoldable pub earlier : (ℕ → ℕ → Bool) → ℕ → Option ℕ → Option ℕ
earlier before x none = some x
earlier before x (some y) = some (cond (before y x) y x)

unfoldable pub least : (ℕ → ℕ → Bool) → List ℕ → Option ℕ
least before [] = none
least before (x ∷ xs) = earlier before x (least before xs)

unfoldable pub is_some : Option Bool → Bool
is_some none = false
is_some (some b) = true

-- the lowest-numbered variable that may be settled
unfoldable pub lowest : Formula → Option ℕ
lowest f = least ltb (those (λ x. is_some (may_settle x f)) f.prefix)

-- the innermost-block variable with the fewest raw rows, ties to the lower number
unfoldable pub cheaper : Formula → ℕ → ℕ → Bool
cheaper f x y =
    let m = raw_rows (of x) f.matrix in
    let n = raw_rows (of y) f.matrix in
    ltb m n || (eqb m n && ltb x y)

unfoldable pub cheapest : Formula → Option ℕ
cheapest f = least (cheaper f) (those (λ x. innermost x f) f.prefix)

-- where a run stands: the formula reached, the number settled and the number expanded
pub record State : Type 0 where
  pub formula : Formula
  pub settles : ℕ
  pub expands : ℕ

-- how a run ends: with a verdict, or stopped at a variable whose raw sheet doesn't fit
pub data End : Type 0 where
  ended : Bool → End
  stopped : ℕ → End

pub data Step : Type 0 where
  halt : End → Step
  next : State → Step

-- whether a sheet of so many variables and nodes fits
abbrev pub Fits : Type 0
Fits = ℕ → ℕ → Bool

-- does the raw sheet of x fit? It has one variable less.
unfoldable pub fits_raw : Fits → ℕ → Formula → Bool
fits_raw fits x f = fits (length f.prefix - 1) (raw_rows (of x) f.matrix)

unfoldable pub settle_step : State → ℕ → Option Bool → Step
settle_step s x none = halt (stopped x)
settle_step s x (some b) = next (record { formula = settled x b s.formula; settles = suc s.settles; expands = s.expands })

unfoldable pub expand_step : Fits → State → Option ℕ → Step
expand_step fits s none = halt (stopped 0)
expand_step fits s (some x) =
    cond (fits_raw fits x s.formula)
    (next (record { formula = expanded x s.formula; settles = s.settles; expands = suc s.expands })) (halt (stopped x))

unfoldable pub undecided_step : Fits → State → Option ℕ → Step
undecided_step fits s none = expand_step fits s (cheapest s.formula)
undecided_step fits s (some x) = settle_step s x (may_settle x s.formula)

-- until decided: settle the lowest variable that may be settled; if there is none, expand the cheapest
unfoldable pub step_by : Fits → State → Option Bool → Step
step_by fits s (some b) = halt (ended b)
step_by fits s none = undecided_step fits s (lowest s.formula)

unfoldable pub step : Fits → State → Step
step fits s = step_by fits s (verdict s.formula.matrix)

pub record Run : Type 0 where
  pub end : End
  pub state : State

unfoldable pub go_on : Step → State → (State → Run) → Run
go_on (halt e) s more = record { end = e; state = s }
go_on (next s') s more = more s'

-- Each step takes a variable away, so one turn more than there are variables is enough.
unfoldable pub run : Fits → ℕ → State → Run
run fits zero s = record { end = stopped 0; state = s }
run fits (suc n) s = go_on (step fits s) s (λ s'. run fits n s')

-- tidies, then repeats
unfoldable pub solve : Fits → Formula → Run
solve fits f = run fits (suc (length f.prefix)) (record { formula = tidied f; settles = 0; expands = 0 })
