-- A search that hands on what is left of its budget, and stops once it is spent, answers as the whole search kept within the budget.
-- Assumes nothing.
use mathlib.Core.Path.{◌≡◌, refl, sym, ◌∙◌, ap}
use mathlib.Core.Bool.{Bool, true, false, cond}
use Prim.Native.Nat.{ℕ, zero, suc, ◌+◌, ◌-◌, ◌≤◌, ◌<◌}
use native.Mathlib.Omega.{arith}
use lib.Dec.{leb}
use borrow.Author.Tests.{leb-true, leb-false, le-leb, lt-leb}
use Rattle.formula.specs.Tree.{Quantifier, Formula}
use Rattle.formula.specs.Solve.{End, ended, stopped, Fits, solve}
use Rattle.formula.specs.Force.{owner}
use Rattle.formula.specs.Decide.{half, no_place, spent, Decision, after_solve, ends_split, split, seek, within, decide}

-- a run before them
abbrev pub one_more : Decision → Decision
one_more d = record { outcome = d.outcome; runs = suc d.runs }

abbrev pub spent_at : ℕ → Decision
spent_at budget = record { outcome = spent; runs = budget }

-- within

pub within_most : (budget : ℕ) (d : Decision) → (within budget d).runs ≤ budget
unfolding within
within_most budget d = by (leb d.runs budget) refl
  where
    by : (m : Bool) → leb d.runs budget ≡ m → (cond m d (spent_at budget)).runs ≤ budget
    by true e = leb-true d.runs budget e
    by false e = omega arith

within_in : (budget : ℕ) (d : Decision) → d.runs ≤ budget → within budget d ≡ d
unfolding within
within_in budget d h = ap (λ (m : Bool). cond m d (spent_at budget)) (le-leb d.runs budget h)

within-beyond : (budget : ℕ) (d : Decision) → budget < d.runs → within budget d ≡ spent_at budget
unfolding within
within-beyond budget d h = ap (λ (m : Bool). cond m d (spent_at budget)) (lt-leb d.runs budget h)

-- a split

both : Decision → Decision → Decision
both d₀ d₁ = record { outcome = d₁.outcome; runs = d₀.runs + d₁.runs }

-- the second half has what the first one left
both-within : (budget : ℕ) (d₀ d₁ : Decision) → d₀.runs ≤ budget
    → within (suc budget) (one_more (both d₀ d₁)) ≡ one_more (both d₀ (within (budget - d₀.runs) d₁))
unfolding both
both-within budget d₀ d₁ h = by (leb d₁.runs (budget - d₀.runs)) refl
  where
    by : (m : Bool) → leb d₁.runs (budget - d₀.runs) ≡ m
        → within (suc budget) (one_more (both d₀ d₁)) ≡ one_more (both d₀ (within (budget - d₀.runs) d₁))
    by true e =
        let l = leb-true d₁.runs (budget - d₀.runs) e in
        within_in (suc budget) (one_more (both d₀ d₁)) (omega (arith, l, h)) ∙
        ap (λ (d : Decision). one_more (both d₀ d)) (sym (within_in (budget - d₀.runs) d₁ l))
    by false e =
        let l = leb-false d₁.runs (budget - d₀.runs) e in
        let whole : suc budget ≡ suc (d₀.runs + (budget - d₀.runs)) = omega (arith, h) in
        within-beyond (suc budget) (one_more (both d₀ d₁)) (omega (arith, l, h)) ∙ ap spent_at whole ∙
        ap (λ (d : Decision). one_more (both d₀ d)) (sym (within-beyond (budget - d₀.runs) d₁ l))

split_most : (q : Quantifier) (d₀ d₁ : Decision) → d₀.runs ≤ (split q d₀ d₁).runs
unfolding split
split_most q d₀ d₁ = by (ends_split q d₀.outcome)
  where
    by : (m : Bool) → d₀.runs ≤ (cond m d₀ (record { outcome = d₁.outcome; runs = d₀.runs + d₁.runs })).runs
    by true = omega arith
    by false = omega arith

pub split_within : (budget : ℕ) (q : Quantifier) (d₀ d₁ : Decision)
    → within (suc budget) (one_more (split q d₀ d₁)) ≡
    one_more (split q (within budget d₀) (within (budget - (within budget d₀).runs) d₁))
unfolding split both ends_split
split_within budget q d₀ d₁ = by (leb d₀.runs budget) refl
  where
    halves : Decision → Decision
    halves e = split q e (within (budget - e.runs) d₁)

    in_first : d₀.runs ≤ budget → (m : Bool)
        → within (suc budget) (one_more (cond m d₀ (both d₀ d₁))) ≡ one_more (cond m d₀ (both d₀ (within (budget - d₀.runs) d₁)))
    in_first l true = within_in (suc budget) (one_more d₀) (omega (arith, l))
    in_first l false = both-within budget d₀ d₁ l

    by : (m : Bool) → leb d₀.runs budget ≡ m → within (suc budget) (one_more (split q d₀ d₁)) ≡ one_more (halves (within budget d₀))
    by true e =
        let l = leb-true d₀.runs budget e in
        in_first l (ends_split q d₀.outcome) ∙ ap (λ (d : Decision). one_more (halves d)) (sym (within_in budget d₀ l))
    by false e =
        let l = leb-false d₀.runs budget e in
        within-beyond (suc budget) (one_more (split q d₀ d₁)) (omega (arith, l, split_most q d₀ d₁)) ∙
        ap (λ (d : Decision). one_more (halves d)) (sym (within-beyond budget d₀ l))

-- the search

after_some : (e : End) (d : Decision) → 1 ≤ (after_solve e d).runs
unfolding after_solve
after_some (ended v) d = omega arith
after_some (stopped x) d = omega arith

module _ (fits : Fits) where
  some_run : (places : ℕ) (f : Formula) → 1 ≤ (seek fits places f).runs
  unfolding seek
  some_run zero f = after_some (solve fits f).end _
  some_run (suc places) f = after_some (solve fits f).end _

  pub decide_most : (places budget : ℕ) (f : Formula) → (decide fits places budget f).runs ≤ budget
  unfolding decide
  decide_most places budget f = within_most budget (seek fits places f)

  -- no run without a budget
  pub decide_spent : (places : ℕ) (f : Formula) → decide fits places 0 f ≡ spent_at 0
  unfolding decide
  decide_spent places f = within-beyond 0 (seek fits places f) (some_run places f)

  -- a run that stops, and no place
  pub decide_stuck : (budget : ℕ) (f : Formula) (x : ℕ) → (solve fits f).end ≡ stopped x
      → decide fits 0 (suc budget) f ≡ record { outcome = no_place; runs = 1 }
  unfolding decide seek after_solve
  decide_stuck budget f x e =
      ap (λ (n : End). within (suc budget) (after_solve n (record { outcome = no_place; runs = 0 }))) e ∙
      within_in (suc budget) (record { outcome = no_place; runs = 1 }) (omega arith)

  -- a run that stops, and both halves of the formula reached with a place less
  pub decide_splits : (places budget : ℕ) (f : Formula) (x : ℕ) → (solve fits f).end ≡ stopped x
      → let g = (solve fits f).state.formula in
      let zero = decide fits places budget (half false g) in
      decide fits (suc places) (suc budget) f ≡
      one_more (split (owner g.prefix) zero (decide fits places (budget - zero.runs) (half true g)))
  unfolding decide seek after_solve
  decide_splits places budget f x e =
      let g = (solve fits f).state.formula in
      ap (λ (n : End).
      within (suc budget) (after_solve n (split (owner g.prefix) (seek fits places (half false g)) (seek fits places (half true g))))) e ∙
      split_within budget (owner g.prefix) (seek fits places (half false g)) (seek fits places (half true g))
