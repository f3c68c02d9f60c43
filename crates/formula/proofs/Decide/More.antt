-- More places or a larger budget keep a verdict and its count, and where Solve ends the verdict is its own, after one run.
-- Assumes nothing.
use mathlib.Core.Path.{◌≡◌, refl, sym, ◌∙◌, ap}
use mathlib.Core.Bool.{Bool, true, false, cond, true≢false}
use Prim.Native.Nat.{ℕ, zero, suc, ◌+◌, ◌≤◌}
use native.Mathlib.Omega.{arith}
use lib.Dec.{leb}
use borrow.Author.Tests.{leb-true, le-leb}
use Rattle.formula.specs.Tree.{Quantifier, Formula}
use Rattle.formula.specs.Solve.{End, ended, stopped, Fits, solve}
use Rattle.formula.specs.Force.{owner}
use Rattle.formula.specs.Decide.{half, Outcome, decided, no_place, spent, Decision, after_solve, ends_split, split, seek, within, decide}

-- a decision that has a verdict is kept
abbrev Keeps : Decision → Decision → Type 0
Keeps d e = (v : Bool) → d.outcome ≡ decided v → e ≡ d

-- a split with a verdict: its first half has one
split_keeps : (q : Quantifier) (d₀ d₁ e₀ e₁ : Decision) → Keeps d₀ e₀ → Keeps d₁ e₁ → Keeps (split q d₀ d₁) (split q e₀ e₁)
unfolding split ends_split
split_keeps q d₀ d₁ e₀ e₁ k₀ k₁ v h = by d₀.outcome refl h
  where
    both : Decision
    both = record { outcome = d₁.outcome; runs = d₀.runs + d₁.runs }

    at : Decision → Decision → Decision
    at a b = cond (ends_split q a.outcome) a (record { outcome = b.outcome; runs = a.runs + b.runs })

    unfit : {o : Outcome} → d₀.outcome ≡ o → d₀.outcome ≡ decided v → o ≡ decided v
    unfit k i = sym k ∙ i

    second : (m : Bool) → (cond m d₀ both).outcome ≡ decided v
        → cond m d₀ (record { outcome = e₁.outcome; runs = d₀.runs + e₁.runs }) ≡ cond m d₀ both
    second true i = refl
    second false i = ap (λ (d : Decision). record { outcome = d.outcome; runs = d₀.runs + d.runs }) (k₁ v i)

    by : (o : Outcome) → d₀.outcome ≡ o → (cond (ends_split q o) d₀ both).outcome ≡ decided v → at e₀ e₁ ≡ at d₀ d₁
    by (decided w) k i =
        ap (λ (d : Decision). at d e₁) (k₀ w k) ∙
        second (ends_split q d₀.outcome) (ap (λ (o : Outcome). (cond (ends_split q o) d₀ both).outcome) k ∙ i)
    by no_place k i = let l = unfit k i in let z : ◌≡◌ {A = Bool} true false = cc in absurd (true≢false z)
    by spent k i = let l = unfit k i in let z : ◌≡◌ {A = Bool} true false = cc in absurd (true≢false z)

after_keeps : (e : End) (d d' : Decision) → Keeps d d' → Keeps (after_solve e d) (after_solve e d')
unfolding after_solve
after_keeps (ended w) d d' k v h = refl
after_keeps (stopped x) d d' k v h = ap (λ (d : Decision). record { outcome = d.outcome; runs = suc d.runs }) (k v h)

module _ (fits : Fits) where
  pub more_places : (n m : ℕ) (f : Formula) → n ≤ m → (v : Bool) → (seek fits n f).outcome ≡ decided v → seek fits m f ≡ seek fits n f
  unfolding seek
  more_places zero zero f l v h = refl
  more_places zero (suc m) f l v h =
      after_keeps (solve fits f).end (record { outcome = no_place; runs = 0 }) _
      (λ w e. let z : ◌≡◌ {A = Bool} true false = cc in absurd (true≢false z)) v h
  more_places (suc n) zero f l v h = absurd (omega arith)
  more_places (suc n) (suc m) f l v h =
      let g = (solve fits f).state.formula in
      after_keeps (solve fits f).end _ _
      (split_keeps (owner g.prefix) (seek fits n (half false g)) (seek fits n (half true g)) (seek fits m (half false g))
      (seek fits m (half true g)) (λ w e. more_places n m (half false g) (omega arith) w e) (λ w e. more_places n m (half true g) (omega arith) w e))
      v h

  -- within a budget
  within-verdict : (budget : ℕ) (d : Decision) (v : Bool) → (within budget d).outcome ≡ decided v → (d.runs ≤ budget) × (within budget d ≡ d)
  unfolding within
  within-verdict budget d v h = by (leb d.runs budget) refl h
    where
      by : (m : Bool) → leb d.runs budget ≡ m → (cond m d (record { outcome = spent; runs = budget })).outcome ≡ decided v
          → (d.runs ≤ budget) × (cond m d (record { outcome = spent; runs = budget }) ≡ d)
      by true e k = (leb-true d.runs budget e, refl)
      by false e k = let z : ◌≡◌ {A = Bool} true false = cc in absurd (true≢false z)

  within_le : (budget : ℕ) (d : Decision) → d.runs ≤ budget → within budget d ≡ d
  unfolding within
  within_le budget d h = ap (λ (m : Bool). cond m d (record { outcome = spent; runs = budget })) (le-leb d.runs budget h)

  pub decide_more : (n m b c : ℕ) (f : Formula) → n ≤ m → b ≤ c → (v : Bool) → (decide fits n b f).outcome ≡ decided v
      → decide fits m c f ≡ decide fits n b f
  unfolding decide
  decide_more n m b c f l k v h =
      let w = within-verdict b (seek fits n f) v h in
      let same = more_places n m f l v (ap (λ (d : Decision). d.outcome) (sym w.1) ∙ h) in
      ap (within c) same ∙ within_le c (seek fits n f) (omega (arith, w.0, k)) ∙ sym w.1

  -- Solve's own verdict
  seek_ended : (places : ℕ) (f : Formula) (v : Bool) → (solve fits f).end ≡ ended v
      → seek fits places f ≡ record { outcome = decided v; runs = 1 }
  unfolding seek after_solve
  seek_ended zero f v e = ap (λ (n : End). after_solve n (record { outcome = no_place; runs = 0 })) e
  seek_ended (suc places) f v e =
      let g = (solve fits f).state.formula in
      ap (λ (n : End). after_solve n (split (owner g.prefix) (seek fits places (half false g)) (seek fits places (half true g)))) e

  pub decide_ended : (places budget : ℕ) (f : Formula) (v : Bool) → 1 ≤ budget → (solve fits f).end ≡ ended v
      → decide fits places budget f ≡ record { outcome = decided v; runs = 1 }
  unfolding decide
  decide_ended places budget f v b e =
      ap (within budget) (seek_ended places f v e) ∙ within_le budget (record { outcome = decided v; runs = 1 }) b
