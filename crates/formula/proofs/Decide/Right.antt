-- What the search finds is the truth; how many runs it takes, and that enough places and runs always decide.
-- Assumes nothing.
use mathlib.Core.Path.{◌≡◌, refl, sym, ◌∙◌, ap, subst}
use mathlib.Core.Bool.{Bool, true, false, cond, true≢false}
use mathlib.Core.List.{[], ◌∷◌}
use Prim.Native.Nat.{ℕ, zero, suc, ◌+◌, ◌^◌, ◌≤◌, ◌<◌}
use native.Mathlib.Omega.{arith}
use lib.Dec.{leb}
use lib.ListN.{length}
use borrow.Author.Tests.{leb-true, leb-false, le-leb}
use Rattle.formula.specs.Tree.{Quantifier, and, or, Tree, Prefix, Formula, distinct, closed}
use Rattle.formula.specs.Truth.{join, truth}
use Rattle.formula.specs.Tidy.{tidied}
use Rattle.formula.specs.Solve.{State, End, ended, stopped, Fits, solve}
use Rattle.formula.specs.Force.{given_by, owner}
use Rattle.formula.specs.Decide.{half, Outcome, decided, no_place, spent, Decision, after_solve, ends_split, split, seek, within, decide, DecideRight}
use Rattle.formula.proofs.Steps.{truth-tidied, proper_tidied}
use Rattle.formula.proofs.Solve.{run_right, solve_right}
use Rattle.formula.proofs.Force.{distinct-given, closed-given, truth-given}
use Rattle.formula.proofs.Decide.Lone.{two_left}

-- the formula that a stopped run reached

pub record Reached (f g : Formula) : Type 0 where
  pub is_distinct : distinct g.prefix ≡ true
  pub is_closed : closed g ≡ true
  pub same_truth : truth g ≡ truth f
  pub two : 2 ≤ length g.prefix
  pub no_more : length g.prefix ≤ length f.prefix

pub reached : (fits : Fits) (f : Formula) (x : ℕ) → distinct f.prefix ≡ true → closed f ≡ true → (solve fits f).end ≡ stopped x
    → Reached f (solve fits f).state.formula
unfolding solve tidied
reached fits f x d c e =
    let start : State = record { formula = tidied f; settles = 0; expands = 0 } in
    let r = run_right fits (suc (length f.prefix)) start (omega arith) (proper_tidied f d c) in
    record {
      is_distinct = r.still_proper.is_distinct;
      is_closed = r.still_proper.is_closed;
      same_truth = r.same_truth ∙ truth-tidied f;
      two = two_left fits _ x r.still_proper (r.on_stopped x e);
      no_more = omega (arith, r.counts);
    }

-- halves

length-half : (b : Bool) (g : Formula) → 1 ≤ length g.prefix → suc (length (half b g).prefix) ≡ length g.prefix
unfolding given_by
length-half b g h = by g.prefix g.matrix h
  where
    by : (p : Prefix) (t : Tree) → 1 ≤ length p → suc (length (given_by (b ∷ []) p t).prefix) ≡ length p
    by [] t k = absurd (omega arith)
    by (z ∷ p) t k = refl

truth-halves : (g : Formula) → distinct g.prefix ≡ true → 1 ≤ length g.prefix
    → truth g ≡ join (owner g.prefix) (truth (half false g)) (truth (half true g))
unfolding given_by
truth-halves g d h = truth-given [] g.prefix g.matrix d h

-- a split

-- a verdict of a split is that of its halves together
split-truth : (q : Quantifier) (d₀ d₁ : Decision) (t₀ t₁ : Bool) → ((v : Bool) → d₀.outcome ≡ decided v → v ≡ t₀)
    → ((v : Bool) → d₁.outcome ≡ decided v → v ≡ t₁) → (v : Bool) → (split q d₀ d₁).outcome ≡ decided v → v ≡ join q t₀ t₁
unfolding split ends_split
split-truth q d₀ d₁ t₀ t₁ h₀ h₁ v e = by q d₀.outcome refl e
  where
    both : Decision
    both = record { outcome = d₁.outcome; runs = d₀.runs + d₁.runs }

    unfit : {o : Outcome} → d₀.outcome ≡ o → d₀.outcome ≡ decided v → o ≡ decided v
    unfit k i = sym k ∙ i

    first : {w : Bool} → d₀.outcome ≡ decided w → d₀.outcome ≡ decided v → (w ≡ v) × (w ≡ t₀)
    first {w} k i = let l = unfit k i in (cc, h₀ w k)

    by : (q : Quantifier) (o : Outcome) → d₀.outcome ≡ o → (cond (ends_split q o) d₀ both).outcome ≡ decided v → v ≡ join q t₀ t₁
    by or (decided true) k i = let l = first k i in sym l.0 ∙ ap (λ (b : Bool). join or b t₁) l.1
    by or (decided false) k i = h₁ v i ∙ ap (λ (b : Bool). join or b t₁) (h₀ false k)
    by and (decided true) k i = h₁ v i ∙ ap (λ (b : Bool). join and b t₁) (h₀ true k)
    by and (decided false) k i = let l = first k i in sym l.0 ∙ ap (λ (b : Bool). join and b t₁) l.1
    by q no_place k i = let l = unfit k i in let z : ◌≡◌ {A = Bool} true false = cc in absurd (true≢false z)
    by q spent k i = let l = unfit k i in let z : ◌≡◌ {A = Bool} true false = cc in absurd (true≢false z)

split_most : (q : Quantifier) (d₀ d₁ : Decision) → (split q d₀ d₁).runs ≤ d₀.runs + d₁.runs
unfolding split
split_most q d₀ d₁ = by (ends_split q d₀.outcome)
  where
    by : (m : Bool) → (cond m d₀ (record { outcome = d₁.outcome; runs = d₀.runs + d₁.runs })).runs ≤ d₀.runs + d₁.runs
    by true = omega arith
    by false = omega arith

split-decides : (q : Quantifier) (d₀ d₁ : Decision) (v₀ v₁ : Bool) → d₀.outcome ≡ decided v₀ → d₁.outcome ≡ decided v₁
    → (v : Bool) × ((split q d₀ d₁).outcome ≡ decided v)
unfolding split
split-decides q d₀ d₁ v₀ v₁ e₀ e₁ = by (ends_split q d₀.outcome)
  where
    by : (m : Bool) → (v : Bool) × ((cond m d₀ (record { outcome = d₁.outcome; runs = d₀.runs + d₁.runs })).outcome ≡ decided v)
    by true = (v₀, e₀)
    by false = (v₁, e₁)

-- a search

pub record Sought (places : ℕ) (f : Formula) (d : Decision) : Type 0 where
  pub is_truth : (v : Bool) → d.outcome ≡ decided v → v ≡ truth f
  pub some_run : 1 ≤ d.runs
  pub few : d.runs ≤ 2 ^ length f.prefix
  pub fewer : 1 ≤ length f.prefix → d.runs < 2 ^ length f.prefix
  pub decides : length f.prefix ≤ suc places → (v : Bool) × (d.outcome ≡ decided v)

power_positive : (n : ℕ) → 1 ≤ 2 ^ n
power_positive zero = omega arith
power_positive (suc n) = omega (arith, power_positive n)

power_le : (m n : ℕ) → m ≤ n → 2 ^ m ≤ 2 ^ n
power_le zero n h = power_positive n
power_le (suc m) zero h = absurd (omega arith)
power_le (suc m) (suc n) h = omega (arith, power_le m n (omega arith))

-- two halves of less than 2 to the n runs, and the run before them
both_halves : (n a b l : ℕ) → l ≤ a + b → a < 2 ^ n → b < 2 ^ n → suc l < 2 ^ suc n
both_halves n a b l h ha hb = omega arith

ended_sought : (places : ℕ) (f : Formula) (v : Bool) → v ≡ truth f → Sought places f (record { outcome = decided v; runs = 1 })
ended_sought places f v t =
    record {
      is_truth = λ w e. let same : v ≡ w = cc in sym same ∙ t;
      some_run = omega arith;
      few = power_positive (length f.prefix);
      fewer = λ h. omega (arith, power_le 1 (length f.prefix) h);
      decides = λ h. (v, refl);
    }

module _ (fits : Fits) where
  -- a run that stopped, and both halves sought with a place less
  stopped_sought : (places : ℕ) (f g : Formula) (d₀ d₁ : Decision) → Reached f g → Sought places (half false g) d₀ → Sought places (half true g) d₁
      → Sought (suc places) f
      (record { outcome = (split (owner g.prefix) d₀ d₁).outcome; runs = suc (split (owner g.prefix) d₀ d₁).runs })
  stopped_sought places f g d₀ d₁ r s₀ s₁ =
      record {
        is_truth = λ v e.
            split-truth (owner g.prefix) d₀ d₁ (truth (half false g)) (truth (half true g)) s₀.is_truth s₁.is_truth v e ∙
            sym (truth-halves g r.is_distinct one) ∙ r.same_truth;
        some_run = omega arith;
        few = omega (arith, less);
        fewer = λ h. less;
        decides = λ h.
            let e₀ = s₀.decides (omega (arith, h, length-half false g one, r.no_more)) in
            let e₁ = s₁.decides (omega (arith, h, length-half true g one, r.no_more)) in
            split-decides (owner g.prefix) d₀ d₁ e₀.0 e₁.0 e₀.1 e₁.1;
      }
    where
      one : 1 ≤ length g.prefix
      one = omega (arith, r.two)

      n : ℕ
      n = length (half false g).prefix

      halves : (m : ℕ) → suc n ≡ length g.prefix → suc m ≡ length g.prefix → m ≡ n
      halves m h k = omega arith

      less₀ : d₀.runs < 2 ^ n
      less₀ = s₀.fewer (omega (arith, r.two, length-half false g one))

      less₁ : d₁.runs < 2 ^ n
      less₁ =
          subst (λ (m : ℕ). d₁.runs < 2 ^ m) (halves (length (half true g).prefix) (length-half false g one) (length-half true g one))
          (s₁.fewer (omega (arith, r.two, length-half true g one)))

      less : suc (split (owner g.prefix) d₀ d₁).runs < 2 ^ length f.prefix
      less =
          omega (
            arith,
            both_halves n d₀.runs d₁.runs (split (owner g.prefix) d₀ d₁).runs (split_most (owner g.prefix) d₀ d₁) less₀ less₁,
            power_le (suc n) (length f.prefix) (omega (arith, length-half false g one, r.no_more)),
          )

  pub sought : (places : ℕ) (f : Formula) → distinct f.prefix ≡ true → closed f ≡ true → Sought places f (seek fits places f)
  unfolding seek after_solve
  sought zero f d c = by (solve fits f).end refl
    where
      by : (e : End) → (solve fits f).end ≡ e → Sought zero f (after_solve e (record { outcome = no_place; runs = 0 }))
      by (ended v) h = ended_sought zero f v ((solve_right fits f d c).on_ended v h)
      by (stopped x) h =
          let r = reached fits f x d c h in
          record {
            is_truth = λ v e. let z : ◌≡◌ {A = Bool} true false = cc in absurd (true≢false z);
            some_run = omega arith;
            few = power_positive (length f.prefix);
            fewer = λ k. omega (arith, power_le 1 (length f.prefix) k);
            decides = λ k. absurd (omega (arith, k, r.two, r.no_more));
          }
  sought (suc places) f d c =
      by (solve fits f).end refl
      (λ r b. sought places (half b g) (distinct-given (b ∷ []) g.prefix g.matrix r.is_distinct) (closed-given (b ∷ []) g.prefix g.matrix r.is_closed))
    where
      g : Formula
      g = (solve fits f).state.formula

      by : (e : End) → (solve fits f).end ≡ e → ((r : Reached f g) (b : Bool) → Sought places (half b g) (seek fits places (half b g)))
          → Sought (suc places) f (after_solve e (split (owner g.prefix) (seek fits places (half false g)) (seek fits places (half true g))))
      by (ended v) h more = ended_sought (suc places) f v ((solve_right fits f d c).on_ended v h)
      by (stopped x) h more =
          let r = reached fits f x d c h in
          stopped_sought places f g (seek fits places (half false g)) (seek fits places (half true g)) r (more r false) (more r true)

  -- under a budget

  pub decide_right : (places budget : ℕ) (f : Formula) → distinct f.prefix ≡ true → closed f ≡ true
      → DecideRight budget f (decide fits places budget f)
  unfolding decide within
  decide_right places budget f d c = by (leb s.runs budget) refl
    where
      s : Decision
      s = seek fits places f

      k : Sought places f s
      k = sought places f d c

      by : (m : Bool) → leb s.runs budget ≡ m → DecideRight budget f (cond m s (record { outcome = spent; runs = budget }))
      by true e =
          record {
            is_truth = k.is_truth;
            some_run = λ v h. k.some_run;
            in_budget = leb-true s.runs budget e;
            in_power = k.few;
          }
      by false e =
          record {
            is_truth = λ v h. let z : ◌≡◌ {A = Bool} true false = cc in absurd (true≢false z);
            some_run = λ v h. let z : ◌≡◌ {A = Bool} true false = cc in absurd (true≢false z);
            in_budget = omega arith;
            in_power = omega (arith, leb-false s.runs budget e, k.few);
          }

  -- a place less than there are variables, and 2 to the power of the variables for a budget, always decide
  pub decide_always : (places budget : ℕ) (f : Formula) → distinct f.prefix ≡ true → closed f ≡ true → length f.prefix ≤ suc places
      → 2 ^ length f.prefix ≤ budget → (decide fits places budget f).outcome ≡ decided (truth f)
  unfolding decide within
  decide_always places budget f d c h b =
      let k = sought places f d c in
      let v = k.decides h in
      ap (λ (m : Bool). (cond m (seek fits places f) (record { outcome = spent; runs = budget })).outcome)
      (le-leb (seek fits places f).runs budget (omega (arith, k.few, b))) ∙ v.1 ∙ ap decided (k.is_truth v.0 v.1)
