-- A run may be entered anywhere along it, and counts may be added at its end: so a run that stopped under a test of fit goes on, under a
-- looser one, as a run from the first formula would.
-- Assumes nothing.
use mathlib.Core.Path.{◌≡◌, refl, sym, ◌∙◌, ap, ap₂}
use mathlib.Core.Logic.{◌⊎◌, inl, inr}
use mathlib.Core.Bool.{Bool, true, false, cond}
use mathlib.Core.Option.{Option, none, some}
use Prim.Native.Nat.{ℕ, zero, suc, ◌+◌, ◌≤◌, ◌<◌}
use native.Mathlib.Nat.{add-zero, add-suc}
use native.Mathlib.Omega.{arith}
use lib.ListN.{length}
use Rattle.formula.specs.Tree.{Tree, Formula, binds, distinct, closed}
use Rattle.formula.specs.Tidy.{tidied, verdict}
use Rattle.formula.specs.Settle.{may_settle, settled}
use Rattle.formula.specs.Expand.{expanded}
use Rattle.formula.specs.Solve.{is_some, lowest, cheapest, State, stopped, Step, halt, next, Fits, fits_raw, settle_step, expand_step, undecided_step, step_by, step, go_on, run, solve}
use Rattle.formula.specs.Trace.{Looser}
use Rattle.formula.specs.Resume.{add_to_state, add_to_run}
use Rattle.formula.proofs.Tidy.Limits.{tidy_unchanged}
use Rattle.formula.proofs.Steps.{Proper, proper_tidied, proper_settled, proper_expanded}
use Rattle.formula.proofs.Choice.{lowest-chosen, cheapest-chosen}
use Rattle.formula.proofs.Solve.{Made, Right, step_right, run_right}
use Rattle.formula.proofs.Longer.{step_follows}

-- turns: as soon as they are more than the variables, how many there are makes no difference

run-turns : (fits : Fits) (n m : ℕ) (s : State) → length s.formula.prefix < n → length s.formula.prefix < m → Proper s.formula
    → run fits n s ≡ run fits m s
unfolding run go_on Right
run-turns fits zero m s h k p = absurd (omega arith)
run-turns fits (suc n) zero s h k p = absurd (omega arith)
run-turns fits (suc n) (suc m) s h k p = by (step fits s) (step_right fits s p) (run-turns fits n m)
  where
    by : (t : Step) → Right fits s t
        → ((u : State) → length u.formula.prefix < n → length u.formula.prefix < m → Proper u.formula
        → run fits n u ≡ run fits m u)
        → go_on t s (λ u. run fits n u) ≡ go_on t s (λ u. run fits m u)
    by (halt e) r more = refl
    by (next u) r more =
        let made : Made s u = r in
        more u (omega (arith, made.one_less)) (omega (arith, made.one_less)) made.still_proper

-- a run entered where another one stood

module _ (fits fits' : Fits) (looser : Looser fits fits') where
  -- the looser test's run from a state goes on from where the other's ended
  pub run-entered : (n m : ℕ) (s : State) → n ≤ m → length s.formula.prefix < n → Proper s.formula
      → run fits' m s ≡ run fits' (suc (length (run fits n s).state.formula.prefix)) (run fits n s).state
  unfolding run go_on Right
  run-entered zero m s l h p = absurd (omega arith)
  run-entered (suc n) zero s l h p = absurd (omega arith)
  run-entered (suc n) (suc m) s l h p =
      by (step fits s) (step_right fits s p) (step_follows fits fits' looser s) (λ u. run-entered n m u)
    where
      stays : run fits' (suc m) s ≡ run fits' (suc (length s.formula.prefix)) s
      stays = run-turns fits' (suc m) (suc (length s.formula.prefix)) s (omega arith) (omega arith) p

      After : Step → Type 0
      After t = run fits' (suc m) s ≡
          run fits' (suc (length (go_on t s (λ u. run fits n u)).state.formula.prefix)) (go_on t s (λ u. run fits n u)).state

      by : (t : Step) → Right fits s t → (step fits' s ≡ t) ⊎ ((x : ℕ) × (t ≡ halt (stopped x)))
          → ((u : State) → n ≤ m → length u.formula.prefix < n → Proper u.formula
          → run fits' m u ≡ run fits' (suc (length (run fits n u).state.formula.prefix)) (run fits n u).state)
          → After t
      by (halt e) r f more = stays
      by (next u) r (inl same) more =
          let made : Made s u = r in
          ap (λ t. go_on t s (λ w. run fits' m w)) same ∙ more u (omega arith) (omega (arith, made.one_less)) made.still_proper
      by (next u) r (inr halts) more = let z : ◌≡◌ {A = ℕ} 0 1 = cc in absurd (omega arith)

-- counts added before a run are added to its answer

module _ (settles expands : ℕ) where
  abbrev plus : State → State
  plus = add_to_state settles expands

  plus_step : Step → Step
  plus_step (halt e) = halt e
  plus_step (next s) = next (plus s)

  expand_plus : (fits : Fits) (s : State) (o : Option ℕ) → expand_step fits (plus s) o ≡ plus_step (expand_step fits s o)
  unfolding expand_step add_to_state plus_step
  expand_plus fits s none = refl
  expand_plus fits s (some x) = by (fits_raw fits x s.formula)
    where
      by : (m : Bool)
          → cond m (next (record { formula = expanded x s.formula; settles = settles + s.settles; expands = suc (expands + s.expands) })) (halt (stopped x)) ≡
          plus_step (cond m (next (record { formula = expanded x s.formula; settles = s.settles; expands = suc s.expands })) (halt (stopped x)))
      by true = ap (λ n. next (record { formula = expanded x s.formula; settles = settles + s.settles; expands = n })) (sym (add-suc expands s.expands))
      by false = refl

  settle_plus : (s : State) (x : ℕ) (o : Option Bool) → settle_step (plus s) x o ≡ plus_step (settle_step s x o)
  unfolding settle_step add_to_state plus_step
  settle_plus s x none = refl
  settle_plus s x (some b) =
      ap (λ n. next (record { formula = settled x b s.formula; settles = n; expands = expands + s.expands })) (sym (add-suc settles s.settles))

  step_plus : (fits : Fits) (s : State) → step fits (plus s) ≡ plus_step (step fits s)
  unfolding step step_by undecided_step add_to_state plus_step
  step_plus fits s = by (verdict s.formula.matrix)
    where
      open-case : (o : Option ℕ) → undecided_step fits (plus s) o ≡ plus_step (undecided_step fits s o)
      open-case none = expand_plus fits s (cheapest s.formula)
      open-case (some x) = settle_plus s x (may_settle x s.formula)

      by : (o : Option Bool) → step_by fits (plus s) o ≡ plus_step (step_by fits s o)
      by (some v) = refl
      by none = open-case (lowest s.formula)

  pub run_plus : (fits : Fits) (n : ℕ) (s : State) → run fits n (plus s) ≡ add_to_run settles expands (run fits n s)
  unfolding run go_on add_to_run plus_step
  run_plus fits zero s = refl
  run_plus fits (suc n) s = ap (λ t. go_on t (plus s) (λ u. run fits n u)) (step_plus fits s) ∙ by (step fits s) (λ u. run_plus fits n u)
    where
      by : (t : Step) → ((u : State) → run fits n (plus u) ≡ add_to_run settles expands (run fits n u))
          → go_on (plus_step t) (plus s) (λ u. run fits n u) ≡ add_to_run settles expands (go_on t s (λ u. run fits n u))
      by (halt e) more = refl
      by (next u) more = more u

-- what every step keeps, a run keeps

pub record Keeps (fits : Fits) (I : Formula → Type 0) : Type 0 where
  pub settling : (f : Formula) (x : ℕ) (b : Bool) → Proper f → binds f.prefix x ≡ true → I f → Proper (settled x b f) → I (settled x b f)
  pub expanding : (f : Formula) (x : ℕ) → Proper f → binds f.prefix x ≡ true → fits_raw fits x f ≡ true → I f → Proper (expanded x f)
      → I (expanded x f)

module _ (fits : Fits) (I : Formula → Type 0) (keeps : Keeps fits I) where
  unfoldable pub Kept : Step → Type 0
  Kept (halt e) = Unit {0}
  Kept (next u) = I u.formula

  pub step_keeps : (s : State) → Proper s.formula → I s.formula → Kept (step fits s)
  unfolding step step_by undecided_step settle_step expand_step is_some Kept
  step_keeps s p i = by (verdict s.formula.matrix)
    where
      settles : (x : ℕ) → binds s.formula.prefix x ≡ true → (o : Option Bool) → Kept (settle_step s x o)
      settles x bound none = tt
      settles x bound (some b) = keeps.settling s.formula x b p bound i (proper_settled x b s.formula p)

      expands : (o : Option ℕ) → cheapest s.formula ≡ o → Kept (expand_step fits s o)
      expands none e = tt
      expands (some x) e = fitting (fits_raw fits x s.formula) refl
        where
          fitting : (m : Bool) → fits_raw fits x s.formula ≡ m
              → Kept (cond m (next (record { formula = expanded x s.formula; settles = s.settles; expands = suc s.expands })) (halt (stopped x)))
          fitting true k =
              keeps.expanding s.formula x p (cheapest-chosen s.formula x e).1 k i (proper_expanded x s.formula p)
          fitting false k = tt

      open-case : (o : Option ℕ) → lowest s.formula ≡ o → Kept (undecided_step fits s o)
      open-case none e = expands (cheapest s.formula) refl
      open-case (some x) e = settles x (lowest-chosen s.formula x e).1 (may_settle x s.formula)

      by : (o : Option Bool) → Kept (step_by fits s o)
      by (some v) = tt
      by none = open-case (lowest s.formula) refl

  pub run_keeps : (n : ℕ) (s : State) → Proper s.formula → I s.formula → I (run fits n s).state.formula
  unfolding run go_on Kept Right
  run_keeps zero s p i = i
  run_keeps (suc n) s p i = by (step fits s) (step_right fits s p) (step_keeps s p i) (λ u. run_keeps n u)
    where
      by : (t : Step) → Right fits s t → Kept t → ((u : State) → Proper u.formula → I u.formula → I (run fits n u).state.formula)
          → I (go_on t s (λ u. run fits n u)).state.formula
      by (halt e) r k more = i
      by (next u) r k more =
          let made : Made s u = r in
          more u made.still_proper k

-- Solve from a formula on, beside Solve from the formula reached under a test of fit that allows less

tidied_proper : (f : Formula) → Proper f → tidied f ≡ f
unfolding tidied
tidied_proper f p = ap (λ (t : Tree). record { prefix = f.prefix; matrix = t }) ((tidy_unchanged f.matrix).1 p.is_neat)

module _ (fits fits' : Fits) (looser : Looser fits fits') (f : Formula) (d : distinct f.prefix ≡ true) (c : closed f ≡ true) where
  abbrev first : State
  first = record { formula = tidied f; settles = 0; expands = 0 }

  abbrev reached : State
  reached = (solve fits f).state

  pub reached_proper : Proper reached.formula
  unfolding solve tidied
  reached_proper = (run_right fits (suc (length f.prefix)) first (omega arith) (proper_tidied f d c)).still_proper

  begins : reached ≡ add_to_state reached.settles reached.expands (record { formula = tidied reached.formula; settles = 0; expands = 0 })
  unfolding add_to_state
  begins =
      ap (λ (g : Formula). record { formula = g; settles = reached.settles; expands = reached.expands })
      (sym (tidied_proper reached.formula reached_proper)) ∙
      ap₂ (λ n m. record { formula = tidied reached.formula; settles = n; expands = m }) (sym (add-zero reached.settles))
      (sym (add-zero reached.expands))

  pub solve-resumed : solve fits' f ≡ add_to_run reached.settles reached.expands (solve fits' reached.formula)
  unfolding solve tidied
  solve-resumed =
      let turns = suc (length reached.formula.prefix) in
      run-entered fits fits' looser (suc (length f.prefix)) (suc (length f.prefix)) first (omega arith) (omega arith) (proper_tidied f d c) ∙
      ap (run fits' turns) begins ∙
      run_plus reached.settles reached.expands fits' turns (record { formula = tidied reached.formula; settles = 0; expands = 0 })
