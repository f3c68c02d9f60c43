-- Solve: a verdict is the truth, a stopped formula has the truth of the first, counts and variables add up, and a run stops exactly
-- where nothing can be settled and the cheapest expansion doesn't fit.
-- Assumes nothing.
use mathlib.Core.Path.{◌≡◌, refl, sym, ◌∙◌, ap, subst}
use mathlib.Core.Bool.{Bool, true, false, cond, false≢true, true≢false}
use mathlib.Core.List.{[]}
use mathlib.Core.Option.{Option, none, some}
use Prim.Native.Nat.{ℕ, zero, suc, ◌+◌, ◌<◌}
use native.Mathlib.Omega.{arith}
use lib.ListN.{length}
use Rattle.formula.specs.Tree.{Formula, binds, distinct, closed}
use Rattle.formula.specs.Truth.{truth}
use Rattle.formula.specs.Tidy.{tidied, verdict}
use Rattle.formula.specs.Settle.{may_settle, settled}
use Rattle.formula.specs.Expand.{raw, expanded}
use Rattle.formula.specs.Solve.{is_some, lowest, cheapest, State, End, ended, stopped, Step, halt, next, Fits, fits_raw, settle_step}
use Rattle.formula.specs.Solve.{expand_step, undecided_step, step_by, step, Run, go_on, run, solve}
use Rattle.formula.specs.Right.{Stuck, SolveRight}
use Rattle.formula.proofs.Closed.{length_without}
use Rattle.formula.proofs.Steps.{Proper, truth-tidied, proper_tidied, truth-settled, proper_settled, truth-expanded, proper_expanded, verdict-truth, decided_without-variables}
use Rattle.formula.proofs.Choice.{lowest-chosen, cheapest-chosen, cheapest-found}

-- a step made: one variable less, one step more, and the same truth
pub record Made (s s' : State) : Type 0 where
  pub same_truth : truth s'.formula ≡ truth s.formula
  pub still_proper : Proper s'.formula
  pub one_less : length s.formula.prefix ≡ suc (length s'.formula.prefix)
  pub one_more : s'.settles + s'.expands ≡ suc (s.settles + s.expands)

-- what a step may answer
unfoldable pub Right : Fits → State → Step → Type 0
Right fits s (halt (ended v)) = verdict s.formula.matrix ≡ some v
Right fits s (halt (stopped x)) = Stuck fits s.formula x
Right fits s (next s') = Made s s'

settle_right : (fits : Fits) (s : State) (x : ℕ) (o : Option Bool) → Proper s.formula → binds s.formula.prefix x ≡ true
    → may_settle x s.formula ≡ o → is_some o ≡ true → Right fits s (settle_step s x o)
unfolding Right settle_step is_some settled
settle_right fits s x none p h e i = absurd (false≢true i)
settle_right fits s x (some b) p h e i =
    record {
      same_truth = truth-settled x b s.formula h p.is_distinct e;
      still_proper = proper_settled x b s.formula p;
      one_less = length_without x s.formula.prefix h;
      one_more = omega arith;
    }

expand_right : (fits : Fits) (s : State) → Proper s.formula → verdict s.formula.matrix ≡ none → lowest s.formula ≡ none
    → Right fits s (expand_step fits s (cheapest s.formula))
unfolding Right expand_step expanded raw
expand_right fits s p u n = by (cheapest s.formula) refl
  where
    nonempty : s.formula.prefix ≡ [] → ⊥
    nonempty e =
        let d = decided_without-variables s.formula p e in
        let k : verdict s.formula.matrix ≡ some d.0 = d.1 in
        let z : ◌≡◌ {A = Bool} true false = cc in
        true≢false z

    by : (o : Option ℕ) → cheapest s.formula ≡ o → Right fits s (expand_step fits s o)
    by none e =
        let c = cheapest-found s.formula p.is_distinct nonempty in
        let k : cheapest s.formula ≡ some c.0 = c.1 in
        let z : ◌≡◌ {A = Bool} true false = cc in
        absurd (true≢false z)
    by (some x) e = fitting (fits_raw fits x s.formula) refl
      where
        fitting : (m : Bool) → fits_raw fits x s.formula ≡ m
            → Right fits s
            (cond m (next (record { formula = expanded x s.formula; settles = s.settles; expands = suc s.expands }))
            (halt (stopped x)))
        fitting true k =
            let c = cheapest-chosen s.formula x e in
            record {
              same_truth = truth-expanded x s.formula c.0 p.is_distinct;
              still_proper = proper_expanded x s.formula p;
              one_less = length_without x s.formula.prefix c.1;
              one_more = omega arith;
            }
        fitting false k = record { undecided = u; nothing_settles = n; is_cheapest = e; too_long = k }

pub step_right : (fits : Fits) (s : State) → Proper s.formula → Right fits s (step fits s)
unfolding step step_by undecided_step Right
step_right fits s p = by (verdict s.formula.matrix) refl
  where
    open-case : verdict s.formula.matrix ≡ none → (o : Option ℕ) → lowest s.formula ≡ o → Right fits s (undecided_step fits s o)
    open-case u none e = expand_right fits s p u e
    open-case u (some x) e =
        let c = lowest-chosen s.formula x e in
        settle_right fits s x (may_settle x s.formula) p c.1 refl c.0

    by : (o : Option Bool) → verdict s.formula.matrix ≡ o → Right fits s (step_by fits s o)
    by (some v) e = e
    by none e = open-case e (lowest s.formula) refl

-- a whole run, from a proper formula and with enough turns
pub record RunRight (fits : Fits) (s : State) (r : Run) : Type 0 where
  pub same_truth : truth r.state.formula ≡ truth s.formula
  pub still_proper : Proper r.state.formula
  pub counts : r.state.settles + r.state.expands + length r.state.formula.prefix ≡
      s.settles + s.expands + length s.formula.prefix
  pub on_ended : (v : Bool) → r.end ≡ ended v → (verdict r.state.formula.matrix ≡ some v) × (v ≡ truth s.formula)
  pub on_stopped : (x : ℕ) → r.end ≡ stopped x → Stuck fits r.state.formula x

halted : (fits : Fits) (s : State) (e : End) → Proper s.formula → Right fits s (halt e) → RunRight fits s (record { end = e; state = s })
unfolding Right
halted fits s (ended v) p r =
    record {
      same_truth = refl;
      still_proper = p;
      counts = refl;
      on_ended = λ w h. let k : v ≡ w = cc in (r ∙ ap some k, sym k ∙ sym (verdict-truth s.formula v r));
      on_stopped = λ x h. let z : ◌≡◌ {A = Bool} true false = cc in absurd (true≢false z);
    }
halted fits s (stopped y) p r =
    record {
      same_truth = refl;
      still_proper = p;
      counts = refl;
      on_ended = λ w h. let z : ◌≡◌ {A = Bool} true false = cc in absurd (true≢false z);
      on_stopped = λ x h. let k : y ≡ x = cc in subst (λ (n : ℕ). Stuck fits s.formula n) k r;
    }

went_on : (fits : Fits) (s s' : State) (r : Run) → Made s s' → RunRight fits s' r → RunRight fits s r
went_on fits s s' r m k =
    record {
      same_truth = k.same_truth ∙ m.same_truth;
      still_proper = k.still_proper;
      counts = omega (arith, m.one_less, m.one_more, k.counts);
      on_ended = λ v h. ((k.on_ended v h).0, (k.on_ended v h).1 ∙ m.same_truth);
      on_stopped = k.on_stopped;
    }

pub run_right : (fits : Fits) (n : ℕ) (s : State) → length s.formula.prefix < n → Proper s.formula → RunRight fits s (run fits n s)
unfolding run go_on Right
run_right fits zero s h p = absurd (omega arith)
run_right fits (suc n) s h p = by (step fits s) (step_right fits s p) (λ s' l q. run_right fits n s' l q)
  where
    by : (t : Step) → Right fits s t
        → ((s' : State) → length s'.formula.prefix < n → Proper s'.formula → RunRight fits s' (run fits n s'))
        → RunRight fits s (go_on t s (λ s'. run fits n s'))
    by (halt e) r more = halted fits s e p r
    by (next s') r more =
        let m : Made s s' = r in
        went_on fits s s' (run fits n s') m (more s' (omega (arith, m.one_less)) m.still_proper)

-- so a verdict reached is the one that the run ends with, and a run that is stuck stops there
decided_ends : (fits : Fits) (s : State) (r : Run) → RunRight fits s r → (v : Bool) → verdict r.state.formula.matrix ≡ some v → r.end ≡ ended v
decided_ends fits s r k v d = by r.end refl
  where
    by : (e : End) → r.end ≡ e → r.end ≡ ended v
    by (ended w) h = let o = (k.on_ended w h).0 in let same : w ≡ v = cc in h ∙ ap ended same
    by (stopped x) h = let u = (k.on_stopped x h).undecided in let z : ◌≡◌ {A = Bool} true false = cc in absurd (true≢false z)

stuck_stops : (fits : Fits) (s : State) (r : Run) → RunRight fits s r → (x : ℕ) → Stuck fits r.state.formula x → r.end ≡ stopped x
stuck_stops fits s r k x u = by r.end refl
  where
    by : (e : End) → r.end ≡ e → r.end ≡ stopped x
    by (ended w) h =
        let o = (k.on_ended w h).0 in
        let n = u.undecided in
        let z : ◌≡◌ {A = Bool} true false = cc in
        absurd (true≢false z)
    by (stopped y) h =
        let c = (k.on_stopped y h).is_cheapest in
        let d = u.is_cheapest in
        let same : y ≡ x = cc in
        h ∙ ap stopped same

pub solve_right : (fits : Fits) (f : Formula) → distinct f.prefix ≡ true → closed f ≡ true → SolveRight fits f (solve fits f)
unfolding solve tidied
solve_right fits f d c =
    let start : State = record { formula = tidied f; settles = 0; expands = 0 } in
    let r = run_right fits (suc (length f.prefix)) start (omega arith) (proper_tidied f d c) in
    record {
      same_truth = r.same_truth ∙ truth-tidied f;
      counts = omega (arith, r.counts);
      is_neat = r.still_proper.is_neat;
      ends = λ v. ((λ h. (r.on_ended v h).0), decided_ends fits start _ r v);
      stops = λ x. (r.on_stopped x, stuck_stops fits start _ r x);
      on_ended = λ v h. (r.on_ended v h).1 ∙ truth-tidied f;
    }
