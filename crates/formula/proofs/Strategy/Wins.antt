-- From any formula, the functions that a list of steps to a verdict gives the winner win; so do those of Solve's own run.
-- Assumes nothing.
use mathlib.Core.Path.{◌≡◌, refl, sym, ◌∙◌, ap, ap₂, subst}
use mathlib.Core.Bool.{Bool, true, false, ◌&&◌, cond, true≢false}
use mathlib.Core.List.{List, ◌∷◌}
use mathlib.Core.Option.{Option, none, some, get_or}
use Prim.Native.Nat.{ℕ, zero, suc}
use lib.ListN.{length}
use Rattle.formula.specs.Tree.{and, or, dual, same_op, Quantifier, Formula, binds, quantifier_of, distinct, closed}
use Rattle.formula.specs.Truth.{Assignment, put, join, eval, truth}
use Rattle.formula.specs.Tidy.{tidied, verdict}
use Rattle.formula.specs.Settle.{may_settle, settled}
use Rattle.formula.specs.Expand.{expanded}
use Rattle.formula.specs.Solve.{is_some, lowest, cheapest, State, End, ended, stopped, Step, halt, next, Fits, fits_raw, settle_step, expand_step, undecided_step, step_by}
use Rattle.formula.specs.Solve.{step, go_on, run, solve}
use Rattle.formula.specs.Right.{SolveRight}
use Rattle.formula.specs.Force.{wanted}
use Rattle.formula.specs.Strategy.{Pairs, play, owns, winner, function_of, Move, moved, allowed, made, after_move, reached, left, strategy, move_by, moves_on, run_moves}
use Rattle.formula.specs.Strategy.{solve_moves, solve_strategy, StrategyRight}
use Rattle.formula.proofs.Booleans.{and_parts}
use Rattle.formula.proofs.Tidy.Truth.{eval-tidy}
use Rattle.formula.proofs.Steps.{eval-verdict}
use Rattle.formula.proofs.Choice.{lowest-chosen, cheapest-chosen}
use Rattle.formula.proofs.Solve.{solve_right}
use Rattle.formula.proofs.Strategy.Rows.{side-dual}
use Rattle.formula.proofs.Strategy.Function.{both, eval_function}
use Rattle.formula.proofs.Strategy.Play.{well_formed_wins}
use Rattle.formula.proofs.Strategy.Truth.{put_same}
use Rattle.formula.proofs.Strategy.Moves.{Prenex, prenex_tidied, taken_made, pair_of, strategy-induction}
use Rattle.formula.proofs.Strategy.Ordered.{strategy-ordered}

-- what the other side gets with neither value
pub join_lost : (q : Quantifier) (B : Bool → Bool) → join (dual q) (B false) (B true) ≡ wanted q → (b : Bool) → B b ≡ wanted q
join_lost or B h true = (and_parts (B false) (B true) h).1
join_lost or B h false = (and_parts (B false) (B true) h).0
join_lost and B h true = by (B false) (B true) h
  where
    by : (a b : Bool) → join or a b ≡ false → b ≡ false
    by true b k = absurd (true≢false k)
    by false b k = k
join_lost and B h false = by (B false) (B true) h
  where
    by : (a b : Bool) → join or a b ≡ false → a ≡ false
    by true b k = k
    by false b k = refl

pub wanted-winner : (v : Bool) → wanted (winner v) ≡ v
wanted-winner true = refl
wanted-winner false = refl

-- a variable in the prefix that isn't the side's
lost_side : (q : Quantifier) (x : ℕ) (f : Formula) → binds f.prefix x ≡ true → owns q f.prefix x ≡ false
    → same_op q (quantifier_of f.prefix x) ≡ false
unfolding owns
lost_side q x f h o = ap (λ (m : Bool). m && same_op q (quantifier_of f.prefix x)) (sym h) ∙ o

-- the matrix with the functions has the wanted value
strategy-wanted : (q : Quantifier) (ms : List Move) (f : Formula) → Prenex f → verdict (reached ms f).matrix ≡ some (wanted q)
    → (ρ : Assignment) → eval f.matrix (play (strategy q ms f) ρ) ≡ wanted q
unfolding play
strategy-wanted q ms f s h =
    strategy-induction q (λ f g. (ρ : Assignment) → eval f.matrix (play g ρ) ≡ wanted q) own other ms f s
    (λ _ ρ. eval-verdict (reached ms f).matrix (wanted q) h (play (left q (reached ms f).prefix) ρ))
  where
    own : (m : Move) (f : Formula) (g : Pairs) → Prenex f → allowed m f ≡ true → owns q f.prefix (moved m) ≡ true
        → ((ρ : Assignment) → eval (made m f).matrix (play g ρ) ≡ wanted q)
        → (ρ : Assignment) → eval f.matrix (put (play g ρ) (moved m) (eval (function_of (moved m) f) (play g ρ))) ≡ wanted q
    own m f g s a o below ρ = eval_function (moved m) f (play g ρ) ∙ sym ((taken_made m f a).value_is (play g ρ)) ∙ below ρ

    other : (m : Move) (f : Formula) (g : Pairs) → Prenex f → allowed m f ≡ true → owns q f.prefix (moved m) ≡ false
        → ((ρ : Assignment) → eval (made m f).matrix (play g ρ) ≡ wanted q) → (ρ : Assignment) → eval f.matrix (play g ρ) ≡ wanted q
    other m f g s a o below ρ =
        let x : ℕ = moved m in
        let σ : Assignment = play g ρ in
        let r : Quantifier = quantifier_of f.prefix x in
        let t = taken_made m f a in
        let others : r ≡ dual q = side-dual q r (lost_side q x f t.was_bound o) in
        ap (eval f.matrix) (sym (put_same σ x (σ x) refl)) ∙
        join_lost q (λ b. eval f.matrix (put σ x b))
        (ap (λ (k : Quantifier). both k x f.matrix σ) (sym others) ∙ sym (t.value_is σ) ∙ below ρ) (σ x)

-- theorem 1: any list of allowed steps (those that aren't allowed change nothing) that leads to a verdict; none is one block out
pub strategy_right : (ms : List Move) (f : Formula) → distinct f.prefix ≡ true → closed f ≡ true
    → (v : Bool) → verdict (reached ms f).matrix ≡ some v → StrategyRight (winner v) f (strategy (winner v) ms f)
strategy_right ms f d c v h =
    let s : Prenex f = record { is_distinct = d; is_closed = c } in
    let w = (strategy-ordered (winner v) ms f s).well_formed in
    record {
      wins =
          well_formed_wins (winner v) f.prefix (eval f.matrix) (strategy (winner v) ms f) w
          (strategy-wanted (winner v) ms f s (h ∙ ap some (sym (wanted-winner v))));
      well_formed = w;
    }

-- the steps of Solve's run

step-moves : (fits : Fits) (s s' : State) → step fits s ≡ next s'
    → (allowed (move_by (lowest s.formula) (cheapest s.formula)) s.formula ≡ true) ×
    (made (move_by (lowest s.formula) (cheapest s.formula)) s.formula ≡ s'.formula)
unfolding step step_by undecided_step settle_step expand_step move_by is_some
step-moves fits s s' h = by (verdict s.formula.matrix) h
  where
    f : Formula
    f = s.formula

    Moves : Option ℕ → Option ℕ → Type 0
    Moves l c = (allowed (move_by l c) f ≡ true) × (made (move_by l c) f ≡ s'.formula)

    settles : (x : ℕ) → lowest f ≡ some x → (o : Option Bool) → may_settle x f ≡ o → settle_step s x o ≡ next s' → (c : Option ℕ) → Moves (some x) c
    settles x e none k n c = let z : ◌≡◌ {A = Bool} true false = cc in absurd (true≢false z)
    settles x e (some b) k n c = (
      ap₂ ◌&&◌ (lowest-chosen f x e).1 (ap is_some k),
      ap (λ (o : Option Bool). settled x (get_or o false) f) k ∙ cc,
    )

    expands : (o : Option ℕ) → cheapest f ≡ o → expand_step fits s o ≡ next s' → Moves none o
    expands none e n = let z : ◌≡◌ {A = Bool} true false = cc in absurd (true≢false z)
    expands (some x) e n = at (fits_raw fits x f) n
      where
        at : (m : Bool)
            → cond m (next (record { formula = expanded x f; settles = s.settles; expands = suc s.expands })) (halt (stopped x)) ≡ next s'
            → Moves none (some x)
        at true k = ((cheapest-chosen f x e).0, cc)
        at false k = let z : ◌≡◌ {A = Bool} true false = cc in absurd (true≢false z)

    undecided : (l : Option ℕ) → lowest f ≡ l → undecided_step fits s l ≡ next s' → Moves l (cheapest f)
    undecided none e n = expands (cheapest f) refl n
    undecided (some x) e n = settles x e (may_settle x f) refl n (cheapest f)

    by : (o : Option Bool) → step_by fits s o ≡ next s' → Moves (lowest f) (cheapest f)
    by (some v) n = let z : ◌≡◌ {A = Bool} true false = cc in absurd (true≢false z)
    by none n = undecided (lowest f) refl n

-- they lead where the run leads
pub reached-run : (fits : Fits) (n : ℕ) (s : State) → reached (run_moves fits n s) s.formula ≡ (run fits n s).state.formula
unfolding run go_on run_moves moves_on reached after_move
reached-run fits zero s = refl
reached-run fits (suc n) s = by (step fits s) refl (reached-run fits n)
  where
    m : Move
    m = move_by (lowest s.formula) (cheapest s.formula)

    by : (t : Step) → step fits s ≡ t → ((u : State) → reached (run_moves fits n u) u.formula ≡ (run fits n u).state.formula)
        → reached (moves_on t m (λ u. run_moves fits n u)) s.formula ≡ (go_on t s (λ u. run fits n u)).state.formula
    by (halt e) k more = refl
    by (next u) k more =
        let Made-so = step-moves fits s u k in
        ap (reached (run_moves fits n u))
        (ap (λ (a : Bool). cond a (made m s.formula) s.formula) Made-so.0 ∙ Made-so.1) ∙
        more u

pub reached-solve : (fits : Fits) (f : Formula) → reached (solve_moves fits f) (tidied f) ≡ (solve fits f).state.formula
unfolding solve solve_moves
reached-solve fits f = reached-run fits (suc (length f.prefix)) (record { formula = tidied f; settles = 0; expands = 0 })

-- the pairs of a run, step by step: a halt leaves the rows that are left, a step puts the pair of its variable in front of the rest
pub strategy_halts : (fits : Fits) (q : Quantifier) (n : ℕ) (s : State) (e : End) → step fits s ≡ halt e
    → strategy q (run_moves fits (suc n) s) s.formula ≡ left q s.formula.prefix
unfolding run_moves moves_on strategy
strategy_halts fits q n s e h =
    ap
    (λ (t : Step). strategy q (moves_on t (move_by (lowest s.formula) (cheapest s.formula)) (λ u. run_moves fits n u)) s.formula) h

pub strategy_steps : (fits : Fits) (q : Quantifier) (n : ℕ) (s s' : State) → step fits s ≡ next s'
    → (let m = move_by (lowest s.formula) (cheapest s.formula) in
    let rest = strategy q (run_moves fits n s') s'.formula in
    strategy q (run_moves fits (suc n) s) s.formula ≡ cond (owns q s.formula.prefix (moved m)) (pair_of m s.formula ∷ rest) rest)
unfolding run_moves moves_on strategy after_move
strategy_steps fits q n s s' h =
    let f : Formula = s.formula in
    let m : Move = move_by (lowest f) (cheapest f) in
    let Made-so = step-moves fits s s' h in
    let after : cond (allowed m f) (made m f) f ≡ s'.formula
    = ap (λ (a : Bool). cond a (made m f) f) Made-so.0 ∙ Made-so.1 in
    ap (λ (t : Step). strategy q (moves_on t m (λ u. run_moves fits n u)) f) h ∙
    ap₂
    (λ (a : Bool) (k : Formula). cond (a && owns q f.prefix (moved m)) (pair_of m f ∷ strategy q (run_moves fits n s') k)
    (strategy q (run_moves fits n s') k))
    Made-so.0 after

-- theorem 2
pub solve_strategy_right : (fits : Fits) (f : Formula) → distinct f.prefix ≡ true → closed f ≡ true
    → (v : Bool) → (solve fits f).end ≡ ended v → StrategyRight (winner v) f (solve_strategy fits (winner v) f)
unfolding solve_strategy tidied
solve_strategy_right fits f d c v h =
    let s = prenex_tidied f (record { is_distinct = d; is_closed = c }) in
    let decided : verdict (reached (solve_moves fits f) (tidied f)).matrix ≡ some v
    = ap (λ (k : Formula). verdict k.matrix) (reached-solve fits f) ∙ ((solve_right fits f d c).ends v).0 h in
    let r = strategy_right (solve_moves fits f) (tidied f) s.is_distinct s.is_closed v decided in
    record {
      wins =
          record {
            own_only = r.wins.own_only;
            has_wanted = λ ρ. sym (eval-tidy f.matrix _) ∙ r.wins.has_wanted ρ;
            by_front = r.wins.by_front;
          };
      well_formed = r.well_formed;
    }

-- where every raw sheet fits, Solve ends with the truth: so exactly the side that the truth favours has a strategy that wins
pub some_strategy : (f : Formula) → distinct f.prefix ≡ true → closed f ≡ true → (g : Pairs) × StrategyRight (winner (truth f)) f g
unfolding fits_raw
some_strategy f d c = by (solve always f).end refl
  where
    always : Fits
    always v n = true

    r : SolveRight always f (solve always f)
    r = solve_right always f d c

    by : (e : End) → (solve always f).end ≡ e → (g : Pairs) × StrategyRight (winner (truth f)) f g
    by (ended v) h =
        let right : v ≡ truth f = r.on_ended v h in (
          solve_strategy always (winner v) f,
          subst (λ (w : Bool). StrategyRight (winner w) f (solve_strategy always (winner v) f)) right (solve_strategy_right always f d c v h),
        )
    by (stopped x) h = absurd (true≢false ((r.stops x).0 h).too_long)
