-- The second run, turn by turn: the pairs drafted and those of the run from here on are those of the whole run.
-- Assumes nothing.
use mathlib.Core.Path.{◌≡◌, refl, sym, ap, ap₂, ◌∙◌, subst}
use mathlib.Core.Bool.{Bool, true, false, cond}
use mathlib.Core.List.{[], ◌∷◌, ◌++◌, append_assoc}
use mathlib.Core.Option.{none, some}
use Prim.Native.Nat.{ℕ, ◌+◌, ◌*◌, ◌^◌, ◌≤◌, ◌<◌}
use native.Mathlib.Omega.{arith}
use lib.ListN.{length}
use Rattle.formula.specs.Tree.{Quantifier, Formula}
use Rattle.formula.specs.Tidy.{verdict}
use Rattle.formula.specs.Solve.{Run, End, ended, stopped, halt, next, step}
use Rattle.formula.specs.Strategy.{Pairs, owns, left, Move, strategy, run_moves, moved}
use Rattle.formula.proofs.Solve.{Right, step_right}
use Rattle.formula.proofs.Strategy.Moves.{pair_of}
use Rattle.formula.proofs.Strategy.Wins.{strategy_halts, strategy_steps}
use Rattle.sheet.specs.Format.{Bytes, fits}
use Rattle.rows.specs.Formats.{format_of}
use Rattle.rows.specs.Layouts.{format_in}
use Rattle.rows.specs.Formulas.{prefix_in, matrix_in, formula_in}
use Rattle.rows.specs.declared.Format.{Format}
use Rattle.rows.specs.declared.Layout.{Layout}
use Rattle.pairs.specs.Pairs.{pair_rows}
use Rattle.pairs.proofs.Rows.{pair_rows-++}
use Rattle.next_function.specs.Next.{next_move}
use Rattle.solve.specs.declared.State.{State}
use Rattle.solve.specs.declared.step.Step.TheVariants as taken
use Rattle.solve.specs.Inner.Running.{Held, reached, begun, fits_in, Open, Stepped, run_from, shown}
use Rattle.solve.proofs.Holding.{proper}
use Rattle.solve.proofs.Stepping.{step-ends}
use Rattle.solve.proofs.Turning.{Turn, turn_first, turn-next, run_halt, still_shown}
use Rattle.strategy.specs.Inner.Drafts.{Drafted}
use Rattle.strategy.specs.Inner.Walking.{next_rows, pairs_from}
use Rattle.strategy.proofs.Drafting.{none_drafted, drafted_on}
use Rattle.strategy.proofs.NextPair.{next_pairs, no_pairs, next_pairs_rows}

-- a step on a sheet that isn't decided doesn't end the run
pub never_ended : {most : ℕ} (s : State) {b : Bytes} (h : Held most s.sheet b) → Open s b → (v : Bool)
    → step (fits_in s most) (reached s b) ≡ halt (ended v) → ⊥
unfolding Right formula_in
never_ended {most} s {b} h undecided v e =
    let some-verdict : verdict (matrix_in s.sheet b) ≡ some v
    = subst (Right (fits_in s most) (reached s b)) e (step_right (fits_in s most) (reached s b) (proper h)) in
    let both : none ≡ some v = sym undecided ∙ some-verdict in
    let z : ◌≡◌ {A = ℕ} 0 1 = cc in
    omega arith

-- and one on a decided sheet does
pub ends_decided : (most : ℕ) (s : State) (b : Bytes) {v : Bool} → verdict (matrix_in s.sheet b) ≡ some v
    → step (fits_in s most) (reached s b) ≡ halt (ended v)
unfolding formula_in
ends_decided most s b {v} d = step-ends (fits_in s most) (formula_in s.sheet b) s.settled s.expanded v d

-- the side's pairs from a state on, by its step

module _ (q : Quantifier) (most : ℕ) (s : State) (b : Bytes) where
  pub pairs_end : (e : End) → step (fits_in s most) (reached s b) ≡ halt e → pairs_from q most s b ≡ left q (prefix_in s.sheet b)
  unfolding formula_in
  pairs_end e h = strategy_halts (fits_in s most) q s.sheet.variables (reached s b) e h

  pub pairs_next : (t : State) (c : Bytes) → Stepped most s b [] c [] (taken.Next t)
      → pairs_from q most s b ≡ next_pairs q (formula_in s.sheet b) ++ pairs_from q most t c
  pairs_next t c k =
      strategy_steps (fits_in s most) q s.sheet.variables (reached s b) (reached t c) k.0 ∙
      ap (λ (g : Pairs). cond own (pair_of m f ∷ g) g) rest ∙ split own
    where
      f : Formula
      f = formula_in s.sheet b

      m : Move
      m = next_move f

      own : Bool
      own = owns q f.prefix (moved m)

      rest : strategy q (run_moves (fits_in s most) s.sheet.variables (reached t c)) (formula_in t.sheet c) ≡ pairs_from q most t c
      rest =
          ap₂ (λ n (g : Format). strategy q (run_moves (fits (format_of g) most) n (reached t c)) (formula_in t.sheet c)) k.2 (sym k.4)

      split : (o : Bool) → cond o (pair_of m f ∷ pairs_from q most t c) (pairs_from q most t c) ≡ cond o (pair_of m f ∷ []) [] ++ pairs_from q most t c
      split true = refl
      split false = refl

-- Begun in state s₀ with the sheet in b₀ and row at₀ of the output next, the run stands in state s with the sheet in b and row at.
pub record Walking (most : ℕ) (q : Quantifier) (t : Layout) (s₀ s : State) (b₀ b old out : Bytes) (at₀ at : ℕ) : Type 0 where
  pub turn : Turn most s₀ s b₀ b
  pub done : Pairs
  pub owed : done ++ pairs_from q most s b ≡ pairs_from q most s₀ b₀
  pub drafted : Drafted t old out at₀ at (pair_rows done)
  pub few_rows : at + 8194 * s.sheet.variables ≤ at₀ + 8194 * s₀.sheet.variables

pub walking_first : {most : ℕ} (q : Quantifier) (t : Layout) {s : State} {b : Bytes} (out : Bytes) (at : ℕ) → Held most s.sheet b
    → begun s < 2 ^ 32 → Walking most q t s s b b out out at at
walking_first q t out at h l =
    record {
      turn = turn_first h l;
      done = [];
      owed = refl;
      drafted = subst (Drafted t out out at at) (sym no_pairs) (none_drafted t out at);
      few_rows = omega arith;
    }

module _ {most : ℕ} {q : Quantifier} {t : Layout} {s₀ s : State} {b₀ b old out : Bytes} {at₀ at : ℕ}
    (w : Walking most q t s₀ s b₀ b old out at₀ at) where
  -- the run ends with a verdict, so its step doesn't stop
  pub walking_on : {v : Bool} → (run_from most s₀ b₀).end ≡ ended v → (x : ℕ) → step (fits_in s most) (reached s b) ≡ halt (stopped x) → ⊥
  walking_on {v} e x h =
      let stops : stopped x ≡ ended v
      = sym (ap (λ (r : Run). r.end) (w.turn.same_run ∙ run_halt (fits_in s most) s.sheet.variables (reached s b) (stopped x) h)) ∙ e in
      let z : ◌≡◌ {A = ℕ} 0 1 = cc in
      omega arith

  pub walking_next : {s' : State} {new : Bytes} {next : ℕ} {after : Bytes} → Stepped most s b [] new [] (taken.Next s') → length new ≡ length b
      → Drafted t out after at next (next_rows q (formula_in s.sheet b)) → next ≤ at + 8194
      → Walking most q t s₀ s' b₀ new old after at₀ next
  walking_next {s'} {new} {next} {after} k l d few =
      let f = formula_in s.sheet b in
      record {
        turn = turn-next w.turn [] k l;
        done = w.done ++ next_pairs q f;
        owed =
            append_assoc w.done (next_pairs q f) (pairs_from q most s' new) ∙ ap (λ g. w.done ++ g) (sym (pairs_next q most s b s' new k)) ∙ w.owed;
        drafted =
            subst (Drafted t old after at₀ next)
            (ap (λ l. pair_rows w.done ++ l) (sym (next_pairs_rows q f)) ∙ sym (pair_rows-++ w.done (next_pairs q f)))
            (drafted_on w.drafted d);
        few_rows = omega (arith, few, w.few_rows, k.2);
      }

  module _ {v : Bool} (decided : step (fits_in s most) (reached s b) ≡ halt (ended v)) where
    pub walking-last : {next : ℕ} {after : Bytes} → Drafted t out after at next (pair_rows (left q (prefix_in s.sheet b)))
        → Drafted t old after at₀ next (pair_rows (pairs_from q most s₀ b₀))
    walking-last {next} {after} d =
        subst (Drafted t old after at₀ next)
        (sym (pair_rows-++ w.done (left q (prefix_in s.sheet b))) ∙
        ap (λ g. pair_rows (w.done ++ g)) (sym (pairs_end q most s b (ended v) decided)) ∙ ap pair_rows w.owed)
        (drafted_on w.drafted d)

    pub walking-shows : b ≡ shown (format_in s₀.sheet) (length b₀) (run_from most s₀ b₀)
    walking-shows = still_shown w.turn (ended v) decided refl
