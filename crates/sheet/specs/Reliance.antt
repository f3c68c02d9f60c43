-- What Solve is relied on for, on bytes: what it reached, what its buffers show of its states, and what longer buffers change.
-- Assumes nothing.
use Rattle.std.specs.Prelude.{◌≡◌, Bool, true, ◌↔◌, ℕ, ◌+◌, length, replicate}
use mathlib.Core.List.{[], IsPrefix, get_last?}
use Rattle.std.proofs.Math.Option.{some}
use Rattle.formula.specs.Tree.{Formula}
use Rattle.formula.specs.Truth.{truth}
use Rattle.formula.specs.Tidy.{is_tidy, verdict}
use Rattle.formula.specs.Solve.{State, End}
use Rattle.formula.specs.Right.{Stuck}
use Rattle.sheet.specs.Format.{Bytes, Format, fits, variables}
use Rattle.sheet.specs.Sheet.{formula, sheet}
use Rattle.sheet.specs.Operations.{padded, is_refused, is_stopped, is_ended, solved, solve_call}
use Rattle.sheet.specs.Limits.{Within}
use Rattle.sheet.specs.Trace.{room, solve_states}

-- The formula that a run of Solve reached, with its counts: both buffers show it, it is within the limits and tidy, its truth is the first
-- sheet's, and every step took one variable away. Solve ends with a verdict exactly if this formula has it, and stops at a variable exactly
-- if nothing in it can be settled and that variable, its cheapest, doesn't fit.
pub record Reached (F : Format) (b first second : Bytes) (f : Formula) (settles expands : ℕ) : Type 0 where
  pub in_first : (solve_call F b first second).first ≡ padded (length first) (sheet F f)
  pub in_second : (solve_call F b first second).second ≡ replicate (length second) 0
  pub within : Within F f
  pub is_neat : is_tidy f.matrix ≡ true
  pub same_truth : truth f ≡ truth (formula F b)
  pub counts : settles + expands + length f.prefix ≡ variables F b
  pub ends : (v : Bool) → ((solve_call F b first second).answer ≡ is_ended v settles expands) ↔ (verdict f.matrix ≡ some v)
  pub stops : (x : ℕ) → ((solve_call F b first second).answer ≡ is_stopped x settles expands) ↔ Stuck (fits F (room first second)) f x

module _ (F : Format) (b first second : Bytes) where
  -- What a call shows of its states: if it is refused there is none; else the last one, with its counts in the answer and its sheet in the
  -- first buffer.
  pub data Shows : Type 0 where
    no_state : (n i : ℕ) → (solve_call F b first second).answer ≡ is_refused n i → solve_states F b first second ≡ [] → Shows
    last_state : (e : End) (s : State) → (solve_call F b first second).answer ≡ solved e s
        → (solve_call F b first second).first ≡ padded (length first) (sheet F s.formula)
        → get_last? (solve_states F b first second) ≡ some s → Shows

module _ (F : Format) (b first second first' second' : Bytes) where
  -- a call that ended as the other one did, state after state, with the same sheet in its first buffer
  pub record SameEnd (v : Bool) (settles expands : ℕ) : Type 0 where
    pub same_answer : (solve_call F b first' second').answer ≡ is_ended v settles expands
    pub same_states : solve_states F b first' second' ≡ solve_states F b first second
    pub reached : Formula
    pub in_first : (solve_call F b first second).first ≡ padded (length first) (sheet F reached)
    pub in_first' : (solve_call F b first' second').first ≡ padded (length first') (sheet F reached)

  -- Longer buffers, same word: a verdict stays, with its counts and its sheet; whatever the answer, the states of the longer run begin with
  -- those of the shorter one; of the refusals only 13 may turn into an answer, and no answer turns into a refusal.
  pub record Longer : Type 0 where
    pub begins : IsPrefix (solve_states F b first second) (solve_states F b first' second')
    pub on_ended : (v : Bool) (settles expands : ℕ) → (solve_call F b first second).answer ≡ is_ended v settles expands
        → SameEnd v settles expands
    pub on_refused : (n i : ℕ) → (solve_call F b first second).answer ≡ is_refused n i → (n ≡ 13 → ⊥)
        → (solve_call F b first' second').answer ≡ is_refused n i
    pub was_refused : (n i : ℕ) → (solve_call F b first' second').answer ≡ is_refused n i
        → (solve_call F b first second).answer ≡ is_refused n i
