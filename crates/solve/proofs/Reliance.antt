-- What the code's own answers can be relied on for, beside what its contract says: a stop shows its last state, and with longer buffers Solve
-- says the same.
-- Assumes nothing.
use mathlib.Core.Path.{◌≡◌, refl, sym, ap, ap₂, ◌∙◌}
use mathlib.Core.Bool.{true≢false}
use mathlib.Core.List.{[], ◌∷◌, IsPrefix}
use Prim.Native.Nat.{ℕ, ◌≤◌}
use native.Mathlib.Omega.{arith}
use lib.ListN.{length, get_or}
use Rattle.std.specs.Prelude.{Result, Ok, Err}
use Rattle.formula.specs.Tree.{Formula}
use Rattle.formula.specs.Solve.{ended as run_ended, stopped as run-stopped}
use Rattle.sheet.specs.Format.{Bytes, Format}
use Rattle.sheet.specs.Sheet.{sheet as sheet-of}
use Rattle.sheet.specs.Operations.{padded, is_refused, is_stopped, is_ended, solved, solve_call}
use Rattle.sheet.specs.Trace.{solve_states}
use Rattle.sheet.specs.Reliance.{Shows, no_state, last_state, Longer}
use Rattle.sheet.proofs.Longer.{solve_shows, longer_buffers, both_ended}
use Rattle.rows.specs.Refusals.{number_of, place_of}
use Rattle.rows.specs.declared.refusals.Refusal.{Refusal}
use Rattle.rows.specs.declared.refusals.Refusal.TheVariants.{TooShort, SizeOutside, WrongLength, BadKind, BadNumber, BoundTwice, Unbound, NotOneTree, NotTidy, NotInPrefix}
use Rattle.rows.specs.declared.refusals.Refusal.TheVariants.{WrongBlock, NotSettled, NoRoom, TooManyToTry, BadHeader, BadLists, BeyondHeader, NoNumbersLeft, AboveCeiling, NoClauses}
use Rattle.rows.specs.declared.refusals.Refusal.TheVariants.{BadValue, TooManyValues, RootNotAnd, NotNarrow, WrongCounts, NotAStrategy, ReadsBeyond, WrongAnswers, BadAnswer}
use Rattle.solve.specs.declared.Verdict.{Verdict}
use Rattle.solve.specs.declared.Verdict.TheVariants.{True, False}
use Rattle.solve.specs.declared.Solved.{Solved}
use Rattle.solve.specs.declared.Solved.TheVariants.{Stopped, Ended}
use Rattle.solve.specs.Answers.{verdict_of, solve_answer}
use Rattle.solve.specs.Stops.{Stop}

-- an answer r of a call of Solve on a format's sheet, as its contract has it
module _ (F : Format) (sheet first second : Bytes) (r : Result Solved Refusal) (contract : solve_answer r ≡ (solve_call F sheet first second).answer) where
  -- a stop: the last of the states, which the answer shows, and what the first buffer then holds
  module _ (held : Bytes) (holds : held ≡ (solve_call F sheet first second).first) where
    pub stop-shown : {x settled expanded : ℕ} → r ≡ Ok (Stopped x settled expanded) → Stop F sheet first second held settled expanded
    unfolding solved
    stop-shown {x} {settled} {expanded} e = by (solve_shows F sheet first second)
      where
        told : is_stopped x settled expanded ≡ (solve_call F sheet first second).answer
        told = ap solve_answer (sym e) ∙ contract

        by : Shows F sheet first second → Stop F sheet first second held settled expanded
        by (no_state n i a l) = let k = told ∙ a in let z : ◌≡◌ {A = ℕ} 0 1 = cc in absurd (omega arith)
        by (last_state (run_ended v) s a h l) = let k = told ∙ a in let z : ◌≡◌ {A = ℕ} 0 1 = cc in absurd (omega arith)
        by (last_state (run-stopped y) s a h l) =
            let k = told ∙ a in
            record { state = s; is_last = l; its_settled = cc; its_expanded = cc; its_sheet = holds ∙ h }

-- an answer is known by its words

verdict-known : (v w : Verdict) → verdict_of v ≡ verdict_of w → v ≡ w
verdict-known True True e = refl
verdict-known True False e = absurd (true≢false e)
verdict-known False True e = absurd (true≢false (sym e))
verdict-known False False e = refl

ended_known : (r : Result Solved Refusal) (v : Verdict) (settled expanded : ℕ) → solve_answer r ≡ is_ended (verdict_of v) settled expanded
    → r ≡ Ok (Ended v settled expanded)
ended_known (Err d) v settled expanded e = let z : ◌≡◌ {A = ℕ} 0 1 = cc in absurd (omega arith)
ended_known (Ok (Stopped x n m)) v settled expanded e = let z : ◌≡◌ {A = ℕ} 0 1 = cc in absurd (omega arith)
ended_known (Ok (Ended w n m)) v settled expanded e =
    let same : verdict_of w ≡ verdict_of v = cc in
    let k = verdict-known w v same in
    cc

-- a refusal is known by its number and place
named : ℕ → ℕ → Refusal
named n i =
    get_or
    (NoRoom ∷ TooShort ∷ SizeOutside ∷ WrongLength ∷ BadKind i ∷ BadNumber i ∷ BoundTwice i ∷ Unbound i ∷ NotOneTree i ∷ NotTidy i ∷ NotInPrefix ∷
    WrongBlock ∷ NotSettled ∷ NoRoom ∷ TooManyToTry ∷ BadHeader ∷ BadLists ∷ BeyondHeader ∷ NoNumbersLeft ∷ AboveCeiling ∷ NoClauses ∷
    BadValue ∷ TooManyValues ∷ RootNotAnd ∷ NotNarrow ∷ WrongCounts ∷ NotAStrategy ∷ ReadsBeyond i ∷ WrongAnswers ∷ BadAnswer ∷ [])
    n NoRoom

its_name : (e : Refusal) → named (number_of e) (place_of e) ≡ e
unfolding named
its_name TooShort = refl
its_name SizeOutside = refl
its_name WrongLength = refl
its_name (BadKind r) = refl
its_name (BadNumber r) = refl
its_name (BoundTwice r) = refl
its_name (Unbound r) = refl
its_name (NotOneTree r) = refl
its_name (NotTidy r) = refl
its_name NotInPrefix = refl
its_name WrongBlock = refl
its_name NotSettled = refl
its_name NoRoom = refl
its_name TooManyToTry = refl
its_name BadHeader = refl
its_name BadLists = refl
its_name BeyondHeader = refl
its_name NoNumbersLeft = refl
its_name AboveCeiling = refl
its_name NoClauses = refl
its_name BadValue = refl
its_name TooManyValues = refl
its_name RootNotAnd = refl
its_name NotNarrow = refl
its_name WrongCounts = refl
its_name NotAStrategy = refl
its_name (ReadsBeyond r) = refl
its_name WrongAnswers = refl
its_name BadAnswer = refl

refused_known : (r : Result Solved Refusal) (e : Refusal) → solve_answer r ≡ is_refused (number_of e) (place_of e) → r ≡ Err e
refused_known (Err d) e h =
    let number : number_of d ≡ number_of e = cc in
    let place : place_of d ≡ place_of e = cc in
    ap Err (sym (its_name d) ∙ ap₂ named number place ∙ its_name e)
refused_known (Ok (Stopped x s t)) e h = let z : ◌≡◌ {A = ℕ} 0 1 = cc in absurd (omega arith)
refused_known (Ok (Ended w s t)) e h = let z : ◌≡◌ {A = ℕ} 0 1 = cc in absurd (omega arith)

-- answers r and r' of two calls of Solve on a format's sheet, as their contracts have them
module _ (F : Format) (sheet first second first' second' : Bytes) (r r' : Result Solved Refusal)
    (contract : solve_answer r ≡ (solve_call F sheet first second).answer)
    (contract' : solve_answer r' ≡ (solve_call F sheet first' second').answer) where
  -- whichever buffers they have, two verdicts are the same one, with the same counts
  pub one_word : {v v' : Verdict} {settled settled' expanded expanded' : ℕ} → r ≡ Ok (Ended v settled expanded) → r' ≡ Ok (Ended v' settled' expanded')
      → r ≡ r'
  one_word {v} {v'} {settled} {settled'} {expanded} {expanded'} e e' =
      let same = both_ended F sheet first second first' second' (sym contract ∙ ap solve_answer e) (sym contract' ∙ ap solve_answer e') in
      e ∙ sym (ended_known r' v settled expanded (ap solve_answer e' ∙ sym same))

  module _ (longer : length first ≤ length first') (longer' : length second ≤ length second') where
    both : Longer F sheet first second first' second'
    both = longer_buffers F sheet first second first' second' longer longer'

    -- a verdict stays, with its counts, and the same sheet is reached
    pub verdict-stays : {v : Verdict} {settled expanded : ℕ} → r ≡ Ok (Ended v settled expanded) → r' ≡ Ok (Ended v settled expanded)
    verdict-stays {v} {settled} {expanded} e =
        ended_known r' v settled expanded
        (contract' ∙ (both.on_ended (verdict_of v) settled expanded (sym contract ∙ ap solve_answer e)).same_answer)

    pub sheet-stays : (held held' : Bytes) → held ≡ (solve_call F sheet first second).first
        → held' ≡ (solve_call F sheet first' second').first → {v : Verdict} {settled expanded : ℕ} → r ≡ Ok (Ended v settled expanded)
        → (f : Formula) × (held ≡ padded (length first) (sheet-of F f)) × (held' ≡ padded (length first') (sheet-of F f))
    sheet-stays held held' holds holds' {v} {settled} {expanded} e =
        let same = both.on_ended (verdict_of v) settled expanded (sym contract ∙ ap solve_answer e) in
        (same.reached, holds ∙ same.in_first, holds' ∙ same.in_first')

    -- the second call makes exactly the first one's steps first
    pub steps_first : IsPrefix (solve_states F sheet first second) (solve_states F sheet first' second')
    steps_first = both.begins

    -- refusals 1 to 8 stay; a refusal was one before, so no answer turns into one
    pub refusal-stays : {e : Refusal} → r ≡ Err e → (number_of e ≡ 13 → ⊥) → r' ≡ Err e
    refusal-stays {e} is k =
        refused_known r' e (contract' ∙ both.on_refused (number_of e) (place_of e) (sym contract ∙ ap solve_answer is) k)

    pub refusal-was : {e : Refusal} → r' ≡ Err e → r ≡ Err e
    refusal-was {e} is = refused_known r e (contract ∙ both.was_refused (number_of e) (place_of e) (sym contract' ∙ ap solve_answer is))
