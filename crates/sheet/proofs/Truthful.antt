-- Every operation's answers are truthful: a law for each definition of `Truthful`, which the proof of the entry point cites.
-- Assumes nothing.
use mathlib.Core.Path.{◌≡◌, refl, sym, ◌∙◌, ap, subst, subst₂}
use mathlib.Core.Bool.{Bool, true, false}
use mathlib.Core.List.{List, ◌++◌}
use Prim.Native.Nat.{ℕ, ◌-◌, min}
use native.Mathlib.Omega.{arith}
use lib.ListN.{length, take, drop, replicate, length-append, length-replicate}
use lib.Seq.{take-append_seam, drop-append_seam}
use borrow.Author.Tests.{not-false}
use Rattle.formula.specs.Tree.{Op, Quantifier, Formula}
use Rattle.formula.specs.Truth.{truth}
use Rattle.formula.specs.Tidy.{is_tidy}
use Rattle.formula.specs.Trial.{Tried}
use Rattle.formula.specs.Certificates.{Certified}
use Rattle.formula.specs.Join.{Answer as Known}
use Rattle.sheet.specs.Format.{Bytes, Format, narrow, wide}
use Rattle.sheet.specs.Sheet.{formula, sheet}
use Rattle.sheet.specs.Check.{Answer, accepted, Test, passes, check_tests, check}
use Rattle.sheet.specs.Operations.{Written, padded, write, tidy_call, tidy_and_bound_tests, settle_tests, settle_call, quote_tests}
use Rattle.sheet.specs.Operations.{expand_tests, expand_call, execute_tests, execute_call, reduce_call, Solving, solve_call}
use Rattle.sheet.specs.Operations.{trial_call}
use Rattle.sheet.specs.Qdimacs.{qdimacs_call}
use Rattle.sheet.specs.Outer.{outer_tests, outer_call}
use Rattle.sheet.specs.Order.{sort_call}
use Rattle.sheet.specs.Guards.{Guards, Guarding, guards_call, Starts}
use Rattle.sheet.specs.Force.{Forcing, force_call}
use Rattle.sheet.specs.Conversion.{to_wide_call, to_narrow_call}
use Rattle.sheet.specs.Resume.{named, widened, with_counts, resume_call}
use Rattle.sheet.specs.Calls.{Call, settle, expand, execute, outer, perform, held}
use Rattle.sheet.specs.Steps.{Step, calls, Listed, steps_call}
use Rattle.sheet.specs.Limits.{Sound, Within}
use Rattle.sheet.specs.Strategy.{response_call, StrategyAnswer, Winning, strategy_call, solve_part, Claiming, claim_call}
use Rattle.sheet.specs.Truthful.{truth_of, SheetOf, TruthfulSheet, TruthfulText, TruthfulSteps, TruthfulTrial, Holds, TruthfulSolve, TruthfulGuards, TruthfulForce}
use Rattle.sheet.specs.Certificates.{certify_call}
use Rattle.sheet.specs.Clauses.{clauses_call}
use Rattle.sheet.specs.Decide.{Deciding, decide_call}
use Rattle.sheet.specs.Split.{split_call}
use Rattle.sheet.specs.Join.{join_call}
use Rattle.sheet.specs.Truthful.{TruthfulResponse, TruthfulStrategy, TruthfulClaim, TruthfulCertify, TruthfulDecide, TruthfulSplit, TruthfulJoin}
use Rattle.sheet.proofs.Tests.{passed-∷, passed-++, answer-passes, accepted_passes}
use Rattle.sheet.proofs.Limits.{narrow_sound, wide_sound}
use Rattle.sheet.proofs.RoundTrip.{formula-sheet, passes-sheet}
use Rattle.sheet.proofs.Calls.{perform_stepped, demand_3}
use Rattle.sheet.specs.Results.{Good}
use Rattle.sheet.proofs.Steps.{untidy_held, steps_taken}
use Rattle.sheet.proofs.Tidying.{tidy_right}
use Rattle.sheet.proofs.Reduction.{reduce_right}
use Rattle.sheet.proofs.Order.{sort_right}
use Rattle.sheet.proofs.Qdimacs.Answers.{qdimacs_right}
use Rattle.sheet.proofs.Verdicts.{solve_ended, solve_stopped, trial_right}
use Rattle.sheet.proofs.Conversion.{to-wide-converted, to-narrow-converted}
use Rattle.sheet.proofs.Guards.{guards_right, guards-initial}
use Rattle.sheet.proofs.Force.{force_right}
use Rattle.sheet.proofs.Strategy.Response.{response_right}
use Rattle.sheet.proofs.Strategy.Winning.{strategy_solves, strategy_sheet}
use Rattle.sheet.proofs.Strategy.Claim.{claims_right}
use Rattle.sheet.proofs.Certificates.{certify_right}
use Rattle.sheet.proofs.Clauses.{clauses_right}
use Rattle.sheet.proofs.Decide.{decide_verdict}
use Rattle.sheet.proofs.Join.{split_right, join_right}
use Rattle.sheet.proofs.Resume.{widened-sheet, answer_stopped, resume_taken, resume_ended}

-- sheets written

module _ (F : Format) (sound : Sound F) where
  -- the sheet of a formula within the limits
  sheet-of : (f : Formula) {t : Bool} → Within F f → truth f ≡ t → SheetOf F t (sheet F f)
  sheet-of f w e = record { is_accepted = passes-sheet F sound f w; is_truth = ap truth (formula-sheet F sound f w) ∙ e }

  -- what holds of a call holds of an answer and an output that are its own
  of_call : {t : Bool} {call w : Written} → ((n : ℕ) → call.answer ≡ accepted n → SheetOf F t (take n call.output)) → w ≡ call → TruthfulSheet F t w
  of_call {t} law e = subst (TruthfulSheet F t) (sym e) (record { on_accepted = law })

  pub tidy_truthful : (b out : Bytes) {w : Written} → w ≡ tidy_call F b out → TruthfulSheet F (truth_of F b) w
  tidy_truthful b out =
      of_call (λ n h.
      let r = tidy_right F sound b out n h in
      record { is_accepted = r.good.is_accepted; is_truth = r.same_truth })

  -- refusals 1 to 9 passed
  good_passed : (b : Bytes) (x : ℕ) (rest : List Test) → passes (check_tests F b ++ tidy_and_bound_tests F b x ++ rest) ≡ true → Good F b
  unfolding tidy_and_bound_tests
  good_passed b x rest h =
      let passed = (passed-++ (check_tests F b ++ tidy_and_bound_tests F b x) rest h).0 in
      let two = passed-++ (check_tests F b) (tidy_and_bound_tests F b x) passed in
      record { is_accepted = two.0; is_neat = not-false (is_tidy (formula F b).matrix) (passed-∷ _ _ two.1).0 }

  quoted_good : (b : Bytes) (x : ℕ) (rest : List Test) → passes (quote_tests F b x ++ rest) ≡ true → Good F b
  unfolding quote_tests
  quoted_good b x rest h = good_passed b x _ (passed-++ (quote_tests F b x) rest h).0

  accepted_good : (c : Call) (b : Bytes) (n : ℕ) → (perform F c b).answer ≡ accepted n → Good F b
  unfolding perform settle_call settle_tests expand_call expand_tests execute_call execute_tests outer_call outer_tests write
  accepted_good (settle x out) b n h = good_passed b x _ (accepted_passes (settle_tests F b x (length out)) _ n h).0
  accepted_good (expand x out) b n h = quoted_good b x _ (accepted_passes (expand_tests F b x (length out)) _ n h).0
  accepted_good (execute x ceiling out) b n h = quoted_good b x _ (accepted_passes (execute_tests F b x ceiling (length out)) _ n h).0
  accepted_good (outer x out) b n h = good_passed b x _ (accepted_passes (outer_tests F b x (length out)) _ n h).0

  perform_truthful : (c : Call) (b : Bytes) (n : ℕ) → (perform F c b).answer ≡ accepted n → SheetOf F (truth_of F b) (take n (perform F c b).output)
  perform_truthful c b n h =
      let s = perform_stepped F sound c b n (accepted_good c b n h) h in
      record { is_accepted = s.still_good.is_accepted; is_truth = s.same_truth }

  pub settle_truthful : (b : Bytes) (x : ℕ) (out : Bytes) {w : Written} → w ≡ settle_call F b x out → TruthfulSheet F (truth_of F b) w
  unfolding perform
  settle_truthful b x out = of_call (perform_truthful (settle x out) b)

  pub expand_truthful : (b : Bytes) (x : ℕ) (out : Bytes) {w : Written} → w ≡ expand_call F b x out → TruthfulSheet F (truth_of F b) w
  unfolding perform
  expand_truthful b x out = of_call (perform_truthful (expand x out) b)

  pub execute_truthful : (b : Bytes) (x ceiling : ℕ) (out : Bytes) {w : Written} → w ≡ execute_call F b x ceiling out → TruthfulSheet F (truth_of F b) w
  unfolding perform
  execute_truthful b x ceiling out = of_call (perform_truthful (execute x ceiling out) b)

  pub outer_truthful : (b : Bytes) (x : ℕ) (out : Bytes) {w : Written} → w ≡ outer_call F b x out → TruthfulSheet F (truth_of F b) w
  unfolding perform
  outer_truthful b x out = of_call (perform_truthful (outer x out) b)

  pub reduce_truthful : (b out : Bytes) {w : Written} → w ≡ reduce_call F b out → TruthfulSheet F (truth_of F b) w
  reduce_truthful b out =
      of_call (λ n h.
      let r = reduce_right F sound b out n h in
      record { is_accepted = r.good.is_accepted; is_truth = r.same_truth })

  pub sort_truthful : (b out : Bytes) {w : Written} → w ≡ sort_call F b out → TruthfulSheet F (truth_of F b) w
  sort_truthful b out =
      of_call (λ n h.
      let r = sort_right F sound b out n h in
      record { is_accepted = r.is_accepted; is_truth = r.same_truth })

  pub clauses_truthful : (b out : Bytes) {w : Written} → w ≡ clauses_call F b out → TruthfulSheet F (truth_of F b) w
  clauses_truthful b out =
      of_call (λ n h.
      let r = clauses_right F sound b out n h in
      record { is_accepted = r.is_accepted; is_truth = r.same_truth })

  pub qdimacs_truthful : (t out : Bytes) {w : Written} → w ≡ qdimacs_call F t out → TruthfulText F t w
  unfolding check
  qdimacs_truthful t out =
      of_call (λ n h.
      let r = qdimacs_right F t out sound n h in
      record { is_accepted = (accepted_passes (check_tests F _) _ _ r.is_checked).0; is_truth = ap truth r.same_formula })

  -- a list of steps: of a tidy sheet demand 3 says it, and any other stays the sheet held
  steps_hold : (b : Bytes) (steps : List Step) (first second : Bytes) (n : ℕ) → (steps_call F b steps first second).answer ≡ accepted n
      → SheetOf F (truth_of F b) (take n (steps_call F b steps first second).first)
  unfolding check
  steps_hold b steps first second n h =
      let taken = steps_taken F b steps first second n h in
      subst (SheetOf F (truth_of F b)) (sym taken.at_front) (by (is_tidy (formula F b).matrix) refl taken.checked)
    where
      by : (m : Bool) → is_tidy (formula F b).matrix ≡ m → passes (check_tests F b) ≡ true
          → SheetOf F (truth_of F b) (held F b (calls (min (length first) (length second)) steps)).sheet
      by true t checked =
          let d = demand_3 F sound b _ (answer-passes (check_tests F b) _ checked) t (calls (min (length first) (length second)) steps) in
          record { is_accepted = (accepted_passes (check_tests F _) _ _ d.is_accepted.1).0; is_truth = d.same_truth }
      by false t checked =
          subst (SheetOf F (truth_of F b)) (sym (untidy_held F b checked t (min (length first) (length second)) steps))
          (record { is_accepted = checked; is_truth = refl })

  pub steps_truthful : (b : Bytes) (steps : List Step) (first second : Bytes) {l : Listed} → l ≡ steps_call F b steps first second
      → TruthfulSteps F (truth_of F b) l
  steps_truthful b steps first second e = subst (TruthfulSteps F (truth_of F b)) (sym e) (record { on_accepted = steps_hold b steps first second })

  -- runs

  padded-holds : (f : Formula) (len : ℕ) {t : Bool} {buffer : Bytes} → Within F f → truth f ≡ t → buffer ≡ padded len (sheet F f) → Holds F t buffer
  unfolding padded
  padded-holds f len {t} {buffer} w e is =
      let s = sheet F f in
      let zeros : Bytes = replicate (len - length s) 0 in
      let left : len - length s ≡ length buffer - length s
      = omega (arith, ap length is, length-append s zeros, length-replicate {A = ℕ} (len - length s) 0) in
      record {
        size = length s;
        at_front = subst (SheetOf F t) (sym (ap (take (length s)) is ∙ take-append_seam s zeros)) (sheet-of f w e);
        zeros_behind = ap (drop (length s)) is ∙ drop-append_seam s zeros ∙ ap (λ n. replicate n 0) left;
      }

  pub solve_truthful : (b first second : Bytes) {s : Solving} → s ≡ solve_call F b first second → TruthfulSolve F (truth_of F b) s
  solve_truthful b first second e =
      subst (TruthfulSolve F (truth_of F b)) (sym e)
      (record {
        on_ended = λ v settles expands h. (solve_ended F b first second v settles expands h).0;
        on_stopped =
            λ x settles expands h.
            let s = solve_stopped F b first second x settles expands h in
            padded-holds s.0 (length first) s.1.within s.1.same_truth s.1.in_first;
      })

  pub guards_truthful : (b out first second : Bytes) {g : Guarding} → g ≡ guards_call F b out first second → TruthfulGuards F b g
  guards_truthful b out first second e =
      subst (TruthfulGuards F b) (sym e)
      (record {
        on_true = λ n m h. sym (solve_ended F b first second true n m (starts h)).0;
        on_kept =
            λ n stops h.
            let run = starts h in
            (sym (solve_ended F b first second false run.0 run.1 run.2).0, guards_right F b out first second sound n stops h);
      })
    where
      starts : {a : Guards} → (guards_call F b out first second).answer ≡ a → Starts a (solve_call F b first second).answer
      starts h = subst (λ (a : Guards). Starts a (solve_call F b first second).answer) h (guards-initial F b out first second)

  -- strategies

  pub response_truthful : (b : Bytes) (x : ℕ) (out : Bytes) {w : Written} → w ≡ response_call F b x out → TruthfulResponse F b x w
  response_truthful b x out e = subst (TruthfulResponse F b x) (sym e) (record { on_accepted = response_right F b x out sound })

  pub strategy_truthful : (b first second out : Bytes) {w : Winning} → w ≡ strategy_call F b first second out → TruthfulStrategy F b w
  unfolding solve_part
  strategy_truthful b first second out e =
      subst (TruthfulStrategy F b) (sym e)
      (record {
        on_written =
            λ v settles expands n h. (
              (solve_ended F b first second v settles expands (solves h)).0,
              (strategy_sheet F b first second out sound v settles expands n h).1,
            );
        on_too_long = λ v settles expands n h. (solve_ended F b first second v settles expands (solves h)).0;
        on_stopped =
            λ x settles expands h.
            let s = solve_stopped F b first second x settles expands (solves h) in
            padded-holds s.0 (length first) s.1.within s.1.same_truth ((strategy_solves F b first second out).1 ∙ s.1.in_first);
      })
    where
      solves : {a : StrategyAnswer} → (strategy_call F b first second out).answer ≡ a → (solve_call F b first second).answer ≡ solve_part a
      solves h = sym (strategy_solves F b first second out).0 ∙ ap solve_part h

  pub claim_truthful : (b : Bytes) (q : Quantifier) (s out : Bytes) {w : Claiming} → w ≡ claim_call F b q s out → TruthfulClaim F b q s w
  claim_truthful b q s out e = subst (TruthfulClaim F b q s) (sym e) (record { on_written = claims_right F b q s out sound })

pub to_wide_truthful : (b out : Bytes) {w : Written} → w ≡ to_wide_call b out → TruthfulSheet wide (truth_of narrow b) w
to_wide_truthful b out =
    of_call wide wide_sound (λ n h.
    let r = to-wide-converted b out n h in
    record { is_accepted = r.is_accepted; is_truth = r.same_truth })

pub to_narrow_truthful : (b out : Bytes) {w : Written} → w ≡ to_narrow_call b out → TruthfulSheet narrow (truth_of wide b) w
to_narrow_truthful b out =
    of_call narrow narrow_sound (λ n h.
    let r = to-narrow-converted b out n h in
    record { is_accepted = r.is_accepted; is_truth = r.same_truth })

pub trial_truthful : (F : Format) (b : Bytes) {a : Answer Tried} → a ≡ trial_call F b → TruthfulTrial (truth_of F b) a
trial_truthful F b e = subst (TruthfulTrial (truth_of F b)) (sym e) (record { on_accepted = λ r h. (trial_right F b r h).0 })

pub certify_truthful : (F : Format) (b : Bytes) (o : Op) (heads codes : List ℕ) {a : Answer Certified} → a ≡ certify_call F b o heads codes
    → TruthfulCertify (truth_of F b) a
certify_truthful F b o heads codes e =
    subst (TruthfulCertify (truth_of F b)) (sym e) (record { on_certain = λ v h. sym (certify_right F b o heads codes v h) })

pub force_truthful : (F : Format) (b vs first second : Bytes) {w : Forcing} → w ≡ force_call F b vs first second → TruthfulForce F b vs w
force_truthful F b vs first second e =
    subst (TruthfulForce F b vs) (sym e)
    (record {
      whose_turn = λ a h. (force_right F b vs first second a h).0;
      which_wins = λ a h. (force_right F b vs first second a h).1;
    })

pub decide_truthful : (F : Format) (b : Bytes) (budget : ℕ) (first second stack : Bytes) {d : Deciding}
    → d ≡ decide_call F b budget first second stack → TruthfulDecide (truth_of F b) d
decide_truthful F b budget first second stack e =
    subst (TruthfulDecide (truth_of F b)) (sym e) (record { on_ended = λ v n h. (decide_verdict F b budget first second stack v n h).0 })

pub split_truthful : (F : Format) → Sound F → (b vs out : Bytes) {w : Written} → w ≡ split_call F b vs out → TruthfulSplit F b vs w
split_truthful F sound b vs out e =
    of_call F sound (λ n h.
    let r = split_right F sound b vs out n h in
    record { is_accepted = r.is_accepted; is_truth = ap truth r.is_under }) e

pub join_truthful : (F : Format) (b : Bytes) (k : ℕ) (xs : Bytes) {a : Answer Known} → a ≡ join_call F b k xs → TruthfulJoin F b k xs a
join_truthful F b k xs e = record { on_known = λ v h right. join_right F b k xs v (sym e ∙ h) right }

pub resume_truthful : (started settles expands : ℕ) (b : Bytes) (w : Bool) (first second : Bytes) {s : Solving}
    → s ≡ resume_call started settles expands b w first second → TruthfulSolve wide (truth_of (named w) b) s
unfolding with_counts
resume_truthful started settles expands b w first second e =
    subst (TruthfulSolve wide (truth_of (named w) b)) (sym e)
    (record {
      on_ended = λ v n m h. resume_ended started settles expands b w first second v n m h;
      on_stopped =
          λ x n m h.
          let t = resume_taken started settles expands b w first second (λ k i g. let z : ◌≡◌ {A = ℕ} 0 1 = cc in omega arith) in
          let run = solve_call wide (widened w b) first second in
          let own = answer_stopped settles expands run.answer (sym (ap (λ (s : Solving). s.answer) t.1) ∙ h) in
          subst₂ (Holds wide) (ap truth (widened-sheet w b t.0).same_formula) (sym (ap (λ (s : Solving). s.first) t.1))
          ((solve_truthful wide wide_sound (widened w b) first second refl).on_stopped x own.0 own.1.0 own.1.1);
    })
