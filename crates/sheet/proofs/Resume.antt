-- A stopped run carried over: for any state a verdict is the truth of the sheet given; and a state that came from a stop of Solve goes on,
-- in buffers twice as long, as one run under the new limits from the first sheet on.
-- Assumes nothing.
use mathlib.Core.Path.{◌≡◌, refl, sym, ◌∙◌, ap, ap₂, subst₂}
use mathlib.Core.Bool.{Bool, true, false}
use mathlib.Core.List.{List, []}
use Prim.Native.Nat.{ℕ, ◌+◌, ◌*◌, ◌≤◌, ◌<◌}
use native.Mathlib.Omega.{arith}
use lib.ListN.{length, take, drop, replicate, length-drop}
use lib.Seq.{take-append-le, drop-append-le, take-append_seam}
use borrow.Author.Tests.{lt-ltb, le-ltb, ltb-false, eq-eqb, ne_eqb}
use Rattle.formula.specs.Tree.{Formula, rows}
use Rattle.formula.specs.Truth.{truth}
use Rattle.formula.specs.Solve.{State, End, ended, stopped, Fits, Run, solve}
use Rattle.formula.specs.Trace.{Looser}
use Rattle.formula.specs.Resume.{add_to_state, add_to_run}
use Rattle.formula.proofs.Solve.{solve_right}
use Rattle.formula.proofs.Resume.{solve-resumed}
use Rattle.sheet.specs.Format.{Bytes, Format, narrow, wide, sheet_length, fits, number, variables, nodes}
use Rattle.sheet.specs.Sheet.{formula, sheet}
use Rattle.sheet.specs.Check.{Answer, refused, accepted, Test, answer, passes, check_tests, check}
use Rattle.sheet.specs.Operations.{padded, tidy_tests, Solved, is_refused, is_stopped, is_ended, Solving, solved, solving, solve_call}
use Rattle.sheet.specs.Limits.{Sound}
use Rattle.sheet.specs.Trace.{room}
use Rattle.sheet.specs.Resume.{named, widened, resume_tests, add_to_answer, with_counts, resuming, resume_call}
use Rattle.sheet.proofs.Tests.{passed-∷, passes-++, passed-++, answer-++, answer-passes, accepted_passes, refused_first}
use Rattle.sheet.proofs.Limits.{narrow_sound, wide_sound}
use Rattle.sheet.proofs.Parts.{sheet_length-rows}
use Rattle.sheet.proofs.RoundTrip.{variables-sheet, nodes-sheet, formula-sheet, passes-sheet}
use Rattle.sheet.proofs.Accepted.{accepted_length, accepted_variables, accepted_nodes, accepted_within}
use Rattle.sheet.proofs.Placed.{Placed, solve_placed}
use Rattle.sheet.proofs.Verdicts.{solve_ended}
use Rattle.sheet.proofs.Refusals.{solve_refused}
use Rattle.sheet.proofs.Longer.{fits_looser}
use Rattle.sheet.proofs.Conversion.{to_wide-within, sheet_converted, length_converted}

-- the sheet widened

named_sound : (w : Bool) → Sound (named w)
named_sound true = narrow_sound
named_sound false = wide_sound

pub record Widened (w : Bool) (b : Bytes) : Type 0 where
  pub is_accepted : passes (check_tests wide (widened w b)) ≡ true
  pub same_formula : formula wide (widened w b) ≡ formula (named w) b
  pub its_length : length (widened w b) ≡ sheet_length wide (variables (named w) b) (nodes (named w) b)

pub widened-sheet : (w : Bool) (b : Bytes) → passes (check_tests (named w) b) ≡ true → Widened w b
unfolding widened
widened-sheet true b h =
    let c = sheet_converted narrow wide wide_sound b h (to_wide-within b h) in
    record {
      is_accepted = c.is_accepted;
      same_formula = c.same_formula;
      its_length = length_converted narrow wide wide_sound b h (to_wide-within b h);
    }
widened-sheet false b h = record { is_accepted = h; same_formula = refl; its_length = accepted_length wide b h }

-- Solve on it, in buffers that hold it
solve-widened : (w : Bool) (b first second : Bytes) → passes (check_tests (named w) b) ≡ true
    → sheet_length wide (variables (named w) b) (nodes (named w) b) ≤ room first second
    → solve_call wide (widened w b) first second ≡
    solving wide first second (accepted (solve (fits wide (room first second)) (formula (named w) b)))
unfolding solve_call tidy_tests passes
solve-widened w b first second h l =
    let v = widened-sheet w b h in
    ap (solving wide first second)
    (answer-passes (tidy_tests wide (widened w b) (room first second)) _
    (passes-++ (check_tests wide (widened w b)) _ ∙ rw (v.is_accepted, le-ltb (room first second) (length (widened w b)) (omega (arith, v.its_length)))) ∙
    ap (λ f. accepted (solve (fits wide (room first second)) f)) v.same_formula)

-- any state

answer_ended : (settles expands : ℕ) (r : Solved) {n m : ℕ} {v : Bool} → add_to_answer settles expands r ≡ is_ended v n m
    → (k : ℕ) × ((l : ℕ) × (r ≡ is_ended v k l))
unfolding add_to_answer
answer_ended s t (is_refused n i) e = let z : ◌≡◌ {A = ℕ} 0 1 = cc in absurd (omega arith)
answer_ended s t (is_stopped x k l) e = let z : ◌≡◌ {A = ℕ} 0 1 = cc in absurd (omega arith)
answer_ended s t (is_ended u k l) {v = v} e = let same : u ≡ v = cc in (k, (l, ap (λ (t : Bool). is_ended t k l) same))

pub answer_stopped : (settles expands : ℕ) (r : Solved) {x n m : ℕ} → add_to_answer settles expands r ≡ is_stopped x n m
    → (k : ℕ) × ((l : ℕ) × (r ≡ is_stopped x k l))
unfolding add_to_answer
answer_stopped s t (is_refused n i) e = let z : ◌≡◌ {A = ℕ} 0 1 = cc in absurd (omega arith)
answer_stopped s t (is_stopped y k l) {x = x} e = let same : y ≡ x = cc in (k, (l, ap (λ (y : ℕ). is_stopped y k l) same))
answer_stopped s t (is_ended u k l) e = let z : ◌≡◌ {A = ℕ} 0 1 = cc in absurd (omega arith)

answer_refused : (settles expands : ℕ) (r : Solved) {n i : ℕ} → add_to_answer settles expands r ≡ is_refused n i → r ≡ is_refused n i
unfolding add_to_answer
answer_refused s t (is_refused m j) e = e
answer_refused s t (is_stopped x k l) e = let z : ◌≡◌ {A = ℕ} 0 1 = cc in absurd (omega arith)
answer_refused s t (is_ended u k l) e = let z : ◌≡◌ {A = ℕ} 0 1 = cc in absurd (omega arith)

module _ (started settles expands : ℕ) (b : Bytes) (w : Bool) (first second : Bytes) where
  abbrev tests : List Test
  tests = resume_tests started settles expands b w (room first second)

  abbrev goes : Solving
  goes = with_counts settles expands (solve_call wide (widened w b) first second)

  abbrev call : Solving
  call = resume_call started settles expands b w first second

  -- refused, with the buffers as they were
  abbrev left : ℕ → ℕ → Solving
  left n i = record { answer = is_refused n i; first = first; second = second }

  -- 1 to 8 come first
  pub resume_unchecked : {n i : ℕ} → refused n i ≡ check (named w) b → call ≡ left n i
  unfolding resume_call resuming resume_tests check
  resume_unchecked e = ap (resuming first second) (sym (refused_first (check_tests (named w) b) _ _ goes e))

  module _ (h : passes (check_tests (named w) b) ≡ true) where
    -- 25 comes next, however short the buffers
    pub resume-uncounted : (settles + expands + variables (named w) b ≡ started → ⊥) → call ≡ left 25 0
    unfolding resume_call resuming resume_tests answer
    resume-uncounted wrong = ap (resuming first second) refuses
      where
        refuses : answer tests goes ≡ refused 25 0
        refuses = answer-++ (check_tests (named w) b) _ goes h ∙ rw (ne_eqb (settles + expands + variables (named w) b) started wrong)

    module _ (right : settles + expands + variables (named w) b ≡ started) where
      pub resume-short : room first second < sheet_length wide (variables (named w) b) (nodes (named w) b) → call ≡ left 13 0
      unfolding resume_call resuming resume_tests answer
      resume-short l = ap (resuming first second) refuses
        where
          refuses : answer tests goes ≡ refused 13 0
          refuses =
              answer-++ (check_tests (named w) b) _ goes h ∙
              rw (eq-eqb (settles + expands + variables (named w) b) started right, lt-ltb (room first second) _ l)

      -- otherwise Solve runs on the widened sheet
      pub resume-runs : sheet_length wide (variables (named w) b) (nodes (named w) b) ≤ room first second
          → call ≡ with_counts settles expands (solving wide first second (accepted (solve (fits wide (room first second)) (formula (named w) b))))
      unfolding resume_call resuming resume_tests answer
      resume-runs l = ap (resuming first second) accepts ∙ ap (with_counts settles expands) (solve-widened w b first second h l)
        where
          accepts : answer tests goes ≡ accepted goes
          accepts =
              answer-++ (check_tests (named w) b) _ goes h ∙
              rw (eq-eqb (settles + expands + variables (named w) b) started right, le-ltb (room first second) _ l)

  -- an answer that is no refusal is Solve's on the widened sheet
  pub resume_taken : ((n i : ℕ) → call.answer ≡ is_refused n i → ⊥) → (passes (check_tests (named w) b) ≡ true) × (call ≡ goes)
  unfolding resume_call resuming resume_tests
  resume_taken no_refusal = by (answer tests goes) refl
    where
      by : (a : Answer Solving) → answer tests goes ≡ a → (passes (check_tests (named w) b) ≡ true) × (call ≡ goes)
      by (refused k i) h = absurd (no_refusal k i (ap (λ a. (resuming first second a).answer) h))
      by (accepted g) h =
          let p = accepted_passes tests goes g h in
          ((passed-++ (check_tests (named w) b) _ p.0).0, ap (resuming first second) (answer-passes tests goes p.0))

  -- a verdict is the truth of the sheet given
  pub resume_ended : (v : Bool) (n m : ℕ) → call.answer ≡ is_ended v n m → v ≡ truth (formula (named w) b)
  unfolding with_counts
  resume_ended v n m e =
      let t = resume_taken (λ k i h. let z : ◌≡◌ {A = ℕ} 0 1 = cc in omega arith) in
      let own = answer_ended settles expands (solve_call wide (widened w b) first second).answer (sym (ap (λ (s : Solving). s.answer) t.1) ∙ e) in
      (solve_ended wide (widened w b) first second v own.0 own.1.0 own.1.1).0 ∙ ap truth (widened-sheet w b t.0).same_formula

  -- refused, no byte of a buffer changes
  pub resume_refused : (n i : ℕ) → call.answer ≡ is_refused n i → (call.first ≡ first) × (call.second ≡ second)
  unfolding resume_call resuming with_counts
  resume_refused n i e = by (answer tests goes) refl
    where
      kept : (a : Answer Solving) → answer tests goes ≡ a → ((resuming first second a).first ≡ first) × ((resuming first second a).second ≡ second)
          → (call.first ≡ first) × (call.second ≡ second)
      kept a h k =
          (ap (λ x. (resuming first second x).first) h ∙ k.0, ap (λ x. (resuming first second x).second) h ∙ k.1)

      by : (a : Answer Solving) → answer tests goes ≡ a → (call.first ≡ first) × (call.second ≡ second)
      by (refused k j) h = kept (refused k j) h (refl, refl)
      by (accepted g) h =
          let p = accepted_passes tests goes g h in
          let t = sym (ap (λ a. (resuming first second a).answer) (answer-passes tests goes p.0)) ∙ e in
          kept (accepted goes) (answer-passes tests goes p.0)
          (solve_refused wide (widened w b) n i first second (answer_refused settles expands (solve_call wide (widened w b) first second).answer t))

-- a sheet at the front of a buffer

module _ (F : Format) (n : ℕ) where
  header-fits : (b : Bytes) → passes (check_tests F b) ≡ true → 2 * F.width ≤ length b
  header-fits b h = omega (arith, accepted_length F b h, sheet_length-rows F (variables F b) (nodes F b))

  variables-padded : (b : Bytes) → passes (check_tests F b) ≡ true → variables F (padded n b) ≡ variables F b
  unfolding variables padded
  variables-padded b h = ap number (take-append-le F.width b _ (omega (arith, header-fits b h)))

  nodes-padded : (b : Bytes) → passes (check_tests F b) ≡ true → nodes F (padded n b) ≡ nodes F b
  unfolding nodes padded
  nodes-padded b h =
      ap (λ l. number (take F.width l)) (drop-append-le F.width b _ (omega (arith, header-fits b h))) ∙
      ap number (take-append-le F.width (drop F.width b) _ (omega (arith, header-fits b h, length-drop F.width b)))

  -- two that Check accepts are the same
  front_unique : (b c : Bytes) → passes (check_tests F b) ≡ true → passes (check_tests F c) ≡ true → padded n b ≡ padded n c → b ≡ c
  unfolding padded
  front_unique b c h k e =
      let v = sym (variables-padded b h) ∙ ap (variables F) e ∙ variables-padded c k in
      let m = sym (nodes-padded b h) ∙ ap (nodes F) e ∙ nodes-padded c k in
      let same = accepted_length F b h ∙ ap₂ (sheet_length F) v m ∙ sym (accepted_length F c k) in
      sym (front b) ∙ ap₂ take same e ∙ front c
    where
      front : (d : Bytes) → take (length d) (padded n d) ≡ d
      front d = take-append_seam d _

-- a state that came from a stop

-- twice as long a buffer holds the wide sheet of as many rows
twice : (w : Bool) (v n m k : ℕ) → 2 * m ≤ k → sheet_length (named w) v n ≤ m → sheet_length wide v n ≤ k
unfolding sheet_length
twice true v n m k h l = omega arith
twice false v n m k h l = omega arith

named_looser : (w : Bool) (m k : ℕ) → 2 * m ≤ k → Looser (fits (named w) m) (fits wide k)
named_looser w m k h = fits_looser (named w) wide m k (most w) (λ v n l. twice w v n m k h l)
  where
    most : (w : Bool) → (named w).most_nodes ≤ wide.most_nodes
    most true = omega arith
    most false = omega arith

-- counts added to a run are added to what Solve shows of it
counts_shown : (first second : Bytes) (settles expands : ℕ) (r : Run)
    → solving wide first second (accepted (add_to_run settles expands r)) ≡ with_counts settles expands (solving wide first second (accepted r))
unfolding solving solved add_to_run add_to_state add_to_answer with_counts
counts_shown first second settles expands r =
    ap (λ a. record {
      answer = a;
      first = padded (length first) (sheet wide r.state.formula);
      second = replicate (length second) 0;
    })
    (by r.end)
  where
    by : (e : End) → solved e (add_to_state settles expands r.state) ≡ add_to_answer settles expands (solved e r.state)
    by (ended v) = refl
    by (stopped x) = refl

-- a stop shows its run
stopped_run : (e : End) (s : State) {x n m : ℕ} → solved e s ≡ is_stopped x n m → (s.settles ≡ n) × (s.expands ≡ m)
unfolding solved
stopped_run (ended v) s h = let z : ◌≡◌ {A = ℕ} 0 1 = cc in absurd (omega arith)
stopped_run (stopped y) s h = (cc, cc)

module _ (w : Bool) (b₀ old₁ old₂ : Bytes) {x settles expands : ℕ}
    (stop : (solve_call (named w) b₀ old₁ old₂).answer ≡ is_stopped x settles expands) where
  abbrev F : Format
  F = named w

  abbrev most : ℕ
  most = room old₁ old₂

  abbrev end : Run
  end = solve (fits F most) (formula F b₀)

  abbrev reached : Formula
  reached = end.state.formula

  record Stop : Type 0 where
    checked : passes (check_tests F b₀) ≡ true
    room_for_first : sheet_length F (variables F b₀) (nodes F b₀) ≤ most
    settled_are : end.state.settles ≡ settles
    expanded_are : end.state.expands ≡ expands
    in_first : (solve_call F b₀ old₁ old₂).first ≡ padded (length old₁) (sheet F reached)

  stop_shows : Stop
  unfolding solve_call solving tidy_tests
  stop_shows = by (answer (tidy_tests F b₀ most) end) refl
    where
      by : (a : Answer Run) → answer (tidy_tests F b₀ most) end ≡ a → Stop
      by (refused n i) e =
          let t = sym (ap (λ (a : Answer Run). (solving F old₁ old₂ a).answer) e) ∙ stop in
          let z : ◌≡◌ {A = ℕ} 0 1 = cc in
          absurd (omega arith)
      by (accepted r) e =
          let p = accepted_passes (tidy_tests F b₀ most) end r e in
          let parts = passed-++ (check_tests F b₀) _ p.0 in
          let done = answer-passes (tidy_tests F b₀ most) end p.0 in
          let told = stopped_run end.end end.state (sym (ap (λ (a : Answer Run). (solving F old₁ old₂ a).answer) done) ∙ stop) in
          record {
            checked = parts.0;
            room_for_first = omega (arith, accepted_length F b₀ parts.0, ltb-false most (length b₀) (passed-∷ _ [] parts.1).0);
            settled_are = told.0;
            expanded_are = told.1;
            in_first = ap (λ (a : Answer Run). (solving F old₁ old₂ a).first) done;
          }

  first_placed : Placed F most (formula F b₀)
  first_placed =
      let h = stop_shows.checked in
      record {
        within = accepted_within F b₀ h;
        has_place = subst₂ (λ v n. sheet_length F v n ≤ most) (sym (accepted_variables F b₀ h)) (sym (accepted_nodes F b₀ h)) stop_shows.room_for_first;
      }

  placed : Placed F most reached
  placed = solve_placed F most (formula F b₀) first_placed

  -- the sheet reached: Check accepts it, and it stands in the first buffer with zeros behind it
  pub stop_sheet : (passes (check_tests F (sheet F reached)) ≡ true) ×
      ((solve_call F b₀ old₁ old₂).first ≡ padded (length old₁) (sheet F reached))
  stop_sheet = (passes-sheet F (named_sound w) reached placed.within, stop_shows.in_first)

  module _ (first second : Bytes) (longer : 2 * most ≤ room first second) where
    abbrev new : Bytes
    new = sheet F reached

    abbrev fits' : Fits
    fits' = fits wide (room first second)

    left_are : variables F new ≡ length reached.prefix
    left_are = variables-sheet F (named_sound w) reached placed.within

    nodes_are : nodes F new ≡ rows reached.matrix
    nodes_are = nodes-sheet F (named_sound w) reached placed.within

    adds_up : settles + expands + variables F new ≡ variables F b₀
    adds_up =
        let h = stop_shows.checked in
        let i = first_placed.within in
        omega (
          arith,
          left_are,
          accepted_variables F b₀ h,
          (solve_right (fits F most) (formula F b₀) i.is_distinct i.is_closed).counts,
          stop_shows.settled_are,
          stop_shows.expanded_are,
        )

    room_for_new : sheet_length wide (variables F new) (nodes F new) ≤ room first second
    room_for_new =
        twice w (variables F new) (nodes F new) most (room first second) longer
        (subst₂ (λ v n. sheet_length F v n ≤ most) (sym left_are) (sym nodes_are) placed.has_place)

    one_run : add_to_run settles expands (solve fits' reached) ≡ solve fits' (formula F b₀)
    one_run =
        let i = first_placed.within in
        sym
        (solve-resumed (fits F most) fits' (named_looser w most (room first second) longer) (formula F b₀) i.is_distinct i.is_closed ∙
        ap₂ (λ n m. add_to_run n m (solve fits' reached)) stop_shows.settled_are stop_shows.expanded_are)

    -- from the sheet reached on, as from the first sheet on
    reached_goes_on : resume_call (variables F b₀) settles expands new w first second ≡ solve_call wide (widened w b₀) first second
    reached_goes_on =
        resume-runs (variables F b₀) settles expands new w first second stop_sheet.0 adds_up room_for_new ∙
        ap (λ f. with_counts settles expands (solving wide first second (accepted (solve fits' f))))
        (formula-sheet F (named_sound w) reached placed.within) ∙
        sym (counts_shown first second settles expands (solve fits' reached)) ∙ ap (λ r. solving wide first second (accepted r)) one_run ∙
        sym
        (solve-widened w b₀ first second stop_shows.checked
        (twice w (variables F b₀) (nodes F b₀) most (room first second) longer stop_shows.room_for_first))

    -- For a state that came from a stop of Solve itself, b being the sheet in its first buffer, and new buffers each at least twice as long
    -- as the shorter old one: answer, counts and both buffers are those of one run under the new limits from the first sheet on.
    pub resume_goes_on : (b : Bytes) → passes (check_tests F b) ≡ true → (solve_call F b₀ old₁ old₂).first ≡ padded (length old₁) b
        → resume_call (variables F b₀) settles expands b w first second ≡ solve_call wide (widened w b₀) first second
    resume_goes_on b h held =
        let same = front_unique F (length old₁) b new h stop_sheet.0 (sym held ∙ stop_sheet.1) in
        ap (λ c. resume_call (variables F b₀) settles expands c w first second) same ∙ reached_goes_on
