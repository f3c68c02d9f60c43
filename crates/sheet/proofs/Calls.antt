-- Demand 3: one theorem about a whole list of Settle, Expand, Execute and Outer calls.
-- Assumes nothing.
use mathlib.Core.Path.{◌≡◌, refl, sym, ◌∙◌, ap, subst}
use mathlib.Core.Bool.{Bool, true, false, false≢true}
use mathlib.Core.List.{List, [], ◌∷◌, ◌++◌}
use mathlib.Core.Option.{Option, none, some, get_or}
use Prim.Native.Nat.{ℕ, suc, ◌+◌, ◌-◌, ◌≤◌}
use native.Mathlib.Omega.{arith}
use native.Mathlib.Nat.{le_trans, zero-add, add-zero, add_assoc}
use lib.Dec.{leb}
use lib.ListN.{length, take, replicate}
use lib.Seq.{take-append_seam}
use borrow.Author.Tests.{not-false, leb-true}
use Rattle.formula.specs.Tree.{Prefix, Formula, of, rows, binds, without}
use Rattle.formula.specs.Truth.{truth}
use Rattle.formula.specs.Tidy.{is_tidy}
use Rattle.formula.specs.Settle.{may_settle, settled}
use Rattle.formula.specs.Expand.{innermost, raw, raw_rows, expanded}
use Rattle.formula.specs.Outer.{one_block_out, dependents, outer_rows, outer_expanded}
use Rattle.formula.specs.Solve.{is_some, fits_raw}
use Rattle.formula.proofs.Booleans.{and_parts}
use Rattle.formula.proofs.Closed.{length_without}
use Rattle.formula.proofs.Steps.{Proper, truth-settled, proper_settled, rows_settled, truth-expanded, proper_expanded, rows-expanded, verdict-truth, decided_without-variables}
use Rattle.formula.proofs.Outer.Step.{truth_outer, proper_outer, length_outer, copies_many, rows_outer}
use Rattle.sheet.specs.Format.{Bytes, Format, fits, variables, nodes}
use Rattle.sheet.specs.Sheet.{formula, sheet}
use Rattle.sheet.specs.Check.{Answer, refused, accepted, Test, passes, Sizes, check_tests, check}
use Rattle.sheet.specs.Operations.{padded, output_after, write, tidy_and_bound_tests, settle_tests, settle_call, quote_tests, expand_tests, expand_call, execute_tests, execute_call}
use Rattle.sheet.specs.Calls.{Call, settle, expand, execute, outer, perform, copies_by, Held, held_after, perform_all, held}
use Rattle.sheet.specs.Calls.{copies_after, copies_all, copies_made, none_outer, sheet_verdict, Demand3}
use Rattle.sheet.specs.Outer.{copies, outer_tests, outer_call}
use Rattle.sheet.proofs.Tests.{passed-∷, passed-++, answer-passes, accepted_passes}
use Rattle.sheet.specs.Limits.{Sound, Within}
use Rattle.sheet.proofs.Limits.{within_step, within_outer}
use Rattle.sheet.proofs.RoundTrip.{formula-sheet, passes-sheet}
use Rattle.sheet.proofs.Accepted.{accepted_within, accepted_variables}
use Rattle.sheet.specs.Results.{Good}

-- one call that makes k copies: the sheet that an accepted one leaves
pub record Stepped (F : Format) (b : Bytes) (k : ℕ) (b' : Bytes) : Type 0 where
  pub still_good : Good F b'
  pub same_truth : truth (formula F b') ≡ truth (formula F b)
  pub one_less : variables F b + k ≡ suc (variables F b')

-- the front of what an accepted call wrote is its new sheet
pub front_written : (tests : List Test) (new out : Bytes) (n : ℕ) → (write tests new out).answer ≡ accepted n
    → (passes tests ≡ true) × (take n (write tests new out).output ≡ new)
unfolding write output_after padded
front_written tests new out n h =
    let a = accepted_passes tests (length new) n h in (
      a.0,
      rw h (ap (λ (m : ℕ). take m (new ++ replicate (length out - length new) 0)) (sym a.1) ∙
          take-append_seam new (replicate (length out - length new) 0)),
    )

some_value : (o : Option Bool) → is_some o ≡ true → o ≡ some (get_or o false)
unfolding is_some
some_value none h = absurd (false≢true h)
some_value (some b) h = refl

module _ (F : Format) (sound : Sound F) where
  proper : (b : Bytes) → Good F b → Proper (formula F b)
  proper b g =
      let w = accepted_within F b g.is_accepted in
      record { is_distinct = w.is_distinct; is_closed = w.is_closed; is_neat = g.is_neat }

  -- a proper formula within the limits, written as a sheet, in place of one with one variable more, but for its copies
  written : (b : Bytes) (k : ℕ) (f : Formula) → Good F b → suc (length f.prefix) ≡ length (formula F b).prefix + k → Within F f
      → is_tidy f.matrix ≡ true → truth f ≡ truth (formula F b) → Stepped F b k (sheet F f)
  written b k f g shorter within neat t =
      let back : formula F (sheet F f) ≡ f = formula-sheet F sound f within in
      let good : Good F (sheet F f)
      = record {
        is_accepted = passes-sheet F sound f within;
        is_neat = ap (λ (k : Formula). is_tidy k.matrix) back ∙ neat;
      } in
      record {
        still_good = good;
        same_truth = ap truth back ∙ t;
        one_less =
            omega (
              arith,
              accepted_variables F b g.is_accepted,
              accepted_variables F (sheet F f) good.is_accepted,
              shorter,
              ap (λ (k : Formula). length k.prefix) back,
            );
      }

  stepped : (b : Bytes) (x : ℕ) (f : Formula) → Good F b → binds (formula F b).prefix x ≡ true
      → f.prefix ≡ without x (formula F b).prefix → Proper f → rows f.matrix ≤ F.most_nodes → truth f ≡ truth (formula F b)
      → Stepped F b 0 (sheet F f)
  stepped b x f g h e p l t =
      written b 0 f g (omega (arith, length_without x (formula F b).prefix h, ap length e))
      (within_step F (formula F b) f x (accepted_within F b g.is_accepted) h e p l) p.is_neat t

  -- refusals 9 and 10 passed: x is bound
  bound_passed : (b : Bytes) (x : ℕ) → passes (tidy_and_bound_tests F b x) ≡ true → binds (formula F b).prefix x ≡ true
  unfolding tidy_and_bound_tests
  bound_passed b x h = not-false (binds (formula F b).prefix x) (passed-∷ _ _ (passed-∷ _ _ h).1).0

  settle_stepped : (b : Bytes) (x : ℕ) (out : Bytes) (n : ℕ) → Good F b → (settle_call F b x out).answer ≡ accepted n
      → Stepped F b 0 (take n (settle_call F b x out).output)
  unfolding settle_call settle_tests settled
  settle_stepped b x out n g h =
      let f = formula F b in
      let v = get_or (may_settle x f) false in
      let w = front_written (settle_tests F b x (length out)) (sheet F (settled x v f)) out n h in
      let passed = passed-++ (check_tests F b ++ tidy_and_bound_tests F b x) _ w.0 in
      let bound = bound_passed b x (passed-++ (check_tests F b) (tidy_and_bound_tests F b x) passed.0).1 in
      let allowed : may_settle x f ≡ some v = some_value (may_settle x f) (not-false (is_some (may_settle x f)) (passed-∷ _ _ passed.1).0) in
      let p = proper b g in
      subst (Stepped F b 0) (sym w.1)
      (stepped b x (settled x v f) g bound refl (proper_settled x v f p)
      (le_trans (rows_settled x v f) (accepted_within F b g.is_accepted).few_nodes)
      (truth-settled x v f bound p.is_distinct allowed))

  -- the quote's tests passed, and the raw sheet fits some output
  expanded_stepped : (b : Bytes) (x len : ℕ) → Good F b → passes (quote_tests F b x) ≡ true
      → fits_raw (fits F len) x (formula F b) ≡ true → Stepped F b 0 (sheet F (expanded x (formula F b)))
  unfolding quote_tests expanded raw fits_raw fits
  expanded_stepped b x len g quoted fitting =
      let f = formula F b in
      let passed = passed-++ (check_tests F b ++ tidy_and_bound_tests F b x) _ quoted in
      let bound = bound_passed b x (passed-++ (check_tests F b) (tidy_and_bound_tests F b x) passed.0).1 in
      let inside = not-false (innermost x f) (passed-∷ _ _ passed.1).0 in
      let few = (and_parts (leb (raw_rows (of x) f.matrix) F.most_nodes) _ fitting).0 in
      let p = proper b g in
      stepped b x (expanded x f) g bound refl (proper_expanded x f p)
      (le_trans (rows-expanded x f) (leb-true (raw_rows (of x) f.matrix) F.most_nodes few))
      (truth-expanded x f inside p.is_distinct)

  expand_stepped : (b : Bytes) (x : ℕ) (out : Bytes) (n : ℕ) → Good F b → (expand_call F b x out).answer ≡ accepted n
      → Stepped F b 0 (take n (expand_call F b x out).output)
  unfolding expand_call expand_tests
  expand_stepped b x out n g h =
      let w = front_written (expand_tests F b x (length out)) (sheet F (expanded x (formula F b))) out n h in
      let passed = passed-++ (quote_tests F b x) _ w.0 in
      subst (Stepped F b 0) (sym w.1)
      (expanded_stepped b x (length out) g passed.0 (not-false (fits_raw (fits F (length out)) x (formula F b)) (passed-∷ _ _ passed.1).0))

  execute_stepped : (b : Bytes) (x ceiling : ℕ) (out : Bytes) (n : ℕ) → Good F b → (execute_call F b x ceiling out).answer ≡ accepted n
      → Stepped F b 0 (take n (execute_call F b x ceiling out).output)
  unfolding execute_call execute_tests
  execute_stepped b x ceiling out n g h =
      let w = front_written (execute_tests F b x ceiling (length out)) (sheet F (expanded x (formula F b))) out n h in
      let passed = passed-++ (quote_tests F b x) _ w.0 in
      let room = (passed-∷ _ _ (passed-∷ _ _ passed.1).1).0 in
      subst (Stepped F b 0) (sym w.1)
      (expanded_stepped b x (length out) g passed.0 (not-false (fits_raw (fits F (length out)) x (formula F b)) room))

  outer_stepped : (b : Bytes) (x : ℕ) (out : Bytes) (n : ℕ) → Good F b → (outer_call F b x out).answer ≡ accepted n
      → Stepped F b (copies F b x) (take n (outer_call F b x out).output)
  unfolding outer_call outer_tests copies fits
  outer_stepped b x out n g h =
      let f = formula F b in
      let H = F.most_variables in
      let new = outer_expanded H x f in
      let w = front_written (outer_tests F b x (length out)) (sheet F new) out n h in
      let passed = passed-++ (check_tests F b ++ tidy_and_bound_tests F b x) _ w.0 in
      let bound = bound_passed b x (passed-++ (check_tests F b) (tidy_and_bound_tests F b x) passed.0).1 in
      let first = passed-∷ _ _ passed.1 in
      let second = passed-∷ _ _ first.1 in
      let third = passed-∷ _ _ second.1 in
      let allowed = not-false (one_block_out x f) first.0 in
      let fitting = not-false (fits F (length out) (variables F b - 1 + length (dependents x f)) (outer_rows x f)) third.0 in
      let few = (and_parts (leb (outer_rows x f) F.most_nodes) _ fitting).0 in
      let p = proper b g in
      let proper-new = proper_outer H x f p second.0 in
      let shorter = length_outer H x f bound ∙ ap (λ (k : ℕ). length f.prefix + k) (copies_many H x f second.0) in
      subst (Stepped F b (length (dependents x f))) (sym w.1)
      (written b (length (dependents x f)) new g shorter
      (within_outer F f x (accepted_within F b g.is_accepted) bound second.0 proper-new
      (le_trans (rows_outer H x f) (leb-true (outer_rows x f) F.most_nodes few))) proper-new.is_neat
      (truth_outer H x f allowed p.is_distinct p.is_closed second.0))

  -- the sheet held after any calls that made k copies, compared with the first one
  record Well (b : Bytes) (k : ℕ) (h : Held) : Type 0 where
    is_good : Good F h.sheet
    same_truth : truth (formula F h.sheet) ≡ truth (formula F b)
    counts : h.accepted_calls + variables F h.sheet ≡ variables F b + k

  well_stepped : (b : Bytes) (j : ℕ) (h : Held) (k : ℕ) (b' : Bytes) → Well b j h → Stepped F h.sheet k b'
      → Well b (j + k) (record { sheet = b'; accepted_calls = suc h.accepted_calls })
  well_stepped b j h k b' w s =
      record {
        is_good = s.still_good;
        same_truth = s.same_truth ∙ w.same_truth;
        counts = omega (arith, s.one_less, w.counts);
      }

  pub perform_stepped : (c : Call) (b : Bytes) (n : ℕ) → Good F b → (perform F c b).answer ≡ accepted n
      → Stepped F b (copies_by F c b) (take n (perform F c b).output)
  unfolding perform copies_by
  perform_stepped (settle x out) b n g h = settle_stepped b x out n g h
  perform_stepped (expand x out) b n g h = expand_stepped b x out n g h
  perform_stepped (execute x ceiling out) b n g h = execute_stepped b x ceiling out n g h
  perform_stepped (outer x out) b n g h = outer_stepped b x out n g h

  well_after : (b : Bytes) (k : ℕ) (h : Held) (c : Call) → Well b k h
      → Well b (k + copies_after (perform F c h.sheet).answer (copies_by F c h.sheet))
      (held_after h (perform F c h.sheet).answer (perform F c h.sheet).output)
  unfolding held_after copies_after
  well_after b k h c w = by (perform F c h.sheet).answer refl
    where
      by : (a : Answer ℕ) → (perform F c h.sheet).answer ≡ a
          → Well b (k + copies_after a (copies_by F c h.sheet)) (held_after h a (perform F c h.sheet).output)
      by (refused n i) e = subst (λ (j : ℕ). Well b j h) (sym (add-zero k)) w
      by (accepted n) e =
          well_stepped b k h (copies_by F c h.sheet) (take n (perform F c h.sheet).output) w
          (perform_stepped c h.sheet n w.is_good e)

  well_after_all : (b : Bytes) (cs : List Call) (k : ℕ) (h : Held) → Well b k h → Well b (k + copies_all F cs h) (perform_all F cs h)
  unfolding perform_all copies_all
  well_after_all b [] k h w = subst (λ (j : ℕ). Well b j h) (sym (add-zero k)) w
  well_after_all b (c ∷ cs) k h w =
      let p = perform F c h.sheet in
      let made = copies_after p.answer (copies_by F c h.sheet) in
      let h' = held_after h p.answer p.output in
      subst (λ (j : ℕ). Well b j (perform_all F cs h')) (add_assoc k made (copies_all F cs h'))
      (well_after_all b cs (k + made) h' (well_after b k h c w))

empty_prefix : (p : Prefix) → length p ≡ 0 → p ≡ []
empty_prefix [] h = refl
empty_prefix (z ∷ p) h = absurd (omega arith)

-- For every format whose numbers hold its sizes, every sheet that Check accepts and that is tidy, and every list of calls.
pub demand_3 : (F : Format) → Sound F → (b : Bytes) (s : Sizes) → check F b ≡ accepted s → is_tidy (formula F b).matrix ≡ true
    → (cs : List Call) → Demand3 F b cs
unfolding held check copies_made
demand_3 F sound b s h t cs =
    record {
      is_accepted = (
        record { variables = variables F (end cs).sheet; nodes = nodes F (end cs).sheet },
        answer-passes (check_tests F (end cs).sheet) _ (well cs).is_good.is_accepted,
      );
      stays_tidy = (well cs).is_good.is_neat;
      same_truth = (well cs).same_truth;
      counts = (well cs).counts;
      decided =
          λ e. decided_without-variables (formula F (end cs).sheet) (proper F sound (end cs).sheet (well cs).is_good)
          (empty_prefix (formula F (end cs).sheet).prefix
          (accepted_variables F (end cs).sheet (well cs).is_good.is_accepted ∙ e));
      is_truth = true-verdict cs;
      agree = λ others v w hv hw. true-verdict cs v hv ∙ sym (true-verdict others w hw);
    }
  where
    end : List Call → Held
    end ds = perform_all F ds (record { sheet = b; accepted_calls = 0 })

    good : Good F b
    good = record { is_accepted = (accepted_passes (check_tests F b) _ s h).0; is_neat = t }

    well : (ds : List Call) → Well F sound b (copies_all F ds (record { sheet = b; accepted_calls = 0 })) (end ds)
    well ds =
        subst (λ (k : ℕ). Well F sound b k (end ds)) (zero-add (copies_all F ds (record { sheet = b; accepted_calls = 0 })))
        (well_after_all F sound b ds 0 (record { sheet = b; accepted_calls = 0 })
        (record { is_good = good; same_truth = refl; counts = omega arith }))

    true-verdict : (ds : List Call) (v : Bool) → sheet_verdict F (end ds).sheet ≡ some v → v ≡ truth (formula F b)
    true-verdict ds v e = sym (verdict-truth (formula F (end ds).sheet) v e) ∙ (well ds).same_truth

after_no_copies : (a : Answer ℕ) → copies_after a 0 ≡ 0
unfolding copies_after
after_no_copies (refused n i) = refl
after_no_copies (accepted n) = refl

one_more : (F : Format) (c : Call) (cs : List Call) (h : Held) → copies_by F c h.sheet ≡ 0 → ((h' : Held) → copies_all F cs h' ≡ 0)
    → copies_all F (c ∷ cs) h ≡ 0
unfolding copies_all
one_more F c cs h free rest =
    let p = perform F c h.sheet in
    let made = ap (copies_after p.answer) free ∙ after_no_copies p.answer in
    let later = rest (held_after h p.answer p.output) in
    omega (arith, made, later)

-- only the step one block out makes copies
pub no_copies : (F : Format) (cs : List Call) (h : Held) → none_outer cs ≡ true → copies_all F cs h ≡ 0
unfolding none_outer copies_all copies_by
no_copies F [] h e = refl
no_copies F (settle x out ∷ cs) h e = one_more F (settle x out) cs h refl (λ h'. no_copies F cs h' e)
no_copies F (expand x out ∷ cs) h e = one_more F (expand x out) cs h refl (λ h'. no_copies F cs h' e)
no_copies F (execute x ceiling out ∷ cs) h e = one_more F (execute x ceiling out) cs h refl (λ h'. no_copies F cs h' e)
no_copies F (outer x out ∷ cs) h e = absurd (false≢true e)

-- so of lists of Settle, Expand and Execute: accepted calls + variables left = variables at the start
pub demand_3_counts : (F : Format) → Sound F → (b : Bytes) (s : Sizes) → check F b ≡ accepted s → is_tidy (formula F b).matrix ≡ true
    → (cs : List Call) → none_outer cs ≡ true
    → (held F b cs).accepted_calls + variables F (held F b cs).sheet ≡ variables F b
unfolding copies_made
demand_3_counts F sound b s h t cs e =
    (demand_3 F sound b s h t cs).counts ∙ ap (λ (k : ℕ). variables F b + k) (no_copies F cs _ e) ∙ add-zero (variables F b)
