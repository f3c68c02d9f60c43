-- Clauses on bytes: what it writes is a sheet of clauses of the same truth, 18 comes before 13, and refusing alters no byte.
-- Assumes nothing.
use mathlib.Core.Path.{◌≡◌, refl, sym, ◌∙◌, ap, ap₂, subst}
use mathlib.Core.Bool.{Bool, true, false, not, cond}
use Prim.Native.Nat.{ℕ, ◌≤◌}
use native.Mathlib.Omega.{arith}
use lib.ListN.{length, take, length-append, length-map, length-take}
use borrow.Author.Tests.{not-false}
use Rattle.formula.specs.Tree.{Formula, rows}
use Rattle.formula.specs.Truth.{truth}
use Rattle.formula.specs.Reduce.{in_profile}
use Rattle.formula.specs.Outer.{unused, existential}
use Rattle.formula.specs.Clausal.{conjuncts, named_all, fresh_names, too_few_names, clausal}
use Rattle.formula.proofs.Outer.Fresh.{rows_of}
use Rattle.formula.proofs.Clausal.Truth.{names_in_range, distinct-clausal, closed-clausal, truth-clausal}
use Rattle.formula.proofs.Clausal.Profile.{profile_clausal}
use Rattle.sheet.specs.Format.{Bytes, Format}
use Rattle.sheet.specs.Sheet.{formula, sheet}
use Rattle.sheet.specs.Check.{Answer, refused, accepted, answer, passes, check_tests}
use Rattle.sheet.specs.Limits.{Sound, Within}
use Rattle.sheet.specs.Strategy.{fits_output}
use Rattle.sheet.specs.Clauses.{clauses_of, clauses_tests, clauses_call, Clausal}
use Rattle.sheet.proofs.Tests.{passed-∷, passed-++, answer-++, accepted_passes}
use Rattle.sheet.proofs.Limits.{numbered-++, numbered_by, unused-count}
use Rattle.sheet.proofs.RoundTrip.{formula-sheet, passes-sheet}
use Rattle.sheet.proofs.Accepted.{accepted_within}
use Rattle.sheet.proofs.Calls.{front_written}
use Rattle.sheet.proofs.Refusals.{written_refused}
use Rattle.sheet.proofs.Strategy.Winning.{fits-rows}

-- the clauses of a formula within the limits, if they fit
pub within-clausal : (F : Format) (f : Formula) → Within F f → too_few_names F.most_variables f ≡ false
    → rows (clausal F.most_variables f).matrix ≤ F.most_nodes → Within F (clausal F.most_variables f)
unfolding clausal fresh_names
within-clausal F f w enough few =
    let H = F.most_variables in
    let ns = fresh_names H f in
    record {
      few_variables =
          omega (
            arith,
            length-append f.prefix (rows_of ns),
            length-map ns existential,
            length-take (named_all (conjuncts f.matrix)) (unused f.prefix H 1),
            unused-count F f w,
          );
      few_nodes = few;
      is_numbered = numbered-++ F f.prefix (rows_of ns) w.is_numbered (numbered_by F (rows_of ns) (names_in_range H f));
      is_distinct = distinct-clausal H f w.is_distinct;
      is_closed = closed-clausal H f w.is_closed enough;
    }

-- what an accepted Clauses writes
pub clauses_right : (F : Format) → Sound F → (b out : Bytes) (n : ℕ) → (clauses_call F b out).answer ≡ accepted n
    → Clausal F b (take n (clauses_call F b out).output)
unfolding clauses_call clauses_tests
clauses_right F sound b out n h =
    let f = formula F b in
    let g = clauses_of F b in
    let w = front_written (clauses_tests F b (length out)) (sheet F g) out n h in
    let parts = passed-++ (check_tests F b) _ w.0 in
    let names = passed-∷ _ _ parts.1 in
    let fit = not-false (fits_output F (length out) g) (passed-∷ _ _ names.1).0 in
    let old = accepted_within F b parts.0 in
    let within = within-clausal F f old names.0 (fits-rows F (length out) g fit) in
    let same = formula-sheet F sound g within in
    subst (Clausal F b) (sym w.1)
    (record {
      is_accepted = passes-sheet F sound g within;
      are_clauses = same;
      of_profile = ap (λ (u : Formula). in_profile u.matrix) same ∙ profile_clausal F.most_variables f;
      same_truth = ap truth same ∙ truth-clausal F.most_variables f old.is_closed names.0;
    })

-- refusing alters no byte
pub clauses_refused : (F : Format) (b out : Bytes) (n i : ℕ) → (clauses_call F b out).answer ≡ refused n i → (clauses_call F b out).output ≡ out
unfolding clauses_call
clauses_refused F b out n i h = written_refused _ _ out n i h

-- after 8: 18, then 13

module _ (F : Format) (b : Bytes) (len : ℕ) (checked : passes (check_tests F b) ≡ true) {A : Type 0} (a : A) where
  abbrev clauses_by : Bool → Bool → Answer A
  clauses_by few fit = cond few (refused 18 0) (cond (not fit) (refused 13 0) (accepted a))

  clauses_tested : {few fit : Bool} → too_few_names F.most_variables (formula F b) ≡ few → fits_output F len (clauses_of F b) ≡ fit
      → answer (clauses_tests F b len) a ≡ clauses_by few fit
  unfolding clauses_tests answer
  clauses_tested e₁ e₂ = answer-++ (check_tests F b) _ a checked ∙ ap₂ clauses_by e₁ e₂

  pub clauses_18 : too_few_names F.most_variables (formula F b) ≡ true → answer (clauses_tests F b len) a ≡ refused 18 0
  clauses_18 e = clauses_tested e refl

  module _ (e : too_few_names F.most_variables (formula F b) ≡ false) where
    pub clauses-13 : fits_output F len (clauses_of F b) ≡ false → answer (clauses_tests F b len) a ≡ refused 13 0
    clauses-13 k = clauses_tested e k

    pub clauses-none : fits_output F len (clauses_of F b) ≡ true → passes (clauses_tests F b len) ≡ true
    clauses-none k = (accepted_passes (clauses_tests F b len) a a (clauses_tested e k)).0
