-- Universal reduction on sheets: what an accepted call writes is a tidy sheet of the same prefix and the same truth, of the clause
-- profile again, which reducing once more doesn't change (N8).
-- Assumes nothing.
use mathlib.Core.Path.{◌≡◌, sym, ◌∙◌, ap, subst}
use mathlib.Core.Bool.{true}
use Prim.Native.Nat.{ℕ, ◌≤◌}
use native.Mathlib.Nat.{le_trans}
use lib.ListN.{length, take}
use borrow.Author.Tests.{not-false}
use Rattle.formula.specs.Tree.{Formula, rows}
use Rattle.formula.specs.Truth.{truth}
use Rattle.formula.specs.Tidy.{is_tidy}
use Rattle.formula.specs.Reduce.{in_profile, reduced}
use Rattle.formula.proofs.Steps.{Proper}
use Rattle.formula.proofs.Reduce.{truth-reduced, rows-reduced, proper_reduced}
use Rattle.formula.proofs.ReduceAgain.{reduced_profile, reduced_again}
use Rattle.sheet.specs.Format.{Bytes, Format}
use Rattle.sheet.specs.Sheet.{formula, sheet}
use Rattle.sheet.specs.Check.{accepted, check_tests}
use Rattle.sheet.specs.Operations.{reduce_tests, reduce_call}
use Rattle.sheet.specs.Limits.{Sound, Within}
use Rattle.sheet.proofs.Tests.{passed-∷, passed-++}
use Rattle.sheet.proofs.Calls.{front_written}
use Rattle.sheet.specs.Results.{Reduced}
use Rattle.sheet.proofs.RoundTrip.{formula-sheet, passes-sheet}
use Rattle.sheet.proofs.Accepted.{accepted_within}

pub reduce_right : (F : Format) → Sound F → (b out : Bytes) (n : ℕ) → (reduce_call F b out).answer ≡ accepted n
    → Reduced F b (take n (reduce_call F b out).output)
unfolding reduce_call reduce_tests reduced
reduce_right F sound b out n h =
    let f = formula F b in
    let w = front_written (reduce_tests F b (length out)) (sheet F (reduced f)) out n h in
    let passed = passed-++ (check_tests F b) _ w.0 in
    let later = passed-∷ _ _ passed.1 in
    let neat : is_tidy f.matrix ≡ true = not-false (is_tidy f.matrix) later.0 in
    let profile : in_profile f.matrix ≡ true = not-false (in_profile f.matrix) (passed-∷ _ _ later.1).0 in
    let within = accepted_within F b passed.0 in
    let proper : Proper f = record { is_distinct = within.is_distinct; is_closed = within.is_closed; is_neat = neat } in
    let q = proper_reduced f proper in
    let within' : Within F (reduced f)
    = record {
      few_variables = within.few_variables;
      few_nodes = le_trans (rows-reduced f) within.few_nodes;
      is_numbered = within.is_numbered;
      is_distinct = q.is_distinct;
      is_closed = q.is_closed;
    } in
    let back : formula F (sheet F (reduced f)) ≡ reduced f = formula-sheet F sound (reduced f) within' in
    subst (Reduced F b) (sym w.1)
    (record {
      good =
          record {
            is_accepted = passes-sheet F sound (reduced f) within';
            is_neat = ap (λ (k : Formula). is_tidy k.matrix) back ∙ q.is_neat;
          };
      same_prefix = ap (λ (k : Formula). k.prefix) back;
      same_truth = ap truth back ∙ truth-reduced f within.is_distinct profile neat;
      no_more_rows = subst (λ (k : Formula). rows k.matrix ≤ rows f.matrix) (sym back) (rows-reduced f);
      profile_again = ap (λ (k : Formula). in_profile k.matrix) back ∙ reduced_profile f within.is_distinct profile neat;
      fixed_point = ap reduced back ∙ reduced_again f within.is_distinct profile neat ∙ sym back;
    })
