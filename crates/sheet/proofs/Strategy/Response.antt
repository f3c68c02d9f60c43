-- Response on sheets: what an accepted call writes, that it has its place, and that a refusal alters nothing.
-- Assumes nothing.
use mathlib.Core.Path.{◌≡◌, refl, sym, ◌∙◌, ap, subst}
use mathlib.Core.Bool.{Bool, true, not}
use mathlib.Core.List.{◌++◌}
use mathlib.Core.Option.{Option, none, some}
use Prim.Native.Nat.{ℕ, ◌-◌, ◌≤◌}
use native.Mathlib.Nat.{le_trans}
use native.Mathlib.Omega.{arith}
use lib.Dec.{leb}
use lib.ListN.{length, take}
use borrow.Author.Tests.{not-true, not-false, leb-true}
use Rattle.formula.specs.Tree.{Quantifier, Tree, Formula, of, binds, quantifier_of, without, rows, closed}
use Rattle.formula.specs.Truth.{put, eval}
use Rattle.formula.specs.Tidy.{is_tidy}
use Rattle.formula.specs.Settle.{may_settle}
use Rattle.formula.specs.Strategy.{function_of}
use Rattle.formula.specs.Inner.Function.{raw_function}
use Rattle.formula.proofs.Booleans.{and_parts}
use Rattle.formula.proofs.Closed.{unbound, length_without, distinct_without, binds-without}
use Rattle.formula.proofs.Tidy.Growth.{rows-tidy}
use Rattle.formula.proofs.Steps.{Proper}
use Rattle.formula.proofs.Strategy.Function.{eval_function, has_function, rows_some, rows-relevant_subtree, rows_function, function_tidy, tidy-raw_function, rows-raw-settled, rows-raw-relevant}
use Rattle.sheet.specs.Format.{Bytes, Format, sheet_length, fits}
use Rattle.sheet.specs.Sheet.{formula, sheet}
use Rattle.sheet.specs.Check.{accepted, refused, passes, check_tests}
use Rattle.sheet.specs.Operations.{tidy_and_bound_tests, write}
use Rattle.sheet.specs.Limits.{Sound, Within}
use Rattle.sheet.specs.Strategy.{response, response_rows, fits_response, response_tests, response_call, Responds}
use Rattle.sheet.proofs.Tests.{passed-∷, passed-++, accepted_passes}
use Rattle.sheet.proofs.Limits.{within_step}
use Rattle.sheet.proofs.RoundTrip.{length-sheet, formula-sheet, passes-sheet}
use Rattle.sheet.proofs.Accepted.{accepted_within}
use Rattle.sheet.proofs.Placed.{sheet_length-least}
use Rattle.sheet.proofs.Calls.{front_written}
use Rattle.sheet.proofs.Refusals.{written_refused}

-- the rows that are written before tidying
pub rows-raw-response : (q : Quantifier) (x : ℕ) (t : Tree) (o : Option Bool) → rows (raw_function q x t o) ≡ response_rows x t o
unfolding response_rows
rows-raw-response q x t (some b) = rows-raw-settled q x t b
rows-raw-response q x t none = rows-raw-relevant q x t

-- no more than the matrix has: the raw function has its place wherever the sheet has
pub response_rows_most : (x : ℕ) (t : Tree) (o : Option Bool) → response_rows x t o ≤ rows t
unfolding response_rows
response_rows_most x t (some b) = rows_some t
response_rows_most x t none = rows-relevant_subtree (of x) t

rows-response : (x : ℕ) (f : Formula) → rows (function_of x f) ≤ response_rows x f.matrix (may_settle x f)
unfolding function_of
rows-response x f =
    let q = quantifier_of f.prefix x in
    let o = may_settle x f in
    let r = raw_function q x f.matrix o in
    omega (arith, ap rows (tidy-raw_function q x f.matrix o), rows-tidy r, rows-raw-response q x f.matrix o)

-- the function's formula has no number twice, every literal bound, and is tidy
proper_response : (F : Format) (x : ℕ) (f : Formula) → Within F f → Proper (response x f)
unfolding response closed
proper_response F x f w =
    record {
      is_distinct = distinct_without x f.prefix w.is_distinct;
      is_closed =
          ap not
          (has_function x f (unbound f.prefix) (unbound (without x f.prefix)) (λ s v e k. ap not (binds-without x v f.prefix e) ∙ k)
          (not-true _ w.is_closed));
      is_neat = function_tidy x f;
    }

pub within-response : (F : Format) (x : ℕ) (f : Formula) → Within F f → binds f.prefix x ≡ true → Within F (response x f)
unfolding response
within-response F x f w h =
    within_step F f (response x f) x w h refl (proper_response F x f w) (le_trans (rows_function x f) w.few_nodes)

module _ (F : Format) (b : Bytes) (x : ℕ) (out : Bytes) where
  -- what passed
  record Passed : Type 0 where
    within : Within F (formula F b)
    bound : binds (formula F b).prefix x ≡ true
    has_room : fits_response (fits F (length out)) x (formula F b) ≡ true

  passed : passes (response_tests F b x (length out)) ≡ true → Passed
  unfolding response_tests tidy_and_bound_tests
  passed h =
      let parts = passed-++ (check_tests F b ++ tidy_and_bound_tests F b x) _ h in
      let two = passed-++ (check_tests F b) (tidy_and_bound_tests F b x) parts.0 in
      record {
        within = accepted_within F b two.0;
        bound = not-false (binds (formula F b).prefix x) (passed-∷ _ _ (passed-∷ _ _ two.1).1).0;
        has_room = not-false (fits_response (fits F (length out)) x (formula F b)) (passed-∷ _ _ (passed-∷ _ _ parts.1).1).0;
      }

  pub response_right : Sound F → (n : ℕ) → (response_call F b x out).answer ≡ accepted n → Responds F b x (take n (response_call F b x out).output)
  unfolding response_call response
  response_right sound n h =
      let f = formula F b in
      let w = front_written (response_tests F b x (length out)) (sheet F (response x f)) out n h in
      let p = passed w.0 in
      let within = within-response F x f p.within p.bound in
      let back : formula F (sheet F (response x f)) ≡ response x f = formula-sheet F sound (response x f) within in
      subst (Responds F b x) (sym w.1)
      (record {
        is_accepted = passes-sheet F sound (response x f) within;
        is_response = back;
        is_neat = ap (λ (k : Formula). is_tidy k.matrix) back ∙ function_tidy x f;
        no_more_rows = subst (λ (k : Formula). rows k.matrix ≤ rows f.matrix) (sym back) (rows_function x f);
        is_best =
            λ ρ. ap (λ (k : Formula). eval f.matrix (put ρ x (eval k.matrix ρ))) back ∙ eval_function x f ρ;
      })

  -- what is written has its place
  pub response_placed : (n : ℕ) → (response_call F b x out).answer ≡ accepted n → n ≤ length out
  unfolding response_call response write fits_response fits
  response_placed n h =
      let f = formula F b in
      let a = accepted_passes (response_tests F b x (length out)) (length (sheet F (response x f))) n h in
      let p = passed a.0 in
      let fewer = length_without x f.prefix p.bound in
      let raw = response_rows x f.matrix (may_settle x f) in
      let parts = and_parts (leb raw F.most_nodes) (leb (sheet_length F (length f.prefix - 1) raw) (length out)) p.has_room in
      let short = leb-true (sheet_length F (length f.prefix - 1) raw) (length out) parts.1 in
      let least = sheet_length-least F {v = length (without x f.prefix)} {v' = length f.prefix - 1} (omega arith) (rows-response x f) in
      omega (arith, a.1, length-sheet F (response x f), least, short)

  pub response_refused : (n i : ℕ) → (response_call F b x out).answer ≡ refused n i → (response_call F b x out).output ≡ out
  unfolding response_call
  response_refused n i h = written_refused _ _ out n i h
