-- Tidy on sheets: what an accepted call writes is a tidy sheet of the same prefix and the same truth, it is the sheet given exactly if that
-- one is tidy, and tidying it again alters nothing (N4).
-- Assumes nothing.
use mathlib.Core.Path.{◌≡◌, sym, ◌∙◌, ap, subst}
use mathlib.Core.Bool.{true}
use Prim.Native.Nat.{ℕ, ◌≤◌}
use lib.ListN.{length, take}
use borrow.Author.Tests.{le-ltb}
use Rattle.formula.specs.Tree.{Formula, rows}
use Rattle.formula.specs.Truth.{truth}
use Rattle.formula.specs.Tidy.{is_tidy, tidied}
use Rattle.formula.proofs.Tidy.Growth.{rows-tidy}
use Rattle.formula.proofs.Tidy.Limits.{tidy-is_tidy, tidy_unchanged}
use Rattle.formula.proofs.Steps.{truth-tidied}
use Rattle.sheet.specs.Format.{Bytes, AllBytes, Format}
use Rattle.sheet.specs.Sheet.{formula, sheet}
use Rattle.sheet.specs.Check.{Answer, accepted, answer, check_tests}
use Rattle.sheet.specs.Operations.{padded, output_after, write, tidy_tests, tidy_call}
use Rattle.sheet.specs.Limits.{Sound}
use Rattle.sheet.specs.Results.{Good, Tidied}
use Rattle.sheet.proofs.Tests.{passed-++, answer-++}
use Rattle.sheet.proofs.Calls.{front_written}
use Rattle.sheet.proofs.RoundTrip.{formula-sheet, passes-sheet}
use Rattle.sheet.proofs.Accepted.{accepted_within, sheet-formula}
use Rattle.sheet.proofs.Placed.{within-tidied}

tidied-tidy : (f : Formula) → is_tidy (tidied f).matrix ≡ true
unfolding tidied
tidied-tidy f = tidy-is_tidy f.matrix

-- a tidy formula stays
tidied_same : (f : Formula) → is_tidy f.matrix ≡ true → tidied f ≡ f
unfolding tidied
tidied_same f h = ap (λ t. record { prefix = f.prefix; matrix = t }) ((tidy_unchanged f.matrix).1 h)

pub tidy_right : (F : Format) → Sound F → (b out : Bytes) (n : ℕ) → (tidy_call F b out).answer ≡ accepted n
    → Tidied F b (take n (tidy_call F b out).output)
unfolding tidy_call tidy_tests tidied
tidy_right F sound b out n h =
    let f = formula F b in
    let w = front_written (tidy_tests F b (length out)) (sheet F (tidied f)) out n h in
    let checked = (passed-++ (check_tests F b) _ w.0).0 in
    let within = within-tidied F f (accepted_within F b checked) in
    let back : formula F (sheet F (tidied f)) ≡ tidied f = formula-sheet F sound (tidied f) within in
    let neat : is_tidy (formula F (sheet F (tidied f))).matrix ≡ true = ap (λ (k : Formula). is_tidy k.matrix) back ∙ tidied-tidy f in
    subst (Tidied F b) (sym w.1)
    (record {
      good = record { is_accepted = passes-sheet F sound (tidied f) within; is_neat = neat };
      same_prefix = ap (λ (k : Formula). k.prefix) back;
      same_truth = ap truth back ∙ truth-tidied f;
      no_more_rows = subst (λ (k : Formula). rows k.matrix ≤ rows f.matrix) (sym back) (rows-tidy f.matrix);
      unchanged =
          λ bytes. (
            (λ e. ap (λ (c : Bytes). is_tidy (formula F c).matrix) (sym e) ∙ neat),
            (λ t. ap (sheet F) (tidied_same f t) ∙ sheet-formula F b bytes checked),
          );
      fixed_point = tidied_same (formula F (sheet F (tidied f))) neat;
    })

-- a tidy sheet is handed back, to any output that holds it
pub tidy_again : (F : Format) (b out : Bytes) → AllBytes b → Good F b → length b ≤ length out
    → tidy_call F b out ≡ record { answer = accepted (length b); output = padded (length out) b }
unfolding tidy_call tidy_tests write output_after answer
tidy_again F b out bytes good room =
    let new : sheet F (tidied (formula F b)) ≡ b
    = ap (sheet F) (tidied_same (formula F b) good.is_neat) ∙ sheet-formula F b bytes good.is_accepted in
    let taken : answer (tidy_tests F b (length out)) (length b) ≡ accepted (length b)
    = answer-++ (check_tests F b) _ (length b) good.is_accepted ∙ rw (le-ltb (length out) (length b) room) in
    ap (λ (c : Bytes). write (tidy_tests F b (length out)) c out) new ∙
    ap (λ (a : Answer ℕ). record { answer = a; output = output_after a b out }) taken
