-- Sort and Compare on sheets: what an accepted Sort writes, when two sheets compare equal, and that a refusal alters no byte (N14).
-- Assumes nothing.
use mathlib.Core.Path.{◌≡◌, refl, sym, ◌∙◌, ap, ap₂, subst}
use mathlib.Core.Bool.{true, not}
use mathlib.Core.Logic.{◌↔◌}
use Prim.Native.Nat.{ℕ, ◌≤◌, ◌<◌}
use native.Mathlib.Omega.{arith}
use lib.ListN.{length, take, replicate}
use borrow.Author.Tests.{lt-ltb, le-ltb}
use Rattle.formula.specs.Tree.{Formula, closed}
use Rattle.formula.specs.Truth.{truth}
use Rattle.formula.specs.Tidy.{is_tidy}
use Rattle.formula.specs.Order.{Ordering, same, sorted, compare_formulas, Rearranged, turned, nearly_tidy}
use Rattle.formula.proofs.Ordering.{formulas_turned}
use Rattle.formula.proofs.Sorting.{sort_idempotent, same_exactly, truth-sorted, rows-sort, has-sort}
use Rattle.formula.proofs.SortedTidy.{nearly_tidy-sort, is_tidy-sort, tidy_unsorted}
use Rattle.sheet.specs.Format.{Bytes, Format, sheet_length}
use Rattle.sheet.specs.Sheet.{formula, sheet}
use Rattle.sheet.specs.Check.{Answer, refused, accepted, passes, answer, check_tests, check}
use Rattle.sheet.specs.Operations.{write, output_after}
use Rattle.sheet.specs.Order.{sort_tests, sort_call, Compared, is_refused, is_ordered, for_sheet, room, compare_answer, comparing, compare_call}
use Rattle.sheet.specs.Limits.{Sound, Within}
use Rattle.sheet.proofs.Tests.{answer-passes, passed-++}
use Rattle.sheet.proofs.Calls.{front_written}
use Rattle.sheet.proofs.RoundTrip.{length-sheet, formula-sheet, passes-sheet}
use Rattle.sheet.proofs.Accepted.{accepted_length, accepted_variables, accepted_nodes, accepted_within}
use Rattle.sheet.specs.Results.{Sorted}

-- sorting changes no limit

pub sorted-within : (F : Format) (f : Formula) → Within F f → Within F (sorted f)
unfolding sorted closed
sorted-within F f w =
    record {
      few_variables = w.few_variables;
      few_nodes = rw (rows-sort f.matrix) w.few_nodes;
      is_numbered = w.is_numbered;
      is_distinct = w.is_distinct;
      is_closed = ap not (has-sort _ f.matrix) ∙ w.is_closed;
    }

-- the sorted sheet is as long as the sheet
pub length-sorted : (F : Format) (b : Bytes) → passes (check_tests F b) ≡ true → length (sheet F (sorted (formula F b))) ≡ length b
unfolding sorted
length-sorted F b h =
    length-sheet F (sorted (formula F b)) ∙
    ap₂ (sheet_length F) (accepted_variables F b h) (rows-sort (formula F b).matrix ∙ accepted_nodes F b h) ∙
    sym (accepted_length F b h)

pub sort_right : (F : Format) → Sound F → (b out : Bytes) (n : ℕ) → (sort_call F b out).answer ≡ accepted n
    → Sorted F b (take n (sort_call F b out).output)
unfolding sort_call sort_tests sorted
sort_right F sound b out n h =
    let f = formula F b in
    let w = front_written (sort_tests F b out) (sheet F (sorted f)) out n h in
    let ok = (passed-++ (check_tests F b) _ w.0).0 in
    let within = sorted-within F f (accepted_within F b ok) in
    let back : formula F (sheet F (sorted f)) ≡ sorted f = formula-sheet F sound (sorted f) within in
    subst (Sorted F b) (sym w.1)
    (record {
      is_accepted = passes-sheet F sound (sorted f) within;
      is_sorted = back;
      same_truth = ap truth back ∙ truth-sorted f;
      same_length = length-sorted F b ok;
      nearly_as_tidy = ap (λ (k : Formula). nearly_tidy k.matrix) back ∙ nearly_tidy-sort f.matrix;
      when_tidy = ap (λ (k : Formula). is_tidy k.matrix) back ∙ is_tidy-sort f.matrix;
      tidy_before = λ e. tidy_unsorted f.matrix (sym (ap (λ (k : Formula). is_tidy k.matrix) back) ∙ e);
      sorted_again =
          ap (λ (k : Formula). sheet F (sorted k)) back ∙
          ap (λ t. sheet F (record { prefix = f.prefix; matrix = t })) (sort_idempotent f.matrix);
    })

pub sort_refused : (F : Format) (b out : Bytes) (n i : ℕ) → (sort_call F b out).answer ≡ refused n i → (sort_call F b out).output ≡ out
unfolding sort_call write output_after
sort_refused F b out n i h = ap (λ (a : Answer ℕ). output_after a (sheet F (sorted (formula F b))) out) h

-- Compare

pub room_enough : (b buffer : Bytes) → length b ≤ length buffer → room b buffer ≡ accepted (length b)
unfolding room answer
room_enough b buffer h = rw (le-ltb (length buffer) (length b) h)

-- two sheets that Check accepts, each with a buffer that holds it
module _ (F : Format) (a b first second : Bytes) (ok-a : passes (check_tests F a) ≡ true) (ok-b : passes (check_tests F b) ≡ true)
    (room-a : length a ≤ length first) (room-b : length b ≤ length second) where
  pub compare_accepted : compare_answer F a b first second ≡ is_ordered (compare_formulas (formula F a) (formula F b))
  unfolding compare_answer check for_sheet
  compare_accepted =
      rw (answer-passes (check_tests F a) _ ok-a, answer-passes (check_tests F b) _ ok-b, room_enough a first room-a, room_enough b second room-b)

  pub compare_answers : (compare_call F a b first second).answer ≡ is_ordered (compare_formulas (formula F a) (formula F b))
  unfolding compare_call comparing
  compare_answers = ap (λ (c : Compared). (comparing first second c).answer) compare_accepted

  -- equal exactly when the prefixes are the same and the trees differ only in the order of children
  pub compare_exactly : ((compare_call F a b first second).answer ≡ is_ordered same) ↔
      (((formula F a).prefix ≡ (formula F b).prefix) × Rearranged (formula F a).matrix (formula F b).matrix)
  compare_exactly =
      let law = same_exactly (formula F a) (formula F b) in
      ((λ e. law.0 (ordered (sym compare_answers ∙ e))), (λ r. compare_answers ∙ ap is_ordered (law.1 r)))
    where
      ordered : {o p : Ordering} → is_ordered o ≡ is_ordered p → o ≡ p
      ordered e = cc

-- the other way round
pub compare_turned : (F : Format) (a b first second : Bytes) → passes (check_tests F a) ≡ true → passes (check_tests F b) ≡ true
    → length a ≤ length first → length b ≤ length second
    → (compare_call F b a second first).answer ≡ is_ordered (turned (compare_formulas (formula F a) (formula F b)))
compare_turned F a b first second ok-a ok-b room-a room-b =
    compare_answers F b a second first ok-b ok-a room-b room-a ∙ ap is_ordered (formulas_turned (formula F a) (formula F b))

comparing_refused : (first second : Bytes) (c : Compared) (w n i : ℕ) → (comparing first second c).answer ≡ is_refused w n i
    → ((comparing first second c).first ≡ first) × ((comparing first second c).second ≡ second)
unfolding comparing
comparing_refused first second (is_refused v m j) w n i e = (refl, refl)
comparing_refused first second (is_ordered o) w n i e = let z : ◌≡◌ {A = ℕ} 0 1 = cc in absurd (omega arith)

pub compare_refused : (F : Format) (a b first second : Bytes) (w n i : ℕ) → (compare_call F a b first second).answer ≡ is_refused w n i
    → ((compare_call F a b first second).first ≡ first) × ((compare_call F a b first second).second ≡ second)
unfolding compare_call
compare_refused F a b first second w n i e = comparing_refused first second (compare_answer F a b first second) w n i e

-- the first sheet's refusal comes first, then the second's; 13 names the sheet that its buffer doesn't hold

pub first_refused : (F : Format) (a b first second : Bytes) (n i : ℕ) → check F a ≡ refused n i
    → compare_answer F a b first second ≡ is_refused 1 n i
unfolding compare_answer for_sheet
first_refused F a b first second n i e = rw e

pub second_refused : (F : Format) (a b first second : Bytes) (n i : ℕ) → passes (check_tests F a) ≡ true → check F b ≡ refused n i
    → compare_answer F a b first second ≡ is_refused 2 n i
unfolding compare_answer for_sheet check
second_refused F a b first second n i ok e = rw (answer-passes (check_tests F a) _ ok, e)

pub first_too_long : (F : Format) (a b first second : Bytes) → passes (check_tests F a) ≡ true → passes (check_tests F b) ≡ true
    → length first < length a → compare_answer F a b first second ≡ is_refused 1 13 0
unfolding compare_answer for_sheet check room answer
first_too_long F a b first second ok-a ok-b l =
    rw (answer-passes (check_tests F a) _ ok-a, answer-passes (check_tests F b) _ ok-b, lt-ltb (length first) (length a) l)

-- accepted, both buffers end as zeros
comparing_clears : (first second : Bytes) (c : Compared) (o : Ordering) → (comparing first second c).answer ≡ is_ordered o
    → ((comparing first second c).first ≡ replicate (length first) 0) × ((comparing first second c).second ≡ replicate (length second) 0)
unfolding comparing
comparing_clears first second (is_refused v m j) o e = let z : ◌≡◌ {A = ℕ} 0 1 = cc in absurd (omega arith)
comparing_clears first second (is_ordered p) o e = (refl, refl)

pub compare_clears : (F : Format) (a b first second : Bytes) (o : Ordering) → (compare_call F a b first second).answer ≡ is_ordered o
    → ((compare_call F a b first second).first ≡ replicate (length first) 0) ×
    ((compare_call F a b first second).second ≡ replicate (length second) 0)
unfolding compare_call
compare_clears F a b first second o e = comparing_clears first second (compare_answer F a b first second) o e
