-- Split and Join on bytes: what Split writes is the sheet of the formula under the values, a verdict joined from right answers is the
-- truth, and 22, 28 and 29 come in their order.
-- Assumes nothing.
use mathlib.Core.Path.{◌≡◌, refl, sym, ◌∙◌, ap, ap₂, subst}
use mathlib.Core.Bool.{Bool, true, false, not, cond}
use mathlib.Core.Option.{some}
use Prim.Native.Nat.{ℕ, ◌-◌, ◌^◌, ◌≤◌, ◌<◌}
use native.Mathlib.Omega.{arith}
use lib.Dec.{eqb, ltb}
use lib.ListN.{length, take, length-drop, length-map}
use borrow.Author.Tests.{ltb-false, lt-ltb, le-ltb, eq-eqb, ne_eqb}
use Rattle.formula.specs.Truth.{truth}
use Rattle.formula.specs.Join.{Answer as Known, join_answers}
use Rattle.formula.proofs.Force.{prefix_given, rows-given}
use Rattle.formula.proofs.Join.{join-truth}
use Rattle.sheet.specs.Format.{Bytes, Format, sheet_length, variables, nodes}
use Rattle.sheet.specs.Sheet.{formula, sheet}
use Rattle.sheet.specs.Check.{Answer, refused, accepted, answer, passes, check_tests}
use Rattle.sheet.specs.Limits.{Sound}
use Rattle.sheet.specs.Force.{are_values, value_of, values_of}
use Rattle.sheet.specs.Split.{split_tests, under, split_call, Splits}
use Rattle.sheet.specs.Join.{answers_of, are_answers, join_tests, join_call, RightAnswers}
use Rattle.sheet.proofs.Tests.{passed-∷, passed-++, answer-++, accepted_passes}
use Rattle.sheet.proofs.RoundTrip.{formula-sheet, passes-sheet, length-sheet}
use Rattle.sheet.proofs.Accepted.{accepted_within, accepted_variables, accepted_nodes}
use Rattle.sheet.proofs.Force.{within-given}
use Rattle.sheet.proofs.Calls.{front_written}

-- Split

-- the sheet under values has as many rows less
pub length-under : (F : Format) (b vs : Bytes) → passes (check_tests F b) ≡ true
    → length (sheet F (under vs (formula F b))) ≡ sheet_length F (variables F b - length vs) (nodes F b)
length-under F b vs h =
    let f = formula F b in
    length-sheet F (under vs f) ∙
    ap₂ (sheet_length F)
    (ap length (prefix_given (values_of vs) f.prefix f.matrix) ∙ length-drop (length (values_of vs)) f.prefix ∙
    ap₂ ◌-◌ (accepted_variables F b h) (length-map vs value_of))
    (rows-given (values_of vs) f.prefix f.matrix ∙ accepted_nodes F b h)

-- what an accepted Split writes
pub split_right : (F : Format) → Sound F → (b vs out : Bytes) (n : ℕ) → (split_call F b vs out).answer ≡ accepted n
    → Splits F b vs (take n (split_call F b vs out).output)
unfolding split_call split_tests
split_right F sound b vs out n h =
    let g = under vs (formula F b) in
    let w = front_written (split_tests F b vs (length out)) (sheet F g) out n h in
    let checked = (passed-++ (check_tests F b) _ w.0).0 in
    let within = within-given F (values_of vs) (formula F b) (accepted_within F b checked) in
    subst (Splits F b vs) (sym w.1) (record { is_accepted = passes-sheet F sound g within; is_under = formula-sheet F sound g within })

-- after 8: 21, then 22, then 13

module _ (F : Format) (b vs : Bytes) (len : ℕ) (checked : passes (check_tests F b) ≡ true) {A : Type 0} (a : A) where
  abbrev split_by : Bool → Bool → Bool → Answer A
  split_by values many short =
      cond (not values) (refused 21 0) (cond many (refused 22 0) (cond short (refused 13 0) (accepted a)))

  split_tested : {values many short : Bool} → are_values vs ≡ values → ltb (variables F b) (length vs) ≡ many
      → ltb len (sheet_length F (variables F b - length vs) (nodes F b)) ≡ short → answer (split_tests F b vs len) a ≡ split_by values many short
  unfolding split_tests answer
  split_tested {values} e₁ e₂ e₃ =
      answer-++ (check_tests F b) _ a checked ∙
      ap (λ (v : Bool). split_by v (ltb (variables F b) (length vs)) (ltb len (sheet_length F (variables F b - length vs) (nodes F b)))) e₁ ∙
      ap₂ (λ (m s : Bool). split_by values m s) e₂ e₃

  pub split_21 : are_values vs ≡ false → answer (split_tests F b vs len) a ≡ refused 21 0
  split_21 e = split_tested e refl refl

  module _ (e : are_values vs ≡ true) where
    pub split-22 : variables F b < length vs → answer (split_tests F b vs len) a ≡ refused 22 0
    split-22 l = split_tested e (lt-ltb (variables F b) (length vs) l) refl

    module _ (few : length vs ≤ variables F b) where
      pub split-13 : len < sheet_length F (variables F b - length vs) (nodes F b) → answer (split_tests F b vs len) a ≡ refused 13 0
      split-13 l =
          split_tested e (le-ltb (variables F b) (length vs) few)
          (lt-ltb len (sheet_length F (variables F b - length vs) (nodes F b)) l)

      pub split-none : sheet_length F (variables F b - length vs) (nodes F b) ≤ len → passes (split_tests F b vs len) ≡ true
      split-none l =
          (accepted_passes (split_tests F b vs len) a a
          (split_tested e (le-ltb (variables F b) (length vs) few)
          (le-ltb len (sheet_length F (variables F b - length vs) (nodes F b)) l))).0

-- Join

-- of right answers, a verdict is the truth
pub join_right : (F : Format) (b : Bytes) (k : ℕ) (xs : Bytes) (v : Bool) → join_call F b k xs ≡ accepted (some v)
    → RightAnswers (formula F b) k xs → v ≡ truth (formula F b)
unfolding join_call join_tests
join_right F b k xs v h right =
    let passed = accepted_passes (join_tests F b k xs) (join_answers k (formula F b) (answers_of xs)) (some v) h in
    let parts = passed-++ (check_tests F b) _ passed.0 in
    let few = ltb-false (variables F b) k (passed-∷ _ _ parts.1).0 in
    join-truth k (formula F b) (answers_of xs) (accepted_within F b parts.0).is_distinct
    (omega (arith, few, accepted_variables F b parts.0)) right v passed.1

-- after 8: 22, then 28, then 29

module _ (F : Format) (b : Bytes) (k : ℕ) (xs : Bytes) (checked : passes (check_tests F b) ≡ true) where
  abbrev joins : Known
  joins = join_answers k (formula F b) (answers_of xs)

  abbrev join_by : Bool → Bool → Bool → Answer Known
  join_by many count good = cond many (refused 22 0) (cond (not count) (refused 28 0) (cond (not good) (refused 29 0) (accepted joins)))

  join_tested : {many count good : Bool} → ltb (variables F b) k ≡ many → eqb (length xs) (2 ^ k) ≡ count → are_answers xs ≡ good
      → join_call F b k xs ≡ join_by many count good
  unfolding join_call join_tests answer
  join_tested {many} e₁ e₂ e₃ =
      answer-++ (check_tests F b) _ joins checked ∙
      ap (λ (m : Bool). join_by m (eqb (length xs) (2 ^ k)) (are_answers xs)) e₁ ∙ ap₂ (λ (c g : Bool). join_by many c g) e₂ e₃

  pub join_22 : variables F b < k → join_call F b k xs ≡ refused 22 0
  join_22 l = join_tested (lt-ltb (variables F b) k l) refl refl

  module _ (few : k ≤ variables F b) where
    pub join-28 : (length xs ≡ 2 ^ k → ⊥) → join_call F b k xs ≡ refused 28 0
    join-28 n = join_tested (le-ltb (variables F b) k few) (ne_eqb (length xs) (2 ^ k) n) refl

    module _ (count : length xs ≡ 2 ^ k) where
      pub join-29 : are_answers xs ≡ false → join_call F b k xs ≡ refused 29 0
      join-29 e = join_tested (le-ltb (variables F b) k few) (eq-eqb (length xs) (2 ^ k) count) e

      pub join-accepted : are_answers xs ≡ true → join_call F b k xs ≡ accepted joins
      join-accepted e = join_tested (le-ltb (variables F b) k few) (eq-eqb (length xs) (2 ^ k) count) e
