-- A list taken in parts: records loaded, put back and stored, and a part followed from the sheet that the list reached.
-- Assumes nothing.
use mathlib.Core.Path.{◌≡◌, refl, sym, ◌∙◌, ap, ap₂, subst}
use mathlib.Core.Bool.{Bool, true, false}
use mathlib.Core.List.{List, ◌++◌, map}
use Prim.Native.Nat.{ℕ, zero, suc, ◌+◌, ◌≤◌, ◌<◌}
use native.Mathlib.Nat.{add-zero, add-suc}
use native.Mathlib.Omega.{arith}
use lib.Dec.{eqb}
use lib.ListN.{length, get_or, set, take, drop, replicate, length-set, length-replicate, length-map, get_or-map}
use lib.Seq.{length-take-le, length_front, take_at, get_or-set_same, get_or-set_other, paste, paste-zero, paste-suc}
use borrow.Author.Tests.{eqb-true, eqb-false}
use Rattle.sheet.specs.Format.{Bytes, Format}
use Rattle.sheet.specs.Calls.{perform, perform_all, held}
use Rattle.sheet.specs.Steps.{Step as Record, single, call_of, calls, after, fill, filled, given, reached}
use Rattle.sheet.proofs.Steps.{fill_at, reached-next}
use Rattle.step_list.specs.declared.Step.{Step}
use Rattle.step_list.specs.Inner.Records.{operation_of, step_of}
use Rattle.step_list.specs.Numbers.{numbered_operation, step_number, step_value}
use Rattle.step_list.specs.Inner.Turns.{Follows}
use Rattle.step_list.specs.Inner.Parts.{none, Loaded, Parted, Stored}

-- records are loaded one after another

module _ (operations variables : List ℕ) (at : ℕ) where
  pub loaded_none : Loaded operations variables at 0 (replicate 64 none)
  loaded_none =
      record { size = length-replicate 64 none; operations_are = λ j l. absurd (omega arith); variables_are = λ j l. absurd (omega arith) }

  pub loaded_next : {j k : ℕ} {steps : List Step} → Loaded operations variables at j steps → j < 64 → k ≡ suc j
      → (s : Step) → operation_of s.operation ≡ numbered_operation (get_or operations (at + j) 0) → s.variable ≡ get_or variables (at + j) 0
      → Loaded operations variables at k (set steps j s)
  loaded_next {j} {k} {steps} l few next s eo ex =
      record {
        size = length-set steps j s ∙ l.size;
        operations_are = λ i h. by-operation i h (eqb i j) refl;
        variables_are = λ i h. by_variable i h (eqb i j) refl;
      }
    where
      here : get_or (set steps j s) j none ≡ s
      here = get_or-set_same steps j s none (omega (arith, l.size))

      by-operation : (i : ℕ) → i < k → (c : Bool) → eqb i j ≡ c → operation_of (get_or (set steps j s) i none).operation ≡ numbered_operation (get_or operations (at + i) 0)
      by-operation i h true e =
          rw (eqb-true i j e) (ap (λ (t : Step). operation_of t.operation) here ∙ eo)
      by-operation i h false e =
          let other = eqb-false i j e in
          ap (λ (t : Step). operation_of t.operation) (get_or-set_other steps j i s none other) ∙ l.operations_are i (omega (arith, next))

      by_variable : (i : ℕ) → i < k → (c : Bool) → eqb i j ≡ c → (get_or (set steps j s) i none).variable ≡ get_or variables (at + i) 0
      by_variable i h true e = rw (eqb-true i j e) (ap (λ (t : Step). t.variable) here ∙ ex)
      by_variable i h false e =
          let other = eqb-false i j e in
          ap (λ (t : Step). t.variable) (get_or-set_other steps j i s none other) ∙ l.variables_are i (omega (arith, next))

-- answers are stored one after another

module _ (steps : List Step) (at : ℕ) (numbers values : List ℕ) where
  pub stored_none : Stored steps 0 at numbers values numbers values
  stored_none =
      record {
        numbers_are = paste-zero numbers at (map step_number (map step_of steps));
        values_are = paste-zero values at (map step_value (map step_of steps));
      }

  part_stored : (part : Record → ℕ) → part (step_of none) ≡ 0 → (old : List ℕ) {now : List ℕ} {j k v : ℕ} → now ≡ paste old at (map part (map step_of steps)) j
      → at + j < length old → j < length steps → k ≡ suc j → v ≡ part (step_of (get_or steps j none))
      → set now (at + j) v ≡ paste old at (map part (map step_of steps)) k
  part_stored part zeros old {now} {j} {k} {v} e lo ls next is =
      let new = map part (map step_of steps) in
      let here : v ≡ get_or new j 0
      = is ∙ ap part (sym (get_or-map step_of steps j none)) ∙ sym (get_or-map part (map step_of steps) j (step_of none)) ∙ ap (get_or new j) zeros in
      ap₂ (λ (q : List ℕ) (x : ℕ). set q (at + j) x) e here ∙
      paste-suc old at new j 0 lo (omega (arith, length-map (map step_of steps) part, length-map steps step_of)) ∙ ap (paste old at new) (sym next)

  pub stored_next : {numbers₁ values₁ : List ℕ} {j k m v : ℕ} → Stored steps j at numbers values numbers₁ values₁
      → at + j < length numbers → at + j < length values → j < length steps → k ≡ suc j
      → m ≡ step_number (step_of (get_or steps j none)) → v ≡ step_value (step_of (get_or steps j none))
      → Stored steps k at numbers values (set numbers₁ (at + j) m) (set values₁ (at + j) v)
  stored_next s ln lv ls next em ev =
      record {
        numbers_are = part_stored step_number refl numbers s.numbers_are ln ls next em;
        values_are = part_stored step_value refl values s.values_are lv ls next ev;
      }

-- records put back at the front of their array

pub parted : (F : Format) (steps : List Step) (n held : ℕ) (first second first' : Bytes) (done : List Step) (r : ℕ) → length steps ≡ 64 → n ≤ 64
    → length done ≡ length (take n steps) → Follows F (take n steps) held first second done first' r
    → Parted F steps n held first second first' (record { steps = done ++ drop n steps; held = r })
parted F steps n held first second first' done r size few e f =
    let here : length done ≡ n = e ∙ length-take-le n steps (omega (arith, size)) in
    record {
      size = length_front steps done n e ∙ size;
      follows = subst (λ (l : List Step). Follows F (take n steps) held first second l first' r) (sym (take_at done (drop n steps) n here)) f;
    }

-- a part with the operations and variables of n steps of a list from place `at` on, taken on the sheet that the list reached there

module _ (F : Format) (m : ℕ) (all : List Record) (b : Bytes) (part : List Record) (at n : ℕ) (d : Record) (size : length part ≡ n) (inside : at + n ≤ length all)
    (same_operation : (j : ℕ) → j < n → (get_or part j d).operation ≡ (get_or all (at + j) d).operation)
    (same_variable : (j : ℕ) → j < n → (get_or part j d).variable ≡ (get_or all (at + j) d).variable) where
  abbrev here : Bytes
  here = reached F m all b at

  -- it reaches the same sheets
  pub reached_on : (j : ℕ) → j ≤ n → reached F m part here j ≡ reached F m all b (at + j)
  unfolding reached held calls perform_all
  reached_on zero l = ap (reached F m all b) (sym (add-zero at))
  reached_on (suc j) l =
      reached-next F m part here j d (omega (arith, size)) ∙
      ap₂ (λ o x. (after F (single o x (replicate m 0)) (given (reached F m part here j))).sheet) (same_operation j l) (same_variable j l) ∙
      ap (λ c. (after F (call_of m (get_or all (at + j) d)) (given c)).sheet) (reached_on j (omega arith)) ∙
      sym (reached-next F m all b (at + j) d (omega (arith, inside))) ∙ ap (reached F m all b) (sym (add-suc at j))

  -- and its records are filled alike
  pub filled_on : (j : ℕ) → j < n → get_or (filled F m part (given here)) j d ≡ get_or (filled F m all (given b)) (at + j) d
  unfolding fill
  filled_on j l =
      fill_at F m part here j d (omega (arith, size)) ∙
      ap₂ (λ o x. record { operation = o; variable = x; answer = (perform F (single o x (replicate m 0)) (reached F m part here j)).answer })
      (same_operation j l) (same_variable j l) ∙
      ap (λ c. fill F m (get_or all (at + j) d) c) (reached_on j (omega arith)) ∙ sym (fill_at F m all b (at + j) d (omega (arith, inside)))
