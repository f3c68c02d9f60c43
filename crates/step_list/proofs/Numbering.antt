-- The whole list in arrays of numbers, from what its beginning, its turns and its end leave.
-- Assumes nothing.
use mathlib.Core.Path.{◌≡◌, refl, sym, ap, ap₂, ◌∙◌, subst}
use mathlib.Core.Bool.{true}
use mathlib.Core.List.{List, ◌++◌, map}
use Prim.Native.Nat.{ℕ, ◌-◌}
use lib.ListN.{length, take, replicate}
use lib.Seq.{paste}
use Rattle.sheet.specs.Format.{Bytes, Format}
use Rattle.sheet.specs.Check.{refused, accepted, answer, passes}
use Rattle.sheet.specs.Operations.{tidy_tests}
use Rattle.sheet.specs.Steps.{Step, filled, given, Listed, steps_call}
use Rattle.sheet.specs.Limits.{Sound}
use Rattle.sheet.specs.Truthful.{truth_of, SheetOf, TruthfulSteps}
use Rattle.sheet.proofs.Steps.{length-filled}
use Rattle.sheet.proofs.Truthful.{steps_truthful}
use Rattle.step_list.specs.Numbers.{record_count, numbered, step_number, step_value, over, Tabled, tabled}
use Rattle.step_list.specs.Inner.Turns.{room}
use Rattle.step_list.proofs.Arrays.{length-numbered, part_all, numbers_stay, values_stay, Filled}
use Rattle.step_list.proofs.Whole.{is_refused, finished}

module _ (F : Format) (b : Bytes) (operations variables numbers values first second : List ℕ) where
  abbrev steps : List Step
  steps = numbered operations variables numbers values

  abbrev whole : Listed
  whole = steps_call F b steps first second

  -- refused, nothing changes
  pub refused-whole : {k p : ℕ} → refused k p ≡ answer (tidy_tests F b (room first second)) b
      → ◌≡◌ {A = Tabled} (record { answer = refused k p; numbers = numbers; values = values; first = first; second = second }) (tabled numbers values whole)
  refused-whole {k} {p} e =
      ap₂ (λ (ns vs : List ℕ). record { answer = refused k p; numbers = ns; values = vs; first = first; second = second })
      (sym (numbers_stay operations variables numbers values)) (sym (values_stay operations variables numbers values)) ∙
      ap (tabled numbers values) (sym (is_refused F b steps first second e))

  -- accepted, with all turns taken
  module _ (pass : passes (tidy_tests F b (room first second)) ≡ true) (first₁ : Bytes) (l : length first₁ ≡ length first)
      (front : take (length b) first₁ ≡ b) {numbers₂ values₂ first₂ second₂ : List ℕ} {held₂ i : ℕ}
      (filled_are : Filled F operations variables numbers values first₁ second (length b) i numbers₂ values₂ first₂ second₂ held₂)
      (all : i ≡ record_count operations variables numbers values) where
    f : Filled F operations variables numbers values first₁ second (length b) (length steps) numbers₂ values₂ first₂ second₂ held₂
    f =
        subst (λ (k : ℕ). Filled F operations variables numbers values first₁ second (length b) k numbers₂ values₂ first₂ second₂ held₂)
        (all ∙ sym (length-numbered operations variables numbers values)) filled_are

    abbrev done : List Step
    done = filled F (room first₁ second) steps (given (take (length b) first₁))

    part : (h : Step → ℕ) (old : List ℕ) → paste old 0 (map h done) (length steps) ≡ over h done old
    part h old = part_all h old done (sym (length-filled F (room first₁ second) steps (given (take (length b) first₁))))

    pub accepted-whole : {first₃ second₃ : Bytes} → first₃ ≡ (take held₂ first₂ ++ replicate (length first₂ - held₂) 0)
        → second₃ ≡ (take 0 second₂ ++ replicate (length second₂ - 0) 0)
        → ◌≡◌ {A = Tabled} (record { answer = accepted held₂; numbers = numbers₂; values = values₂; first = first₃; second = second₃ })
        (tabled numbers values whole)
    accepted-whole {first₃} {second₃} e₁ e₂ =
        ap₂ (λ (ns vs : List ℕ). record { answer = accepted held₂; numbers = ns; values = vs; first = first₃; second = second₃ })
        (f.numbers_are ∙ part step_number numbers) (f.values_are ∙ part step_value values) ∙
        ap (tabled numbers values) (finished F b steps first second pass first₁ l front f.going (f.same_first ∙ l) f.same_second e₁ e₂)

  -- and its sheet has the truth of the one given
  pub says_truth : Sound F → (steps₃ : List Step) (t : Tabled) → t ≡ tabled numbers values whole
      → TruthfulSteps F (truth_of F b) (record { answer = t.answer; steps = steps₃; first = t.first; second = t.second })
  says_truth sound steps₃ t e =
      let truthful = steps_truthful F sound b steps first second refl in
      record {
        on_accepted =
            λ n is. subst (λ (c : Bytes). SheetOf F (truth_of F b) (take n c)) (sym (ap (λ (t : Tabled). t.first) e))
            (truthful.on_accepted n (sym (ap (λ (t : Tabled). t.answer) e) ∙ is));
      }
