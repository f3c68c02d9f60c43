-- A refusal of Claim: of which sheet, its number, 1 to 27, and its place, a row of the largest sheet or the one behind the last.
-- Assumes nothing.
use mathlib.Core.Path.{◌≡◌, refl, ◌∙◌, ap}
use mathlib.Core.Bool.{Bool, true, false, not, cond}
use mathlib.Core.List.{List, [], ◌∷◌, append-nil}
use mathlib.Core.Logic.{⊎_elim}
use mathlib.Core.Option.{Option, none, some}
use Prim.Native.Nat.{ℕ, suc, ◌≤◌}
use lib.ListN.{length}
use native.Mathlib.Omega.{arith}
use Rattle.formula.specs.Tree.{Quantifier, rows}
use Rattle.formula.specs.Strategy.{Pairs, is_covering, in_order}
use Rattle.formula.specs.StrategyMatrix.{pairs_of}
use Rattle.formula.proofs.Strategy.Matrix.{matrix_pairs}
use Rattle.sheet.specs.Format.{Bytes, Format, variables}
use Rattle.sheet.specs.Sheet.{formula, sheet}
use Rattle.sheet.specs.Refusals.{no_room}
use Rattle.sheet.specs.Check.{Answer, refused, accepted, Test, test, answer, passes, check_tests, IsKnown, last_place}
use Rattle.sheet.specs.Strategy.{fits_output, Claimed, claim_refused, claim_written, fault_row, pair_tests, strategy_tests, claim_formula, of_sheet, claim_answer}
use Rattle.sheet.proofs.Tests.{accepted_passes}
use Rattle.sheet.proofs.Known.{check-or_own}
use Rattle.sheet.proofs.Accepted.{accepted_within, accepted_variables}
use Rattle.sheet.proofs.Strategy.Faults.{fault_row_most}

-- a number, and a place
abbrev Numbered : Format → ℕ → ℕ → Type 0
Numbered F n i = (1 ≤ n) × (n ≤ 27) × (i ≤ last_place F)

numbered : (F : Format) {m j n i : ℕ} → ◌≡◌ {A = Answer Claimed} (refused m j) (refused n i) → 1 ≤ m → m ≤ 27 → j ≤ last_place F → Numbered F n i
numbered F {m} {j} {n} {i} e l k p =
    let number : m ≡ n = cc in
    let place : j ≡ i = cc in
    (omega arith, omega arith, omega arith)

no_refusal : {B : Type 0} {c : Claimed} {n i : ℕ} → ◌≡◌ {A = Answer Claimed} (accepted c) (refused n i) → B
no_refusal e = let z : ◌≡◌ {A = ℕ} 0 1 = cc in absurd (omega arith)

known-numbered : (F : Format) {n i : ℕ} → IsKnown n × (i ≤ last_place F) → Numbered F n i
known-numbered F k = (k.0.least, omega (arith, k.0.most), k.1)

module _ (F : Format) (b : Bytes) (q : Quantifier) (s : Bytes) where
  -- 26 and 27
  own_numbered : (m : Bool) (o : Option Pairs) (c : Claimed) {n i : ℕ} → passes (check_tests F s) ≡ true → pairs_of (formula F s).matrix ≡ o
      → answer (test m 26 0 ∷ pair_tests q (formula F b).prefix (suc (variables F s)) o) c ≡ refused n i → Numbered F n i
  unfolding answer pair_tests
  own_numbered true o c p r e = numbered F e (omega arith) (omega arith) (omega arith)
  own_numbered false none c p r e = numbered F e (omega arith) (omega arith) (omega arith)
  own_numbered false (some g) c {n} {i} p r e =
      by (is_covering q (formula F b).prefix g) (in_order q (formula F b).prefix g) e
    where
      place : ℕ
      place = fault_row q (formula F b).prefix (suc (variables F s)) g

      by : (m k : Bool) → cond (not m) (refused 26 0) (cond (not k) (refused 27 place) (accepted c)) ≡ refused n i → Numbered F n i
      by false k e = numbered F e (omega arith) (omega arith) (omega arith)
      by true true e = no_refusal e
      by true false e =
          let w = accepted_within F s p in
          let most = fault_row_most q (formula F b).prefix (suc (variables F s)) g in
          let same = ap rows (matrix_pairs (formula F s).matrix g r) in
          numbered F e (omega arith) (omega arith) (omega (arith, most, same, w.few_nodes, w.few_variables, accepted_variables F s p))

  -- a refusal is of the sheet named, or a later one
  says : (named : ℕ) (tests : List Test) (c : Claimed) {which n i : ℕ} → of_sheet named (answer tests c) ≡ claim_refused which n i
      → (c ≡ claim_refused which n i → (which ≤ 2) × Numbered F n i) → named ≤ 2
      → ((n i : ℕ) → answer tests c ≡ refused n i → Numbered F n i) → (which ≤ 2) × Numbered F n i
  unfolding of_sheet
  says named tests c {which} {n} {i} e later l own = by (answer tests c) refl e
    where
      by : (a : Answer Claimed) → answer tests c ≡ a → of_sheet named a ≡ claim_refused which n i → (which ≤ 2) × Numbered F n i
      by (refused m j) k h =
          let same : named ≡ which = cc in
          let number : m ≡ n = cc in
          let place : j ≡ i = cc in
          let r = own m j k in
          (omega arith, (omega (arith, r.0), omega (arith, r.1), omega (arith, r.2)))
      by (accepted d) k h = later ((accepted_passes tests c d k).1 ∙ h)

  module _ (len : ℕ) where
    abbrev room-tests : List Test
    room-tests = test (not (fits_output F len (claim_formula F b q s))) no_room 0 ∷ []

    abbrev written : Claimed
    written = claim_written (length (sheet F (claim_formula F b q s)))

    abbrev third : Claimed
    third = of_sheet 0 (answer room-tests written)

    abbrev second : Claimed
    second = of_sheet 2 (answer (strategy_tests F b q s) third)

    first-numbered : (n i : ℕ) → answer (check_tests F b) second ≡ refused n i → Numbered F n i
    unfolding answer
    first-numbered n i e =
        ⊎_elim (known-numbered F) (λ o. no_refusal o.1)
        (check-or_own F b [] second (ap (λ ts. answer ts second) (append-nil (check_tests F b)) ∙ e))

    second-numbered : (n i : ℕ) → answer (strategy_tests F b q s) third ≡ refused n i → Numbered F n i
    unfolding strategy_tests
    second-numbered n i e =
        ⊎_elim (known-numbered F) (λ o. own_numbered _ (pairs_of (formula F s).matrix) third o.0 refl o.1) (check-or_own F s _ third e)

    room-numbered : (n i : ℕ) → answer room-tests written ≡ refused n i → Numbered F n i
    unfolding answer
    room-numbered n i e = by (fits_output F len (claim_formula F b q s)) e
      where
        by : (m : Bool) → cond (not m) (refused 13 0) (accepted written) ≡ refused n i → Numbered F n i
        by true k = no_refusal k
        by false k = numbered F k (omega arith) (omega arith) (omega arith)

    pub claim-known : (which n i : ℕ) → claim_answer F b q s len ≡ claim_refused which n i
        → (which ≤ 2) × (1 ≤ n) × (n ≤ 27) × (i ≤ last_place F)
    unfolding claim_answer
    claim-known which n i e =
        let r = says 1 (check_tests F b) second e
        (λ e₂. says 2 (strategy_tests F b q s) third e₂
        (λ e₃. says 0 room-tests written e₃ (λ k. let z : ◌≡◌ {A = ℕ} 0 1 = cc in absurd (omega arith)) (omega arith) room-numbered)
        (omega arith) second-numbered)
        (omega arith) first-numbered in
        (r.0, r.1.0, r.1.1, r.1.2)
