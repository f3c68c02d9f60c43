-- The whole list: what its beginning, its turns and its end leave is what the definition says.
-- Assumes nothing.
use mathlib.Core.Path.{◌≡◌, sym, ap, ap₂, ◌∙◌}
use mathlib.Core.Bool.{true, cond}
use mathlib.Core.List.{List, [], ◌∷◌, ◌++◌}
use Prim.Native.Nat.{ℕ, ◌-◌, ◌≤◌, ◌<◌, min}
use native.Mathlib.Omega.{arith}
use lib.Dec.{ltb}
use lib.ListN.{length, take, replicate}
use lib.Seq.{length-take-le}
use borrow.Author.Tests.{lt-ltb, le-ltb}
use Rattle.sheet.specs.Format.{Bytes, Format}
use Rattle.sheet.specs.Check.{refused, accepted, test, answer, passes, check_tests, check}
use Rattle.sheet.specs.Operations.{padded, tidy_tests}
use Rattle.sheet.specs.Calls.{held}
use Rattle.sheet.specs.Steps.{Step, calls, filled, given, reached, listed, Listed, steps_call}
use Rattle.sheet.proofs.Tests.{passes-++, answer-++, answer-passes, refused_first, refused_alike}
use Rattle.sheet.proofs.Steps.{reached-last}
use Rattle.step_list.specs.Inner.Turns.{room}
use Rattle.step_list.proofs.Turning.{Going}

-- the tests of the whole

module _ (F : Format) (b first second : Bytes) where
  abbrev n : ℕ
  n = room first second

  pub unchecked : {k p : ℕ} → refused k p ≡ check F b → refused k p ≡ answer (tidy_tests F b n) b
  unfolding tidy_tests check
  unchecked e = refused_first (check_tests F b) (test (ltb n (length b)) 13 0 ∷ []) _ b e

  pub no_room : passes (check_tests F b) ≡ true → n < length b → refused 13 0 ≡ answer (tidy_tests F b n) b
  unfolding tidy_tests answer
  no_room h l =
      sym (answer-++ (check_tests F b) (test (ltb n (length b)) 13 0 ∷ []) b h ∙
      ap (λ t. cond t (refused 13 0) (accepted b)) (lt-ltb n (length b) l))

  pub has_room : passes (check_tests F b) ≡ true → length b ≤ n → passes (tidy_tests F b n) ≡ true
  unfolding tidy_tests passes
  has_room h l = rw (passes-++ (check_tests F b) (test (ltb n (length b)) 13 0 ∷ []), h, le-ltb n (length b) l)

-- the second buffer cleared
pub all_zeros : (d : Bytes) → (take 0 d ++ replicate (length d - 0) 0) ≡ replicate (length d) 0
all_zeros d =
    let same : length d - 0 ≡ length d = omega arith in
    ap (λ m. replicate {A = ℕ} m 0) same

module _ (F : Format) (b : Bytes) (steps : List Step) (first second : Bytes) where
  abbrev whole : Listed
  whole = steps_call F b steps first second

  abbrev last : Bytes
  last = (held F b (calls (room first second) steps)).sheet

  abbrev done : List Step
  done = filled F (room first second) steps (given b)

  -- refused, no record and no byte changes
  pub is_refused : {k p : ℕ} → refused k p ≡ answer (tidy_tests F b (room first second)) b
      → whole ≡ record { answer = refused k p; steps = steps; first = first; second = second }
  unfolding steps_call listed
  is_refused e = ap (listed steps done first second) (sym (refused_alike (tidy_tests F b (room first second)) b last e))

  is_accepted : passes (tidy_tests F b (room first second)) ≡ true → whole ≡ listed steps done first second (accepted last)
  unfolding steps_call
  is_accepted e = ap (listed steps done first second) (answer-passes (tidy_tests F b (room first second)) last e)

  -- accepted: from the sheet at the front of the first buffer on, all turns are taken, and then both buffers are cleared behind the sheet held
  module _ (pass : passes (tidy_tests F b (room first second)) ≡ true) (first₁ : Bytes) (l : length first₁ ≡ length first)
      (front : take (length b) first₁ ≡ b) {held₂ : ℕ} {first₂ second₂ first₃ second₃ : Bytes}
      (going : Going F (room first₁ second) steps (take (length b) first₁) (length steps) held₂ first₂ second₂)
      (l₁ : length first₂ ≡ length first) (l₂ : length second₂ ≡ length second)
      (e₁ : first₃ ≡ (take held₂ first₂ ++ replicate (length first₂ - held₂) 0))
      (e₂ : second₃ ≡ (take 0 second₂ ++ replicate (length second₂ - 0) 0)) where
    pub finished : ◌≡◌ {A = Listed} (record { answer = accepted held₂; steps = filled F (room first₁ second) steps (given (take (length b) first₁)); first = first₃; second = second₃ }) whole
    unfolding listed padded
    finished =
        let same : room first₁ second ≡ room first second = ap (λ (m : ℕ). min m (length second)) l in
        let at_end : take held₂ first₂ ≡ last
        = going.sheet_held ∙ ap₂ (λ (k : ℕ) (c : Bytes). reached F k steps c (length steps)) same front ∙
        reached-last F (room first second) steps b in
        let size : held₂ ≡ length last
        = sym (length-take-le held₂ first₂ (omega (arith, going.is_short, going.same_room))) ∙ ap length at_end in
        let steps_are : filled F (room first₁ second) steps (given (take (length b) first₁)) ≡ done = ap₂ (λ (k : ℕ) (c : Bytes). filled F k steps (given c)) same front in
        let in_first : first₃ ≡ padded (length first) last
        = e₁ ∙ ap₂ (λ (c : Bytes) (k : ℕ). c ++ replicate k 0) at_end (ap₂ (λ (p q : ℕ). p - q) l₁ size) in
        let in_second : second₃ ≡ replicate (length second) 0 = e₂ ∙ all_zeros second₂ ∙ ap (λ (k : ℕ). replicate k 0) l₂ in
        let ends : ◌≡◌ {A = Listed} (record { answer = accepted held₂; steps = filled F (room first₁ second) steps (given (take (length b) first₁)); first = first₃; second = second₃ })
        (listed steps done first second (accepted last))
        = λ i. record { answer = accepted (size i); steps = steps_are i; first = in_first i; second = in_second i } in
        ends ∙ sym (is_accepted pass)
