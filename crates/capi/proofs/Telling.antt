-- A contract for C with what its number says about truth: each law takes the equation of the contract, and gives it back with the claim.
-- Assumes nothing.
use mathlib.Core.Path.{◌≡◌, refl, sym, ap, ◌∙◌, subst}
use mathlib.Core.Bool.{Bool}
use mathlib.Core.List.{List}
use Prim.Native.Nat.{ℕ, min}
use native.Mathlib.Omega.{arith}
use lib.ListN.{length, take}
use Rattle.formula.specs.Truth.{truth}
use Rattle.sheet.specs.Format as sheet
use Rattle.sheet.specs.Format.{Bytes, narrow, wide}
use Rattle.sheet.specs.Check.{Answer, refused, accepted, Test, answer}
use Rattle.sheet.specs.Calls.{held}
use Rattle.sheet.specs.Steps.{Step, calls, filled, given, listed, steps_call}
use Rattle.sheet.specs.Operations.{Written, Solving, tidy_tests, tidy_call, settle_call, expand_call, execute_call, reduce_call, solve_call, trial_call}
use Rattle.sheet.specs.Qdimacs.{qdimacs, qdimacs_call}
use Rattle.sheet.specs.Force.{Forcing, force_call}
use Rattle.sheet.specs.Guards.{Guarding, guards_call}
use Rattle.sheet.specs.Conversion.{to_wide_call, to_narrow_call}
use Rattle.sheet.specs.Resume.{named, resume_call}
use Rattle.sheet.specs.Order.{sort_call}
use Rattle.sheet.specs.Truthful.{truth_of}
use Rattle.sheet.proofs.Tests.{accepted_passes}
use Rattle.sheet.proofs.Steps.{steps_taken}
use Rattle.sheet.proofs.Known.{refused_known, tidy-known, tidy-place}
use Rattle.sheet.proofs.Truthful.{steps_truthful, tidy_truthful, settle_truthful, expand_truthful, execute_truthful, outer_truthful, reduce_truthful, sort_truthful}
use Rattle.sheet.proofs.Truthful.{qdimacs_truthful, to_wide_truthful, to_narrow_truthful, trial_truthful, solve_truthful, resume_truthful, guards_truthful, force_truthful}
use Rattle.rows.specs.Formats.{format_of}
use Rattle.rows.specs.declared.Format.{Format}
use Rattle.rows.proofs.Limits.{sound}
use Rattle.outer.specs.Answers.{OuterWritten, outer_written}
use Rattle.outer.proofs.Telling.{alone_is}
use Rattle.packing.specs.Packed.{packed_trial, packed_written, packed_solved, packed_guards}
use Rattle.packing.specs.Copies.{packed_copied}
use Rattle.packing.specs.Panel.{packed_forced}
use Rattle.packing.specs.Told.{ToldSheet, ToldCopied, ToldTrial, ToldSolve, ToldGuards, ToldForce}
use Rattle.packing.specs.Unpacked.{FitsWritten}
use Rattle.packing.proofs.Ranges.{told, short}
use Rattle.packing.proofs.Ranges.{tidy-fits, settle_fits, expand_fits, execute_fits, reduce_fits, sort-fits, to_wide-fits, to_narrow-fits, qdimacs-fits, trial-fits, guards-fits, force_fits}
use Rattle.packing.proofs.Copied.{outer_fits}
use Rattle.packing.proofs.Refused.{solve-numbers, resume_numbers}
use Rattle.packing.proofs.Telling.{told_sheet, told_copied, told_trial, told_solve, told_guards, told_force}
use Rattle.step_list.specs.Numbers.{Tabled, tabled}
use Rattle.capi.specs.Returned.{Listed, packed_listing, Output, packed_writing, packed_copying, Buffers, packed_solving, packed_forcing, Guarded, packed_guarding}

-- what packing returns beside what an operation answers and leaves

pub written_joined : {r : ℕ} {w call : Written} → r ≡ packed_written w.answer → w ≡ call
    → ◌≡◌ {A = Output} (record { number = r; output = w.output }) (packed_writing call)
written_joined {w = w} p e = ap (λ (n : ℕ). record { number = n; output = w.output }) p ∙ ap packed_writing e

pub copied-joined : {r : ℕ} {w call : OuterWritten} → r ≡ packed_copied w.answer → w ≡ call
    → ◌≡◌ {A = Output} (record { number = r; output = w.output }) (packed_copying call)
copied-joined {w = w} p e = ap (λ (n : ℕ). record { number = n; output = w.output }) p ∙ ap packed_copying e

pub solving-joined : {r : ℕ} {w call : Solving} → r ≡ packed_solved w.answer → w ≡ call
    → ◌≡◌ {A = Buffers} (record { number = r; first = w.first; second = w.second }) (packed_solving call)
solving-joined {w = w} p e = ap (λ (n : ℕ). record { number = n; first = w.first; second = w.second }) p ∙ ap packed_solving e

pub forcing_joined : {r : ℕ} {w call : Forcing} → r ≡ packed_forced w.answer → w ≡ call
    → ◌≡◌ {A = Buffers} (record { number = r; first = w.first; second = w.second }) (packed_forcing call)
forcing_joined {w = w} p e = ap (λ (n : ℕ). record { number = n; first = w.first; second = w.second }) p ∙ ap packed_forcing e

pub guarding-joined : {r : ℕ} {w call : Guarding} → r ≡ packed_guards w.answer → w ≡ call
    → ◌≡◌ {A = Guarded} (record { number = r; output = w.output; first = w.first; second = w.second }) (packed_guarding call)
guarding-joined {w = w} p e =
    ap (λ (n : ℕ). record { number = n; output = w.output; first = w.first; second = w.second }) p ∙ ap packed_guarding e

pub listing_joined : {r : ℕ} {w call : Tabled} → r ≡ packed_written w.answer → w ≡ call
    → ◌≡◌ {A = Listed} (record { number = r; numbers = w.numbers; values = w.values; first = w.first; second = w.second }) (packed_listing call)
listing_joined {w = w} p e =
    ap (λ (n : ℕ). record { number = n; numbers = w.numbers; values = w.values; first = w.first; second = w.second }) p ∙ ap packed_listing e

-- a claim about what a call returns and leaves

says-sheet : (F : sheet.Format) (b : Bool) {o call : Output} → o ≡ call → ToldSheet F b call.number call.output
    → (o ≡ call) × ToldSheet F b o.number o.output
says-sheet F b e told = (e, subst (λ (o : Output). ToldSheet F b o.number o.output) (sym e) told)

module _ (f : Format) (b : Bytes) where
  abbrev F : sheet.Format
  F = format_of f

  abbrev t : Bool
  t = truth_of F b

  pub tidy_told : (out : Bytes) {o : Output} → o ≡ packed_writing (tidy_call F b out)
      → (o ≡ packed_writing (tidy_call F b out)) × ToldSheet F t o.number o.output
  tidy_told out e = says-sheet F t e (told_sheet (tidy-fits f b out) (tidy_truthful F (sound f) b out refl))

  pub settle_told : (x : ℕ) (out : Bytes) {o : Output} → o ≡ packed_writing (settle_call F b x out)
      → (o ≡ packed_writing (settle_call F b x out)) × ToldSheet F t o.number o.output
  settle_told x out e = says-sheet F t e (told_sheet (settle_fits f b x out) (settle_truthful F (sound f) b x out refl))

  pub expand_told : (x : ℕ) (out : Bytes) {o : Output} → o ≡ packed_writing (expand_call F b x out)
      → (o ≡ packed_writing (expand_call F b x out)) × ToldSheet F t o.number o.output
  expand_told x out e = says-sheet F t e (told_sheet (expand_fits f b x out) (expand_truthful F (sound f) b x out refl))

  pub execute_told : (x ceiling : ℕ) (out : Bytes) {o : Output} → o ≡ packed_writing (execute_call F b x ceiling out)
      → (o ≡ packed_writing (execute_call F b x ceiling out)) × ToldSheet F t o.number o.output
  execute_told x ceiling out e = says-sheet F t e (told_sheet (execute_fits f b x ceiling out) (execute_truthful F (sound f) b x ceiling out refl))

  pub reduce_told : (out : Bytes) {o : Output} → o ≡ packed_writing (reduce_call F b out)
      → (o ≡ packed_writing (reduce_call F b out)) × ToldSheet F t o.number o.output
  reduce_told out e = says-sheet F t e (told_sheet (reduce_fits f b out) (reduce_truthful F (sound f) b out refl))

  pub sort_told : (out : Bytes) {o : Output} → o ≡ packed_writing (sort_call F b out)
      → (o ≡ packed_writing (sort_call F b out)) × ToldSheet F t o.number o.output
  sort_told out e = says-sheet F t e (told_sheet (sort-fits f b out) (sort_truthful F (sound f) b out refl))

  -- the whole list's refusals are those of Tidy, and the sheet that it ends with is short
  steps_fit : (steps : List Step) (first second : Bytes) → FitsWritten (steps_call F b steps first second).answer
  unfolding steps_call listed
  steps_fit steps first second = by (answer tests last) refl
    where
      tests : List Test
      tests = tidy_tests F b (min (length first) (length second))

      last : Bytes
      last = (held F b (calls (min (length first) (length second)) steps)).sheet

      done : List Step
      done = filled F (min (length first) (length second)) steps (given b)

      by : (a : Answer Bytes) → answer tests last ≡ a → FitsWritten (listed steps done first second a).answer
      by (refused n i) e = told f (refused_known tests last (tidy-known F b (min (length first) (length second))) e) (tidy-place F b last (min (length first) (length second)) e)
      by (accepted c) e =
          let is = ap (λ (a : Answer Bytes). (listed steps done first second a).answer) e in
          let left = take (length c) (steps_call F b steps first second).first in
          let size : length left ≡ length c = ap length (steps_taken F b steps first second (length c) is).at_front ∙ ap length (accepted_passes tests last c e).1 in
          let ok = ((steps_truthful F (sound f) b steps first second refl).on_accepted (length c) is).is_accepted in
          omega (arith, short f left ok, size)

  pub steps_told : (steps : List Step) (first second : Bytes) (numbers values : List ℕ) {o : Listed}
      → o ≡ packed_listing (tabled numbers values (steps_call F b steps first second))
      → (o ≡ packed_listing (tabled numbers values (steps_call F b steps first second))) × ToldSheet F t o.number o.first
  steps_told steps first second numbers values e =
      let l = steps_call F b steps first second in
      let truthful = steps_truthful F (sound f) b steps first second refl in (
        e,
        subst (λ (o : Listed). ToldSheet F t o.number o.first) (sym e)
            (told_sheet {w = record { answer = l.answer; output = l.first }} (steps_fit steps first second) (record { on_accepted = truthful.on_accepted })),
      )

  pub outer_said : (x : ℕ) (out : Bytes) {o : Output} → o ≡ packed_copying (outer_written F b x out)
      → (o ≡ packed_copying (outer_written F b x out)) × ToldCopied F t o.number o.output
  outer_said x out e = (
    e,
    subst (λ (o : Output). ToldCopied F t o.number o.output) (sym e)
        (told_copied (outer_written F b x out) (outer_fits f b x out) (outer_truthful F (sound f) b x out (alone_is F b x out))),
  )

  pub trial_told : {n : ℕ} → n ≡ packed_trial (trial_call F b) → (n ≡ packed_trial (trial_call F b)) × ToldTrial t n
  trial_told e = (e, subst (ToldTrial t) (sym e) (told_trial (trial-fits f b) (trial_truthful F b refl)))

  pub solve_told : (first second : Bytes) {o : Buffers} → o ≡ packed_solving (solve_call F b first second)
      → (o ≡ packed_solving (solve_call F b first second)) × ToldSolve F t o.number o.first
  solve_told first second e = (
    e,
    subst (λ (o : Buffers). ToldSolve F t o.number o.first) (sym e)
        (told_solve (solve-numbers F b first second) (solve_truthful F (sound f) b first second refl)),
  )

  pub guards_told : (out first second : Bytes) {o : Guarded} → o ≡ packed_guarding (guards_call F b out first second)
      → (o ≡ packed_guarding (guards_call F b out first second)) × ToldGuards F b o.number o.output
  guards_told out first second e = (
    e,
    subst (λ (o : Guarded). ToldGuards F b o.number o.output) (sym e)
        (told_guards (guards-fits f b out first second) (guards_truthful F (sound f) b out first second refl)),
  )

  pub force_told : (vs first second : Bytes) {o : Buffers} → o ≡ packed_forcing (force_call F b vs first second)
      → (o ≡ packed_forcing (force_call F b vs first second)) × ToldForce F b vs o.number
  force_told vs first second e = (
    e,
    subst (λ (o : Buffers). ToldForce F b vs o.number) (sym e)
        (told_force (force_fits f b vs first second) (force_truthful F b vs first second refl)),
  )

pub qdimacs_told : (f : Format) (s out : Bytes) {o : Output} → o ≡ packed_writing (qdimacs_call (format_of f) s out)
    → (o ≡ packed_writing (qdimacs_call (format_of f) s out)) × ToldSheet (format_of f) (truth (qdimacs s)) o.number o.output
qdimacs_told f s out e =
    says-sheet (format_of f) (truth (qdimacs s)) e (told_sheet (qdimacs-fits f s out) (qdimacs_truthful (format_of f) (sound f) s out refl))

pub to_wide_told : (b out : Bytes) {o : Output} → o ≡ packed_writing (to_wide_call b out)
    → (o ≡ packed_writing (to_wide_call b out)) × ToldSheet wide (truth_of narrow b) o.number o.output
to_wide_told b out e = says-sheet wide (truth_of narrow b) e (told_sheet (to_wide-fits b out) (to_wide_truthful b out refl))

pub to_narrow_told : (b out : Bytes) {o : Output} → o ≡ packed_writing (to_narrow_call b out)
    → (o ≡ packed_writing (to_narrow_call b out)) × ToldSheet narrow (truth_of wide b) o.number o.output
to_narrow_told b out e = says-sheet narrow (truth_of wide b) e (told_sheet (to_narrow-fits b out) (to_narrow_truthful b out refl))

pub resume_told : (started settled expanded : ℕ) (b : Bytes) (w : Bool) (first second : Bytes) {o : Buffers}
    → o ≡ packed_solving (resume_call started settled expanded b w first second)
    → (o ≡ packed_solving (resume_call started settled expanded b w first second)) × ToldSolve wide (truth_of (named w) b) o.number o.first
resume_told started settled expanded b w first second e = (
  e,
  subst (λ (o : Buffers). ToldSolve wide (truth_of (named w) b) o.number o.first) (sym e)
      (told_solve (resume_numbers started settled expanded b w first second) (resume_truthful started settled expanded b w first second refl)),
)
