-- What Resume answers and leaves, from Check's answer, the counts and the run.
-- Assumes nothing.
use mathlib.Core.Path.{◌≡◌, refl, sym, ap, ap₂, ◌∙◌, subst}
use mathlib.Core.Bool.{Bool, true, false}
use Prim.Native.Nat.{ℕ, ◌+◌, ◌≤◌, ◌<◌}
use native.Mathlib.Omega.{arith}
use lib.Dec.{eqb, ltb}
use borrow.Author.Tests.{eqb-true, eqb-false, ltb-true, ltb-false, lt-ltb, le-ltb}
use Rattle.formula.specs.Tree.{Formula}
use Rattle.formula.specs.Solve.{solve}
use Rattle.sheet.specs.Format as sheet
use Rattle.sheet.specs.Format.{Bytes, wide, sheet_length, fits, variables, nodes}
use Rattle.sheet.specs.Sheet.{formula}
use Rattle.sheet.specs.Refusals.{no_room, wrong_counts}
use Rattle.sheet.specs.Check.{refused, accepted, answer, passes, check_tests, check}
use Rattle.sheet.specs.Operations.{Solved as Answer, is_refused, Solving, solving}
use Rattle.sheet.specs.Trace.{room}
use Rattle.sheet.specs.Limits.{Within}
use Rattle.sheet.specs.Resume.{named, add_to_answer, with_counts, resuming}
use Rattle.sheet.specs.Truthful.{truth_of, TruthfulSolve}
use Rattle.sheet.proofs.Accepted.{accepted_within}
use Rattle.sheet.proofs.Conversion.{to_wide-within}
use Rattle.sheet.proofs.Truthful.{resume_truthful}
use Rattle.sheet.proofs.Resume.{resume_unchecked, resume-uncounted, resume-short, resume-runs}
use Rattle.rows.specs.Formats.{format_of}
use Rattle.rows.specs.Formulas.{formula_in}
use Rattle.rows.specs.declared.Format.{Format}
use Rattle.rows.specs.declared.Format.TheVariants.{Narrow, Wide}
use Rattle.rows.specs.declared.Layout.{Layout}
use Rattle.checking.specs.Sheets.{Sheet}
use Rattle.checking.proofs.CheckedSheets.{sheet_right, sheet_readable, sheet-formula_in}
use Rattle.resume.specs.declared.Counts.{Counts}
use Rattle.resume.specs.Calls.{is_narrow, resume_with}
use Rattle.resume.specs.Inner.Going.{Placed, wide_call, resumed}

-- the format that the caller names
named_is : (f : Format) → format_of f ≡ named (is_narrow f)
named_is Narrow = refl
named_is Wide = refl

-- what a call answers is truthful
pub resume_told : (c : Counts) (b : Bytes) (f : Format) (first second : Bytes) {s : Solving} → s ≡ resume_with c b f first second
    → (s ≡ resume_with c b f first second) × TruthfulSolve wide (truth_of (format_of f) b) s
resume_told c b f first second {s} e = (
  e,
  subst (λ (E : sheet.Format). TruthfulSolve wide (truth_of E b) s) (sym (named_is f))
      (resume_truthful c.started c.settled c.expanded b (is_narrow f) first second e),
)

-- a sheet of either format is within the wide limits
within-wide : (f : Format) (b : Bytes) → passes (check_tests (format_of f) b) ≡ true → Within wide (formula (format_of f) b)
within-wide Narrow b h = to_wide-within b h
within-wide Wide b h = accepted_within wide b h

pub sheet_placed : {f : Format} {b : Bytes} {s : Layout} → Sheet f b s → Placed s b
sheet_placed {f} {b} h =
    record {
      readable = sheet_readable h;
      within = subst (Within wide) (sym (sheet-formula_in h)) (within-wide f b h.tests_pass);
    }

-- what is refused leaves the buffers as they were
abbrev left : ℕ → Bytes → Bytes → Solving
left n first second = record { answer = is_refused n 0; first = first; second = second }

module _ (s : Layout) (c : Counts) (b first second : Bytes) where
  abbrev sum : ℕ
  sum = c.settled + c.expanded + s.variables

  abbrev needed : ℕ
  needed = sheet_length wide s.variables s.nodes

  pub uncounted : eqb sum c.started ≡ false → left wrong_counts first second ≡ resumed s c b first second
  unfolding answer resuming
  uncounted e = rw e

  module _ (right : eqb sum c.started ≡ true) where
    pub short : room first second < needed → left no_room first second ≡ resumed s c b first second
    unfolding answer resuming
    short l = rw (right, lt-ltb (room first second) needed l)

    going : needed ≤ room first second → resumed s c b first second ≡ with_counts c.settled c.expanded (wide_call s b first second)
    unfolding answer resuming
    going l = rw (right, le-ltb (room first second) needed l)

    -- the run's answer with the counts added, and its buffers
    pub ran : (a a' : Answer) {held cleared : Bytes} → needed ≤ room first second
        → record { answer = a; first = held; second = cleared } ≡ wide_call s b first second
        → a' ≡ add_to_answer c.settled c.expanded a
        → record { answer = a'; first = held; second = cleared } ≡ resumed s c b first second
    unfolding with_counts
    ran a a' {held} {cleared} l e e' =
        ap (λ (r : Answer). record { answer = r; first = held; second = cleared }) e' ∙
        ap (with_counts c.settled c.expanded) e ∙ sym (going l)

  -- Resume on a sheet that Check accepts
  module _ {f : Format} (h : Sheet f b s) where
    abbrev F : sheet.Format
    F = named (is_narrow f)

    abbrev call : Solving
    call = resume_with c b f first second

    tests_pass : passes (check_tests F b) ≡ true
    tests_pass = subst (λ (E : sheet.Format). passes (check_tests E b) ≡ true) (named_is f) h.tests_pass

    variables_are : s.variables ≡ variables F b
    variables_are = (sheet_right h).variables_are ∙ ap (λ (E : sheet.Format). variables E b) (named_is f)

    same-needed : needed ≡ sheet_length wide (variables F b) (nodes F b)
    same-needed =
        ap₂ (sheet_length wide) variables_are ((sheet_right h).nodes_are ∙ ap (λ (E : sheet.Format). nodes E b) (named_is f))

    same_formula : formula_in s b ≡ formula F b
    same_formula = sheet-formula_in h ∙ ap (λ (E : sheet.Format). formula E b) (named_is f)

    pub resume-checked : {w : Solving} → w ≡ resumed s c b first second → w ≡ call
    resume-checked k = k ∙ by (eqb sum c.started) refl
      where
        placed : (right : eqb sum c.started ≡ true) (t : Bool) → ltb (room first second) needed ≡ t → resumed s c b first second ≡ call
        placed right true e =
            let less = ltb-true (room first second) needed e in
            sym (short right less) ∙
            sym
            (resume-short c.started c.settled c.expanded b (is_narrow f) first second tests_pass
            (omega (arith, eqb-true sum c.started right, variables_are)) (omega (arith, less, same-needed)))
        placed right false e =
            let enough = ltb-false (room first second) needed e in
            going right enough ∙
            ap
            (λ (g : Formula). with_counts c.settled c.expanded (solving wide first second (accepted (solve (fits wide (room first second)) g))))
            same_formula ∙
            sym
            (resume-runs c.started c.settled c.expanded b (is_narrow f) first second tests_pass
            (omega (arith, eqb-true sum c.started right, variables_are)) (omega (arith, enough, same-needed)))

        by : (t : Bool) → eqb sum c.started ≡ t → resumed s c b first second ≡ call
        by true e = placed e (ltb (room first second) needed) refl
        by false e =
            sym (uncounted e) ∙
            sym
            (resume-uncounted c.started c.settled c.expanded b (is_narrow f) first second tests_pass
            (λ k. eqb-false sum c.started e (omega (arith, k, variables_are))))

-- Resume on a sheet that Check refuses
pub resume_refused : (c : Counts) (b : Bytes) (f : Format) (first second : Bytes) {n i : ℕ} → refused n i ≡ check (format_of f) b
    → record { answer = is_refused n i; first = first; second = second } ≡ resume_with c b f first second
resume_refused c b f first second e =
    sym
    (resume_unchecked c.started c.settled c.expanded b (is_narrow f) first second
    (e ∙ ap (λ (E : sheet.Format). check E b) (named_is f)))
