-- What Solve answers and leaves, from Check's answer, the buffers' lengths and the run.
-- Assumes nothing.
use mathlib.Core.Path.{◌≡◌, sym, ap, ap₂, ◌∙◌, subst}
use mathlib.Core.Bool.{cond}
use mathlib.Core.List.{[], ◌∷◌, ◌++◌}
use Prim.Native.Nat.{ℕ, suc, ◌+◌, ◌-◌, ◌≤◌, ◌<◌, min}
use native.Mathlib.Nat.{mul-le-mul_left}
use native.Mathlib.Omega.{arith}
use lib.Dec.{ltb}
use lib.ListN.{length, take, drop, replicate}
use borrow.Author.Tests.{lt-ltb, le-ltb}
use Rattle.formula.specs.Tree.{Formula, rows}
use Rattle.formula.specs.Tidy.{tidied}
use Rattle.formula.specs.Solve.{Run, run, solve}
use Rattle.formula.proofs.Tidy.Growth.{rows-tidy}
use Rattle.formula.proofs.Steps.{proper_tidied}
use Rattle.sheet.specs.Format as sheet
use Rattle.sheet.specs.Format.{Bytes, sheet_length, fits}
use Rattle.sheet.specs.Sheet.{formula, sheet}
use Rattle.sheet.specs.Check.{Answer, refused, accepted, test, answer, check_tests, check}
use Rattle.sheet.specs.Operations.{padded, tidy_tests, Solved, is_refused, Solving, solving, solve_call}
use Rattle.sheet.specs.Limits.{Within}
use Rattle.sheet.specs.Trace.{room}
use Rattle.sheet.proofs.Tests.{answer-++, refused_first}
use Rattle.sheet.proofs.Accepted.{accepted_within}
use Rattle.sheet.proofs.RoundTrip.{length-sheet, length-formula_rows}
use Rattle.rows.specs.Formats.{format_of}
use Rattle.rows.specs.Layouts.{format_in, total}
use Rattle.rows.specs.Formulas.{formula_in, layout_for}
use Rattle.rows.specs.declared.Format.{Format}
use Rattle.rows.specs.declared.Layout.{Layout}
use Rattle.rows.proofs.Layouts.{length-rows_in}
use Rattle.rows.proofs.Formulas.{prefix_length}
use Rattle.rows.proofs.Limits.{limits}
use Rattle.checking.specs.Sheets.{Sheet}
use Rattle.checking.proofs.CheckedSheets.{sheet_right}
use Rattle.tidying.proofs.Raw.{copied-raw, length-copied, copied_formula}
use Rattle.solve.specs.declared.State.{State}
use Rattle.solve.specs.Inner.Running.{Held, RawReady, run_from, answered, shown, run_call, solution, raw_call}
use Rattle.solve.proofs.Holding.{hold}

-- the second buffer cleared
pub all_zeros : (d : Bytes) {k : ℕ} → length d ≡ k → (take 0 d ++ replicate (length d - 0) 0) ≡ replicate k 0
all_zeros d {k} e =
    let same : length d - 0 ≡ k = omega (arith, e) in
    ap (λ m. replicate {A = ℕ} m 0) same

-- answer and buffers, one by one
pub left : {w : Solving} {a : Solved} {first second : Bytes} → a ≡ w.answer → first ≡ w.first → second ≡ w.second
    → record { answer = a; first = first; second = second } ≡ w
left {w} {first = p} {second = q} e f g =
    ap (λ (a : Solved). record { answer = a; first = p; second = q }) e ∙ ap₂ (λ p q. record { answer = w.answer; first = p; second = q }) f g

-- the tidied sheet, and the run from it

pub within-tidied : (F : sheet.Format) (f : Formula) → Within F f → Within F (tidied f)
unfolding tidied
within-tidied F f w =
    let p = proper_tidied f w.is_distinct w.is_closed in
    record {
      few_variables = w.few_variables;
      few_nodes = omega (arith, rows-tidy f.matrix, w.few_nodes);
      is_numbered = w.is_numbered;
      is_distinct = p.is_distinct;
      is_closed = p.is_closed;
    }

module _ {s : Layout} {first second : Bytes} (r : RawReady s first second) where
  abbrev F : sheet.Format
  F = format_in s

  abbrev f : Formula
  f = formula_in s first

  variables_are : length f.prefix ≡ s.variables
  unfolding formula_in
  variables_are = prefix_length first r.raw.room

  -- a sheet has few variables
  pub few_variables : s.variables ≤ 1024
  few_variables = omega (arith, variables_are, r.within.few_variables, (limits s.format).few_variables)

  -- the tidied sheet is no longer than the raw rows
  pub tidied_short : length (sheet F (tidied f)) ≤ room first second
  unfolding tidied sheet_length
  tidied_short =
      let counted = sym (length-formula_rows f) ∙ ap length r.raw.is_formula ∙ length-rows_in first r.raw.room in
      omega (
        arith,
        length-sheet F (tidied f),
        mul-le-mul_left {m = length f.prefix + rows (tidied f).matrix} {n = total s} (1 + F.width) (omega (arith, counted, rows-tidy f.matrix)),
        r.has_room,
      )

  module _ {most : ℕ} (shorter : most ≡ room first second) {new : Bytes} (New-is : new ≡ padded (length first) (sheet F (tidied f))) {t : Layout}
      (at : t ≡ layout_for s.format (tidied f)) where
    abbrev start : State
    start = record { sheet = t; settled = 0; expanded = 0 }

    started : (formula_in t new ≡ tidied f) × Held most t new
    started =
        hold s.format (tidied f) (within-tidied F f r.within) (length first)
        (proper_tidied f r.within.is_distinct r.within.is_closed).is_neat (omega (arith, shorter, tidied_short)) (omega (arith, shorter))
        at New-is

    pub start-held : Held most t new
    start-held = started.1

    variables_left : t.variables ≡ s.variables
    unfolding tidied
    variables_left = ap (λ (l : Layout). l.variables) at ∙ variables_are

    pub start-few : t.variables ≤ 1024
    start-few = omega (arith, variables_left, few_variables)

    same_format : t.format ≡ s.format
    same_format = ap (λ (l : Layout). l.format) at

    start-run : run_from most start new ≡ solution s first second
    unfolding solve
    start-run =
        ap₂ (λ (m : ℕ) (g : Format). run (fits (format_of g) m) (suc t.variables) (record { formula = formula_in t new; settles = 0; expands = 0 }))
        shorter same_format ∙
        ap₂ (λ (v : ℕ) (g : Formula). run (fits F (room first second)) (suc v) (record { formula = g; settles = 0; expands = 0 }))
        (variables_left ∙ sym variables_are) started.0

    -- the run from the tidied sheet is that of the raw one
    pub start-call : length new ≡ length first → run_call most start new second ≡ raw_call s first second
    unfolding run_call raw_call solving
    start-call same =
        ap₂ (λ (g : Format) (u : Run). solving (format_of g) new second (accepted u)) same_format start-run ∙
        ap (λ (n : ℕ). record { answer = answered (solution s first second); first = shown F n (solution s first second); second = replicate (length second) 0 }) same

-- what is answered and left after a call

module _ (F : sheet.Format) (b first second : Bytes) where
  abbrev whole : Run
  whole = solve (fits F (room first second)) (formula F b)

  refused_call : {k p : ℕ} → refused k p ≡ answer (tidy_tests F b (room first second)) whole
      → record { answer = is_refused k p; first = first; second = second } ≡ solve_call F b first second
  unfolding solve_call solving
  refused_call e = ap (solving F first second) e

  -- 1 to 8
  pub unchecked_call : {k p : ℕ} → refused k p ≡ check F b
      → record { answer = is_refused k p; first = first; second = second } ≡ solve_call F b first second
  unfolding check tidy_tests
  unchecked_call e = refused_call (refused_first (check_tests F b) _ _ _ e)

module _ {b : Bytes} {s : Layout} (h : Sheet s.format b s) (first second : Bytes) where
  abbrev G : sheet.Format
  G = format_in s

  abbrev all : Run
  all = whole G b first second

  later : (a : Answer Run) → answer (test (ltb (room first second) (length b)) 13 0 ∷ []) all ≡ a → answer (tidy_tests G b (room first second)) all ≡ a
  unfolding tidy_tests
  later a e = answer-++ (check_tests G b) _ all h.tests_pass ∙ e

  -- 13 a work buffer shorter than the sheet
  pub short_call : room first second < length b
      → record { answer = is_refused 13 0; first = first; second = second } ≡ solve_call G b first second
  unfolding answer
  short_call l =
      refused_call G b first second
      (sym (later (refused 13 0) (ap (λ t. cond t (refused 13 0) (accepted all)) (lt-ltb (room first second) (length b) l))))

  module _ (l : length b ≤ room first second) {copied : Bytes} (is : copied ≡ b ++ drop (length b) first) where
    in_first : length b ≤ length first
    in_first = omega arith

    same_length : length copied ≡ length first
    same_length = length-copied h first in_first is

    same_formula : formula_in s copied ≡ formula G b
    same_formula = copied_formula h first in_first is

    pub raw-ready : RawReady s copied second
    unfolding sheet_length
    raw-ready =
        let right = sheet_right h in
        record {
          raw = copied-raw h first in_first is;
          within = subst (Within G) (sym same_formula) (accepted_within G b h.tests_pass);
          has_room = omega (arith, same_length, right.right_length);
        }

    solves : answer (tidy_tests G b (room first second)) all ≡ accepted all
    unfolding answer
    solves = later (accepted all) (ap (λ t. cond t (refused 13 0) (accepted all)) (le-ltb (room first second) (length b) l))

    same_run : solution s copied second ≡ all
    same_run = ap₂ (λ (n : ℕ) (f : Formula). solve (fits G (min n (length second))) f) same_length same_formula

    pub solved-call : raw_call s copied second ≡ solve_call G b first second
    unfolding raw_call solve_call solving
    solved-call =
        ap₂ (λ (n : ℕ) (u : Run). record { answer = answered u; first = shown G n u; second = replicate (length second) 0 }) same_length same_run ∙
        ap (solving G first second) (sym solves)
