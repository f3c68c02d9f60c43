-- A value's raw sheet in the first buffer: its rows are those of the formula under the values given and tried, so the run from there is
-- Solve's on that formula.
-- Assumes nothing.
use mathlib.Core.Path.{◌≡◌, sym, ap, ap₂, ◌∙◌, subst}
use mathlib.Core.Bool.{Bool}
use mathlib.Core.List.{List, [], ◌∷◌, ◌++◌}
use Prim.Native.Nat.{ℕ, ◌+◌, ◌-◌, ◌≤◌, min}
use native.Mathlib.Nat.{mul-le-mul_left}
use native.Mathlib.Omega.{arith}
use lib.ListN.{length, length-append, length-drop, length-map}
use Rattle.formula.specs.Tree.{Prefix, Tree, Formula}
use Rattle.formula.specs.Solve.{State, End, ended, stopped, solve}
use Rattle.formula.specs.Force.{given, tried, judged}
use Rattle.formula.proofs.Force.{prefix_given}
use Rattle.sheet.specs.Format.{Bytes, Format, row, sheet_length, fits}
use Rattle.sheet.specs.Sheet.{binding, formula, formula_rows}
use Rattle.sheet.specs.Operations.{Solved, is_stopped, is_ended, solved, Solving, solving}
use Rattle.sheet.specs.Limits.{Within}
use Rattle.sheet.specs.Trace.{room}
use Rattle.sheet.specs.Force.{value_of, values_of}
use Rattle.sheet.proofs.Accepted.{accepted_within}
use Rattle.sheet.proofs.Limits.{numbered_at, binds-numbered}
use Rattle.sheet.proofs.Force.{within-given}
use Rattle.rows.specs.Layouts.{format_in, width, total, size, rows_in, Room}
use Rattle.rows.specs.Formulas.{prefix_in, matrix_in, formula_in, Readable}
use Rattle.rows.specs.declared.Layout.{Layout}
use Rattle.rows.proofs.Formulas.{length_prefix, formula_written}
use Rattle.rows.proofs.Limits.{limits}
use Rattle.checking.specs.Sheets.{Sheet}
use Rattle.checking.proofs.CheckedSheets.{sheet_right, sheet_readable, sheet-formula_in}
use Rattle.prefixes.specs.Places.{binding_at}
use Rattle.raw.specs.Formulas.{Raw}
use Rattle.tidying.proofs.Raw.{few_rows, raw_rows}
use Rattle.solve.specs.Answers.{solved_answer}
use Rattle.solve.specs.declared.Solved.{Solved as Ran}
use Rattle.solve.specs.declared.Solved.TheVariants.{Stopped, Ended}
use Rattle.solve.specs.Inner.Running.{RawReady, answered, solution, raw_call}
use Rattle.force.specs.Inner.Moves.{Numbered, moves, behind_raw, layout_behind}
use Rattle.force.specs.Inner.Judging.{Judgeable, end_of}
use Rattle.force.proofs.Tables.{Small, moves-given}

-- the end of a run, from its answer

stopped_ending : (e : End) (s : State) {x settled expanded : ℕ} → is_stopped x settled expanded ≡ solved e s → stopped x ≡ e
unfolding solved
stopped_ending (ended v) s h = let z : ◌≡◌ {A = ℕ} 0 1 = cc in absurd (omega arith)
stopped_ending (stopped y) s {x} h = let k : x ≡ y = cc in ap stopped k

ended_ending : (e : End) (s : State) {v : Bool} {settled expanded : ℕ} → is_ended v settled expanded ≡ solved e s → ended v ≡ e
unfolding solved
ended_ending (ended w) s {v} h = let k : v ≡ w = cc in ap ended k
ended_ending (stopped y) s h = let z : ◌≡◌ {A = ℕ} 0 1 = cc in absurd (omega arith)

pub ending : (r : Ran) (e : End) (s : State) → solved_answer r ≡ solved e s → end_of r ≡ e
ending (Stopped x settled expanded) e s h = stopped_ending e s h
ending (Ended v settled expanded) e s h = ended_ending e s h

-- a sheet under values for its first variables

module _ {s : Layout} {b : Bytes} (h : Sheet s.format b s) where
  abbrev G : Format
  G = format_in s

  abbrev q : Prefix
  q = prefix_in s b

  same_formula : formula_in s b ≡ formula G b
  same_formula = sheet-formula_in h

  within : Within G (formula_in s b)
  within = subst (Within G) (sym same_formula) (accepted_within G b h.tests_pass)

  pub has_entries : Numbered s b
  unfolding binding_at formula_in
  has_entries i l =
      omega (
        arith,
        numbered_at G q i (binding (row 0 0)) within.is_numbered (omega (arith, length_prefix b (sheet_readable h))),
        (limits s.format).few_variables,
      )

  small : Small q
  unfolding formula_in
  small v l = omega (arith, binds-numbered G q v within.is_numbered l, (limits s.format).few_variables)

  -- its rows behind those of the values, with constants for their literals
  pub given-raw : (bs : List Bool) {table : List ℕ} → table ≡ moves bs q → behind_raw (length bs) table (formula_in s b) ≡ given bs (formula G b)
  unfolding behind_raw formula_in
  given-raw bs e =
      ap (λ (u : List ℕ). behind_raw (length bs) u (formula_in s b)) e ∙
      ap₂ (λ (r : Prefix) (u : Tree). record { prefix = r; matrix = u }) (sym (prefix_given bs q (matrix_in s b)))
      (moves-given bs q (matrix_in s b) within.is_distinct small) ∙
      ap (λ (f : Formula). given bs f) same_formula

  pub given-count : (bs : List Bool) → length (given bs (formula G b)).prefix ≡ s.variables - length bs
  unfolding formula_in
  given-count bs =
      ap (λ (f : Formula). length (given bs f).prefix) (sym same_formula) ∙
      ap length (prefix_given bs q (matrix_in s b)) ∙ length-drop (length bs) q ∙
      ap (λ (n : ℕ). n - length bs) (length_prefix b (sheet_readable h))

module _ {s : Layout} {b vs : Bytes} {len : ℕ} (j : Judgeable s b vs len) where
  abbrev F : Format
  F = format_in s

  abbrev p : Prefix
  p = prefix_in s b

  pub readable : Readable s b
  readable = sheet_readable j.checked

  pub numbered : Numbered s b
  numbered = has_entries j.checked

  -- the sheet left is no longer than the one given
  left_short : (k : ℕ) → size (layout_behind s k) ≤ len
  unfolding sheet_length
  left_short k =
      omega (
        arith,
        mul-le-mul_left {m = total (layout_behind s k)} {n = total s} (1 + width s) (omega arith),
        (sheet_right j.checked).right_length,
        j.has_room,
      )

  pub left-room : (k : ℕ) {n : ℕ} → len ≤ n → Room (layout_behind s k) n
  left-room k h = record { holds = omega (arith, left_short k) }

  module _ (c : Bool) where
    abbrev bs : List Bool
    bs = values_of vs ++ (c ∷ [])

    abbrev k : ℕ
    k = length vs + 1

    abbrev g : Formula
    g = tried (values_of vs) c (formula F b)

    count-moves : length bs ≡ k
    count-moves = length-append (values_of vs) (c ∷ []) ∙ omega (arith, length-map vs value_of)

    raw_is : {table : List ℕ} → table ≡ moves bs p → behind_raw k table (formula_in s b) ≡ g
    raw_is {table} e = ap (λ (n : ℕ). behind_raw n table (formula_in s b)) (sym count-moves) ∙ given-raw j.checked bs e

    module _ {table : List ℕ} (filled : table ≡ moves bs p) {old new : Bytes} (second : Bytes) (same : length new ≡ length old)
        (shorter : len ≡ room old second) {t : Layout} (at : t ≡ layout_behind s k)
        (w : Raw (layout_behind s k) old new (behind_raw k table (formula_in s b))) where
      rows_are : rows_in (layout_behind s k) new ≡ formula_rows g
      rows_are = w.all_rows ∙ ap formula_rows (raw_is filled)

      prefix_count : length g.prefix ≡ s.variables - k
      prefix_count = given-count j.checked bs ∙ ap (λ (n : ℕ). s.variables - n) count-moves

      written : formula_in (layout_behind s k) new ≡ g
      written = formula_written (layout_behind s k) new g rows_are prefix_count

      pub raw-ready : RawReady t new second
      raw-ready =
          let r = sheet_right j.checked in
          rw at
          (record {
            raw =
                raw_rows (layout_behind s k) new g rows_are prefix_count (left-room k (omega arith))
                (few_rows (layout_behind s k) (omega (arith, r.few_variables)) r.few_nodes);
            within = subst (Within F) (sym written) (within-given F bs (formula F b) (accepted_within F b j.checked.tests_pass));
            has_room = omega (arith, left_short k);
          })

      run_is : solution t new second ≡ judged (fits F len) (values_of vs) c (formula F b)
      run_is =
          ap (λ (u : Layout). solution u new second) at ∙
          ap₂ (λ (n : ℕ) (f : Formula). solve (fits F n) f) (ap (λ (n : ℕ). min n (length second)) same ∙ sym shorter) written

      -- what the run answers
      pub run-answers : {a : Solved} {first' second' : Bytes} → record { answer = a; first = first'; second = second' } ≡ raw_call t new second
          → a ≡ answered (judged (fits F len) (values_of vs) c (formula F b))
      unfolding raw_call solving
      run-answers e = ap (λ (x : Solving). x.answer) e ∙ ap answered run_is
