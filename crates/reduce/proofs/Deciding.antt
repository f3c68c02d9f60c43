-- 9, 20 and 13, in this order, from what is read of a sheet that Check accepts; and what Reduce writes if all pass.
-- Assumes nothing.
use mathlib.Core.Path.{◌≡◌, refl, sym, ap, ap₂, ◌∙◌, subst}
use mathlib.Core.Bool.{Bool, true, false, not, ◌&&◌, cond}
use mathlib.Core.List.{List, [], ◌∷◌, ◌++◌, map}
use Prim.Native.Nat.{ℕ, ◌+◌, ◌≤◌, ◌<◌}
use native.Mathlib.Omega.{arith}
use lib.Dec.{eqb, ltb}
use lib.ListN.{length, get_or, drop, length-append, length-drop, length-map}
use lib.Seq.{get_or-append_seam}
use borrow.Author.Tests.{lt-ltb, le-ltb, not-true}
use Rattle.formula.specs.Tree.{Tree, Formula, binds, distinct, closed, has}
use Rattle.formula.specs.Tidy.{tidied, is_tidy, first_fault}
use Rattle.formula.specs.Reduce.{in_profile, reduced}
use Rattle.formula.proofs.Faults.{fault_within}
use Rattle.formula.proofs.Closed.{unbound}
use Rattle.formula.proofs.Reduce.{profile_and_below, tidy-blank_tree}
use Rattle.formula.specs.Inner.Clauses.{and_below}
use Rattle.sheet.specs.Format as sheet
use Rattle.sheet.specs.Format.{Bytes, Row, row, sheet_length, variables}
use Rattle.sheet.specs.Sheet.{binding_row, tree_rows, formula_rows, formula, sheet}
use Rattle.sheet.specs.Check.{refused, accepted, Test, test, answer, passes, check_tests}
use Rattle.sheet.specs.Operations.{padded, tidiness_test, reduce_tests, reduce_call}
use Rattle.sheet.proofs.Limits.{binds-numbered}
use Rattle.sheet.proofs.Accepted.{accepted_within}
use Rattle.sheet.proofs.Tests.{passes-++, answer-++}
use Rattle.sheet.proofs.Writing.{written, write_refused, write_accepted}
use Rattle.rows.specs.Formats.{format_of}
use Rattle.rows.specs.Layouts.{format_in, rows_in, Room}
use Rattle.rows.specs.Formulas.{prefix_in, matrix_in, formula_in, layout_for}
use Rattle.rows.specs.declared.Format.{Format}
use Rattle.rows.specs.declared.Layout.{Layout}
use Rattle.rows.proofs.Limits.{limits}
use Rattle.rows.proofs.Layouts.{rows_in-++}
use Rattle.rows.proofs.Formulas.{length_prefix, rows-nodes}
use Rattle.checking.specs.Sheets.{Sheet}
use Rattle.checking.proofs.CheckedSheets.{sheet_format, sheet_right, sheet_readable, sheet-formula_in}
use Rattle.subtrees.specs.Subtrees.{top}
use Rattle.subtrees.proofs.Forest.{tree_rows-top}
use Rattle.tidiness.proofs.Tidiness.{tidy_by, fault_by}
use Rattle.tidying.specs.Limits.{Raw}
use Rattle.tidying.proofs.Raw.{few_rows, layout_length, raw_rows, raw_output, raw-sizes}
use Rattle.reduce.specs.Inner.Places.{Numbered, Placed}
use Rattle.reduce.specs.Inner.Clauses.{Clausal, blanked}
use Rattle.reduce.specs.Inner.ReducePlan.{ReducePlanned}
use Rattle.reduce.proofs.ClauseTurns.{Reducing, first_clauses}

module _ {f : Format} {b : Bytes} {s : Layout} (h : Sheet f b s) (room : ℕ) where
  abbrev t : Tree
  t = matrix_in s b

  -- the tests as they are read
  read_tests : List Test
  read_tests =
      test (not (is_tidy t)) 9 (s.variables + first_fault t) ∷ test (not (in_profile t)) 20 0 ∷ test (ltb room (length b)) 13 0 ∷ []

  own_tests : List Test
  own_tests = tidiness_test (format_of f) b ∷ test (not (in_profile (formula (format_of f) b).matrix)) 20 0 ∷ test (ltb room (length b)) 13 0 ∷ []

  same_tests : read_tests ≡ own_tests
  unfolding read_tests own_tests formula_in
  same_tests =
      ap (λ (v : ℕ). test (not (is_tidy t)) 9 (v + first_fault t) ∷ test (not (in_profile t)) 20 0 ∷ test (ltb room (length b)) 13 0 ∷ [])
      (ap (λ (l : Layout). l.variables) h.layout_is) ∙
      ap (λ (g : Formula). test (not (is_tidy g.matrix)) 9 (variables (format_of f) b + first_fault g.matrix) ∷
      test (not (in_profile g.matrix)) 20 0 ∷ test (ltb room (length b)) 13 0 ∷ []) (sheet-formula_in h)

  answered : answer (reduce_tests (format_of f) b room) room ≡ answer read_tests room
  unfolding reduce_tests own_tests
  answered = answer-++ (check_tests (format_of f) b) own_tests room h.tests_pass ∙ ap (λ ts. answer ts room) (sym same_tests)

  passing : passes (reduce_tests (format_of f) b room) ≡ passes read_tests
  unfolding reduce_tests own_tests
  passing =
      passes-++ (check_tests (format_of f) b) own_tests ∙ ap (λ c. c && passes own_tests) h.tests_pass ∙ ap passes (sym same_tests)

  -- the row told is a node row, or the one behind the last
  pub fault_most : {fault : ℕ} → fault ≡ cond (is_tidy t) s.nodes (first_fault t) → fault ≤ s.nodes
  fault_most {fault} told = go (is_tidy t) refl
    where
      go : (c : Bool) → is_tidy t ≡ c → fault ≤ s.nodes
      go true e = omega (arith, told ∙ ap (λ c. cond c s.nodes (first_fault t)) e)
      go false e =
          omega (arith, told ∙ ap (λ c. cond c s.nodes (first_fault t)) e, fault_within t e, rows-nodes b (sheet_readable h))

  -- 9 not tidy, at the row of the first operator at fault
  pub not_tidy : {fault : ℕ} → fault ≡ cond (is_tidy t) s.nodes (first_fault t) → fault < s.nodes
      → refused 9 (s.variables + fault) ≡ answer (reduce_tests (format_of f) b room) room
  unfolding answer read_tests
  not_tidy {fault} told l =
      let nodes = rows-nodes b (sheet_readable h) in
      rw (answered, tidy_by t nodes told, lt-ltb fault s.nodes l) (ap (λ i. refused 9 (s.variables + i)) (fault_by t nodes told l))

  module _ {fault : ℕ} (told : fault ≡ cond (is_tidy t) s.nodes (first_fault t)) (sound : s.nodes ≤ fault)
      {inner : Bool} (is : inner ≡ and_below t) where
    tidy-here : is_tidy t ≡ true
    tidy-here = tidy_by t (rows-nodes b (sheet_readable h)) told ∙ ap not (le-ltb fault s.nodes sound)

    profile-here : {c : Bool} → inner ≡ c → in_profile t ≡ not c
    profile-here e = profile_and_below t tidy-here ∙ ap not (sym is ∙ e)

    -- 20 not of the clause profile
    pub not-clauses : inner ≡ true → refused 20 0 ≡ answer (reduce_tests (format_of f) b room) room
    unfolding answer read_tests
    not-clauses e = rw (answered, tidy-here, profile-here e)

    -- 13 output shorter than the sheet
    pub no_room : inner ≡ false → room < length b → refused 13 0 ≡ answer (reduce_tests (format_of f) b room) room
    unfolding answer read_tests
    no_room e l = rw (answered, tidy-here, profile-here e, lt-ltb room (length b) l)

    pub planned : inner ≡ false → length b ≤ room → ReducePlanned f b room s
    unfolding passes read_tests formula_in
    planned e l =
        record {
          sheet = h;
          tests_pass = rw (passing, tidy-here, profile-here e, le-ltb room (length b) l);
          profile = ap (λ (g : Formula). in_profile g.matrix) (sym (sheet-formula_in h)) ∙ profile-here e;
          room_is = l;
        }

-- the sheet as it is read

module _ {f : Format} {b : Bytes} {s : Layout} {room : ℕ} (d : ReducePlanned f b room s) where
  same : formula_in s b ≡ formula (format_of f) b
  same = sheet-formula_in d.sheet

  pub sheet-numbered : Numbered s b
  unfolding formula_in
  sheet-numbered =
      record {
        readable = sheet_readable d.sheet;
        few_numbers =
            λ x e. omega (
              arith,
              (limits f).few_variables,
              binds-numbered (format_of f) (formula (format_of f) b).prefix x (accepted_within (format_of f) b d.sheet.tests_pass).is_numbered
                  (ap (λ (g : Formula). binds g.prefix x) (sym same) ∙ e),
            );
      }

  pub sheet-clausal : {places : List ℕ} → Placed s b places → Clausal s b places
  unfolding formula_in
  sheet-clausal p =
      let within = accepted_within (format_of f) b d.sheet.tests_pass in
      record {
        placed = p;
        is_distinct = ap (λ (g : Formula). distinct g.prefix) same ∙ within.is_distinct;
        is_closed = ap closed same ∙ within.is_closed;
        profile = ap (λ (g : Formula). in_profile g.matrix) same ∙ d.profile;
      }

-- the clauses of a copy

module _ {s : Layout} {b : Bytes} {places : List ℕ} (c : Clausal s b places) where
  abbrev f : Formula
  f = formula_in s b

  quantifiers : List Row
  quantifiers = map binding_row (prefix_in s b)

  counted : length quantifiers ≡ s.variables
  unfolding quantifiers
  counted = length-map (prefix_in s b) binding_row ∙ length_prefix b c.placed.numbered.readable

  in_parts : rows_in s b ≡ quantifiers ++ tree_rows (matrix_in s b)
  unfolding quantifiers formula_rows formula_in
  in_parts = sym c.placed.numbered.readable.is_formula

  root-row : get_or (rows_in s b) s.variables (row 0 0) ≡ top (matrix_in s b)
  root-row =
      ap₂ (λ (rs : List Row) (i : ℕ). get_or rs i (row 0 0)) in_parts (sym counted) ∙
      ap (λ (rs : List Row). get_or (quantifiers ++ rs) (length quantifiers) (row 0 0)) (tree_rows-top (matrix_in s b)) ∙
      get_or-append_seam quantifiers (top (matrix_in s b)) _ (row 0 0)

  pub clauses_start : {r : ℕ} {D : List Row} → r ≡ s.variables + cond (eqb (get_or (rows_in s b) s.variables (row 0 0)).kind 5) 1 0
      → D ≡ rows_in s b → Reducing (prefix_in s b) (rows_in s b) (formula_rows (blanked (formula_in s b))) D r
  unfolding blanked formula_rows formula_in quantifiers closed
  clauses_start {r} {D} e copied =
      rw (copied, in_parts)
      (first_clauses (prefix_in s b) quantifiers (matrix_in s b) c.profile
      (not-true (has (unbound (prefix_in s b)) (matrix_in s b)) c.is_closed)
      (e ∙ ap₂ (λ (n : ℕ) (x : Row). n + cond (eqb x.kind 5) 1 0) (sym counted) root-row))

-- the copy tidied

module _ {b : Bytes} {s : Layout} (out : Bytes) (d : ReducePlanned s.format b (length out) s) where
  source : Room s (length b)
  source = (sheet_readable d.sheet).room

  copied_rows : {new : Bytes} → new ≡ b ++ drop (length b) out → rows_in s new ≡ rows_in s b
  copied_rows e = ap (rows_in s) e ∙ rows_in-++ b source (drop (length b) out)

  pub copied : {new : Bytes} → new ≡ b ++ drop (length b) out → Room s (length new) × (rows_in s new ≡ rows_in s b)
  copied {new} e =
      let len : length new ≡ length out =
      ap length e ∙ length-append b (drop (length b) out) ∙ omega (arith, length-drop (length b) out, d.room_is) in
      (record { holds = omega (arith, source.holds, d.room_is, len) }, copied_rows e)

  module _ (new : Bytes) (len : length new ≡ length out) (is : rows_in s new ≡ formula_rows (blanked (formula_in s b))) where
    prefix_count : length (blanked (formula_in s b)).prefix ≡ s.variables
    unfolding blanked formula_in
    prefix_count = length_prefix b (sheet_readable d.sheet)

    pub blanked-raw : Raw s new
    blanked-raw =
        raw_rows s new (blanked (formula_in s b)) is prefix_count (record { holds = omega (arith, source.holds, d.room_is, len) })
        (few_rows s (sheet_right d.sheet).few_variables (sheet_right d.sheet).few_nodes)

    tidied-blanked : tidied (blanked (formula_in s b)) ≡ reduced (formula (format_in s) b)
    unfolding tidied blanked reduced
    tidied-blanked =
        ap (λ (g : Formula). tidied (blanked g)) (sheet-formula_in d.sheet) ∙
        ap (λ (u : Tree). record { prefix = (formula (format_in s) b).prefix; matrix = u })
        (tidy-blank_tree (formula (format_in s) b).prefix (formula (format_in s) b).matrix d.profile)

    pub reduced-output : {end : Bytes} → end ≡ padded (length new) (sheet (format_in s) (tidied (formula_in s new)))
        → end ≡ padded (length out) (sheet (format_in s) (reduced (formula (format_in s) b)))
    reduced-output e =
        raw_output s new (blanked (formula_in s b)) is prefix_count (length new) e ∙
        ap₂ (λ (n : ℕ) (g : Formula). padded n (sheet (format_in s) g)) len tidied-blanked

    pub reduced-length : {t : Layout} → t ≡ layout_for s.format (tidied (formula_in s new))
        → sheet_length (format_in t) t.variables t.nodes ≡ length (sheet (format_in s) (reduced (formula (format_in s) b)))
    reduced-length e =
        layout_length s.format (reduced (formula (format_in s) b))
        (raw-sizes s new (blanked (formula_in s b)) is prefix_count e ∙ ap (layout_for s.format) tidied-blanked)

-- the call

pub own_plan : {f : Format} {b : Bytes} {s : Layout} {room : ℕ} → ReducePlanned f b room s → ReducePlanned s.format b room s
own_plan {f} {b} {s} {room} d = subst (λ g. ReducePlanned g b room s) (sym (sheet_format d.sheet)) d

pub refused_call : {n i : ℕ} (F : sheet.Format) (b : Bytes) (out : Bytes) → refused n i ≡ answer (reduce_tests F b (length out)) (length out)
    → record { answer = refused n i; output = out } ≡ reduce_call F b out
unfolding reduce_call
refused_call F b out h =
    written (write_refused (reduce_tests F b (length out)) (length out) _ out h)

pub reduced_call : {f : Format} {b : Bytes} {s : Layout} (out : Bytes) → ReducePlanned f b (length out) s → {len : ℕ} {new : Bytes}
    → len ≡ length (sheet (format_of f) (reduced (formula (format_of f) b)))
    → new ≡ padded (length out) (sheet (format_of f) (reduced (formula (format_of f) b)))
    → record { answer = accepted len; output = new } ≡ reduce_call (format_of f) b out
unfolding reduce_call
reduced_call {f} {b} out d l w =
    let F = format_of f in
    let call = write_accepted (reduce_tests F b (length out)) (sheet F (reduced (formula F b))) out d.tests_pass in
    written (ap accepted l ∙ call.0, w ∙ call.1)
