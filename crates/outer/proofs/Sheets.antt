-- 13, and what is written if all tests pass: the raw sheet, tidied.
-- Assumes nothing.
use mathlib.Core.Path.{◌≡◌, refl, sym, ap, ap₂, ◌∙◌}
use mathlib.Core.Bool.{Bool, true, false}
use mathlib.Core.List.{List, [], ◌∷◌, ◌++◌, append_assoc, map, map-append}
use Prim.Native.Nat.{ℕ, suc, ◌+◌, ◌-◌, ◌^◌, ◌≤◌, ◌<◌}
use native.Mathlib.Omega.{arith}
use lib.Dec.{leb}
use lib.ListN.{length, take, length-append, length-map}
use borrow.Author.Tests.{leb-true, lt-ltb, ltb-false}
use Rattle.formula.specs.Tree.{Tree, Prefix, Formula, Literals, binds, without}
use Rattle.formula.specs.Tidy.{tidied}
use Rattle.formula.specs.Expand.{Copying as Copies, raw_tree, raw_rows}
use Rattle.formula.specs.Outer.{dependents, unused, copies_of, too_few, raw_outer, outer_expanded, outer_rows, existential}
use Rattle.formula.proofs.Booleans.{and_parts}
use Rattle.formula.proofs.Outer.Step.{copies_many, length-raw_outer, rows-raw_outer}
use Rattle.sheet.specs.Format.{Bytes, Format, sheet_length, fits, variables}
use Rattle.sheet.specs.Sheet.{formula, sheet, binding_row, tree_rows, formula_rows}
use Rattle.sheet.specs.Check.{Answer, refused, accepted, Test, answer, passes, check_tests}
use Rattle.sheet.specs.Operations.{padded}
use Rattle.sheet.specs.Outer.{Copied, copies, copied_room_test, outer_tests, outer_call, outer_answer}
use Rattle.sheet.proofs.Preorder.{length-tree_rows}
use Rattle.sheet.proofs.Accepted.{accepted_within, accepted_variables}
use Rattle.sheet.proofs.Limits.{binds-numbered}
use Rattle.sheet.proofs.Tests.{passed-∷, passes-++, passed-++, answer-++, answer-passes, refused_first, refused_alike}
use Rattle.sheet.proofs.Writing.{write_refused, write_accepted}
use Rattle.rows.specs.Formats.{format_of}
use Rattle.rows.specs.Layouts.{format_in, total, Room}
use Rattle.rows.specs.Formulas.{prefix_in, matrix_in, formula_in, layout_for}
use Rattle.rows.specs.declared.Layout.{Layout}
use Rattle.rows.proofs.Formulas.{length_prefix}
use Rattle.rows.proofs.Limits.{limits}
use Rattle.prefixes.specs.Places.{place}
use Rattle.prefixes.proofs.Places.{binds-place}
use Rattle.substitution.specs.Output.{Laid}
use Rattle.raw.specs.Formulas.{copying_by, chosen_by, Raw}
use Rattle.raw.specs.Expansions.{raw_matrix}
use Rattle.raw.specs.declared.expand.Expansion.{Expansion}
use Rattle.raw.proofs.Raws.{raw-laid, room_on}
use Rattle.tidying.specs.Limits as tidying
use Rattle.tidying.proofs.Raw as tidied-raw
use Rattle.elimination.specs.Admission.{admission_tests}
use Rattle.elimination.proofs.RawSheets.{prefix_without}
use Rattle.elimination.proofs.Surveying as surveying
use Rattle.renaming.specs.Prefixes.{rows_from}
use Rattle.renaming.proofs.Depending.{numbers_left}
use Rattle.renaming.proofs.Tables.{Numbers, rows-copied, second_is, two_tables, chosen_is, copying_is}
use Rattle.outer.specs.Answers.{OuterWritten, outer_written}
use Rattle.outer.specs.Inner.Writing.{copied_rows, Writes, written_rows}
use Rattle.outer.specs.Inner.OuterPlan.{plan_tests, copied_formula, OuterPlanned, Fitting}
use Rattle.outer.specs.declared.plan.Copying.{Copying}

-- the tests of the call are those of the plan, and 13
tests_parts : (F : Format) (b : Bytes) (x len : ℕ) → outer_tests F b x len ≡ plan_tests F b x ++ (copied_room_test F b x len ∷ [])
unfolding outer_tests plan_tests admission_tests
tests_parts F b x len = sym (append_assoc (admission_tests F b x) _ (copied_room_test F b x len ∷ []))

written : {w : OuterWritten} {a : Answer Copied} {out : Bytes} → a ≡ w.answer → out ≡ w.output → record { answer = a; output = out } ≡ w
written e o = ap₂ (λ (a : Answer Copied) (out : Bytes). record { answer = a; output = out }) e o

refused_call : {n i : ℕ} (F : Format) (b : Bytes) (x : ℕ) (out : Bytes) → refused n i ≡ answer (outer_tests F b x (length out)) x
    → record { answer = refused n i; output = out } ≡ outer_written F b x out
unfolding outer_answer outer_call
refused_call F b x out h =
    let tests = outer_tests F b x (length out) in
    written (refused_alike tests x _ h) (write_refused tests x _ out h).1

pub refused_plan : {n i : ℕ} (F : Format) (b : Bytes) (x : ℕ) (out : Bytes) → refused n i ≡ answer (plan_tests F b x) x
    → record { answer = refused n i; output = out } ≡ outer_written F b x out
refused_plan F b x out h =
    let room = copied_room_test F b x (length out) ∷ [] in
    refused_call F b x out
    (refused_first (plan_tests F b x) room x x h ∙ ap (λ (ts : List Test). answer ts x) (sym (tests_parts F b x (length out))))

module _ {b : Bytes} {tables table : List ℕ} {w : Copying} (d : OuterPlanned b tables table w) where
  abbrev x : ℕ
  x = w.variable

  abbrev s : Layout
  s = w.from

  abbrev e : Expansion
  e = w.survey.to

  abbrev F : Format
  F = format_in s

  abbrev f : Formula
  f = formula F b

  abbrev H : ℕ
  H = F.most_variables

  few_numbers : H ≤ 1024
  few_numbers = (limits s.format).few_variables

  checked : passes (check_tests F b) ≡ true
  unfolding plan_tests admission_tests
  checked = (passed-++ (check_tests F b) _ (passed-++ (admission_tests F b x) _ d.tests_pass).0).0

  enough : too_few H x f ≡ false
  unfolding plan_tests
  enough = (passed-∷ _ _ (passed-∷ _ _ (passed-++ (admission_tests F b x) _ d.tests_pass).1).1).0

  numbers : Numbers H x f
  numbers =
      record {
        few = few_numbers;
        small = d.named.few;
        bound_small =
            λ v h. omega (arith, few_numbers, binds-numbered F f.prefix v (accepted_within F b checked).is_numbered h);
        is_distinct = (accepted_within F b checked).is_distinct;
        enough = enough;
      }

  prefix_is : prefix_in s b ≡ f.prefix
  unfolding formula_in
  prefix_is = ap (λ (g : Formula). g.prefix) d.same_formula

  matrix_is : matrix_in s b ≡ f.matrix
  unfolding formula_in
  matrix_is = ap (λ (g : Formula). g.matrix) d.same_formula

  sized : length f.prefix ≡ s.variables
  sized = ap length (sym prefix_is) ∙ length_prefix b d.from.readable

  bound : binds f.prefix x ≡ true
  bound =
      ap (λ p. binds p x) (sym prefix_is) ∙ binds-place x (prefix_in s b) ∙
      lt-ltb (place x (prefix_in s b)) (length (prefix_in s b)) (omega (arith, d.named.inside, d.named.row_is, length_prefix b d.from.readable))

  copies_are : length (copies_of H x f) ≡ w.copied
  unfolding copies
  copies_are = copies_many H x f enough ∙ sym d.copied_are

  new_prefix : suc (length (raw_outer H x f).prefix) ≡ s.variables + w.copied
  new_prefix = length-raw_outer H x f bound ∙ ap₂ ◌+◌ sized copies_are

  -- the raw sheet's layout
  layout_format : e.layout.format ≡ s.format
  layout_format = ap (λ (t : Layout). t.format) d.surveyed.layout_is

  layout_variables : e.layout.variables ≡ s.variables - 1 + w.copied
  layout_variables = ap (λ (t : Layout). t.variables) d.surveyed.layout_is ∙ d.variables_are

  layout_nodes : e.layout.nodes ≡ raw_rows (chosen_by tables) (matrix_in s b)
  layout_nodes = ap (λ (t : Layout). t.nodes) d.surveyed.layout_is

  nodes_here : e.layout.nodes ≡ outer_rows x f
  unfolding outer_rows
  nodes_here = layout_nodes ∙ ap₂ (λ (L : Literals) (t : Tree). raw_rows L t) (chosen_is numbers d.tables_are) matrix_is

  prefix_sized : length (raw_outer H x f).prefix ≡ e.layout.variables
  prefix_sized = omega (arith, new_prefix, layout_variables, d.named.inside)

  -- the rows
  copied_here : copied_rows s b tables ≡ map binding_row (map existential (copies_of H x f))
  copied_here = ap₂ rows_from (second_is numbers d.tables_are) prefix_is ∙ rows-copied numbers

  copied-count : length (copied_rows s b tables) ≡ w.copied
  copied-count =
      ap length copied_here ∙ length-map (map existential (copies_of H x f)) binding_row ∙ length-map (copies_of H x f) existential ∙ copies_are

  few_new : e.layout.variables < H
  unfolding too_few copies
  few_new =
      omega (
        arith,
        layout_variables,
        numbers_left F f.prefix (accepted_within F b checked).is_numbered (accepted_within F b checked).is_distinct,
        ltb-false (length (unused f.prefix H 1)) (length (dependents x f)) enough,
        d.copied_are,
        sized,
        d.named.inside,
      )

  pub few_raw : (e.layout.variables < 2 ^ 32) × (e.layout.nodes < 2 ^ 32)
  few_raw = (
    omega (arith, few_new, few_numbers),
    omega (arith, layout_nodes, surveying.few_raw (chosen_by tables) d.from.readable),
  )

  joint_is : e.joint ≡ 5
  joint_is = d.surveyed.joint_is ∙ d.joint_is

  written_is : written_rows s b tables e ≡ formula_rows (raw_outer H x f)
  unfolding formula_rows raw_outer
  written_is =
      let kept = without x f.prefix in
      let new = map existential (copies_of H x f) in
      ap₂ (λ (p : Prefix) rs. map binding_row p ++ (rs ++ raw_matrix s b tables e))
      (prefix_without d.from d.named ∙ ap (without x) prefix_is) copied_here ∙
      sym (append_assoc (map binding_row kept) (map binding_row new) (raw_matrix s b tables e)) ∙
      ap₂ ◌++◌ (sym (map-append binding_row kept new))
      (ap tree_rows
      (ap₂ (λ (c : Copies) (t : Tree). raw_tree c t) (ap (copying_by tables) joint_is ∙ copying_is numbers d.tables_are) matrix_is))

  row_count : length (formula_rows (raw_outer H x f)) ≡ total e.layout
  unfolding formula_rows
  row_count =
      omega (
        arith,
        length-append (map binding_row (raw_outer H x f).prefix) (tree_rows (raw_outer H x f).matrix),
        length-map (raw_outer H x f).prefix binding_row,
        length-tree_rows (raw_outer H x f).matrix,
        rows-raw_outer H x f,
        nodes_here,
        prefix_sized,
      )

  -- the call

  fits_here : (len : ℕ)
      → fits F len (variables F b - 1 + copies F b x) (outer_rows x f) ≡ fits F len e.layout.variables e.layout.nodes
  fits_here len =
      let before = sym (accepted_variables F b checked) ∙ sized in
      ap₂ (λ v n. fits F len v n) (ap₂ (λ v n. v - 1 + n) before (sym d.copied_are) ∙ sym layout_variables) (sym nodes_here)

  module _ (out : Bytes) {c : Bool} (is : c ≡ fits F (length out) e.layout.variables e.layout.nodes) where
    -- 13 the raw sheet doesn't fit
    pub no_room : c ≡ false → record { answer = refused 13 0; output = out } ≡ outer_written F b x out
    unfolding answer
    no_room r =
        refused_call F b x out
        (rw (
          tests_parts F b x (length out),
          answer-++ (plan_tests F b x) (copied_room_test F b x (length out) ∷ []) x d.tests_pass,
          fits_here (length out),
          ← is,
          r,
        ))

    pub fitting : c ≡ true → Fitting b tables table w (length out)
    fitting r = record { planned = d; has_room = sym is ∙ r }

    all_pass : c ≡ true → passes (outer_tests F b x (length out)) ≡ true
    unfolding passes
    all_pass r =
        rw (
          tests_parts F b x (length out),
          passes-++ (plan_tests F b x) (copied_room_test F b x (length out) ∷ []),
          d.tests_pass,
          fits_here (length out),
          ← is,
          r,
        )

    pub copied-call : c ≡ true → {len : ℕ} {new : Bytes} → len ≡ length (sheet F (copied_formula b w))
        → new ≡ padded (length out) (sheet F (copied_formula b w))
        → record { answer = accepted (record { new_length = len; copied = w.copied; lowest = w.lowest }); output = new } ≡
        outer_written F b x out
    unfolding outer_answer outer_call
    copied-call r {len} l h =
        let tests = outer_tests F b x (length out) in
        written
        (ap (λ n. accepted (record { new_length = n; copied = w.copied; lowest = w.lowest })) l ∙
        ap₂ (λ n m. accepted (record { new_length = length (sheet F (copied_formula b w)); copied = n; lowest = m }))
        d.copied_are d.lowest_is ∙ sym (answer-passes tests _ (all_pass r)))
        (h ∙ (write_accepted tests (sheet F (copied_formula b w)) out (all_pass r)).1)

-- the raw sheet, if it fits

module _ {b : Bytes} {tables table : List ℕ} {w : Copying} {len : ℕ} (q : Fitting b tables table w len) where
  abbrev d : OuterPlanned b tables table w
  d = q.planned

  abbrev t : Layout
  t = w.survey.to.layout

  abbrev G : Format
  G = format_in w.from

  abbrev raw : Formula
  raw = raw_outer G.most_variables w.variable (formula G b)

  fit : (t.nodes ≤ G.most_nodes) × (sheet_length G t.variables t.nodes ≤ len)
  unfolding fits
  fit =
      let both = and_parts (leb t.nodes G.most_nodes) (leb (sheet_length G t.variables t.nodes) len) q.has_room in
      (leb-true t.nodes G.most_nodes both.0, leb-true (sheet_length G t.variables t.nodes) len both.1)

  room_here : Room t len
  unfolding sheet_length
  room_here = record { holds = rw (layout_format d) fit.1 }

  pub writes : (out : Bytes) → length out ≡ len → Writes w.from b tables (take w.survey.cuts table) w.survey.to out
  writes out long =
      record {
        copyable =
            record {
              readable = d.from.readable;
              two_tables = two_tables (numbers d) d.tables_are;
              joins = rw (joint_is d) refl;
              same_format = layout_format d;
              few_variables = omega (arith, few_new d, few_numbers d);
              nodes_are = layout_nodes d;
              room = room_on room_here long;
            };
        told = (
          d.surveyed.occurs_is,
          λ h. (
            record {
              present = sym d.surveyed.occurs_is ∙ h;
              part_is = (d.surveyed.found h).part_is;
              end_is = (d.surveyed.found h).end_is;
            },
            (d.surveyed.found h).cuts_are,
          ),
        );
        in_prefix = d.named.inside;
        variables_are = layout_variables d ∙ ap (λ n. w.from.variables - 1 + n) (sym (copied-count d));
      }

  module _ {old new : Bytes} {next : ℕ} (long : length old ≡ len) (same : length new ≡ length old)
      (l : Laid t old new 0 next (written_rows w.from b tables w.survey.to)) where
    raw_here : Raw t old new raw
    raw_here = raw-laid (omega (arith, l.next_row, ap length (written_is d), row_count d)) l (room_on room_here (same ∙ long)) (written_is d)

    pub raw-written : tidying.Raw t new
    raw-written =
        tidied-raw.raw_rows t new raw raw_here.all_rows (prefix_sized d) (room_on room_here (same ∙ long))
        (tidied-raw.few_rows t (rw (layout_format d) (omega (arith, few_new d))) (rw (layout_format d) fit.0))

    pub sheet-written : {out : Bytes} → out ≡ padded (length new) (sheet (format_in t) (tidied (formula_in t new)))
        → out ≡ padded (length old) (sheet G (copied_formula b w))
    unfolding outer_expanded tidied
    sheet-written h =
        tidied-raw.raw_output t new raw raw_here.all_rows (prefix_sized d) (length new) h ∙
        ap₂ (λ n g. padded n (sheet (format_of g) (tidied raw))) same (layout_format d)

    pub length-written : {u : Layout} {end : ℕ} → u ≡ layout_for t.format (tidied (formula_in t new))
        → end ≡ sheet_length (format_in u) u.variables u.nodes → end ≡ length (sheet G (copied_formula b w))
    unfolding outer_expanded tidied
    length-written is h =
        h ∙ tidied-raw.layout_length t.format (tidied raw) (tidied-raw.raw-sizes t new raw raw_here.all_rows (prefix_sized d) is) ∙
        ap (λ g. length (sheet (format_of g) (tidied raw))) (layout_format d)
