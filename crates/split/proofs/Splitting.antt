-- The rows behind those of the values, made a sheet, and what Split answers and leaves.
-- Assumes nothing.
use mathlib.Core.Path.{◌≡◌, sym, ap, ap₂, ◌∙◌}
use mathlib.Core.Bool.{Bool, true, false, not}
use mathlib.Core.List.{List, [], ◌∷◌}
use Prim.Native.Nat.{ℕ, ◌+◌, ◌*◌, ◌-◌, ◌≤◌, ◌<◌}
use native.Mathlib.Omega.{arith}
use lib.ListN.{length, length-map}
use borrow.Author.Tests.{not-true, not-false}
use Rattle.formula.specs.Tree.{Formula, rows}
use Rattle.formula.proofs.Force.{rows-given}
use Rattle.sheet.specs.Format as sheet
use Rattle.sheet.specs.Format.{Bytes, sheet_length, variables, nodes}
use Rattle.sheet.specs.Sheet.{formula, formula_rows, sheet}
use Rattle.sheet.specs.Check.{refused, accepted, answer, check_tests, check}
use Rattle.sheet.specs.Operations.{padded}
use Rattle.sheet.specs.Force.{are_values, value_of, values_of}
use Rattle.sheet.specs.Split.{split_tests, under, split_call}
use Rattle.sheet.proofs.Tests.{refused_first}
use Rattle.sheet.proofs.Writing.{written, write_refused, write_accepted}
use Rattle.sheet.proofs.Accepted.{accepted_nodes}
use Rattle.sheet.proofs.Join.{split_21, split-22, split-13, split-none}
use Rattle.rows.specs.Layouts.{format_in, width, total, rows_in, Room, sealed}
use Rattle.rows.specs.Formulas.{prefix_in, formula_in}
use Rattle.rows.specs.declared.Layout.{Layout}
use Rattle.rows.proofs.Sealed.{sealed-length, sealed-sheet}
use Rattle.checking.specs.Sheets.{Sheet}
use Rattle.checking.proofs.CheckedSheets.{sheet_right}
use Rattle.substitution.specs.Changes.{numbers}
use Rattle.raw.specs.Formulas.{Raw}
use Rattle.force.specs.Inner.Moves.{put_all, moves, behind_raw, layout_behind}
use Rattle.force.proofs.Judging.{given-raw, given-count}
use Rattle.split.specs.Inner.{Splittable}

-- the table

pub filled_none : (s : Layout) (b vs : Bytes) → length vs ≡ 0 → {t : List ℕ} {n : ℕ} → t ≡ numbers n → n ≡ 1025
    → t ≡ moves (values_of vs) (prefix_in s b)
unfolding put_all
filled_none s b [] e is l = is ∙ ap numbers l
filled_none s b (v ∷ vs) e is l = absurd (omega arith)

-- the sheet

module _ {s : Layout} {b vs : Bytes} {len : ℕ} (j : Splittable s b vs len) where
  abbrev F : sheet.Format
  F = format_in s

  abbrev g : Formula
  g = under vs (formula F b)

  abbrev t : Layout
  t = layout_behind s (length vs)

  raw_is : {table : List ℕ} → table ≡ moves (values_of vs) (prefix_in s b) → behind_raw (length vs) table (formula_in s b) ≡ g
  raw_is {table} e =
      ap (λ (n : ℕ). behind_raw n table (formula_in s b)) (sym (length-map vs value_of)) ∙ given-raw j.checked (values_of vs) e

  count : length g.prefix ≡ t.variables
  count = given-count j.checked (values_of vs) ∙ ap (λ (n : ℕ). s.variables - n) (length-map vs value_of)

  nodes_are : rows g.matrix ≡ t.nodes
  nodes_are =
      rows-given (values_of vs) (formula F b).prefix (formula F b).matrix ∙ accepted_nodes F b j.checked.tests_pass ∙
      sym (sheet_right j.checked).nodes_are

  module _ {table : List ℕ} (filled : table ≡ moves (values_of vs) (prefix_in s b)) {old new : Bytes} (same : length new ≡ length old)
      (long : len ≡ length old) (w : Raw t old new (behind_raw (length vs) table (formula_in s b))) {u : Layout} (at : u ≡ t) where
    rows_are : rows_in t new ≡ formula_rows g
    rows_are = w.all_rows ∙ ap formula_rows (raw_is filled)

    room : Room t (length new)
    room = record { holds = omega (arith, j.has_room, long, same) }

    pub split-room : Room u (length new)
    split-room = rw at room

    pub split-sheet : sealed u (total u) new ≡ padded (length old) (sheet F g)
    split-sheet =
        ap (λ (l : Layout). sealed l (total l) new) at ∙ sealed-sheet t new g room rows_are count nodes_are ∙
        ap (λ (n : ℕ). padded n (sheet F g)) same

    pub split-length : 2 * width u + total u + width u * total u ≡ length (sheet F g)
    split-length =
        ap (λ (l : Layout). 2 * width l + total l + width l * total l) at ∙ sealed-length t new g room rows_are count nodes_are

-- what a call answers and leaves

pub unchecked_call : (F : sheet.Format) (b vs out : Bytes) {k p : ℕ} → refused k p ≡ check F b
    → record { answer = refused k p; output = out } ≡ split_call F b vs out
unfolding split_call check split_tests
unchecked_call F b vs out e =
    written (write_refused (split_tests F b vs (length out)) (length out) (sheet F (under vs (formula F b))) out (refused_first (check_tests F b) _ _ _ e))

module _ {b : Bytes} {s : Layout} (h : Sheet s.format b s) (vs out : Bytes) {ok : Bool} (e : ok ≡ are_values vs) where
  abbrev G : sheet.Format
  G = format_in s

  variables_are : s.variables ≡ variables G b
  variables_are = (sheet_right h).variables_are

  nodes_same : s.nodes ≡ nodes G b
  nodes_same = (sheet_right h).nodes_are

  abbrev left : ℕ
  left = sheet_length G (variables G b - length vs) (nodes G b)

  refused_call : {k p : ℕ} → answer {A = ℕ} (split_tests G b vs (length out)) 0 ≡ refused k p
      → record { answer = refused k p; output = out } ≡ split_call G b vs out
  unfolding split_call
  refused_call i = written (write_refused (split_tests G b vs (length out)) 0 (sheet G (under vs (formula G b))) out (sym i))

  pub bad_call : not ok ≡ true → record { answer = refused 21 0; output = out } ≡ split_call G b vs out
  bad_call n = refused_call (split_21 G b vs (length out) h.tests_pass 0 (sym e ∙ not-true ok n))

  module _ (n : not ok ≡ false) where
    good : are_values vs ≡ true
    good = sym e ∙ not-false ok n

    pub many_call : s.variables < length vs → record { answer = refused 22 0; output = out } ≡ split_call G b vs out
    many_call l = refused_call (split-22 G b vs (length out) h.tests_pass 0 good (omega (arith, variables_are)))

    module _ (few : length vs ≤ s.variables) {size : ℕ} (is : size ≡ sheet_length G (s.variables - length vs) s.nodes) where
      few-values : length vs ≤ variables G b
      few-values = omega (arith, variables_are)

      its-size : size ≡ left
      its-size = is ∙ ap₂ (λ (v m : ℕ). sheet_length G (v - length vs) m) variables_are nodes_same

      pub short_call : length out < size → record { answer = refused 13 0; output = out } ≡ split_call G b vs out
      short_call l = refused_call (split-13 G b vs (length out) h.tests_pass 0 good few-values (omega (arith, its-size)))

      module _ (l : size ≤ length out) where
        pub splittable : Splittable s b vs (length out)
        unfolding sheet_length
        splittable = record { checked = h; few = few; has_room = omega (arith, is, l) }

        pub split-accepted : {k : ℕ} {out' : Bytes} → out' ≡ padded (length out) (sheet G (under vs (formula G b)))
            → k ≡ length (sheet G (under vs (formula G b))) → record { answer = accepted k; output = out' } ≡ split_call G b vs out
        unfolding split_call
        split-accepted {k} {out'} f i =
            ap₂ (λ (n : ℕ) (o : Bytes). record { answer = accepted n; output = o }) i f ∙
            written (write_accepted (split_tests G b vs (length out)) (sheet G (under vs (formula G b))) out
            (split-none G b vs (length out) h.tests_pass {A = ℕ} 0 good few-values (omega (arith, its-size))))
