-- The tests behind Check's, and the calls once they are decided.
-- Assumes nothing.
use mathlib.Core.Path.{◌≡◌, refl, sym, ap, ap₂, ◌∙◌}
use mathlib.Core.Bool.{Bool, true, false, ◌||◌}
use mathlib.Core.List.{List, [], ◌∷◌, ◌++◌}
use Prim.Native.Nat.{ℕ, ◌≤◌, ◌<◌}
use native.Mathlib.Omega.{arith}
use lib.Dec.{ltb}
use lib.ListN.{length, take}
use borrow.Author.Tests.{lt-ltb, le-ltb}
use Rattle.sheet.specs.Format as sheet
use Rattle.sheet.specs.Format.{Bytes, narrow, wide, sheet_length, variables, nodes, prefix_rows}
use Rattle.sheet.specs.Sheet.{formula, sheet}
use Rattle.sheet.specs.Refusals.{no_room, not_narrow}
use Rattle.sheet.specs.Check.{Answer, refused, accepted, Test, test, answer, passes, check_tests}
use Rattle.sheet.specs.Operations.{Written, padded, output_after, write}
use Rattle.sheet.specs.Conversion.{carried, above, beyond, converted_room_test, to_wide_tests, to_wide_call, to_narrow_tests, to_narrow_call}
use Rattle.sheet.proofs.Tests.{answer-++}
use Rattle.sheet.proofs.Writing.{write_refused, write_accepted, written}
use Rattle.sheet.proofs.RoundTrip.{length-sheet}
use Rattle.sheet.proofs.Accepted.{accepted_variables, accepted_nodes}
use Rattle.sheet.proofs.Conversion.{above_prefix, within_passed, to_wide-within, to-narrow-beyond}
use Rattle.rows.specs.Formats.{format_of}
use Rattle.rows.specs.Layouts.{format_in, rows_in}
use Rattle.rows.specs.Formulas.{formula_in}
use Rattle.rows.specs.declared.Format.{Format}
use Rattle.rows.specs.declared.Format.TheVariants.{Narrow, Wide}
use Rattle.rows.specs.declared.Layout.{Layout}
use Rattle.rows.proofs.Layouts.{all_rows_in}
use Rattle.checking.specs.Sheets.{Sheet}
use Rattle.checking.proofs.CheckedSheets.{RightSizes, sheet_format, sheet_own, sheet_right, sheet_readable, sheet-formula_in}
use Rattle.conversion.specs.Inner.Rows.{Convertible, ConvertReady, room_call}

-- is_beyond

module _ (G : sheet.Format) {s : Layout} {b : Bytes} (h : Sheet s.format b s) where
  pub many_variables : G.most_variables < s.variables → true ≡ beyond (format_in s) G b
  unfolding beyond
  many_variables l =
      rw (lt-ltb G.most_variables (variables (format_in s) b) (omega (arith, (sheet_right h).variables_are)))

  pub many_nodes : G.most_nodes < s.nodes → true ≡ beyond (format_in s) G b
  unfolding beyond
  many_nodes l =
      rw (lt-ltb G.most_nodes (nodes (format_in s) b) (omega (arith, (sheet_right h).nodes_are)))
      (second (ltb G.most_variables (variables (format_in s) b)) _)
    where
      second : (p q : Bool) → true ≡ (p || true || q)
      second true q = refl
      second false q = refl

  pub by_numbers : {a : Bool} → s.variables ≤ G.most_variables → s.nodes ≤ G.most_nodes
      → a ≡ above G.most_variables (take s.variables (rows_in s b)) → a ≡ beyond (format_in s) G b
  unfolding beyond prefix_rows
  by_numbers {a} lv ln e =
      let F = format_in s in
      rw (
        le-ltb G.most_variables (variables F b) (omega (arith, (sheet_right h).variables_are)),
        le-ltb G.most_nodes (nodes F b) (omega (arith, (sheet_right h).nodes_are)),
      )
      (e ∙ ap (λ (t : Layout). above G.most_variables (take t.variables (rows_in t b))) h.layout_is ∙
      ap (λ rs. above G.most_variables (take (variables F b) rs)) (sym (all_rows_in s.format b)) ∙
      sym (above_prefix F G b h.tests_pass))

-- convert_within

module _ {s : Layout} {b : Bytes} {g : Format} (r : ConvertReady s b g) (out : Bytes) where
  abbrev F : sheet.Format
  F = format_in s

  abbrev G : sheet.Format
  G = format_of g

  right : RightSizes F b s.variables s.nodes
  right = sheet_right r.accepted

  same_length : sheet_length G s.variables s.nodes ≡ sheet_length G (variables F b) (nodes F b)
  same_length = ap₂ (sheet_length G) right.variables_are right.nodes_are

  pub short : length out < sheet_length G s.variables s.nodes
      → record { answer = refused no_room 0; output = out } ≡ room_call F G b out
  unfolding answer
  short l =
      written
      (write_refused (converted_room_test F G b (length out) ∷ []) (length (carried F G b)) (carried F G b) out
      (rw (lt-ltb (length out) (sheet_length G (variables F b) (nodes F b)) (omega (arith, same_length)))))

  pub convertible : sheet_length G s.variables s.nodes ≤ length out → Convertible s b g (length out)
  convertible l =
      record {
        readable = sheet_readable r.accepted;
        within = rw (sheet-formula_in r.accepted) r.within;
        has_room = l;
      }

  new_length : sheet_length G s.variables s.nodes ≡ length (carried F G b)
  unfolding carried
  new_length =
      same_length ∙
      sym
      (length-sheet G (formula F b) ∙
      ap₂ (sheet_length G) (accepted_variables F b r.accepted.tests_pass) (accepted_nodes F b r.accepted.tests_pass))

  pub converted_call : {end : ℕ} {new : Bytes} → sheet_length G s.variables s.nodes ≤ length out
      → end ≡ sheet_length G s.variables s.nodes → new ≡ padded (length out) (sheet G (formula_in s b))
      → record { answer = accepted end; output = new } ≡ room_call F G b out
  unfolding carried passes
  converted_call l e n =
      let w = write_accepted (converted_room_test F G b (length out) ∷ []) (carried F G b) out
      (rw (le-ltb (length out) (sheet_length G (variables F b) (nodes F b)) (omega (arith, same_length)))) in
      written (
        ap accepted (e ∙ new_length) ∙ w.0,
        n ∙ ap (λ f. padded (length out) (sheet G f)) (sheet-formula_in r.accepted) ∙ w.1,
      )

-- the calls, once Check accepts

write-after : (ts us : List Test) (new out : Bytes) → passes ts ≡ true → write us new out ≡ write (ts ++ us) new out
unfolding write
write-after ts us new out h =
    ap (λ (a : Answer ℕ). record { answer = a; output = output_after a new out }) (sym (answer-++ ts us (length new) h))

module _ {b : Bytes} {s : Layout} (h : Sheet Narrow b s) where
  pub to_wide_ready : ConvertReady s b Wide
  to_wide_ready =
      rw h.layout_is
      (record { accepted = record { tests_pass = h.tests_pass; layout_is = refl }; within = to_wide-within b h.tests_pass })

  pub to_wide_checked : {w : Written} (out : Bytes) → w ≡ room_call (format_in s) wide b out → w ≡ to_wide_call b out
  unfolding to_wide_call to_wide_tests
  to_wide_checked out e =
      e ∙ ap (λ f. room_call (format_of f) wide b out) (sheet_format h) ∙
      write-after (check_tests narrow b) _ (carried narrow wide b) out h.tests_pass

module _ {b : Bytes} {s : Layout} (h : Sheet Wide b s) where
  module _ {t : Bool} (is : t ≡ beyond (format_in s) narrow b) where
    told : {answer : Bool} → t ≡ answer → beyond wide narrow b ≡ answer
    told e = sym (is ∙ ap (λ f. beyond (format_of f) narrow b) (sheet_format h)) ∙ e

    pub to-narrow-above : t ≡ true → (out : Bytes) → record { answer = refused not_narrow 0; output = out } ≡ to_narrow_call b out
    to-narrow-above e out = written (to-narrow-beyond b out h.tests_pass (told e))

    pub to-narrow-ready : t ≡ false → ConvertReady s b Narrow
    to-narrow-ready e =
        record {
          accepted = sheet_own h;
          within = rw h.layout_is (within_passed wide narrow b h.tests_pass (told e));
        }

    pub to-narrow-within : t ≡ false → {w : Written} (out : Bytes) → w ≡ room_call (format_in s) narrow b out → w ≡ to_narrow_call b out
    unfolding to_narrow_call to_narrow_tests passes
    to-narrow-within e out k =
        let room = converted_room_test wide narrow b (length out) ∷ [] in
        k ∙ ap (λ f. room_call (format_of f) narrow b out) (sheet_format h) ∙
        write-after (test (beyond wide narrow b) not_narrow 0 ∷ []) room (carried wide narrow b) out (passed (told e)) ∙
        write-after (check_tests wide b) (test (beyond wide narrow b) not_narrow 0 ∷ room) (carried wide narrow b) out h.tests_pass
      where
        passed : {f : Bool} → f ≡ false → passes (test f not_narrow 0 ∷ []) ≡ true
        passed e = rw e
