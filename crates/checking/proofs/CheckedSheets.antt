-- What an answer of Check tells its caller.
-- Assumes nothing.
use mathlib.Core.Path.{◌≡◌, refl, sym, ap, ap₂, ◌∙◌, subst}
use mathlib.Core.Bool.{Bool, true, false}
use Prim.Native.Nat.{ℕ, ◌≤◌}
use native.Mathlib.Omega.{arith}
use lib.ListN.{length}
use Rattle.std.specs.Prelude.{Result, Ok, Err}
use Rattle.sheet.specs.Format as sheet
use Rattle.sheet.specs.Format.{Bytes, sheet_length, variables, nodes}
use Rattle.sheet.specs.Sheet.{formula}
use Rattle.sheet.specs.Check.{Answer, accepted, refused, Sizes, passes, size_tests, check_tests, check}
use Rattle.sheet.proofs.Tests.{answer-passes, accepted_passes}
use Rattle.sheet.proofs.CheckTests.{passed, passed_sizes}
use Rattle.rows.specs.Formats.{format_of}
use Rattle.rows.specs.Formulas.{formula_in, Readable, layout_of}
use Rattle.rows.specs.declared.Format.{Format}
use Rattle.rows.specs.declared.Layout.{Layout}
use Rattle.rows.proofs.Formulas.{formula_read, accepted_readable}
use Rattle.rows.proofs.Limits.{limits}
use Rattle.rows.specs.Refusals.{refused_by}
use Rattle.rows.specs.declared.refusals.Refusal.{Refusal}
use Rattle.checking.specs.Answers.{checked_answer}
use Rattle.checking.specs.Sheets.{Sheet}
use Rattle.checking.specs.Inner.Stages.{Sized, sizes, size_answer}
use Rattle.checking.proofs.Tests.{never_both}

-- what an answer says of the layout or of the refusal in it
pub accepted_as : {x : Answer Sizes} {s : Layout} {r : Result Layout Refusal} → r ≡ Ok s → checked_answer r ≡ x → accepted (sizes s) ≡ x
accepted_as told h = sym (ap checked_answer told) ∙ h

pub refused_as : {x : Answer Sizes} {e : Refusal} {r : Result Layout Refusal} → r ≡ Err e → checked_answer r ≡ x → refused_by e ≡ x
refused_as told h = sym (ap checked_answer told) ∙ h

-- v and n are the sheet's sizes, and they are right
pub record RightSizes (F : sheet.Format) (b : Bytes) (v n : ℕ) : Type 0 where
  pub variables_are : v ≡ variables F b
  pub nodes_are : n ≡ nodes F b
  pub few_variables : v ≤ F.most_variables
  pub some_node : 1 ≤ n
  pub few_nodes : n ≤ F.most_nodes
  pub right_length : length b ≡ sheet_length F v n

-- a layout with a sheet's sizes
module _ (f : Format) (b : Bytes) (s : Layout) where
  right_sizes : passes (size_tests (format_of f) b) ≡ true → sizes (layout_of f b) ≡ sizes s
      → RightSizes (format_of f) b s.variables s.nodes
  right_sizes h e =
      let F = format_of f in
      let z = passed_sizes F b h in
      let vs : s.variables ≡ variables F b = sym (ap (λ (z : Sizes). z.variables) e) in
      let ns : s.nodes ≡ nodes F b = sym (ap (λ (z : Sizes). z.nodes) e) in
      record {
        variables_are = vs;
        nodes_are = ns;
        few_variables = omega (arith, z.few_variables);
        some_node = omega (arith, z.some_node);
        few_nodes = omega (arith, z.few_nodes);
        right_length = rw (vs, ns) z.right_length;
      }

  -- the size tests alone
  pub accepted_sizes : accepted (sizes s) ≡ size_answer f b → RightSizes (format_of f) b s.variables s.nodes
  accepted_sizes h =
      let p = accepted_passes (size_tests (format_of f) b) (sizes (layout_of f b)) (sizes s) (sym h) in
      right_sizes p.0 p.1

  -- right sizes make the sheet's own layout, whose rows have their place
  module _ (same : s.format ≡ f) (r : RightSizes (format_of f) b s.variables s.nodes) where
    pub right-layout : s ≡ layout_of f b
    right-layout =
        ap₂ (λ (g : Format) (z : Sizes). record { format = g; variables = z.variables; nodes = z.nodes }) same
        (ap₂ (λ v n. record { variables = v; nodes = n }) r.variables_are r.nodes_are)

    pub right-sized : Sized s (length b)
    unfolding sheet_length
    right-sized =
        record {
          room = record { holds = rw same (omega (arith, r.right_length)) };
          few_rows = omega (arith, (limits f).few_variables, (limits f).few_nodes, r.few_variables, r.few_nodes);
        }

-- the layout that the size tests alone accept
module _ {f : Format} (b : Bytes) {s : Layout} (told : accepted (sizes s) ≡ size_answer f b) (same : s.format ≡ f) where
  pub read_own : s ≡ layout_of f b
  read_own = right-layout f b s same (accepted_sizes f b s told)

  pub read_sized : Sized s (length b)
  read_sized = right-sized f b s same (accepted_sizes f b s told)

-- an accepted sheet: every test passes, and the layout is the sheet's own
pub sheet_checked : {f : Format} {b : Bytes} {s : Layout} → accepted (sizes s) ≡ check (format_of f) b → s.format ≡ f → Sheet f b s
unfolding check
sheet_checked {f} {b} {s} told same =
    let F = format_of f in
    let p = accepted_passes (check_tests F b) (sizes (layout_of f b)) (sizes s) (sym told) in
    record { tests_pass = p.0; layout_is = right-layout f b s same (right_sizes f b s (passed F b p.0).sizes p.1) }

-- a refused one
pub refused_sheet : (f : Format) (b : Bytes) {k p : ℕ} → refused k p ≡ check (format_of f) b → passes (check_tests (format_of f) b) ≡ false
unfolding check
refused_sheet f b told = go (passes (check_tests (format_of f) b)) refl
  where
    go : (t : Bool) → passes (check_tests (format_of f) b) ≡ t → t ≡ false
    go true q = never_both (told ∙ answer-passes (check_tests (format_of f) b) (sizes (layout_of f b)) q)
    go false q = refl

module _ {f : Format} {b : Bytes} {s : Layout} (h : Sheet f b s) where
  pub sheet_format : s.format ≡ f
  sheet_format = ap (λ (t : Layout). t.format) h.layout_is

  pub sheet_own : Sheet s.format b s
  sheet_own = subst (λ g. Sheet g b s) (sym sheet_format) h

  pub sheet_right : RightSizes (format_of f) b s.variables s.nodes
  sheet_right = right_sizes f b s (passed (format_of f) b h.tests_pass).sizes (sym (ap sizes h.layout_is))

  pub sheet_readable : Readable s b
  sheet_readable = rw h.layout_is (accepted_readable f b h.tests_pass)

  pub sheet_sized : Sized s (length b)
  sheet_sized =
      let r = sheet_readable in
      record { room = r.room; few_rows = omega (arith, r.few_variables, r.few_nodes) }

  pub sheet-formula_in : formula_in s b ≡ formula (format_of f) b
  sheet-formula_in = rw h.layout_is (formula_read f b)
