-- A sheet that Check accepts can be judged, and what Certify answers follows from what Check answers and from the steps.
-- Assumes nothing.
use mathlib.Core.Path.{◌≡◌, sym, ap, ◌∙◌}
use mathlib.Core.List.{List}
use Prim.Native.Nat.{ℕ, ◌<◌}
use native.Mathlib.Omega.{arith}
use lib.ListN.{length, get_or}
use Rattle.formula.specs.Tree.{Op, Formula, distinct}
use Rattle.formula.specs.Certificates.{Certified, certified}
use Rattle.sheet.specs.Format as sheet
use Rattle.sheet.specs.Format.{Bytes, row}
use Rattle.sheet.specs.Sheet.{binding, formula}
use Rattle.sheet.specs.Check.{Answer, refused, accepted, check_tests, check}
use Rattle.sheet.specs.Certificates.{steps_said, certify_call}
use Rattle.sheet.proofs.Tests.{answer-passes}
use Rattle.sheet.proofs.Limits.{numbered_at}
use Rattle.sheet.proofs.Accepted.{accepted_within}
use Rattle.sheet.proofs.Certificates.{certify_refuses}
use Rattle.rows.specs.Formats.{format_of}
use Rattle.rows.specs.Formulas.{prefix_in, formula_in}
use Rattle.rows.specs.declared.Format.{Format}
use Rattle.rows.specs.declared.Layout.{Layout}
use Rattle.rows.proofs.Formulas.{length_prefix}
use Rattle.rows.proofs.Limits.{limits}
use Rattle.prefixes.specs.Places.{binding_at}
use Rattle.checking.specs.Sheets.{Sheet}
use Rattle.checking.proofs.CheckedSheets.{sheet_readable, sheet-formula_in}
use Rattle.certify.specs.Inner.Ranking.{Numbered}
use Rattle.certify.specs.Inner.Judging.{Judged}

pub certify_refused : {n i : ℕ} (F : sheet.Format) (b : Bytes) (o : Op) (heads codes : List ℕ) → refused n i ≡ check F b
    → refused n i ≡ certify_call F b o heads codes
certify_refused {n} {i} F b o heads codes h = sym ((certify_refuses F b o heads codes n i).1 (sym h))

-- a sheet that Check accepts
module _ {f : Format} {b : Bytes} {s : Layout} (h : Sheet f b s) where
  abbrev F : sheet.Format
  F = format_of f

  prefix_of : prefix_in s b ≡ (formula F b).prefix
  unfolding formula_in
  prefix_of = ap (λ (g : Formula). g.prefix) (sheet-formula_in h)

  numbered : Numbered s b
  unfolding binding_at
  numbered i less =
      let z = binding (row 0 0) in
      let within : i < length (formula F b).prefix = omega (arith, less, length_prefix b (sheet_readable h), ap length prefix_of) in
      let bound = numbered_at F (formula F b).prefix i z (accepted_within F b h.tests_pass).is_numbered within in
      omega (arith, bound, (limits f).few_variables, ap (λ p. (get_or p i z).variable) prefix_of)

  pub judged : Judged s b
  judged =
      record {
        readable = sheet_readable h;
        numbered = numbered;
        is_distinct = ap distinct prefix_of ∙ (accepted_within F b h.tests_pass).is_distinct;
      }

  pub steps_answered : (o : Op) (heads codes : List ℕ) {a : Answer Certified} → a ≡ accepted (certified o (formula_in s b) (steps_said heads codes))
      → a ≡ certify_call F b o heads codes
  unfolding certify_call
  steps_answered o heads codes e =
      e ∙ ap (λ (g : Formula). accepted (certified o g (steps_said heads codes))) (sheet-formula_in h) ∙
      sym (answer-passes (check_tests F b) (certified o (formula F b) (steps_said heads codes)) h.tests_pass)
