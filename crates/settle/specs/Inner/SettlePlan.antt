-- What Settle decides before it writes ("Settle x"; "What each operation turns away").
-- Assumes nothing.
use Rattle.std.specs.Prelude.{◌≡◌, true, List, ℕ, Result, Ok, Err}
use Rattle.std.proofs.Math.Option.{some}
use Rattle.formula.specs.Settle.{may_settle}
use Rattle.sheet.specs.Format.{Bytes}
use Rattle.sheet.specs.Sheet.{formula}
use Rattle.sheet.specs.Check.{answer, passes}
use Rattle.sheet.specs.Operations.{settle_tests}
use Rattle.rows.specs.Formats.{format_of}
use Rattle.rows.specs.Layouts.{format_in}
use Rattle.rows.specs.Formulas.{formula_in}
use Rattle.rows.specs.declared.Format.{Format}
use Rattle.rows.specs.Refusals.{refused_by}
use Rattle.rows.specs.declared.Layout.{Layout}
use Rattle.rows.specs.declared.refusals.Refusal.{Refusal}
use Rattle.elimination.specs.Admission.{Admitted}
use Rattle.elimination.specs.Steps.{Puts}
use Rattle.elimination.specs.declared.settling.Put.{Put}

-- tests 1 to 10 admit x, whose prefix row is row i
abbrev pub Admissible : Bytes → ℕ → Layout → ℕ → Type 0
Admissible b x s i = (ends : List ℕ) × Admitted b x s i ends

-- every test passes, and the value that is put in for x is the one it may be settled by
pub record SettlePlanned (b : Bytes) (x room : ℕ) (s : Layout) (p : Put) : Type 0 where
  pub tests_pass : passes (settle_tests (format_in s) b x room) ≡ true
  pub puts : Puts s b p room
  pub variable_is : p.variable ≡ x
  pub value_is : may_settle x (formula (format_in s) b) ≡ some p.value
  pub same_formula : formula_in s b ≡ formula (format_in s) b

abbrev pub SettlePlans : Format → Bytes → ℕ → ℕ → Result (Layout × Put) Refusal → Type 0
SettlePlans f b x room (Err e) = refused_by e ≡ answer (settle_tests (format_of f) b x room) x
SettlePlans f b x room (Ok (s, p)) = (s.format ≡ f) × SettlePlanned b x room s p
