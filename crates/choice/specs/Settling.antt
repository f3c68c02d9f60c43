-- The next variable to settle, as code holds it ("Solve").
-- Assumes nothing.
use Rattle.std.specs.Prelude.{◌≡◌, Bool, false, ℕ, ◌<◌, ltb, take, Option, Some, None}
use Rattle.std.proofs.Math.Option as maybe
use Rattle.std.proofs.Math.Option.{none, some}
use Rattle.formula.specs.Tree.{Formula}
use Rattle.formula.specs.Settle.{may_settle}
use Rattle.formula.specs.Solve.{those, least, is_some, lowest}
use Rattle.sheet.specs.Format.{Bytes}
use Rattle.rows.specs.Formulas.{prefix_in, formula_in}
use Rattle.rows.specs.declared.Layout.{Layout}
use Rattle.prefixes.specs.Places.{place}
use Rattle.choice.specs.declared.settle.SettleChoice.{SettleChoice}

-- the chosen variable, its row and the value that it takes
pub record SettleHere (s : Layout) (b : Bytes) (chosen : maybe.Option ℕ) (r : SettleChoice) : Type 0 where
  pub is_lowest : chosen ≡ some r.variable
  pub inside : r.row < s.variables
  pub at_row : r.row ≡ place r.variable (prefix_in s b)
  pub value_is : may_settle r.variable (formula_in s b) ≡ some r.value

-- the code's choice is the chosen variable, or there is none
abbrev pub SettleOf : Layout → Bytes → maybe.Option ℕ → Option SettleChoice → Type 0
SettleOf s b chosen (Some r) = SettleHere s b chosen r
SettleOf s b chosen None = chosen ≡ none

abbrev pub ToSettle : Layout → Bytes → Option SettleChoice → Type 0
ToSettle s b r = SettleOf s b (lowest (formula_in s b)) r

-- no variable may be settled
abbrev pub Unsettled : Layout → Bytes → Type 0
Unsettled s b = lowest (formula_in s b) ≡ none

-- the lowest-numbered variable that may be settled, of those before prefix row i, and the code's choice among them
unfoldable pub lowest_before : ℕ → Formula → maybe.Option ℕ
lowest_before i f = least ltb (those (λ x. is_some (may_settle x f)) (take i f.prefix))

abbrev pub SettlesBefore : ℕ → Layout → Bytes → Option SettleChoice → Type 0
SettlesBefore i s b r = SettleOf s b (lowest_before i (formula_in s b)) r

-- whether a choice has a number below x
abbrev pub is_lower : Option SettleChoice → ℕ → Bool
is_lower None x = false
is_lower (Some r) x = ltb r.variable x
