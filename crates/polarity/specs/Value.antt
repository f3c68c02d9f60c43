-- The value that settling puts in, by the signs of a variable's literals ("Settle x").
-- Assumes nothing.
use Rattle.std.specs.Prelude.{◌≡◌, Bool, true, false, not, ◌||◌, cond, List, ℕ, ◌≤◌, ◌<◌, get_or, Option, Some, None}
use Rattle.std.proofs.Math.Option as maybe
use Rattle.std.proofs.Math.Option.{none, some}
use Rattle.formula.specs.Tree.{Quantifier, exists, for_all, Tree, of_sign, has, distinct}
use Rattle.formula.specs.Settle.{at_root, value, settling}
use Rattle.sheet.specs.Format.{Bytes}
use Rattle.rows.specs.Formulas.{prefix_in, matrix_in}
use Rattle.rows.specs.declared.Layout.{Layout}
use Rattle.prefixes.specs.Places.{binding_in}
use Rattle.polarity.specs.Table.{entry_of}
use Rattle.polarity.specs.declared.value.Signs.{Signs}

-- the prefix has no number above `most`
pub record NumberedTo (most : ℕ) (s : Layout) (b : Bytes) : Type 0 where
  pub few_numbers : (i : ℕ) → i < s.variables → (binding_in s b i).variable ≤ most

-- none above 1,024, the wider format's most
abbrev pub Numbered : Layout → Bytes → Type 0
Numbered s b = NumberedTo 1024 s b

-- and no number twice
pub record Bound (s : Layout) (b : Bytes) : Type 0 where
  pub is_distinct : distinct (prefix_in s b) ≡ true
  pub numbered : Numbered s b

-- the quantifier, as code has it: whether it is exists
abbrev pub quantifier_at : Bool → Quantifier
quantifier_at e = cond e exists for_all

-- the code's value, as formulas have it
abbrev pub value_of : Option Bool → maybe.Option Bool
value_of (Some c) = some c
value_of None = none

-- the signs of x: in a matrix, and in a table
abbrev pub signs_of : ℕ → Tree → Signs
signs_of x t =
    record {
      positive = has (of_sign true x) t;
      negative = has (of_sign false x) t;
      positive_unit = at_root (of_sign true x) t;
      negative_unit = at_root (of_sign false x) t;
    }

abbrev pub signs_in : List Bool → ℕ → Signs
signs_in signs x =
    record {
      positive = get_or signs (entry_of false true x) false;
      negative = get_or signs (entry_of false false x) false;
      positive_unit = get_or signs (entry_of true true x) false;
      negative_unit = get_or signs (entry_of true false x) false;
    }

-- the value for a quantifier and signs, if there is one
abbrev pub settling_by : Quantifier → Signs → maybe.Option Bool
settling_by q g =
    cond (not (g.positive || g.negative)) (some false)
    (cond (not g.negative || g.positive_unit) (some (value q true))
    (cond (not g.positive || g.negative_unit) (some (value q false)) none))

-- the value for the variable of prefix row i, if it may be settled
abbrev pub settling_in : Layout → Bytes → ℕ → maybe.Option Bool
settling_in s b i = settling (binding_in s b i).quantifier (binding_in s b i).variable (matrix_in s b)
