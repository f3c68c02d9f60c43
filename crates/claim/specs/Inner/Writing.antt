-- Rows that Claim writes.
-- Assumes nothing.
use Rattle.std.specs.Prelude.{◌≡◌, cond, List, [], ◌∷◌, ◌++◌, map, ℕ, ◌-◌, ◌≤◌, ◌<◌, eqb}
use Rattle.std.proofs.Math.Seq.{slice}
use Rattle.formula.specs.Tree.{Quantifier, dual, Binding, Formula, rows}
use Rattle.formula.specs.Strategy.{Pairs}
use Rattle.formula.specs.Claim.{all_rows, claim}
use Rattle.sheet.specs.Format.{Bytes, Row, row}
use Rattle.sheet.specs.Sheet.{operator_kind, binding_row, tree_rows}
use Rattle.rows.specs.Layouts.{Fits, total, rows_in, Room}
use Rattle.rows.specs.Formulas.{prefix_in, matrix_in, formula_in, Readable}
use Rattle.rows.specs.declared.Layout.{Layout}
use Rattle.substitution.specs.declared.Span.{Span}
use Rattle.reduce.specs.Inner.Places.{row_of}
use Rattle.pair_tests.specs.Pairs.{side, pairs_in, Paired}
use Rattle.claim.specs.declared.write.Strategy.{Strategy}

-- a readable sheet every argument of which is a number of its format
pub record Source (s : Layout) (b : Bytes) : Type 0 where
  pub readable : Readable s b
  pub arguments_fit : (r : ℕ) → r < total s → Fits s (row_of s b r).argument

-- the prefix with every row of one kind
abbrev pub of_kind : ℕ → Binding → Row
of_kind k z = row k z.variable

-- literals and operators exchanged: 3 and 4, 5 and 6
unfoldable pub negated_kind : ℕ → ℕ
negated_kind k = cond (eqb k 3) 4 (cond (eqb k 4) 3 (cond (eqb k 5) 6 5))

unfoldable pub negated_row : Row → Row
negated_row r = row (negated_kind r.kind) r.argument

-- the two children for a pair of the variable x and the function's rows F, each an operator of the kind k
unfoldable pub differs : ℕ → ℕ → List Row → List Row
differs k x F = (row k 2 ∷ row 3 x ∷ []) ++ (map negated_row F ++ ((row k 2 ∷ row 4 x ∷ []) ++ F))

-- the same where the function's rows are a span of a sheet, and the row in front of them has the variable
abbrev pub differs_in : ℕ → Layout → Bytes → Span → List Row
differs_in k s b span = differs k (row_of s b (span.from - 1)).argument (slice span.from span.to (rows_in s b))

unfoldable pub differ_rows : ℕ → Pairs → List Row
differ_rows k [] = []
differ_rows k (c ∷ g) = differs k c.variable (tree_rows c.function) ++ differ_rows k g

-- the rows in front of the pairs': the prefix, the root and the first matrix
unfoldable pub front_rows : Quantifier → Layout → Bytes → ℕ → List Row
front_rows q s b n = map binding_row (all_rows (dual q) (prefix_in s b)) ++ ((row (operator_kind q) n ∷ []) ++ tree_rows (matrix_in s b))

-- the claim of a strategy's sheet d of the layout r, and its layout
unfoldable pub claimed : Bytes → Layout → Bytes → Strategy → Formula
claimed b s d r = claim (side r.exists) (formula_in s b) (pairs_in r.layout d)

abbrev pub claim_layout : Bytes → Layout → Bytes → Strategy → Layout
claim_layout b s d r = record { format = s.format; variables = s.variables; nodes = rows (claimed b s d r).matrix }

-- two sheets of one format, the second one of pairs, and room for the claim
pub record Claimable (b : Bytes) (s : Layout) (d : Bytes) (r : Strategy) (cuts : List ℕ) (len : ℕ) : Type 0 where
  pub first : Source s b
  pub second : Source r.layout d
  pub paired : Paired r.layout d cuts
  pub same_format : s.format ≡ r.layout.format
  pub room : Room (claim_layout b s d r) len
  pub few_rows : rows (claimed b s d r).matrix ≤ 8192
