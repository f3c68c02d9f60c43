-- The next variable to expand, as code holds it ("Solve").
-- Assumes nothing.
use Rattle.std.specs.Prelude.{◌≡◌, Bool, ◌&&◌, ◌||◌, cond, ℕ, ◌<◌, eqb, ltb, drop}
use Rattle.std.proofs.Math.Option.{Option, some}
use Rattle.formula.specs.Tree.{Formula, of}
use Rattle.formula.specs.Expand.{innermost, raw_rows}
use Rattle.formula.specs.Solve.{those, least, cheaper, cheapest}
use Rattle.sheet.specs.Format.{Bytes}
use Rattle.rows.specs.Formulas.{prefix_in, matrix_in, formula_in}
use Rattle.rows.specs.declared.Layout.{Layout}
use Rattle.prefixes.specs.Places.{place, binding_in}
use Rattle.relevance.specs.Raw.{presence}
use Rattle.relevance.specs.declared.variable.Candidate.{Candidate}

-- the chosen variable, its row, its relevant subtree and its raw rows
pub record ExpandHere (s : Layout) (b : Bytes) (chosen : Option ℕ) (r : Candidate) : Type 0 where
  pub is_cheapest : chosen ≡ some r.variable
  pub inside : r.row < s.variables
  pub at_row : r.row ≡ place r.variable (prefix_in s b)
  pub part_is : r.relevant ≡ presence (of r.variable) (matrix_in s b)
  pub raw_is : r.raw ≡ raw_rows (of r.variable) (matrix_in s b)

abbrev pub ToExpand : Layout → Bytes → Candidate → Type 0
ToExpand s b r = ExpandHere s b (cheapest (formula_in s b)) r

-- the innermost-block variable with the fewest raw rows, of those from prefix row i on
unfoldable pub cheapest_from : ℕ → Formula → Option ℕ
cheapest_from i f = least (cheaper f) (those (λ x. innermost x f) (drop i f.prefix))

-- the variable of prefix row i with its relevant subtree and its raw rows
abbrev pub priced_in : Layout → Bytes → ℕ → Candidate
priced_in s b i =
    let x = (binding_in s b i).variable in
    record { row = i; variable = x; relevant = presence (of x) (matrix_in s b); raw = raw_rows (of x) (matrix_in s b) }

-- the first has fewer raw rows, or as many and the lower number
abbrev pub beats : Candidate → Candidate → Bool
beats r q = ltb r.raw q.raw || (eqb r.raw q.raw && ltb r.variable q.variable)

abbrev pub cheaper_of : Candidate → Candidate → Candidate
cheaper_of r q = cond (beats r q) r q
