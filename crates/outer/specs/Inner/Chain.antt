-- The literals of a set linked from the last row to the first.
-- Assumes nothing.
use Rattle.std.specs.Prelude.{◌≡◌, Bool, true, false, cond, List, ℕ, suc, ◌≤◌, ◌<◌, eqb, length, get_or}
use Rattle.formula.specs.Tree.{Literals, has, has_any}
use Rattle.formula.specs.Settle.{is_lit}
use Rattle.sheet.specs.Format.{Bytes}
use Rattle.rows.specs.Formulas.{matrix_in}
use Rattle.rows.specs.declared.Layout.{Layout}
use Rattle.subtrees.specs.Subtrees.{forest_in, subtree_in}
use Rattle.occurrences.specs.Chains.{first_from, Last, Chain}
use Rattle.relevance.specs.declared.Range.{Range}

-- a range with row i put in front, if the row is a literal of the set; the last row of a range without rows is `none`
unfoldable pub with_row : Bool → ℕ → ℕ → Range → Range
with_row c none i r = cond c (record { first = i; last = cond (eqb r.last none) i r.last }) r

-- the rows from row i on: their first literal and their last one, and the way from each to the next
pub record Linking (L : Literals) (s : Layout) (b : Bytes) (i : ℕ) (next : List ℕ) (r : Range) : Type 0 where
  pub holds : s.nodes ≤ length next
  pub within : r.first ≤ s.nodes
  pub starts : r.first ≡ first_from L s b i
  pub links : (j : ℕ) → i ≤ j → j < s.nodes → is_lit L (subtree_in s b j) ≡ true → get_or next j 0 ≡ first_from L s b (suc j)
  pub some : has_any L (forest_in s b i) ≡ true → Last L s b r.last
  pub none : has_any L (forest_in s b i) ≡ false → r.last ≡ s.nodes

-- all rows: the first literal, or N, and if there is one, the chain
pub record Linked (L : Literals) (s : Layout) (b : Bytes) (next : List ℕ) (r : Range) : Type 0 where
  pub starts : r.first ≡ first_from L s b 0
  pub chain : has L (matrix_in s b) ≡ true → Chain L s b next r.first r.last
