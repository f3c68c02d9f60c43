-- Sets in words: the variables that have a literal among some rows, marked.
-- Assumes nothing.
use Rattle.std.specs.Prelude.{◌≡◌, Bool, false, ◌&&◌, ◌||◌, List, ℕ, zero, suc, ◌-◌, ◌≤◌, ltb, length}
use Rattle.formula.specs.Tree.{Literals, of, has_any}
use Rattle.formula.specs.Settle.{is_lit}
use Rattle.formula.specs.Expand.{relevant}
use Rattle.formula.specs.Outer.{within}
use Rattle.sheet.specs.Format.{Bytes}
use Rattle.rows.specs.Formulas.{matrix_in}
use Rattle.rows.specs.declared.Layout.{Layout}
use Rattle.sets.specs.Sets.{holds}
use Rattle.subtrees.specs.Subtrees.{kids, subtree_in}
use Rattle.occurrences.specs.Chains.{Chain}
use Rattle.relevance.specs.declared.Range.{Range}
use Rattle.relevance.specs.declared.Site.{Site}

-- the set with the variables added that pass a test
pub record Marked (Q : ℕ → Bool) (old new : List ℕ) : Type 0 where
  pub same_length : length new ≡ length old
  pub is : (v : ℕ) → v ≤ 1024 → holds new v ≡ (holds old v || Q v)

-- one of the n rows from row i on is a literal of v
unfoldable pub literal_in : Layout → Bytes → ℕ → ℕ → ℕ → Bool
literal_in s b v zero i = false
literal_in s b v (suc n) i = is_lit (of v) (subtree_in s b i) || literal_in s b v n (suc i)

abbrev pub MarkedRow : Layout → Bytes → ℕ → List ℕ → List ℕ → Type 0
MarkedRow s b i = Marked (λ v. is_lit (of v) (subtree_in s b i))

abbrev pub MarkedRows : Layout → Bytes → ℕ → ℕ → List ℕ → List ℕ → Type 0
MarkedRows s b from to = Marked (λ v. literal_in s b v (to - from) from)

-- the set with the variables of a child's rows added, if the chain's next literal is before the child's end
abbrev pub MarkedChild : Layout → Bytes → ℕ → ℕ → ℕ → List ℕ → List ℕ → Type 0
MarkedChild s b from to row = Marked (λ v. ltb row to && literal_in s b v (to - from) from)

-- the set with the variables of those children of an operator added that hold a literal of the chain
abbrev pub MarkedChildren : Layout → Bytes → List ℕ → Site → List ℕ → List ℕ → Type 0
MarkedChildren s b next o old new =
    (L : Literals) (last : ℕ) → Chain L s b next o.first last
    → Marked (λ v. has_any (of v) (relevant L (kids (subtree_in s b o.operator)))) old new

-- the set with the variables of the relevant subtree added
abbrev pub MarkedRelevant : Layout → Bytes → List ℕ → Range → List ℕ → List ℕ → Type 0
MarkedRelevant s b next c old new =
    (L : Literals) → Chain L s b next c.first c.last → Marked (λ v. within L (of v) (matrix_in s b)) old new
