-- A segment's own row, as a sheet has it, and the segments that come next when it is entered.
-- Assumes nothing.
use Rattle.std.specs.Prelude.{◌≡◌, Bool, ◌&&◌, List, [], ◌∷◌, ℕ, eqb}
use Rattle.formula.specs.Tree.{Tree, ∅, ◌▸◌, count}
use Rattle.formula.specs.Tidy.{same_tree}
use Rattle.sheet.specs.Format.{Row, row}
use Rattle.sheet.specs.Sheet.{literal_kind, operator_kind}
use Rattle.tidy_rules.specs.Segments.{Segment, gone, literal, operator, Segments, none, ◌◂◌, ◌⊕◌, head, live, Stands}

unfoldable pub packed : Segment → List Row
packed (gone rs) = []
packed (literal s v) = row (literal_kind s) v ∷ []
packed (operator o ks) = row (operator_kind o) (count (live ks)) ∷ []

unfoldable pub entered : Segment → Segments → Segments
entered (gone rs) bs = bs
entered (literal s v) bs = bs
entered (operator o ks) bs = ks ⊕ bs

-- the argument of a segment's row in a sheet: an operator's is the number of its children
unfoldable pub ArgumentOf : Segment → ℕ → Type 0
ArgumentOf (gone rs) a = Unit {0}
ArgumentOf (literal s v) a = a ≡ v
ArgumentOf (operator o ks) a = a ≡ count (live ks)

abbrev pub ArgumentAt : List Row → ℕ → ℕ → Type 0
ArgumentAt R r a = (before : List Row) (x : Segment) (after : List Row) → Stands R r before x after → ArgumentOf x a

-- a live segment at a row, and its tree
pub record LiveAt (R : List Row) (at : ℕ) : Type 0 where
  pub before : List Row
  pub segment : Segment
  pub after : List Row
  pub stands : Stands R at before segment after
  pub tree : Tree
  pub holds : live (segment ◂ none) ≡ tree ▸ ∅

-- two segments hold the same tree
abbrev pub Same : List Row → ℕ → ℕ → Bool → Type 0
Same R p q d =
    (front : List Row) (x : Segment) (back : List Row) → Stands R p front x back → (t : Tree) → live (x ◂ none) ≡ t ▸ ∅
    → (front' : List Row) (y : Segment) (back' : List Row) → Stands R q front' y back' → (u : Tree) → live (y ◂ none) ≡ u ▸ ∅
    → d ≡ same_tree t u

-- their own rows are the same
abbrev pub same_row : Row → Row → Bool
same_row r q = eqb r.kind q.kind && eqb r.argument q.argument

abbrev pub SameRow : List Row → ℕ → ℕ → Bool → Type 0
SameRow R p q d =
    (front : List Row) (x : Segment) (back : List Row) → Stands R p front x back → ((head x).kind ≡ 0 → ⊥)
    → (front' : List Row) (y : Segment) (back' : List Row) → Stands R q front' y back' → ((head y).kind ≡ 0 → ⊥)
    → (a c : ℕ) → ArgumentOf x a → ArgumentOf y c → d ≡ same_row (row (head x).kind a) (row (head y).kind c)
