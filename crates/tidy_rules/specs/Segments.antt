-- Rows while they are tidied. The argument of an operator, and of the first row of a dead segment, is the number of rows that it covers. So
-- the rows are a sequence of segments, from any segment on, and no row has to be moved.
-- Assumes nothing.
use Rattle.std.specs.Prelude.{◌≡◌, Bool, List, [], ◌∷◌, ◌++◌, ℕ, suc, ◌+◌, ◌≤◌, length}
use Rattle.formula.specs.Tree.{Op, lit, node, Forest, ∅, ◌▸◌, count}
use Rattle.sheet.specs.Format.{Row, row}
use Rattle.sheet.specs.Sheet.{literal_kind, operator_kind}

infixr 45 ◌◂◌
infixr 44 ◌⊕◌
mutual
  -- a dead segment, whose first row has the number of rows; a literal; an operator over its children's segments
  pub data Segment : Type 0 where
    gone : List Row → Segment
    literal : Bool → ℕ → Segment
    operator : Op → Segments → Segment

  pub data Segments : Type 0 where
    none : Segments
    ◌◂◌ : Segment → Segments → Segments

-- a segment's first row, and those behind it
unfoldable mutual
  pub head : Segment → Row
  head (gone rs) = row 0 (suc (length rs))
  head (literal s v) = row (literal_kind s) v
  head (operator o ks) = row (operator_kind o) (suc (length (segment_rows ks)))

  pub inner : Segment → List Row
  inner (gone rs) = rs
  inner (literal s v) = []
  inner (operator o ks) = segment_rows ks

  pub segment_rows : Segments → List Row
  segment_rows none = []
  segment_rows (x ◂ bs) = head x ∷ (inner x ++ segment_rows bs)

-- how many rows a segment covers
abbrev pub size : Segment → ℕ
size x = suc (length (inner x))

-- the trees that segments hold
unfoldable mutual
  pub grown : Segment → Forest → Forest
  grown (gone rs) ts = ts
  grown (literal s v) ts = lit s v ▸ ts
  grown (operator o ks) ts = node o (live ks) ▸ ts

  pub live : Segments → Forest
  live none = ∅
  live (x ◂ bs) = grown x (live bs)

unfoldable pub ◌⊕◌ : Segments → Segments → Segments
none ⊕ bs = bs
(x ◂ cs) ⊕ bs = x ◂ (cs ⊕ bs)

-- the rows from one number up to another are these segments
pub record Laid (R : List Row) (from to : ℕ) (before : List Row) (bs : Segments) (after : List Row) : Type 0 where
  pub whole : R ≡ before ++ (segment_rows bs ++ after)
  pub starts : length before ≡ from
  pub ends : from + length (segment_rows bs) ≡ to

-- a segment begins at this row
pub record Stands (R : List Row) (at : ℕ) (before : List Row) (x : Segment) (after : List Row) : Type 0 where
  pub whole : R ≡ before ++ (head x ∷ (inner x ++ after))
  pub starts : length before ≡ at

pub record Standing (R : List Row) (at : ℕ) : Type 0 where
  pub before : List Row
  pub segment : Segment
  pub after : List Row
  pub stands : Stands R at before segment after

-- a walk over these segments has come to a row: those that it has passed, and the rest
pub record Here (R : List Row) (from at to : ℕ) (before : List Row) (done rest : Segments) (after : List Row) : Type 0 where
  pub whole : R ≡ before ++ (segment_rows done ++ (segment_rows rest ++ after))
  pub starts : length before ≡ from
  pub place : from + length (segment_rows done) ≡ at
  pub ends : at + length (segment_rows rest) ≡ to

-- the rows from one number up to another are segments
pub record Region (R : List Row) (from to : ℕ) : Type 0 where
  pub before : List Row
  pub segments : Segments
  pub after : List Row
  pub laid : Laid R from to before segments after

-- 5 or 6
pub record OperatorKind (kind : ℕ) : Type 0 where
  pub op : Op
  pub is : kind ≡ operator_kind op

-- and hold trees enough
pub record Owed (R : List Row) (from to owed : ℕ) : Type 0 where
  pub region : Region R from to
  pub enough : owed ≤ count (live region.segments)
