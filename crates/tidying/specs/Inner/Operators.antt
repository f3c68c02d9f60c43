-- Tidying at an operator's row, and at all rows from the last to the first.
-- Assumes nothing.
use Rattle.std.specs.Prelude.{◌≡◌, List, [], ◌∷◌, ◌++◌, ℕ, ◌+◌, ◌≤◌, ◌<◌, length, get_or, take, drop}
use Rattle.formula.specs.Tree.{Op, node, Forest, ∅, ◌▸◌, count}
use Rattle.formula.specs.Tidy.{unwrap, tidy_all}
use Rattle.sheet.specs.Format.{Bytes, Row, children}
use Rattle.sheet.specs.Sheet.{operator_kind, grow, trees}
use Rattle.rows.specs.Layouts.{total, rows_in}
use Rattle.tidy_rules.specs.Segments.{Segments, segment_rows, live, Laid}
use Rattle.tidy_rules.specs.Rules.{notes, mixes}
use Rattle.tidy_rules.specs.Known.{AllTold}
use Rattle.tidying.specs.declared.operator.Node.{Node}
use Rattle.tidying.specs.Inner.Tables.{InPlace}

-- a row, and behind it segments
pub record Headed (R : List Row) (r to : ℕ) (before : List Row) (x : Row) (bs : Segments) (after : List Row) : Type 0 where
  pub whole : R ≡ before ++ (x ∷ (segment_rows bs ++ after))
  pub starts : length before ≡ r
  pub ends : r + 1 + length (segment_rows bs) ≡ to

-- the rows from one number up to another have become segments that hold these trees, and the table has their operators' numbers
pub record Replaced (R : List Row) (K : List ℕ) (from to : ℕ) (before after : List Row) (ts : Forest) : Type 0 where
  pub segments : Segments
  pub laid : Laid R from to before segments after
  pub told : AllTold K from segments
  pub reads : live segments ≡ ts

-- the table's entries behind a row are as they were
abbrev pub KeptBehind : List ℕ → List ℕ → ℕ → Type 0
KeptBehind K K' r = (j : ℕ) → r < j → get_or K' j 0 ≡ get_or K j 0

-- rules 2 and 3: an operator's row and its children have become the empty operator
abbrev pub Hollows : List Row → List Row → List ℕ → ℕ → ℕ → ℕ → Type 0
Hollows R R' K' r end kind =
    (before : List Row) (x : Row) (bs : Segments) (after : List Row) → Headed R r end before x bs after
    → (o : Op) → kind ≡ operator_kind o → Replaced R' K' r end before after (node o ∅ ▸ ∅)

-- an operator's row, and behind it what the other rules have left of its children, which are so many members
pub record Left (R : List Row) (K M : List ℕ) (r end left : ℕ) (before : List Row) (x : Row) (bs : Segments) (after : List Row) : Type 0 where
  pub headed : Headed R r end before x bs after
  pub told : AllTold K (r + 1) bs
  pub noted : take left M ≡ notes (r + 1) bs

pub record LeftAt (R : List Row) (K M : List ℕ) (r end kind left : ℕ) : Type 0 where
  pub before : List Row
  pub first : Row
  pub segments : Segments
  pub after : List Row
  pub is_left : Left R K M r end left before first segments after
  pub op : Op
  pub is : kind ≡ operator_kind op
  pub members_fit : left ≤ length M
  pub countable : left < 65536

-- an operator that can be concluded: what is left of its children stands behind it, and its hash is mixed from theirs
pub record ToConclude (n : Node) (b : Bytes) (K M : List ℕ) : Type 0 where
  pub in_place : InPlace n.sheet b K
  pub within : n.end ≤ total n.sheet
  pub there : LeftAt (rows_in n.sheet b) K M n.row n.end n.kind n.left
  pub hashed : n.hash ≡ mixes n.kind (take n.left M)
  pub hash_few : n.hash < 65536

-- rule 6: a lone child replaces the node
abbrev pub Concludes : List Row → List Row → List ℕ → List ℕ → List ℕ → ℕ → ℕ → ℕ → ℕ → Type 0
Concludes R R' K K' M r end kind left =
    (before : List Row) (x : Row) (bs : Segments) (after : List Row) → Left R K M r end left before x bs after
    → (o : Op) → kind ≡ operator_kind o → Replaced R' K' r end before after (unwrap o (live bs) ▸ ∅)

-- the same in the bytes of a sheet
abbrev pub ConcludesIn : Node → Bytes → Bytes → List ℕ → List ℕ → List ℕ → Type 0
ConcludesIn n b b' K K' M = Concludes (rows_in n.sheet b) (rows_in n.sheet b') K K' M n.row n.end n.kind n.left

-- a node row, and behind it segments that hold tidied trees, of which there are at least as many as it has children
pub record OperatorReady (R : List Row) (K : List ℕ) (r n : ℕ) (before : List Row) (x : Row) (bs : Segments) (ts : Forest) : Type 0 where
  pub headed : Headed R r n before x bs []
  pub told : AllTold K (r + 1) bs
  pub reads : live bs ≡ tidy_all ts
  pub node : (3 ≤ x.kind) × (x.kind ≤ 6)
  pub enough : children x ≤ count ts

pub record ReadyAt (R : List Row) (K : List ℕ) (r n : ℕ) : Type 0 where
  pub before : List Row
  pub first : Row
  pub segments : Segments
  pub trees : Forest
  pub ready : OperatorReady R K r n before first segments trees

-- all six rules at a row: the node is tidied
abbrev pub Combines : List Row → List Row → List ℕ → List ℕ → ℕ → ℕ → Type 0
Combines R R' K K' r n =
    (before : List Row) (x : Row) (bs : Segments) (ts : Forest) → OperatorReady R K r n before x bs ts → Replaced R' K' r n before [] (tidy_all (grow x ts))

-- rows that are nodes, each with as many trees behind it as it has children
unfoldable pub Preorder : List Row → Type 0
Preorder [] = Unit {0}
Preorder (r ∷ rs) = ((3 ≤ r.kind) × (r.kind ≤ 6)) × (children r ≤ count (trees rs)) × Preorder rs

-- the trees from a row on are tidied
abbrev pub Tidies : List Row → List Row → List ℕ → ℕ → ℕ → Type 0
Tidies R R' K' r n = Replaced R' K' r n (take r R) [] (tidy_all (trees (drop r R)))
