-- Rules 1 to 5 at an operator's children ("Tidy sheets"): how many there are is known, where they end is not.
-- Assumes nothing.
use Rattle.std.specs.Prelude.{◌≡◌, true, false, List, ◌⊎◌, ℕ, ◌+◌, ◌-◌, ◌≤◌, ◌<◌, length, set, take, Option, Some, None}
use Rattle.formula.specs.Tree.{Op, same_op, lit, node, Forest, ∅, ◌▸◌, some_child, count}
use Rattle.formula.specs.Tidy.{is_op, same_tree, splice, decides, firsts}
use Rattle.sheet.specs.Format.{Bytes, Row, row}
use Rattle.sheet.specs.Sheet.{operator_kind, front, behind}
use Rattle.rows.specs.Layouts.{Fits, total, rows_in, Room}
use Rattle.buckets.specs.Halves.{children_of}
use Rattle.tidy_rules.specs.declared.rules.Children.{Children}
use Rattle.tidy_rules.specs.declared.rules.RulesOutcome.{RulesOutcome}
use Rattle.tidy_rules.specs.declared.rules.RulesOutcome.TheVariants.{Decided, Left}
use Rattle.tidy_rules.specs.Segments.{Segments, ◌⊕◌, live, Laid, Here}
use Rattle.tidy_rules.specs.Walks.{at_row}
use Rattle.tidy_rules.specs.Known.{AllTold}
use Rattle.tidy_rules.specs.Rules.{notes, mixes, Tables, is_decided}

-- an outcome: the row behind the children, and whether they decide the operator
abbrev pub end_of : RulesOutcome → ℕ
end_of (Decided end) = end
end_of (Left end n hash) = end

abbrev pub judgement_of : RulesOutcome → Option ℕ
judgement_of (Decided end) = None
judgement_of (Left end n hash) = Some n

-- a child of this kind has no child of this kind, as it is tidied
unfoldable pub Flat : Op → Forest → Type 0
Flat o ∅ = Unit {0}
Flat o (lit s v ▸ ts) = Flat o ts
Flat o (node k us ▸ ts) = (same_op o k ≡ true → some_child (is_op o) us ≡ false) × Flat o ts

-- Rule 1 at the row of a child, the first of `owed` trees, and how many trees are then owed behind it: a dead segment is none of them, and
-- a child of the parent's own kind is replaced by its children.
abbrev pub SplicesAt : List Row → List Row → ℕ → ℕ → ℕ → ℕ → ℕ → Type 0
SplicesAt R R' at kind known owed left =
    (((at_row R at).kind ≡ 0) × (R' ≡ R) × (left ≡ owed)) ⊎
    ((((at_row R at).kind ≡ 0 → ⊥) × ((at_row R at).kind ≡ kind → ⊥) × (R' ≡ R) × (left ≡ owed - 1)) ⊎
    (((at_row R at).kind ≡ kind) × (R' ≡ set R at (row 0 1)) × (left ≡ owed - 1 + children_of known)))

-- rows that hold enough trees, and a table with an entry for each operator in them
pub record ChildrenAt (R : List Row) (K : List ℕ) (from to owed kind : ℕ) : Type 0 where
  pub before : List Row
  pub segments : Segments
  pub after : List Row
  pub laid : Laid R from to before segments after
  pub told : AllTold K from segments
  pub enough : owed ≤ count (live segments)
  pub op : Op
  pub is : kind ≡ operator_kind op
  pub flat : Flat op (front owed (live segments))

-- Children that can be gathered: the rows have their place, an argument can hold their number, and there are tables for members and one
-- with an entry for each row.
pub record ToGather (w : Children) (b : Bytes) (H L M K : List ℕ) : Type 0 where
  pub room : Room w.sheet (length b)
  pub counted : Fits w.sheet (total w.sheet)
  pub tables : Tables w.sheet H L M
  pub known_fit : total w.sheet ≤ length K
  pub there : ChildrenAt (rows_in w.sheet b) K w.from (total w.sheet) w.owed w.kind

-- The first trees, ts, have become what the rules leave of them, up to row `end`, and the others, us, are as they were. Either ts decide
-- the operator, or those left are the members.
pub record Gathered (R : List Row) (K M : List ℕ) (from end to : ℕ) (before after : List Row) (o : Op) (ts us : Forest) (j : Option ℕ) : Type 0 where
  pub first : Segments
  pub others : Segments
  pub here : Here R from end to before first others after
  pub others_are : live others ≡ us
  pub told : AllTold K from (first ⊕ others)
  pub decided_is : is_decided j ≡ decides o (splice o ts)
  pub reads : (n : ℕ) → j ≡ Some n → live first ≡ firsts same_tree (splice o ts)
  pub noted : (n : ℕ) → j ≡ Some n → take n M ≡ notes from first

abbrev pub Gathers : List Row → List Row → List ℕ → List ℕ → ℕ → ℕ → ℕ → ℕ → ℕ → Option ℕ → Type 0
Gathers R R' K M from end to owed kind j =
    (before : List Row) (bs : Segments) (after : List Row) → Laid R from to before bs after → AllTold K from bs → owed ≤ count (live bs)
    → (o : Op) → kind ≡ operator_kind o → Flat o (front owed (live bs))
    → Gathered R' K M from end to before after o (front owed (live bs)) (behind owed (live bs)) j

-- the same in the bytes of a sheet
abbrev pub GathersIn : Children → Bytes → Bytes → List ℕ → List ℕ → RulesOutcome → Type 0
GathersIn w b b' K M r =
    Gathers (rows_in w.sheet b) (rows_in w.sheet b') K M w.from (end_of r) (total w.sheet) w.owed w.kind (judgement_of r)

-- no more members are left than there are rows, and the operator's hash is mixed from theirs
pub record LeavesIn (w : Children) (M : List ℕ) (r : RulesOutcome) : Type 0 where
  pub few : (end n hash : ℕ) → r ≡ Left end n hash → n ≤ total w.sheet
  pub hashed : (end n hash : ℕ) → r ≡ Left end n hash → (hash ≡ mixes w.kind (take n M)) × (hash < 65536)
