-- Rules 2 to 5 at an operator's children ("Tidy sheets"), one child after another.
-- Assumes nothing.
use Rattle.std.specs.Prelude.{◌≡◌, Bool, true, false, not, ◌&&◌, ◌||◌, List, [], ◌∷◌, ◌++◌, ◌⊎◌, ℕ, ◌+◌, ◌≤◌, ◌<◌, eqb, leb, length, get_or, set, take, Option, Some, None}
use Rattle.formula.specs.Tree.{Op, dual, Tree, node, Forest, some_child, some_two, keep}
use Rattle.formula.specs.Tidy.{is_empty, opposite, same_tree}
use Rattle.sheet.specs.Format.{Bytes, Row}
use Rattle.sheet.specs.Sheet.{operator_kind}
use Rattle.rows.specs.Layouts.{Fits, total, rows_in, Room}
use Rattle.rows.specs.declared.Layout.{Layout}
use Rattle.buckets.specs.Chains.{last, Linked, Passed}
use Rattle.buckets.specs.Chains as chains
use Rattle.buckets.specs.Halves.{member_of, row_of, hash_of}
use Rattle.buckets.specs.Hashes.{literal_mix, sign, mix, hash}
use Rattle.tidy_rules.specs.declared.rules.Child.{Child}
use Rattle.tidy_rules.specs.Segments.{Segment, gone, literal, operator, Segments, none, ◌◂◌, head, inner, size, live, Laid, Stands, Standing}
use Rattle.tidy_rules.specs.Walks.{at_row}
use Rattle.tidy_rules.specs.Entered.{LiveAt, Same}
use Rattle.tidy_rules.specs.Known.{Says, Told}

-- rules 2 and 3: a child decides the node, where those before it don't
unfoldable pub decisive : Op → Forest → Tree → Bool
decisive o ts u = is_empty (dual o) u || some_child (λ t. opposite t u) ts

abbrev pub Decides : List Row → ℕ → ℕ → ℕ → Bool → Type 0
Decides R at kind known decided =
    (us : Forest) (front : List Row) (x : Segment) (back : List Row) → Stands R at front x back → Says known x → (o : Op) → kind ≡ operator_kind o
    → decided ≡ some_child (decisive o us) (live (x ◂ none))

-- rules 4 and 5: a child is equal to one of those before it
unfoldable pub repeated : Forest → Tree → Bool
repeated ts u = some_child (λ t. same_tree t u) ts

abbrev pub new : Forest → Forest → Forest
new ts us = keep (λ u. not (repeated ts u)) us

-- rule 3: no two trees are opposite literals
abbrev pub Unopposed : Forest → Type 0
Unopposed ts = some_two opposite ts ≡ false

-- Members: the live segments from a row on, each by its row and its hash.
unfoldable pub note : ℕ → Segment → List ℕ
note r (gone rs) = []
note r (literal s v) = member_of r (literal_mix (sign s) v) ∷ []
note r (operator o ks) = member_of r (hash (node o (live ks))) ∷ []

unfoldable pub notes : ℕ → Segments → List ℕ
notes r none = []
notes r (x ◂ bs) = note r x ++ notes (r + size x) bs

-- the first n members of a table are those of the segments from a row on
pub record Noted (M : List ℕ) (n from : ℕ) (bs : Segments) : Type 0 where
  pub fit : n ≤ length M
  pub are : take n M ≡ notes from bs

-- the hashes of members mixed into a number one by one
unfoldable pub mixes : ℕ → List ℕ → ℕ
mixes h [] = h
mixes h (m ∷ ms) = mixes (mix h (hash_of m)) ms

-- tables for as many members as there are rows
abbrev pub Tables : Layout → List ℕ → List ℕ → List ℕ → Type 0
Tables s H L M = chains.Room H L M (total s)

-- a literal of this variable
abbrev pub literal_test : Row → ℕ → Bool
literal_test r x = leb r.kind 4 && eqb r.argument x

-- a chain of members that stand in rows, from its first on
pub record Chain (rows : ℕ) (L M : List ℕ) (start : Option ℕ) : Type 0 where
  pub heads : List ℕ
  pub count : ℕ
  pub bucket_of : ℕ
  pub linked : Linked heads L M count
  pub starts : start ≡ last M bucket_of count
  pub links_fit : count ≤ length L
  pub members_fit : count ≤ length M
  pub places : (j : ℕ) → j < count → row_of (get_or M j 0) < rows

-- what a search along it finds: a member that it looks for, or that no member passes the test
pub record Found (n : ℕ) (Sought : ℕ → Type 0) (i : ℕ) : Type 0 where
  pub within : i < n
  pub passes : Sought i

abbrev pub Tells : List ℕ → ℕ → ℕ → (ℕ → Type 0) → (ℕ → Type 0) → Option ℕ → Type 0
Tells M n k Test Sought None = Passed M n k Test None
Tells M n k Test Sought (Some i) = Found n Sought i

pub record Seeks (L M : List ℕ) (start : Option ℕ) (Test Sought : ℕ → Type 0) (l : Option ℕ) : Type 0 where
  pub tells : (H : List ℕ) (n k : ℕ) → Linked H L M n → start ≡ last M k n → Tells M n k Test Sought l

-- a literal of this variable
abbrev pub Test : List Row → List ℕ → ℕ → ℕ → Type 0
Test R M x j = literal_test (at_row R (row_of (get_or M j 0))) x ≡ true

abbrev pub Finds : List Row → List ℕ → List ℕ → Option ℕ → ℕ → Option ℕ → Type 0
Finds R L M start x l = Seeks L M start (Test R M x) (Test R M x) l

-- a live segment's row and the hash of its tree
pub record Member (R : List Row) (m : ℕ) : Type 0 where
  pub lives : LiveAt R (row_of m)
  pub hashed : hash_of m ≡ hash lives.tree

-- the same tree as this
pub record Duplicate (R : List Row) (m : ℕ) (u : Tree) : Type 0 where
  pub member : Member R m
  pub same : same_tree member.lives.tree u ≡ true

abbrev pub Duplicates : List Row → ℕ → ℕ → Bool → Type 0
Duplicates R t m same =
    ((same ≡ true) × Same R (row_of t) (row_of m) true) ⊎ ((same ≡ false) × ((w : Member R m) → Duplicate R t w.lives.tree → ⊥))

abbrev pub FindsDuplicate : List Row → List ℕ → List ℕ → Option ℕ → ℕ → Option ℕ → Type 0
FindsDuplicate R L M start m l =
    (w : Member R m) → Seeks L M start (λ j. Duplicate R (get_or M j 0) w.lives.tree) (λ j. Same R (row_of (get_or M j 0)) (row_of m) true) l

-- members that are live segments
pub record LiveChain (R : List Row) (rows : ℕ) (L M : List ℕ) (start : Option ℕ) : Type 0 where
  pub chain : Chain rows L M start
  pub lives : (j : ℕ) → j < chain.count → LiveAt R (row_of (get_or M j 0))

-- a segment at a row, with its number in the table, behind other segments, which are the members
pub record Behind (R : List Row) (at known : ℕ) (H L M : List ℕ) (n : ℕ) : Type 0 where
  pub standing : Standing R at
  pub says : Says known standing.segment
  pub from : ℕ
  pub before : List Row
  pub done : Segments
  pub after : List Row
  pub laid : Laid R from at before done after
  pub noted : Noted M n from done
  pub few : n ≤ at
  pub linked : Linked H L M n

-- A child that can be judged: the rows have their place, an argument can hold their number, and the child is behind members, for which
-- there are tables.
pub record ToJudge (s : Layout) (b : Bytes) (c : Child) (H L M : List ℕ) : Type 0 where
  pub room : Room s (length b)
  pub counted : Fits s (total s)
  pub tables : Tables s H L M
  pub behind : Behind (rows_in s b) c.at c.known H L M c.before

-- a literal's row
pub record LiteralRow (R : List Row) (at kind : ℕ) : Type 0 where
  pub is : kind ≡ (at_row R at).kind
  pub above : 2 < kind
  pub below : kind ≤ 4

-- the segment at a row has become another that covers the same rows and has the same numbers in the table
pub record Kept (R R' : List Row) (at : ℕ) (x : Segment) : Type 0 where
  pub segment : Segment
  pub stored : R' ≡ set R at (head segment)
  pub same_rows : inner segment ≡ inner x
  pub tells : (K : List ℕ) → Told K at x → Told K at segment

-- whether the node is decided: the rules make of a child none if it decides the node, else the number of members now
abbrev pub is_decided : Option ℕ → Bool
is_decided None = true
is_decided (Some n) = false

-- rules 2 to 5 at a segment behind others: whether it decides the node; if it doesn't, what it has become, and the members now
pub record Judged (R R' : List Row) (M' : List ℕ) (from at : ℕ) (done : Segments) (x : Segment) (o : Op) (j : Option ℕ) : Type 0 where
  pub decided_is : is_decided j ≡ some_child (decisive o (live done)) (live (x ◂ none))
  pub kept : Kept R R' at x
  pub holds : (n : ℕ) → j ≡ Some n → live (kept.segment ◂ none) ≡ new (live done) (live (x ◂ none))
  pub noted : (n : ℕ) → j ≡ Some n → take n M' ≡ notes from done ++ note at kept.segment

abbrev pub JudgesFor : List Row → List Row → ℕ → ℕ → ℕ → List ℕ → List ℕ → Option ℕ → Op → Type 0
JudgesFor R R' at known n M M' j o =
    (from : ℕ) (before : List Row) (done : Segments) (after : List Row) → Laid R from at before done after → Noted M n from done
    → Unopposed (live done) → (front : List Row) (x : Segment) (back : List Row) → Stands R at front x back → Says known x
    → Judged R R' M' from at done x o j

abbrev pub JudgesAs : List Row → List Row → ℕ → ℕ → ℕ → List ℕ → List ℕ → Option ℕ → Type 0
JudgesAs R R' at known n M M' j = (o : Op) → JudgesFor R R' at known n M M' j o

abbrev pub Judges : List Row → List Row → ℕ → ℕ → ℕ → ℕ → List ℕ → List ℕ → Option ℕ → Type 0
Judges R R' at kind known n M M' j = (o : Op) → kind ≡ operator_kind o → JudgesFor R R' at known n M M' j o

-- the tables link the members that there are now, at most one more than before
pub record LinkedNow (H L M : List ℕ) (before : ℕ) (j : Option ℕ) : Type 0 where
  pub linked : (n : ℕ) → j ≡ Some n → Linked H L M n
  pub few : (n : ℕ) → j ≡ Some n → n ≤ before + 1
