-- The rows of a clause whose literals are blanked.
-- Assumes nothing.
use mathlib.Core.Path.{◌≡◌, refl, sym, ap, ◌∙◌}
use mathlib.Core.Bool.{Bool, true, false, not, cond, false≢true, true≢false}
use mathlib.Core.List.{List, [], ◌∷◌, ◌++◌, append-nil, map}
use Prim.Native.Nat.{ℕ, zero, suc, max, ◌+◌, ◌<◌}
use native.Mathlib.Omega.{arith}
use lib.Dec.{leb}
use lib.ListN.{length, get_or, length-map}
use borrow.Author.Tests.{not-false}
use Rattle.formula.specs.Tree.{and, or, Tree, lit, node, Forest, ∅, ◌▸◌, Prefix, binds, distinct, has, has_any, count, some_child}
use Rattle.formula.specs.Reduce.{is_literal, is_clause, stays}
use Rattle.formula.proofs.Booleans.{or_parts}
use Rattle.formula.proofs.Closed.{unbound}
use Rattle.formula.proofs.Reduce.{members, members-literals, occurs-members}
use Rattle.formula.specs.Inner.Clauses.{blank, blank_forest, blank_clause, blank_all}
use Rattle.sheet.specs.Format.{Row, row, children}
use Rattle.sheet.specs.Sheet.{literal_kind, operator_kind, tree_rows, forest_rows}
use Rattle.subtrees.specs.Subtrees.{top}
use Rattle.reduce.specs.Inner.Places.{behind}
use Rattle.reduce.specs.Inner.Clauses.{last_existential, goes_row, blank_row, blank_rows}
use Rattle.reduce.proofs.Goes.{last, goes-place}

-- no member of the list is an operator
abbrev pub literals : Forest → Bool
literals ts = some_child (λ t. not (is_literal t)) ts

last-rows : (p : Prefix) (ts : Forest) → literals ts ≡ false → last_existential p (forest_rows ts) ≡ last p ts
unfolding last_existential last forest_rows some_child is_literal
last-rows p ∅ l = refl
last-rows p (lit s v ▸ ts) l = ap (max (behind p v)) (last-rows p ts l)
last-rows p (node o us ▸ ts) l = absurd (true≢false l)

pub length-literals : (ts : Forest) → literals ts ≡ false → length (forest_rows ts) ≡ count ts
unfolding forest_rows some_child is_literal count
length-literals ∅ l = refl
length-literals (lit s v ▸ ts) l = ap suc (length-literals ts l)
length-literals (node o us ▸ ts) l = absurd (true≢false l)

-- every literal's row has a bound variable
pub bound-rows : (p : Prefix) (ts : Forest) → literals ts ≡ false → has_any (unbound p) ts ≡ false → (i : ℕ) → i < length (forest_rows ts)
    → binds p (get_or (forest_rows ts) i (row 0 0)).argument ≡ true
unfolding forest_rows some_child is_literal has
bound-rows p ∅ l h i k = absurd (omega arith)
bound-rows p (lit s v ▸ ts) l h zero k = not-false (binds p v) (or_parts (not (binds p v)) (has_any (unbound p) ts) h).0
bound-rows p (lit s v ▸ ts) l h (suc i) k =
    bound-rows p ts l (or_parts (not (binds p v)) (has_any (unbound p) ts) h).1 i (omega arith)
bound-rows p (node o us ▸ ts) l h i k = absurd (true≢false l)

-- the row of an operator before the literals
abbrev pub head : Tree → List Row
head (lit s v) = []
head (node o ts) = top (node o ts) ∷ []

pub clause_rows : (c : Tree) → tree_rows c ≡ head c ++ forest_rows (members c)
unfolding tree_rows members
clause_rows (lit s v) = refl
clause_rows (node o ts) = refl

pub head-length : (c : Tree) → length (head c) ≡ cond (leb (top c).kind 4) 0 1
head-length (lit true v) = refl
head-length (lit false v) = refl
head-length (node and ts) = refl
head-length (node or ts) = refl

-- a clause ends behind its children
pub clause_length : (c : Tree) → is_clause c ≡ true → length (head c) + length (forest_rows (members c)) ≡ suc (children (top c))
unfolding children forest_rows is_clause members
clause_length (lit true v) h = omega arith
clause_length (lit false v) h = omega arith
clause_length (node and ts) h = absurd (false≢true h)
clause_length (node or ts) h = omega (arith, length-literals ts (members-literals (node or ts) h))

count-blank : (p : Prefix) (c : Tree) (ts : Forest) → count (blank_forest p c ts) ≡ count ts
unfolding count blank_forest
count-blank p c ∅ = refl
count-blank p c (t ▸ ts) = ap suc (count-blank p c ts)

pub count-blank_all : (p : Prefix) (ts : Forest) → count (blank_all p ts) ≡ count ts
unfolding count blank_all
count-blank_all p ∅ = refl
count-blank_all p (t ▸ ts) = ap suc (count-blank_all p ts)

blank_shape : (p : Prefix) (c : Tree) → tree_rows (blank_clause p c) ≡ head c ++ forest_rows (blank_forest p c (members c))
unfolding blank_clause blank_forest tree_rows members
blank_shape p (lit s v) = sym (append-nil (tree_rows (blank p (lit s v) (lit s v))))
blank_shape p (node o ts) =
    ap (λ (n : ℕ). row (operator_kind o) n ∷ forest_rows (blank_forest p (node o ts) ts)) (count-blank p (node o ts) ts)

module _ (p : Prefix) (d : distinct p ≡ true) (c : Tree) (is : is_clause c ≡ true) (bound : has_any (unbound p) (members c) ≡ false) where
  map-blank : (ts : Forest) → literals ts ≡ false → has_any (unbound p) ts ≡ false
      → forest_rows (blank_forest p c ts) ≡ map (blank_row p (last p (members c))) (forest_rows ts)
  unfolding forest_rows blank_forest some_child is_literal has blank stays blank_row goes_row count
  map-blank ∅ l h = refl
  map-blank (node o us ▸ ts) l h = absurd (true≢false l)
  map-blank (lit s v ▸ ts) l h =
      let parts = or_parts (not (binds p v)) (has_any (unbound p) ts) h in
      let told = goes-place p d c (members c) (occurs-members c) (members-literals c is) v (not-false (binds p v) parts.0) in
      ap (λ (m : Bool). tree_rows (cond (not m) (lit s v) (node or ∅)) ++ forest_rows (blank_forest p c ts)) told ∙
      by (goes_row p (last p (members c)) (row (literal_kind s) v)) ∙
      ap (λ (rs : List Row). blank_row p (last p (members c)) (row (literal_kind s) v) ∷ rs) (map-blank ts l parts.1)
    where
      rest : List Row
      rest = forest_rows (blank_forest p c ts)

      by : (m : Bool) → tree_rows (cond (not m) (lit s v) (node or ∅)) ++ rest ≡ cond m (row 6 0) (row (literal_kind s) v) ∷ rest
      by true = refl
      by false = refl

  blanked-members : forest_rows (blank_forest p c (members c)) ≡ blank_rows p (forest_rows (members c))
  unfolding blank_rows
  blanked-members =
      map-blank (members c) (members-literals c is) bound ∙
      ap (λ (n : ℕ). map (blank_row p n) (forest_rows (members c))) (sym (last-rows p (members c) (members-literals c is)))

  pub blanked-rows : tree_rows (blank_clause p c) ≡ head c ++ blank_rows p (forest_rows (members c))
  blanked-rows = blank_shape p c ∙ ap (λ (rs : List Row). head c ++ rs) blanked-members

  pub length-blanked : length (blank_rows p (forest_rows (members c))) ≡ length (forest_rows (members c))
  unfolding blank_rows
  length-blanked = length-map (forest_rows (members c)) (blank_row p (last_existential p (forest_rows (members c))))
