-- Clauses by the rows of their literals, and what becomes of them (N8).
-- Assumes nothing.
use Rattle.std.specs.Prelude.{◌≡◌, Bool, true, false, not, ◌&&◌, ◌||◌, cond, List, [], ◌∷◌, ◌++◌, map, ℕ, suc, max, ◌≤◌, ◌<◌, eqb, ltb, length, take, drop}
use Rattle.std.proofs.Math.Seq.{slice}
use Rattle.formula.specs.Tree.{same_op, for_all, Prefix, Formula, distinct, closed, quantifier_of}
use Rattle.formula.specs.Reduce.{in_profile}
use Rattle.formula.specs.Inner.Clauses.{blank_tree}
use Rattle.sheet.specs.Format.{Bytes, Row, row}
use Rattle.rows.specs.Layouts.{total, rows_in, Room}
use Rattle.rows.specs.Formulas.{prefix_in, formula_in}
use Rattle.rows.specs.declared.Layout.{Layout}
use Rattle.prefixes.specs.Places.{place}
use Rattle.reduce.specs.Inner.Places.{behind, Placed, Bound}

-- some row is AND
unfoldable pub some_and_row : List Row → Bool
some_and_row [] = false
some_and_row (r ∷ rs) = eqb r.kind 5 || some_and_row rs

-- the row behind that of the last existential literal of a clause
unfoldable pub last_existential : Prefix → List Row → ℕ
last_existential p [] = 0
last_existential p (r ∷ rs) = max (behind p r.argument) (last_existential p rs)

-- a literal goes: its variable is universal, and no existential literal of the clause is after it in the prefix
unfoldable pub goes_row : Prefix → ℕ → Row → Bool
goes_row p last r = same_op for_all (quantifier_of p r.argument) && not (ltb (suc (place r.argument p)) last)

-- then it becomes OR of nothing
unfoldable pub blank_row : Prefix → ℕ → Row → Row
blank_row p last r = cond (goes_row p last r) (row 6 0) r

unfoldable pub blank_rows : Prefix → List Row → List Row
blank_rows p rs = map (blank_row p (last_existential p rs)) rs

-- the rows `from` to `to` are literals of bound variables
pub record Literals (s : Layout) (b : Bytes) (from to : ℕ) : Type 0 where
  pub ordered : from ≤ to
  pub inside : to ≤ total s
  pub are_bound : (r : ℕ) → from ≤ r → r < to → Bound s b r

-- the rows have their place in an output, and from row r on it has those of the sheet
pub record Copy (s : Layout) (b out : Bytes) (r : ℕ) : Type 0 where
  pub room : Room s (length out)
  pub same : drop r (rows_in s out) ≡ drop r (rows_in s b)

-- a clause's literals blanked, and no other row changed
abbrev pub Blanks : Layout → Bytes → Bytes → Bytes → ℕ → ℕ → Type 0
Blanks s b old new from to =
    rows_in s new ≡ take from (rows_in s old) ++ (blank_rows (prefix_in s b) (slice from to (rows_in s b)) ++ drop to (rows_in s old))

-- a readable formula of the clause profile, with its table of places
pub record Clausal (s : Layout) (b : Bytes) (places : List ℕ) : Type 0 where
  pub placed : Placed s b places
  pub is_distinct : distinct (prefix_in s b) ≡ true
  pub is_closed : closed (formula_in s b) ≡ true
  pub profile : in_profile (formula_in s b).matrix ≡ true

-- the formula in which literals that go have become OR of nothing
unfoldable pub blanked : Formula → Formula
blanked f = record { prefix = f.prefix; matrix = blank_tree f.prefix f.matrix }
