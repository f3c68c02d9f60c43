-- What each literal becomes in a copy, by a table with an entry for each variable number.
-- Assumes nothing.
use Rattle.std.specs.Prelude.{Bool, true, not, ◌&&◌, cond, List, [], ◌∷◌, ◌++◌, map, ℕ, zero, suc, eqb, leb, get_or, set}
use Rattle.std.specs.Bool.{beq}
use Rattle.std.proofs.Math.Seq.{slice}
use Rattle.formula.specs.Tree.{Tree, lit, constant, Literals}
use Rattle.sheet.specs.Format.{Row, row}
use Rattle.sheet.specs.Sheet.{tree_rows}

-- The entry of a variable is the number of the variable that its literals become literals of, 1,024 at most; or 1,025 if the value 0 is put
-- in for it, and 1,026 if 1 is. A number past the table is its own entry.
abbrev pub entry : List ℕ → ℕ → ℕ
entry t v = get_or t v v

-- the entry of a variable for which a value is put in
abbrev pub put_entry : Bool → ℕ
put_entry c = cond c 1026 1025

-- the table of n entries that changes nothing, the one that puts x = c in, and that of every number of the wider format
unfoldable pub numbers : ℕ → List ℕ
numbers zero = []
numbers (suc n) = numbers n ++ (n ∷ [])

abbrev pub putting_in : ℕ → ℕ → Bool → List ℕ
putting_in n x c = set (numbers n) x (put_entry c)

abbrev pub putting : ℕ → Bool → List ℕ
putting x c = putting_in 1025 x c

-- the literals that change
unfoldable pub chosen : List ℕ → Literals
chosen t s v = not (eqb (entry t v) v)

-- what a literal of the sign s becomes by an entry: a literal of the same sign, or a constant row
unfoldable pub became : Bool → ℕ → Tree
became s e = cond (leb e 1024) (lit s e) (constant (beq s (eqb e 1026)))

unfoldable pub changed : List ℕ → Bool → ℕ → Tree
changed t s v = cond (chosen t s v) (became s (entry t v)) (lit s v)

-- the same for a row: kinds 3 and 4 are literals, every other row stays
unfoldable pub chosen_row : List ℕ → Row → Bool
chosen_row t r = leb 3 r.kind && leb r.kind 4 && chosen t true r.argument

unfoldable pub changed_row : List ℕ → Row → Row
changed_row t r =
    cond (chosen_row t r) (get_or (tree_rows (became (eqb r.kind 3) (entry t r.argument))) 0 (row 0 0)) r

-- the rows `from` to `to`, changed
unfoldable pub copied : List ℕ → ℕ → ℕ → List Row → List Row
copied t from to rs = map (changed_row t) (slice from to rs)
