-- The rows of the sheet that a text says, and how many they are.
-- Assumes nothing.
use mathlib.Core.Path.{◌≡◌, refl, ap, ap₂}
use mathlib.Core.List.{List, [], ◌∷◌, ◌++◌, map, flatten, flat_map}
use Prim.Native.Nat.{ℕ, suc, ◌+◌}
use native.Mathlib.Omega.{arith}
use lib.ListN.{length, length-append}
use Rattle.formula.specs.Tree.{rows, rows_all, count}
use Rattle.sheet.specs.Format.{Row, row}
use Rattle.sheet.specs.Sheet.{literal_kind, tree_rows, forest_rows}
use Rattle.sheet.specs.Qdimacs.{Token, is_plain, absolute, clauses, literals, clause_trees, matrix_of}

abbrev pub literal_row : Token → Row
literal_row t = row (literal_kind (is_plain t)) (absolute t)

-- OR, and its literals
abbrev pub clause_rows : List Token → List Row
clause_rows c = row 6 (length c) ∷ map literal_row c

pub count-literals : (c : List Token) → count (literals c) ≡ length c
unfolding count literals
count-literals [] = refl
count-literals (t ∷ c) = ap suc (count-literals c)

literals-rows : (c : List Token) → forest_rows (literals c) ≡ map literal_row c
unfolding tree_rows literals
literals-rows [] = refl
literals-rows (t ∷ c) = ap (λ (rs : List Row). literal_row t ∷ rs) (literals-rows c)

pub count-clauses : (cs : List (List Token)) → count (clause_trees cs) ≡ length cs
unfolding count clause_trees
count-clauses [] = refl
count-clauses (c ∷ cs) = ap suc (count-clauses cs)

clauses-rows : (cs : List (List Token)) → forest_rows (clause_trees cs) ≡ flat_map clause_rows cs
unfolding tree_rows clause_trees flat_map
clauses-rows [] = refl
clauses-rows (c ∷ cs) = ap₂ (λ (rs ss : List Row). rs ++ ss) (ap₂ (λ (n : ℕ) (rs : List Row). row 6 n ∷ rs) (count-literals c) (literals-rows c)) (clauses-rows cs)

-- AND, and its clauses
pub matrix_rows : (ls : List (List Token)) → tree_rows (matrix_of ls) ≡ row 5 (length (clauses ls)) ∷ flat_map clause_rows (clauses ls)
unfolding tree_rows matrix_of
matrix_rows ls = ap₂ (λ (n : ℕ) (rs : List Row). row 5 n ∷ rs) (count-clauses (clauses ls)) (clauses-rows (clauses ls))

rows-literals : (c : List Token) → rows_all (literals c) ≡ length c
unfolding rows literals
rows-literals [] = refl
rows-literals (t ∷ c) = let r = rows-literals c in omega arith

rows-clauses : (cs : List (List Token)) → rows_all (clause_trees cs) ≡ length cs + length (flatten cs)
unfolding rows clause_trees flatten
rows-clauses [] = refl
rows-clauses (c ∷ cs) =
    let r = rows-clauses cs in
    let l = rows-literals c in
    omega (arith, length-append c (flatten cs))

-- one for AND, one for each clause, one for each literal
pub matrix_row-count : (ls : List (List Token)) → rows (matrix_of ls) ≡ suc (length (clauses ls) + length (flatten (clauses ls)))
unfolding rows matrix_of
matrix_row-count ls = ap suc (rows-clauses (clauses ls))
