-- The first operator at fault (9) is a row of its tree.
-- Assumes nothing.
use mathlib.Core.Path.{◌≡◌, refl, ap, ap₂, ◌∙◌}
use mathlib.Core.Bool.{Bool, true, false, false≢true}
use mathlib.Core.List.{List, [], ◌∷◌}
use Prim.Native.Nat.{suc, ◌+◌, ◌≤◌, ◌<◌}
use native.Mathlib.Omega.{arith}
use lib.ListN.{length, length-append}
use borrow.Author.Tests.{not-false}
use Rattle.formula.specs.Tree.{Tree, lit, node, Forest, ∅, ◌▸◌, rows, rows_all}
use Rattle.formula.specs.Tidy.{faults, faults_all, root_faults, any, first_true, is_tidy, first_fault}

mutual
  unfolding faults rows

  length-faults : (t : Tree) → length (faults t) ≡ rows t
  length-faults (lit s v) = refl
  length-faults (node o ts) = ap suc (length-faults_all ts)

  length-faults_all : (ts : Forest) → length (faults_all ts) ≡ rows_all ts
  length-faults_all ∅ = refl
  length-faults_all (t ▸ ts) = length-append (faults t) (faults_all ts) ∙ ap₂ ◌+◌ (length-faults t) (length-faults_all ts)

length-root_faults : (t : Tree) → length (root_faults t) ≡ rows t
unfolding root_faults rows
length-root_faults (lit s v) = refl
length-root_faults (node o ts) = ap suc (length-faults_all ts)

first_true-within : (bs : List Bool) → any bs ≡ true → first_true bs < length bs
unfolding any first_true
first_true-within [] h = absurd (false≢true h)
first_true-within (true ∷ bs) h = omega arith
first_true-within (false ∷ bs) h = omega (arith, first_true-within bs h)

pub fault_within : (t : Tree) → is_tidy t ≡ false → first_fault t < rows t
unfolding is_tidy first_fault
fault_within t e = omega (arith, first_true-within (root_faults t) (not-false (any (root_faults t)) e), length-root_faults t)

-- in any case it is none behind the last row
first_true_most : (bs : List Bool) → first_true bs ≤ length bs
unfolding first_true
first_true_most [] = omega arith
first_true_most (true ∷ bs) = omega arith
first_true_most (false ∷ bs) = omega (arith, first_true_most bs)

pub fault_most : (t : Tree) → first_fault t ≤ rows t
unfolding first_fault
fault_most t = omega (arith, first_true_most (root_faults t), length-root_faults t)
