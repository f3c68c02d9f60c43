-- Expansion one block out, tried by hand: for all 1, exists 3, 2: (not 2 or 3) (2 or not 3) (not 1 or not 2) (1 or 2). Variable 3 has no literal
-- in a clause of 1 and depends on it by way of 2; both are copied, 3 before 2, as 4 and 5.
-- Assumes nothing.
use mathlib.Core.Bool.{Bool, true, false}
use mathlib.Core.List.{[], ◌∷◌}
use Prim.Native.Nat.{ℕ}
use Rattle.formula.specs.Tree.{Op, and, or, exists, for_all, Tree, lit, node, ∅, ◌▸◌, Binding, Formula}

abbrev binding : Op → ℕ → Binding
binding q x = record { quantifier = q; variable = x }

abbrev clause : Bool → ℕ → Bool → ℕ → Tree
clause s x s' y = node or (lit s x ▸ lit s' y ▸ ∅)

unfoldable pub linked : Formula
linked =
    record {
      prefix = binding for_all 1 ∷ binding exists 3 ∷ binding exists 2 ∷ [];
      matrix = node and (clause false 2 true 3 ▸ clause true 2 false 3 ▸ clause false 1 false 2 ▸ clause true 1 true 2 ▸ ∅);
    }

-- the raw formula: x = 0 keeps the names, x = 1 has the new ones
unfoldable pub linked_expanded : Formula
linked_expanded =
    record {
      prefix = binding exists 3 ∷ binding exists 2 ∷ binding exists 4 ∷ binding exists 5 ∷ [];
      matrix =
          node and
          (node and
          (clause false 2 true 3 ▸ clause true 2 false 3 ▸ node or (node and ∅ ▸ lit false 2 ▸ ∅) ▸ node or (node or ∅ ▸ lit true 2 ▸ ∅) ▸ ∅) ▸
          node and
          (clause false 5 true 4 ▸ clause true 5 false 4 ▸ node or (node or ∅ ▸ lit false 5 ▸ ∅) ▸ node or (node and ∅ ▸ lit true 5 ▸ ∅) ▸ ∅) ▸
          ∅);
    }
