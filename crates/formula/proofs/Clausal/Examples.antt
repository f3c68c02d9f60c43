-- Clauses by names, computed in the definitions: which operators are named, in which order, and with which numbers.
-- Assumes nothing.
use mathlib.Core.Path.{◌≡◌, refl}
use mathlib.Core.Bool.{Bool, true, false}
use mathlib.Core.List.{[], ◌∷◌}
use Prim.Native.Nat.{ℕ}
use Rattle.formula.specs.Tree.{and, or, for_all, Tree, lit, node, ∅, ◌▸◌, ◌⧺◌, Formula, binds}
use Rattle.formula.specs.Outer.{unused, existential}
use Rattle.formula.specs.Clausal.{operators, name, names, implies, defined, conjuncts, conjunct, named, named_all, clauses, fresh_names, too_few_names, clausal}

-- both, with all that they compute with
answer : ℕ → Formula → Bool × Formula
unfolding operators name names implies defined conjuncts conjunct named named_all clauses fresh_names too_few_names clausal unused binds ◌⧺◌
answer highest f = (too_few_names highest f, clausal highest f)

abbrev either : Tree → Tree → Tree
either t u = node or (t ▸ u ▸ ∅)

-- for all 1, exists 2: (1 or (2 and not 1)) and not 2
pub under-and :
    clausal 256
    (record {
      prefix = record { quantifier = for_all; variable = 1 } ∷ existential 2 ∷ [];
      matrix = node and (either (lit true 1) (node and (lit true 2 ▸ lit false 1 ▸ ∅)) ▸ lit false 2 ▸ ∅);
    }) ≡
    record {
      prefix = record { quantifier = for_all; variable = 1 } ∷ existential 2 ∷ existential 3 ∷ [];
      matrix =
          node and
          (either (lit true 1) (lit true 3) ▸ either (lit false 3) (lit true 2) ▸ either (lit false 3) (lit false 1) ▸ lit false 2 ▸ ∅);
    }
unfolding answer
under-and = refl

-- exists 1, exists 3: (1 and (3 or (1 and 3))) or (not 1 and not 3); the names are 2, 4, 5 and 6
abbrev nested : Formula
nested =
    record {
      prefix = existential 1 ∷ existential 3 ∷ [];
      matrix =
          either (node and (lit true 1 ▸ either (lit true 3) (node and (lit true 1 ▸ lit true 3 ▸ ∅)) ▸ ∅))
          (node and (lit false 1 ▸ lit false 3 ▸ ∅));
    }

pub under-or :
    clausal 6 nested ≡
    record {
      prefix = existential 1 ∷ existential 3 ∷ existential 2 ∷ existential 4 ∷ existential 5 ∷ existential 6 ∷ [];
      matrix =
          node and
          (either (lit true 2) (lit true 6) ▸ either (lit false 2) (lit true 1) ▸ either (lit false 2) (lit true 4) ▸
          node or (lit false 4 ▸ lit true 3 ▸ lit true 5 ▸ ∅) ▸ either (lit false 5) (lit true 1) ▸ either (lit false 5) (lit true 3) ▸
          either (lit false 6) (lit false 1) ▸ either (lit false 6) (lit false 3) ▸ ∅);
    }
unfolding answer
under-or = refl

-- six numbers are enough, five are not
pub numbers-needed : (too_few_names 6 nested ≡ false) × (too_few_names 5 nested ≡ true)
unfolding answer
numbers-needed = (refl, refl)
