-- Tidiness row by row and child by child ("Tidy sheets"), as it is tested.
-- Assumes nothing.
use Rattle.std.specs.Prelude.{Bool, false, not, ◌&&◌, ◌||◌, ℕ, eqb}
use Rattle.formula.specs.Tree.{Tree, lit, node, Forest, some_child}
use Rattle.formula.specs.Tidy.{is_op, alone, childless, breaks}
use Rattle.subtrees.specs.Subtrees.{top}

-- a child of the kind k
unfoldable pub some_kind : ℕ → Forest → Bool
some_kind k ts = some_child (λ t. eqb (top t).kind k) ts

-- the tree at row i is an operator at fault, by a limit that doesn't compare two children
unfoldable pub at_fault : ℕ → Tree → Bool
at_fault i (lit s v) = false
at_fault i (node o ts) = (not (eqb i 0) && childless ts) || breaks o ts

unfoldable pub plain_fault : ℕ → Tree → Bool
plain_fault i (lit s v) = false
plain_fault i (node o ts) = (not (eqb i 0) && childless ts) || (alone ts || some_child (is_op o) ts)
