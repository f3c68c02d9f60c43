-- Settling a variable of any block by a pure or a unit literal ("Settle x").
-- Assumes nothing.
use Rattle.std.specs.Prelude.{Bool, true, false, not, ◌||◌, cond, ℕ}
use Rattle.std.proofs.Math.Option.{Option, none, some}
use Rattle.formula.specs.Tree.{Quantifier, and, or, Tree, lit, node, Formula, Literals, of, of_sign, has, assign, quantifier_of, without, some_child}
use Rattle.formula.specs.Tidy.{tidy}

-- a literal of the set
unfoldable pub is_lit : Literals → Tree → Bool
is_lit L (lit s v) = L s v
is_lit L (node o ts) = false

-- unit: a literal of the set is the root or a child of the root
unfoldable pub at_root : Literals → Tree → Bool
at_root L (lit s v) = L s v
at_root L (node o ts) = some_child (is_lit L) ts

-- the literals of x have the sign s only, or a literal of x with that sign is the root or a child of the root
unfoldable pub may_take : Bool → ℕ → Tree → Bool
may_take s x t = not (has (of_sign (not s) x) t) || at_root (of_sign s x) t

-- the table of two quantifiers by two signs: exists, positive 1, negative 0; for all, positive 0, negative 1
unfoldable pub value : Quantifier → Bool → Bool
value or true = true
value or false = false
value and true = false
value and false = true

-- the value put in for x, if x may be settled; with no literal, 0
unfoldable pub settling : Quantifier → ℕ → Tree → Option Bool
settling q x t =
    cond (not (has (of x) t)) (some false)
    (cond (may_take true x t) (some (value q true)) (cond (may_take false x t) (some (value q false)) none))

unfoldable pub may_settle : ℕ → Formula → Option Bool
may_settle x f = settling (quantifier_of f.prefix x) x f.matrix

-- the row of x goes, each literal of x becomes a constant row, the tree is tidied
unfoldable pub settled : ℕ → Bool → Formula → Formula
settled x b f = record { prefix = without x f.prefix; matrix = tidy (assign x b f.matrix) }
