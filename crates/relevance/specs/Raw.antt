-- How many rows a raw sheet has ("Expand x").
-- Assumes nothing.
use Rattle.std.specs.Prelude.{cond, ℕ, ◌+◌, Option, Some, None}
use Rattle.formula.specs.Tree.{Tree, Literals, has}
use Rattle.subtrees.specs.Parts.{relevant_subtree}
use Rattle.subtrees.specs.declared.relevant.Relevant.{Relevant}

-- E + 1 for a single literal and where every child is relevant, E + 2 otherwise
abbrev pub added : Relevant → ℕ
added p = p.rows + cond p.all 1 2

-- with the rows of the matrix added
abbrev pub grown : ℕ → Relevant → ℕ
grown n p = n + added p

-- the relevant subtree of a set, if a literal of it stands in the tree
unfoldable pub presence : Literals → Tree → Option Relevant
presence L t = cond (has L t) (Some (relevant_subtree L 0 t)) None

-- without a literal the matrix stays
abbrev pub grown_by : ℕ → Option Relevant → ℕ
grown_by n None = n
grown_by n (Some p) = grown n p

-- E, or 0 without a literal
abbrev pub copied : Option Relevant → ℕ
copied None = 0
copied (Some p) = p.rows
