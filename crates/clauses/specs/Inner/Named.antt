-- The clauses of a matrix, row by row in preorder, where a table has a name for each row.
-- Assumes nothing.
use Rattle.std.specs.Prelude.{Bool, true, false, List, [], ◌∷◌, ◌++◌, ℕ, suc, ◌+◌, get_or}
use Rattle.formula.specs.Tree.{and, or, Tree, lit, node, Forest, ∅, ◌▸◌, ◌⧺◌, rows, rows_all}
use Rattle.formula.specs.Clausal.{operators, operators_all, implies, named}
use Rattle.subtrees.specs.Subtrees.{kids}

-- a literal is its own name, an operator's is n
abbrev pub named_by : ℕ → Tree → Tree
named_by n (lit s v) = lit s v
named_by n (node o ts) = lit true n

-- the names of trees side by side, of which the first is at row r
unfoldable pub names_from : List ℕ → ℕ → Forest → Forest
names_from L r ∅ = ∅
names_from L r (t ▸ ts) = named_by (get_or L r 0) t ▸ names_from L (r + rows t) ts

-- a conjunct's name is a clause of its own
abbrev pub unit_clause : Bool → ℕ → Tree → Forest
unit_clause true n t = named_by n t ▸ ∅
unit_clause false n t = ∅

-- the clauses for the row of a tree alone, by whether the tree is a conjunct
abbrev pub own_clauses : List ℕ → ℕ → Bool → Tree → Forest
own_clauses L r c (lit s v) = unit_clause c (get_or L r 0) (lit s v)
own_clauses L r c (node and ts) = unit_clause c (get_or L r 0) (node and ts) ⧺ implies and (get_or L r 0) (names_from L (suc r) ts)
own_clauses L r true (node or ts) = node or (names_from L (suc r) ts) ▸ ∅
own_clauses L r false (node or ts) = implies or (get_or L r 0) (names_from L (suc r) ts)

-- for trees below a conjunct
unfoldable mutual
  pub defined_at : List ℕ → ℕ → Tree → Forest
  defined_at L r (lit s v) = ∅
  defined_at L r (node o ts) = own_clauses L r false (node o ts) ⧺ defined_from L (suc r) ts

  pub defined_from : List ℕ → ℕ → Forest → Forest
  defined_from L r ∅ = ∅
  defined_from L r (t ▸ ts) = defined_at L r t ⧺ defined_from L (r + rows t) ts

-- for conjuncts
unfoldable pub clauses_from : List ℕ → ℕ → Forest → Forest
clauses_from L r ∅ = ∅
clauses_from L r (t ▸ ts) = (own_clauses L r true t ⧺ defined_from L (suc r) (kids t)) ⧺ clauses_from L (r + rows t) ts

-- what is left of the walk at row r: the trees left of the conjunct that it is in, and the conjuncts behind that
unfoldable pub clauses_left : List ℕ → ℕ → Forest → Forest → Forest
clauses_left L r ts us = defined_from L r ts ⧺ clauses_from L (r + rows_all ts) us

-- the names of the rows, where the first row's is the i-th; a row without a name has the next one's
unfoldable mutual
  pub marks : (ℕ → ℕ) → ℕ → Tree → List ℕ
  marks fresh i (lit s v) = fresh i ∷ []
  marks fresh i (node o ts) = fresh i ∷ marks_all fresh (suc i) ts

  pub marks_all : (ℕ → ℕ) → ℕ → Forest → List ℕ
  marks_all fresh i ∅ = []
  marks_all fresh i (t ▸ ts) = marks fresh i t ++ marks_all fresh (i + operators t) ts

-- the number of the name behind that of the tree's row
abbrev pub next_name : ℕ → Bool → Tree → ℕ
next_name i c (lit s v) = i
next_name i c (node and ts) = suc i
next_name i true (node or ts) = i
next_name i false (node or ts) = suc i

unfoldable pub marks_conjuncts : (ℕ → ℕ) → ℕ → Forest → List ℕ
marks_conjuncts fresh i ∅ = []
marks_conjuncts fresh i (t ▸ ts) = (fresh i ∷ marks_all fresh (next_name i true t) (kids t)) ++ marks_conjuncts fresh (i + named t) ts

unfoldable pub marks_left : (ℕ → ℕ) → ℕ → Forest → Forest → List ℕ
marks_left fresh i ts us = marks_all fresh i ts ++ marks_conjuncts fresh (i + operators_all ts) us

-- the row of the first conjunct
abbrev pub first_conjunct : Tree → ℕ
first_conjunct (lit s v) = 0
first_conjunct (node and ts) = 1
first_conjunct (node or ts) = 0
