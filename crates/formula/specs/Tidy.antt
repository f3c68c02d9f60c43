-- Tidying by its six rules in their order, the fifth of them N4's; tidiness by its limits; decided and verdict ("Tidy sheets").
-- Assumes nothing.
use Rattle.std.specs.Prelude.{Bool, true, false, not, ◌&&◌, ◌||◌, cond, List, [], ◌∷◌, ◌++◌, ℕ, suc, eqb}
use Rattle.std.specs.Bool.{beq}
use Rattle.std.proofs.Math.Option.{Option, none, some}
use Rattle.formula.specs.Tree.{Op, and, or, dual, same_op, Tree, lit, node, Forest, ∅, ◌▸◌, ◌⧺◌, Formula, some_child, some_two, keep}

-- an operator of the kind k, and an empty one
unfoldable pub is_op : Op → Tree → Bool
is_op k (lit s v) = false
is_op k (node o ts) = same_op k o

unfoldable pub is_empty : Op → Tree → Bool
is_empty k (lit s v) = false
is_empty k (node o ∅) = same_op k o
is_empty k (node o (t ▸ ts)) = false

-- two literals: opposite ones of one variable, equal ones, any of one variable
unfoldable pub opposite : Tree → Tree → Bool
opposite (node o ts) u = false
opposite (lit s v) (node o ts) = false
opposite (lit s v) (lit s' v') = eqb v v' && not (beq s s')

unfoldable pub equal : Tree → Tree → Bool
equal (node o ts) u = false
equal (lit s v) (node o ts) = false
equal (lit s v) (lit s' v') = eqb v v' && beq s s'

unfoldable pub same_variable : Tree → Tree → Bool
same_variable (node o ts) u = false
same_variable (lit s v) (node o ts) = false
same_variable (lit s v) (lit s' v') = eqb v v'

-- two trees with the same rows: the same literal, or operators of one kind whose children are the same one by one
unfoldable mutual
  pub same_tree : Tree → Tree → Bool
  same_tree (lit s v) (lit s' v') = eqb v v' && beq s s'
  same_tree (lit s v) (node k us) = false
  same_tree (node o ts) (lit s v) = false
  same_tree (node o ts) (node k us) = same_op o k && same_trees ts us

  pub same_trees : Forest → Forest → Bool
  same_trees ∅ ∅ = true
  same_trees ∅ (u ▸ us) = false
  same_trees (t ▸ ts) ∅ = false
  same_trees (t ▸ ts) (u ▸ us) = same_tree t u && same_trees ts us

-- two operators with the same rows (N4)
unfoldable pub duplicate : Tree → Tree → Bool
duplicate (lit s v) u = false
duplicate (node o ts) u = same_tree (node o ts) u

-- rule 1: children of the parent's own kind are replaced by their children, at the same spot
unfoldable pub spliced : Op → Tree → Forest → Forest
spliced o (lit s v) us = lit s v ▸ us
spliced o (node k ts) us = cond (same_op o k) (ts ⧺ us) (node k ts ▸ us)

unfoldable pub splice : Op → Forest → Forest
splice o ∅ = ∅
splice o (t ▸ ts) = spliced o t (splice o ts)

-- rules 2 and 3: an empty operator of the other kind, or two opposite literals, decide the node
unfoldable pub decides : Op → Forest → Bool
decides o ts = some_child (is_empty (dual o)) ts || some_two opposite ts

-- of children in the relation only the first stays: rule 4 for equal literals, and rule 5 for equal operators
unfoldable pub firsts : (Tree → Tree → Bool) → Forest → Forest
firsts R ∅ = ∅
firsts R (t ▸ ts) = t ▸ keep (λ u. not (R t u)) (firsts R ts)

-- rule 6: a lone child replaces the node
unfoldable pub unwrap : Op → Forest → Tree
unwrap o ∅ = node o ∅
unwrap o (t ▸ ∅) = t
unwrap o (t ▸ u ▸ ts) = node o (t ▸ u ▸ ts)

-- the six rules at an operator, once its children are tidied
unfoldable pub combine : Op → Forest → Tree
combine o ts = cond (decides o (splice o ts)) (node (dual o) ∅) (unwrap o (firsts duplicate (firsts equal (splice o ts))))

-- children before their parent
unfoldable mutual
  pub tidy : Tree → Tree
  tidy (lit s v) = lit s v
  tidy (node o ts) = combine o (tidy_all ts)

  pub tidy_all : Forest → Forest
  tidy_all ∅ = ∅
  tidy_all (t ▸ ts) = tidy t ▸ tidy_all ts

-- the prefix rows are kept
unfoldable pub tidied : Formula → Formula
tidied f = record { prefix = f.prefix; matrix = tidy f.matrix }

-- the limits on an operator's children: not one alone, none of the parent's kind, no two literals of one variable, no two equal operators
unfoldable pub alone : Forest → Bool
alone ∅ = false
alone (t ▸ ∅) = true
alone (t ▸ u ▸ ts) = false

unfoldable pub childless : Forest → Bool
childless ∅ = true
childless (t ▸ ts) = false

unfoldable pub breaks : Op → Forest → Bool
breaks o ts = alone ts || some_child (is_op o) ts || some_two same_variable ts || some_two duplicate ts

-- row by row in preorder: is the row an operator at fault, childless (below the root only) or with children that break a limit?
unfoldable mutual
  pub faults : Tree → List Bool
  faults (lit s v) = false ∷ []
  faults (node o ts) = (childless ts || breaks o ts) ∷ faults_all ts

  pub faults_all : Forest → List Bool
  faults_all ∅ = []
  faults_all (t ▸ ts) = faults t ++ faults_all ts

unfoldable pub root_faults : Tree → List Bool
root_faults (lit s v) = false ∷ []
root_faults (node o ts) = breaks o ts ∷ faults_all ts

unfoldable pub any : List Bool → Bool
any [] = false
any (b ∷ bs) = b || any bs

unfoldable pub first_true : List Bool → ℕ
first_true [] = 0
first_true (b ∷ bs) = cond b 0 (suc (first_true bs))

-- tidy: no row is at fault. Refusal 9 names the first row that is.
unfoldable pub is_tidy : Tree → Bool
is_tidy t = not (any (root_faults t))

unfoldable pub first_fault : Tree → ℕ
first_fault t = first_true (root_faults t)

-- decided: the root is an empty operator. The verdict is then true for AND and false for OR; otherwise there is none.
unfoldable pub verdict : Tree → Option Bool
verdict (lit s v) = none
verdict (node and ∅) = some true
verdict (node or ∅) = some false
verdict (node o (t ▸ ts)) = none
