-- The matrix of a formula: a tree of literals under AND and OR (document 000, section 4: NNF-tree).
-- Assumes nothing.
use Rattle.std.specs.Prelude.{Bool, true, false, not, ◌&&◌, ◌||◌, cond, List, [], ◌∷◌, ℕ, suc, ◌+◌, eqb}
use Rattle.std.specs.Bool.{beq}

infixr 45 ◌▸◌
infixr 44 ◌⧺◌
-- AND and OR
pub data Op : Type 0 where
  and or : Op

-- A quantifier is named by the operator that joins its two copies.
abbrev pub Quantifier : Type 0
Quantifier = Op

abbrev pub exists : Quantifier
exists = or

abbrev pub for_all : Quantifier
for_all = and

abbrev pub dual : Op → Op
dual and = or
dual or = and

abbrev pub same_op : Op → Op → Bool
same_op and and = true
same_op and or = false
same_op or and = false
same_op or or = true

mutual
  -- a literal: its sign (true: the variable, false: its negation) and its variable's number; or an operator over its children
  pub data Tree : Type 0 where
    lit : Bool → ℕ → Tree
    node : Op → Forest → Tree

  pub data Forest : Type 0 where
    ∅ : Forest
    ◌▸◌ : Tree → Forest → Forest

-- AND of nothing is true, OR of nothing is false: a constant row
abbrev pub constant : Bool → Tree
constant true = node and ∅
constant false = node or ∅

-- a row of the prefix, and a prenex formula
pub record Binding : Type 0 where
  pub quantifier : Quantifier
  pub variable : ℕ

abbrev pub Prefix : Type 0
Prefix = List Binding

pub record Formula : Type 0 where
  pub prefix : Prefix
  pub matrix : Tree

-- a variable's row in the prefix: whether it is there, its quantifier, and the prefix without it
unfoldable pub binds : Prefix → ℕ → Bool
binds [] x = false
binds (z ∷ p) x = eqb z.variable x || binds p x

unfoldable pub quantifier_of : Prefix → ℕ → Quantifier
quantifier_of [] x = exists
quantifier_of (z ∷ p) x = cond (eqb z.variable x) z.quantifier (quantifier_of p x)

unfoldable pub without : ℕ → Prefix → Prefix
without x [] = []
without x (z ∷ p) = cond (eqb z.variable x) p (z ∷ without x p)

-- no number twice
unfoldable pub distinct : Prefix → Bool
distinct [] = true
distinct (z ∷ p) = not (binds p z.variable) && distinct p

-- a set of literals, by its test on sign and variable
abbrev pub Literals : Type 0
Literals = Bool → ℕ → Bool

-- the literals of x, and those of one sign
abbrev pub of : ℕ → Literals
of x s v = eqb v x

abbrev pub of_sign : Bool → ℕ → Literals
of_sign s x s' v = cond (beq s s') (eqb v x) false

-- how many rows a tree has
unfoldable mutual
  pub rows : Tree → ℕ
  rows (lit s v) = 1
  rows (node o ts) = suc (rows_all ts)

  pub rows_all : Forest → ℕ
  rows_all ∅ = 0
  rows_all (t ▸ ts) = rows t + rows_all ts

-- whether a literal of the set stands in a tree
unfoldable mutual
  pub has : Literals → Tree → Bool
  has L (lit s v) = L s v
  has L (node o ts) = has_any L ts

  pub has_any : Literals → Forest → Bool
  has_any L ∅ = false
  has_any L (t ▸ ts) = has L t || has_any L ts

-- every literal is bound
unfoldable pub closed : Formula → Bool
closed f = not (has (λ s v. not (binds f.prefix v)) f.matrix)

-- the tree with another tree for each literal
unfoldable mutual
  pub replace : (Bool → ℕ → Tree) → Tree → Tree
  replace f (lit s v) = f s v
  replace f (node o ts) = node o (replace_all f ts)

  pub replace_all : (Bool → ℕ → Tree) → Forest → Forest
  replace_all f ∅ = ∅
  replace_all f (t ▸ ts) = replace f t ▸ replace_all f ts

-- x = b put in: each literal of x becomes a constant row
abbrev pub assigned : ℕ → Bool → Bool → ℕ → Tree
assigned x b s v = cond (eqb v x) (constant (beq s b)) (lit s v)

unfoldable pub assign : ℕ → Bool → Tree → Tree
assign x b t = replace (assigned x b) t

-- lists of children
unfoldable pub count : Forest → ℕ
count ∅ = 0
count (t ▸ ts) = suc (count ts)

unfoldable pub ◌⧺◌ : Forest → Forest → Forest
∅ ⧺ us = us
(t ▸ ts) ⧺ us = t ▸ (ts ⧺ us)

unfoldable pub some_child : (Tree → Bool) → Forest → Bool
some_child P ∅ = false
some_child P (t ▸ ts) = P t || some_child P ts

-- two children, the earlier and the later one in the relation
unfoldable pub some_two : (Tree → Tree → Bool) → Forest → Bool
some_two R ∅ = false
some_two R (t ▸ ts) = some_child (R t) ts || some_two R ts

unfoldable pub keep : (Tree → Bool) → Forest → Forest
keep P ∅ = ∅
keep P (t ▸ ts) = cond (P t) (t ▸ keep P ts) (keep P ts)
