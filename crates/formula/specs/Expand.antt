-- Local expansion of a variable of the innermost block ("Expand x"; document 000, sections 5.1 and 5.3).
-- Assumes nothing.
use Rattle.std.specs.Prelude.{Bool, true, false, not, ◌&&◌, cond, [], ◌∷◌, ℕ, ◌+◌, eqb}
use Rattle.formula.specs.Tree.{Quantifier, Op, same_op, Tree, lit, node, Forest, ∅, ◌▸◌, Prefix, Formula, Literals, of, binds}
use Rattle.formula.specs.Tree.{quantifier_of, without, rows, rows_all, has, replace_all, assigned, count, some_child, keep}
use Rattle.formula.specs.Tidy.{tidy}

-- every row of the prefix has the quantifier q
unfoldable pub all_of : Quantifier → Prefix → Bool
all_of q [] = true
all_of q (z ∷ p) = same_op q z.quantifier && all_of q p

-- the rows after x
unfoldable pub after : ℕ → Prefix → Prefix
after x [] = []
after x (z ∷ p) = cond (eqb z.variable x) p (after x p)

-- the rows whose variable is in a set, and those whose variable has a literal in a tree
unfoldable pub among : (ℕ → Bool) → Prefix → Prefix
among P [] = []
among P (z ∷ p) = cond (P z.variable) (z ∷ among P p) (among P p)

abbrev pub occurs : Tree → ℕ → Bool
occurs t v = has (of v) t

unfoldable pub occurring : Tree → Prefix → Prefix
occurring t p = among (occurs t) p

-- the rows after x that have a literal
unfoldable pub later : ℕ → Formula → Prefix
later x f = occurring f.matrix (after x f.prefix)

-- x is in the innermost block: every row after it that has a literal is of its kind (N5)
unfoldable pub innermost : ℕ → Formula → Bool
innermost x f = binds f.prefix x && all_of (quantifier_of f.prefix x) (later x f)

-- the longest run of equal kinds at the end of the prefix, which is the innermost block where every variable has a literal
unfoldable pub in_last_block : ℕ → Prefix → Bool
in_last_block x [] = false
in_last_block x (z ∷ p) = cond (eqb z.variable x) (all_of z.quantifier p) (in_last_block x p)

-- What an expansion copies: the literals that choose the relevant subtree, the operator that joins the copies, and what each literal
-- becomes in the first copy and in the second.
pub record Copying : Type 0 where
  pub chosen : Literals
  pub joint : Op
  pub first : Bool → ℕ → Tree
  pub second : Bool → ℕ → Tree

-- of x: OR for exists, AND for all; x = 0 first, then x = 1
abbrev pub copying : Quantifier → ℕ → Copying
copying q x = record { chosen = of x; joint = q; first = assigned x false; second = assigned x true }

-- the children that hold a chosen literal, and whether they are one, or all
unfoldable pub relevant : Literals → Forest → Forest
relevant L ts = keep (has L) ts

unfoldable pub one_relevant : Literals → Forest → Bool
one_relevant L ts = eqb (count (relevant L ts)) 1

unfoldable pub all_relevant : Literals → Forest → Bool
all_relevant L ts = not (some_child (λ t. not (has L t)) ts)

-- the two copies of the relevant children, each under an operator of their parent's kind
unfoldable pub copies : Copying → Op → Forest → Tree
copies c o rs = node c.joint (node o (replace_all c.first rs) ▸ node o (replace_all c.second rs) ▸ ∅)

-- the new node in place of the first relevant child, without the other relevant children
unfoldable pub at_first : Literals → Tree → Forest → Forest
at_first L new ∅ = ∅
at_first L new (t ▸ ts) = cond (has L t) (new ▸ keep (λ u. not (has L u)) ts) (t ▸ at_first L new ts)

-- The raw tree. Where only one child is relevant, the deepest operator above all literals is in that child. A literal that is alone is
-- itself the relevant subtree, and its copies are bare constants.
unfoldable mutual
  pub expand_tree : Copying → Tree → Tree
  expand_tree c (lit s v) = node c.joint (c.first s v ▸ c.second s v ▸ ∅)
  expand_tree c (node o ts) =
      cond (one_relevant c.chosen ts) (node o (expand_below c ts))
      (cond (all_relevant c.chosen ts) (copies c o ts)
      (node o (at_first c.chosen (copies c o (relevant c.chosen ts)) ts)))

  pub expand_below : Copying → Forest → Forest
  expand_below c ∅ = ∅
  expand_below c (t ▸ ts) = cond (has c.chosen t) (expand_tree c t ▸ ts) (t ▸ expand_below c ts)

-- a tree without a chosen literal stays
unfoldable pub raw_tree : Copying → Tree → Tree
raw_tree c t = cond (has c.chosen t) (expand_tree c t) t

-- what is added to the rows: E + 1 for a single literal (E = 1) and where every child is relevant, E + 2 otherwise;
-- E is 1 plus the relevant children's rows
unfoldable mutual
  pub growth : Literals → Tree → ℕ
  growth L (lit s v) = 1 + 1
  growth L (node o ts) =
      cond (one_relevant L ts) (growth_below L ts)
      (cond (all_relevant L ts) (1 + rows_all (relevant L ts) + 1) (1 + rows_all (relevant L ts) + 2))

  pub growth_below : Literals → Forest → ℕ
  growth_below L ∅ = 0
  growth_below L (t ▸ ts) = cond (has L t) (growth L t) (growth_below L ts)

-- raw rows: N + E + 1 or N + E + 2, and N with no literal
unfoldable pub raw_rows : Literals → Tree → ℕ
raw_rows L t = cond (has L t) (rows t + growth L t) (rows t)

-- the raw sheet's formula, and the tidied one
unfoldable pub raw : ℕ → Formula → Formula
raw x f =
    record {
      prefix = without x f.prefix;
      matrix = raw_tree (copying (quantifier_of f.prefix x) x) f.matrix;
    }

unfoldable pub expanded : ℕ → Formula → Formula
expanded x f = record { prefix = (raw x f).prefix; matrix = tidy (raw x f).matrix }
