-- Clauses: an equal question whose matrix is AND of clauses (clause form by names for operators, of Tseitin and of Plaisted and Greenbaum).
-- Assumes nothing.
use Rattle.std.specs.Prelude.{Bool, true, false, List, ◌++◌, map, ℕ, suc, ◌+◌, ltb, length, get_or, take}
use Rattle.formula.specs.Tree.{Op, and, or, Tree, lit, node, Forest, ∅, ◌▸◌, ◌⧺◌, Formula}
use Rattle.formula.specs.Outer.{unused, existential}

-- how many operators a tree has
unfoldable mutual
  pub operators : Tree → ℕ
  operators (lit s v) = 0
  operators (node o ts) = suc (operators_all ts)

  pub operators_all : Forest → ℕ
  operators_all ∅ = 0
  operators_all (t ▸ ts) = operators t + operators_all ts

-- "a literal is its own name, and every other operator gets a new .. variable": that of the i-th name in preorder
unfoldable pub name : (ℕ → ℕ) → ℕ → Tree → Tree
name fresh i (lit s v) = lit s v
name fresh i (node o ts) = lit true (fresh i)

unfoldable pub names : (ℕ → ℕ) → ℕ → Forest → Forest
names fresh i ∅ = ∅
names fresh i (t ▸ ts) = name fresh i t ▸ names fresh (i + operators t) ts

-- "the clauses 'name implies the operator of its children's names'"
unfoldable pub implies : Op → ℕ → Forest → Forest
implies or n cs = node or (lit false n ▸ cs) ▸ ∅
implies and n ∅ = ∅
implies and n (c ▸ cs) = node or (lit false n ▸ c ▸ ∅) ▸ implies and n cs

-- of an operator and of all below it
unfoldable mutual
  pub defined : (ℕ → ℕ) → ℕ → Tree → Forest
  defined fresh i (lit s v) = ∅
  defined fresh i (node o ts) = implies o (fresh i) (names fresh (suc i) ts) ⧺ defined_all fresh (suc i) ts

  pub defined_all : (ℕ → ℕ) → ℕ → Forest → Forest
  defined_all fresh i ∅ = ∅
  defined_all fresh i (t ▸ ts) = defined fresh i t ⧺ defined_all fresh (i + operators t) ts

-- "under a root AND a literal child is a unit clause and an OR child one clause over the names of its children, a root OR is one such
-- clause"; so is a root literal
unfoldable pub conjuncts : Tree → Forest
conjuncts (lit s v) = lit s v ▸ ∅
conjuncts (node or ts) = node or ts ▸ ∅
conjuncts (node and ts) = ts

unfoldable pub conjunct : (ℕ → ℕ) → ℕ → Tree → Forest
conjunct fresh i (lit s v) = lit s v ▸ ∅
conjunct fresh i (node or ts) = node or (names fresh i ts) ▸ defined_all fresh i ts
conjunct fresh i (node and ts) = lit true (fresh i) ▸ defined fresh i (node and ts)

-- how many names that takes
unfoldable pub named : Tree → ℕ
named (lit s v) = 0
named (node or ts) = operators_all ts
named (node and ts) = suc (operators_all ts)

unfoldable pub named_all : Forest → ℕ
named_all ∅ = 0
named_all (t ▸ ts) = named t + named_all ts

unfoldable pub clauses : (ℕ → ℕ) → ℕ → Forest → Forest
clauses fresh i ∅ = ∅
clauses fresh i (t ▸ ts) = conjunct fresh i t ⧺ clauses fresh (i + named t) ts

-- "names are the smallest numbers not in the prefix"; fewer of them are left than needed
unfoldable pub fresh_names : ℕ → Formula → List ℕ
fresh_names highest f = take (named_all (conjuncts f.matrix)) (unused f.prefix highest 1)

unfoldable pub too_few_names : ℕ → Formula → Bool
too_few_names highest f = ltb (length (unused f.prefix highest 1)) (named_all (conjuncts f.matrix))

-- the new variables are existential, "innermost"
unfoldable pub clausal : ℕ → Formula → Formula
clausal highest f =
    record {
      prefix = f.prefix ++ map existential (fresh_names highest f);
      matrix = node and (clauses (λ i. get_or (fresh_names highest f) i 0) 0 (conjuncts f.matrix));
    }
