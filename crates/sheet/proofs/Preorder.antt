-- The rows of a tree in preorder, read back: by the stack of trees, and by the debt that Check and Part count.
-- Assumes nothing.
use mathlib.Core.Path.{◌≡◌, refl, sym, ap, ap₂, ◌∙◌}
use mathlib.Core.Bool.{Bool, true, false}
use mathlib.Core.List.{List, [], ◌∷◌, ◌++◌, append-nil, append_assoc}
use Prim.Native.Nat.{ℕ, zero, suc, ◌+◌, ◌≤◌, ◌<◌}
use native.Mathlib.Nat.{add-zero, zero-add, add-suc, suc-add, add_assoc}
use native.Mathlib.Numerals.{add-one}
use native.Mathlib.Omega.{arith}
use lib.ListN.{length, length-append}
use Rattle.formula.specs.Tree.{Op, and, or, Tree, lit, node, Forest, ∅, ◌▸◌, Literals, rows, rows_all, has, has_any, count, ◌⧺◌}
use Rattle.sheet.specs.Format.{Row, row, children, Every}
use Rattle.sheet.specs.Sheet.{literal_kind, operator_kind, front, behind, grow, trees, root, tree_rows, forest_rows}
use Rattle.sheet.specs.Check.{Test, tree_test}
use Rattle.sheet.specs.Operations.{span}
use Rattle.sheet.proofs.Every.{every-++}
use Rattle.sheet.proofs.Forests.{front-⧺, behind-⧺, front-behind, count-front, count-behind}
use Rattle.formula.proofs.Booleans.{or_parts}
use Rattle.formula.proofs.Forests.{all-⧺}
pub use Rattle.formula.proofs.Forests.{rows_positive, count-rows}

-- the rows of trees side by side

pub forest_rows-⧺ : (ts us : Forest) → forest_rows (ts ⧺ us) ≡ forest_rows ts ++ forest_rows us
unfolding forest_rows
forest_rows-⧺ = all-⧺ ◌++◌ append_assoc tree_rows forest_rows (λ a. refl) (λ t ts. refl)

rows-front-behind : (n : ℕ) (ts : Forest) → forest_rows (front n ts) ++ forest_rows (behind n ts) ≡ forest_rows ts
rows-front-behind n ts = sym (forest_rows-⧺ (front n ts) (behind n ts)) ∙ ap forest_rows (front-behind n ts)

-- grow

grow-literal : (s : Bool) (v : ℕ) (ts : Forest) → grow (row (literal_kind s) v) ts ≡ lit s v ▸ ts
unfolding grow
grow-literal true v ts = refl
grow-literal false v ts = refl

grow_operator : (o : Op) (n : ℕ) (ts : Forest) → grow (row (operator_kind o) n) ts ≡ node o (front n ts) ▸ behind n ts
unfolding grow
grow_operator and n ts = refl
grow_operator or n ts = refl

-- trees

mutual
  unfolding trees tree_rows ◌⧺◌

  pub trees_tree : (t : Tree) (rs : List Row) → trees (tree_rows t ++ rs) ≡ t ▸ trees rs
  trees_tree (lit s v) rs = grow-literal s v (trees rs)
  trees_tree (node o ts) rs = rw (trees_forest ts rs, grow_operator o (count ts) (ts ⧺ trees rs), front-⧺, behind-⧺)

  pub trees_forest : (ts : Forest) (rs : List Row) → trees (forest_rows ts ++ rs) ≡ ts ⧺ trees rs
  trees_forest ∅ rs = refl
  trees_forest (t ▸ ts) rs = rw (append_assoc, trees_tree t (forest_rows ts ++ rs), trees_forest ts rs)

pub root-trees : (t : Tree) → root (trees (tree_rows t)) ≡ t
unfolding root
root-trees t = ap (λ rs. root (trees rs)) (sym (append-nil (tree_rows t))) ∙ ap root (trees_tree t [])

-- length

mutual
  unfolding tree_rows rows

  pub length-tree_rows : (t : Tree) → length (tree_rows t) ≡ rows t
  length-tree_rows (lit s v) = refl
  length-tree_rows (node o ts) = ap suc (length-forest_rows ts)

  pub length-forest_rows : (ts : Forest) → length (forest_rows ts) ≡ rows_all ts
  length-forest_rows ∅ = refl
  length-forest_rows (t ▸ ts) = length-append (tree_rows t) (forest_rows ts) ∙ ap₂ ◌+◌ (length-tree_rows t) (length-forest_rows ts)

-- the arguments are below a bound that the rows and the literals' variables are below
module _ (m : ℕ) (L : Literals) (small : (s : Bool) (v : ℕ) → L s v ≡ false → v < m) where
  mutual
    unfolding tree_rows rows has

    pub arguments-tree : (t : Tree) → rows t < m → has L t ≡ false → Every (λ r. r.argument < m) (tree_rows t)
    arguments-tree (lit s v) h e = (small s v e, tt)
    arguments-tree (node o ts) h e = (omega (arith, count-rows ts), arguments-forest ts (omega arith) e)

    arguments-forest : (ts : Forest) → rows_all ts < m → has_any L ts ≡ false → Every (λ r. r.argument < m) (forest_rows ts)
    arguments-forest ∅ h e = tt
    arguments-forest (t ▸ ts) h e =
        let b = or_parts (has L t) (has_any L ts) e in
        every-++ (λ r. r.argument < m) (tree_rows t) (forest_rows ts) (arguments-tree t (omega arith) b.0)
        (arguments-forest ts (omega arith) b.1)

-- children

children-literal : (s : Bool) (v : ℕ) → children (row (literal_kind s) v) ≡ 0
unfolding children
children-literal true v = refl
children-literal false v = refl

children_operator : (o : Op) (n : ℕ) → children (row (operator_kind o) n) ≡ n
unfolding children
children_operator and n = refl
children_operator or n = refl

-- A walk counts rows and the debt of nodes: a row pays for one node and adds its children.
module _ {A : Type 0} (walk : ℕ → ℕ → List Row → A)
    (pay : (owed i : ℕ) (r : Row) (rs : List Row) → walk (suc owed) i (r ∷ rs) ≡ walk (owed + children r) (suc i) rs) where
  mutual
    unfolding tree_rows rows count

    -- a tree's rows pay for one node
    pub walk-tree : (t : Tree) (owed i : ℕ) (rs : List Row) → walk (suc owed) i (tree_rows t ++ rs) ≡ walk owed (i + rows t) rs
    walk-tree (lit s v) owed i rs = rw (pay owed i (row (literal_kind s) v) rs, children-literal s v, add-zero, add-one)
    walk-tree (node o ts) owed i rs =
        rw (
          pay owed i (row (operator_kind o) (count ts)) (forest_rows ts ++ rs),
          children_operator o (count ts),
          walk-forest ts owed (suc i) rs,
          suc-add,
          add-suc,
        )

    -- a forest's rows for as many as it has trees
    pub walk-forest : (ts : Forest) (owed i : ℕ) (rs : List Row)
        → walk (owed + count ts) i (forest_rows ts ++ rs) ≡ walk owed (i + rows_all ts) rs
    walk-forest ∅ owed i rs = rw (add-zero owed, add-zero i)
    walk-forest (t ▸ ts) owed i rs =
        rw (append_assoc, add-suc, walk-tree t (owed + count ts) i (forest_rows ts ++ rs), walk-forest ts owed (i + rows t) rs, add_assoc)

-- tree-test

pub tree_test_tree : (t : Tree) (owed i : ℕ) (rs : List Row) → tree_test (suc owed) i (tree_rows t ++ rs) ≡ tree_test owed (i + rows t) rs
unfolding tree_test
tree_test_tree = walk-tree tree_test (λ owed i r rs. refl)

pub tree_test_one : (t : Tree) (i : ℕ) → (tree_test 1 i (tree_rows t)).fails ≡ false
unfolding tree_test
tree_test_one t i =
    ap (λ rs. (tree_test 1 i rs).fails) (sym (append-nil (tree_rows t))) ∙ ap (λ (u : Test). u.fails) (tree_test_tree t 0 i [])

-- span

pub span_tree : (t : Tree) (owed : ℕ) (rs : List Row) → span (suc owed) (tree_rows t ++ rs) ≡ rows t + span owed rs
unfolding span
span_tree t owed rs =
    sym (zero-add (span (suc owed) (tree_rows t ++ rs))) ∙ walk-tree (λ o i rs'. i + span o rs') (λ o i r rs'. omega arith) t owed 0 rs ∙
    ap (λ n. n + span owed rs) (zero-add (rows t))

-- Back: rows that are nodes and pay their debt are the rows of their trees.

pub data NodeKind : ℕ → Type 0 where
  literal : (s : Bool) → NodeKind (literal_kind s)
  operator : (o : Op) → NodeKind (operator_kind o)

abbrev pub NodeRow : Row → Type 0
NodeRow r = NodeKind r.kind

pub node-kind : (k : ℕ) → 3 ≤ k → k ≤ 6 → NodeKind k
node-kind zero h l = absurd (omega arith)
node-kind (suc zero) h l = absurd (omega arith)
node-kind (suc (suc zero)) h l = absurd (omega arith)
node-kind (suc (suc (suc zero))) h l = literal true
node-kind (suc (suc (suc (suc zero)))) h l = literal false
node-kind (suc (suc (suc (suc (suc zero))))) h l = operator and
node-kind (suc (suc (suc (suc (suc (suc zero)))))) h l = operator or
node-kind (suc (suc (suc (suc (suc (suc (suc k))))))) h l = absurd (omega arith)

pub node-kind_byte : (k : ℕ) → NodeKind k → k < 256
node-kind_byte k (literal true) = omega arith
node-kind_byte k (literal false) = omega arith
node-kind_byte k (operator and) = omega arith
node-kind_byte k (operator or) = omega arith

-- every row of a tree is a node
mutual
  unfolding tree_rows

  pub node_rows_tree : (t : Tree) → Every NodeRow (tree_rows t)
  node_rows_tree (lit s v) = (literal s, tt)
  node_rows_tree (node o ts) = (operator o, node_rows_forest ts)

  node_rows_forest : (ts : Forest) → Every NodeRow (forest_rows ts)
  node_rows_forest ∅ = tt
  node_rows_forest (t ▸ ts) = every-++ NodeRow (tree_rows t) (forest_rows ts) (node_rows_tree t) (node_rows_forest ts)

count-grow : (k a : ℕ) (ts : Forest) (d : ℕ) → NodeKind k → count ts ≡ d + children (row k a) → count (grow (row k a) ts) ≡ suc d
unfolding count
count-grow k a ts d (literal s) e = rw (grow-literal s a ts) (ap suc (e ∙ ap (λ n. d + n) (children-literal s a) ∙ add-zero d))
count-grow k a ts d (operator o) e =
    rw (grow_operator o a ts) (ap suc (omega (arith, count-behind a ts, e, children_operator o a)))

rows_grow : (k a : ℕ) (ts : Forest) (d : ℕ) → NodeKind k → count ts ≡ d + children (row k a)
    → forest_rows (grow (row k a) ts) ≡ row k a ∷ forest_rows ts
unfolding forest_rows
rows_grow k a ts d (literal s) e = rw (grow-literal s a ts)
rows_grow k a ts d (operator o) e =
    rw (grow_operator o a ts, rows-front-behind, count-front a ts (omega (arith, e, children_operator o a)))

pub count-trees : (rs : List Row) (owed i : ℕ) → Every NodeRow rs → (tree_test owed i rs).fails ≡ false → count (trees rs) ≡ owed
unfolding tree_test trees count
count-trees [] zero i h p = refl
count-trees [] (suc owed) i h p = cc
count-trees (r ∷ rs) zero i h p = cc
count-trees (r ∷ rs) (suc owed) i h p =
    count-grow r.kind r.argument (trees rs) owed h.0 (count-trees rs (owed + children r) (suc i) h.1 p)

pub rows-trees : (rs : List Row) (owed i : ℕ) → Every NodeRow rs → (tree_test owed i rs).fails ≡ false → forest_rows (trees rs) ≡ rs
unfolding tree_test trees forest_rows
rows-trees [] owed i h p = refl
rows-trees (r ∷ rs) zero i h p = cc
rows-trees (r ∷ rs) (suc owed) i h p =
    rows_grow r.kind r.argument (trees rs) owed h.0 (count-trees rs (owed + children r) (suc i) h.1 p) ∙
    ap (λ l. r ∷ l) (rows-trees rs (owed + children r) (suc i) h.1 p)

rows-root : (ts : Forest) → count ts ≡ 1 → tree_rows (root ts) ≡ forest_rows ts
unfolding count root forest_rows
rows-root ∅ e = absurd (omega arith)
rows-root (t ▸ ∅) e = sym (append-nil (tree_rows t))
rows-root (t ▸ (u ▸ us)) e = absurd (omega arith)

-- a debt of one: the rows are those of the one tree
pub rows-root-trees : (rs : List Row) (i : ℕ) → Every NodeRow rs → (tree_test 1 i rs).fails ≡ false → tree_rows (root (trees rs)) ≡ rs
rows-root-trees rs i h p = rows-root (trees rs) (count-trees rs 1 i h p) ∙ rows-trees rs 1 i h p
