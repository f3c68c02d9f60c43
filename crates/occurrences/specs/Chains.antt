-- The literals of a set along the node rows: the first from a row on, after each the next one, and the last.
-- Assumes nothing.
use Rattle.std.specs.Prelude.{◌≡◌, Bool, true, false, List, [], ◌∷◌, ◌++◌, ℕ, suc, ◌+◌, ◌≤◌, ◌<◌, length, get_or}
use Rattle.formula.specs.Tree.{Tree, lit, node, Forest, ∅, ◌▸◌, Literals, has_any}
use Rattle.formula.specs.Tidy.{first_true}
use Rattle.formula.specs.Settle.{is_lit}
use Rattle.sheet.specs.Format.{Bytes}
use Rattle.rows.specs.declared.Layout.{Layout}
use Rattle.subtrees.specs.Subtrees.{forest_in, subtree_in}

-- row by row in preorder: is the row a literal of the set?
unfoldable mutual
  pub hits : Literals → Tree → List Bool
  hits L (lit s v) = L s v ∷ []
  hits L (node o ts) = false ∷ hits_all L ts

  pub hits_all : Literals → Forest → List Bool
  hits_all L ∅ = []
  hits_all L (t ▸ ts) = hits L t ++ hits_all L ts

-- the first row from row i on that is a literal of the set, or N
unfoldable pub first_from : Literals → Layout → Bytes → ℕ → ℕ
first_from L s b i = i + first_true (hits_all L (forest_in s b i))

-- row i is the last literal of the set
pub record Last (L : Literals) (s : Layout) (b : Bytes) (i : ℕ) : Type 0 where
  pub inside : i < s.nodes
  pub is_one : is_lit L (subtree_in s b i) ≡ true
  pub none_behind : has_any L (forest_in s b (suc i)) ≡ false

-- a table by node row: after each literal of the set the next one, or N
pub record Links (L : Literals) (s : Layout) (b : Bytes) (next : List ℕ) : Type 0 where
  pub holds : s.nodes ≤ length next
  pub is : (i : ℕ) → i < s.nodes → is_lit L (subtree_in s b i) ≡ true → get_or next i 0 ≡ first_from L s b (suc i)

-- the first and the last literal of a set that has one
pub record Bounds (L : Literals) (s : Layout) (b : Bytes) (first last : ℕ) : Type 0 where
  pub inside : first < s.nodes
  pub starts : first ≡ first_from L s b 0
  pub ends : Last L s b last

-- the same with a table that leads from the first to the last
pub record Chain (L : Literals) (s : Layout) (b : Bytes) (next : List ℕ) (first last : ℕ) : Type 0 where
  pub bounds : Bounds L s b first last
  pub links : Links L s b next
