-- Siblings that a tidy sheet doesn't have, as they are looked for: a member is a child, by its row and its hash.
-- Assumes nothing.
use Rattle.std.specs.Prelude.{◌≡◌, Bool, false, ◌||◌, ◌&&◌, List, ℕ, zero, suc, ◌<◌, eqb, get_or}
use Rattle.formula.specs.Tree.{Tree, Forest, ∅, ◌▸◌, ◌⧺◌, count, some_child, some_two}
use Rattle.formula.specs.Tidy.{same_variable, duplicate}
use Rattle.buckets.specs.Halves.{row_of, hash_of}
use Rattle.buckets.specs.Hashes.{hash}
use Rattle.sheet.specs.Format.{Bytes}
use Rattle.rows.specs.declared.Layout.{Layout}
use Rattle.subtrees.specs.Subtrees.{top, subtree_in}

-- literals of one variable, or operators that are the same
unfoldable pub clash : Tree → Tree → Bool
clash t u = same_variable t u || duplicate t u

-- two trees whose first rows are the same
unfoldable pub same_top : Tree → Tree → Bool
same_top t u = eqb (top t).kind (top u).kind && eqb (top t).argument (top u).argument

-- the tree of a member
abbrev pub tree_of : Layout → Bytes → ℕ → Tree
tree_of s b m = subtree_in s b (row_of m)

pub record Member (s : Layout) (b : Bytes) (m : ℕ) : Type 0 where
  pub inside : row_of m < s.nodes
  pub hashed : hash_of m ≡ hash (tree_of s b m)

abbrev pub Members : Layout → Bytes → List ℕ → ℕ → Type 0
Members s b M n = (i : ℕ) → i < n → Member s b (get_or M i 0)

-- one of the first n members passes the test
unfoldable pub some_member : (ℕ → Bool) → List ℕ → ℕ → Bool
some_member P M zero = false
some_member P M (suc n) = P (get_or M n 0) || some_member P M n

-- two members clash
abbrev pub clashes_with : Layout → Bytes → ℕ → ℕ → Bool
clashes_with s b m w = clash (tree_of s b w) (tree_of s b m)

-- two of the first n members clash
unfoldable pub two_clash : Layout → Bytes → List ℕ → ℕ → Bool
two_clash s b M zero = false
two_clash s b M (suc n) = some_member (clashes_with s b (get_or M n 0)) M n || two_clash s b M n

-- The first n members are these siblings: whether one clashes with a tree, and whether two clash, is the same for members and for siblings.
pub record Gathered (s : Layout) (b : Bytes) (M : List ℕ) (n : ℕ) (ts : Forest) : Type 0 where
  pub as_many : n ≡ count ts
  pub are_members : Members s b M n
  pub one_clashes : (u : Tree) → some_member (λ m. clash (tree_of s b m) u) M n ≡ some_child (λ t. clash t u) ts
  pub two_clash_there : two_clash s b M n ≡ some_two clash ts

-- the members with one sibling more
abbrev pub Adds : Layout → Bytes → Tree → List ℕ → ℕ → List ℕ → ℕ → Type 0
Adds s b t M n M' n' = (ts : Forest) → Gathered s b M n ts → Gathered s b M' n' (ts ⧺ (t ▸ ∅))
