-- Siblings gathered one by one: what a sibling more does to the members.
-- Assumes nothing.
use mathlib.Core.Path.{◌≡◌, refl, sym, ap, ap₂, ◌∙◌, subst}
use mathlib.Core.Bool.{Bool, ◌||◌, or-false, or_comm}
use mathlib.Core.List.{List}
use Prim.Native.Nat.{ℕ, zero, suc, ◌-◌, ◌≤◌, ◌<◌}
use native.Mathlib.Numerals.{add-one}
use native.Mathlib.Omega.{arith}
use lib.ListN.{length, get_or, set}
use lib.Seq.{get_or-set_same, get_or-set_other}
use Rattle.formula.specs.Tree.{Tree, Forest, ∅, ◌▸◌, ◌⧺◌, count, some_child, some_two}
use Rattle.formula.proofs.Forests.{count-rows}
use Rattle.formula.proofs.Tidy.Children.{some_child-⧺, some_two-⧺, count-⧺, ⧺-assoc, ⧺-none}
use Rattle.buckets.specs.Halves.{member_of, row_of, hash_of}
use Rattle.buckets.specs.Hashes.{hash}
use Rattle.buckets.proofs.Hashes.{hash_few}
use Rattle.sheet.specs.Format.{Bytes}
use Rattle.rows.specs.Formulas.{Readable}
use Rattle.rows.specs.declared.Layout.{Layout}
use Rattle.subtrees.specs.Subtrees.{kids, subtree_in, siblings_in, Beside}
use Rattle.subtrees.proofs.Forest.{rows-kids}
use Rattle.subtrees.proofs.Siblings.{Walked, Children, siblings-none, subtree_within}
use Rattle.duplicates.specs.Members.{clash, tree_of, Member, some_member, clashes_with, two_clash, Gathered, Adds}
use Rattle.buckets.proofs.Chains.{less_or_same}

-- some-two at the end of a list
two_last : (R : Tree → Tree → Bool) (ts : Forest) (u : Tree) → some_two R (ts ⧺ (u ▸ ∅)) ≡ (some_child (λ t. R t u) ts || some_two R ts)
unfolding some_two some_child
two_last R ts u =
    some_two-⧺ R ts (u ▸ ∅) ∙ ap (λ b. some_two R ts || b) (or-false _ ∙ or-false _) ∙
    or_comm (some_two R ts) (some_child (λ t. R t u) ts)

child_last : (P : Tree → Bool) (ts : Forest) (u : Tree) → some_child P (ts ⧺ (u ▸ ∅)) ≡ (P u || some_child P ts)
unfolding some_child
child_last P ts u = some_child-⧺ P ts (u ▸ ∅) ∙ ap (λ b. some_child P ts || b) (or-false (P u)) ∙ or_comm (some_child P ts) (P u)

count-last : (ts : Forest) (u : Tree) → count (ts ⧺ (u ▸ ∅)) ≡ suc (count ts)
unfolding count
count-last ts u = count-⧺ ts (u ▸ ∅) ∙ add-one (count ts)

-- members from there on don't matter
member-set : (P : ℕ → Bool) (M : List ℕ) (n m i : ℕ) → i ≤ n → some_member P (set M n m) i ≡ some_member P M i
unfolding some_member
member-set P M n m zero l = refl
member-set P M n m (suc i) l =
    ap₂ ◌||◌ (ap P (get_or-set_other M n i m 0 (λ e. omega arith))) (member-set P M n m i (omega arith))

two_set : (s : Layout) (b : Bytes) (M : List ℕ) (n m i : ℕ) → i ≤ n → two_clash s b (set M n m) i ≡ two_clash s b M i
unfolding two_clash
two_set s b M n m zero l = refl
two_set s b M n m (suc i) l =
    ap₂ ◌||◌
    (member-set (clashes_with s b (get_or (set M n m) i 0)) M n m i (omega arith) ∙
    ap (λ (w : ℕ). some_member (clashes_with s b w) M i) (get_or-set_other M n i m 0 (λ e. omega arith)))
    (two_set s b M n m i (omega arith))

module _ {s : Layout} {b : Bytes} {M : List ℕ} {n m : ℕ} {ts : Forest} (g : Gathered s b M n ts) (u : Tree) (fits : n < length M) (is_member : Member s b m)
    (is-tree : tree_of s b m ≡ u) where
  M' : List ℕ
  M' = set M n m

  new : get_or M' n 0 ≡ m
  unfolding M'
  new = get_or-set_same M n m 0 fits

  old_or-new : (i : ℕ) → i < suc n → Member s b (get_or M' i 0)
  unfolding M'
  old_or-new i l =
      less_or_same i n l (λ e. subst (Member s b) (sym (ap (λ (j : ℕ). get_or M' j 0) e ∙ new)) is_member)
      (λ below. subst (Member s b) (sym (get_or-set_other M n i m 0 (λ e. omega arith))) (g.are_members i below))

  found : (w : Tree) → some_member (λ x. clash (tree_of s b x) w) M' (suc n) ≡ (clash u w || some_child (λ t. clash t w) ts)
  unfolding M' some_member
  found w =
      ap₂ ◌||◌ (ap (λ (x : ℕ). clash (tree_of s b x) w) new ∙ ap (λ t. clash t w) is-tree)
      (member-set (λ x. clash (tree_of s b x) w) M n m n (omega arith) ∙ g.one_clashes w)

  pairs : two_clash s b M' (suc n) ≡ (some_child (λ t. clash t u) ts || some_two clash ts)
  unfolding M' two_clash
  pairs =
      ap₂ ◌||◌
      (member-set (clashes_with s b (get_or M' n 0)) M n m n (omega arith) ∙
      ap (λ w. some_member (λ x. clash (tree_of s b x) w) M n) (ap (tree_of s b) new ∙ is-tree) ∙ g.one_clashes u)
      (two_set s b M n m n (omega arith) ∙ g.two_clash_there)

  pub gather_more : {n' : ℕ} → n' ≡ suc n → Gathered s b (set M n m) n' (ts ⧺ (u ▸ ∅))
  unfolding M'
  gather_more next =
      rw next
      (record {
        as_many = ap suc g.as_many ∙ sym (count-last ts u);
        are_members = old_or-new;
        one_clashes = λ w. found w ∙ sym (child_last (λ t. clash t w) ts u);
        two_clash_there = pairs ∙ sym (two_last clash ts u);
      })

-- a row and the hash of its subtree are a member
module _ (s : Layout) (b : Bytes) (at : ℕ) {p m : ℕ} (inside : at < s.nodes) (is : p ≡ hash (subtree_in s b at)) (m-is : m ≡ member_of at p) where
  row_is : row_of m ≡ at
  row_is = omega (arith, hash_few (subtree_in s b at))

  pub member_tree : tree_of s b m ≡ subtree_in s b at
  member_tree = ap (subtree_in s b) row_is

  pub is_member : Member s b m
  is_member =
      record { inside = omega (arith, row_is); hashed = low ∙ is ∙ ap hash (sym member_tree) }
    where
      low : hash_of m ≡ p
      low = omega (arith, hash_few (subtree_in s b at))

-- The walk over an operator's children: those passed are gathered.
pub record Gathering (s : Layout) (b : Bytes) (size : ℕ) (all : Forest) (M : List ℕ) (at left n : ℕ) : Type 0 where
  pub same_length : length M ≡ size
  pub beside : Beside s b at left
  pub passed : Forest
  pub whole : passed ⧺ siblings_in s b at left ≡ all
  pub gathered : Gathered s b M n passed

pub gather_none : (s : Layout) (b : Bytes) (M : List ℕ) → Gathered s b M 0 ∅
unfolding some_member two_clash some_child some_two count
gather_none s b M =
    record { as_many = refl; are_members = λ i l. absurd (omega arith); one_clashes = λ u. refl; two_clash_there = refl }

module _ {s : Layout} (b : Bytes) where
  pub gather_start : (M : List ℕ) {i from k : ℕ} → Children s b i from k → Gathering s b (length M) (kids (subtree_in s b i)) M from k 0
  unfolding ◌⧺◌
  gather_start M c =
      record { same_length = refl; beside = c.few; passed = ∅; whole = c.are; gathered = gather_none s b M }

  module _ {size : ℕ} {all : Forest} {M : List ℕ} {at left n : ℕ} (g : Gathering s b size all M at left n) where
    -- a child that is left leaves room for it among the members
    pub gather-room : {ends : List ℕ} → Walked s b ends at left → count all ≤ size → n < length M
    unfolding count
    gather-room {ends} w room =
        let rest = siblings_in s b (get_or ends at 0) (left - 1) in
        omega
        (arith, g.same_length, g.gathered.as_many, ap count (sym g.whole), count-⧺ g.passed (siblings_in s b at left), ap count w.split)

    pub gather-on : {ends M' : List ℕ} {n' : ℕ} → Walked s b ends at left → length M' ≡ length M
        → Adds s b (subtree_in s b at) M n M' n'
        → Gathering s b size all M' (get_or ends at 0) (left - 1) n'
    unfolding ◌⧺◌
    gather-on {ends} w same f =
        let t = subtree_in s b at in
        let rest = siblings_in s b (get_or ends at 0) (left - 1) in
        record {
          same_length = same ∙ g.same_length;
          beside = w.few;
          passed = g.passed ⧺ (t ▸ ∅);
          whole = ⧺-assoc g.passed (t ▸ ∅) rest ∙ ap (λ ts. g.passed ⧺ ts) (sym w.split) ∙ g.whole;
          gathered = f g.passed g.gathered;
        }

    pub gather-done : left ≤ 0 → Gathered s b M n all
    gather-done h =
        subst (Gathered s b M n) (sym (⧺-none g.passed) ∙ ap (λ ts. g.passed ⧺ ts) (sym (siblings-none s b at h)) ∙ g.whole) g.gathered

  pub kids_few : Readable s b → (i : ℕ) → i < s.nodes → count (kids (subtree_in s b i)) ≤ s.nodes
  kids_few ok i h =
      omega (arith, count-rows (kids (subtree_in s b i)), rows-kids (subtree_in s b i), subtree_within b ok i h)
