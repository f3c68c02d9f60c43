-- Two subtrees compared row by row: what is left of the rows decides whether they are the same.
-- Assumes nothing.
use mathlib.Core.Path.{◌≡◌, refl, sym, ap, ap₂, ◌∙◌}
use mathlib.Core.Bool.{Bool, true, false, ◌&&◌, and_assoc, and-true, true≢false}
use Prim.Native.Nat.{ℕ, zero, suc, ◌+◌, ◌-◌, ◌≤◌, ◌<◌}
use native.Mathlib.Omega.{arith}
use lib.Dec.{eqb}
use lib.ListN.{length, length-drop}
use borrow.Author.Tests.{eqb-true, eq-eqb, ne_eqb}
use Rattle.formula.specs.Tree.{and, or, Tree, lit, node, Forest, ∅, ◌▸◌, count, ◌⧺◌}
use Rattle.formula.specs.Tidy.{same_tree, same_trees}
use Rattle.formula.proofs.Booleans.{and_parts}
use Rattle.formula.proofs.Forests.{count-rows}
use Rattle.formula.proofs.Tidy.Same.{same_tree_same}
use Rattle.formula.proofs.Tidy.Children.{count-⧺}
use Rattle.sheet.specs.Format.{Bytes, row, children}
use Rattle.sheet.specs.Sheet.{front}
use Rattle.sheet.proofs.Preorder.{length-forest_rows}
use Rattle.rows.specs.Formulas.{node_rows_in, Readable}
use Rattle.rows.specs.declared.Layout.{Layout}
use Rattle.rows.proofs.Formulas.{length-nodes}
use Rattle.subtrees.specs.Subtrees.{top, kids, forest_in, subtree_in, siblings_in, Beside}
use Rattle.subtrees.proofs.Forest.{rest, sound_at, some_row, stepped_at}
use Rattle.subtrees.proofs.Table.{children-top}
use Rattle.subtrees.proofs.Matrix.{sound_nodes}
use Rattle.subtrees.proofs.Siblings.{siblings-none, below_row}
use Rattle.duplicates.specs.Members.{same_top}

-- same-top

pub tops_kind : (t u : Tree) → ((top t).kind ≡ (top u).kind → ⊥) → same_top t u ≡ false
unfolding same_top
tops_kind t u d = ap (λ (c : Bool). c && eqb (top t).argument (top u).argument) (ne_eqb _ _ d)

pub tops_argument : (t u : Tree) {a a' : ℕ} → (top t).kind ≡ (top u).kind → a ≡ (top t).argument → a' ≡ (top u).argument → same_top t u ≡ eqb a a'
unfolding same_top
tops_argument t u e f f' =
    ap (λ (c : Bool). c && eqb (top t).argument (top u).argument) (eq-eqb _ _ e) ∙ sym (ap₂ eqb f f')

tops_same : (t u : Tree) → t ≡ u → same_top t u ≡ true
unfolding same_top
tops_same t u e = ap₂ ◌&&◌ (eq-eqb _ _ (ap (λ w. (top w).kind) e)) (eq-eqb _ _ (ap (λ w. (top w).argument) e))

tops_count : (t u : Tree) → same_top t u ≡ true → count (kids t) ≡ count (kids u)
unfolding same_top
tops_count t u e =
    let (kinds, arguments) = and_parts (eqb (top t).kind (top u).kind) _ e in
    sym (children-top t) ∙ ap₂ (λ k a. children (row k a)) (eqb-true _ _ kinds) (eqb-true _ _ arguments) ∙ children-top u

-- same-trees

same_trees-⧺ : (cs ds ts us : Forest) → count cs ≡ count ds → same_trees (cs ⧺ ts) (ds ⧺ us) ≡ (same_trees cs ds && same_trees ts us)
unfolding same_trees count ◌⧺◌
same_trees-⧺ ∅ ∅ ts us e = refl
same_trees-⧺ ∅ (d ▸ ds) ts us e = absurd (omega arith)
same_trees-⧺ (c ▸ cs) ∅ ts us e = absurd (omega arith)
same_trees-⧺ (c ▸ cs) (d ▸ ds) ts us e =
    ap (λ b. same_tree c d && b) (same_trees-⧺ cs ds ts us (omega arith)) ∙ sym (and_assoc (same_tree c d) (same_trees cs ds) (same_trees ts us))

-- first rows that differ tell the trees apart
pub other_rows : (t u : Tree) (ts us : Forest) → same_top t u ≡ false → same_trees (t ▸ ts) (u ▸ us) ≡ false
unfolding same_trees
other_rows t u ts us e = by (same_tree t u) refl
  where
    by : (c : Bool) → same_tree t u ≡ c → (c && same_trees ts us) ≡ false
    by true q = absurd (true≢false (sym (tops_same t u (same_tree_same t u q)) ∙ e))
    by false q = refl

-- where they are the same, the rows behind them decide
pub same_rows : (t u : Tree) (ts us : Forest) → same_top t u ≡ true → same_trees (t ▸ ts) (u ▸ us) ≡ same_trees (kids t ⧺ ts) (kids u ⧺ us)
unfolding same_top same_trees ◌⧺◌
same_rows (lit true v) (lit true v') ts us e = ap (λ (c : Bool). (c && true) && same_trees ts us) e
same_rows (lit true v) (lit false v') ts us e = absurd (true≢false (sym e))
same_rows (lit false v) (lit true v') ts us e = absurd (true≢false (sym e))
same_rows (lit false v) (lit false v') ts us e = ap (λ (c : Bool). (c && true) && same_trees ts us) e
same_rows (lit true v) (node and ds) ts us e = absurd (true≢false (sym e))
same_rows (lit true v) (node or ds) ts us e = absurd (true≢false (sym e))
same_rows (lit false v) (node and ds) ts us e = absurd (true≢false (sym e))
same_rows (lit false v) (node or ds) ts us e = absurd (true≢false (sym e))
same_rows (node and cs) (lit true v) ts us e = absurd (true≢false (sym e))
same_rows (node and cs) (lit false v) ts us e = absurd (true≢false (sym e))
same_rows (node or cs) (lit true v) ts us e = absurd (true≢false (sym e))
same_rows (node or cs) (lit false v) ts us e = absurd (true≢false (sym e))
same_rows (node and cs) (node or ds) ts us e = absurd (true≢false (sym e))
same_rows (node or cs) (node and ds) ts us e = absurd (true≢false (sym e))
same_rows (node and cs) (node and ds) ts us e = sym (same_trees-⧺ cs ds ts us (eqb-true (count cs) (count ds) e))
same_rows (node or cs) (node or ds) ts us e = sym (same_trees-⧺ cs ds ts us (eqb-true (count cs) (count ds) e))

-- children before the trees beside
front_more : (cs ts : Forest) (n : ℕ) {m : ℕ} → m ≡ count cs + n → front m (cs ⧺ ts) ≡ cs ⧺ front n ts
unfolding front count ◌⧺◌
front_more ∅ ts n {m} e = let same : m ≡ n = omega arith in rw same
front_more (c ▸ cs) ts n {m = zero} e = absurd (omega arith)
front_more (c ▸ cs) ts n {m = suc m} e = ap (λ us. c ▸ us) (front_more cs ts n {m = m} (omega arith))

-- What is left to compare: the first `left` trees from each of two rows on.
pub record Comparing (s : Layout) (b : Bytes) (same : Bool) (at other left : ℕ) : Type 0 where
  pub few : Beside s b at left
  pub few_other : Beside s b other left
  pub answer : same ≡ same_trees (siblings_in s b at left) (siblings_in s b other left)

module _ {s : Layout} (b : Bytes) (ok : Readable s b) where
  -- a tree that is left has its first row among the nodes
  pub inside : (at : ℕ) {left : ℕ} → 0 < left → Beside s b at left → at < s.nodes
  unfolding forest_in
  inside at h few = omega (arith, length-nodes b ok, some_row (node_rows_in s b) at (omega arith))

  pub few_left : (at : ℕ) {left : ℕ} → Beside s b at left → left ≤ s.nodes
  unfolding forest_in
  few_left at few =
      let ts = forest_in s b at in
      omega (
        arith,
        length-nodes b ok,
        count-rows ts,
        length-forest_rows ts,
        ap length (sound_at (node_rows_in s b) (sound_nodes b ok) at),
        length-drop at (node_rows_in s b),
      )

  abbrev beside : ℕ → ℕ → Forest
  beside at left = front (left - 1) (rest (forest_in s b at))

  first_left : (at : ℕ) {left : ℕ} → 0 < left → at < s.nodes → siblings_in s b at left ≡ subtree_in s b at ▸ beside at left
  unfolding siblings_in subtree_in forest_in front
  first_left at {left = zero} h i = absurd (omega arith)
  first_left at {left = suc l} h i =
      let back : suc l - 1 ≡ l = omega arith in
      rw back
      (ap (front (suc l)) (stepped_at (node_rows_in s b) (sound_nodes b ok) at (omega (arith, length-nodes b ok))).whole)

  -- the next row: the children of the tree, then those beside it
  module _ (at : ℕ) {left left' : ℕ} (h : 0 < left) (few : Beside s b at left) (i : at < s.nodes)
      (next : left' ≡ count (kids (subtree_in s b at)) + (left - 1)) where
    pub next-few : Beside s b (suc at) left'
    unfolding forest_in count
    next-few =
        omega (
          arith,
          ap count (below_row b ok at i),
          count-⧺ (kids (subtree_in s b at)) (rest (forest_in s b at)),
          ap count (stepped_at (node_rows_in s b) (sound_nodes b ok) at (omega (arith, length-nodes b ok))).whole,
        )

    next-left : siblings_in s b (suc at) left' ≡ kids (subtree_in s b at) ⧺ beside at left
    unfolding siblings_in
    next-left = ap (front left') (below_row b ok at i) ∙ front_more (kids (subtree_in s b at)) (rest (forest_in s b at)) (left - 1) next

  one_left : (n : ℕ) → n < s.nodes → Beside s b n 1
  unfolding forest_in count
  one_left n l = omega (arith, ap count (stepped_at (node_rows_in s b) (sound_nodes b ok) n (omega (arith, length-nodes b ok))).whole)

  pub compare_start : {i j : ℕ} → i < s.nodes → j < s.nodes → Comparing s b (same_tree (subtree_in s b i) (subtree_in s b j)) i j 1
  unfolding same_trees front
  compare_start {i} {j} h k =
      record {
        few = one_left i h;
        few_other = one_left j k;
        answer =
            sym
            (ap₂ same_trees (first_left i (omega arith) h) (first_left j (omega arith) k) ∙
            and-true (same_tree (subtree_in s b i) (subtree_in s b j)));
      }

  module _ {same : Bool} {at other left : ℕ} (h : 0 < left) (c : Comparing s b same at other left) where
    abbrev t : Tree
    t = subtree_in s b at

    abbrev u : Tree
    u = subtree_in s b other

    heads-first : same ≡ same_trees (t ▸ beside at left) (u ▸ beside other left)
    heads-first =
        c.answer ∙ ap₂ same_trees (first_left at h (inside at h c.few)) (first_left other h (inside other h c.few_other))

    pub compare_differ : same_top (subtree_in s b at) (subtree_in s b other) ≡ false → same ≡ false
    compare_differ e = heads-first ∙ other_rows t u (beside at left) (beside other left) e

    pub compare-on : {at' other' left' : ℕ} → same_top (subtree_in s b at) (subtree_in s b other) ≡ true → at' ≡ suc at → other' ≡ suc other
        → left' ≡ count (kids (subtree_in s b at)) + (left - 1) → Comparing s b same at' other' left'
    compare-on {at'} {other'} {left'} e next next' more =
        let more' : left' ≡ count (kids u) + (left - 1) = omega (arith, more, tops_count t u e) in
        let i = inside at h c.few in
        let i' = inside other h c.few_other in
        rw (next, next')
        (record {
          few = next-few at h c.few i more;
          few_other = next-few other h c.few_other i' more';
          answer =
              heads-first ∙ same_rows t u (beside at left) (beside other left) e ∙
              sym (ap₂ same_trees (next-left at h c.few i more) (next-left other h c.few_other i' more'));
        })

  pub compare_done : {same : Bool} {at other left : ℕ} → left ≤ 0 → Comparing s b same at other left → same ≡ true
  unfolding same_trees
  compare_done {same} {at} {other} h c = c.answer ∙ ap₂ same_trees (siblings-none s b at h) (siblings-none s b other h)
