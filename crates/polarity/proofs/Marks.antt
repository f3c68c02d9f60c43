-- The turns of the walk that marks literals in the table of signs.
-- Assumes nothing.
use mathlib.Core.Path.{◌≡◌, refl, sym, ap, ◌∙◌}
use mathlib.Core.Bool.{Bool, true, false, not, ◌&&◌, ◌||◌, cond, beq, and-false, or_assoc, or_comm, or-false, or_self}
use mathlib.Core.List.{List}
use Prim.Native.Nat.{ℕ, zero, suc, ◌+◌, ◌-◌, ◌≤◌, ◌<◌}
use native.Mathlib.Omega.{arith}
use lib.Dec.{eqb}
use lib.ListN.{length, get_or, set, drop, replicate, length-set, length-drop}
use lib.Seq.{drop-length, get_or-set_same, get_or-set_other}
use borrow.Author.Tests.{eqb-true, eqb-false, ne_eqb}
use Rattle.formula.specs.Tree.{and, or, Tree, lit, node, ∅, ◌▸◌, Literals, of_sign, has, has_any, some_child, count, ◌⧺◌}
use Rattle.formula.specs.Settle.{is_lit, at_root}
use Rattle.formula.proofs.Forests.{⧺-none, count-⧺}
use Rattle.sheet.specs.Format.{Bytes}
use Rattle.sheet.specs.Sheet.{behind, trees}
use Rattle.sheet.proofs.Preorder.{length-forest_rows, count-rows}
use Rattle.rows.specs.Formulas.{node_rows_in, matrix_in, Readable}
use Rattle.rows.specs.declared.Layout.{Layout}
use Rattle.rows.proofs.Formulas.{length-nodes}
use Rattle.subtrees.specs.Subtrees.{top, kids, forest_in, subtree_in, Beside}
use Rattle.subtrees.proofs.Forest.{rest, has-⧺, sound_at, stepped_at}
use Rattle.subtrees.proofs.Matrix.{trees-nodes, sound_nodes}
use Rattle.subtrees.proofs.Siblings.{subtree_root, below_row}
use Rattle.polarity.specs.Table.{entry_of, last_entry, Unmarked, Marked, Covers, Signed}
use Rattle.polarity.specs.Value.{NumberedTo}
use Rattle.sheet.proofs.Forests.{behind-past}

-- entry_of

pub unit-bound : (u : Bool) → cond u 1 0 ≤ 1
unit-bound true = omega arith
unit-bound false = omega arith

pub sign-bound : (p : Bool) → cond p 0 1 ≤ 1
sign-bound true = omega arith
sign-bound false = omega arith

-- What is left to mark: the numbers that pass `rest`. `P` is the test of all.
pub record Marking (before : List Bool) (P rest : Bool → Bool → ℕ → Bool) (table : List Bool) : Type 0 where
  pub same_length : length table ≡ length before
  pub same : (u p : Bool) (x : ℕ) → last_entry x < length before
      → (get_or before (entry_of u p x) false || P u p x) ≡ (get_or table (entry_of u p x) false || rest u p x)

module _ {before : List Bool} {P : Bool → Bool → ℕ → Bool} where
  pub marking_start : {rest : Bool → Bool → ℕ → Bool} → ((u p : Bool) (x : ℕ) → P u p x ≡ rest u p x) → Marking before P rest before
  marking_start all = record { same_length = refl; same = λ u p x h. ap (λ c. get_or before (entry_of u p x) false || c) (all u p x) }

  pub marking_on : {Q rest rest' : Bool → Bool → ℕ → Bool} {table table' : List Bool} → Marking before P rest table
      → Marked table table' Q → ((u p : Bool) (x : ℕ) → rest u p x ≡ (Q u p x || rest' u p x)) → Marking before P rest' table'
  marking_on {Q} {rest} {rest'} {table} {table'} m one more =
      record {
        same_length = one.same_length ∙ m.same_length;
        same =
            λ u p x h. m.same u p x h ∙ ap (λ c. get_or table (entry_of u p x) false || c) (more u p x) ∙
            sym (or_assoc (get_or table (entry_of u p x) false) (Q u p x) (rest' u p x)) ∙
            ap (λ c. c || rest' u p x) (sym (one.added u p x (omega (arith, h, m.same_length))));
      }

  pub marking_done : {rest : Bool → Bool → ℕ → Bool} {table : List Bool} → Marking before P rest table
      → ((u p : Bool) (x : ℕ) → rest u p x ≡ false) → Marked before table P
  marking_done {rest} {table} m done =
      record {
        same_length = m.same_length;
        added =
            λ u p x h. sym (m.same u p x h ∙ ap (λ c. get_or table (entry_of u p x) false || c) (done u p x) ∙
            or-false (get_or table (entry_of u p x) false));
      }

pub marked-both : {before table after : List Bool} {P Q R : Bool → Bool → ℕ → Bool} → Marked before table P → Marked table after Q
    → ((u p : Bool) (x : ℕ) → R u p x ≡ (P u p x || Q u p x)) → Marked before after R
marked-both m one both =
    marking_done (marking_on (marking_on (marking_start both) m (λ u p x. refl)) one (λ u p x. sym (or-false _))) (λ u p x. refl)

-- one literal marked

module _ (table : List Bool) where
  mark_none : {P : Bool → Bool → ℕ → Bool} → ((u p : Bool) (x : ℕ) → last_entry x < length table → P u p x ≡ false) → Marked table table P
  mark_none {P} fails =
      record {
        same_length = refl;
        added =
            λ u p x h. sym (ap (λ c. get_or table (entry_of u p x) false || c) (fails u p x h) ∙ or-false (get_or table (entry_of u p x) false));
      }

  mark_entry : (u q : Bool) (v : ℕ) → last_entry v < length table
      → Marked table (set table (entry_of u q v) true) (λ w p x. beq w u && of_sign p x q v)
  mark_entry u q v held = record { same_length = length-set table (entry_of u q v) true; added = λ w p x _. all w u p q x }
    where
      other : (w u p q : Bool) (x : ℕ) → (entry_of w p x ≡ entry_of u q v → ⊥)
          → get_or (set table (entry_of u q v) true) (entry_of w p x) false ≡ (get_or table (entry_of w p x) false || false)
      other w u p q x apart =
          get_or-set_other table (entry_of u q v) (entry_of w p x) true false apart ∙ sym (or-false (get_or table (entry_of w p x) false))

      same : (u q : Bool) (x : ℕ) (m : Bool) → eqb v x ≡ m
          → get_or (set table (entry_of u q v) true) (entry_of u q x) false ≡ (get_or table (entry_of u q x) false || eqb v x)
      same u q x true e =
          rw (e, or_comm (get_or table (entry_of u q x) false) true, ← eqb-true v x e)
          (get_or-set_same table (entry_of u q v) true false (omega (arith, held, sign-bound q, unit-bound u)))
      same u q x false e = rw e (other u u q q x (λ k. eqb-false v x e (omega (arith, k))))

      either : (u p q : Bool) (x : ℕ)
          → get_or (set table (entry_of u q v) true) (entry_of u p x) false ≡ (get_or table (entry_of u p x) false || of_sign p x q v)
      either u true true x = same u true x (eqb v x) refl
      either u false false x = same u false x (eqb v x) refl
      either u true false x = other u u true false x (λ k. absurd (omega (arith, k)))
      either u false true x = other u u false true x (λ k. absurd (omega (arith, k)))

      all : (w u p q : Bool) (x : ℕ)
          → get_or (set table (entry_of u q v) true) (entry_of w p x) false ≡ (get_or table (entry_of w p x) false || (beq w u && of_sign p x q v))
      all true true p q x = either true p q x
      all false false p q x = either false p q x
      all true false p q x = other true false p q x (λ k. absurd (omega (arith, k, sign-bound p, sign-bound q)))
      all false true p q x = other false true p q x (λ k. absurd (omega (arith, k, sign-bound p, sign-bound q)))

  -- the table doesn't have the number
  pub mark_past : (u q : Bool) (v : ℕ) → length table ≤ last_entry v → Marked table table (λ w p x. (not w || u) && of_sign p x q v)
  mark_past u q v past =
      mark_none (λ w p x h. ap (λ c. (not w || u) && c) (other (beq p q) x (ne_eqb v x (λ k. absurd (omega (arith, k, h, past))))) ∙ and-false (not w || u))
    where
      other : (c : Bool) (x : ℕ) → eqb v x ≡ false → cond c (eqb v x) false ≡ false
      other true x k = k
      other false x k = refl

-- its entry for literals anywhere, and the one for unit literals if it is one
pub mark_both : (table : List Bool) (u q : Bool) (v : ℕ) {d e : ℕ} → last_entry v < length table → d ≡ entry_of false q v → e ≡ entry_of u q v
    → Marked table (set (set table d true) e true) (λ w p x. (not w || u) && of_sign p x q v)
mark_both table u q v h d e =
    rw (d, e)
    (marked-both (mark_entry table false q v h)
    (mark_entry (set table (entry_of false q v) true) u q v (omega (arith, h, length-set table (entry_of false q v) true)))
    (λ w p x. both w u (of_sign p x q v)))
  where
    both : (w u m : Bool) → ((not w || u) && m) ≡ ((beq w false && m) || (beq w u && m))
    both true true m = refl
    both true false m = refl
    both false true m = sym (or-false m)
    both false false m = sym (or_self m)

-- one row marked

module _ {table : List Bool} {u : Bool} where
  pub row_operator : (t : Tree) {a : ℕ} → 4 < (top t).kind → a ≡ (top t).argument
      → Marked table table (λ w p x. (not w || u) && is_lit (of_sign p x) t) × (a ≡ count (kids t))
  unfolding is_lit
  row_operator (lit true v) h e = absurd (omega arith)
  row_operator (lit false v) h e = absurd (omega arith)
  row_operator (node and ts) h e = (mark_none table (λ w p x _. and-false (not w || u)), e)
  row_operator (node or ts) h e = (mark_none table (λ w p x _. and-false (not w || u)), e)

  pub row-literal : (t : Tree) {k a : ℕ} {after : List Bool} → k ≡ (top t).kind → k ≤ 4 → a ≡ (top t).argument
      → Marked table after (λ w p x. (not w || u) && of_sign p x (eqb k 3) a)
      → Marked table after (λ w p x. (not w || u) && is_lit (of_sign p x) t) × (0 ≡ count (kids t))
  unfolding is_lit count
  row-literal (lit true v) is low arg m = (rw (is, arg) at m, refl)
  row-literal (lit false v) is low arg m = (rw (is, arg) at m, refl)
  row-literal (node and ts) is low arg m = absurd (omega (arith, is))
  row-literal (node or ts) is low arg m = absurd (omega (arith, is))

-- the signs of a matrix, for unit literals and for literals anywhere, and those that stand from row i on where `left` trees are left
-- of the child of the root at hand

abbrev pub all_signs : Layout → Bytes → Bool → Bool → ℕ → Bool
all_signs s b true p x = at_root (of_sign p x) (matrix_in s b)
all_signs s b false p x = has (of_sign p x) (matrix_in s b)

abbrev pub signs_from : Layout → Bytes → ℕ → ℕ → Bool → Bool → ℕ → Bool
signs_from s b i left true p x = some_child (is_lit (of_sign p x)) (behind left (forest_in s b i))
signs_from s b i left false p x = has_any (of_sign p x) (forest_in s b i)

has-top : (L : Literals) (t : Tree) → has L t ≡ (is_lit L t || has_any L (kids t))
unfolding has is_lit
has-top L (lit s v) = sym (or-false (L s v))
has-top L (node o ts) = refl

at_root-top : (L : Literals) (t : Tree) → at_root L t ≡ (is_lit L t || some_child (is_lit L) (kids t))
unfolding at_root is_lit some_child
at_root-top L (lit s v) = sym (or-false (L s v))
at_root-top L (node o ts) = refl

behind-none : (n : ℕ) → behind n ∅ ≡ ∅
unfolding behind
behind-none zero = refl
behind-none (suc n) = refl

module _ {s : Layout} (b : Bytes) (ok : Readable s b) where
  -- the tree that starts at row i, and those beside it
  whole_row : (i : ℕ) → i < s.nodes → forest_in s b i ≡ subtree_in s b i ▸ rest (forest_in s b i)
  unfolding forest_in subtree_in
  whole_row i h = (stepped_at (node_rows_in s b) (sound_nodes b ok) i (omega (arith, length-nodes b ok))).whole

  has_row : (L : Literals) (i : ℕ) → i < s.nodes
      → has_any L (forest_in s b i) ≡ (is_lit L (subtree_in s b i) || has_any L (forest_in s b (suc i)))
  unfolding has_any
  has_row L i h =
      let t = subtree_in s b i in
      let us = rest (forest_in s b i) in
      ap (has_any L) (whole_row i h) ∙
      ap (λ c. c || has_any L us) (has-top L t) ∙ or_assoc (is_lit L t) (has_any L (kids t)) (has_any L us) ∙
      ap (λ c. is_lit L t || c) (sym (ap (has_any L) (below_row b ok i h) ∙ has-⧺ L (kids t) us))

  unit_row : (P : Tree → Bool) (i left : ℕ) → i < s.nodes
      → some_child P (behind left (forest_in s b i)) ≡
      ((eqb left 0 && P (subtree_in s b i)) || some_child P (behind (left - 1 + count (kids (subtree_in s b i))) (forest_in s b (suc i))))
  unfolding some_child behind
  unit_row P i left h =
      let t = subtree_in s b i in
      let us = rest (forest_in s b i) in
      ap (λ ts. some_child P (behind left ts)) (whole_row i h) ∙ first left ∙
      ap (λ ts. (eqb left 0 && P t) || some_child P ts)
      (sym (ap (behind (left - 1 + count (kids t))) (below_row b ok i h) ∙ behind-past (kids t) us (left - 1 + count (kids t)) (left - 1) (omega arith)))
    where
      first : (left : ℕ) → some_child P (behind left (subtree_in s b i ▸ rest (forest_in s b i))) ≡
          ((eqb left 0 && P (subtree_in s b i)) || some_child P (behind (left - 1) (rest (forest_in s b i))))
      first zero = refl
      first (suc l) =
          let back : suc l - 1 ≡ l = omega arith in
          rw (back, ne_eqb (suc l) 0 (λ k. absurd (omega (arith, k))))

  -- row i's literal, and those behind it
  pub signs_row : (i left : ℕ) {j left' k : ℕ} → i < s.nodes → j ≡ suc i → k ≡ count (kids (subtree_in s b i)) → left' ≡ left - 1 + k
      → (u p : Bool) (x : ℕ)
      → signs_from s b i left u p x ≡ (((not u || eqb left 0) && is_lit (of_sign p x) (subtree_in s b i)) || signs_from s b j left' u p x)
  signs_row i left h next kids on true p x = rw (next, on, kids) (unit_row (is_lit (of_sign p x)) i left h)
  signs_row i left h next kids on false p x = rw next (has_row (of_sign p x) i h)

  -- the root's literal, and those behind it
  root-alone : forest_in s b 0 ≡ matrix_in s b ▸ ∅
  unfolding forest_in
  root-alone = trees-nodes b ok

  root-children : forest_in s b 1 ≡ kids (subtree_in s b 0)
  unfolding rest
  root-children =
      let ts = kids (subtree_in s b 0) in
      below_row b ok 0 ok.some_nodes ∙ ap (λ us. ts ⧺ us) (ap rest root-alone) ∙ ⧺-none ts

  pub signs_root : (u p : Bool) (x : ℕ)
      → all_signs s b u p x ≡ (((not u || true) && is_lit (of_sign p x) (subtree_in s b 0)) || signs_from s b 1 0 u p x)
  unfolding behind has_any
  signs_root true p x =
      let L = of_sign p x in
      ap (at_root L) (sym (subtree_root b ok)) ∙ at_root-top L (subtree_in s b 0) ∙
      ap (λ ts. is_lit L (subtree_in s b 0) || some_child (is_lit L) ts) (sym root-children)
  signs_root false p x =
      let L = of_sign p x in
      sym (ap (has_any L) root-alone ∙ or-false (has L (matrix_in s b))) ∙ has_row L 0 ok.some_nodes

  -- no row is left
  pub signs_end : (i left : ℕ) → i ≡ s.nodes → (u p : Bool) (x : ℕ) → signs_from s b i left u p x ≡ false
  unfolding forest_in trees some_child has_any
  signs_end i left e = by
    where
      none : forest_in s b i ≡ ∅
      none =
          ap trees (ap (λ m. drop m (node_rows_in s b)) (e ∙ sym (length-nodes b ok)) ∙ drop-length (node_rows_in s b))

      by : (u p : Bool) (x : ℕ) → signs_from s b i left u p x ≡ false
      by true p x = ap (some_child (is_lit (of_sign p x))) (ap (behind left) none ∙ behind-none left)
      by false p x = ap (has_any (of_sign p x)) none

  -- the trees left at a row, and behind it
  few_trees : (i : ℕ) → count (forest_in s b i) ≤ 8192
  unfolding forest_in
  few_trees i =
      let rs = node_rows_in s b in
      omega (
        arith,
        count-rows (forest_in s b i),
        sym (length-forest_rows (forest_in s b i)) ∙ ap length (sound_at rs (sound_nodes b ok) i),
        length-drop i rs,
        length-nodes b ok,
        ok.few_nodes,
      )

  module _ (i : ℕ) {left k : ℕ} (h : i < s.nodes) (are : k ≡ count (kids (subtree_in s b i))) (few : Beside s b i left) where
    pub left-on : {j left' : ℕ} → j ≡ suc i → left' ≡ left - 1 + k → Beside s b j left'
    unfolding count
    left-on next on =
        let cs = kids (subtree_in s b i) in
        let us = rest (forest_in s b i) in
        rw next (omega (arith, on, are, few, ap count (whole_row i h), ap count (below_row b ok i h), count-⧺ cs us))

    pub left-fits : left + k ≤ 16384
    left-fits =
        let cs = kids (subtree_in s b i) in
        let us = rest (forest_in s b i) in
        omega (arith, are, few, few_trees i, few_trees (suc i), ap count (below_row b ok i h), count-⧺ cs us)

-- the whole table

pub unmarked : (n : ℕ) → Unmarked (replicate n false)
unmarked zero e = refl
unmarked (suc n) zero = refl
unmarked (suc n) (suc e) = unmarked n e

pub numbered_covers : {s : Layout} {b : Bytes} {most n : ℕ} → NumberedTo most s b → last_entry most < n → Covers s b n
numbered_covers numbers h i l = omega (arith, numbers.few_numbers i l, h)

pub signs_filled : {s : Layout} {b : Bytes} {before after : List Bool} → Unmarked before → Covers s b (length before)
    → Marked before after (all_signs s b) → Signed s b after
signs_filled {s} {b} none covers m =
    record {
      covers = λ i h. omega (arith, m.same_length, covers i h);
      anywhere =
          λ p x h. m.added false p x (omega (arith, h, m.same_length)) ∙
          ap (λ c. c || has (of_sign p x) (matrix_in s b)) (none (entry_of false p x));
      units =
          λ p x h. m.added true p x (omega (arith, h, m.same_length)) ∙
          ap (λ c. c || at_root (of_sign p x) (matrix_in s b)) (none (entry_of true p x));
    }
