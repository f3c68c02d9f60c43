-- The relevant subtree by rows: what a set's relevant subtree holds, by the operator that the descent finds.
-- Assumes nothing.
use mathlib.Core.Path.{◌≡◌, refl, sym, ◌∙◌, ap, ap₂}
use mathlib.Core.Bool.{Bool, true, false, ◌||◌, cond, true≢false, false≢true}
use Prim.Native.Nat.{ℕ, suc, ◌+◌, ◌<◌}
use native.Mathlib.Omega.{arith}
use lib.ListN.{length}
use borrow.Author.Tests.{lt-ltb}
use Rattle.formula.specs.Tree.{Tree, lit, node, Forest, ∅, ◌▸◌, ◌⧺◌, Literals, rows, has, has_any, count}
use Rattle.formula.specs.Settle.{is_lit}
use Rattle.formula.specs.Expand.{relevant, one_relevant}
use Rattle.formula.specs.Outer.{within, within_below}
use Rattle.sheet.specs.Format.{Bytes}
use Rattle.sheet.specs.Sheet.{root}
use Rattle.rows.specs.Formulas.{node_rows_in, matrix_in, Readable}
use Rattle.rows.specs.declared.Layout.{Layout}
use Rattle.rows.proofs.Formulas.{length-nodes}
use Rattle.subtrees.specs.Subtrees.{kids, forest_in, subtree_in}
use Rattle.subtrees.proofs.Forest.{rest, some_row, siblings}
use Rattle.subtrees.proofs.Matrix.{trees-nodes, sound_nodes}
use Rattle.subtrees.proofs.Siblings.{below_row}
use Rattle.occurrences.specs.Chains.{Bounds}
use Rattle.occurrences.proofs.Chains.{first_here, occurs, pending}
use Rattle.subtrees.specs.Parts.{relevant_subtree, part_below, operator_part}
use Rattle.relevance.specs.declared.Range.{Range}
use Rattle.subtrees.specs.declared.relevant.Relevant.{Relevant}
use Rattle.relevance.proofs.Descent.{found_before}

-- the relevant subtree at its own operator
abbrev within-top : Literals → Literals → Tree → Bool
within-top L M (lit s v) = M s v
within-top L M (node o ts) = has_any M (relevant L ts)

-- the part p of a tree in which M is held or not
record Found (L M : Literals) (s : Layout) (b : Bytes) (m : Bool) (p : Relevant) : Type 0 where
  is : m ≡ within-top L M (subtree_in s b p.operator)
  holds : has L (subtree_in s b p.operator) ≡ true

-- a tree and those beside it, from row i on
at_head : {s : Layout} (b : Bytes) → Readable s b → (t : Tree) (us : Forest) (i : ℕ) → forest_in s b i ≡ t ▸ us
    → (i < s.nodes) × (subtree_in s b i ≡ t) × (forest_in s b (suc i) ≡ kids t ⧺ us) × (forest_in s b (i + rows t) ≡ us)
unfolding forest_in subtree_in root rest count
at_head {s} b ok t us i e =
    let in_rows : i < length (node_rows_in s b) = some_row (node_rows_in s b) i (omega (arith, ap count e)) in
    let inside : i < s.nodes = omega (arith, length-nodes b ok) in
    let is : root (forest_in s b i) ≡ t = ap root e in (
      inside,
      is,
      below_row b ok i inside ∙ ap₂ (λ (u : Tree) (ts : Forest). kids u ⧺ ts) is (ap rest e),
      ap (λ (u : Tree). forest_in s b (i + rows u)) (sym is) ∙
          sym (ap rest (siblings (node_rows_in s b) (sound_nodes b ok) i in_rows)) ∙
          ap rest e,
    )

module _ (L M : Literals) {s : Layout} (b : Bytes) (ok : Readable s b) where
  found-node : (o : _) (ts : Forest) (i : ℕ) → subtree_in s b i ≡ node o ts → has_any L ts ≡ true
      → (one_relevant L ts ≡ true → Found L M s b (within_below L M ts) (part_below L (suc i) ts)) → (c : Bool) → one_relevant L ts ≡ c
      → Found L M s b (cond c (within_below L M ts) (has_any M (relevant L ts))) (cond c (part_below L (suc i) ts) (operator_part L i ts))
  unfolding has operator_part
  found-node o ts i is h below true e = below e
  found-node o ts i is h below false e = record { is = ap (within-top L M) (sym is); holds = ap (has L) is ∙ h }

  found_first : (t : Tree) (ts : Forest) (i : ℕ) (c : Bool) → has L t ≡ c → (has L t ≡ true → Found L M s b (within L M t) (relevant_subtree L i t))
      → (has L t ≡ false → Found L M s b (within_below L M ts) (part_below L (i + rows t) ts))
      → Found L M s b (cond c (within L M t) (within_below L M ts)) (cond c (relevant_subtree L i t) (part_below L (i + rows t) ts))
  found_first t ts i true e here there = here e
  found_first t ts i false e here there = there e

  mutual
    unfolding within within_below relevant_subtree part_below has has_any ◌⧺◌

    found : (t : Tree) (us : Forest) (i : ℕ) → forest_in s b i ≡ t ▸ us → has L t ≡ true → Found L M s b (within L M t) (relevant_subtree L i t)
    found (lit p v) us i e h =
        let is = (at_head b ok (lit p v) us i e).1 in
        record { is = ap (within-top L M) (sym is); holds = ap (has L) is ∙ h }
    found (node o ts) us i e h =
        let head = at_head b ok (node o ts) us i e in
        found-node o ts i head.1 h (λ k. found_below ts us (suc i) head.2 h) (one_relevant L ts) refl

    found_below : (ts us : Forest) (i : ℕ) → forest_in s b i ≡ ts ⧺ us → has_any L ts ≡ true
        → Found L M s b (within_below L M ts) (part_below L i ts)
    found_below ∅ us i e h = absurd (false≢true h)
    found_below (t ▸ ts) us i e h =
        found_first t ts i (has L t) refl (λ k. found t (ts ⧺ us) i e k)
        (λ k. found_below ts us (i + rows t) (at_head b ok t (ts ⧺ us) i e).3 (sym (ap (λ (c : Bool). c || has_any L ts) k) ∙ h))

  found-root : has L (matrix_in s b) ≡ true → Found L M s b (within L M (matrix_in s b)) (relevant_subtree L 0 (matrix_in s b))
  unfolding forest_in
  found-root h = found (matrix_in s b) ∅ 0 (trees-nodes b ok) h

-- of a literal, and of what is none
top-literal : (L M : Literals) (t : Tree) → is_lit L t ≡ true → within-top L M t ≡ is_lit M t
unfolding is_lit
top-literal L M (lit s v) h = refl
top-literal L M (node o ts) h = absurd (false≢true h)

top_operator : (L M : Literals) (t : Tree) → is_lit L t ≡ false → has L t ≡ true → within-top L M t ≡ has_any M (relevant L (kids t))
unfolding is_lit has
top_operator L M (lit s v) e h = absurd (true≢false (sym h ∙ e))
top_operator L M (node o ts) e h = refl

module _ (L M : Literals) {s : Layout} (b : Bytes) (ok : Readable s b) (c : Range) (k : Bounds L s b c.first c.last)
    {at : ℕ} (is_at : at ≡ (relevant_subtree L 0 (matrix_in s b)).operator) where
  here : Found L M s b (within L M (matrix_in s b)) (relevant_subtree L 0 (matrix_in s b))
  here = found-root L M b ok (sym (occurs L b ok k.starts) ∙ lt-ltb _ _ k.inside)

  by_row : within L M (matrix_in s b) ≡ within-top L M (subtree_in s b at)
  by_row = here.is ∙ ap (λ (i : ℕ). within-top L M (subtree_in s b i)) (sym is_at)

  -- the one literal
  pub within-literal : at ≡ c.first → within L M (matrix_in s b) ≡ is_lit M (subtree_in s b c.first)
  within-literal e =
      by_row ∙ ap (λ (i : ℕ). within-top L M (subtree_in s b i)) e ∙
      top-literal L M (subtree_in s b c.first) ((pending L b ok 0 {end = s.nodes} k.starts (omega arith) (omega arith)).before k.inside)

  -- the relevant children of the operator
  pub within_operator : (at ≡ c.first → ⊥) → within L M (matrix_in s b) ≡ has_any M (relevant L (kids (subtree_in s b at)))
  within_operator other =
      by_row ∙
      top_operator L M (subtree_in s b at) (none (is_lit L (subtree_in s b at)) refl)
      (ap (λ (i : ℕ). has L (subtree_in s b i)) is_at ∙ here.holds)
    where
      before : at < c.first
      before = found_before L b ok c k is_at other

      none : (m : Bool) → is_lit L (subtree_in s b at) ≡ m → m ≡ false
      none false e = refl
      none true e =
          absurd
          (omega (
            arith,
            before,
            (pending L b ok 0 {end = at} k.starts (omega arith) (omega (arith, k.inside, before))).behind (omega (arith, before)),
            first_here L b ok at (omega (arith, k.inside, before)) e,
          ))
