-- The end of a subtree in preorder, by the debt walk: subtrees follow one another, and lie within one another or apart.
-- Assumes nothing.
use mathlib.Core.Path.{◌≡◌, refl, sym, ap, ◌∙◌}
use mathlib.Core.List.{List, [], ◌∷◌, ◌++◌}
use Prim.Native.Nat.{ℕ, zero, suc, ◌+◌, ◌-◌, ◌≤◌, ◌<◌}
use native.Mathlib.Nat.{zero-add, suc-add, add_comm}
use native.Mathlib.Omega.{arith}
use lib.ListN.{length, drop, length-drop}
use lib.Seq.{drop-cons, drop-drop}
use Rattle.formula.specs.Tree.{Tree, rows}
use Rattle.sheet.specs.Format.{Row, row, children}
use Rattle.sheet.specs.Sheet.{tree_rows}
use Rattle.sheet.specs.Operations.{span}
use Rattle.sheet.proofs.Preorder.{span_tree}
use Rattle.checking.proofs.Debt.{span-length}

-- span

span-zero : (rs : List Row) → span 0 rs ≡ 0
unfolding span
span-zero [] = refl
span-zero (r ∷ rs) = refl

span_nil : (k : ℕ) → span k [] ≡ 0
unfolding span
span_nil zero = refl
span_nil (suc k) = refl

-- a debt of a + k is a debt of a, then one of k
span-split : (rs : List Row) (a k : ℕ) → span (a + k) rs ≡ span a rs + span k (drop (span a rs) rs)
unfolding span
span-split [] zero k = rw (zero-add k) (sym (zero-add (span k [])))
span-split [] (suc a) k = rw (suc-add, span_nil k)
span-split (r ∷ rs) zero k = rw (zero-add k) (sym (zero-add (span k (r ∷ rs))))
span-split (r ∷ rs) (suc a) k =
    rw (suc-add a k, suc-add) (ap suc (ap (λ m. span m rs) (swap a k (children r)) ∙ span-split rs (a + children r) k))
  where
    swap : (a k c : ℕ) → a + k + c ≡ a + c + k
    swap a k c = omega arith

-- a subtree that begins within the rows of a debt ends there
span-within : (rs : List Row) (k j : ℕ) → j < span k rs → j + span 1 (drop j rs) ≤ span k rs
unfolding span
span-within [] zero j h = absurd (omega arith)
span-within [] (suc k) j h = absurd (omega arith)
span-within (r ∷ rs) zero j h = absurd (omega arith)
span-within (r ∷ rs) (suc k) zero h = omega (arith, first)
  where
    first : span (0 + children r) rs ≤ span (k + children r) rs
    first = omega (arith, ap (λ m. span m rs) (zero-add (children r)), ap (λ m. span m rs) (add_comm k (children r)), span-split rs (children r) k)
span-within (r ∷ rs) (suc k) (suc j) h = omega (arith, span-within rs (k + children r) j (omega arith))

-- end_of

-- the row behind the subtree at r
unfoldable pub end_of : List Row → ℕ → ℕ
end_of R r = r + span 1 (drop r R)

module _ (R : List Row) where
  -- r + j is a row behind r
  drop-behind : (r j : ℕ) → drop j (drop r R) ≡ drop (r + j) R
  drop-behind r j = drop-drop j r R

  pub end_bound : (r : ℕ) → r ≤ length R → end_of R r ≤ length R
  unfolding end_of
  end_bound r h = omega (arith, span-length (drop r R) 1, length-drop r R)

  pub end_behind : (r : ℕ) → r < length R → r < end_of R r
  unfolding end_of span
  end_behind r h = rw (drop-cons R r (row 0 0) h) (omega arith)

  -- a subtree that begins within another ends within it
  pub end_within : (p r : ℕ) → p ≤ r → r < end_of R p → end_of R r ≤ end_of R p
  unfolding end_of
  end_within p r h l =
      let j = r - p in
      let e : p + j ≡ r = omega arith in
      let inside = span-within (drop p R) 1 j (omega arith) in
      omega (arith, inside, ap (λ l. span 1 l) (drop-behind p j ∙ ap (λ m. drop m R) e))

  pub end_tree : (t : Tree) (r : ℕ) (rest : List Row) → drop r R ≡ tree_rows t ++ rest → end_of R r ≡ r + rows t
  unfolding end_of
  end_tree t r rest e = rw e (omega (arith, span_tree t 0 rest, span-zero rest))
