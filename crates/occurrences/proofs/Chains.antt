-- Along the literals of a set: the first from a row on, and the way by a table from each to the next.
-- Assumes nothing.
use mathlib.Core.Path.{◌≡◌, refl, sym, ap, ◌∙◌}
use mathlib.Core.Bool.{Bool, true, false, cond, true≢false, false≢true}
use mathlib.Core.List.{List, [], ◌∷◌, ◌++◌}
use Prim.Native.Nat.{ℕ, zero, suc, ◌+◌, ◌-◌, ◌≤◌, ◌<◌}
use native.Mathlib.Omega.{arith}
use lib.Dec.{ltb}
use lib.ListN.{length, get_or}
use borrow.Author.Tests.{lt-ltb, le-ltb, ltb-false}
use Rattle.formula.specs.Tree.{Literals, rows, has}
use Rattle.formula.specs.Tidy.{any, first_true}
use Rattle.formula.specs.Settle.{is_lit}
use Rattle.sheet.specs.Format.{Bytes}
use Rattle.rows.specs.Formulas.{matrix_in, Readable}
use Rattle.rows.specs.declared.Layout.{Layout}
use Rattle.subtrees.specs.Subtrees.{forest_in, subtree_in}
use Rattle.subtrees.proofs.Siblings.{subtree_root, root_end}
use Rattle.occurrences.specs.Chains.{hits, hits_all, first_from, Links}
use Rattle.occurrences.proofs.Hits.{has-hits, length-hits, hits-row, hits_subtree, no_rows}

-- first-true

first_true_here : (xs ys : List Bool) → any xs ≡ true → first_true (xs ++ ys) < length xs
unfolding any first_true
first_true_here [] ys h = absurd (false≢true h)
first_true_here (true ∷ xs) ys h = omega arith
first_true_here (false ∷ xs) ys h = omega (arith, first_true_here xs ys h)

first_true_there : (xs ys : List Bool) → any xs ≡ false → first_true (xs ++ ys) ≡ length xs + first_true ys
unfolding any first_true
first_true_there [] ys h = omega arith
first_true_there (true ∷ xs) ys h = absurd (true≢false h)
first_true_there (false ∷ xs) ys h = omega (arith, first_true_there xs ys h)

-- first-from

module _ (L : Literals) {s : Layout} (b : Bytes) (ok : Readable s b) where
  first_row_is : (i : ℕ) {c : Bool} → i < s.nodes → is_lit L (subtree_in s b i) ≡ c
      → first_from L s b i ≡ i + cond c 0 (suc (first_true (hits_all L (forest_in s b (suc i)))))
  unfolding first_from first_true
  first_row_is i h e =
      ap (λ l. i + first_true l) (hits-row L b ok i h ∙ ap (λ c. c ∷ hits_all L (forest_in s b (suc i))) e)

  pub first_here : (i : ℕ) → i < s.nodes → is_lit L (subtree_in s b i) ≡ true → first_from L s b i ≡ i
  first_here i h e = omega (arith, first_row_is i h e)

  pub first_later : (i : ℕ) → i < s.nodes → is_lit L (subtree_in s b i) ≡ false → first_from L s b i ≡ first_from L s b (suc i)
  unfolding first_from
  first_later i h e = omega (arith, first_row_is i h e)

  pub first_none : first_from L s b s.nodes ≡ s.nodes
  unfolding first_from hits_all first_true
  first_none = omega (arith, ap (λ ts. first_true (hits_all L ts)) (no_rows b ok s.nodes refl))

-- The row at hand on the way along the literals of a set to row `end`: one before it, or the first from it on.
pub record Pending (L : Literals) (s : Layout) (b : Bytes) (row end : ℕ) : Type 0 where
  pub before : row < end → is_lit L (subtree_in s b row) ≡ true
  pub behind : end ≤ row → row ≡ first_from L s b end

module _ (L : Literals) {s : Layout} (b : Bytes) (ok : Readable s b) where
  pub first_after : (i : ℕ) → i ≤ first_from L s b i
  unfolding first_from
  first_after i = omega arith

  pending_by : (d i : ℕ) {end : ℕ} → end ≡ i + d → end ≤ s.nodes → Pending L s b (first_from L s b i) end
  pending_by zero i {end} e h =
      let same : i ≡ end = omega arith in
      record {
        before = λ k. absurd (omega (arith, first_after i));
        behind = λ k. ap (first_from L s b) same;
      }
  pending_by (suc d) i {end} e h = go (is_lit L (subtree_in s b i)) refl (pending_by d (suc i) (omega arith) h)
    where
      go : (c : Bool) → is_lit L (subtree_in s b i) ≡ c → Pending L s b (first_from L s b (suc i)) end
          → Pending L s b (first_from L s b i) end
      go true c p =
          let here = first_here L b ok i (omega arith) c in
          record {
            before = λ k. ap (λ j. is_lit L (subtree_in s b j)) here ∙ c;
            behind = λ k. absurd (omega arith);
          }
      go false c p = rw (first_later L b ok i (omega arith) c) p

  -- the first literal from row i on is on the way to every later row
  pub pending : (i : ℕ) {row end : ℕ} → row ≡ first_from L s b i → i ≤ end → end ≤ s.nodes → Pending L s b row end
  pending i {row} {end} e h k = rw e (pending_by (end - i) i (omega arith) k)

  -- a subtree holds a literal exactly if the first one from its row on is before its end
  pub held : (i : ℕ) → i < s.nodes → ltb (first_from L s b i) (i + rows (subtree_in s b i)) ≡ has L (subtree_in s b i)
  unfolding first_from
  held i h = go (has L (subtree_in s b i)) refl
    where
      split : hits_all L (forest_in s b i)
          ≡ hits L (subtree_in s b i) ++ hits_all L (forest_in s b (i + rows (subtree_in s b i)))
      split = hits_subtree L b ok i h

      go : (c : Bool) → has L (subtree_in s b i) ≡ c
          → ltb (i + first_true (hits_all L (forest_in s b i))) (i + rows (subtree_in s b i)) ≡ c
      go true c =
          lt-ltb (i + first_true (hits_all L (forest_in s b i))) (i + rows (subtree_in s b i))
          (omega (
            arith,
            ap first_true split,
            first_true_here (hits L (subtree_in s b i)) (hits_all L (forest_in s b (i + rows (subtree_in s b i))))
                (sym (has-hits L (subtree_in s b i)) ∙ c),
            length-hits L (subtree_in s b i),
          ))
      go false c =
          le-ltb (i + first_true (hits_all L (forest_in s b i))) (i + rows (subtree_in s b i))
          (omega (
            arith,
            ap first_true split,
            first_true_there (hits L (subtree_in s b i)) (hits_all L (forest_in s b (i + rows (subtree_in s b i))))
                (sym (has-hits L (subtree_in s b i)) ∙ c),
            length-hits L (subtree_in s b i),
          ))

  -- a literal stands in the matrix exactly if the first one is within the rows
  pub occurs : {first : ℕ} → first ≡ first_from L s b 0 → ltb first s.nodes ≡ has L (matrix_in s b)
  occurs {first} e =
      ap (λ m. ltb m s.nodes) e ∙ ap (ltb (first_from L s b 0)) (root_end b ok) ∙ held 0 ok.some_nodes ∙
      ap (has L) (subtree_root b ok)

  pub first_absent : {first : ℕ} → first ≡ first_from L s b 0 → has L (matrix_in s b) ≡ false → first ≡ s.nodes
  first_absent {first} e none =
      (pending 0 {end = s.nodes} e (omega arith) (omega arith)).behind (ltb-false first s.nodes (occurs e ∙ none)) ∙
      first_none L b ok

  -- the first literal is the first one behind each row before it
  pub first_below : {first at : ℕ} → first ≡ first_from L s b 0 → first < s.nodes → at < first → first ≡ first_from L s b (suc at)
  first_below {first} {at} e inside before = (pending 0 {end = suc at} e (omega arith) (omega arith)).behind (omega arith)

-- along a table
module _ (L : Literals) {s : Layout} (b : Bytes) (ok : Readable s b) {next : List ℕ} (l : Links L s b next) {row end : ℕ}
    (within : end ≤ s.nodes) (p : Pending L s b row end) (h : row < end) where
  next_is : get_or next row 0 ≡ first_from L s b (suc row)
  next_is = l.is row (omega arith) (p.before h)

  pub pass_on : Pending L s b (get_or next row 0) end
  pass_on = pending L b ok (suc row) next_is h within

  pub pass_less : row < get_or next row 0
  pass_less = omega (arith, next_is, first_after L b ok (suc row))
