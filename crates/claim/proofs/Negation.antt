-- A tree's rows negated are those of its negation.
-- Assumes nothing.
use mathlib.Core.Path.{◌≡◌, refl, sym, ap, ap₂, ◌∙◌}
use mathlib.Core.Bool.{true, false, cond}
use mathlib.Core.List.{◌∷◌, ◌++◌, map}
use Prim.Native.Nat.{ℕ, suc}
use lib.Dec.{eqb}
use borrow.Author.Tests.{ne_eqb}
use Rattle.formula.specs.Tree.{and, or, Tree, lit, node, Forest, ∅, ◌▸◌, count}
use Rattle.formula.specs.Claim.{negated, negated_all}
use Rattle.sheet.specs.Format.{row}
use Rattle.sheet.specs.Sheet.{tree_rows, forest_rows}
use Rattle.substitution.proofs.Changed.{map-append}
use Rattle.claim.specs.Inner.Writing.{negated_kind, negated_row}

-- kinds

module _ (k : ℕ) where
  pub negated_three : k ≡ 3 → 4 ≡ negated_kind k
  unfolding negated_kind
  negated_three e = sym (ap (λ m. cond (eqb m 3) 4 (cond (eqb m 4) 3 (cond (eqb m 5) 6 5))) e)

  pub negated_four : k ≡ 4 → 3 ≡ negated_kind k
  unfolding negated_kind
  negated_four e = sym (ap (λ m. cond (eqb m 3) 4 (cond (eqb m 4) 3 (cond (eqb m 5) 6 5))) e)

  pub negated_five : k ≡ 5 → 6 ≡ negated_kind k
  unfolding negated_kind
  negated_five e = sym (ap (λ m. cond (eqb m 3) 4 (cond (eqb m 4) 3 (cond (eqb m 5) 6 5))) e)

  pub negated_others : (k ≡ 3 → ⊥) → (k ≡ 4 → ⊥) → (k ≡ 5 → ⊥) → 5 ≡ negated_kind k
  unfolding negated_kind
  negated_others a b c = sym (rw (ne_eqb k 3 a, ne_eqb k 4 b, ne_eqb k 5 c))

-- rows

count-negated : (ts : Forest) → count (negated_all ts) ≡ count ts
unfolding negated count
count-negated ∅ = refl
count-negated (t ▸ ts) = ap suc (count-negated ts)

mutual
  unfolding negated negated_row negated_kind tree_rows

  pub rows-negated : (t : Tree) → map negated_row (tree_rows t) ≡ tree_rows (negated t)
  rows-negated (lit true v) = refl
  rows-negated (lit false v) = refl
  rows-negated (node and ts) = ap₂ (λ n l. row 6 n ∷ l) (sym (count-negated ts)) (forest_negated ts)
  rows-negated (node or ts) = ap₂ (λ n l. row 5 n ∷ l) (sym (count-negated ts)) (forest_negated ts)

  forest_negated : (ts : Forest) → map negated_row (forest_rows ts) ≡ forest_rows (negated_all ts)
  forest_negated ∅ = refl
  forest_negated (t ▸ ts) =
      map-append negated_row (tree_rows t) (forest_rows ts) ∙ ap₂ ◌++◌ (rows-negated t) (forest_negated ts)
