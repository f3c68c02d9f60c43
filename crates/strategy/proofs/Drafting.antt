-- Rows that are drafted, one after the other, and how many rows the parts of a strategy have.
-- Assumes nothing.
use mathlib.Core.Path.{◌≡◌, ap, ◌∙◌}
use mathlib.Core.Bool.{Bool, true, false, cond}
use mathlib.Core.List.{List, [], ◌∷◌, ◌++◌, map}
use Prim.Native.Nat.{ℕ, suc, ◌+◌, ◌*◌, ◌≤◌, ◌<◌}
use native.Mathlib.Omega.{arith}
use lib.ListN.{length, length-append, length-map}
use Rattle.formula.specs.Tree.{Quantifier, same_op, Tree, constant, Prefix, rows}
use Rattle.formula.specs.Strategy.{Pair, left}
use Rattle.formula.proofs.Strategy.Function.{rows-constant}
use Rattle.sheet.specs.Format.{Bytes, Row, row}
use Rattle.sheet.specs.Sheet.{binding_row}
use Rattle.sheet.proofs.Preorder.{length-tree_rows}
use Rattle.rows.specs.Layouts.{total}
use Rattle.rows.specs.declared.Layout.{Layout}
use Rattle.substitution.specs.Output.{Laid}
use Rattle.substitution.proofs.Splice.{none-laid, laid_on}
use Rattle.pairs.specs.Pairs.{one_pair, pair_rows}
use Rattle.pairs.proofs.Rows.{pair_rows-next, left-none}
use Rattle.strategy.specs.Inner.Drafts.{Drafted}

-- Drafted

-- rows for which there is no room are counted
pub only_counted : {t : Layout} {old new : Bytes} {at next : ℕ} {rs : List Row} → next ≡ at + length rs → total t < next
    → Drafted t old new at next rs
only_counted e l = record { next_row = e; laid = λ h. absurd (omega arith) }

pub laid_drafted : {t : Layout} {old new : Bytes} {at next : ℕ} {rs : List Row} → Laid t old new at next rs → Drafted t old new at next rs
laid_drafted l = record { next_row = l.next_row; laid = λ h. l }

pub none_drafted : (t : Layout) (d : Bytes) (at : ℕ) → Drafted t d d at at []
none_drafted t d at = laid_drafted (none-laid t d at)

pub drafted_on : {t : Layout} {old mid new : Bytes} {at next last : ℕ} {rs ss : List Row} → Drafted t old mid at next rs
    → Drafted t mid new next last ss → Drafted t old new at last (rs ++ ss)
drafted_on {rs = rs} {ss = ss} f g =
    record {
      next_row = omega (arith, f.next_row, g.next_row, length-append rs ss);
      laid = λ h. laid_on (f.laid (omega (arith, g.next_row))) (g.laid h);
    }

-- how many rows

pub length_front : (p : Prefix) (n : ℕ) → length (map binding_row p ++ (row 6 n ∷ [])) ≡ length p + 1
length_front p n = length-append (map binding_row p) (row 6 n ∷ []) ∙ ap (λ k. k + 1) (length-map p binding_row)

pub length_pair : (x : ℕ) (u : Tree) → length (one_pair x u) ≡ 2 + rows u
length_pair x u = omega (arith, length-tree_rows u)

module _ (q : Quantifier) where
  pub length-left-rows : (p : Prefix) → length (pair_rows (left q p)) ≡ 3 * length (left q p)
  unfolding left
  length-left-rows [] = ap length (left-none q)
  length-left-rows (z ∷ p) = by (same_op q z.quantifier) (length-left-rows p)
    where
      c : Pair
      c = record { variable = z.variable; function = constant false }

      by : (m : Bool) → length (pair_rows (left q p)) ≡ 3 * length (left q p)
          → length (pair_rows (cond m (c ∷ left q p) (left q p))) ≡ 3 * length (cond m (c ∷ left q p) (left q p))
      by false e = e
      by true e =
          ap length (pair_rows-next c (left q p)) ∙ length-append (one_pair z.variable (constant false)) (pair_rows (left q p)) ∙
          omega (arith, length_pair z.variable (constant false), rows-constant false, e)

  pub few_left : (p : Prefix) → length (left q p) ≤ length p
  unfolding left
  few_left [] = omega arith
  few_left (z ∷ p) = by (same_op q z.quantifier) (few_left p)
    where
      c : Pair
      c = record { variable = z.variable; function = constant false }

      by : (m : Bool) → length (left q p) ≤ length p → length (cond m (c ∷ left q p) (left q p)) ≤ suc (length p)
      by false l = omega arith
      by true l = omega arith
