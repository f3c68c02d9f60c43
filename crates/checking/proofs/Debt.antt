-- The debt walk, and what it says of the last test.
-- Assumes nothing.
use mathlib.Core.Path.{◌≡◌, refl, sym, ap, ◌∙◌}
use mathlib.Core.Bool.{Bool, not, ◌&&◌}
use mathlib.Core.List.{List, [], ◌∷◌}
use Prim.Native.Nat.{ℕ, zero, suc, ◌+◌, ◌*◌, ◌-◌, ◌^◌, ◌≤◌, ◌<◌}
use native.Mathlib.Numerals.{add-one}
use native.Mathlib.Omega.{arith}
use lib.Dec.{eqb}
use lib.ListN.{length, get_or, drop}
use lib.Seq.{drop-cons, drop-length}
use borrow.Author.Tests.{eq-eqb, ne_eqb}
use Rattle.sheet.specs.Format.{Row, row, children}
use Rattle.sheet.specs.Check.{refused, accepted, test, answer, tree_test}
use Rattle.sheet.specs.Operations.{span}
use Rattle.checking.specs.declared.Reached.{Reached}
use Rattle.checking.specs.Inner.Stages.{pay}
use Rattle.checking.proofs.Tests.{stops, last-passes}

abbrev reached : ℕ → ℕ → Reached
reached r o = record { row = r; owed = o }

pay_nothing : (i : ℕ) (rs : List Row) → pay 0 i rs ≡ reached i 0
unfolding pay
pay_nothing i [] = refl
pay_nothing i (r ∷ rs) = refl

pay_out : (owed i : ℕ) → pay owed i [] ≡ reached i owed
unfolding pay
pay_out zero i = refl
pay_out (suc owed) i = refl

-- a walk from row `from`, at row r
pub record Walking (rows : List Row) (from owed r : ℕ) : Type 0 where
  pub low : from ≤ r
  pub high : r ≤ length rows
  pub remaining : pay 1 from (drop from rows) ≡ pay owed r (drop r rows)
  pub bounded : owed ≤ 1 + 2 ^ 32 * (r - from)

module _ (rows : List Row) (from : ℕ) where
  pub walk_none : from ≤ length rows → Walking rows from 1 from
  walk_none h = record { low = omega arith; high = h; remaining = refl; bounded = omega arith }

  pub walk_turn : {owed r added : ℕ} → r < length rows → (owed ≡ 0 → ⊥) → added ≡ children (get_or rows r (row 0 0)) → added < 2 ^ 32
      → Walking rows from owed r → Walking rows from (owed - 1 + added) (r + 1)
  unfolding pay
  walk_turn {owed} {r} {added} more some e small w =
      record {
        low = omega (arith, w.low);
        high = omega arith;
        remaining =
            w.remaining ∙
            rw (drop-cons rows r (row 0 0) more, add-one, e, ← back)
            (ap (λ n. pay (n + children (get_or rows r (row 0 0))) (suc r) (drop (suc r) rows)) pays);
        bounded = omega (arith, w.bounded, w.low);
      }
    where
      back : suc (owed - 1) ≡ owed
      back = omega (arith, some)

      pays : owed - 1 ≡ suc (owed - 1) - 1
      pays = omega arith

  -- nothing is owed, or the rows have run out
  pub walk_paid : {owed r : ℕ} → owed ≡ 0 → Walking rows from owed r → reached r owed ≡ pay 1 from (drop from rows)
  walk_paid {owed} {r} h w = rw (w.remaining, h) (sym (pay_nothing r (drop r rows)))

  pub walk_out : {owed r : ℕ} → length rows ≤ r → Walking rows from owed r → reached r owed ≡ pay 1 from (drop from rows)
  walk_out {owed} {r} h w =
      let end : r ≡ length rows = omega (arith, w.high) in
      rw (w.remaining, end, drop-length rows) (sym (pay_out owed (length rows)))

-- the last test fails unless the walk ends behind the last row with nothing owed; its place is where the walk ends
one_tree : ℕ → Reached → Bool
one_tree end w = eqb w.owed 0 && eqb w.row end

tree_test-pay : (owed i end : ℕ) (rs : List Row) → end ≡ i + length rs
    → tree_test owed i rs ≡ test (not (one_tree end (pay owed i rs))) 8 (pay owed i rs).row
unfolding tree_test pay one_tree
tree_test-pay zero i end [] h = rw (eq-eqb i end (omega (arith, h)))
tree_test-pay zero i end (r ∷ rs) h = rw (ne_eqb i end (λ e. omega (arith, h)))
tree_test-pay (suc owed) i end [] h = rw (ne_eqb (suc owed) 0 (λ e. omega arith))
tree_test-pay (suc owed) i end (r ∷ rs) h = tree_test-pay (owed + children r) (suc i) end rs (omega (arith, h))

module _ {A : Type 0} (a : A) (rs : List Row) (v end : ℕ) (here : end ≡ v + length rs) (w : Reached) (walked : w ≡ pay 1 v rs) where
  tree_test_walked : answer (tree_test 1 v rs ∷ []) a ≡ answer (test (not (one_tree end w)) 8 w.row ∷ []) a
  tree_test_walked = rw walked (ap (λ t. answer (t ∷ []) a) (tree_test-pay 1 v end rs here))

  pub tree_owed : (w.owed ≡ 0 → ⊥) → refused 8 w.row ≡ answer (tree_test 1 v rs ∷ []) a
  unfolding one_tree
  tree_owed h = sym (tree_test_walked ∙ stops 8 w.row [] a (rw (ne_eqb w.owed 0 h)))

  pub tree_early : w.owed ≡ 0 → (w.row ≡ end → ⊥) → refused 8 w.row ≡ answer (tree_test 1 v rs ∷ []) a
  unfolding one_tree
  tree_early o h = sym (tree_test_walked ∙ stops 8 w.row [] a (rw (eq-eqb w.owed 0 o, ne_eqb w.row end h)))

  pub tree_whole : w.owed ≡ 0 → w.row ≡ end → accepted a ≡ answer (tree_test 1 v rs ∷ []) a
  unfolding one_tree
  tree_whole o h = sym (tree_test_walked ∙ last-passes 8 w.row a (rw (eq-eqb w.owed 0 o, eq-eqb w.row end h)))

-- a walk ends behind the rows that its subtree spans, and those are some of its rows
pub pay-span : (owed i : ℕ) (rs : List Row) → (pay owed i rs).row ≡ i + span owed rs
unfolding pay span
pay-span zero i [] = omega arith
pay-span zero i (r ∷ rs) = omega arith
pay-span (suc owed) i [] = omega arith
pay-span (suc owed) i (r ∷ rs) = omega (arith, pay-span (owed + children r) (suc i) rs)

pub span-length : (rs : List Row) (owed : ℕ) → span owed rs ≤ length rs
unfolding span
span-length [] zero = omega arith
span-length [] (suc owed) = omega arith
span-length (r ∷ rs) zero = omega arith
span-length (r ∷ rs) (suc owed) = omega (arith, span-length rs (owed + children r))
