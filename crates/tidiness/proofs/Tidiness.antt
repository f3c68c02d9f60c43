-- What the first fault tells: a row below the count of rows exactly if the tree is not tidy.
-- Assumes nothing.
use mathlib.Core.Path.{◌≡◌, refl, sym, ap, ◌∙◌}
use mathlib.Core.Bool.{Bool, true, false, not, cond}
use Prim.Native.Nat.{ℕ, ◌<◌}
use native.Mathlib.Omega.{arith}
use lib.Dec.{ltb}
use borrow.Author.Tests.{lt-ltb, le-ltb}
use Rattle.formula.specs.Tree.{Tree, rows}
use Rattle.formula.specs.Tidy.{is_tidy, first_fault}
use Rattle.formula.proofs.Faults.{fault_within}

-- an answer of first_fault on a tree of n rows
module _ (t : Tree) {n r : ℕ} (size : rows t ≡ n) (is : r ≡ cond (is_tidy t) n (first_fault t)) where
  pub tidy_by : is_tidy t ≡ not (ltb r n)
  tidy_by = go (is_tidy t) refl
    where
      go : (c : Bool) → is_tidy t ≡ c → is_tidy t ≡ not (ltb r n)
      go true e = e ∙ sym (ap not (le-ltb r n (omega (arith, is ∙ ap (λ c. cond c n (first_fault t)) e))))
      go false e =
          e ∙
          sym (ap not (lt-ltb r n (omega (arith, is ∙ ap (λ c. cond c n (first_fault t)) e, fault_within t e))))

  pub fault_by : r < n → r ≡ first_fault t
  fault_by h = go (is_tidy t) refl
    where
      go : (c : Bool) → is_tidy t ≡ c → r ≡ first_fault t
      go true e = absurd (omega (arith, is ∙ ap (λ c. cond c n (first_fault t)) e))
      go false e = is ∙ ap (λ c. cond c n (first_fault t)) e
