-- Tidying adds no row and no literal.
-- Assumes nothing.
use mathlib.Core.Path.{◌≡◌, refl, sym, ◌∙◌, ap}
use mathlib.Core.Bool.{Bool, false, not, ◌||◌}
use Prim.Native.Nat.{suc, ◌+◌, ◌≤◌}
use native.Mathlib.Nat.{le_refl, add-le-add}
use native.Mathlib.Omega.{arith}
use Rattle.formula.specs.Tree.{Op, and, or, Tree, lit, node, Forest, ∅, ◌▸◌, some_child, keep}
use Rattle.formula.specs.Tree.{Literals, rows, rows_all, has, has_any}
use Rattle.formula.specs.Tidy.{equal, duplicate, spliced, splice, decides, firsts, unwrap, combine, tidy, tidy_all}
use Rattle.formula.proofs.Booleans.{cond_cases, or_parts, or-none}
pub use Rattle.formula.proofs.Forests.{rows-⧺}
use Rattle.formula.proofs.Tidy.Children.{some_child-firsts, some_child-splice}

-- rows

rows-spliced : (o : Op) (t : Tree) (us : Forest) → rows_all (spliced o t us) ≤ rows t + rows_all us
unfolding rows_all spliced
rows-spliced o (lit s v) us = le_refl _
rows-spliced and (node and ts) us = omega (arith, rows-⧺ ts us)
rows-spliced and (node or ts) us = le_refl _
rows-spliced or (node and ts) us = le_refl _
rows-spliced or (node or ts) us = omega (arith, rows-⧺ ts us)

pub rows-splice : (o : Op) (ts : Forest) → rows_all (splice o ts) ≤ rows_all ts
unfolding rows_all splice
rows-splice o ∅ = le_refl _
rows-splice o (t ▸ ts) = omega (arith, rows-spliced o t (splice o ts), rows-splice o ts)

pub rows-keep : (P : Tree → Bool) (ts : Forest) → rows_all (keep P ts) ≤ rows_all ts
unfolding rows_all keep
rows-keep P ∅ = le_refl _
rows-keep P (t ▸ ts) =
    let rest = rows-keep P ts in
    cond_cases (λ us. rows_all us ≤ rows_all (t ▸ ts)) (P t) (λ _. omega arith) (λ _. omega arith)

pub rows-firsts : (R : Tree → Tree → Bool) (ts : Forest) → rows_all (firsts R ts) ≤ rows_all ts
unfolding rows_all firsts
rows-firsts R ∅ = le_refl _
rows-firsts R (t ▸ ts) = omega (arith, rows-keep (λ u. not (R t u)) (firsts R ts), rows-firsts R ts)

pub rows-unwrap : (o : Op) (ts : Forest) → rows (unwrap o ts) ≤ suc (rows_all ts)
unfolding rows_all unwrap
rows-unwrap o ∅ = le_refl _
rows-unwrap o (t ▸ ∅) = omega arith
rows-unwrap o (t ▸ u ▸ ts) = le_refl _

pub rows-combine : (o : Op) (ts : Forest) → rows (combine o ts) ≤ suc (rows_all ts)
unfolding rows_all combine
rows-combine o ts =
    let us = splice o ts in
    cond_cases (λ t. rows t ≤ suc (rows_all ts)) (decides o us) (λ _. omega arith)
    (λ _. omega (arith, rows-unwrap o (firsts duplicate (firsts equal us)), rows-firsts duplicate (firsts equal us), rows-firsts equal us, rows-splice o ts))

mutual
  unfolding rows_all tidy_all

  pub rows-tidy : (t : Tree) → rows (tidy t) ≤ rows t
  rows-tidy (lit s v) = le_refl _
  rows-tidy (node o ts) = omega (arith, rows-combine o (tidy_all ts), rows-tidy_all ts)

  pub rows-tidy_all : (ts : Forest) → rows_all (tidy_all ts) ≤ rows_all ts
  rows-tidy_all ∅ = le_refl _
  rows-tidy_all (t ▸ ts) = add-le-add (rows-tidy t) (rows-tidy_all ts)

-- literals

module _ (L : Literals) where
  pub has-children : (ts : Forest) → has_any L ts ≡ some_child (has L) ts
  unfolding has_any some_child
  has-children ∅ = refl
  has-children (t ▸ ts) = ap (λ b. has L t || b) (has-children ts)

  pub has-unwrap : (o : Op) (ts : Forest) → some_child (has L) ts ≡ false → has L (unwrap o ts) ≡ false
  unfolding has_any unwrap some_child
  has-unwrap o ∅ p = refl
  has-unwrap o (t ▸ ∅) p = (or_parts (has L t) _ p).0
  has-unwrap o (t ▸ u ▸ ts) p = has-children (t ▸ u ▸ ts) ∙ p

  pub has-combine : (o : Op) (ts : Forest) → some_child (has L) ts ≡ false → has L (combine o ts) ≡ false
  unfolding has_any combine
  has-combine o ts p =
      let us = splice o ts in
      let at-us = some_child-splice o (has L) (has L) (λ ws q. sym (has-children ws) ∙ q) (λ t _ q. q) ts p in
      cond_cases (λ t. has L t ≡ false) (decides o us) (λ _. refl)
      (λ _. has-unwrap o (firsts duplicate (firsts equal us)) (some_child-firsts duplicate (has L) (firsts equal us) (some_child-firsts equal (has L) us at-us)))

mutual
  unfolding has_any tidy_all some_child

  pub has-tidy : (L : Literals) (t : Tree) → has L t ≡ false → has L (tidy t) ≡ false
  has-tidy L (lit s v) p = p
  has-tidy L (node o ts) p = has-combine L o (tidy_all ts) (has-tidy_all L ts p)

  has-tidy_all : (L : Literals) (ts : Forest) → has_any L ts ≡ false → some_child (has L) (tidy_all ts) ≡ false
  has-tidy_all L ∅ p = refl
  has-tidy_all L (t ▸ ts) p =
      let (at-t, at-ts) = or_parts (has L t) _ p in
      or-none (has-tidy L t at-t) (has-tidy_all L ts at-ts)
