-- The value that settling puts in, by the signs of a variable's literals.
-- Assumes nothing.
use mathlib.Core.Path.{◌≡◌, refl, sym, ap, ap₂, ◌∙◌}
use mathlib.Core.Bool.{Bool, true, false, ◌||◌, or-false}
use mathlib.Core.List.{List}
use Prim.Native.Nat.{ℕ, ◌<◌}
use lib.Dec.{eqb}
use lib.ListN.{length}
use Rattle.formula.specs.Tree.{and, or, same_op, Quantifier, exists, Tree, lit, node, Forest, ∅, ◌▸◌, of, of_sign, has, has_any}
use Rattle.formula.specs.Settle.{may_take, settling}
use Rattle.sheet.specs.Format.{Bytes}
use Rattle.rows.specs.Formulas.{matrix_in}
use Rattle.rows.specs.declared.Layout.{Layout}
use Rattle.polarity.specs.Table.{last_entry, Signed}
use Rattle.polarity.specs.Value.{quantifier_at, signs_of, signs_in, settling_by}
use Rattle.polarity.specs.declared.value.Signs.{Signs}
use Rattle.formula.proofs.Booleans.{or_exchange}

-- a variable's literals are the positive and the negative ones

of_signs : (x : ℕ) (s : Bool) (v : ℕ) → of x s v ≡ (of_sign true x s v || of_sign false x s v)
of_signs x true v = sym (or-false (eqb v x))
of_signs x false v = refl

mutual
  unfolding has

  has_signs : (x : ℕ) (t : Tree) → has (of x) t ≡ (has (of_sign true x) t || has (of_sign false x) t)
  has_signs x (lit s v) = of_signs x s v
  has_signs x (node o ts) = has_any_signs x ts

  has_any_signs : (x : ℕ) (ts : Forest) → has_any (of x) ts ≡ (has_any (of_sign true x) ts || has_any (of_sign false x) ts)
  has_any_signs x ∅ = refl
  has_any_signs x (t ▸ ts) =
      ap₂ ◌||◌ (has_signs x t) (has_any_signs x ts) ∙
      or_exchange (has (of_sign true x) t) (has (of_sign false x) t) (has_any (of_sign true x) ts) (has_any (of_sign false x) ts)

-- the quantifier of a row, read
pub quantifier_read : (q : Quantifier) → quantifier_at (same_op exists q) ≡ q
quantifier_read and = refl
quantifier_read or = refl

-- settling goes by the signs
pub settling_signs : (q : Quantifier) (x : ℕ) (t : Tree) → settling q x t ≡ settling_by q (signs_of x t)
unfolding settling may_take
settling_signs q x t = rw (has_signs x t)

-- the signs in a table

-- the table of a sheet has each variable's signs
pub signed : {s : Layout} {b : Bytes} (signs : List Bool) (x : ℕ) → last_entry x < length signs → Signed s b signs → signs_in signs x ≡ signs_of x (matrix_in s b)
signed signs x h t =
    rw (t.anywhere true x h, t.anywhere false x h, t.units true x h, t.units false x h)

-- by the quantifier and the number of a row, read, and the entries of the number
pub value-signed : {q z : Quantifier} {x y : ℕ} {g : Signs} {s : Layout} {b : Bytes} {signs : List Bool} → q ≡ z → g ≡ signs_in signs x → x ≡ y
    → last_entry x < length signs → Signed s b signs → settling_by q g ≡ settling z y (matrix_in s b)
value-signed {q} {z} {x} {y} {g} {s} {b} {signs} same read is h t =
    ap₂ settling_by same (read ∙ signed signs x h t) ∙ sym (settling_signs z x (matrix_in s b)) ∙ ap (λ v. settling z v (matrix_in s b)) is
