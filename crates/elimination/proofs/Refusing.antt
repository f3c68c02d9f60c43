-- A value or a refusal from `ok_or`.
-- Assumes nothing.
use Rattle.std.proofs.Common.{◌≡◌, Option, Some, None, Ok, Err, ok_or}
use Rattle.rows.specs.declared.refusals.Refusal.{Refusal}

module _ {A : Type 0} (o : Option A) (d : Refusal) where
  -- the refusal is the one given, and there is no value
  pub none_of : {e : Refusal} → Err e ≡ ok_or o d → (e ≡ d) × (o ≡ None)
  none_of {e} = by o
    where
      by : (o : Option A) → Err e ≡ ok_or o d → (e ≡ d) × (o ≡ None)
      by None is = (cc, cc)
      by (Some x) is = absurd (cc)

  -- the value is the one that there is
  pub some_of : {x : A} → Ok x ≡ ok_or o d → o ≡ Some x
  some_of {x} = by o
    where
      by : (o : Option A) → Ok x ≡ ok_or o d → o ≡ Some x
      by None is = absurd (cc)
      by (Some y) is = cc
