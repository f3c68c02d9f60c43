-- A tidied tree has no child of its own kind.
-- Assumes nothing.
use mathlib.Core.Path.{◌≡◌}
use mathlib.Core.Bool.{true, false, false≢true}
use Prim.Native.Nat.{ℕ, zero, suc}
use borrow.Author.Tests.{not-true}
use Rattle.formula.specs.Tree.{Op, and, or, same_op, Tree, lit, node, Forest, ∅, ◌▸◌, some_child}
use Rattle.formula.specs.Tidy.{is_op, tidy, tidy_all, is_tidy}
use Rattle.formula.proofs.Tidy.Limits.{root_faulty, limits, tidy-is_tidy}
use Rattle.sheet.specs.Sheet.{front}
use Rattle.tidy_rules.specs.Gather.{Flat}

own_kind : (o k : Op) (us : Forest) → some_child (is_op k) us ≡ false → same_op o k ≡ true → some_child (is_op o) us ≡ false
own_kind and and us p e = p
own_kind and or us p e = absurd (false≢true e)
own_kind or and us p e = absurd (false≢true e)
own_kind or or us p e = p

flat_more : (o : Op) (t : Tree) (ts : Forest) → root_faulty t ≡ false → Flat o ts → Flat o (t ▸ ts)
unfolding Flat
flat_more o (lit s v) ts p h = h
flat_more o (node k us) ts p h = (λ e. own_kind o k us (limits k us p).kinds e, h)

faultless : (t : Tree) → root_faulty (tidy t) ≡ false
unfolding is_tidy
faultless t = not-true _ (tidy-is_tidy t)

pub flat_tidied : (o : Op) (n : ℕ) (ts : Forest) → Flat o (front n (tidy_all ts))
unfolding front tidy_all Flat
flat_tidied o zero ts = record {}
flat_tidied o (suc n) ∅ = record {}
flat_tidied o (suc n) (t ▸ ts) = flat_more o (tidy t) (front n (tidy_all ts)) (faultless t) (flat_tidied o n ts)
