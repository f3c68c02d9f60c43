-- Operations that write a sheet: what a refusal leaves, and what passing tests give.
-- Assumes nothing.
use mathlib.Core.Path.{◌≡◌, sym, ap, ap₂}
use mathlib.Core.Bool.{true}
use mathlib.Core.List.{List}
use Prim.Native.Nat.{ℕ}
use lib.ListN.{length}
use Rattle.sheet.specs.Format.{Bytes}
use Rattle.sheet.specs.Check.{Answer, refused, accepted, Test, answer, passes}
use Rattle.sheet.specs.Operations.{Written, padded, output_after, write}
use Rattle.sheet.proofs.Tests.{answer-passes, refused_alike}

-- answer and output, one by one
pub written : {w : Written} {a : Answer ℕ} {out : Bytes} → (a ≡ w.answer) × (out ≡ w.output) → record { answer = a; output = out } ≡ w
written e = ap₂ (λ (a : Answer ℕ) o. record { answer = a; output = o }) e.0 e.1

-- a refusal is the answer, whatever would be written, and the output stays
pub write_refused : {A : Type 0} {n i : ℕ} (tests : List Test) (a : A) (new out : Bytes) → refused n i ≡ answer tests a
    → (refused n i ≡ (write tests new out).answer) × (out ≡ (write tests new out).output)
unfolding write output_after
write_refused tests a new out h =
    let e = refused_alike tests a (length new) h in
    (e, ap (λ (r : Answer ℕ). output_after r new out) e)

-- tests that pass: the new sheet's length is the answer, and the output holds it with zeros behind it
pub write_accepted : (tests : List Test) (new out : Bytes) → passes tests ≡ true
    → (accepted (length new) ≡ (write tests new out).answer) × (padded (length out) new ≡ (write tests new out).output)
unfolding write output_after
write_accepted tests new out h =
    let e = answer-passes tests (length new) h in
    (sym e, sym (ap (λ (r : Answer ℕ). output_after r new out) e))
