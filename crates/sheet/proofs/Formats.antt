-- What is shown over any format whose numbers hold its sizes, at the two of the documents. The laws of Verdicts, Refusals, Longer and Quote
-- ask nothing of their format.
-- Assumes nothing.
use mathlib.Core.Path.{◌≡◌}
use Prim.Native.Nat.{ℕ}
use lib.ListN.{take}
use Rattle.sheet.specs.Format.{Bytes, Format, narrow, wide}
use Rattle.sheet.specs.Check.{accepted}
use Rattle.sheet.specs.Operations.{reduce_call}
use Rattle.sheet.proofs.Limits.{narrow_sound, wide_sound}
use Rattle.sheet.proofs.Calls.{demand_3}
use Rattle.sheet.proofs.Reduction.{reduce_right}
use Rattle.sheet.specs.Results.{Reduced}
use Rattle.sheet.specs.Calls.{Demand3Of}

pub demand_3_narrow : Demand3Of narrow
demand_3_narrow = demand_3 narrow narrow_sound

pub demand_3_wide : Demand3Of wide
demand_3_wide = demand_3 wide wide_sound

-- universal reduction
abbrev Reduces : Format → Type 0
Reduces F = (b out : Bytes) (n : ℕ) → (reduce_call F b out).answer ≡ accepted n → Reduced F b (take n (reduce_call F b out).output)

pub reduce_narrow : Reduces narrow
reduce_narrow = reduce_right narrow narrow_sound

pub reduce_wide : Reduces wide
reduce_wide = reduce_right wide wide_sound
