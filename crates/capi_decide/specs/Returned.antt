-- What a call of Decide from C returns, a number, and what it leaves in its work buffers and its stack.
-- Assumes nothing.
use Rattle.std.specs.Prelude.{List, ℕ, min}
use Rattle.std.specs.Borrow.{MutBor}
use denote.Triple.Both.{Both}
use Rattle.sheet.specs.Format.{Bytes}
use Rattle.sheet.specs.Decide.{Deciding}
use Rattle.capi_decide.specs.Packed.{packed_decided}

-- the budget, as far as the answer has bits for the runs: at most 2 to the power 32, less one
abbrev pub allowed : ℕ → ℕ
allowed budget = min budget 4294967295

pub record Decided : Type 0 where
  pub number : ℕ
  pub first : Bytes
  pub second : Bytes
  pub stack : Bytes

-- bytes lent: as they were, and as they are left
abbrev pub Lent : Type 0
Lent = Both (MutBor (List ℕ)) (MutBor (List ℕ))

abbrev pub leaves : ℕ → Lent → Lent → Lent → Decided
leaves r first second stack =
    record { number = r; first = first.exit.now; second = second.exit.now; stack = stack.exit.now }

abbrev pub packed_deciding : Deciding → Decided
packed_deciding w = record { number = packed_decided w.answer; first = w.first; second = w.second; stack = w.stack }
