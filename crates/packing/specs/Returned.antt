-- What a call from C returns, a number, and what it leaves in its output.
-- Assumes nothing.
use Rattle.std.specs.Prelude.{ℕ}
use Rattle.sheet.specs.Format.{Bytes}
use Rattle.sheet.specs.Operations.{Written}
use Rattle.packing.specs.Packed.{packed_written}

pub record Output : Type 0 where
  pub number : ℕ
  pub output : Bytes

abbrev pub returned : ℕ → Bytes → Output
returned r out = record { number = r; output = out }

-- an operation that writes a sheet: number and place, or the new sheet's length
abbrev pub packed_writing : Written → Output
packed_writing w = record { number = packed_written w.answer; output = w.output }
