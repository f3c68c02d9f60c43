-- What a call of Claim from C returns, a number, and what it leaves in its output. Response's is packing's, as of any that writes a sheet.
-- Assumes nothing.
use Rattle.sheet.specs.Strategy.{Claiming}
use Rattle.packing.specs.Returned.{Output}
use Rattle.capi_strategy.specs.Claims.{packed_claimed}

-- number, what is refused and place; or the length of the claim's sheet
abbrev pub packed_claiming : Claiming → Output
packed_claiming w = record { number = packed_claimed w.answer; output = w.output }
