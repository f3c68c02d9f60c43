-- What the number that Certify returns to C means for the truth.
-- Assumes nothing.
use Rattle.std.specs.Prelude.{Bool, ℕ}
use Rattle.packing.specs.Told.{ToldTrial}

-- as Trial's: if NUMBER is 0, WORD is 1 only for a true sheet, and 0 only for a false one, whatever the words handed in are
abbrev pub ToldCertify : Bool → ℕ → Type 0
ToldCertify t n = ToldTrial t n
