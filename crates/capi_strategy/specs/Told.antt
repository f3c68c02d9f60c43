-- What a number returned to C means for the truth, by the parts into which the header takes it.
-- Assumes nothing.
use Rattle.std.specs.Prelude.{◌≡◌, ℕ, take}
use Rattle.formula.specs.Tree.{Quantifier}
use Rattle.sheet.specs.Format.{Bytes, Format}
use Rattle.sheet.specs.Strategy.{Responds, Claims}
use Rattle.packing.specs.Unpacked.{number_of, high_of}

-- Response: if NUMBER is 0, the first HIGH bytes of the output are the sheet of a function of x that is as good as any.
pub record ToldResponse (F : Format) (b : Bytes) (x n : ℕ) (output : Bytes) : Type 0 where
  pub on_accepted : number_of n ≡ 0 → Responds F b x (take (high_of n) output)

-- Claim: if NUMBER is 0, the first HIGH bytes of the output are the claim's sheet, which has the truth that the side wants exactly if the
-- strategy's sheet wins.
pub record ToldClaim (F : Format) (b : Bytes) (q : Quantifier) (s : Bytes) (n : ℕ) (output : Bytes) : Type 0 where
  pub on_written : number_of n ≡ 0 → Claims F b q s (take (high_of n) output)
