-- Claim's side and its answer in 64 bits (Strategy 1), how a caller takes the answer apart, and the values that fit their places.
-- Assumes nothing.
use Rattle.std.specs.Prelude.{cond, ℕ, ◌<◌, eqb}
use Rattle.formula.specs.Tree.{Quantifier, exists, for_all}
use Rattle.sheet.specs.Strategy.{Claimed, claim_refused, claim_written}
use Rattle.packing.specs.Packed.{packed}
use Rattle.packing.specs.Unpacked.{number_of, word_of, low_of, high_of, Tellable}

-- a side by its quantifier's kind in a sheet: 1 exists, any other for all
abbrev pub side_of_kind : ℕ → Quantifier
side_of_kind k = cond (eqb k 1) exists for_all

-- number and place, with what is refused as the word (the sheet 1, the strategy 2, the output 0); or the length of the claim's sheet
unfoldable pub packed_claimed : Claimed → ℕ
packed_claimed (claim_refused which number place) = packed number which place 0
packed_claimed (claim_written length) = packed 0 0 0 length

abbrev pub unpacked_claimed : ℕ → Claimed
unpacked_claimed n = cond (eqb (number_of n) 0) (claim_written (high_of n)) (claim_refused (word_of n) (number_of n) (low_of n))

abbrev pub FitsClaimed : Claimed → Type 0
FitsClaimed (claim_refused which number place) = (which < 256) × Tellable number place
FitsClaimed (claim_written length) = length < 4294967296
