-- How a caller takes Certify's answer of 64 bits apart.
-- Assumes nothing.
use Rattle.std.specs.Prelude.{cond, ℕ, ◌<◌, eqb}
use Rattle.formula.specs.Certificates.{Certified, certain, uncertain}
use Rattle.sheet.specs.Check.{Answer, refused, accepted}
use Rattle.packing.specs.Unpacked.{word_of, high_of, unpacked, Tellable}

-- a refusal if the number isn't 0; if WORD is 2, the step's number in HIGH; else the verdict in WORD
abbrev pub unpacked_certified : ℕ → Answer Certified
unpacked_certified n = unpacked n (cond (eqb (word_of n) 2) (uncertain (high_of n)) (certain (eqb (word_of n) 1)))

-- Values that fit their places. Of a step's number only the lower 32 bits are told, so fewer than 2 to the power 32 steps are.
abbrev pub FitsCertified : Answer Certified → Type 0
FitsCertified (refused number place) = Tellable number place
FitsCertified (accepted (certain v)) = Unit {0}
FitsCertified (accepted (uncertain n)) = n < 4294967296
