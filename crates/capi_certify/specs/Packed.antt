-- Certify's answer in 64 bits, and the verdict that a caller hands in as a number.
-- Assumes nothing.
use Rattle.std.specs.Prelude.{not, ℕ, eqb}
use Rattle.formula.specs.Tree.{Op}
use Rattle.formula.specs.Certificates.{Certified, certain, uncertain}
use Rattle.sheet.specs.Check.{Answer, refused, accepted}
use Rattle.sheet.specs.Certificates.{side_for}
use Rattle.packing.specs.Packed.{packed, verdict_word}

-- 0 false, any other number true
abbrev pub side_numbered : ℕ → Op
side_numbered verdict = side_for (not (eqb verdict 0))

-- number and place; or the word: 1 true, 0 false, 2 not certified, with the number of the first step that isn't valid, or of all steps
unfoldable pub packed_certified : Answer Certified → ℕ
packed_certified (refused number place) = packed number 0 place 0
packed_certified (accepted (certain v)) = packed 0 (verdict_word v) 0 0
packed_certified (accepted (uncertain n)) = packed 0 2 0 n
