-- What a number returned to C means for the truth.
-- Assumes nothing.
use Rattle.std.specs.Prelude.{Bool, ℕ}
use Rattle.formula.specs.Truth.{truth}
use Rattle.sheet.specs.Format.{Bytes, Format}
use Rattle.sheet.specs.Sheet.{formula}
use Rattle.sheet.specs.Join.{RightAnswers}
use Rattle.sheet.specs.Split.{under}
use Rattle.sheet.specs.Truthful.{truth_of}
use Rattle.packing.specs.Told.{ToldSheet, ToldTrial}

-- Decide, as Trial: if NUMBER is 0, WORD is 1 only for a true sheet, and 0 only for a false one, however many places and runs there were
abbrev pub ToldDecide : Bool → ℕ → Type 0
ToldDecide t n = ToldTrial t n

-- Join, of right answers: if NUMBER is 0, WORD is 1 only for a true sheet, and 0 only for a false one
abbrev pub ToldJoin : Format → Bytes → ℕ → Bytes → ℕ → Type 0
ToldJoin F b k xs n = RightAnswers (formula F b) k xs → ToldTrial (truth_of F b) n

-- Split: if NUMBER is 0, the first HIGH bytes of the output are a sheet that Check accepts, of the truth under the values
abbrev pub ToldSplit : Format → Bytes → Bytes → ℕ → Bytes → Type 0
ToldSplit F b vs n output = ToldSheet F (truth (under vs (formula F b))) n output
