-- What a number returned to C means for the truth, by the parts into which the header takes it.
-- Assumes nothing.
use Rattle.std.specs.Prelude.{◌≡◌, Bool, true, false, ℕ, take}
use Rattle.formula.specs.Force.{turn_after, ForceRight}
use Rattle.sheet.specs.Format.{Bytes, Format}
use Rattle.sheet.specs.Sheet.{formula}
use Rattle.sheet.specs.Truthful.{truth_of, SheetOf, Holds}
use Rattle.sheet.specs.Guards.{Clashing}
use Rattle.sheet.specs.Force.{values_of}
use Rattle.packing.specs.Unpacked.{number_of, word_of, low_of, high_of, turn_of, outcome_of}

-- Operations that write a sheet: if NUMBER is 0, the first HIGH bytes of the output are a sheet that Check accepts, of the truth of what
-- was given.
pub record ToldSheet (F : Format) (t : Bool) (n : ℕ) (output : Bytes) : Type 0 where
  pub on_accepted : number_of n ≡ 0 → SheetOf F t (take (high_of n) output)

-- the step one block out: the same, with the length in LOW
pub record ToldCopied (F : Format) (t : Bool) (n : ℕ) (output : Bytes) : Type 0 where
  pub on_accepted : number_of n ≡ 0 → SheetOf F t (take (low_of n) output)

-- Trial: if NUMBER is 0, WORD is 1 only for a true sheet, and 0 only for a false one
pub record ToldTrial (t : Bool) (n : ℕ) : Type 0 where
  pub on_true : number_of n ≡ 0 → word_of n ≡ 1 → t ≡ true
  pub on_false : number_of n ≡ 0 → word_of n ≡ 0 → t ≡ false

-- Solve and Resume: the same for WORD 1 and 0; if WORD is 2, the first buffer holds a sheet of the same truth
pub record ToldSolve (F : Format) (t : Bool) (n : ℕ) (first : Bytes) : Type 0 where
  pub on_true : number_of n ≡ 0 → word_of n ≡ 1 → t ≡ true
  pub on_false : number_of n ≡ 0 → word_of n ≡ 0 → t ≡ false
  pub on_stopped : number_of n ≡ 0 → word_of n ≡ 2 → Holds F t first

-- Guards: WORD is 1 only for a true sheet, and 0 only for a false one. The sheet then written, of HIGH bytes, is false; it is true without
-- any one child if LOW, the number of runs that stopped, is 0.
pub record ToldGuards (F : Format) (b : Bytes) (n : ℕ) (output : Bytes) : Type 0 where
  pub on_true : number_of n ≡ 0 → word_of n ≡ 1 → truth_of F b ≡ true
  pub on_kept : number_of n ≡ 0 → word_of n ≡ 0 → (truth_of F b ≡ false) × Clashing F b (take (high_of n) output) (low_of n)

-- Force: LOW is the kind of the quantifier whose turn is next; where WORD isn't 4, it names the values that win
pub record ToldForce (F : Format) (b vs : Bytes) (n : ℕ) : Type 0 where
  pub whose_turn : number_of n ≡ 0 → turn_of (low_of n) ≡ turn_after (values_of vs) (formula F b)
  pub which_wins : number_of n ≡ 0 → (word_of n ≡ 4 → ⊥) → ForceRight (values_of vs) (formula F b) (outcome_of (word_of n) (high_of n))
