-- A list in arrays of numbers, taken in parts of at most 64 records, each lent as a slice of step structs.
-- Assumes nothing.
use Rattle.std.specs.Prelude.{◌≡◌, List, map, ℕ, ◌+◌, ◌≤◌, ◌<◌, length, get_or, take, Ok}
use Rattle.std.proofs.Math.Seq.{paste}
use Rattle.sheet.specs.Format.{Bytes, Format}
use Rattle.step_list.specs.declared.Operation.TheVariants.{Settle}
use Rattle.step_list.specs.declared.Step.{Step}
use Rattle.step_list.specs.declared.numbers.Part.{Part}
use Rattle.step_list.specs.Inner.Records.{operation_of, step_of}
use Rattle.step_list.specs.Numbers.{numbered_operation, step_number, step_value}
use Rattle.step_list.specs.Inner.Turns.{room, Follows}

-- a part of n records from place `at` on lies within two arrays of these lengths
pub record Within (at n one other : ℕ) : Type 0 where
  pub is_part : n ≤ 64
  pub in_one : at + n ≤ one
  pub in_other : at + n ≤ other

-- what is read behind the end
abbrev pub none : Step
none = record { operation = Settle; variable = 0; answer = Ok 0 }

-- the first n records have the operations and variables from place `at` on
pub record Loaded (operations variables : List ℕ) (at n : ℕ) (steps : List Step) : Type 0 where
  pub size : length steps ≡ 64
  pub operations_are : (j : ℕ) → j < n → operation_of (get_or steps j none).operation ≡ numbered_operation (get_or operations (at + j) 0)
  pub variables_are : (j : ℕ) → j < n → (get_or steps j none).variable ≡ get_or variables (at + j) 0

pub record Lendable (n held : ℕ) (first second : Bytes) : Type 0 where
  pub is_part : n ≤ 64
  pub is_short : held ≤ room first second

-- the first n records are followed
pub record Parted (F : Format) (steps : List Step) (n held : ℕ) (first second first' : Bytes) (p : Part) : Type 0 where
  pub size : length p.steps ≡ 64
  pub follows : Follows F (take n steps) held first second (take n p.steps) first' p.held

-- the first n records' answers stand from place `at` on
pub record Stored (steps : List Step) (n at : ℕ) (numbers values numbers' values' : List ℕ) : Type 0 where
  pub numbers_are : numbers' ≡ paste numbers at (map step_number (map step_of steps)) n
  pub values_are : values' ≡ paste values at (map step_value (map step_of steps)) n
