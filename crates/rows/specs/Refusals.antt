-- A refusal in the documents' words: its number and its place.
-- Assumes nothing.
use Rattle.std.specs.Prelude.{ℕ, Result, Ok, Err}
use Rattle.sheet.specs.Refusals as numbers
use Rattle.sheet.specs.Check.{Answer, accepted, refused}
use Rattle.rows.specs.declared.refusals.Refusal.{Refusal}
use Rattle.rows.specs.declared.refusals.Refusal.TheVariants.{TooShort, SizeOutside, WrongLength, BadKind, BadNumber, BoundTwice, Unbound, NotOneTree, NotTidy, NotInPrefix, WrongBlock}
use Rattle.rows.specs.declared.refusals.Refusal.TheVariants.{NotSettled, NoRoom, TooManyToTry, BadHeader, BadLists, BeyondHeader, NoNumbersLeft, AboveCeiling, NoClauses, BadValue}
use Rattle.rows.specs.declared.refusals.Refusal.TheVariants.{TooManyValues, RootNotAnd, NotNarrow, WrongCounts, NotAStrategy, ReadsBeyond, WrongAnswers, BadAnswer}

abbrev pub number_of : Refusal → ℕ
number_of TooShort = numbers.too_short
number_of SizeOutside = numbers.size_outside
number_of WrongLength = numbers.wrong_length
number_of (BadKind r) = numbers.bad_kind
number_of (BadNumber r) = numbers.bad_number
number_of (BoundTwice r) = numbers.bound_twice
number_of (Unbound r) = numbers.unbound
number_of (NotOneTree r) = numbers.not_one_tree
number_of (NotTidy r) = numbers.not_tidy
number_of NotInPrefix = numbers.not_in_prefix
number_of WrongBlock = numbers.wrong_block
number_of NotSettled = numbers.not_settled
number_of NoRoom = numbers.no_room
number_of TooManyToTry = numbers.too_many_to_try
number_of BadHeader = numbers.bad_header
number_of BadLists = numbers.bad_lists
number_of BeyondHeader = numbers.beyond_header
number_of NoNumbersLeft = numbers.no_numbers_left
number_of AboveCeiling = numbers.above_ceiling
number_of NoClauses = numbers.no_clauses
number_of BadValue = numbers.bad_value
number_of TooManyValues = numbers.too_many_values
number_of RootNotAnd = numbers.root_not_and
number_of NotNarrow = numbers.not_narrow
number_of WrongCounts = numbers.wrong_counts
number_of NotAStrategy = numbers.not_a_strategy
number_of (ReadsBeyond r) = numbers.reads_beyond
number_of WrongAnswers = numbers.wrong_answers
number_of BadAnswer = numbers.bad_answer

-- the row at fault, or 0
abbrev pub place_of : Refusal → ℕ
place_of TooShort = 0
place_of SizeOutside = 0
place_of WrongLength = 0
place_of (BadKind r) = r
place_of (BadNumber r) = r
place_of (BoundTwice r) = r
place_of (Unbound r) = r
place_of (NotOneTree r) = r
place_of (NotTidy r) = r
place_of NotInPrefix = 0
place_of WrongBlock = 0
place_of NotSettled = 0
place_of NoRoom = 0
place_of TooManyToTry = 0
place_of BadHeader = 0
place_of BadLists = 0
place_of BeyondHeader = 0
place_of NoNumbersLeft = 0
place_of AboveCeiling = 0
place_of NoClauses = 0
place_of BadValue = 0
place_of TooManyValues = 0
place_of RootNotAnd = 0
place_of NotNarrow = 0
place_of WrongCounts = 0
place_of NotAStrategy = 0
place_of (ReadsBeyond r) = r
place_of WrongAnswers = 0
place_of BadAnswer = 0

-- "refusing returns number and place"
abbrev pub refused_by : {A : Type 0} → Refusal → Answer A
refused_by e = refused (number_of e) (place_of e)

-- a call that is accepted with a value, or refused
abbrev pub told : {A : Type 0} → Result A Refusal → Answer A
told (Ok a) = accepted a
told (Err e) = refused_by e
