-- The numbers of refusals ("What each operation turns away"; N1 and the later requests; 26 to 29 are ours).
-- Assumes nothing.
use Rattle.std.specs.Prelude.{ℕ}

-- shorter than the two sizes
abbrev pub too_short : ℕ
too_short = 1

-- a size outside its limits
abbrev pub size_outside : ℕ
size_outside = 2

-- wrong length
abbrev pub wrong_length : ℕ
wrong_length = 3

-- a row's kind
abbrev pub bad_kind : ℕ
bad_kind = 4

-- a quantifier's number
abbrev pub bad_number : ℕ
bad_number = 5

-- a number bound twice
abbrev pub bound_twice : ℕ
bound_twice = 6

-- a literal unbound
abbrev pub unbound : ℕ
unbound = 7

-- the rows are not one tree
abbrev pub not_one_tree : ℕ
not_one_tree = 8

-- not tidy
abbrev pub not_tidy : ℕ
not_tidy = 9

-- the variable is not in the prefix
abbrev pub not_in_prefix : ℕ
not_in_prefix = 10

-- the variable is not in the innermost block, or not one block out
abbrev pub wrong_block : ℕ
wrong_block = 11

-- the variable may not be settled
abbrev pub not_settled : ℕ
not_settled = 12

-- no room for the sheet
abbrev pub no_room : ℕ
no_room = 13

-- too many variables to try
abbrev pub too_many_to_try : ℕ
too_many_to_try = 14

-- a text's header
abbrev pub bad_header : ℕ
bad_header = 15

-- a text that is not lists of numbers ended by 0
abbrev pub bad_lists : ℕ
bad_lists = 16

-- a variable or a number of clauses that a text's header doesn't allow
abbrev pub beyond_header : ℕ
beyond_header = 17

-- fewer unused numbers than variables to copy
abbrev pub no_numbers_left : ℕ
no_numbers_left = 18

-- more raw rows than the ceiling
abbrev pub above_ceiling : ℕ
above_ceiling = 19

-- not of the clause profile
abbrev pub no_clauses : ℕ
no_clauses = 20

-- a value other than 0 and 1
abbrev pub bad_value : ℕ
bad_value = 21

-- as many values as variables, or more; for Split and Join, more
abbrev pub too_many_values : ℕ
too_many_values = 22

-- the root is not AND
abbrev pub root_not_and : ℕ
root_not_and = 23

-- outside the limits of a narrow sheet
abbrev pub not_narrow : ℕ
not_narrow = 24

-- counts that don't add up
abbrev pub wrong_counts : ℕ
wrong_counts = 25

-- not a strategy over the sheet's prefix
abbrev pub not_a_strategy : ℕ
not_a_strategy = 26

-- a function that reads what it may not
abbrev pub reads_beyond : ℕ
reads_beyond = 27

-- not as many answers as lists of values
abbrev pub wrong_answers : ℕ
wrong_answers = 28

-- an answer other than 0, 1 and 2
abbrev pub bad_answer : ℕ
bad_answer = 29
