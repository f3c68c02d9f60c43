-- The formulas of document 01 that are marked *: one list, each with its sheet's bytes and what is to come of it.
-- Assumes nothing.
use Rattle.std.specs.Prelude.{Bool, true, false, List, [], ◌∷◌, ℕ, replicate}
use Rattle.formula.specs.Trial.{Tried}
use Rattle.sheet.specs.Format.{Bytes, Format, narrow, wide}
use Rattle.sheet.specs.Check.{Answer, accepted}
use Rattle.sheet.specs.Conversion.{carried}
use Rattle.sheet.specs.Operations.{Line, line, says-true, says-false, says-stopped, solve_call, trial_call, line_of}

-- A sheet of a format with its expected answer: the program's line with two buffers of a length, or Trial's verdict and leaves.
pub data Tested : Type 0 where
  solves : Format → Bytes → ℕ → Line → Tested
  tries : Format → Bytes → Bool → ℕ → Tested

pub data Result : Type 0 where
  writes : Line → Result
  answers : Answer Tried → Result

-- no variable, AND of nothing
abbrev and_of_nothing : Bytes
and_of_nothing = 0 ∷ 0 ∷ 1 ∷ 0 ∷ 5 ∷ 0 ∷ 0 ∷ []

-- no variable, OR of nothing
abbrev or_of_nothing : Bytes
or_of_nothing = 0 ∷ 0 ∷ 1 ∷ 0 ∷ 6 ∷ 0 ∷ 0 ∷ []

-- for all 1: (1 or not 1)
abbrev excluded_middle : Bytes
excluded_middle = 1 ∷ 0 ∷ 3 ∷ 0 ∷ 2 ∷ 6 ∷ 3 ∷ 4 ∷ 1 ∷ 0 ∷ 2 ∷ 0 ∷ 1 ∷ 0 ∷ 1 ∷ 0 ∷ []

-- for all 1, 2: OR of the four ANDs
abbrev four_ands : Bytes
four_ands =
    2 ∷ 0 ∷ 13 ∷ 0 ∷ 2 ∷ 2 ∷ 6 ∷ 5 ∷ 3 ∷ 3 ∷ 5 ∷ 3 ∷ 4 ∷ 5 ∷ 4 ∷ 3 ∷ 5 ∷ 4 ∷ 4 ∷ 1 ∷ 0 ∷ 2 ∷ 0 ∷ 4 ∷ 0 ∷ 2 ∷ 0 ∷ 1 ∷ 0 ∷ 2 ∷ 0 ∷ 2 ∷ 0
    ∷ 1 ∷ 0 ∷ 2 ∷ 0 ∷ 2 ∷ 0 ∷ 1 ∷ 0 ∷ 2 ∷ 0 ∷ 2 ∷ 0 ∷ 1 ∷ 0 ∷ 2 ∷ 0 ∷ []

-- document 001, figure 1: y1 = 1, x = 2, y2 = 3, y3 = 4
abbrev figure_001 : Bytes
figure_001 =
    4 ∷ 0 ∷ 15 ∷ 0 ∷ 1 ∷ 2 ∷ 1 ∷ 1 ∷ 5 ∷ 6 ∷ 4 ∷ 3 ∷ 4 ∷ 6 ∷ 3 ∷ 4 ∷ 6 ∷ 3 ∷ 3 ∷ 6 ∷ 3 ∷ 4 ∷ 4 ∷ 1 ∷ 0 ∷ 2 ∷ 0 ∷ 3 ∷ 0 ∷ 4 ∷ 0 ∷ 4 ∷ 0
    ∷ 3 ∷ 0 ∷ 1 ∷ 0 ∷ 2 ∷ 0 ∷ 3 ∷ 0 ∷ 2 ∷ 0 ∷ 3 ∷ 0 ∷ 4 ∷ 0 ∷ 2 ∷ 0 ∷ 3 ∷ 0 ∷ 4 ∷ 0 ∷ 3 ∷ 0 ∷ 1 ∷ 0 ∷ 2 ∷ 0 ∷ 3 ∷ 0 ∷ []

-- document 000, figure 1, all exists: a = 1, b = 2, d = 3, e = 4
abbrev figure_000_exists : Bytes
figure_000_exists = 4 ∷ 0 ∷ 9 ∷ 0 ∷ 1 ∷ 1 ∷ 1 ∷ 1 ∷ 6 ∷ 4 ∷ 5 ∷ 3 ∷ 3 ∷ 4 ∷ 5 ∷ 3 ∷ 4 ∷ 1 ∷ 0 ∷ 2 ∷ 0 ∷ 3 ∷ 0 ∷ 4 ∷ 0 ∷ 3 ∷ 0 ∷ 1 ∷ 0 ∷ 3 ∷ 0 ∷ 2 ∷ 0 ∷ 3 ∷ 0 ∷ 4 ∷ 0 ∷ 2 ∷ 0 ∷ 1 ∷ 0 ∷ 3 ∷ 0 ∷ []

-- the same, all for-all
abbrev figure_000_for_all : Bytes
figure_000_for_all = 4 ∷ 0 ∷ 9 ∷ 0 ∷ 2 ∷ 2 ∷ 2 ∷ 2 ∷ 6 ∷ 4 ∷ 5 ∷ 3 ∷ 3 ∷ 4 ∷ 5 ∷ 3 ∷ 4 ∷ 1 ∷ 0 ∷ 2 ∷ 0 ∷ 3 ∷ 0 ∷ 4 ∷ 0 ∷ 3 ∷ 0 ∷ 1 ∷ 0 ∷ 3 ∷ 0 ∷ 2 ∷ 0 ∷ 3 ∷ 0 ∷ 4 ∷ 0 ∷ 2 ∷ 0 ∷ 1 ∷ 0 ∷ 3 ∷ 0 ∷ []

-- for all 2, exists 1: both equal
abbrev equal_for_all_exists : Bytes
equal_for_all_exists = 2 ∷ 0 ∷ 7 ∷ 0 ∷ 2 ∷ 1 ∷ 6 ∷ 5 ∷ 3 ∷ 3 ∷ 5 ∷ 4 ∷ 4 ∷ 2 ∷ 0 ∷ 1 ∷ 0 ∷ 2 ∷ 0 ∷ 2 ∷ 0 ∷ 1 ∷ 0 ∷ 2 ∷ 0 ∷ 2 ∷ 0 ∷ 1 ∷ 0 ∷ 2 ∷ 0 ∷ []

-- exists 1, for all 2: both equal
abbrev equal_exists_for_all : Bytes
equal_exists_for_all = 2 ∷ 0 ∷ 7 ∷ 0 ∷ 1 ∷ 2 ∷ 6 ∷ 5 ∷ 3 ∷ 3 ∷ 5 ∷ 4 ∷ 4 ∷ 1 ∷ 0 ∷ 2 ∷ 0 ∷ 2 ∷ 0 ∷ 2 ∷ 0 ∷ 1 ∷ 0 ∷ 2 ∷ 0 ∷ 2 ∷ 0 ∷ 1 ∷ 0 ∷ 2 ∷ 0 ∷ []

-- the same sheet with wider numbers (N11)
abbrev over : Bytes → Bytes
over b = carried narrow wide b

unfoldable pub starred : List Tested
starred =
    solves narrow and_of_nothing 13060 (line says-true 0 0 0) ∷
    solves narrow or_of_nothing 13060 (line says-false 0 0 0) ∷
    solves narrow excluded_middle 13060 (line says-true 0 0 0) ∷
    solves narrow four_ands 88 (line says-true 0 1 0) ∷
    solves narrow four_ands 87 (line says-stopped 0 0 1) ∷
    solves narrow figure_001 13060 (line says-false 1 2 0) ∷
    solves narrow figure_000_exists 13060 (line says-true 1 0 0) ∷
    solves narrow figure_000_for_all 13060 (line says-false 3 0 0) ∷
    solves narrow equal_for_all_exists 13060 (line says-true 0 1 0) ∷
    solves narrow equal_exists_for_all 13060 (line says-false 0 1 0) ∷
    tries narrow equal_for_all_exists true 3 ∷
    tries narrow equal_exists_for_all false 3 ∷
    solves wide (over and_of_nothing) 46088 (line says-true 0 0 0) ∷
    solves wide (over or_of_nothing) 46088 (line says-false 0 0 0) ∷
    solves wide (over excluded_middle) 46088 (line says-true 0 0 0) ∷
    solves wide (over four_ands) 148 (line says-true 0 1 0) ∷
    solves wide (over four_ands) 147 (line says-stopped 0 0 1) ∷
    solves wide (over figure_001) 46088 (line says-false 1 2 0) ∷
    solves wide (over figure_000_exists) 46088 (line says-true 1 0 0) ∷
    solves wide (over figure_000_for_all) 46088 (line says-false 3 0 0) ∷
    solves wide (over equal_for_all_exists) 46088 (line says-true 0 1 0) ∷
    solves wide (over equal_exists_for_all) 46088 (line says-false 0 1 0) ∷
    tries wide (over equal_for_all_exists) true 3 ∷
    tries wide (over equal_exists_for_all) false 3 ∷
    []

unfoldable pub expected : Tested → Result
expected (solves F b n l) = writes l
expected (tries F b v n) = answers (accepted (record { verdict = v; leaves = n }))

unfoldable pub computed : Tested → Result
computed (solves F b n l) = writes (line_of (solve_call F b (replicate n 0) (replicate n 0)).answer)
computed (tries F b v n) = answers (trial_call F b)

-- for all 1, exists 2, 3: (not 2 or 3) (2 or not 3) (not 1 or not 2) (1 or 2); 3 depends on 1 by way of 2, and their copies are 4 and 5
abbrev pub linked : Bytes
linked =
    3 ∷ 0 ∷ 13 ∷ 0 ∷ 2 ∷ 1 ∷ 1 ∷ 5 ∷ 6 ∷ 4 ∷ 3 ∷ 6 ∷ 3 ∷ 4 ∷ 6 ∷ 4 ∷ 4 ∷ 6 ∷ 3 ∷ 3 ∷ 1 ∷ 0 ∷ 2 ∷ 0 ∷ 3 ∷ 0 ∷ 4 ∷ 0 ∷ 2 ∷ 0 ∷ 2 ∷ 0 ∷ 3
    ∷ 0 ∷ 2 ∷ 0 ∷ 2 ∷ 0 ∷ 3 ∷ 0 ∷ 2 ∷ 0 ∷ 1 ∷ 0 ∷ 2 ∷ 0 ∷ 2 ∷ 0 ∷ 1 ∷ 0 ∷ 2 ∷ 0 ∷ []

-- exists 2, 3, 4, 5: (not 2 or 3) (2 or not 3) 2 (not 4 or 5) (4 or not 5) (not 4)
abbrev pub linked_expanded : Bytes
linked_expanded =
    4 ∷ 0 ∷ 15 ∷ 0 ∷ 1 ∷ 1 ∷ 1 ∷ 1 ∷ 5 ∷ 6 ∷ 4 ∷ 3 ∷ 6 ∷ 3 ∷ 4 ∷ 3 ∷ 6 ∷ 4 ∷ 3 ∷ 6 ∷ 3 ∷ 4 ∷ 4 ∷ 2 ∷ 0 ∷ 3 ∷ 0 ∷ 4 ∷ 0 ∷ 5 ∷ 0 ∷ 6 ∷ 0
    ∷ 2 ∷ 0 ∷ 2 ∷ 0 ∷ 3 ∷ 0 ∷ 2 ∷ 0 ∷ 2 ∷ 0 ∷ 3 ∷ 0 ∷ 2 ∷ 0 ∷ 2 ∷ 0 ∷ 4 ∷ 0 ∷ 5 ∷ 0 ∷ 2 ∷ 0 ∷ 4 ∷ 0 ∷ 5 ∷ 0 ∷ 4 ∷ 0 ∷ []

-- the same with 3 and 5 for 2 and 3, and the block begins with 5: its copy is 2, that of 3 is 4
abbrev pub crossed : Bytes
crossed =
    3 ∷ 0 ∷ 13 ∷ 0 ∷ 2 ∷ 1 ∷ 1 ∷ 5 ∷ 6 ∷ 4 ∷ 3 ∷ 6 ∷ 3 ∷ 4 ∷ 6 ∷ 4 ∷ 4 ∷ 6 ∷ 3 ∷ 3 ∷ 1 ∷ 0 ∷ 5 ∷ 0 ∷ 3 ∷ 0 ∷ 4 ∷ 0 ∷ 2 ∷ 0 ∷ 3 ∷ 0 ∷ 5
    ∷ 0 ∷ 2 ∷ 0 ∷ 3 ∷ 0 ∷ 5 ∷ 0 ∷ 2 ∷ 0 ∷ 1 ∷ 0 ∷ 3 ∷ 0 ∷ 2 ∷ 0 ∷ 1 ∷ 0 ∷ 3 ∷ 0 ∷ []

-- exists 5, 3, 2, 4: (not 3 or 5) (3 or not 5) 3 (not 4 or 2) (4 or not 2) (not 4)
abbrev pub crossed_expanded : Bytes
crossed_expanded =
    4 ∷ 0 ∷ 15 ∷ 0 ∷ 1 ∷ 1 ∷ 1 ∷ 1 ∷ 5 ∷ 6 ∷ 4 ∷ 3 ∷ 6 ∷ 3 ∷ 4 ∷ 3 ∷ 6 ∷ 4 ∷ 3 ∷ 6 ∷ 3 ∷ 4 ∷ 4 ∷ 5 ∷ 0 ∷ 3 ∷ 0 ∷ 2 ∷ 0 ∷ 4 ∷ 0 ∷ 6 ∷ 0
    ∷ 2 ∷ 0 ∷ 3 ∷ 0 ∷ 5 ∷ 0 ∷ 2 ∷ 0 ∷ 3 ∷ 0 ∷ 5 ∷ 0 ∷ 3 ∷ 0 ∷ 2 ∷ 0 ∷ 4 ∷ 0 ∷ 2 ∷ 0 ∷ 2 ∷ 0 ∷ 4 ∷ 0 ∷ 2 ∷ 0 ∷ 4 ∷ 0 ∷ []

-- Strategy 1

-- "for all feed, exists lift, for all jam, exists stop: lift equals feed, stop equals feed xor jam"
abbrev pub press : Bytes
press =
    4 ∷ 0 ∷ 23 ∷ 0 ∷ 2 ∷ 1 ∷ 2 ∷ 1 ∷ 5 ∷ 6 ∷ 4 ∷ 3 ∷ 6 ∷ 3 ∷ 4 ∷ 6 ∷ 3 ∷ 3 ∷ 4 ∷ 6 ∷ 3 ∷ 4 ∷ 3 ∷ 6 ∷ 4 ∷ 3 ∷ 3 ∷ 6 ∷ 4 ∷
    4 ∷ 4 ∷ 1 ∷ 0 ∷ 2 ∷ 0 ∷ 3 ∷ 0 ∷ 4 ∷ 0 ∷ 6 ∷ 0 ∷ 2 ∷ 0 ∷ 1 ∷ 0 ∷ 2 ∷ 0 ∷ 2 ∷ 0 ∷ 1 ∷ 0 ∷ 2 ∷ 0 ∷ 3 ∷ 0 ∷ 1 ∷ 0 ∷ 3 ∷ 0 ∷
    4 ∷ 0 ∷ 3 ∷ 0 ∷ 1 ∷ 0 ∷ 3 ∷ 0 ∷ 4 ∷ 0 ∷ 3 ∷ 0 ∷ 1 ∷ 0 ∷ 3 ∷ 0 ∷ 4 ∷ 0 ∷ 3 ∷ 0 ∷ 1 ∷ 0 ∷ 3 ∷ 0 ∷ 4 ∷ 0 ∷ []

-- stop's function is feed xor jam, and lift's is feed
abbrev pub press_strategy : Bytes
press_strategy =
    4 ∷ 0 ∷ 13 ∷ 0 ∷ 2 ∷ 1 ∷ 2 ∷ 1 ∷ 6 ∷ 5 ∷ 3 ∷ 5 ∷ 6 ∷ 3 ∷ 3 ∷ 6 ∷ 4 ∷ 4 ∷ 5 ∷ 3 ∷ 3 ∷ 1 ∷ 0 ∷ 2 ∷ 0 ∷ 3 ∷ 0 ∷ 4 ∷ 0 ∷
    2 ∷ 0 ∷ 2 ∷ 0 ∷ 4 ∷ 0 ∷ 2 ∷ 0 ∷ 2 ∷ 0 ∷ 1 ∷ 0 ∷ 3 ∷ 0 ∷ 2 ∷ 0 ∷ 1 ∷ 0 ∷ 3 ∷ 0 ∷ 2 ∷ 0 ∷ 2 ∷ 0 ∷ 1 ∷ 0 ∷ []

-- stop's function as a sheet of its own
abbrev pub stop_alone : Bytes
stop_alone =
    3 ∷ 0 ∷ 7 ∷ 0 ∷ 2 ∷ 1 ∷ 2 ∷ 5 ∷ 6 ∷ 3 ∷ 3 ∷ 6 ∷ 4 ∷ 4 ∷ 1 ∷ 0 ∷ 2 ∷ 0 ∷ 3 ∷ 0 ∷ 2 ∷ 0 ∷ 2 ∷ 0 ∷ 1 ∷ 0 ∷ 3 ∷ 0 ∷ 2 ∷ 0 ∷
    1 ∷ 0 ∷ 3 ∷ 0 ∷ []

-- lift reads jam, which is behind it
abbrev pub lift_reads_jam : Bytes
lift_reads_jam =
    4 ∷ 0 ∷ 13 ∷ 0 ∷ 2 ∷ 1 ∷ 2 ∷ 1 ∷ 6 ∷ 5 ∷ 3 ∷ 5 ∷ 6 ∷ 3 ∷ 3 ∷ 6 ∷ 4 ∷ 4 ∷ 5 ∷ 3 ∷ 3 ∷ 1 ∷ 0 ∷ 2 ∷ 0 ∷ 3 ∷ 0 ∷ 4 ∷ 0 ∷
    2 ∷ 0 ∷ 2 ∷ 0 ∷ 4 ∷ 0 ∷ 2 ∷ 0 ∷ 2 ∷ 0 ∷ 1 ∷ 0 ∷ 3 ∷ 0 ∷ 2 ∷ 0 ∷ 1 ∷ 0 ∷ 3 ∷ 0 ∷ 2 ∷ 0 ∷ 2 ∷ 0 ∷ 3 ∷ 0 ∷ []

-- stop reads itself
abbrev pub stop_reads_stop : Bytes
stop_reads_stop =
    4 ∷ 0 ∷ 7 ∷ 0 ∷ 2 ∷ 1 ∷ 2 ∷ 1 ∷ 6 ∷ 5 ∷ 3 ∷ 3 ∷ 5 ∷ 3 ∷ 3 ∷ 1 ∷ 0 ∷ 2 ∷ 0 ∷ 3 ∷ 0 ∷ 4 ∷ 0 ∷ 2 ∷ 0 ∷ 2 ∷ 0 ∷ 4 ∷ 0 ∷ 4 ∷
    0 ∷ 2 ∷ 0 ∷ 2 ∷ 0 ∷ 1 ∷ 0 ∷ []

-- both at once
abbrev pub both_read : Bytes
both_read =
    4 ∷ 0 ∷ 7 ∷ 0 ∷ 2 ∷ 1 ∷ 2 ∷ 1 ∷ 6 ∷ 5 ∷ 3 ∷ 3 ∷ 5 ∷ 3 ∷ 3 ∷ 1 ∷ 0 ∷ 2 ∷ 0 ∷ 3 ∷ 0 ∷ 4 ∷ 0 ∷ 2 ∷ 0 ∷ 2 ∷ 0 ∷ 4 ∷ 0 ∷ 4 ∷
    0 ∷ 2 ∷ 0 ∷ 2 ∷ 0 ∷ 3 ∷ 0 ∷ []

-- no pair of lift
abbrev pub lift_left_out : Bytes
lift_left_out =
    4 ∷ 0 ∷ 10 ∷ 0 ∷ 2 ∷ 1 ∷ 2 ∷ 1 ∷ 6 ∷ 5 ∷ 3 ∷ 5 ∷ 6 ∷ 3 ∷ 3 ∷ 6 ∷ 4 ∷ 4 ∷ 1 ∷ 0 ∷ 2 ∷ 0 ∷ 3 ∷ 0 ∷ 4 ∷ 0 ∷ 1 ∷ 0 ∷ 2 ∷
    0 ∷ 4 ∷ 0 ∷ 2 ∷ 0 ∷ 2 ∷ 0 ∷ 1 ∷ 0 ∷ 3 ∷ 0 ∷ 2 ∷ 0 ∷ 1 ∷ 0 ∷ 3 ∷ 0 ∷ []

-- for all 1, exists 2: both equal
abbrev pub equal_sheet : Bytes
equal_sheet = 2 ∷ 0 ∷ 7 ∷ 0 ∷ 2 ∷ 1 ∷ 6 ∷ 5 ∷ 3 ∷ 3 ∷ 5 ∷ 4 ∷ 4 ∷ 1 ∷ 0 ∷ 2 ∷ 0 ∷ 2 ∷ 0 ∷ 2 ∷ 0 ∷ 1 ∷ 0 ∷ 2 ∷ 0 ∷ 2 ∷ 0 ∷ 1 ∷ 0 ∷ 2 ∷ 0 ∷ []

-- 2 plays 1
abbrev pub equal_strategy : Bytes
equal_strategy = 2 ∷ 0 ∷ 4 ∷ 0 ∷ 2 ∷ 1 ∷ 6 ∷ 5 ∷ 3 ∷ 3 ∷ 1 ∷ 0 ∷ 2 ∷ 0 ∷ 1 ∷ 0 ∷ 2 ∷ 0 ∷ 2 ∷ 0 ∷ 1 ∷ 0 ∷ []

-- the claim of that
abbrev pub equal_claim : Bytes
equal_claim =
    2 ∷ 0 ∷ 14 ∷ 0 ∷ 2 ∷ 2 ∷ 6 ∷ 6 ∷ 5 ∷ 3 ∷ 3 ∷ 5 ∷ 4 ∷ 4 ∷ 5 ∷ 3 ∷ 4 ∷ 5 ∷ 4 ∷ 3 ∷ 1 ∷ 0 ∷ 2 ∷ 0 ∷ 3 ∷ 0 ∷ 2 ∷ 0 ∷ 2 ∷
    0 ∷ 1 ∷ 0 ∷ 2 ∷ 0 ∷ 2 ∷ 0 ∷ 1 ∷ 0 ∷ 2 ∷ 0 ∷ 2 ∷ 0 ∷ 2 ∷ 0 ∷ 1 ∷ 0 ∷ 2 ∷ 0 ∷ 2 ∷ 0 ∷ 1 ∷ 0 ∷ []

-- exists 1, for all 2: 1 and 2
abbrev pub unit_first : Bytes
unit_first = 2 ∷ 0 ∷ 3 ∷ 0 ∷ 1 ∷ 2 ∷ 5 ∷ 3 ∷ 3 ∷ 1 ∷ 0 ∷ 2 ∷ 0 ∷ 2 ∷ 0 ∷ 1 ∷ 0 ∷ 2 ∷ 0 ∷ []

-- 1 plays 1
abbrev pub always_one : Bytes
always_one = 1 ∷ 0 ∷ 1 ∷ 0 ∷ 2 ∷ 5 ∷ 2 ∷ 0 ∷ 0 ∷ 0 ∷ []
