-- An answer in 64 bits: the refusal number (0: accepted), a word, and two values. Every value of both formats fits its place: in the first
-- value, of 16 bits, variables and counts go up to 1,024 and places, which count rows, up to 9,216; in the second, of 32 bits, nodes go up
-- to 8,192, lengths up to 46,088, and raw rows and leaves not much further.
-- Assumes nothing.
use Rattle.std.specs.Prelude.{Bool, true, false, ℕ, ◌+◌, ◌*◌, ◌^◌, ◌%◌}
use Rattle.formula.specs.Trial.{Tried}
use Rattle.sheet.specs.Check.{Answer, refused, accepted, Sizes}
use Rattle.sheet.specs.Operations.{Solved, is_refused, is_stopped, is_ended}
use Rattle.sheet.specs.Guards.{Guards, guards_refused, guards_stopped, guards_true, guards_kept}

-- bits 0 to 7, 8 to 15, 16 to 31 and 32 to 63
abbrev pub packed : ℕ → ℕ → ℕ → ℕ → ℕ
packed number word low high = number % 256 + 256 * (word % 256) + 65536 * (low % 65536) + 2 ^ 32 * (high % 2 ^ 32)

-- Check: number and place, or V and N
unfoldable pub packed_check : Answer Sizes → ℕ
packed_check (refused number place) = packed number 0 place 0
packed_check (accepted s) = packed 0 0 s.variables s.nodes

-- Trial: number and place, or the verdict and the leaves tried
abbrev pub verdict_word : Bool → ℕ
verdict_word false = 0
verdict_word true = 1

unfoldable pub packed_trial : Answer Tried → ℕ
packed_trial (refused number place) = packed number 0 place 0
packed_trial (accepted t) = packed 0 (verdict_word t.verdict) 0 t.leaves

-- an operation that writes a sheet: number and place, or the new sheet's length
unfoldable pub packed_written : Answer ℕ → ℕ
packed_written (refused number place) = packed number 0 place 0
packed_written (accepted length) = packed 0 0 0 length

-- Quote: number and place, or the raw row count
unfoldable pub packed_quote : Answer ℕ → ℕ
packed_quote (refused number place) = packed number 0 place 0
packed_quote (accepted count) = packed 0 0 0 count

-- Solve: number and place; or the word (1 true, 0 false, 2 stopped), the number settled, the number expanded and above it the variable
-- stopped at
unfoldable pub packed_solved : Solved → ℕ
packed_solved (is_refused number place) = packed number 0 place 0
packed_solved (is_stopped x settled expanded) = packed 0 2 settled (expanded % 65536 + 65536 * (x % 65536))
packed_solved (is_ended v settled expanded) = packed 0 (verdict_word v) settled (expanded % 65536)

-- Guards: number and place; the initial run as Solve's answer; or word 0, how many runs stopped and the kept children's sheet's length
unfoldable pub packed_guards : Guards → ℕ
packed_guards (guards_refused number place) = packed number 0 place 0
packed_guards (guards_stopped x settled expanded) = packed 0 2 settled (expanded % 65536 + 65536 * (x % 65536))
packed_guards (guards_true settled expanded) = packed 0 1 settled (expanded % 65536)
packed_guards (guards_kept length stops) = packed 0 0 stops length
