-- Answers of Decide and Join in 64 bits.
-- Assumes nothing.
use Rattle.std.proofs.Math.Option.{none, some}
use Rattle.std.specs.Prelude.{ℕ}
use Rattle.formula.specs.Join.{Answer as Known}
use Rattle.sheet.specs.Check.{Answer, refused, accepted}
use Rattle.sheet.specs.Decide.{DecideAnswer, decide_refused, decide_ended, decide_no_place, decide_spent}
use Rattle.packing.specs.Packed.{packed, verdict_word}

-- Decide: number and place; or the word (1 true, 0 false, 2 no place left, 3 the budget spent) and the runs
unfoldable pub packed_decided : DecideAnswer → ℕ
packed_decided (decide_refused number place) = packed number 0 place 0
packed_decided (decide_ended v runs) = packed 0 (verdict_word v) 0 runs
packed_decided (decide_no_place runs) = packed 0 2 0 runs
packed_decided (decide_spent runs) = packed 0 3 0 runs

-- Join: the word of what is known
abbrev pub known_word : Known → ℕ
known_word none = 2
known_word (some v) = verdict_word v

-- Join: number and place; or the word (1 true, 0 false, 2 unknown)
unfoldable pub packed_joined : Answer Known → ℕ
packed_joined (refused number place) = packed number 0 place 0
packed_joined (accepted k) = packed 0 (known_word k) 0 0
