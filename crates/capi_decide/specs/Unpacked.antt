-- How a caller takes an answer of 64 bits apart.
-- Assumes nothing.
use Rattle.std.specs.Prelude.{cond, ℕ, ◌<◌, eqb}
use Rattle.std.proofs.Math.Option.{none, some}
use Rattle.formula.specs.Join.{Answer as Known}
use Rattle.sheet.specs.Check.{Answer, refused, accepted}
use Rattle.sheet.specs.Decide.{DecideAnswer, decide_refused, decide_ended, decide_no_place, decide_spent}
use Rattle.packing.specs.Unpacked.{number_of, word_of, low_of, high_of, unpacked, Tellable}

-- Decide: a refusal if the number isn't 0; else WORD says which answer, and HIGH is the runs
abbrev pub ended_by : ℕ → ℕ → DecideAnswer
ended_by w runs = cond (eqb w 3) (decide_spent runs) (cond (eqb w 2) (decide_no_place runs) (decide_ended (eqb w 1) runs))

abbrev pub unpacked_decided : ℕ → DecideAnswer
unpacked_decided n = cond (eqb (number_of n) 0) (ended_by (word_of n) (high_of n)) (decide_refused (number_of n) (low_of n))

-- values that fit their places
abbrev pub FitsDecided : DecideAnswer → Type 0
FitsDecided (decide_refused number place) = Tellable number place
FitsDecided (decide_ended v runs) = runs < 4294967296
FitsDecided (decide_no_place runs) = runs < 4294967296
FitsDecided (decide_spent runs) = runs < 4294967296

-- Join: a refusal if the number isn't 0; else WORD says what is known
abbrev pub known_by : ℕ → Known
known_by w = cond (eqb w 2) none (some (eqb w 1))

abbrev pub unpacked_joined : ℕ → Answer Known
unpacked_joined n = unpacked n (known_by (word_of n))

abbrev pub FitsJoined : Answer Known → Type 0
FitsJoined (refused number place) = Tellable number place
FitsJoined (accepted k) = Unit {0}
