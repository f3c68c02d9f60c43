-- An answer of Force in 64 bits (N9).
-- Assumes nothing.
use Rattle.std.specs.Prelude.{ℕ}
use Rattle.formula.specs.Force.{Forced, neither, with-0, with-1, both, stopped_at}
use Rattle.sheet.specs.Sheet.{quantifier_kind}
use Rattle.sheet.specs.Check.{Answer, refused, accepted}
use Rattle.sheet.specs.Force.{Panel}
use Rattle.packing.specs.Packed.{packed}

-- the word (0 neither, 1 value 0, 2 value 1, 3 both, 4 stopped), the turn by its quantifier's kind, and the variable stopped at
unfoldable pub packed_outcome : ℕ → Forced → ℕ
packed_outcome turn neither = packed 0 0 turn 0
packed_outcome turn with-0 = packed 0 1 turn 0
packed_outcome turn with-1 = packed 0 2 turn 0
packed_outcome turn both = packed 0 3 turn 0
packed_outcome turn (stopped_at x) = packed 0 4 turn x

unfoldable pub packed_forced : Answer Panel → ℕ
packed_forced (refused number place) = packed number 0 place 0
packed_forced (accepted a) = packed_outcome (quantifier_kind a.turn) a.outcome
