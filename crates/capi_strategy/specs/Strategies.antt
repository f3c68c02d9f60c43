-- Strategy's answer in 64 bits (Strategy 1), how a caller takes it apart, the values that fit their places, what a call leaves, and what its
-- number means for the truth.
-- Assumes nothing.
use Rattle.std.specs.Prelude.{◌≡◌, Bool, cond, List, ℕ, ◌+◌, ◌*◌, ◌/◌, ◌%◌, ◌^◌, ◌<◌, eqb, ltb, take}
use Rattle.std.specs.Borrow.{MutBor}
use denote.Triple.Both.{Both}
use Rattle.formula.specs.Strategy.{winner}
use Rattle.sheet.specs.Format.{Bytes, Format}
use Rattle.sheet.specs.Strategy.{StrategyAnswer, strategy_refused, strategy_stopped, strategy_written, strategy_too_long, Winning, StrategySheet}
use Rattle.sheet.specs.Truthful.{truth_of, Holds}
use Rattle.packing.specs.Packed.{packed, verdict_word}
use Rattle.packing.specs.Unpacked.{number_of, word_of, low_of, Tellable}

-- a word in bits 8 to 15, and behind it two counts of 12 bits and a value of 24
abbrev pub packed_counts : ℕ → ℕ → ℕ → ℕ → ℕ
packed_counts word settled expanded last =
    256 * (word % 256) + 65536 * (settled % 4096) + 2 ^ 28 * (expanded % 4096) + 2 ^ 40 * (last % 2 ^ 24)

-- number and place; or the word (2 stopped; 0 false and 1 true, if the strategy is written; 3 false and 4 true, if it is too long), the
-- number settled, the number expanded, and the variable stopped at, the length of the strategy's sheet or its node rows
unfoldable pub packed_strategy : StrategyAnswer → ℕ
packed_strategy (strategy_refused number place) = packed number 0 place 0
packed_strategy (strategy_stopped x settled expanded) = packed_counts 2 settled expanded x
packed_strategy (strategy_written v settled expanded length) = packed_counts (verdict_word v) settled expanded length
packed_strategy (strategy_too_long v settled expanded rows) = packed_counts (3 + verdict_word v) settled expanded rows

-- PLUMANCHOR_SETTLED, PLUMANCHOR_EXPANDED, PLUMANCHOR_LAST
abbrev pub settled_of : ℕ → ℕ
settled_of n = n / 65536 % 4096

abbrev pub expanded_of : ℕ → ℕ
expanded_of n = n / 2 ^ 28 % 4096

abbrev pub last_of : ℕ → ℕ
last_of n = n / 2 ^ 40

abbrev pub unpacked_strategy : ℕ → StrategyAnswer
unpacked_strategy n =
    cond (eqb (number_of n) 0)
    (cond (eqb (word_of n) 2) (strategy_stopped (last_of n) (settled_of n) (expanded_of n))
    (cond (ltb (word_of n) 2) (strategy_written (eqb (word_of n) 1) (settled_of n) (expanded_of n) (last_of n))
    (strategy_too_long (eqb (word_of n) 4) (settled_of n) (expanded_of n) (last_of n))))
    (strategy_refused (number_of n) (low_of n))

-- no value has more bits than its place
pub record CountsFit (settled expanded last : ℕ) : Type 0 where
  pub small_settled : settled < 4096
  pub small_expanded : expanded < 4096
  pub small_last : last < 2 ^ 24

abbrev pub FitsStrategy : StrategyAnswer → Type 0
FitsStrategy (strategy_refused number place) = Tellable number place
FitsStrategy (strategy_stopped x settled expanded) = CountsFit settled expanded x
FitsStrategy (strategy_written v settled expanded length) = CountsFit settled expanded length
FitsStrategy (strategy_too_long v settled expanded rows) = CountsFit settled expanded rows

-- what a call returns, a number, and what it leaves in its work buffers and its output
pub record Returned : Type 0 where
  pub number : ℕ
  pub first : Bytes
  pub second : Bytes
  pub output : Bytes

-- a buffer lent to a call, as it is found and as it is left
abbrev pub Lent : Type 0
Lent = Both (MutBor (List ℕ)) (MutBor (List ℕ))

abbrev pub all_left : ℕ → Lent → Lent → Lent → Returned
all_left r first second out = record { number = r; first = first.exit.now; second = second.exit.now; output = out.exit.now }

abbrev pub packed_winning : Winning → Returned
packed_winning w = record { number = packed_strategy w.answer; first = w.first; second = w.second; output = w.output }

-- If NUMBER is 0: WORD 1 and 0 say the sheet's truth, and the first LAST bytes of the output are a strategy with which that side wins; WORD 4
-- and 3 say the truth alone; if WORD is 2, the first buffer holds a sheet of the same truth.
pub record ToldStrategy (F : Format) (b : Bytes) (n : ℕ) (first output : Bytes) : Type 0 where
  pub on_written : (v : Bool) → number_of n ≡ 0 → word_of n ≡ verdict_word v
      → (v ≡ truth_of F b) × StrategySheet F (winner v) b (take (last_of n) output)
  pub on_too_long : (v : Bool) → number_of n ≡ 0 → word_of n ≡ 3 + verdict_word v → v ≡ truth_of F b
  pub on_stopped : number_of n ≡ 0 → word_of n ≡ 2 → Holds F (truth_of F b) first
