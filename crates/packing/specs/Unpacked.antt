-- How a caller takes an answer of 64 bits apart (include/plumanchor.h), and the answer that this gives.
-- Assumes nothing.
use Rattle.std.specs.Prelude.{Bool, cond, ℕ, ◌+◌, ◌-◌, ◌/◌, ◌%◌, ◌≤◌, ◌<◌, eqb, ◌≡◌}
use Rattle.formula.specs.Trial.{Tried}
use Rattle.formula.specs.Tree.{Quantifier, exists, for_all}
use Rattle.formula.specs.Force.{Forced, neither, with-0, with-1, both, stopped_at}
use Rattle.formula.specs.Order.{Ordering, before, same, after}
use Rattle.sheet.specs.Check.{Answer, refused, accepted, Sizes}
use Rattle.sheet.specs.Operations.{Solved, is_refused, is_stopped, is_ended}
use Rattle.sheet.specs.Outer.{Copied}
use Rattle.sheet.specs.Order.{Compared, is_ordered}
use Rattle.sheet.specs.Order as order
use Rattle.sheet.specs.Force.{Panel}
use Rattle.sheet.specs.Guards.{Guards, guards_refused, guards_stopped, guards_true, guards_kept}

-- PLUMANCHOR_NUMBER, PLUMANCHOR_WORD, PLUMANCHOR_LOW, PLUMANCHOR_HIGH
abbrev pub number_of : ℕ → ℕ
number_of n = n % 256

abbrev pub word_of : ℕ → ℕ
word_of n = n / 256 % 256

abbrev pub low_of : ℕ → ℕ
low_of n = n / 65536 % 65536

abbrev pub high_of : ℕ → ℕ
high_of n = n / 4294967296

-- a refusal if the number isn't 0, with its place in LOW
abbrev pub unpacked : {A : Type 0} → ℕ → A → Answer A
unpacked n a = cond (eqb (number_of n) 0) (accepted a) (refused (number_of n) (low_of n))

abbrev pub unpacked_check : ℕ → Answer Sizes
unpacked_check n = unpacked n (record { variables = low_of n; nodes = high_of n })

abbrev pub unpacked_trial : ℕ → Answer Tried
unpacked_trial n = unpacked n (record { verdict = eqb (word_of n) 1; leaves = high_of n })

-- an operation that writes a sheet, and Quote
abbrev pub unpacked_written : ℕ → Answer ℕ
unpacked_written n = unpacked n (high_of n)

-- the step one block out
abbrev pub unpacked_copied : ℕ → Answer Copied
unpacked_copied n = unpacked n (record { new_length = low_of n; copied = high_of n % 65536; lowest = high_of n / 65536 })

-- Solve and Resume
abbrev pub unpacked_solved : ℕ → Solved
unpacked_solved n =
    cond (eqb (number_of n) 0)
    (cond (eqb (word_of n) 2) (is_stopped (high_of n / 65536) (low_of n) (high_of n % 65536)) (is_ended (eqb (word_of n) 1) (low_of n) (high_of n % 65536)))
    (is_refused (number_of n) (low_of n))

-- Resume returns the lower 16 bits of a count: the whole count is the one given plus how far these bits are ahead of it, modulo 65,536.
abbrev pub whole_count : ℕ → ℕ → ℕ
whole_count given low = given + (low + 65536 - given % 65536) % 65536

-- Guards
abbrev pub unpacked_guards : ℕ → Guards
unpacked_guards n =
    cond (eqb (number_of n) 0)
    (cond (eqb (word_of n) 2) (guards_stopped (high_of n / 65536) (low_of n) (high_of n % 65536))
    (cond (eqb (word_of n) 1) (guards_true (low_of n) (high_of n % 65536)) (guards_kept (high_of n) (low_of n))))
    (guards_refused (number_of n) (low_of n))

-- Force: the turn by its quantifier's kind in LOW
abbrev pub turn_of : ℕ → Quantifier
turn_of k = cond (eqb k 1) exists for_all

abbrev pub outcome_of : ℕ → ℕ → Forced
outcome_of w x = cond (eqb w 0) neither (cond (eqb w 1) with-0 (cond (eqb w 2) with-1 (cond (eqb w 3) both (stopped_at x))))

abbrev pub unpacked_forced : ℕ → Answer Panel
unpacked_forced n = unpacked n (record { turn = turn_of (low_of n); outcome = outcome_of (word_of n) (high_of n) })

-- Compare
abbrev pub order_of : ℕ → Ordering
order_of w = cond (eqb w 0) before (cond (eqb w 1) same after)

abbrev pub unpacked_compared : ℕ → Compared
unpacked_compared n = cond (eqb (number_of n) 0) (is_ordered (order_of (word_of n))) (order.is_refused (word_of n) (number_of n) (low_of n))

-- Values that fit their places: a refusal's number isn't 0, and no value has more bits than its place.
pub record Tellable (number place : ℕ) : Type 0 where
  pub is_number : 1 ≤ number
  pub small_number : number < 256
  pub small_place : place < 65536

-- two counts and a variable
pub record Countable (x settled expanded : ℕ) : Type 0 where
  pub small_variable : x < 65536
  pub small_settled : settled < 65536
  pub small_expanded : expanded < 65536

abbrev pub FitsWritten : Answer ℕ → Type 0
FitsWritten (refused number place) = Tellable number place
FitsWritten (accepted n) = n < 4294967296

abbrev pub FitsCheck : Answer Sizes → Type 0
FitsCheck (refused number place) = Tellable number place
FitsCheck (accepted s) = (s.variables < 65536) × (s.nodes < 4294967296)

abbrev pub FitsTrial : Answer Tried → Type 0
FitsTrial (refused number place) = Tellable number place
FitsTrial (accepted t) = t.leaves < 4294967296

abbrev pub FitsCopied : Answer Copied → Type 0
FitsCopied (refused number place) = Tellable number place
FitsCopied (accepted c) = (c.new_length < 65536) × (c.copied < 65536) × (c.lowest < 65536)

abbrev pub FitsSolved : Solved → Type 0
FitsSolved (is_refused number place) = Tellable number place
FitsSolved (is_stopped x settled expanded) = Countable x settled expanded
FitsSolved (is_ended v settled expanded) = Countable 0 settled expanded

abbrev pub FitsGuards : Guards → Type 0
FitsGuards (guards_refused number place) = Tellable number place
FitsGuards (guards_stopped x settled expanded) = Countable x settled expanded
FitsGuards (guards_true settled expanded) = Countable 0 settled expanded
FitsGuards (guards_kept length stops) = (length < 4294967296) × (stops < 65536)

abbrev pub FitsOutcome : Forced → Type 0
FitsOutcome neither = Unit {0}
FitsOutcome with-0 = Unit {0}
FitsOutcome with-1 = Unit {0}
FitsOutcome both = Unit {0}
FitsOutcome (stopped_at x) = x < 4294967296

abbrev pub FitsForced : Answer Panel → Type 0
FitsForced (refused number place) = Tellable number place
FitsForced (accepted a) = FitsOutcome a.outcome

abbrev pub FitsCompared : Compared → Type 0
FitsCompared (order.is_refused which number place) = (which < 256) × Tellable number place
FitsCompared (is_ordered o) = Unit {0}

-- an answer's counts are those given and Solve's own
pub record Own (given-settled given-expanded settled expanded : ℕ) : Type 0 where
  pub own_settled : ℕ
  pub own_expanded : ℕ
  pub settled_is : settled ≡ given-settled + own_settled
  pub expanded_is : expanded ≡ given-expanded + own_expanded
  pub few : own_settled + own_expanded ≤ 1024
