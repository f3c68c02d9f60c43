-- Join: the verdict of 2 to the k answers by the first k quantifiers.
-- Assumes nothing.
use Rattle.std.specs.Prelude.{◌≡◌, Bool, true, false, cond, List, [], ◌∷◌, ℕ, ◌^◌, length, take, drop}
use Rattle.std.specs.Bool.{beq}
use Rattle.std.proofs.Math.Option.{Option, none, some}
use Rattle.formula.specs.Tree.{Quantifier, Prefix, Formula}
use Rattle.formula.specs.Truth.{join}
use Rattle.formula.specs.Trial.{stops_at}

-- "true, false, unknown"
abbrev pub Answer : Type 0
Answer = Option Bool

-- "exists is true once one half is, for all false once one half is, whatever the other says; else both must be known"
unfoldable pub if_stops : Quantifier → Bool → Answer
if_stops q b = cond (beq (stops_at q) b) (some b) none

unfoldable pub weigh : Quantifier → Answer → Answer → Answer
weigh q none none = none
weigh q none (some b) = if_stops q b
weigh q (some a) none = if_stops q a
weigh q (some a) (some b) = some (join q a b)

-- an answer for every list of values of the rows: those for value 0 of the first row, then those for value 1
unfoldable pub joined : Prefix → List Answer → Answer
joined [] [] = none
joined [] (a ∷ xs) = a
joined (z ∷ p) xs = weigh z.quantifier (joined p (take (2 ^ length p) xs)) (joined p (drop (2 ^ length p) xs))

unfoldable pub join_answers : ℕ → Formula → List Answer → Answer
join_answers k f xs = joined (take k f.prefix) xs

-- the answer for a list of values
unfoldable pub answer_for : List Bool → List Answer → Answer
answer_for [] [] = none
answer_for [] (a ∷ xs) = a
answer_for (b ∷ bs) xs = answer_for bs (cond b (drop (2 ^ length bs) xs) (take (2 ^ length bs) xs))

-- "whatever the unknown ones turn out to be": some of them are known now, and the others are as they were
pub data TurnedOut : List Answer → List Answer → Type 0 where
  no_answer : TurnedOut [] []
  as_before : (a : Answer) {xs ys : List Answer} → TurnedOut xs ys → TurnedOut (a ∷ xs) (a ∷ ys)
  now_known : (b : Bool) {xs ys : List Answer} → TurnedOut xs ys → TurnedOut (none ∷ xs) (some b ∷ ys)

unfoldable pub all_known : List Answer → Bool
all_known [] = true
all_known (none ∷ xs) = false
all_known (some b ∷ xs) = all_known xs

-- a way for the unknown answers to turn out, all of them, so that the verdict is b
pub record TurnsOut (k : ℕ) (f : Formula) (xs : List Answer) (b : Bool) : Type 0 where
  pub answers : List Answer
  pub turned : TurnedOut xs answers
  pub known : all_known answers ≡ true
  pub is_verdict : join_answers k f answers ≡ some b
