-- Answers joined row by row.
-- Assumes nothing.
use Rattle.std.specs.Prelude.{◌≡◌, true, ℕ, ◌-◌, ◌^◌, ◌≤◌, length, take, drop}
use Rattle.formula.specs.Join.{Answer, joined}
use Rattle.sheet.specs.Format.{Bytes}
use Rattle.sheet.specs.Join.{answers_of, are_answers}
use Rattle.rows.specs.Formulas.{Readable, prefix_in}
use Rattle.rows.specs.declared.Layout.{Layout}

-- an answer for every list of values of rows i to k
pub record Joinable (s : Layout) (b xs : Bytes) (i k : ℕ) : Type 0 where
  pub readable : Readable s b
  pub before : i ≤ k
  pub inside : k ≤ s.variables
  pub count : length xs ≡ 2 ^ (k - i)
  pub good : are_answers xs ≡ true

-- what they come to
abbrev pub joined_from : Layout → Bytes → Bytes → ℕ → ℕ → Answer
joined_from s b xs i k = joined (take (k - i) (drop i (prefix_in s b))) (answers_of xs)
