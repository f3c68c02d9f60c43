-- The words of a text from a place on, and the state after each.
-- Assumes nothing.
use Rattle.std.specs.Prelude.{◌≡◌, true, cond, List, map, ℕ, ◌≤◌, eqb, length, drop}
use Rattle.formula.specs.Tree.{and, or}
use Rattle.sheet.specs.Format.{Bytes}
use Rattle.sheet.specs.Qdimacs.{Token, token}
use Rattle.sheet.specs.Texts.{separated}
use Rattle.qdimacs.specs.Inner.Lists.{State, between, within, ordered, clause_tokens}
use Rattle.qdimacs.specs.declared.prefix.Cut.{Cut}

abbrev pub tokens_at : Bytes → ℕ → List Token
tokens_at b at = map token (separated (drop at b))

-- 0 between two quantifier lines, and within one its kind
abbrev pub state_code : State → ℕ
state_code between = 0
state_code (within or) = 1
state_code (within and) = 2

-- the state after a word, by its class: 3 where clauses begin, 4 at a wrong word
abbrev pub opened : ℕ → ℕ
opened k = cond (eqb k 0) 0 (cond (eqb k 2) 1 (cond (eqb k 3) 2 3))

abbrev pub continued : ℕ → ℕ → ℕ
continued s k = cond (eqb k 0) s (cond (eqb k 6) 0 (cond (eqb k 7) s 4))

abbrev pub step : ℕ → ℕ → ℕ
step s k = cond (eqb s 0) (opened k) (continued s k)

-- where the clauses begin
pub record Cuts (b : Bytes) (c : Cut) : Type 0 where
  pub inside : c.at ≤ length b
  pub ordered_is : c.ordered ≡ ordered between (tokens_at b 0)
  pub clauses_from : c.ordered ≡ true → tokens_at b c.at ≡ clause_tokens between (tokens_at b 0)
