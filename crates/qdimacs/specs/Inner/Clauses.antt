-- The clauses' words, counted.
-- Assumes nothing.
use Rattle.std.specs.Prelude.{◌≡◌, Bool, true, false, not, ◌&&◌, cond, ℕ, ◌+◌, ◌≤◌, eqb, ltb, ℤ, length}
use Rattle.sheet.specs.Format.{Bytes}
use Rattle.words.specs.Literals.{literal, variable}
use Rattle.words.specs.declared.token.Token.{Token}
use Rattle.qdimacs.specs.Inner.Lists.{whole_lists, ends}
use Rattle.qdimacs.specs.Inner.Cursor.{tokens_at}
use Rattle.qdimacs.specs.declared.clauses.Clauses.{Clauses}

-- the counts with one word more, by its class
abbrev pub count_step : Clauses → ℕ → Clauses
count_step c k =
    cond (eqb k 0) c
    (cond (eqb k 6) (record { whole = c.whole; ongoing = false; count = c.count + 1; words = c.words + 1 })
    (cond (ltb k 6) (record { whole = false; ongoing = true; count = c.count; words = c.words + 1 })
    (record { whole = c.whole; ongoing = true; count = c.count; words = c.words + 1 })))

pub record Counts (b : Bytes) (from : ℕ) (c : Clauses) : Type 0 where
  pub whole_is : (c.whole && not c.ongoing) ≡ whole_lists false (tokens_at b from)
  pub count_is : c.count ≡ ends (tokens_at b from)
  pub words_are : c.words ≡ length (tokens_at b from)
  pub few : c.count ≤ length b

-- the literal that a number is, and its variable
abbrev pub literal_said : Token → ℤ
literal_said t = literal (eqb t.class 8) t.magnitude

abbrev pub variable_said : Token → ℕ
variable_said t = variable (literal_said t)

abbrev pub says_above : ℕ → Token → Bool
says_above most t = cond (ltb t.class 6) false (ltb most (variable_said t))
