-- The rows of a text's words.
-- Assumes nothing.
use Rattle.std.specs.Prelude.{◌≡◌, Bool, true, false, not, ◌&&◌, cond, List, ◌++◌, ℕ, ◌+◌, ◌^◌, ◌≤◌, ◌<◌, eqb, ltb, ℤ, length, take, drop, set}
use Rattle.sheet.specs.Format.{Bytes, Row, row}
use Rattle.sheet.specs.Sheet.{forest_rows}
use Rattle.sheet.specs.Qdimacs.{Token, all, clause_trees}
use Rattle.sheet.specs.Texts.{up_to, lists}
use Rattle.rows.specs.Layouts.{Fits, total, Room}
use Rattle.rows.specs.declared.Layout.{Layout}
use Rattle.words.specs.Numbers.{largest}
use Rattle.words.specs.Literals.{variable, kind}
use Rattle.words.specs.declared.token.Token as code
use Rattle.qdimacs.specs.Inner.Lists.{first_length, whole_lists}
use Rattle.qdimacs.specs.Inner.Cursor.{tokens_at}
use Rattle.qdimacs.specs.Inner.Clauses.{literal_said}
use Rattle.qdimacs.specs.declared.write.ListPlace.{ListPlace}

-- rows with others in place of those from row r on
abbrev pub spliced : List Row → ℕ → List Row → List Row
spliced rs r new = take r rs ++ (new ++ drop (r + length new) rs)

-- the rows of clauses, from their words
abbrev pub clause_rows : List Token → List Row
clause_rows ts = forest_rows (clause_trees (lists ts))

-- a clause begins with this word: the place and the rows after its OR row
abbrev pub begins : ListPlace → ℕ → Bool
begins p k = p.fresh && not (eqb k 0)

abbrev pub open_place : ListPlace → ℕ → ListPlace
open_place p k = cond (begins p k) (record { at = p.at; row = p.row + 1; fresh = p.fresh }) p

abbrev pub open_rows : Bytes → ListPlace → ℕ → List Row → List Row
open_rows b p k rs = cond (begins p k) (set rs p.row (row 6 (first_length (tokens_at b p.at)))) rs

pub record Openable (b : Bytes) (p : ListPlace) (k : ℕ) (s : Layout) (len : ℕ) : Type 0 where
  pub room : Room s len
  pub inside : p.at ≤ length b
  pub has_row : begins p k ≡ true → p.row < total s
  pub few : p.row < largest
  pub fits : Fits s (first_length (tokens_at b p.at))

-- a literal's row
abbrev pub literal_row : ℤ → Row
literal_row l = row (kind l) (variable l)

-- the place and the rows after a word
abbrev pub word_place : code.Token → ListPlace → ListPlace
word_place t p =
    cond (eqb t.class 6) (record { at = t.to; row = p.row; fresh = true })
    (cond (ltb t.class 6) (record { at = t.to; row = p.row; fresh = p.fresh }) (record { at = t.to; row = p.row + 1; fresh = false }))

abbrev pub word_rows : code.Token → ListPlace → List Row → List Row
word_rows t p rs =
    cond (eqb t.class 6) rs
    (cond (ltb t.class 6) rs (set rs p.row (literal_row (literal_said t))))

-- whole clauses, each row with its place and each length with its bytes
pub record Writable (b : Bytes) (from : ℕ) (s : Layout) (len r : ℕ) : Type 0 where
  pub inside : from ≤ length b
  pub whole : whole_lists false (tokens_at b from) ≡ true
  pub below : all (up_to 1024) (tokens_at b from) ≡ true
  pub room : Room s len
  pub has_rows : r + length (tokens_at b from) ≤ total s
  pub few_rows : total s < 2 ^ 32
  pub lengths_fit : Fits s (length (tokens_at b from))
