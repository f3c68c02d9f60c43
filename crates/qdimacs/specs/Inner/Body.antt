-- What is read of the words below a header, and their sheet.
-- Assumes nothing.
use Rattle.std.specs.Prelude.{◌≡◌, false, Result, List, ◌∷◌, ◌++◌, map, ℕ, suc, ◌+◌, ◌*◌, ◌-◌, ◌^◌, ◌≤◌, ◌<◌, length, replicate}
use Rattle.sheet.specs.Format.{Bytes, Format, Row, row, digits}
use Rattle.sheet.specs.Sheet.{binding_row, row_kinds, row_arguments}
use Rattle.sheet.specs.Check.{Answer}
use Rattle.sheet.specs.Qdimacs.{text_header, tokens_below, qdimacs_call}
use Rattle.sheet.specs.Texts.{header_fails, counts_fail}
use Rattle.rows.specs.Layouts.{width, Fits, total, Room}
use Rattle.rows.specs.declared.Layout.{Layout}
use Rattle.checking.specs.Answers.{written_answer}
use Rattle.rows.specs.declared.refusals.Refusal.{Refusal}
use Rattle.words.specs.Numbers.{Capped, largest}
use Rattle.qdimacs.specs.Inner.Lists.{between, clause_tokens, ends}
use Rattle.qdimacs.specs.Inner.Cursor.{tokens_at}
use Rattle.qdimacs.specs.Inner.Marks.{Listed, bindings_in, frees}
use Rattle.qdimacs.specs.Inner.Rows.{clause_rows}
use Rattle.qdimacs.specs.declared.header.Header.{Header}
use Rattle.qdimacs.specs.declared.body.Body.{Body}

pub record Scanned (b : Bytes) (k : Body) : Type 0 where
  pub listed : Listed b
  pub inside : k.from ≤ length b
  pub clauses_from : tokens_at b k.from ≡ clause_tokens between (tokens_at b 0)
  pub clauses_are : k.clauses ≡ ends (tokens_at b k.from)
  pub words_are : k.words ≡ length (tokens_at b k.from)
  pub most_is : k.most ≤ 1024

-- the rows: free variables, the variables of the quantifier lines, AND, and the clauses
abbrev pub body_rows : Bytes → List ℕ → Body → List Row
body_rows b m k = map binding_row (frees m k.most) ++ (map binding_row (bindings_in b) ++ (row 5 k.clauses ∷ clause_rows (tokens_at b k.from)))

pub record Placeable (b : Bytes) (m : List ℕ) (k : Body) (s : Layout) (len : ℕ) : Type 0 where
  pub scanned : Scanned b k
  pub variables_are : s.variables ≡ length (frees m k.most) + length (bindings_in b)
  pub nodes_are : s.nodes ≡ suc k.words
  pub room : Room s len
  pub nodes_fit : Fits s s.nodes
  pub few_rows : total s < 2 ^ 32

-- rows as a sheet, with zeros behind it
abbrev pub laid : Layout → List Row → ℕ → Bytes
laid s rs len =
    digits (width s) s.variables ++ digits (width s) (total s - s.variables) ++ row_kinds rs ++ row_arguments (width s) rs ++
    replicate (len - (2 * width s + total s + width s * total s)) 0

-- a text with these words below a header that is as it should be
pub record Below (F : Format) (t b : Bytes) (n : ℕ) : Type 0 where
  pub tokens_are : tokens_below t ≡ tokens_at b 0
  pub header_good : header_fails F (text_header t) ≡ false
  pub variables_are : (text_header t).variable_count ≡ n

-- the call on a text has this answer and leaves this output
abbrev pub CallAnswers : Format → Bytes → Bytes → Answer ℕ → Bytes → Type 0
CallAnswers F t out a new = record { answer = a; output = new } ≡ qdimacs_call F t out

pub record CountedAnswers (F : Format) (b : Bytes) (k : Body) (out : Bytes) (r : Result ℕ Refusal) (new : Bytes) : Type 0 where
  pub answers : (t : Bytes) → Below F t b k.most → counts_fail (text_header t) (tokens_below t) ≡ false
      → CallAnswers F t out (written_answer r) new

pub record Answers (F : Format) (b : Bytes) (h : Header) (out : Bytes) (r : Result ℕ Refusal) (new : Bytes) : Type 0 where
  pub answers : (t : Bytes) → Below F t b h.variables → Capped largest (text_header t).clause_count h.clauses
      → CallAnswers F t out (written_answer r) new
