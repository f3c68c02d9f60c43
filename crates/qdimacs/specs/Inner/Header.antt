-- The header's line, and what its words are.
-- Assumes nothing.
use Rattle.std.specs.Prelude.{◌≡◌, Bool, true, ◌&&◌, ◌||◌, cond, ℕ, suc, ◌+◌, ◌≤◌, eqb, ltb, length, take, drop}
use Rattle.sheet.specs.Format.{Bytes}
use Rattle.sheet.specs.Qdimacs.{line_end, words}
use Rattle.sheet.specs.Qdimacs as text
use Rattle.sheet.specs.Texts.{TextWords, separated}
use Rattle.words.specs.Words.{lead}
use Rattle.words.specs.Numbers.{Capped, largest}
use Rattle.qdimacs.specs.declared.header.Header.{Header}

-- the first line of a text, and what stands behind it
abbrev pub first_line : Bytes → Bytes
first_line b = take (lead line_end b) b

abbrev pub behind_line : Bytes → Bytes
behind_line b = drop (suc (lead line_end b)) b

abbrev pub next_line : ℕ → ℕ → ℕ
next_line to len = cond (ltb to len) (to + 1) len

-- the header's line begins at `at`, and the words below it behind that line
pub record HeaderAt (t : Bytes) (at : ℕ) : Type 0 where
  pub inside : at ≤ length t
  pub text_words : TextWords t (separated (first_line (drop at t))) (separated (behind_line (drop at t)))

abbrev pub unsigned_class : ℕ → Bool
unsigned_class k = eqb k 6 || eqb k 7

unfoldable pub is_header : ℕ → ℕ → ℕ → ℕ → ℕ → Bool
is_header p cnf variables clauses last =
    eqb p 4 && (eqb cnf 5 && (unsigned_class variables && (unsigned_class clauses && eqb last 0)))

pub record Heads (h : text.Header) (r : Header) : Type 0 where
  pub well_formed_is : r.well_formed ≡ h.well_formed
  pub variables_are : r.well_formed ≡ true → Capped largest h.variable_count r.variables
  pub clauses_are : r.well_formed ≡ true → Capped largest h.clause_count r.clauses
