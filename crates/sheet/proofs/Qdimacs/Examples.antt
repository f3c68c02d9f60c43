-- Texts that N1 speaks of, each with what the reader answers.
-- Assumes nothing.
use mathlib.Core.Path.{◌≡◌, refl}
use mathlib.Core.List.{List, [], ◌∷◌, map, flatten, flat_map}
use mathlib.Core.Bool.{true, false}
use Prim.Native.Nat.{ℕ, zero, suc}
use Prim.Native.Char.{code}
use Prim.Native.String.{String, len, char_at}
use lib.ListN.{replicate}
use Rattle.formula.specs.Tree.{and, or, exists, for_all, lit, node, ∅, ◌▸◌, rows, count, binds, distinct}
use Rattle.sheet.specs.Format.{Bytes, narrow, sheet_length, digits}
use Rattle.sheet.specs.Sheet.{binding_row, tree_rows, formula_rows, row_kinds, row_arguments, sheet}
use Rattle.sheet.specs.Check.{Answer, refused, accepted, answer}
use Rattle.sheet.specs.Operations.{padded, output_after, write}
use Rattle.sheet.specs.Qdimacs.{onto_first, split, is_nil, all, nonempty, lines, words, unsigned, number_from, negative, magnitude}
use Rattle.sheet.specs.Qdimacs.{is_word, token, is_comment, from_header, header_of, text_header, words_below, tokens_below, pieces}
use Rattle.sheet.specs.Qdimacs.{ended_lists, open_list, is_quantified, are_clauses, in_order, well_listed, quantified, bindings}
use Rattle.sheet.specs.Qdimacs.{bound, clauses, literals, clause_trees, matrix_of, named, is_free, free_up_to, said, qdimacs}
use Rattle.sheet.specs.Qdimacs.{numbers_of, above_count, said_tests, qdimacs_tests, qdimacs_call, decimal_before, decimal, highest}
use Rattle.sheet.specs.Qdimacs.{literal_words, clauses_words, list_text, header_text, printed}

unfoldable pub bytes_from : ℕ → ℕ → String → Bytes
bytes_from zero i s = []
bytes_from (suc n) i s = code (char_at s i) ∷ bytes_from n (suc i) s

abbrev bytes : String → Bytes
bytes s = bytes_from (len s) 0 s

abbrev answer_of : String → Answer ℕ
answer_of s = (qdimacs_call narrow (bytes s) (replicate 60 0)).answer

abbrev output_of : String → Bytes
output_of s = (qdimacs_call narrow (bytes s) (replicate 26 7)).output

-- what a call computes with
reading : Unit {0}
unfolding bytes_from rows count binds distinct sheet_length digits binding_row tree_rows formula_rows row_kinds row_arguments sheet answer
    padded output_after write flatten flat_map onto_first split is_nil all nonempty lines words unsigned number_from negative magnitude
    is_word token is_comment from_header header_of text_header words_below tokens_below pieces ended_lists open_list is_quantified
    are_clauses in_order well_listed quantified bindings bound clauses literals clause_trees matrix_of named is_free free_up_to said
    qdimacs numbers_of above_count said_tests qdimacs_tests qdimacs_call
reading = tt

-- 1 is in no quantifier line, and comes first; zeros behind the sheet
pub free_in_front : output_of "p cnf 2 1\na 2 0\n1 -2 0" ≡ (2 ∷ 0 ∷ 4 ∷ 0 ∷ 1 ∷ 2 ∷ 5 ∷ 6 ∷ 3 ∷ 4 ∷ 1 ∷ 0 ∷ 2 ∷ 0 ∷ 1 ∷ 0 ∷ 2 ∷ 0 ∷ 1 ∷ 0 ∷ 2 ∷ 0 ∷ 0 ∷ 0 ∷ 0 ∷ 0 ∷ [])
unfolding reading
free_in_front = refl

-- by number, and not as they occur
pub free_by_number : output_of "p cnf 3 1\na 2 0\n3 -1 0" ≡ (3 ∷ 0 ∷ 4 ∷ 0 ∷ 1 ∷ 1 ∷ 2 ∷ 5 ∷ 6 ∷ 3 ∷ 4 ∷ 1 ∷ 0 ∷ 3 ∷ 0 ∷ 2 ∷ 0 ∷ 1 ∷ 0 ∷ 2 ∷ 0 ∷ 3 ∷ 0 ∷ 1 ∷ 0 ∷ 0 ∷ [])
unfolding reading
free_by_number = refl

pub record Tried : Type 0 where
  pub text : String
  pub says : Answer ℕ

abbrev tried : String → Answer ℕ → Tried
tried s a = record { text = s; says = a }

unfoldable pub texts : List Tried
texts =
    -- -0 is no number
    tried "p cnf 2 1\n-0 0" (refused 16 0) ∷
    tried "p cnf 2 1\n-00 0" (refused 16 0) ∷
    -- nor is a plus sign with digits, or digits with a letter
    tried "p cnf 2 1\n+1 0" (refused 16 0) ∷
    tried "p cnf 2 1\n1x 0" (refused 16 0) ∷
    -- a list that is open at the end
    tried "p cnf 2 1\n1 0 2" (refused 16 0) ∷
    -- 16 behind a variable above the count, and too many clauses
    tried "p cnf 2 1\n3 0 1 0 x" (refused 16 0) ∷
    -- a variable above the count, in a clause and in a quantifier line
    tried "p cnf 2 1\n3 0" (refused 17 0) ∷
    tried "p cnf 2 1\ne 3 0 1 0" (refused 17 0) ∷
    -- no comment below the header
    tried "p cnf 2 1\nc\n1 0" (refused 16 0) ∷
    -- clauses other than as many as said
    tried "p cnf 2 1\n" (refused 17 0) ∷
    tried "p cnf 2 1\n1 0 2 0" (refused 17 0) ∷
    -- no header; one with a fifth word, a sign, too many variables
    tried "" (refused 15 0) ∷
    tried "p cnf 2 1 0" (refused 15 0) ∷
    tried "p cnf -2 1\n1 0" (refused 15 0) ∷
    tried "p cnf 257 1\n1 0" (refused 15 0) ∷
    -- a comment begins with the line's first byte, and is no header
    tried " c\np cnf 0 0" (refused 15 0) ∷
    tried "c p cnf 0 0" (refused 15 0) ∷
    -- a clause count of any size is a number
    tried "p cnf 2 99999999999999999999\n1 0" (refused 17 0) ∷
    -- bound twice
    tried "p cnf 2 1\ne 1 0\ne 1 0 0" (refused 6 0) ∷
    -- a quantifier line after a clause, within a list, with a negative number
    tried "p cnf 2 1\n0\ne 1 0" (refused 16 0) ∷
    tried "p cnf 2 1\ne 1 a 2 0 0" (refused 16 0) ∷
    tried "p cnf 2 1\ne -1 0 0" (refused 16 0) ∷
    -- the lowest 32-bit number is out of range, and so are digits without end
    tried "p cnf 2 1\n-2147483648 0" (refused 17 0) ∷
    tried "p cnf 2 1\n123456789012345678901234567890 0" (refused 17 0) ∷
    -- more rows than the output has room for
    tried "p cnf 2 1\n1 1 1 1 1 1 1 1 1 1 1 1 1 1 1 1 1 1 1 1 0" (refused 13 0) ∷
    -- the highest number
    tried "p cnf 256 1\n-256 0" (accepted 16) ∷
    -- an empty clause; no clause at all; a quantifier line without variables
    tried "p cnf 2 1\n0" (accepted 10) ∷
    tried "p cnf 0 0" (accepted 7) ∷
    tried "p cnf 2 1\na 0 0" (accepted 10) ∷
    -- leading zeros, lists over lines, other blanks, comments and blank lines above
    tried "c x\n \np\tcnf 02 1\r\n01\n-2\t00" (accepted 22) ∷
    []

pub texts_answered : map (λ (t : Tried). answer_of t.text) texts ≡ map (λ (t : Tried). t.says) texts
unfolding reading texts
texts_answered = refl

-- and a formula as a text
pub printed_example :
    printed (record {
      prefix = record { quantifier = exists; variable = 12 } ∷ record { quantifier = for_all; variable = 3 } ∷ [];
      matrix = node and (node or (lit true 3 ▸ lit false 12 ▸ ∅) ▸ node or ∅ ▸ ∅);
    }) ≡ bytes "p cnf 12 2\ne 12 0\na 3 0\n3 -12 0\n0\n"
unfolding bytes_from flat_map decimal_before decimal highest literal_words clauses_words list_text header_text printed
printed_example = refl
