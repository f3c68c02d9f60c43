-- QDIMACS 1.1 in (N1): a text's words, its header and its lists, the formula that they are, and the reader's refusals.
-- Assumes nothing.
use Rattle.std.specs.Prelude.{Bool, true, false, not, ◌&&◌, ◌||◌, cond, ℕ, zero, suc, ◌+◌, ◌-◌, ◌*◌, ◌/◌, ◌%◌, max, eqb, ltb, leb, length, get_or}
use mathlib.Core.List.{List, [], ◌∷◌, ◌++◌, map, tail, flatten, flat_map}
use Rattle.formula.specs.Tree.{and, or, Quantifier, exists, for_all, Tree, lit, node, Forest, ∅, ◌▸◌, Binding, Prefix, Formula, binds, distinct, rows, some_child}
use Rattle.formula.specs.Reduce.{is_literal, is_clause}
use Rattle.sheet.specs.Format.{Bytes, Format, sheet_length}
use Rattle.sheet.specs.Sheet.{sheet}
use Rattle.sheet.specs.Refusals.{size_outside, bound_twice, no_room, bad_header, bad_lists, beyond_header}
use Rattle.sheet.specs.Check.{Test, test}
use Rattle.sheet.specs.Operations.{Written, write}

-- a list split at its separators: what is before the first, between each two, and behind the last
unfoldable pub onto_first : {A : Type 0} → A → List (List A) → List (List A)
onto_first a [] = (a ∷ []) ∷ []
onto_first a (p ∷ ps) = (a ∷ p) ∷ ps

unfoldable pub split : {A : Type 0} → (A → Bool) → List A → List (List A)
split separates [] = [] ∷ []
split separates (a ∷ l) = cond (separates a) ([] ∷ split separates l) (onto_first a (split separates l))

unfoldable pub is_nil : {A : Type 0} → List A → Bool
is_nil [] = true
is_nil (a ∷ l) = false

unfoldable pub nonempty : {A : Type 0} → List (List A) → List (List A)
nonempty [] = []
nonempty (p ∷ ps) = cond (is_nil p) (nonempty ps) (p ∷ nonempty ps)

unfoldable pub all : {A : Type 0} → (A → Bool) → List A → Bool
all p [] = true
all p (a ∷ l) = p a && all p l

-- a line end; a blank: space, tab or carriage return
abbrev pub line_end : ℕ → Bool
line_end c = eqb c 10

abbrev pub blank : ℕ → Bool
blank c = eqb c 32 || eqb c 9 || eqb c 13

unfoldable pub lines : Bytes → List Bytes
lines t = split line_end t

unfoldable pub words : Bytes → List Bytes
words l = nonempty (split blank l)

-- a word of digits, and the number that it is, however many they are
abbrev pub digit : ℕ → Bool
digit c = leb 48 c && leb c 57

unfoldable pub unsigned : Bytes → Bool
unsigned w = not (is_nil w) && all digit w

unfoldable pub number_from : ℕ → Bytes → ℕ
number_from n [] = n
number_from n (c ∷ cs) = number_from (10 * n + (c - 48)) cs

-- its digits behind a minus sign: -0 is no number, and there is no plus sign
unfoldable pub negative : Bytes → Bool
negative [] = false
negative (c ∷ cs) = eqb c 45 && unsigned cs && not (eqb (number_from 0 cs) 0)

unfoldable pub magnitude : Bytes → ℕ
magnitude [] = 0
magnitude (c ∷ cs) = cond (eqb c 45) (number_from 0 cs) (number_from 0 (c ∷ cs))

unfoldable pub is_word : Bytes → Bytes → Bool
is_word [] [] = true
is_word [] (d ∷ ds) = false
is_word (c ∷ cs) [] = false
is_word (c ∷ cs) (d ∷ ds) = eqb c d && is_word cs ds

-- the word e or a opens a quantifier line
abbrev pub is_e : Bytes → Bool
is_e w = is_word w (101 ∷ [])

abbrev pub is_a : Bytes → Bool
is_a w = is_word w (97 ∷ [])

-- What a word is: e or a, by the quantifier; a number without sign; n for the number -(n+1); or none of these.
pub data Token : Type 0 where
  opener : Quantifier → Token
  plain : ℕ → Token
  minus : ℕ → Token
  other : Token

unfoldable pub token : Bytes → Token
token w =
    cond (is_e w) (opener exists)
    (cond (is_a w) (opener for_all) (cond (unsigned w) (plain (magnitude w)) (cond (negative w) (minus (magnitude w - 1)) other)))

abbrev pub is_plain : Token → Bool
is_plain (opener q) = false
is_plain (plain n) = true
is_plain (minus n) = false
is_plain other = false

abbrev pub is_whole : Token → Bool
is_whole (opener q) = false
is_whole (plain n) = true
is_whole (minus n) = true
is_whole other = false

abbrev pub absolute : Token → ℕ
absolute (opener q) = 0
absolute (plain n) = n
absolute (minus n) = suc n
absolute other = 0

-- above the header: comment lines (first byte c) and blank ones
unfoldable pub is_comment : Bytes → Bool
is_comment [] = false
is_comment (c ∷ cs) = eqb c 99

unfoldable pub from_header : List Bytes → List Bytes
from_header [] = []
from_header (l ∷ ls) = cond (is_comment l || is_nil (words l)) (from_header ls) (l ∷ ls)

-- the header: p cnf, and how many variables and clauses there are
pub record Header : Type 0 where
  pub well_formed : Bool
  pub variable_count : ℕ
  pub clause_count : ℕ

unfoldable pub header_of : List Bytes → Header
header_of ws =
    let word : ℕ → Bytes = λ i. get_or ws i [] in
    record {
      well_formed = eqb (length ws) 4 && is_word (word 0) (112 ∷ []) && is_word (word 1) (99 ∷ 110 ∷ 102 ∷ []) && unsigned (word 2) && unsigned (word 3);
      variable_count = magnitude (word 2);
      clause_count = magnitude (word 3);
    }

-- its line is the first that is left; where none is, there are no words and no header
unfoldable pub text_header : Bytes → Header
text_header t = header_of (words (get_or (from_header (lines t)) 0 []))

-- below it: the words of all lines
unfoldable pub words_below : Bytes → List Bytes
words_below t = flat_map words (tail (from_header (lines t)))

unfoldable pub tokens_below : Bytes → List Token
tokens_below t = map token (words_below t)

-- 0 ends a list; the words behind the last 0 are a list that is still open
abbrev pub is_end : Token → Bool
is_end (opener q) = false
is_end (plain n) = eqb n 0
is_end (minus n) = false
is_end other = false

unfoldable pub pieces : List Token → List (List Token)
pieces ts = split is_end ts

unfoldable pub ended_lists : List (List Token) → List (List Token)
ended_lists [] = []
ended_lists (p ∷ []) = []
ended_lists (p ∷ q ∷ ps) = p ∷ ended_lists (q ∷ ps)

unfoldable pub open_list : List (List Token) → List Token
open_list [] = []
open_list (p ∷ []) = p
open_list (p ∷ q ∷ ps) = open_list (q ∷ ps)

abbrev pub is_opener : Token → Bool
is_opener (opener q) = true
is_opener (plain n) = false
is_opener (minus n) = false
is_opener other = false

unfoldable pub is_quantified : List Token → Bool
is_quantified [] = false
is_quantified (t ∷ ts) = is_opener t

-- quantifier lines of numbers without sign, then clauses of whole numbers, each ended
unfoldable pub are_clauses : List (List Token) → Bool
are_clauses ls = all (λ l. all is_whole l) ls

unfoldable pub in_order : List (List Token) → Bool
in_order [] = true
in_order (l ∷ ls) = cond (is_quantified l) (all is_plain (tail l) && in_order ls) (are_clauses (l ∷ ls))

unfoldable pub well_listed : List Token → Bool
well_listed ts = in_order (ended_lists (pieces ts)) && is_nil (open_list (pieces ts))

-- the prefix of the quantifier lines, and the clauses
unfoldable pub quantified : Quantifier → List Token → Prefix
quantified q [] = []
quantified q (t ∷ ts) = record { quantifier = q; variable = absolute t } ∷ quantified q ts

unfoldable pub bindings : List Token → Prefix
bindings [] = []
bindings (opener q ∷ ts) = quantified q ts
bindings (plain n ∷ ts) = []
bindings (minus n ∷ ts) = []
bindings (other ∷ ts) = []

unfoldable pub bound : List (List Token) → Prefix
bound ls = flat_map bindings ls

unfoldable pub clauses : List (List Token) → List (List Token)
clauses [] = []
clauses (l ∷ ls) = cond (is_quantified l) (clauses ls) (l ∷ clauses ls)

-- a clause is OR of its literals, a negative number being the negated one; the tree is AND of the clauses
unfoldable pub literals : List Token → Forest
literals [] = ∅
literals (t ∷ ts) = lit (is_plain t) (absolute t) ▸ literals ts

unfoldable pub clause_trees : List (List Token) → Forest
clause_trees [] = ∅
clause_trees (c ∷ cs) = node or (literals c) ▸ clause_trees cs

unfoldable pub matrix_of : List (List Token) → Tree
matrix_of ls = node and (clause_trees (clauses ls))

-- variables of clauses that no quantifier line binds become exists rows in front, by number
unfoldable pub named : ℕ → List Token → Bool
named x [] = false
named x (t ∷ ts) = eqb (absolute t) x || named x ts

unfoldable pub is_free : List (List Token) → ℕ → Bool
is_free ls x = named x (flatten (clauses ls)) && not (binds (bound ls) x)

unfoldable pub free_up_to : ℕ → List (List Token) → Prefix
free_up_to zero ls = []
free_up_to (suc n) ls = free_up_to n ls ++ cond (is_free ls (suc n)) (record { quantifier = exists; variable = suc n } ∷ []) []

unfoldable pub said : Header → List Token → Formula
said h ts =
    let ls = ended_lists (pieces ts) in
    record { prefix = free_up_to h.variable_count ls ++ bound ls; matrix = matrix_of ls }

unfoldable pub qdimacs : Bytes → Formula
qdimacs t = said (text_header t) (tokens_below t)

-- the variables of a list: of a quantifier line those behind its e or a
unfoldable pub numbers_of : List Token → List Token
numbers_of l = cond (is_quantified l) (tail l) l

unfoldable pub above_count : ℕ → List (List Token) → Bool
above_count n ls = not (all (λ t. leb (absolute t) n) (flat_map numbers_of ls))

-- 15 the header; 16 the lists; 17 a variable or the number of clauses; 6 bound twice; 2 too many nodes; 13 output shorter than the sheet
unfoldable pub said_tests : Format → Header → List Token → ℕ → List Test
said_tests F h ts len =
    let ls = ended_lists (pieces ts) in
    let f = said h ts in
    test (not h.well_formed || ltb F.most_variables h.variable_count) bad_header 0 ∷
    test (not (well_listed ts)) bad_lists 0 ∷
    test (above_count h.variable_count ls || not (eqb (length (clauses ls)) h.clause_count)) beyond_header 0 ∷
    test (not (distinct (bound ls))) bound_twice 0 ∷
    test (ltb F.most_nodes (rows f.matrix)) size_outside 0 ∷
    test (ltb len (sheet_length F (length f.prefix) (rows f.matrix))) no_room 0 ∷
    []

unfoldable pub qdimacs_tests : Format → Bytes → ℕ → List Test
qdimacs_tests F t len = said_tests F (text_header t) (tokens_below t) len

unfoldable pub qdimacs_call : Format → Bytes → Bytes → Written
qdimacs_call F t out = write (qdimacs_tests F t (length out)) (sheet F (qdimacs t)) out

-- The other way, for a matrix that is AND of ORs of literals: a header with the highest variable number and the number of clauses, a
-- quantifier line for each row of the prefix, a line for each clause.

-- a number's digits in front of others; k bounds how many they are
unfoldable pub decimal_before : ℕ → ℕ → Bytes → Bytes
decimal_before zero n w = w
decimal_before (suc k) n w = cond (ltb n 10) ((48 + n) ∷ w) (decimal_before k (n / 10) ((48 + n % 10) ∷ w))

unfoldable pub decimal : ℕ → Bytes
decimal n = decimal_before (suc n) n []

unfoldable pub highest : Prefix → ℕ
highest [] = 0
highest (z ∷ p) = max z.variable (highest p)

abbrev pub letter : Quantifier → ℕ
letter or = 101
letter and = 97

abbrev pub row_words : Binding → List Bytes
row_words z = (letter z.quantifier ∷ []) ∷ decimal z.variable ∷ []

abbrev pub literal_word : Tree → Bytes
literal_word (lit true v) = decimal v
literal_word (lit false v) = 45 ∷ decimal v
literal_word (node o ts) = []

unfoldable pub literal_words : Forest → List Bytes
literal_words ∅ = []
literal_words (t ▸ ts) = literal_word t ∷ literal_words ts

abbrev pub clause_words : Tree → List Bytes
clause_words (lit s v) = []
clause_words (node o ts) = literal_words ts

unfoldable pub clauses_words : Forest → List (List Bytes)
clauses_words ∅ = []
clauses_words (t ▸ ts) = clause_words t ∷ clauses_words ts

abbrev pub matrix_words : Tree → List (List Bytes)
matrix_words (lit s v) = []
matrix_words (node o ts) = clauses_words ts

unfoldable pub list_text : List Bytes → Bytes
list_text ws = flat_map (λ w. w ++ 32 ∷ []) ws ++ 48 ∷ 10 ∷ []

unfoldable pub header_text : ℕ → ℕ → Bytes
header_text v c = 112 ∷ 32 ∷ 99 ∷ 110 ∷ 102 ∷ 32 ∷ decimal v ++ 32 ∷ decimal c

unfoldable pub printed : Formula → Bytes
printed f =
    header_text (highest f.prefix) (length (matrix_words f.matrix)) ++
    10 ∷ flat_map list_text (map row_words f.prefix ++ matrix_words f.matrix)

-- AND of ORs of literals
unfoldable pub is_clause_set : Tree → Bool
is_clause_set (lit s v) = false
is_clause_set (node or ts) = false
is_clause_set (node and ts) = not (some_child (λ t. is_literal t || not (is_clause t)) ts)
