-- The words of a text, and how they are read one by one (N1).
-- Assumes nothing.
use Rattle.std.specs.Prelude.{◌≡◌, Bool, true, not, ◌||◌, List, [], ◌∷◌, ◌++◌, ℕ, get_or, length, replicate, leb, eqb, ltb}
use Rattle.sheet.specs.Format.{Bytes, Format}
use Rattle.sheet.specs.Qdimacs.{all, split, is_nil, nonempty, line_end, blank, lines, words, is_comment, from_header, words_below}
use Rattle.sheet.specs.Qdimacs.{Token, absolute, Header, pieces, ended_lists, clauses, above_count, unsigned}

-- a list without a separator
abbrev pub Uncut : {A : Type 0} → (A → Bool) → List A → Type 0
Uncut p l = all (λ a. not (p a)) l ≡ true

-- "blanks (space, tab, carriage return) and line ends separate words"
abbrev pub separator : ℕ → Bool
separator c = blank c || line_end c

-- the words of a stretch of text
unfoldable pub separated : Bytes → List Bytes
separated b = nonempty (split separator b)

-- bytes without a line end
abbrev pub Line : Bytes → Type 0
Line l = Uncut line_end l

-- above the header: comment lines and blank ones
abbrev pub is_skipped : Bytes → Bool
is_skipped l = is_comment l || is_nil (words l)

-- the words of the header's line
abbrev pub header_words : Bytes → List Bytes
header_words t = words (get_or (from_header (lines t)) 0 [])

-- a text whose header has the words hs, with the words ws below it
pub record TextWords (t : Bytes) (hs ws : List Bytes) : Type 0 where
  pub of_header : header_words t ≡ hs
  pub below : words_below t ≡ ws

-- a number whose variable is n at most
abbrev pub up_to : ℕ → Token → Bool
up_to n t = leb (absolute t) n

-- the lists that a 0 ends
abbrev pub lists : List Token → List (List Token)
lists ts = ended_lists (pieces ts)

-- the tests of 15 and 17
abbrev pub header_fails : Format → Header → Bool
header_fails F h = not h.well_formed || ltb F.most_variables h.variable_count

abbrev pub counts_fail : Header → List Token → Bool
counts_fail h ts = above_count h.variable_count (lists ts) || not (eqb (length (clauses (lists ts))) h.clause_count)

-- A word, and the same with zeros in front of its digits, behind the sign if it has one.
pub data LeadingZeros : Bytes → Bytes → Type 0 where
  as_it_is : {w : Bytes} → LeadingZeros w w
  unsigned_zeros : (k : ℕ) {w : Bytes} → unsigned w ≡ true → LeadingZeros w (replicate k 48 ++ w)
  negative_zeros : (k : ℕ) {w : Bytes} → unsigned w ≡ true → LeadingZeros (45 ∷ w) (45 ∷ replicate k 48 ++ w)

-- word for word
abbrev pub SameWords : List Bytes → List Bytes → Type 0
SameWords [] [] = Unit {0}
SameWords [] (w ∷ ws) = ⊥
SameWords (v ∷ vs) [] = ⊥
SameWords (v ∷ vs) (w ∷ ws) = LeadingZeros v w × SameWords vs ws
