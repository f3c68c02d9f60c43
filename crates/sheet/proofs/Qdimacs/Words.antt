-- Reading depends on the words alone: comments and blank lines above the header, blanks, line ends below it, and leading zeros change
-- nothing.
-- Assumes nothing.
use mathlib.Core.Path.{◌≡◌, refl, sym, ◌∙◌, ap, ap₂, subst}
use mathlib.Core.Bool.{Bool, true, false, not, ◌&&◌, cond}
use mathlib.Core.List.{List, [], ◌∷◌, ◌++◌, map, flat_map}
use Prim.Native.Nat.{ℕ, zero, suc, ◌-◌, ◌≤◌, ◌<◌}
use native.Mathlib.Omega.{arith}
use lib.Dec.{eqb, leb}
use lib.ListN.{length, get_or, replicate}
use borrow.Author.Tests.{leb-true, ne_eqb}
use Rattle.formula.proofs.Booleans.{and_parts}
use Rattle.sheet.specs.Format.{Bytes, Format}
use Rattle.sheet.specs.Sheet.{sheet}
use Rattle.sheet.specs.Operations.{write}
use Rattle.sheet.specs.Qdimacs.{split, is_nil, nonempty, all, line_end, blank, lines, words, digit, unsigned, number_from, negative}
use Rattle.sheet.specs.Qdimacs.{magnitude, is_word, Token, plain, minus, other, token, from_header, Header, header_of}
use Rattle.sheet.specs.Qdimacs.{text_header, words_below, tokens_below, said, qdimacs, said_tests, qdimacs_tests, qdimacs_call}
use Rattle.sheet.proofs.Qdimacs.Lists.{split-++, split_separator, split_uncut, split_piece, split_either, nonempty-++, nonempty_flatMap}
use Rattle.sheet.specs.Texts.{Uncut, separator, separated, Line, is_skipped, header_words, TextWords}
use Rattle.sheet.specs.Texts.{LeadingZeros, SameWords, as_it_is, unsigned_zeros, negative_zeros}

-- separators

-- the words of all lines are what blanks and line ends alike separate
pub words-of-lines : (b : Bytes) → flat_map words (lines b) ≡ separated b
unfolding words lines separated
words-of-lines b = sym (ap nonempty (split_either blank line_end b) ∙ nonempty_flatMap (split blank) (split line_end b))

pub separated-++ : (l : Bytes) (c : ℕ) (r : Bytes) → separator c ≡ true → separated (l ++ c ∷ r) ≡ separated l ++ separated r
unfolding separated
separated-++ l c r e = ap nonempty (split-++ separator l c r e) ∙ nonempty-++ (split separator l) (split separator r)

-- one separator is as good as another, and one as good as several
pub separators_alike : (l : Bytes) (c d : ℕ) (r : Bytes) → separator c ≡ true → separator d ≡ true → separated (l ++ c ∷ r) ≡ separated (l ++ d ∷ r)
separators_alike l c d r e f = separated-++ l c r e ∙ sym (separated-++ l d r f)

pub separated-separator : (c : ℕ) (r : Bytes) → separator c ≡ true → separated (c ∷ r) ≡ separated r
unfolding separated nonempty is_nil
separated-separator c r e = ap nonempty (split_separator separator c r e)

pub separator_again : (l : Bytes) (c d : ℕ) (r : Bytes) → separator c ≡ true → separator d ≡ true
    → separated (l ++ c ∷ d ∷ r) ≡ separated (l ++ c ∷ r)
separator_again l c d r e f =
    separated-++ l c (d ∷ r) e ∙ ap (λ (ws : List Bytes). separated l ++ ws) (separated-separator d r f) ∙ sym (separated-++ l c r e)

-- a word up to the next separator, or to the end
pub nonempty_word : (p : ℕ → Bool) (w : Bytes) (c : ℕ) (r : Bytes) → is_nil w ≡ false → Uncut p w → p c ≡ true
    → nonempty (split p (w ++ c ∷ r)) ≡ w ∷ nonempty (split p r)
unfolding nonempty
nonempty_word p w c r h u e = ap nonempty (split_piece p w c r u e) ∙ rw h

pub nonempty-last : (p : ℕ → Bool) (w : Bytes) → is_nil w ≡ false → Uncut p w → nonempty (split p w) ≡ w ∷ []
unfolding nonempty
nonempty-last p w h u = ap nonempty (split_uncut p w u) ∙ rw h

pub separated_word : (w : Bytes) (c : ℕ) (r : Bytes) → is_nil w ≡ false → Uncut separator w → separator c ≡ true
    → separated (w ++ c ∷ r) ≡ w ∷ separated r
unfolding separated
separated_word w c r h u e = nonempty_word separator w c r h u e

pub separated-last : (w : Bytes) → is_nil w ≡ false → Uncut separator w → separated w ≡ w ∷ []
unfolding separated
separated-last w h u = nonempty-last separator w h u

-- lines

module _ (l : Bytes) (line : Line l) where
  lines-∷ : (r : Bytes) → lines (l ++ 10 ∷ r) ≡ l ∷ lines r
  unfolding lines
  lines-∷ r = split_piece line_end l 10 r line refl

  lines_one : lines l ≡ l ∷ []
  unfolding lines
  lines_one = split_uncut line_end l line

  pub above-header : (r : Bytes) → is_skipped l ≡ true → TextWords (l ++ 10 ∷ r) (header_words r) (words_below r)
  unfolding from_header words_below
  above-header r e = record { of_header = rw (lines-∷ r, e); below = rw (lines-∷ r, e) }

  pub at_header : (r : Bytes) → is_skipped l ≡ false → TextWords (l ++ 10 ∷ r) (words l) (separated r)
  unfolding from_header words_below
  at_header r e = record { of_header = rw (lines-∷ r, e); below = rw (lines-∷ r, e) (words-of-lines r) }

  pub last-above : is_skipped l ≡ true → TextWords l [] []
  unfolding from_header words_below words nonempty split is_nil flat_map
  last-above e = record { of_header = rw (lines_one, e); below = rw (lines_one, e) }

  pub last-header : is_skipped l ≡ false → TextWords l (words l) []
  unfolding from_header words_below flat_map
  last-header e = record { of_header = rw (lines_one, e); below = rw (lines_one, e) }

-- leading zeros

pub number_zeros : (k : ℕ) (w : Bytes) → number_from 0 (replicate k 48 ++ w) ≡ number_from 0 w
unfolding number_from
number_zeros zero w = refl
number_zeros (suc k) w = number_zeros k w

pub unsigned_zeros_too : (k : ℕ) (w : Bytes) → unsigned w ≡ true → unsigned (replicate k 48 ++ w) ≡ true
unfolding unsigned is_nil all
unsigned_zeros_too zero w h = h
unsigned_zeros_too (suc k) w h = (and_parts (not (is_nil (replicate k 48 ++ w))) (all digit (replicate k 48 ++ w)) (unsigned_zeros_too k w h)).1

-- its first byte is a digit
first_digit : (c : ℕ) (w : Bytes) → unsigned (c ∷ w) ≡ true → (48 ≤ c) × (c ≤ 57)
unfolding unsigned is_nil all
first_digit c w h =
    let b = and_parts (leb 48 c) (leb c 57) (and_parts (digit c) (all digit w) h).0 in
    (leb-true 48 c b.0, leb-true c 57 b.1)

-- so it is no other word
unsigned_word : (w : Bytes) (d : ℕ) (ds : Bytes) → unsigned w ≡ true → 57 < d → is_word w (d ∷ ds) ≡ false
unfolding is_word
unsigned_word [] d ds h l = refl
unsigned_word (c ∷ w) d ds h l =
    let b = first_digit c w h in
    ap (λ (m : Bool). m && is_word w ds) (ne_eqb c d (λ e. omega (arith, b.1)))

pub unsigned-magnitude : (w : Bytes) → unsigned w ≡ true → magnitude w ≡ number_from 0 w
unfolding magnitude number_from
unsigned-magnitude [] h = refl
unsigned-magnitude (c ∷ w) h =
    let b = first_digit c w h in
    ap (λ (m : Bool). cond m (number_from 0 w) (number_from 0 (c ∷ w))) (ne_eqb c 45 (λ e. omega (arith, b.0)))

-- what digits say, and digits behind a minus sign
pub plain_token : (w : Bytes) → unsigned w ≡ true → token w ≡ plain (number_from 0 w)
unfolding token
plain_token w h =
    rw (unsigned_word w 101 [] h (omega arith), unsigned_word w 97 [] h (omega arith), h) (ap plain (unsigned-magnitude w h))

abbrev pub negated : ℕ → Token
negated zero = other
negated (suc n) = minus n

pub minus-token : (w : Bytes) → unsigned w ≡ true → token (45 ∷ w) ≡ negated (number_from 0 w)
unfolding token is_word unsigned all is_nil negative magnitude
minus-token w h = rw h (by (number_from 0 w))
  where
    by : (n : ℕ) → cond (not (eqb n 0)) (minus (n - 1)) other ≡ negated n
    by zero = refl
    by (suc n) = rw (ne_eqb (suc n) 0 (λ e. omega arith)) (ap minus (omega arith))

pub token_zeros : {v w : Bytes} → LeadingZeros v w → token v ≡ token w
token_zeros as_it_is = refl
token_zeros (unsigned_zeros k {w} h) =
    plain_token w h ∙ ap plain (sym (number_zeros k w)) ∙ sym (plain_token (replicate k 48 ++ w) (unsigned_zeros_too k w h))
token_zeros (negative_zeros k {w} h) =
    minus-token w h ∙ ap negated (sym (number_zeros k w)) ∙ sym (minus-token (replicate k 48 ++ w) (unsigned_zeros_too k w h))

word_zeros : {v w : Bytes} (d : ℕ) (ds : Bytes) → 57 < d → LeadingZeros v w → is_word v (d ∷ ds) ≡ is_word w (d ∷ ds)
unfolding is_word
word_zeros d ds l as_it_is = refl
word_zeros d ds l (unsigned_zeros k {w} h) = unsigned_word w d ds h l ∙ sym (unsigned_word (replicate k 48 ++ w) d ds (unsigned_zeros_too k w h) l)
word_zeros d ds l (negative_zeros k {w} h) =
    ap (λ (m : Bool). m && is_word w ds) (ne_eqb 45 d (λ e. omega arith)) ∙
    sym (ap (λ (m : Bool). m && is_word (replicate k 48 ++ w) ds) (ne_eqb 45 d (λ e. omega arith)))

tokens_same : (vs ws : List Bytes) → SameWords vs ws → map token vs ≡ map token ws
tokens_same [] [] h = refl
tokens_same [] (w ∷ ws) h = absurd h
tokens_same (v ∷ vs) [] h = absurd h
tokens_same (v ∷ vs) (w ∷ ws) h = ap₂ ◌∷◌ (token_zeros h.0) (tokens_same vs ws h.1)

length_same : (vs ws : List Bytes) → SameWords vs ws → length vs ≡ length ws
length_same [] [] h = refl
length_same [] (w ∷ ws) h = absurd h
length_same (v ∷ vs) [] h = absurd h
length_same (v ∷ vs) (w ∷ ws) h = ap suc (length_same vs ws h.1)

getD_same : (i : ℕ) (vs ws : List Bytes) → SameWords vs ws → LeadingZeros (get_or vs i []) (get_or ws i [])
getD_same i [] [] h = as_it_is
getD_same i [] (w ∷ ws) h = absurd h
getD_same i (v ∷ vs) [] h = absurd h
getD_same zero (v ∷ vs) (w ∷ ws) h = h.0
getD_same (suc i) (v ∷ vs) (w ∷ ws) h = getD_same i vs ws h.1

unsigned_same : {v w : Bytes} → LeadingZeros v w → unsigned v ≡ unsigned w
unfolding unsigned all is_nil
unsigned_same as_it_is = refl
unsigned_same (unsigned_zeros k {w} h) = h ∙ sym (unsigned_zeros_too k w h)
unsigned_same (negative_zeros k {w} h) = refl

magnitude_same : {v w : Bytes} → LeadingZeros v w → magnitude v ≡ magnitude w
unfolding magnitude
magnitude_same as_it_is = refl
magnitude_same (unsigned_zeros k {w} h) =
    unsigned-magnitude w h ∙ sym (number_zeros k w) ∙ sym (unsigned-magnitude (replicate k 48 ++ w) (unsigned_zeros_too k w h))
magnitude_same (negative_zeros k {w} h) = sym (number_zeros k w)

header_same : (vs ws : List Bytes) → SameWords vs ws → header_of vs ≡ header_of ws
unfolding header_of
header_same vs ws h =
    rw (
      length_same vs ws h,
      word_zeros 112 [] (omega arith) (getD_same 0 vs ws h),
      word_zeros 99 (110 ∷ 102 ∷ []) (omega arith) (getD_same 1 vs ws h),
      unsigned_same (getD_same 2 vs ws h),
      unsigned_same (getD_same 3 vs ws h),
      magnitude_same (getD_same 2 vs ws h),
      magnitude_same (getD_same 3 vs ws h),
    )

-- Two texts with the same words in the header's line and below it, but for leading zeros, are read alike.
pub words-alone : (F : Format) (t u out : Bytes) → SameWords (header_words t) (header_words u) → SameWords (words_below t) (words_below u)
    → qdimacs_call F t out ≡ qdimacs_call F u out
unfolding qdimacs_call qdimacs_tests qdimacs text_header tokens_below
words-alone F t u out h k =
    ap₂ (λ (x : Header) (ts : List Token). write (said_tests F x ts (length out)) (sheet F (said x ts)) out)
    (header_same (header_words t) (header_words u) h) (tokens_same (words_below t) (words_below u) k)

words-equal : (vs ws : List Bytes) → vs ≡ ws → SameWords vs ws
words-equal vs ws e = subst (SameWords vs) e (same vs)
  where
    same : (us : List Bytes) → SameWords us us
    same [] = tt
    same (u ∷ us) = (as_it_is, same us)

alike : (F : Format) (t u out : Bytes) {hs ws : List Bytes} → TextWords t hs ws → TextWords u hs ws → qdimacs_call F t out ≡ qdimacs_call F u out
alike F t u out p q =
    words-alone F t u out (words-equal (header_words t) (header_words u) (p.of_header ∙ sym q.of_header))
    (words-equal (words_below t) (words_below u) (p.below ∙ sym q.below))

module _ (F : Format) (out : Bytes) where
  -- a comment or a blank line above
  pub line-above : (l r : Bytes) → Line l → is_skipped l ≡ true → qdimacs_call F (l ++ 10 ∷ r) out ≡ qdimacs_call F r out
  line-above l r line e = alike F (l ++ 10 ∷ r) r out (above-header l line r e) (record { of_header = refl; below = refl })

  module _ (l : Bytes) (line : Line l) (heads : is_skipped l ≡ false) where
    -- blanks in the header's line
    pub header-alike : (k r : Bytes) → Line k → is_skipped k ≡ false → words k ≡ words l
        → qdimacs_call F (k ++ 10 ∷ r) out ≡ qdimacs_call F (l ++ 10 ∷ r) out
    header-alike k r line' e same =
        alike F (k ++ 10 ∷ r) (l ++ 10 ∷ r) out (subst (λ (hs : List Bytes). TextWords (k ++ 10 ∷ r) hs (separated r)) same (at_header k line' r e))
        (at_header l line r heads)

    -- blanks and line ends below it
    pub below_alike : (r s : Bytes) → separated r ≡ separated s → qdimacs_call F (l ++ 10 ∷ r) out ≡ qdimacs_call F (l ++ 10 ∷ s) out
    below_alike r s same =
        alike F (l ++ 10 ∷ r) (l ++ 10 ∷ s) out (subst (TextWords (l ++ 10 ∷ r) (words l)) same (at_header l line r heads)) (at_header l line s heads)
