-- What a word is, and the next word of a text.
-- Assumes nothing.
use Rattle.std.specs.Prelude.{◌≡◌, not, ◌&&◌, cond, ℕ, ◌≤◌, ◌<◌, eqb, length, drop, get_or}
use mathlib.Core.List.{List, [], ◌∷◌, tail}
use Rattle.sheet.specs.Format.{Bytes}
use Rattle.sheet.specs.Qdimacs.{unsigned, number_from, negative, magnitude, is_word, is_e, is_a}
use Rattle.sheet.specs.Texts.{separated}
use Rattle.words.specs.Numbers.{Capped, largest}
use Rattle.words.specs.declared.token.Token.{Token}

-- 2 e, 3 a, 4 p, 5 cnf, and 1 any other
unfoldable pub name_of : Bytes → ℕ
name_of w = cond (is_e w) 2 (cond (is_a w) 3 (cond (is_word w (112 ∷ [])) 4 (cond (is_word w (99 ∷ 110 ∷ 102 ∷ [])) 5 1)))

-- 6 the number 0, 7 another without sign, 8 one with a minus sign, and 1 what is no number
unfoldable pub number_class : Bytes → ℕ
number_class w = cond (unsigned w) (cond (eqb (magnitude w) 0) 6 7) (cond (negative w) 8 1)

unfoldable pub class_of : Bytes → ℕ
class_of w = cond (eqb (name_of w) 1) (number_class w) (name_of w)

-- the class of the first word, 0 where there is none
unfoldable pub first_class : List Bytes → ℕ
first_class [] = 0
first_class (w ∷ ws) = class_of w

-- the token of a word of digits, and of what is behind a minus sign
pub record Plain (w : Bytes) (t : Token) : Type 0 where
  pub class_is : t.class ≡ cond (eqb (number_from 0 w) 0) 6 7
  pub magnitude_is : Capped largest (number_from 0 w) t.magnitude

pub record Negated (w : Bytes) (t : Token) : Type 0 where
  pub class_is : t.class ≡ cond (unsigned w && not (eqb (number_from 0 w) 0)) 8 1
  pub magnitude_is : 6 ≤ t.class → Capped largest (number_from 0 w) t.magnitude

-- the token of a word
pub record Says (w : Bytes) (t : Token) : Type 0 where
  pub class_is : t.class ≡ class_of w
  pub magnitude_is : 6 ≤ t.class → Capped largest (magnitude w) t.magnitude

-- the token of the first word from a place on, and where the words behind it begin
pub record Reads (b : Bytes) (at : ℕ) (t : Token) : Type 0 where
  pub class_is : t.class ≡ first_class (separated (drop at b))
  pub magnitude_is : 6 ≤ t.class → Capped largest (magnitude (get_or (separated (drop at b)) 0 [])) t.magnitude
  pub others : separated (drop t.to b) ≡ tail (separated (drop at b))
  pub inside : t.to ≤ length b
  pub onward : at < length b → at < t.to
