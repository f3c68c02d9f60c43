-- What code tells of a word, and of the next one.
-- Assumes nothing.
use mathlib.Core.Logic.{inl, inr}
use mathlib.Core.Path.{◌≡◌, refl, sym, ap, ap₂, ◌∙◌, subst}
use mathlib.Core.Bool.{Bool, true, false, not, ◌&&◌, cond}
use mathlib.Core.List.{[], ◌∷◌, tail}
use Prim.Native.Nat.{ℕ, suc, ◌+◌, ◌-◌, ◌≤◌, ◌<◌}
use native.Mathlib.Omega.{arith}
use lib.Dec.{eqb}
use lib.ListN.{length, take, drop, get_or, length-drop, drop_of_length-le}
use lib.Seq.{take_all, length-take-le, drop-drop}
use borrow.Author.Tests.{eq-eqb, ne_eqb}
use Rattle.formula.proofs.Booleans.{and_parts}
use Rattle.sheet.specs.Format.{Bytes}
use Rattle.sheet.specs.Qdimacs.{split, nonempty, is_nil, digit, all, unsigned, number_from, negative, magnitude, is_word}
use Rattle.sheet.specs.Texts.{separator, separated}
use Rattle.words.specs.Words.{lead, gap}
use Rattle.words.specs.Numbers.{Capped, largest}
use Rattle.words.specs.Tokens.{name_of, number_class, class_of, first_class, Plain, Negated, Says, Reads}
use Rattle.words.specs.declared.token.Token.{Token}
use Rattle.words.proofs.Words.{lead-within, gap_within, words-gap, gap-lead, words-lead}
use Rattle.words.proofs.Digits.{digit_range}

abbrev token : ℕ → ℕ → ℕ → Token
token k m to = record { class = k; magnitude = m; to = to }

-- a capped number that is not 0 is one of a number that is not 0
some_capped : (n v : ℕ) → Capped largest n v → (v ≡ 0 → ⊥) → n ≡ 0 → ⊥
some_capped n v (inl e) k z = k (omega arith)
some_capped n v (inr e) k z = absurd (omega (arith, e.0))

-- negated

pub negated_other : {w : Bytes} {to : ℕ} → all digit w ≡ false → Negated w (token 1 0 to)
unfolding unsigned
negated_other {w} e = record { class_is = rw e (sym (no (is_nil w) (not (eqb (number_from 0 w) 0)))); magnitude_is = λ l. absurd (omega arith) }
  where
    no : (s t : Bool) → ◌≡◌ {A = ℕ} (cond (not s && false && t) 8 1) 1
    no true t = refl
    no false t = refl

pub negated_some : (w : Bytes) {v to : ℕ} → all digit w ≡ true → Capped largest (number_from 0 w) v → (v ≡ 0 → ⊥) → Negated w (token 8 v to)
unfolding unsigned is_nil number_from
negated_some [] {v} d c z = absurd (some_capped 0 v c z refl)
negated_some (b ∷ w) {v} d c z =
    record { class_is = rw (d, ne_eqb (number_from 0 (b ∷ w)) 0 (some_capped (number_from 0 (b ∷ w)) v c z)); magnitude_is = λ _. c }

-- classify

name_small : (w : Bytes) → name_of w ≤ 5
unfolding name_of
name_small w = go (is_word w (101 ∷ [])) (is_word w (97 ∷ [])) (is_word w (112 ∷ [])) (is_word w (99 ∷ 110 ∷ 102 ∷ []))
  where
    go : (p q r s : Bool) → cond p 2 (cond q 3 (cond r 4 (cond s 5 1))) ≤ 5
    go true q r s = omega arith
    go false true r s = omega arith
    go false false true s = omega arith
    go false false false true = omega arith
    go false false false false = omega arith

pub says-name : {w : Bytes} {name to : ℕ} → name ≡ name_of w → (name ≡ 1 → ⊥) → Says w (token name 0 to)
unfolding class_of
says-name {w} {name} e o =
    record {
      class_is = rw (ne_eqb (name_of w) 1 (λ f. o (e ∙ f))) e;
      magnitude_is = λ l. absurd (omega (arith, name_small w));
    }

module _ (c : ℕ) (cs : Bytes) (o : name_of (c ∷ cs) ≡ 1) where
  no_name : class_of (c ∷ cs) ≡ number_class (c ∷ cs)
  unfolding class_of
  no_name = rw (eq-eqb (name_of (c ∷ cs)) 1 o)

  is_unsigned : (t : Bool) → all digit (c ∷ cs) ≡ t → unsigned (c ∷ cs) ≡ t
  unfolding unsigned is_nil
  is_unsigned t e = e

  no_sign : all digit (c ∷ cs) ≡ true → c ≡ 45 → ⊥
  unfolding all
  no_sign d e = let r = digit_range c (and_parts (digit c) (all digit cs) d).0 in omega (arith, r.0)

  plain_magnitude : (c ≡ 45 → ⊥) → magnitude (c ∷ cs) ≡ number_from 0 (c ∷ cs)
  unfolding magnitude
  plain_magnitude n = ap (λ t. cond t (number_from 0 cs) (number_from 0 (c ∷ cs))) (ne_eqb c 45 n)

  signed-magnitude : c ≡ 45 → magnitude (c ∷ cs) ≡ number_from 0 cs
  unfolding magnitude
  signed-magnitude e = ap (λ t. cond t (number_from 0 cs) (number_from 0 (c ∷ cs))) (eq-eqb c 45 e)

  sign_first : (t : Bool) → eqb c 45 ≡ t → negative (c ∷ cs) ≡ (t && unsigned cs && not (eqb (number_from 0 cs) 0))
  unfolding negative
  sign_first t e = ap (λ s. s && unsigned cs && not (eqb (number_from 0 cs) 0)) e

  list_plain : (t : Token) → all digit (c ∷ cs) ≡ true → Plain (c ∷ cs) t → Says (c ∷ cs) t
  unfolding number_class
  list_plain t d p =
      let m = plain_magnitude (no_sign d) in
      record {
        class_is = p.class_is ∙ ap (λ n. cond (eqb n 0) 6 7) (sym m) ∙
            sym (no_name ∙ ap (λ u. cond u (cond (eqb (magnitude (c ∷ cs)) 0) 6 7) (cond (negative (c ∷ cs)) 8 1)) (is_unsigned true d));
        magnitude_is = λ _. subst (λ n. Capped largest n t.magnitude) (sym m) p.magnitude_is;
      }

  list_other : (to : ℕ) → all digit (c ∷ cs) ≡ false → (c ≡ 45 → ⊥) → Says (c ∷ cs) (token 1 0 to)
  unfolding number_class
  list_other to d n =
      record {
        class_is = sym (no_name ∙ ap₂ (λ u v. cond u (cond (eqb (magnitude (c ∷ cs)) 0) 6 7) (cond v 8 1)) (is_unsigned false d) (sign_first false (ne_eqb c 45 n)));
        magnitude_is = λ l. absurd (omega arith);
      }

  list_negated : (t : Token) → all digit (c ∷ cs) ≡ false → c ≡ 45 → Negated cs t → Says (c ∷ cs) t
  unfolding number_class
  list_negated t d e n =
      record {
        class_is = n.class_is ∙
            sym (no_name ∙ ap₂ (λ u v. cond u (cond (eqb (magnitude (c ∷ cs)) 0) 6 7) (cond v 8 1)) (is_unsigned false d) (sign_first true (eq-eqb c 45 e)));
        magnitude_is = λ l. subst (λ m. Capped largest m t.magnitude) (sym (signed-magnitude e)) (n.magnitude_is l);
      }

pub says_plain : (w : Bytes) {name : ℕ} {t : Token} → 0 < length w → name ≡ name_of w → name ≡ 1 → all digit w ≡ true → Plain w t → Says w t
says_plain [] l e o d p = absurd (omega arith)
says_plain (c ∷ cs) {t = t} l e o d p = list_plain c cs (sym e ∙ o) t d p

pub says_other : (w : Bytes) {name to : ℕ} → 0 < length w → name ≡ name_of w → name ≡ 1 → all digit w ≡ false → (get_or w 0 0 ≡ 45 → ⊥)
    → Says w (token 1 0 to)
says_other [] l e o d n = absurd (omega arith)
says_other (c ∷ cs) {to = to} l e o d n = list_other c cs (sym e ∙ o) to d n

pub says-negated : (w : Bytes) {name : ℕ} {t : Token} → 0 < length w → name ≡ name_of w → name ≡ 1 → all digit w ≡ false → get_or w 0 0 ≡ 45
    → Negated (take (length w - 1) (drop 1 w)) t → Says w t
says-negated [] l e o d m n = absurd (omega arith)
says-negated (c ∷ cs) {t = t} l e o d m n =
    list_negated c cs (sym e ∙ o) t d m (subst (λ w. Negated w t) (take_all (suc (length cs) - 1) cs (omega arith)) n)

-- next_token

module _ (b : Bytes) (at : ℕ) {from : ℕ} (h : at ≤ length b) (is : from ≡ at + gap (drop at b)) where
  pub from_within : from ≤ length b
  from_within = omega (arith, gap_within (drop at b), length-drop at b)

  same_words : separated (drop at b) ≡ separated (drop from b)
  same_words = words-gap (drop at b) ∙ ap separated (drop-drop (gap (drop at b)) at b) ∙ ap (λ k. separated (drop k b)) (sym is)

  pub reads_none : from ≡ length b → Reads b at (token 0 0 (length b))
  unfolding first_class separated split nonempty is_nil
  reads_none e =
      let none : separated (drop from b) ≡ [] = ap separated (drop_of_length-le b {i = from} (omega arith)) in
      record {
        class_is = sym (ap first_class (same_words ∙ none));
        magnitude_is = λ l. absurd (omega arith);
        others = ap separated (drop_of_length-le b {i = length b} (omega arith)) ∙ sym (ap tail (same_words ∙ none));
        inside = omega arith;
        onward = λ l. l;
      }

  module _ (more : from ≡ length b → ⊥) {to : ℕ} (ends : to ≡ from + lead separator (drop from b)) where
    some : 0 < lead separator (drop from b)
    some =
        subst (λ d. 0 < lead separator d) (drop-drop (gap (drop at b)) at b ∙ ap (λ k. drop k b) (sym is))
        (gap-lead (drop at b) (omega (arith, length-drop at b, from_within)))

    pub some_bytes : 0 < length (take (to - from) (drop from b))
    some_bytes = omega (arith, some, ends, length-take-le (to - from) (drop from b) (omega (arith, ends, lead-within separator (drop from b))))

    pub to-within : (from < to) × (to ≤ length b)
    to-within = (omega (arith, some), omega (arith, lead-within separator (drop from b), length-drop from b, from_within))

    pub reads_word : {t : Token} → Says (take (to - from) (drop from b)) t → t.to ≡ to → Reads b at t
    unfolding first_class
    reads_word {t} s e =
        record {
          class_is = s.class_is ∙ ap first_class (sym found);
          magnitude_is = λ l. subst (λ w. Capped largest (magnitude w) t.magnitude) (ap (λ ws. get_or ws 0 []) (sym found)) (s.magnitude_is l);
          others = ap (λ k. separated (drop k b)) e ∙ ap tail (sym found);
          inside = omega (arith, to-within.1);
          onward = λ l. omega (arith, to-within.0);
        }
      where
        found : separated (drop at b) ≡ take (to - from) (drop from b) ∷ separated (drop to b)
        found =
            same_words ∙ words-lead (drop from b) some ∙
            ap₂ ◌∷◌ (ap (λ k. take k (drop from b)) (omega (arith, ends)))
            (ap separated (drop-drop (lead separator (drop from b)) from b) ∙ ap (λ k. separated (drop k b)) (sym ends))
