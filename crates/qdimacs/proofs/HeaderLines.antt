-- The lines above the header, the header's line, and its words.
-- Assumes nothing.
use mathlib.Core.Path.{◌≡◌, refl, sym, ap, ◌∙◌, subst}
use mathlib.Core.Bool.{Bool, true, false, not, ◌&&◌, cond}
use mathlib.Core.List.{[], ◌∷◌, ◌++◌, flat_map, append-nil}
use Prim.Native.Nat.{ℕ, suc, ◌+◌, ◌-◌, ◌≤◌, ◌<◌}
use native.Mathlib.Omega.{arith}
use lib.Dec.{eqb, ltb}
use lib.ListN.{length, take, drop, get_or, length-drop, drop_of_length-le}
use lib.Seq.{drop-drop}
use borrow.Author.Tests.{eqb-true, eqb-false, eq-eqb, ne_eqb, ltb-true, ltb-false}
use Rattle.sheet.specs.Format.{Bytes}
use Rattle.sheet.specs.Qdimacs.{split, nonempty, is_nil, all, line_end, lines, words, is_comment, from_header, words_below}
use Rattle.sheet.proofs.Qdimacs.Lists.{split_uncut}
use Rattle.sheet.proofs.Qdimacs.Words.{words-of-lines, above-header, at_header, last-above, last-header}
use Rattle.sheet.specs.Texts.{separated, Line, is_skipped, header_words, TextWords}
use Rattle.words.specs.Words.{lead, gap}
use Rattle.words.proofs.Words.{lead-within, gap_within, words-gap, gap-lead, words-lead}
use Rattle.qdimacs.specs.Inner.Header.{first_line, behind_line, next_line, HeaderAt}

-- a line

data LineCut (b : Bytes) : Type 0 where
  last_line : b ≡ first_line b → behind_line b ≡ [] → LineCut b
  more_lines : b ≡ first_line b ++ 10 ∷ behind_line b → LineCut b

line_cut : (b : Bytes) → LineCut b
unfolding lead
line_cut [] = last_line refl refl
line_cut (c ∷ b) = go (line_end c) refl (line_cut b)
  where
    go : (t : Bool) → line_end c ≡ t → LineCut b → LineCut (c ∷ b)
    go true e k = more_lines (rw e (ap (λ d. d ∷ b) (eqb-true c 10 e)))
    go false e (last_line p q) = last_line (rw e (ap (λ l. c ∷ l) p)) (rw e q)
    go false e (more_lines p) = more_lines (rw e (ap (λ l. c ∷ l) p))

pub line_uncut : (b : Bytes) → Line (first_line b)
unfolding lead all
line_uncut [] = refl
line_uncut (c ∷ b) = go (line_end c) refl (line_uncut b)
  where
    go : (t : Bool) → line_end c ≡ t → Line (first_line b) → Line (first_line (c ∷ b))
    go true e k = rw e
    go false e k = rw e (ap (λ t. not t && all (λ a. not (line_end a)) (first_line b)) e ∙ k)

words-line : (l : Bytes) → Line l → words l ≡ separated l
unfolding lines flat_map
words-line l h = sym (append-nil (words l)) ∙ ap (flat_map words) (sym (split_uncut line_end l h)) ∙ words-of-lines l

skip_line : (b : Bytes) → is_skipped (first_line b) ≡ true → TextWords b (header_words (behind_line b)) (words_below (behind_line b))
unfolding lines split words nonempty is_nil from_header is_comment words_below flat_map
skip_line b e = go (line_cut b)
  where
    nothing : (r : Bytes) → r ≡ [] → TextWords b [] [] → TextWords b (header_words r) (words_below r)
    nothing r q t = subst (λ x. TextWords b (header_words x) (words_below x)) (sym q) t

    go : LineCut b → TextWords b (header_words (behind_line b)) (words_below (behind_line b))
    go (last_line p q) = nothing (behind_line b) q (subst (λ x. TextWords x [] []) (sym p) (last-above (first_line b) (line_uncut b) e))
    go (more_lines p) = subst (λ x. TextWords x (header_words (behind_line b)) (words_below (behind_line b))) (sym p) (above-header (first_line b) (line_uncut b) (behind_line b) e)

found-line : (b : Bytes) → is_skipped (first_line b) ≡ false → TextWords b (separated (first_line b)) (separated (behind_line b))
unfolding separated split nonempty is_nil
found-line b e = subst (λ ws. TextWords b ws (separated (behind_line b))) (words-line (first_line b) (line_uncut b)) (go (line_cut b))
  where
    nothing : (r : Bytes) → r ≡ [] → TextWords b (words (first_line b)) [] → TextWords b (words (first_line b)) (separated r)
    nothing r q t = subst (λ x. TextWords b (words (first_line b)) (separated x)) (sym q) t

    go : LineCut b → TextWords b (words (first_line b)) (separated (behind_line b))
    go (last_line p q) = nothing (behind_line b) q (subst (λ x. TextWords x (words (first_line b)) []) (sym p) (last-header (first_line b) (line_uncut b) e))
    go (more_lines p) = subst (λ x. TextWords x (words (first_line b)) (separated (behind_line b))) (sym p) (at_header (first_line b) (line_uncut b) (behind_line b) e)

-- is_skipped

pub empty_skipped : (l : Bytes) → length l ≡ 0 → true ≡ is_skipped l
unfolding is_comment words nonempty split is_nil
empty_skipped [] e = refl
empty_skipped (c ∷ l) e = absurd (omega arith)

comment_is : (l : Bytes) (t : Bool) → (length l ≡ 0 → ⊥) → eqb (get_or l 0 0) 99 ≡ t → is_comment l ≡ t
unfolding is_comment
comment_is [] t n e = absurd (n refl)
comment_is (c ∷ l) t n e = e

pub comment_skipped : (l : Bytes) → (length l ≡ 0 → ⊥) → get_or l 0 0 ≡ 99 → true ≡ is_skipped l
comment_skipped l n e = rw (comment_is l true n (eq-eqb (get_or l 0 0) 99 e))

white_nil : (l : Bytes) → is_nil (separated l) ≡ eqb (gap l) (length l)
unfolding is_nil separated split nonempty
white_nil l = ap is_nil (words-gap l) ∙ go (eqb (gap l) (length l)) refl
  where
    go : (t : Bool) → eqb (gap l) (length l) ≡ t → is_nil (separated (drop (gap l) l)) ≡ t
    go true e = ap (λ (b : Bytes). is_nil (separated b)) (drop_of_length-le l {i = gap l} (omega (arith, eqb-true (gap l) (length l) e)))
    go false e =
        let n = eqb-false (gap l) (length l) e in
        let w = gap_within l in
        ap is_nil (words-lead (drop (gap l) l) (gap-lead l (omega (arith, n))))

pub white_skipped : (l : Bytes) {from : ℕ} → Line l → (length l ≡ 0 → ⊥) → (get_or l 0 0 ≡ 99 → ⊥) → from ≡ 0 + gap (drop 0 l) → eqb from (length l) ≡ is_skipped l
white_skipped l {from} line n c e =
    rw (comment_is l false n (ne_eqb (get_or l 0 0) 99 c), words-line l line, white_nil l) (ap (λ k. eqb k (length l)) (e ∙ plain-gap (gap l)))
  where
    plain-gap : (k : ℕ) → 0 + k ≡ k
    plain-gap k = omega arith

-- header_line: the text from `at` on has the same header

pub record Sought (t : Bytes) (at : ℕ) : Type 0 where
  pub inside : at ≤ length t
  pub same : TextWords t (header_words (drop at t)) (words_below (drop at t))

pub sought_none : (t : Bytes) → Sought t 0
sought_none t = record { inside = omega arith; same = record { of_header = refl; below = refl } }

pub part_line : (t : Bytes) (at to : ℕ) → to ≡ at + lead line_end (drop at t) → take (to - at) (drop at t) ≡ first_line (drop at t)
part_line t at to e = ap (λ k. take k (drop at t)) (size e)
  where
    size : to ≡ at + lead line_end (drop at t) → to - at ≡ lead line_end (drop at t)
    size e = omega arith

module _ (t : Bytes) {at to : ℕ} (inside : at ≤ length t) (e : to ≡ at + lead line_end (drop at t)) where
  pub behind_is : drop (next_line to (length t)) t ≡ behind_line (drop at t)
  behind_is = go (ltb to (length t)) refl
    where
      go : (b : Bool) → ltb to (length t) ≡ b → drop (cond b (to + 1) (length t)) t ≡ behind_line (drop at t)
      go true f = ap (λ k. drop k t) (place e) ∙ sym (drop-drop (suc (lead line_end (drop at t))) at t)
        where
          place : to ≡ at + lead line_end (drop at t) → to + 1 ≡ at + suc (lead line_end (drop at t))
          place e = omega arith
      go false f =
          drop_of_length-le t {i = length t} (omega arith) ∙
          sym (drop_of_length-le (drop at t) {i = suc (lead line_end (drop at t))} (omega (arith, ltb-false to (length t) f, length-drop at t)))

  pub next_inside : next_line to (length t) ≤ length t
  next_inside = go (ltb to (length t)) refl
    where
      go : (b : Bool) → ltb to (length t) ≡ b → cond b (to + 1) (length t) ≤ length t
      go true f = omega (arith, ltb-true to (length t) f)
      go false f = omega arith

  pub next-onward : at < length t → at < next_line to (length t)
  next-onward l = go (ltb to (length t)) refl
    where
      go : (b : Bool) → ltb to (length t) ≡ b → at < cond b (to + 1) (length t)
      go true f = omega (arith, ltb-true to (length t) f)
      go false f = omega arith

module _ (t : Bytes) {at to : ℕ} (s : Sought t at) (e : to ≡ at + lead line_end (drop at t)) where
  pub line_inside : to ≤ length t
  line_inside = omega (arith, lead-within line_end (drop at t), length-drop at t, s.inside)

  pub line_is : take (to - at) (drop at t) ≡ first_line (drop at t)
  line_is = part_line t at to e

  pub line_clean : Line (take (to - at) (drop at t))
  line_clean = subst Line (sym line_is) (line_uncut (drop at t))

  pub sought_found : is_skipped (take (to - at) (drop at t)) ≡ false → HeaderAt t at
  sought_found k =
      let f = found-line (drop at t) (ap is_skipped (sym line_is) ∙ k) in
      record { inside = s.inside; text_words = record { of_header = s.same.of_header ∙ f.of_header; below = s.same.below ∙ f.below } }

  pub sought_more : at < length t → is_skipped (take (to - at) (drop at t)) ≡ true → Sought t (next_line to (length t))
  sought_more l k =
      let f = skip_line (drop at t) (ap is_skipped (sym line_is) ∙ k) in
      record {
        inside = next_inside t s.inside e;
        same = record {
          of_header = s.same.of_header ∙ f.of_header ∙ ap header_words (sym (behind_is t s.inside e));
          below = s.same.below ∙ f.below ∙ ap words_below (sym (behind_is t s.inside e));
        };
      }

pub sought_all : (t : Bytes) {at : ℕ} → Sought t at → length t ≤ at → HeaderAt t at
unfolding lines split words nonempty is_nil from_header is_comment words_below flat_map separated lead
sought_all t {at} s l =
    let e = drop_of_length-le t {i = at} l in
    record {
      inside = s.inside;
      text_words = record {
        of_header = s.same.of_header ∙ ap header_words e ∙ sym (ap (λ b. separated (first_line b)) e);
        below = s.same.below ∙ ap words_below e ∙ sym (ap (λ b. separated (behind_line b)) e);
      };
    }
