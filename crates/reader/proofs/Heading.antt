-- The header of a text, and what is unread behind its line.
-- Assumes nothing.
use mathlib.Core.Path.{◌≡◌, refl, sym, ap, ap₂, ◌∙◌, subst}
use mathlib.Core.Bool.{Bool, true, false, cond}
use Prim.Native.Nat.{ℕ, suc, ◌+◌, ◌-◌, ◌≤◌}
use native.Mathlib.Omega.{arith}
use lib.Dec.{ltb}
use lib.ListN.{length, take, drop, length-drop, drop_of_length-le}
use lib.Seq.{take_all, drop-drop}
use borrow.Author.Tests.{ltb-true, ltb-false}
use Rattle.sheet.specs.Format.{Bytes, Format}
use Rattle.sheet.specs.Operations.{Written}
use Rattle.sheet.specs.Qdimacs.{line_end, header_of, text_header, qdimacs_call}
use Rattle.sheet.specs.Texts.{separated}
use Rattle.words.specs.Words.{lead}
use Rattle.words.proofs.Words.{lead-within}
use Rattle.qdimacs.specs.declared.header.Header.{Header}
use Rattle.qdimacs.specs.Inner.Header.{first_line, behind_line, next_line, HeaderAt, Heads}
use Rattle.reader.specs.declared.Headed.{Headed}
use Rattle.reader.specs.Inner.{HeadedAt, ListsRead}

module _ (t : Bytes) {from end : ℕ} (found : HeaderAt t from) (e : end ≡ from + lead line_end (drop from t)) where
  pub end_inside : end ≤ length t
  end_inside = omega (arith, lead-within line_end (drop from t), length-drop from t, found.inside)

  line-size : end ≡ from + lead line_end (drop from t) → end - from ≡ lead line_end (drop from t)
  line-size q = omega arith

  line_is : take (end - from) (drop from t) ≡ first_line (drop from t)
  line_is = ap (λ (k : ℕ). take k (drop from t)) (line-size e)

  behind_is : drop (next_line end (length t)) t ≡ behind_line (drop from t)
  behind_is = go (ltb end (length t)) refl
    where
      place : end ≡ from + lead line_end (drop from t) → end + 1 ≡ from + suc (lead line_end (drop from t))
      place q = omega arith

      go : (b : Bool) → ltb end (length t) ≡ b → drop (cond b (end + 1) (length t)) t ≡ behind_line (drop from t)
      go true q = ap (λ (k : ℕ). drop k t) (place e) ∙ sym (drop-drop (suc (lead line_end (drop from t))) from t)
      go false q =
          drop_of_length-le t {i = length t} (omega arith) ∙
          sym (drop_of_length-le (drop from t) {i = suc (lead line_end (drop from t))} (omega (arith, ltb-false end (length t) q, length-drop from t)))

  next_inside : next_line end (length t) ≤ length t
  next_inside = go (ltb end (length t)) refl
    where
      go : (b : Bool) → ltb end (length t) ≡ b → cond b (end + 1) (length t) ≤ length t
      go true q = omega (arith, ltb-true end (length t) q)
      go false q = omega arith

  header_is : header_of (separated (take (end - from) (drop from t))) ≡ text_header t
  unfolding text_header
  header_is = ap (λ (l : Bytes). header_of (separated l)) line_is ∙ ap header_of (sym found.text_words.of_header)

  pub headed : {h : Header} {to : ℕ} → Heads (header_of (separated (take (end - from) (drop from t)))) h → to ≡ next_line end (length t) → HeadedAt t 0 (record { header = h; to = to })
  headed {h} {to} heads q =
      record {
        inside = subst (λ (k : ℕ). k ≤ length t) (sym q) next_inside;
        heads = subst (λ H. Heads H h) header_is heads;
        below = ap (λ (k : ℕ). separated (drop k t)) q ∙ ap separated behind_is ∙ sym found.text_words.below;
      }

pub unread_lent : (at : ℕ) (t : Bytes) → take (length t - at) (drop at t) ≡ drop at t
unread_lent at t = take_all (length t - at) (drop at t) (omega (arith, length-drop at t))

pub headed_from : (t : Bytes) (at : ℕ) {h : Header} {to : ℕ} → at ≤ length t → HeadedAt (take (length t - at) (drop at t)) 0 (record { header = h; to = to }) →
    HeadedAt t at (record { header = h; to = at + to })
headed_from t at {h} {to} within lent =
    let from = subst (λ (b : Bytes). HeadedAt b 0 (record { header = h; to = to })) (unread_lent at t) lent in
    record {
      inside = omega (arith, from.inside, length-drop at t);
      heads = from.heads;
      below = ap separated (sym (drop-drop to at t)) ∙ from.below;
    }

-- the header at a text's begin, then the lists that it leaves unread
module _ (t : Bytes) (h : Headed) {t₁ t₂ : Bytes} {n₁ n₂ : ℕ} (opened : t₁ ≡ t) (first : n₁ ≡ 0) (headed : HeadedAt t₁ n₁ h) (same : t₂ ≡ t₁) (goes : n₂ ≡ h.to) where
  pub still_inside : n₂ ≤ length t₂
  still_inside = subst (λ (b : Bytes). n₂ ≤ length b) (sym same) (subst (λ (n : ℕ). n ≤ length t₁) (sym goes) headed.inside)

  pub read_through : (F : Format) (out : Bytes) {w : Written} → ListsRead F h.header (drop n₂ t₂) out w → w ≡ qdimacs_call F t out
  read_through F out lists =
      let begun = subst (λ (n : ℕ). HeadedAt t n h) first (subst (λ (b : Bytes). HeadedAt b n₁ h) opened headed) in
      lists.reads t begun.heads (sym begun.below ∙ ap separated (sym (ap₂ (λ (n : ℕ) (b : Bytes). drop n b) goes (same ∙ opened))))
