-- Words and lines, by where they end.
-- Assumes nothing.
use mathlib.Core.Path.{◌≡◌, refl, ap, ◌∙◌}
use mathlib.Core.Bool.{Bool, true, false, cond}
use mathlib.Core.List.{List, [], ◌∷◌}
use Prim.Native.Nat.{ℕ, zero, suc, ◌≤◌, ◌<◌}
use native.Mathlib.Omega.{arith}
use lib.ListN.{length, take, drop}
use Rattle.sheet.specs.Format.{Bytes}
use Rattle.sheet.specs.Qdimacs.{onto_first, split, is_nil, nonempty}
use Rattle.sheet.specs.Texts.{separator, separated}
use Rattle.words.specs.Words.{lead, gap}

-- lead and gap

pub lead-within : (s : ℕ → Bool) (b : Bytes) → lead s b ≤ length b
unfolding lead
lead-within s [] = omega arith
lead-within s (c ∷ b) = go (s c) (lead-within s b)
  where
    go : (t : Bool) → lead s b ≤ length b → cond t 0 (suc (lead s b)) ≤ suc (length b)
    go true h = omega arith
    go false h = omega arith

pub gap_within : (b : Bytes) → gap b ≤ length b
unfolding gap
gap_within [] = omega arith
gap_within (c ∷ b) = go (separator c) (gap_within b)
  where
    go : (t : Bool) → gap b ≤ length b → cond t (suc (gap b)) 0 ≤ suc (length b)
    go true h = omega arith
    go false h = omega arith

-- what stands behind a separator
unfoldable pub behind : (ℕ → Bool) → Bytes → List Bytes
behind s [] = []
behind s (c ∷ b) = split s b

-- the first piece is what leads
pub split-lead : (s : ℕ → Bool) (b : Bytes) → split s b ≡ take (lead s b) b ∷ behind s (drop (lead s b) b)
unfolding lead split behind onto_first
split-lead s [] = refl
split-lead s (c ∷ b) = go (s c) (split-lead s b)
  where
    go : (t : Bool) → split s b ≡ take (lead s b) b ∷ behind s (drop (lead s b) b)
        → cond t ([] ∷ split s b) (onto_first c (split s b))
        ≡ take (cond t 0 (suc (lead s b))) (c ∷ b) ∷ behind s (drop (cond t 0 (suc (lead s b))) (c ∷ b))
    go true h = refl
    go false h = ap (onto_first c) h

-- words begin behind the gap
pub words-gap : (b : Bytes) → separated b ≡ separated (drop (gap b) b)
unfolding gap separated split nonempty is_nil
words-gap [] = refl
words-gap (c ∷ b) = go (separator c) refl (words-gap b)
  where
    go : (t : Bool) → separator c ≡ t → separated b ≡ separated (drop (gap b) b)
        → nonempty (split separator (c ∷ b)) ≡ nonempty (split separator (drop (cond t (suc (gap b)) 0) (c ∷ b)))
    go true e h = rw e h
    go false e h = refl

pub gap-lead : (b : Bytes) → gap b < length b → 0 < lead separator (drop (gap b) b)
unfolding gap lead
gap-lead [] l = absurd (omega arith)
gap-lead (c ∷ b) l = go (separator c) refl (gap-lead b) l
  where
    go : (t : Bool) → separator c ≡ t → (gap b < length b → 0 < lead separator (drop (gap b) b)) → cond t (suc (gap b)) 0 < suc (length b)
        → 0 < lead separator (drop (cond t (suc (gap b)) 0) (c ∷ b))
    go true e k l = k (omega arith)
    go false e k l = rw e (omega arith)

-- behind a word others begin as they would at its end
words-behind : (b : Bytes) → nonempty (behind separator (drop (lead separator b) b)) ≡ separated (drop (lead separator b) b)
unfolding lead separated split nonempty is_nil behind
words-behind [] = refl
words-behind (c ∷ b) = go (separator c) refl (words-behind b)
  where
    go : (t : Bool) → separator c ≡ t → nonempty (behind separator (drop (lead separator b) b)) ≡ separated (drop (lead separator b) b)
        → nonempty (behind separator (drop (cond t 0 (suc (lead separator b))) (c ∷ b))) ≡ nonempty (split separator (drop (cond t 0 (suc (lead separator b))) (c ∷ b)))
    go true e h = rw e
    go false e h = h

pub words-lead : (b : Bytes) → 0 < lead separator b → separated b ≡ take (lead separator b) b ∷ separated (drop (lead separator b) b)
unfolding separated nonempty is_nil
words-lead b l =
    ap nonempty (split-lead separator b) ∙ first b (lead separator b) (behind separator (drop (lead separator b) b)) l (lead-within separator b) ∙
    ap (λ ws. take (lead separator b) b ∷ ws) (words-behind b)
  where
    first : (b : Bytes) (n : ℕ) (ps : List Bytes) → 0 < n → n ≤ length b → nonempty (take n b ∷ ps) ≡ take n b ∷ nonempty ps
    first b zero ps l h = absurd (omega arith)
    first [] (suc n) ps l h = absurd (omega arith)
    first (c ∷ b) (suc n) ps l h = refl
