-- The names of the format, by their letters.
-- Assumes nothing.
use mathlib.Core.Path.{◌≡◌, refl, ap, ◌∙◌}
use mathlib.Core.Bool.{false, ◌&&◌, cond, and-false, and-true}
use mathlib.Core.List.{[], ◌∷◌}
use Prim.Native.Nat.{ℕ, suc}
use lib.Dec.{eqb}
use lib.ListN.{length}
use Rattle.sheet.specs.Format.{Bytes}
use Rattle.sheet.specs.Qdimacs.{is_word}
use Rattle.words.specs.Tokens.{name_of}

-- a word of another length is another word
pub no_word : (w v : Bytes) → (length w ≡ length v → ⊥) → is_word w v ≡ false
unfolding is_word
no_word [] [] h = absurd (h refl)
no_word [] (d ∷ v) h = refl
no_word (c ∷ w) [] h = refl
no_word (c ∷ w) (d ∷ v) h = ap (λ t. eqb c d && t) (no_word w v (λ e. h (ap suc e))) ∙ and-false (eqb c d)

pub name_one : (c : ℕ) → name_of (c ∷ []) ≡ cond (eqb c 101) 2 (cond (eqb c 97) 3 (cond (eqb c 112) 4 1))
unfolding name_of is_word
name_one c = simp (and-true, and-false)

pub name_three : (c d e : ℕ) → name_of (c ∷ d ∷ e ∷ []) ≡ cond (eqb c 99 && (eqb d 110 && eqb e 102)) 5 1
unfolding name_of is_word
name_three c d e = simp (and-true, and-false)

pub name-none : (w : Bytes) → (length w ≡ 1 → ⊥) → (length w ≡ 3 → ⊥) → name_of w ≡ 1
unfolding name_of
name-none w h k =
    rw (no_word w (101 ∷ []) h, no_word w (97 ∷ []) h, no_word w (112 ∷ []) h, no_word w (99 ∷ 110 ∷ 102 ∷ []) k)
