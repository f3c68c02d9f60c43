-- What a word is, by its class.
-- Assumes nothing.
use mathlib.Core.Path.{◌≡◌, refl, sym, ◌∙◌, subst}
use mathlib.Core.Bool.{Bool, true, false, not, ◌&&◌, ◌||◌, cond}
use mathlib.Core.List.{[], ◌∷◌}
use Prim.Native.Nat.{ℕ, zero, suc, ◌-◌}
use native.Mathlib.Omega.{arith}
use lib.Dec.{eqb, eqb-suc-zero}
use borrow.Author.Tests.{eqb-true}
use Rattle.formula.specs.Tree.{exists, for_all}
use Rattle.formula.proofs.Booleans.{and_parts}
use Rattle.sheet.specs.Format.{Bytes}
use Rattle.sheet.specs.Qdimacs.{is_nil, all, unsigned, number_from, negative, magnitude, is_word, is_e, is_a, Token, opener, plain, minus, other, token}
use Rattle.words.specs.Tokens.{name_of, number_class, class_of}

-- a word's class, what it says, and its magnitude
pub data View : ℕ → Token → ℕ → Type 0 where
  view_other : {m : ℕ} → View 1 other m
  view_exists : {m : ℕ} → View 2 (opener exists) m
  view_for_all : {m : ℕ} → View 3 (opener for_all) m
  view_p : {m : ℕ} → View 4 other m
  view_cnf : {m : ℕ} → View 5 other m
  view_zero : View 6 (plain 0) 0
  view_plain : {n : ℕ} → View 7 (plain (suc n)) (suc n)
  view_minus : {n : ℕ} → View 8 (minus n) (suc n)

-- what the header asks of a word, by its class
pub record Tells (w : Bytes) (k : ℕ) : Type 0 where
  pub p_is : is_word w (112 ∷ []) ≡ eqb k 4
  pub cnf_is : is_word w (99 ∷ 110 ∷ 102 ∷ []) ≡ eqb k 5
  pub unsigned_is : unsigned w ≡ (eqb k 6 || eqb k 7)
  pub view_is : View k (token w) (magnitude w)

same_word : (w v : Bytes) → is_word w v ≡ true → w ≡ v
unfolding is_word
same_word [] [] e = refl
same_word [] (d ∷ v) e = let z : ◌≡◌ {A = ℕ} 0 1 = cc in absurd (omega arith)
same_word (c ∷ w) [] e = let z : ◌≡◌ {A = ℕ} 0 1 = cc in absurd (omega arith)
same_word (c ∷ w) (d ∷ v) e = go (eqb c d) refl (same_word w v) e
  where
    go : (t : Bool) → eqb c d ≡ t → (is_word w v ≡ true → w ≡ v) → (t && is_word w v) ≡ true → c ∷ w ≡ d ∷ v
    go true f k h = rw (eqb-true c d f, k h)
    go false f k h = let z : ◌≡◌ {A = ℕ} 0 1 = cc in absurd (omega arith)

-- a number behind a minus sign is not 0
negative_some : (w : Bytes) → negative w ≡ true → eqb (magnitude w) 0 ≡ false
unfolding negative magnitude
negative_some [] e = let z : ◌≡◌ {A = ℕ} 0 1 = cc in absurd (omega arith)
negative_some (c ∷ w) e = go (eqb c 45) (eqb (number_from 0 w) 0) refl e
  where
    go : (t s : Bool) → eqb (number_from 0 w) 0 ≡ s → (t && unsigned w && not s) ≡ true → eqb (cond t (number_from 0 w) (number_from 0 (c ∷ w))) 0 ≡ false
    go true false f h = f
    go true true f h = let z = (and_parts (unsigned w) false h).1 in let y : ◌≡◌ {A = ℕ} 0 1 = cc in absurd (omega arith)
    go false s f h = let z : ◌≡◌ {A = ℕ} 0 1 = cc in absurd (omega arith)

view_unsigned : (m : ℕ) → View (cond (eqb m 0) 6 7) (plain m) m
view_unsigned zero = view_zero
view_unsigned (suc n) = rw (eqb-suc-zero n) view_plain

view_negative : (m : ℕ) → eqb m 0 ≡ false → View 8 (minus (m - 1)) m
view_negative zero e = let z : ◌≡◌ {A = ℕ} 0 1 = cc in absurd (omega arith)
view_negative (suc n) e = subst (λ k. View 8 (minus k) (suc n)) (less n) view_minus
  where
    less : (n : ℕ) → n ≡ suc n - 1
    less n = omega arith

e_tells : Tells (101 ∷ []) (class_of (101 ∷ []))
unfolding class_of name_of is_word number_class unsigned negative is_nil all token
e_tells = record { p_is = refl; cnf_is = refl; unsigned_is = refl; view_is = view_exists }

a_tells : Tells (97 ∷ []) (class_of (97 ∷ []))
unfolding class_of name_of is_word number_class unsigned negative is_nil all token
a_tells = record { p_is = refl; cnf_is = refl; unsigned_is = refl; view_is = view_for_all }

p_tells : Tells (112 ∷ []) (class_of (112 ∷ []))
unfolding class_of name_of is_word number_class unsigned negative is_nil all token
p_tells = record { p_is = refl; cnf_is = refl; unsigned_is = refl; view_is = view_p }

cnf_tells : Tells (99 ∷ 110 ∷ 102 ∷ []) (class_of (99 ∷ 110 ∷ 102 ∷ []))
unfolding class_of name_of is_word number_class unsigned negative is_nil all token
cnf_tells = record { p_is = refl; cnf_is = refl; unsigned_is = refl; view_is = view_cnf }

pub tells : (w : Bytes) → Tells w (class_of w)
unfolding class_of name_of number_class token
tells w = by-e (is_e w) refl
  where
    -- no name: the class is that of a number
    no_name : is_e w ≡ false → is_a w ≡ false → is_word w (112 ∷ []) ≡ false → is_word w (99 ∷ 110 ∷ 102 ∷ []) ≡ false
        → class_of w ≡ cond (unsigned w) (cond (eqb (magnitude w) 0) 6 7) (cond (negative w) 8 1)
    no_name e a p f = rw (e, a, p, f)

    said : is_e w ≡ false → is_a w ≡ false → token w ≡ cond (unsigned w) (plain (magnitude w)) (cond (negative w) (minus (magnitude w - 1)) other)
    said e a = rw (e, a)

    made : {k : ℕ} {t : Token} → class_of w ≡ k → token w ≡ t → is_word w (112 ∷ []) ≡ eqb k 4 → is_word w (99 ∷ 110 ∷ 102 ∷ []) ≡ eqb k 5
        → unsigned w ≡ (eqb k 6 || eqb k 7) → View k t (magnitude w) → Tells w (class_of w)
    made {k} {t} c s p f u v =
        subst (Tells w) (sym c) (record { p_is = p; cnf_is = f; unsigned_is = u; view_is = subst (λ x. View k x (magnitude w)) (sym s) v })

    digits : (z : Bool) → eqb (magnitude w) 0 ≡ z → unsigned w ≡ true → is_e w ≡ false → is_a w ≡ false → is_word w (112 ∷ []) ≡ false
        → is_word w (99 ∷ 110 ∷ 102 ∷ []) ≡ false → Tells w (class_of w)
    digits true z u e a p f = made {k = 6} {t = plain (magnitude w)} (no_name e a p f ∙ rw (u, z)) (said e a ∙ rw u) p f u
        (subst (λ k. View k (plain (magnitude w)) (magnitude w)) (rw z) (view_unsigned (magnitude w)))
    digits false z u e a p f = made {k = 7} {t = plain (magnitude w)} (no_name e a p f ∙ rw (u, z)) (said e a ∙ rw u) p f u
        (subst (λ k. View k (plain (magnitude w)) (magnitude w)) (rw z) (view_unsigned (magnitude w)))

    numbers : (u n : Bool) → unsigned w ≡ u → negative w ≡ n → is_e w ≡ false → is_a w ≡ false → is_word w (112 ∷ []) ≡ false
        → is_word w (99 ∷ 110 ∷ 102 ∷ []) ≡ false → Tells w (class_of w)
    numbers true n u g e a p f = digits (eqb (magnitude w) 0) refl u e a p f
    numbers false true u g e a p f = made {k = 8} {t = minus (magnitude w - 1)} (no_name e a p f ∙ rw (u, g)) (said e a ∙ rw (u, g)) p f u (view_negative (magnitude w) (negative_some w g))
    numbers false false u g e a p f = made {k = 1} {t = other} (no_name e a p f ∙ rw (u, g)) (said e a ∙ rw (u, g)) p f u view_other

    by-cnf : (t : Bool) → is_word w (99 ∷ 110 ∷ 102 ∷ []) ≡ t → is_e w ≡ false → is_a w ≡ false → is_word w (112 ∷ []) ≡ false → Tells w (class_of w)
    by-cnf true f e a p = subst (λ v. Tells v (class_of v)) (sym (same_word w (99 ∷ 110 ∷ 102 ∷ []) f)) cnf_tells
    by-cnf false f e a p = numbers (unsigned w) (negative w) refl refl e a p f

    by-p : (t : Bool) → is_word w (112 ∷ []) ≡ t → is_e w ≡ false → is_a w ≡ false → Tells w (class_of w)
    by-p true f e a = subst (λ v. Tells v (class_of v)) (sym (same_word w (112 ∷ []) f)) p_tells
    by-p false f e a = by-cnf (is_word w (99 ∷ 110 ∷ 102 ∷ [])) refl e a f

    by-a : (t : Bool) → is_a w ≡ t → is_e w ≡ false → Tells w (class_of w)
    by-a true f e = subst (λ v. Tells v (class_of v)) (sym (same_word w (97 ∷ []) f)) a_tells
    by-a false f e = by-p (is_word w (112 ∷ [])) refl e f

    by-e : (t : Bool) → is_e w ≡ t → Tells w (class_of w)
    by-e true f = subst (λ v. Tells v (class_of v)) (sym (same_word w (101 ∷ []) f)) e_tells
    by-e false f = by-a (is_a w) refl f
