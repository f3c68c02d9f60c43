-- name and count_free: a word of the clauses a turn, then a number a turn.
-- Assumes nothing.
use mathlib.Core.Logic.{inl, inr}
use mathlib.Core.Path.{◌≡◌, refl, sym, ap, ap₂, ◌∙◌, subst}
use mathlib.Core.Bool.{Bool, true, false, ◌&&◌, ◌||◌, cond}
use Rattle.std.specs.Int.{from_bool}
use mathlib.Core.List.{List, [], ◌∷◌, ◌++◌}
use Prim.Native.Nat.{ℕ, suc, ◌+◌, ◌≤◌, ◌<◌}
use native.Mathlib.Numerals.{add-one}
use native.Mathlib.Omega.{arith}
use lib.Dec.{eqb, ltb, leb}
use lib.ListN.{length, get_or, set, length-set, length-append}
use lib.Seq.{get_or-set_same, get_or-set_other}
use borrow.Author.Tests.{eqb-true, eqb-false, eq-eqb, ne_eqb, ltb-true, ltb-false, leb-true, leb-false}
use Rattle.formula.specs.Tree.{exists}
use Rattle.formula.proofs.Booleans.{by_cases}
use Rattle.sheet.specs.Format.{Bytes}
use Rattle.sheet.specs.Qdimacs.{Token, absolute, named}
use Rattle.words.specs.Numbers.{Capped, largest}
use Rattle.words.specs.Literals.{literal, variable}
use Rattle.words.specs.Tokens.{Reads}
use Rattle.words.specs.declared.token.Token as code
use Rattle.words.proofs.Classes.{View, view_other, view_exists, view_for_all, view_p, view_cnf, view_zero, view_plain, view_minus}
use Rattle.words.proofs.Values.{Near, near}
use Rattle.qdimacs.specs.Inner.Cursor.{tokens_at}
use Rattle.qdimacs.specs.Inner.Clauses.{variable_said}
use Rattle.qdimacs.specs.Inner.Marks.{named_with, free_with, Names, frees}
use Rattle.qdimacs.proofs.Next.{Next, none, word, next}
use Rattle.qdimacs.proofs.Cutting.{no_tokens}

-- another number's word leaves x as it is
other_number : (m : List ℕ) (w : Token) (ts : List Token) (x : ℕ) → eqb (absolute w) x ≡ false → free_with m (w ∷ ts) x ≡ free_with m ts x
unfolding named
other_number m w ts x e = ap (λ b. eqb (get_or m x 0) 2 || (eqb (get_or m x 0) 0 && (b || named x ts))) e

-- a mark that stands leaves it too
marked-number : (m : List ℕ) (w : Token) (ts : List Token) (x : ℕ) → eqb (get_or m x 0) 0 ≡ false → free_with m (w ∷ ts) x ≡ free_with m ts x
unfolding named
marked-number m w ts x e =
    ap (λ b. eqb (get_or m x 0) 2 || (b && (eqb (absolute w) x || named x ts))) e ∙ sym (ap (λ b. eqb (get_or m x 0) 2 || (b && named x ts)) e)

-- a number that is not marked is marked as free
new-number : (m : List ℕ) (w : Token) (ts : List Token) (x : ℕ) → absolute w < length m → eqb (get_or m (absolute w) 0) 0 ≡ true
    → free_with m (w ∷ ts) x ≡ free_with (set m (absolute w) 2) ts x
unfolding named
new-number m w ts x l z = go (eqb (absolute w) x) refl
  where
    go : (t : Bool) → eqb (absolute w) x ≡ t → free_with m (w ∷ ts) x ≡ free_with (set m (absolute w) 2) ts x
    go true e =
        subst (λ y. free_with m (w ∷ ts) y ≡ free_with (set m (absolute w) 2) ts y) (eqb-true (absolute w) x e)
        (rw (eqb-true (get_or m (absolute w) 0) 0 z, get_or-set_same m (absolute w) 2 0 l) (ap (λ b. b || named (absolute w) ts) (self (absolute w))))
      where
        self : (n : ℕ) → eqb n n ≡ true
        self n = eq-eqb n n refl
    go false e =
        other_number m w ts x e ∙
        ap (λ (k : ℕ). eqb k 2 || (eqb k 0 && named x ts)) (sym (get_or-set_other m (absolute w) x 2 0 (λ q. eqb-false (absolute w) x e (sym q))))

small_zero : {k m : ℕ} {w : Token} → View k w m → k < 6 → absolute w ≡ 0
small_zero view_other l = refl
small_zero view_exists l = refl
small_zero view_for_all l = refl
small_zero view_p l = refl
small_zero view_cnf l = refl
small_zero view_zero l = refl
small_zero view_plain l = absurd (omega arith)
small_zero view_minus l = absurd (omega arith)

named_word : (m : List ℕ) (t : code.Token) {w : Token} {n : ℕ} (ts : List Token) (x : ℕ) → length m ≡ 1025 → 1 ≤ x → x ≤ 1024 → View t.class w n
    → (6 ≤ t.class → Capped largest n t.magnitude) → free_with m (w ∷ ts) x ≡ free_with (named_with t m) ts x
named_word m t {w} ts x size low high v c = go (ltb t.class 6) refl
  where
    Goal : List ℕ → Type 0
    Goal new = free_with m (w ∷ ts) x ≡ free_with new ts x

    marks : (y : ℕ) → y ≡ absolute w → y ≤ 1024 → (b : Bool) → eqb (get_or m y 0) 0 ≡ b → Goal (cond b (set m y 2) m)
    marks y e l true q = subst (λ z. Goal (set m z 2)) (sym e) (new-number m w ts x (omega (arith, size, e)) (subst (λ z. eqb (get_or m z 0) 0 ≡ true) e q))
    marks y e l false q =
        by_cases (eqb (absolute w) x)
        (λ f. marked-number m w ts x (subst (λ z. eqb (get_or m z 0) 0 ≡ false) (e ∙ eqb-true (absolute w) x f) q))
        (λ f. other_number m w ts x f)

    number : (y : ℕ) → Near y (absolute w) → (b : Bool) → leb 1025 y ≡ b → Goal (cond b m (cond (eqb (get_or m y 0) 0) (set m y 2) m))
    number y (inl e) true q = other_number m w ts x (ne_eqb (absolute w) x (λ f. absurd (omega (arith, leb-true 1025 y q, e, f))))
    number y (inr e) true q = other_number m w ts x (ne_eqb (absolute w) x (λ f. absurd (omega (arith, e.1, f))))
    number y (inl e) false q = marks y e (omega (arith, leb-false 1025 y q)) (eqb (get_or m y 0) 0) refl
    number y (inr e) false q = absurd (omega (arith, leb-false 1025 y q, e.0))

    go : (b : Bool) → ltb t.class 6 ≡ b
        → Goal (cond b m (cond (leb 1025 (variable_said t)) m (cond (eqb (get_or m (variable_said t) 0) 0) (set m (variable_said t) 2) m)))
    go true e = other_number m w ts x (ne_eqb (absolute w) x (λ f. absurd (omega (arith, small_zero v (ltb-true t.class 6 e), f))))
    go false e =
        let big = ltb-false t.class 6 e in
        number (variable_said t) (near v big t.magnitude (c big)) (leb 1025 (variable_said t)) refl

pub record NamedSoFar (b : Bytes) (from : ℕ) (m₀ m : List ℕ) (at : ℕ) : Type 0 where
  pub inside : at ≤ length b
  pub size : length m ≡ 1025
  pub free_so : (x : ℕ) → 1 ≤ x → x ≤ 1024 → free_with m (tokens_at b at) x ≡ free_with m₀ (tokens_at b from) x

pub named_none : (b : Bytes) (from : ℕ) (m : List ℕ) → from ≤ length b → length m ≡ 1025 → NamedSoFar b from m m from
named_none b from m l e = record { inside = l; size = e; free_so = λ x p q. refl }

named-size : (t : code.Token) (m : List ℕ) → length (named_with t m) ≡ length m
named-size t m = go (ltb t.class 6) (leb 1025 (variable_said t)) (eqb (get_or m (variable_said t) 0) 0)
  where
    go : (a b c : Bool) → length (cond a m (cond b m (cond c (set m (variable_said t) 2) m))) ≡ length m
    go true b c = refl
    go false true c = refl
    go false false true = length-set m (variable_said t) 2
    go false false false = refl

pub named_more : {b : Bytes} {from : ℕ} {m₀ m new : List ℕ} {at : ℕ} {t : code.Token} → NamedSoFar b from m₀ m at → Reads b at t → new ≡ named_with t m
    → NamedSoFar b from m₀ new t.to
named_more {b} {from} {m₀} {m} {new} {at} {t} h r e =
    rw e
    (record { inside = r.inside; size = named-size t m ∙ h.size; free_so = λ x p q. sym (go x p q (next r)) ∙ h.free_so x p q })
  where
    none_named : t.class ≡ 0 → named_with t m ≡ m
    none_named k =
        ap (λ j. cond (ltb j 6) m (cond (leb 1025 (variable (literal (eqb j 8) t.magnitude))) m
        (cond (eqb (get_or m (variable (literal (eqb j 8) t.magnitude)) 0) 0) (set m (variable (literal (eqb j 8) t.magnitude)) 2) m))) k

    go : (x : ℕ) → 1 ≤ x → x ≤ 1024 → Next b at t → free_with m (tokens_at b at) x ≡ free_with (named_with t m) (tokens_at b t.to) x
    go x p q (none k e f) = ap₂ (λ n us. free_with n us x) (sym (none_named k)) (e ∙ sym f)
    go x p q (word v c e) = ap (λ us. free_with m us x) e ∙ named_word m t (tokens_at b t.to) x h.size p q v c

pub named_all : {b : Bytes} {from : ℕ} {m₀ m : List ℕ} {at : ℕ} → NamedSoFar b from m₀ m at → length b ≤ at → Names b from m₀ m
unfolding named
named_all {b} {from} {m₀} {m} {at} h l =
    record { size = h.size; free_is = λ x p q. sym (end x) ∙ h.free_so x p q }
  where
    end : (x : ℕ) → free_with m (tokens_at b at) x ≡ eqb (get_or m x 0) 2
    end x = ap (λ us. free_with m us x) (no_tokens b at l) ∙ last (eqb (get_or m x 0) 2) (eqb (get_or m x 0) 0)
      where
        last : (s t : Bool) → (s || (t && false)) ≡ s
        last true t = refl
        last false true = refl
        last false false = refl

-- count_free

pub record FreeSoFar (m : List ℕ) (most count x : ℕ) : Type 0 where
  pub within : x ≤ most
  pub so_far : count ≡ length (frees m x)
  pub few : count ≤ x

pub free-none : (m : List ℕ) (most : ℕ) → FreeSoFar m most 0 0
unfolding frees
free-none m most = record { within = omega arith; so_far = refl; few = omega arith }

free_more : {m : List ℕ} {most count x one : ℕ} → FreeSoFar m most count x → x < most → one ≡ cond (eqb (get_or m (x + 1) 0) 2) 1 0
    → FreeSoFar m most (count + one) (x + 1)
unfolding frees
free_more {m} {most} {count} {x} {one} h l e =
    record {
      within = omega arith;
      so_far = ap₂ ◌+◌ h.so_far e ∙ sum ∙ ap (λ n. length (frees m n)) (sym (add-one x));
      few = omega (arith, h.few, small (eqb (get_or m (x + 1) 0) 2) e);
    }
  where
    small : (b : Bool) → one ≡ cond b 1 0 → one ≤ 1
    small true e = omega arith
    small false e = omega arith

    sum : length (frees m x) + cond (eqb (get_or m (x + 1) 0) 2) 1 0 ≡ length (frees m (suc x))
    sum = ap (λ k. length (frees m x) + cond (eqb (get_or m k 0) 2) 1 0) (add-one x) ∙ go (eqb (get_or m (suc x) 0) 2)
      where
        go : (b : Bool) → length (frees m x) + cond b 1 0 ≡ length (frees m x ++ cond b (record { quantifier = exists; variable = suc x } ∷ []) [])
        go true = sym (length-append (frees m x) (record { quantifier = exists; variable = suc x } ∷ []))
        go false = sym (length-append (frees m x) [])

-- the mark of x is looked at, and x is one behind the numbers so far
pub free_next : {m : List ℕ} {most count before one : ℕ} (x y : ℕ) → FreeSoFar m most count before → before + 1 ≡ x → y ≡ x → x ≤ most
    → one ≡ from_bool (eqb (get_or m x 0) 2) → FreeSoFar m most (count + one) y
free_next {m} {most} {count} {before} {one} x y h e f l o =
    subst (FreeSoFar m most (count + one)) (e ∙ sym f)
    (free_more h (omega (arith, e)) (o ∙ as_number (eqb (get_or m x 0) 2) ∙ ap (λ n. cond (eqb (get_or m n 0) 2) 1 0) (sym e)))
  where
    as_number : (b : Bool) → from_bool b ≡ cond b 1 0
    as_number true = refl
    as_number false = refl

pub free_all : {m : List ℕ} {most count x : ℕ} → FreeSoFar m most count x → most ≤ x → (count ≡ length (frees m most)) × (count ≤ most)
free_all {m} {most} {count} {x} h l = (h.so_far ∙ ap (λ n. length (frees m n)) (same h.within l), omega (arith, h.few, h.within))
  where
    same : x ≤ most → most ≤ x → x ≡ most
    same p q = omega arith
