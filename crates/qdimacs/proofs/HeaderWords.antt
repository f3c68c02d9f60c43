-- The words of the header, by their classes.
-- Assumes nothing.
use mathlib.Core.Path.{◌≡◌, refl, sym, ap, ◌∙◌, subst}
use mathlib.Core.Bool.{Bool, true, false, ◌&&◌, ◌||◌, and-false}
use mathlib.Core.List.{List, [], ◌∷◌, tail}
use Prim.Native.Nat.{ℕ, suc, ◌≤◌}
use native.Mathlib.Omega.{arith}
use lib.Dec.{eqb}
use lib.ListN.{length, drop, get_or}
use borrow.Author.Tests.{eqb-true, ne_eqb}
use Rattle.formula.proofs.Booleans.{and_parts}
use Rattle.sheet.specs.Format.{Bytes}
use Rattle.sheet.specs.Qdimacs.{Token, magnitude, header_of}
use Rattle.sheet.specs.Texts.{separated}
use Rattle.words.specs.Numbers.{Capped, largest}
use Rattle.words.specs.Tokens.{class_of, first_class, Reads}
use Rattle.words.specs.declared.token.Token as code
use Rattle.words.proofs.Classes.{View, view_other, view_exists, view_for_all, view_p, view_cnf, view_zero, view_plain, view_minus, tells}
use Rattle.qdimacs.specs.Inner.Header.{unsigned_class, is_header, Heads}

pub some_class : {k m : ℕ} {t : Token} → View k t m → eqb k 0 ≡ false
some_class view_other = refl
some_class view_exists = refl
some_class view_for_all = refl
some_class view_p = refl
some_class view_cnf = refl
some_class view_zero = refl
some_class view_plain = refl
some_class view_minus = refl

-- a fifth word is one too many, a fourth none too few
words_is : (ws : List Bytes)
    → (header_of ws).well_formed ≡
    is_header (first_class ws) (first_class (tail ws)) (first_class (tail (tail ws))) (first_class (tail (tail (tail ws))))
    (first_class (tail (tail (tail (tail ws)))))
unfolding header_of is_header first_class
words_is [] = refl
words_is (a ∷ []) = sym (and-false (eqb (class_of a) 4))
words_is (a ∷ b ∷ []) = sym (ap (λ t. eqb (class_of a) 4 && t) (and-false (eqb (class_of b) 5)) ∙ and-false (eqb (class_of a) 4))
words_is (a ∷ b ∷ c ∷ []) =
    sym
    (ap (λ t. eqb (class_of a) 4 && (eqb (class_of b) 5 && t)) (and-false (unsigned_class (class_of c))) ∙
    ap (λ t. eqb (class_of a) 4 && t) (and-false (eqb (class_of b) 5)) ∙ and-false (eqb (class_of a) 4))
words_is (a ∷ b ∷ c ∷ d ∷ []) =
    rw ((tells a).p_is, (tells b).cnf_is, (tells c).unsigned_is, (tells d).unsigned_is)
    (four (eqb (class_of a) 4) (eqb (class_of b) 5) (unsigned_class (class_of c)) (unsigned_class (class_of d)))
  where
    four : (p c u v : Bool) → (p && c && u && v) ≡ (p && (c && (u && (v && true))))
    four true true true true = refl
    four true true true false = refl
    four true true false v = refl
    four true false u v = refl
    four false c u v = refl
words_is (a ∷ b ∷ c ∷ d ∷ e ∷ ws) =
    rw (ne_eqb (suc (suc (suc (suc (suc (length ws)))))) 4 (λ q. absurd (omega arith)), some_class (tells e).view_is)
    (sym
    (ap (λ t. eqb (class_of a) 4 && (eqb (class_of b) 5 && (unsigned_class (class_of c) && t))) (and-false (unsigned_class (class_of d))) ∙
    ap (λ t. eqb (class_of a) 4 && (eqb (class_of b) 5 && t)) (and-false (unsigned_class (class_of c))) ∙
    ap (λ t. eqb (class_of a) 4 && t) (and-false (eqb (class_of b) 5)) ∙ and-false (eqb (class_of a) 4)))

third : (ws : List Bytes) → get_or (tail (tail ws)) 0 [] ≡ get_or ws 2 []
third [] = refl
third (a ∷ []) = refl
third (a ∷ b ∷ ws) = refl

fourth : (ws : List Bytes) → get_or (tail (tail (tail ws))) 0 [] ≡ get_or ws 3 []
fourth [] = refl
fourth (a ∷ []) = refl
fourth (a ∷ b ∷ []) = refl
fourth (a ∷ b ∷ c ∷ ws) = refl

number_class : (k : ℕ) → unsigned_class k ≡ true → 6 ≤ k
number_class k e = go (eqb k 6) refl e
  where
    go : (t : Bool) → eqb k 6 ≡ t → (t || eqb k 7) ≡ true → 6 ≤ k
    go true f h = omega (arith, eqb-true k 6 f)
    go false f h = omega (arith, eqb-true k 7 h)

header_parts : (p cnf variables clauses last : ℕ) → is_header p cnf variables clauses last ≡ true
    → (unsigned_class variables ≡ true) × (unsigned_class clauses ≡ true)
unfolding is_header
header_parts p cnf variables clauses last h =
    let a = and_parts (eqb p 4) (eqb cnf 5 && (unsigned_class variables && (unsigned_class clauses && eqb last 0))) h in
    let b = and_parts (eqb cnf 5) (unsigned_class variables && (unsigned_class clauses && eqb last 0)) a.1 in
    let c = and_parts (unsigned_class variables) (unsigned_class clauses && eqb last 0) b.1 in
    (c.0, (and_parts (unsigned_class clauses) (eqb last 0) c.1).0)

module _ (l : Bytes) {p cnf variables clauses last : code.Token} (r₀ : Reads l 0 p) (r₁ : Reads l p.to cnf) (r₂ : Reads l cnf.to variables)
    (r₃ : Reads l variables.to clauses) (r₄ : Reads l clauses.to last) where
  abbrev ws : List Bytes
  ws = separated l

  two : separated (drop cnf.to l) ≡ tail (tail ws)
  two = r₁.others ∙ ap tail r₀.others

  three : separated (drop variables.to l) ≡ tail (tail (tail ws))
  three = r₂.others ∙ ap tail two

  pub heads : {well : Bool} → well ≡ is_header p.class cnf.class variables.class clauses.class last.class
      → Heads (header_of ws) (record { well_formed = well; variables = variables.magnitude; clauses = clauses.magnitude })
  unfolding header_of
  heads {well} e =
      record {
        well_formed_is = e ∙ by-classes ∙ sym (words_is ws);
        variables_are =
            λ h. subst (λ w. Capped largest (magnitude w) variables.magnitude) (ap (λ vs. get_or vs 0 []) two ∙ third ws)
            (r₂.magnitude_is (number_class variables.class (parts (sym e ∙ h)).0));
        clauses_are =
            λ h. subst (λ w. Capped largest (magnitude w) clauses.magnitude) (ap (λ vs. get_or vs 0 []) three ∙ fourth ws)
            (r₃.magnitude_is (number_class clauses.class (parts (sym e ∙ h)).1));
      }
    where
      by-classes : is_header p.class cnf.class variables.class clauses.class last.class ≡
          is_header (first_class ws) (first_class (tail ws)) (first_class (tail (tail ws))) (first_class (tail (tail (tail ws))))
          (first_class (tail (tail (tail (tail ws)))))
      by-classes =
          rw (r₀.class_is, r₁.class_is, r₂.class_is, r₃.class_is, r₄.class_is, r₃.others, three, two, r₀.others)

      parts : is_header p.class cnf.class variables.class clauses.class last.class ≡ true
          → (unsigned_class variables.class ≡ true) × (unsigned_class clauses.class ≡ true)
      parts h = header_parts p.class cnf.class variables.class clauses.class last.class h
