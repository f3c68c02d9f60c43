-- count_clauses and has_above: a word a turn.
-- Assumes nothing.
use mathlib.Core.Path.{◌≡◌, refl, sym, ap, ◌∙◌, subst}
use mathlib.Core.Bool.{Bool, true, false, not, ◌&&◌, cond, false≢true, and-false}
use mathlib.Core.List.{List, ◌∷◌}
use Prim.Native.Nat.{ℕ, ◌+◌, ◌≤◌, ◌<◌}
use native.Mathlib.Omega.{arith}
use lib.Dec.{eqb, ltb, leb, leb-zero}
use lib.ListN.{length}
use borrow.Author.Tests.{le-leb, lt-leb, ltb-true, ltb-false, not-true, not-false}
use Rattle.sheet.specs.Format.{Bytes}
use Rattle.sheet.specs.Qdimacs.{all, Token, absolute}
use Rattle.sheet.specs.Texts.{up_to}
use Rattle.words.specs.Numbers.{Capped, largest}
use Rattle.words.specs.Literals.{literal, variable}
use Rattle.words.specs.Tokens.{Reads}
use Rattle.words.specs.declared.token.Token as code
use Rattle.words.proofs.Classes.{View, view_other, view_exists, view_for_all, view_p, view_cnf, view_zero, view_plain, view_minus}
use Rattle.words.proofs.Values.{near, near_above}
use Rattle.qdimacs.specs.Inner.Lists.{whole_lists, ends}
use Rattle.qdimacs.specs.Inner.Cursor.{tokens_at}
use Rattle.qdimacs.specs.Inner.Clauses.{count_step, Counts, variable_said, says_above}
use Rattle.qdimacs.specs.declared.clauses.Clauses.{Clauses}
use Rattle.qdimacs.proofs.Next.{Next, none, word, next}
use Rattle.qdimacs.proofs.Cutting.{no_tokens}

-- count_clauses: what is counted and what is left make up the whole

pub record Tally (ts : List Token) (c : Clauses) (us : List Token) : Type 0 where
  pub whole_so : whole_lists false ts ≡ (c.whole && whole_lists c.ongoing us)
  pub count_so : c.count + ends us ≡ ends ts
  pub words_so : c.words + length us ≡ length ts
  pub few : c.count ≤ c.words

tally_word : (ts us : List Token) (c : Clauses) {k m : ℕ} {w : Token} → View k w m → Tally ts c (w ∷ us) → Tally ts (count_step c k) us
unfolding whole_lists ends
tally_word ts us c view_other h = record { whole_so = h.whole_so ∙ and-false c.whole; count_so = h.count_so; words_so = omega (arith, h.words_so); few = omega (arith, h.few) }
tally_word ts us c view_exists h = record { whole_so = h.whole_so ∙ and-false c.whole; count_so = h.count_so; words_so = omega (arith, h.words_so); few = omega (arith, h.few) }
tally_word ts us c view_for_all h = record { whole_so = h.whole_so ∙ and-false c.whole; count_so = h.count_so; words_so = omega (arith, h.words_so); few = omega (arith, h.few) }
tally_word ts us c view_p h = record { whole_so = h.whole_so ∙ and-false c.whole; count_so = h.count_so; words_so = omega (arith, h.words_so); few = omega (arith, h.few) }
tally_word ts us c view_cnf h = record { whole_so = h.whole_so ∙ and-false c.whole; count_so = h.count_so; words_so = omega (arith, h.words_so); few = omega (arith, h.few) }
tally_word ts us c view_zero h = record { whole_so = h.whole_so; count_so = omega (arith, h.count_so); words_so = omega (arith, h.words_so); few = omega (arith, h.few) }
tally_word ts us c view_plain h = record { whole_so = h.whole_so; count_so = h.count_so; words_so = omega (arith, h.words_so); few = omega (arith, h.few) }
tally_word ts us c view_minus h = record { whole_so = h.whole_so; count_so = h.count_so; words_so = omega (arith, h.words_so); few = omega (arith, h.few) }

pub record Counted (b : Bytes) (from : ℕ) (c : Clauses) (at : ℕ) : Type 0 where
  pub inside : at ≤ length b
  pub tally : Tally (tokens_at b from) c (tokens_at b at)
  pub fewer : c.words ≤ at

pub counted_none : (b : Bytes) (from : ℕ) → from ≤ length b → Counted b from (record { whole = true; ongoing = false; count = 0; words = 0 }) from
counted_none b from l =
    record {
      inside = l;
      tally = record { whole_so = refl; count_so = omega arith; words_so = omega arith; few = omega arith };
      fewer = omega arith;
    }

step_words : (c : Clauses) (k : ℕ) → (count_step c k).words ≤ c.words + 1
step_words c k = go (eqb k 0) (eqb k 6) (ltb k 6)
  where
    go : (p q r : Bool)
        → (cond p c
        (cond q (record { whole = c.whole; ongoing = false; count = c.count + 1; words = c.words + 1 })
        (cond r (record { whole = false; ongoing = true; count = c.count; words = c.words + 1 })
        (record { whole = c.whole; ongoing = true; count = c.count; words = c.words + 1 })))).words ≤ c.words + 1
    go true q r = omega arith
    go false true r = omega arith
    go false false true = omega arith
    go false false false = omega arith

module _ {b : Bytes} {from at : ℕ} {c : Clauses} (h : Counted b from c at) (l : at < length b) where
  pub counted_word : {t : code.Token} {c' : Clauses} → Reads b at t → c' ≡ count_step c t.class → Counted b from c' t.to
  counted_word {t} {c'} r e =
      subst (λ d. Counted b from d t.to) (sym e)
      (record { inside = r.inside; tally = go (next r); fewer = omega (arith, step_words c t.class, h.fewer, r.onward l) })
    where
      go : Next b at t → Tally (tokens_at b from) (count_step c t.class) (tokens_at b t.to)
      go (none k p q) = subst (λ j. Tally (tokens_at b from) (count_step c j) (tokens_at b t.to)) (sym k) (subst (Tally (tokens_at b from) c) (p ∙ sym q) h.tally)
      go (word v m p) = tally_word (tokens_at b from) (tokens_at b t.to) c v (subst (Tally (tokens_at b from) c) p h.tally)

pub counted_all : {b : Bytes} {from at : ℕ} {c : Clauses} → Counted b from c at → length b ≤ at → Counts b from c
unfolding whole_lists ends
counted_all {b} {from} {at} {c} h l =
    let t = subst (Tally (tokens_at b from) c) (no_tokens b at l) h.tally in
    record {
      whole_is = sym t.whole_so;
      count_is = omega (arith, t.count_so);
      words_are = omega (arith, t.words_so);
      few = omega (arith, t.few, h.fewer, h.inside);
    }

-- has_above: no number so far is above

pub record Lower (n : ℕ) (b : Bytes) (at : ℕ) : Type 0 where
  pub inside : at ≤ length b
  pub so_far : all (up_to n) (tokens_at b 0) ≡ all (up_to n) (tokens_at b at)

pub lower_none : (n : ℕ) (b : Bytes) → Lower n b 0
lower_none n b = record { inside = omega arith; so_far = refl }

within : (n x : ℕ) → ltb n x ≡ true → leb x n ≡ false
within n x e = lt-leb x n (ltb-true n x e)

beyond : (n x : ℕ) → ltb n x ≡ false → leb x n ≡ true
beyond n x e = le-leb x n (ltb-false n x e)

-- a word that is above, or that is not
above_word : (n : ℕ) → n ≤ 1024 → (t : code.Token) {w : Token} {m : ℕ} → View t.class w m → (6 ≤ t.class → Capped largest m t.magnitude)
    → says_above n t ≡ not (up_to n w)
above_word n l t {w} {m} v c = go (ltb t.class 6) refl
  where
    small : {k m : ℕ} {w : Token} → View k w m → k < 6 → absolute w ≡ 0
    small view_other l = refl
    small view_exists l = refl
    small view_for_all l = refl
    small view_p l = refl
    small view_cnf l = refl
    small view_zero l = refl
    small view_plain l = absurd (omega arith)
    small view_minus l = absurd (omega arith)

    opposite : (x : ℕ) (p : Bool) → ltb n x ≡ p → ltb n x ≡ not (leb x n)
    opposite x true e = e ∙ sym (ap not (within n x e))
    opposite x false e = e ∙ sym (ap not (beyond n x e))

    go : (p : Bool) → ltb t.class 6 ≡ p → cond p false (ltb n (variable_said t)) ≡ not (up_to n w)
    go true e = rw (small v (ltb-true t.class 6 e)) (sym (ap not (leb-zero n)))
    go false e =
        let big = ltb-false t.class 6 e in
        near_above n (variable_said t) (absolute w) l (near v big t.magnitude (c big)) ∙ opposite (absolute w) (ltb n (absolute w)) refl

module _ {n : ℕ} (small : n ≤ 1024) {b : Bytes} {at : ℕ} (h : Lower n b at) {t : code.Token} (r : Reads b at t) {a : Bool} (e : a ≡ says_above n t) where
  -- nothing is above where there is no word
  no_word : t.class ≡ 0 → says_above n t ≡ false
  no_word k = ap (λ j. cond (ltb j 6) false (ltb n (variable (literal (eqb j 8) t.magnitude)))) k

  pub lower_found : a ≡ true → true ≡ not (all (up_to n) (tokens_at b 0))
  unfolding all
  lower_found f = go (next r)
    where
      go : Next b at t → true ≡ not (all (up_to n) (tokens_at b 0))
      go (none k p q) = absurd (false≢true (sym (no_word k) ∙ sym e ∙ f))
      go (word {w = w} v m p) =
          sym
          (ap not (h.so_far ∙ ap (all (up_to n)) p ∙
          ap (λ u. u && all (up_to n) (tokens_at b t.to)) (not-true (up_to n w) (sym (above_word n small t v m) ∙ sym e ∙ f))))

  pub lower_word : a ≡ false → Lower n b t.to
  unfolding all
  lower_word f = record { inside = r.inside; so_far = h.so_far ∙ go (next r) }
    where
      go : Next b at t → all (up_to n) (tokens_at b at) ≡ all (up_to n) (tokens_at b t.to)
      go (none k p q) = ap (all (up_to n)) (p ∙ sym q)
      go (word {w = w} v m p) =
          ap (all (up_to n)) p ∙
          ap (λ u. u && all (up_to n) (tokens_at b t.to)) (not-false (up_to n w) (sym (above_word n small t v m) ∙ sym e ∙ f))

pub lower_all : {n : ℕ} {b : Bytes} {at : ℕ} → Lower n b at → length b ≤ at → false ≡ not (all (up_to n) (tokens_at b 0))
unfolding all
lower_all {n} {b} {at} h l = sym (ap not (h.so_far ∙ ap (all (up_to n)) (no_tokens b at l)))
