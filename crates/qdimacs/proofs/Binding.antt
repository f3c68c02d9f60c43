-- bind: a word of the quantifier lines a turn.
-- Assumes nothing.
use mathlib.Core.Logic.{inl, inr}
use mathlib.Core.Path.{◌≡◌, refl, sym, ap, ap₂, ◌∙◌, subst}
use mathlib.Core.Bool.{Bool, true, false, not, ◌&&◌, ◌||◌, cond, false≢true, and-false}
use mathlib.Core.List.{List, [], ◌∷◌}
use Prim.Native.Nat.{ℕ, zero, suc, ◌+◌, ◌≤◌, ◌<◌}
use native.Mathlib.Omega.{arith}
use lib.Dec.{eqb}
use lib.ListN.{length, get_or, set, replicate, length-set, length-replicate}
use lib.Seq.{get_or-set_same, get_or-set_other}
use borrow.Author.Tests.{eqb-true, eqb-false, ne_eqb, leb-true}
use Rattle.formula.specs.Tree.{Prefix, Binding, binds, distinct}
use Rattle.formula.proofs.Booleans.{and_parts, eqb_comm}
use Rattle.sheet.specs.Format.{Bytes}
use Rattle.sheet.specs.Qdimacs.{all, Token}
use Rattle.sheet.specs.Texts.{up_to}
use Rattle.words.specs.Numbers.{Capped, largest}
use Rattle.words.specs.Tokens.{Reads}
use Rattle.words.specs.declared.token.Token as code
use Rattle.words.proofs.Classes.{View, view_other, view_exists, view_for_all, view_p, view_cnf, view_zero, view_plain, view_minus}
use Rattle.qdimacs.specs.Inner.Lists.{State, between, ordered, bound_from}
use Rattle.qdimacs.specs.Inner.Cursor.{tokens_at, state_code, step}
use Rattle.qdimacs.specs.Inner.Marks.{Listed, bindings_in, found_with, marks_with, Binds}
use Rattle.qdimacs.specs.declared.marks.Bound.{Bound}
use Rattle.qdimacs.proofs.Next as leads
use Rattle.qdimacs.proofs.Next.{Next, none, word, next, Led, begins, breaks, goes, led}
use Rattle.qdimacs.proofs.Cutting.{no_tokens, small_code}

-- no number twice, and none that is marked

unfoldable pub apart : (ℕ → Bool) → Prefix → Bool
apart M [] = true
apart M (z ∷ p) = not (M z.variable) && apart (λ x. eqb z.variable x || M x) p

apart_same : (M N : ℕ → Bool) (p : Prefix) → ((x : ℕ) → M x ≡ N x) → apart M p ≡ apart N p
unfolding apart
apart_same M N [] h = refl
apart_same M N (z ∷ p) h = ap₂ (λ a b. not a && b) (h z.variable) (apart_same (λ x. eqb z.variable x || M x) (λ x. eqb z.variable x || N x) p (λ x. ap (λ a. eqb z.variable x || a) (h x)))

unfoldable unmarked : (ℕ → Bool) → Prefix → Bool
unmarked M [] = true
unmarked M (z ∷ p) = not (M z.variable) && unmarked M p

unmarked_more : (M : ℕ → Bool) (y : ℕ) (p : Prefix) → unmarked (λ x. eqb y x || M x) p ≡ (not (binds p y) && unmarked M p)
unfolding unmarked binds
unmarked_more M y [] = refl
unmarked_more M y (z ∷ p) =
    ap₂ (λ a b. not (a || M z.variable) && b) (eqb_comm y z.variable) (unmarked_more M y p) ∙
    shuffle (eqb z.variable y) (M z.variable) (binds p y) (unmarked M p)
  where
    shuffle : (a b c d : Bool) → (not (a || b) && (not c && d)) ≡ (not (a || c) && (not b && d))
    shuffle true b c d = refl
    shuffle false true true d = refl
    shuffle false true false d = refl
    shuffle false false true d = refl
    shuffle false false false d = refl

apart_is : (M : ℕ → Bool) (p : Prefix) → apart M p ≡ (distinct p && unmarked M p)
unfolding apart distinct unmarked
apart_is M [] = refl
apart_is M (z ∷ p) =
    ap (λ b. not (M z.variable) && b)
    (apart_is (λ x. eqb z.variable x || M x) p ∙ ap (λ b. distinct p && b) (unmarked_more M z.variable p)) ∙
    shuffle (M z.variable) (distinct p) (binds p z.variable) (unmarked M p)
  where
    shuffle : (a b c d : Bool) → (not a && (b && (not c && d))) ≡ (not c && b && (not a && d))
    shuffle true true true d = refl
    shuffle true true false d = refl
    shuffle true false true d = refl
    shuffle true false false d = refl
    shuffle false true true d = refl
    shuffle false true false d = refl
    shuffle false false true d = refl
    shuffle false false false d = refl

none-marked : (p : Prefix) → unmarked (λ x. false) p ≡ true
unfolding unmarked
none-marked [] = refl
none-marked (z ∷ p) = none-marked p

-- what is found and what is left make up all bindings

abbrev pub bound_mark : List ℕ → ℕ → Bool
bound_mark m x = eqb (get_or m x 0) 1

pub record Bindings (p : Prefix) (f : Bound) (m : List ℕ) (rest : Prefix) : Type 0 where
  pub size : length m ≡ 1025
  pub others : (x : ℕ) → eqb (get_or m x 0) 0 ≡ not (eqb (get_or m x 0) 1)
  pub bound_so : (x : ℕ) → binds p x ≡ (eqb (get_or m x 0) 1 || binds rest x)
  pub count_so : f.count + length rest ≡ length p
  pub once_so : distinct p ≡ (not f.twice && apart (bound_mark m) rest)

all-zero : (n x : ℕ) → ◌≡◌ {A = ℕ} (get_or (replicate n 0) x 0) 0
all-zero zero x = refl
all-zero (suc n) zero = refl
all-zero (suc n) (suc x) = all-zero n x

nothing_bound : (p : Prefix) → Bindings p (record { twice = false; count = 0 }) (replicate 1025 0) p
nothing_bound p =
    record {
      size = length-replicate {A = ℕ} 1025 0;
      others = λ x. rw (all-zero 1025 x);
      bound_so = λ x. rw (all-zero 1025 x);
      count_so = omega arith;
      once_so =
          sym
          (apart_same (bound_mark (replicate 1025 0)) (λ x. false) p (λ x. ap (λ k. eqb k 1) (all-zero 1025 x)) ∙ apart_is (λ x. false) p ∙
          ap (λ b. distinct p && b) (none-marked p) ∙ and_true (distinct p));
    }
  where
    and_true : (t : Bool) → (t && true) ≡ t
    and_true true = refl
    and_true false = refl

module _ {p : Prefix} {f : Bound} {m : List ℕ} {z : Binding} {rest : Prefix} (h : Bindings p f m (z ∷ rest)) (small : z.variable < 1025) where
  abbrev x : ℕ
  x = z.variable

  bound_again : bound_mark m x ≡ true → Bindings p (record { twice = true; count = f.count + 1 }) m rest
  unfolding binds apart
  bound_again e =
      record {
        size = h.size;
        others = h.others;
        bound_so = λ y. h.bound_so y ∙ go y (eqb x y) refl;
        count_so = omega (arith, h.count_so);
        once_so = h.once_so ∙ ap (λ b. not f.twice && (not b && apart (λ y. eqb x y || bound_mark m y) rest)) e ∙ and-false (not f.twice);
      }
    where
      go : (y : ℕ) (t : Bool) → eqb x y ≡ t → (bound_mark m y || (t || binds rest y)) ≡ (bound_mark m y || binds rest y)
      go y true q = ap (λ b. b || true) (same y q) ∙ sym (ap (λ b. b || binds rest y) (same y q))
        where
          same : (y : ℕ) → eqb x y ≡ true → bound_mark m y ≡ true
          same y q = subst (λ k. bound_mark m k ≡ true) (eqb-true x y q) e
      go y false q = refl

  marks-set : (y : ℕ) → bound_mark (set m x 1) y ≡ (eqb x y || bound_mark m y)
  marks-set y = go (eqb x y) refl
    where
      go : (t : Bool) → eqb x y ≡ t → bound_mark (set m x 1) y ≡ (t || bound_mark m y)
      go true q = subst (λ k. bound_mark (set m x 1) k ≡ true) (eqb-true x y q) (ap (λ k. eqb k 1) (get_or-set_same m x 1 0 (omega (arith, h.size))))
      go false q = ap (λ k. eqb k 1) (get_or-set_other m x y 1 0 (λ r. eqb-false x y q (sym r)))

  bound_first : bound_mark m x ≡ false → Bindings p (record { twice = f.twice; count = f.count + 1 }) (set m x 1) rest
  unfolding binds apart
  bound_first e =
      record {
        size = length-set m x 1 ∙ h.size;
        others = λ y. other y (eqb x y) refl;
        bound_so = λ y. h.bound_so y ∙ shuffle (bound_mark m y) (eqb x y) (binds rest y) ∙ ap (λ b. b || binds rest y) (sym (marks-set y));
        count_so = omega (arith, h.count_so);
        once_so =
            h.once_so ∙ ap (λ b. not f.twice && (not b && apart (λ y. eqb x y || bound_mark m y) rest)) e ∙
            ap (λ b. not f.twice && b) (apart_same (λ y. eqb x y || bound_mark m y) (bound_mark (set m x 1)) rest (λ y. sym (marks-set y)));
      }
    where
      shuffle : (a b c : Bool) → (a || (b || c)) ≡ (b || a || c)
      shuffle true true c = refl
      shuffle true false c = refl
      shuffle false true c = refl
      shuffle false false c = refl

      other : (y : ℕ) (t : Bool) → eqb x y ≡ t → eqb (get_or (set m x 1) y 0) 0 ≡ not (eqb (get_or (set m x 1) y 0) 1)
      other y true q =
          subst (λ k. eqb (get_or (set m x 1) k 0) 0 ≡ not (eqb (get_or (set m x 1) k 0) 1)) (eqb-true x y q)
          (rw (get_or-set_same m x 1 0 (omega (arith, h.size))))
      other y false q = rw (get_or-set_other m x y 1 0 (λ r. eqb-false x y q (sym r))) (h.others y)

  bound_one : (t : code.Token) → t.class ≡ 7 → t.magnitude ≡ x → Bindings p (found_with f t m) (marks_with t m) rest
  bound_one t k e = rw (k, e) (go (bound_mark m x) refl)
    where
      go : (b : Bool) → bound_mark m x ≡ b
          → Bindings p (cond b (record { twice = true; count = f.count + 1 }) (record { twice = f.twice; count = f.count + 1 })) (cond b m (set m x 1)) rest
      go true q = bound_again q
      go false q = bound_first q

-- the loop

pub record Walked (b : Bytes) (st at : ℕ) : Type 0 where
  pub state : State
  pub code_is : st ≡ state_code state
  pub inside : at ≤ length b
  pub ordered_so : ordered state (tokens_at b at) ≡ true
  pub below_so : all (up_to 1024) (tokens_at b at) ≡ true

pub record BoundSoFar (b : Bytes) (f : Bound) (m : List ℕ) (st at : ℕ) : Type 0 where
  pub walked : Walked b st at
  pub found : Bindings (bindings_in b) f m (bound_from walked.state (tokens_at b at))
  pub fewer : f.count ≤ at

pub bound-none : {b : Bytes} {m : List ℕ} → Listed b → m ≡ replicate 1025 0 → BoundSoFar b (record { twice = false; count = 0 }) m 0 0
bound-none {b} h e =
    record {
      walked = record {
        state = between;
        code_is = refl;
        inside = omega arith;
        ordered_so = (and_parts (ordered between (tokens_at b 0)) _ h.well).0;
        below_so = h.below;
      };
      found = subst (λ n. Bindings (bindings_in b) (record { twice = false; count = 0 }) n (bindings_in b)) (sym e) (nothing_bound (bindings_in b));
      fewer = omega arith;
    }

number_small : {k n : ℕ} {w : Token} (v : ℕ) → View k w n → k ≡ 7 → up_to 1024 w ≡ true → Capped largest n v → v < 1025
number_small v view_other e u c = absurd (omega arith)
number_small v view_exists e u c = absurd (omega arith)
number_small v view_for_all e u c = absurd (omega arith)
number_small v view_p e u c = absurd (omega arith)
number_small v view_cnf e u c = absurd (omega arith)
number_small v view_zero e u c = absurd (omega arith)
number_small v (view_plain {n = n}) e u (inl c) = omega (arith, leb-true (suc n) 1024 u)
number_small v (view_plain {n = n}) e u (inr c) = absurd (omega (arith, leb-true (suc n) 1024 u, c.0))
number_small v view_minus e u c = absurd (omega arith)

pub same_capped : (n v : ℕ) → v < 1025 → Capped largest n v → v ≡ n
same_capped n v l (inl e) = e
same_capped n v l (inr e) = absurd (omega (arith, e.1))

finished : {b : Bytes} {f : Bound} {m : List ℕ} {rest : Prefix} → Bindings (bindings_in b) f m rest → rest ≡ [] → Binds b f m
unfolding apart binds
finished {b} {f} {m} h e =
    let k = subst (Bindings (bindings_in b) f m) e h in
    record {
      once_is = k.once_so ∙ and_true (not f.twice);
      count_is = omega (arith, k.count_so);
      marked = record { size = k.size; bound_is = λ x. k.bound_so x ∙ or-false (eqb (get_or m x 0) 1); others = k.others };
    }
  where
    and_true : (t : Bool) → (t && true) ≡ t
    and_true true = refl
    and_true false = refl

    or-false : (t : Bool) → (t || false) ≡ t
    or-false true = refl
    or-false false = refl

module _ {b : Bytes} {st at : ℕ} (h : Walked b st at) {t : code.Token} (reads : Reads b at t) where
  pub walked_number : t.class ≡ 7 → t.magnitude < 1025
  unfolding all
  walked_number e = go (next reads)
    where
      go : Next b at t → t.magnitude < 1025
      go (none k p q) = absurd (omega (arith, e, k))
      go (word {w = w} v c p) =
          number_small t.magnitude v e (and_parts (up_to 1024 w) (all (up_to 1024) (tokens_at b t.to)) (sym (ap (all (up_to 1024)) p) ∙ h.below_so)).0 (c (omega (arith, e)))

  pub walked_below : all (up_to 1024) (tokens_at b t.to) ≡ true
  unfolding all
  walked_below = go (next reads)
    where
      go : Next b at t → all (up_to 1024) (tokens_at b t.to) ≡ true
      go (none k p q) = ap (all (up_to 1024)) q
      go (word {w = w} v c p) = (and_parts (up_to 1024 w) (all (up_to 1024) (tokens_at b t.to)) (sym (ap (all (up_to 1024)) p) ∙ h.below_so)).1

module _ {b : Bytes} {f : Bound} {m : List ℕ} {st at : ℕ} (h : BoundSoFar b f m st at) {t : code.Token} (reads : Reads b at t) {r : ℕ}
    (steps : r ≡ step st t.class) where
  here : Led h.walked.state (tokens_at b at) (tokens_at b t.to) r t.class t.magnitude
  here =
      subst (λ k. Led h.walked.state (tokens_at b at) (tokens_at b t.to) k t.class t.magnitude)
      (sym (steps ∙ ap (λ s. step s t.class) h.walked.code_is)) (led h.walked.state (next reads))

  pub bound-ends : 3 ≤ r → Binds b f m
  bound-ends l = go here
    where
      go : Led h.walked.state (tokens_at b at) (tokens_at b t.to) r t.class t.magnitude → Binds b f m
      go (begins e o c g) = finished h.found g
      go (breaks e o) = absurd (false≢true (sym o ∙ h.walked.ordered_so))
      go (goes s' e n o c g) = absurd (omega (arith, e, small_code s'))
      go (leads.binds q i e k v o c g) = absurd (omega (arith, e, small_code h.walked.state))

  pub bound_more : {f' : Bound} {m' : List ℕ} → at < length b → r < 3 → f' ≡ found_with f t m → m' ≡ marks_with t m → BoundSoFar b f' m' r t.to
  bound_more {f'} {m'} inside l ef em = rw (ef, em) (go here)
    where
      count_step : (found_with f t m).count ≤ f.count + 1
      count_step = by (eqb t.class 7) (bound_mark m t.magnitude)
        where
          by : (a c : Bool)
              → (cond a (cond c (record { twice = true; count = f.count + 1 }) (record { twice = f.twice; count = f.count + 1 })) f).count ≤ f.count + 1
          by true true = omega arith
          by true false = omega arith
          by false c = omega arith

      go : Led h.walked.state (tokens_at b at) (tokens_at b t.to) r t.class t.magnitude → BoundSoFar b (found_with f t m) (marks_with t m) r t.to
      go (begins e o c g) = absurd (omega (arith, e))
      go (breaks e o) = absurd (omega (arith, e))
      go (goes s' e n o c g) =
          record {
            walked = record { state = s'; code_is = e; inside = reads.inside; ordered_so = sym o ∙ h.walked.ordered_so; below_so = walked_below h.walked reads };
            found = rw (ne_eqb t.class 7 n) (subst (Bindings (bindings_in b) f m) g h.found);
            fewer = omega (arith, count_step, h.fewer, reads.onward inside);
          }
      go (leads.binds q i e k v o c g) =
          record {
            walked = record { state = h.walked.state; code_is = e; inside = reads.inside; ordered_so = sym o ∙ h.walked.ordered_so; below_so = walked_below h.walked reads };
            found =
                let same = same_capped _ t.magnitude (walked_number h.walked reads k) v in
                bound_one (subst (Bindings (bindings_in b) f m) g h.found) (omega (arith, same, walked_number h.walked reads k)) t k same;
            fewer = omega (arith, count_step, h.fewer, reads.onward inside);
          }

pub bound_all : {b : Bytes} {f : Bound} {m : List ℕ} {st at : ℕ} → BoundSoFar b f m st at → length b ≤ at → Binds b f m
unfolding bound_from
bound_all {b} {f} {m} {st} {at} h l = finished h.found (ap (bound_from h.walked.state) (no_tokens b at l))
