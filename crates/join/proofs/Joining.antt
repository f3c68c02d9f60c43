-- Answers weighed, and those for a row's two values joined.
-- Assumes nothing.
use mathlib.Core.Path.{◌≡◌, refl, sym, ap, ap₂, ◌∙◌, subst}
use mathlib.Core.Bool.{Bool, true, false, ◌&&◌, cond, beq, true≢false}
use mathlib.Core.List.{List, [], ◌∷◌}
use mathlib.Core.Option.{none, some}
use Prim.Native.Nat.{ℕ, zero, suc, ◌+◌, ◌*◌, ◌-◌, ◌/◌, ◌%◌, ◌^◌, ◌≤◌, ◌<◌}
use native.Mathlib.Omega.{arith}
use lib.Dec.{eqb, leb}
use Rattle.std.specs.List.{list_all}
use lib.ListN.{length, get_or, take, drop, length-take, length-drop}
use lib.Seq.{drop-cons, take_all}
use borrow.Author.Tests.{eqb-true, eqb-false, eq-eqb, ne_eqb}
use Rattle.formula.specs.Tree.{Quantifier, and, or, same_op, exists, Prefix}
use Rattle.formula.specs.Join.{Answer, if_stops, weigh, joined}
use Rattle.formula.proofs.Booleans.{and_parts}
use Rattle.sheet.specs.Format.{Bytes, row}
use Rattle.sheet.specs.Sheet.{binding}
use Rattle.sheet.specs.Join.{known_of, answers_of, are_answers}
use Rattle.rows.specs.Formulas.{prefix_in}
use Rattle.rows.specs.declared.Layout.{Layout}
use Rattle.rows.proofs.Formulas.{length_prefix}
use Rattle.prefixes.specs.Places.{binding_at, binding_in}
use Rattle.join.specs.Inner.{Joinable, joined_from}

-- powers of two

power_double : (k : ℕ) → 1 ≤ k → 2 ^ k ≡ 2 * 2 ^ (k - 1)
power_double zero h = absurd (omega arith)
power_double (suc k) h =
    let below : k ≡ suc k - 1 = omega arith in
    let twice : 2 ^ suc k ≡ 2 * 2 ^ k = omega arith in
    twice ∙ ap (λ (j : ℕ). 2 * 2 ^ j) below

pub power_odd : (n k : ℕ) → 1 ≤ k → n % 2 ≡ 1 → eqb n (2 ^ k) ≡ false
power_odd n k h o = ne_eqb n (2 ^ k) (λ e. omega (arith, e, o, power_double k h))

-- j of k halvings are done
pub power_half : (n : ℕ) {k j : ℕ} → j < k → (n % 2 ≡ 1 → ⊥) → eqb (n / 2) (2 ^ (k - (j + 1))) ≡ eqb n (2 ^ (k - j))
power_half n {k} {j} h o = ap (λ (m : ℕ). eqb (n / 2) (2 ^ m)) less ∙ by (eqb (n / 2) (2 ^ (k - j - 1))) refl
  where
    less : k - (j + 1) ≡ k - j - 1
    less = omega arith

    even : n % 2 ≡ 0
    even = omega (arith, o)

    left : 1 ≤ k - j
    left = omega (arith, h)

    by : (m : Bool) → eqb (n / 2) (2 ^ (k - j - 1)) ≡ m → m ≡ eqb n (2 ^ (k - j))
    by true e = sym (eq-eqb n (2 ^ (k - j)) (omega (arith, eqb-true (n / 2) (2 ^ (k - j - 1)) e, even, power_double (k - j) left)))
    by false e = sym (ne_eqb n (2 ^ (k - j)) (λ f. eqb-false (n / 2) (2 ^ (k - j - 1)) e (omega (arith, f, even, power_double (k - j) left))))

-- bytes that are answers

pub answers_all : (xs : Bytes) → list_all (λ a. leb a 2) xs ≡ are_answers xs
unfolding are_answers
answers_all [] = refl
answers_all (a ∷ xs) = ap (λ (m : Bool). leb a 2 && m) (answers_all xs)

answers_take : (n : ℕ) (xs : Bytes) → are_answers xs ≡ true → are_answers (take n xs) ≡ true
unfolding are_answers
answers_take zero xs h = refl
answers_take (suc n) [] h = refl
answers_take (suc n) (a ∷ xs) h =
    let parts = and_parts (leb a 2) (are_answers xs) h in
    ap₂ ◌&&◌ parts.0 (answers_take n xs parts.1)

answers_drop : (n : ℕ) (xs : Bytes) → are_answers xs ≡ true → are_answers (drop n xs) ≡ true
unfolding are_answers
answers_drop zero xs h = h
answers_drop (suc n) [] h = refl
answers_drop (suc n) (a ∷ xs) h = answers_drop n xs (and_parts (leb a 2) (are_answers xs) h).1

known-take : (n : ℕ) (xs : Bytes) → take n (answers_of xs) ≡ answers_of (take n xs)
known-take zero xs = refl
known-take (suc n) [] = refl
known-take (suc n) (a ∷ xs) = ap (λ (ys : List Answer). known_of a ∷ ys) (known-take n xs)

known-drop : (n : ℕ) (xs : Bytes) → drop n (answers_of xs) ≡ answers_of (drop n xs)
known-drop zero xs = refl
known-drop (suc n) [] = refl
known-drop (suc n) (a ∷ xs) = known-drop n xs

-- one answer alone, by the quantifier that ends a split at `stop`

pub stopped : (stop x : Bool) → beq x stop ≡ true → some x ≡ if_stops (cond stop or and) x
unfolding if_stops
stopped true true e = refl
stopped true false e = absurd (true≢false (sym e))
stopped false true e = absurd (true≢false (sym e))
stopped false false e = refl

pub left-open : (stop x : Bool) → beq x stop ≡ false → none ≡ if_stops (cond stop or and) x
unfolding if_stops
left-open true true e = absurd (true≢false e)
left-open true false e = refl
left-open false true e = refl
left-open false false e = absurd (true≢false e)

-- the owner of a row

pub owner_is : (q : Quantifier) → cond (same_op exists q) or and ≡ q
owner_is or = refl
owner_is and = refl

-- a row, and the answers for its two values

module _ {s : Layout} {b xs : Bytes} {i k : ℕ} (j : Joinable s b xs i k) where
  abbrev p : Prefix
  p = prefix_in s b

  -- no row is left
  module _ (e : i ≡ k) where
    one : length xs ≡ 1
    one =
        let none : k - i ≡ 0 = omega (arith, e) in
        j.count ∙ ap (λ (n : ℕ). 2 ^ n) none

    pub some-answer : 0 < length xs
    some-answer = omega (arith, one)

    pub last-answer : known_of (get_or xs 0 0) ≡ joined_from s b xs i k
    unfolding joined
    last-answer = by xs some-answer
      where
        by : (ys : Bytes) → 0 < length ys → known_of (get_or ys 0 0) ≡ joined (take (k - i) (drop i p)) (answers_of ys)
        by [] l = absurd (omega arith)
        by (a ∷ ys) l =
            let none : k - i ≡ 0 = omega (arith, e) in
            ap (λ (n : ℕ). joined (take n (drop i p)) (answers_of (a ∷ ys))) (sym none)

  module _ (n : i ≡ k → ⊥) where
    before : i < k
    before = omega (arith, n, j.before)

    pub row_inside : suc i ≤ s.variables
    row_inside = omega (arith, before, j.inside)

    left : k - i ≡ suc (k - suc i)
    left = omega (arith, before)

    double : length xs ≡ 2 * 2 ^ (k - suc i)
    double = j.count ∙ ap (λ (m : ℕ). 2 ^ m) left ∙ omega arith

    half_is : length xs / 2 ≡ 2 ^ (k - suc i)
    half_is = omega (arith, double)

    pub half-most : length xs / 2 ≤ length xs
    half-most = omega arith

    -- either half of the answers, for a row later
    part : (ys : Bytes) → length ys ≡ 2 ^ (k - suc i) → are_answers ys ≡ true → {l : ℕ} → l ≡ suc i → Joinable s b ys l k
    part ys count good {l} e =
        record {
          readable = j.readable;
          before = omega (arith, e, before);
          inside = j.inside;
          count = count ∙ ap (λ (m : ℕ). 2 ^ (k - m)) (sym e);
          good = good;
        }

    pub first_part : {l : ℕ} → l ≡ suc i → Joinable s b (take (length xs / 2) xs) l k
    first_part e =
        part (take (length xs / 2) xs) (omega (arith, length-take (length xs / 2) xs, half_is, double)) (answers_take (length xs / 2) xs j.good) e

    -- the second half, as it is lent
    abbrev behind : Bytes
    behind = take (length xs - length xs / 2) (drop (length xs / 2) xs)

    behind_is : behind ≡ drop (length xs / 2) xs
    behind_is = take_all (length xs - length xs / 2) (drop (length xs / 2) xs) (omega (arith, length-drop (length xs / 2) xs))

    dropped : {l : ℕ} → l ≡ suc i → Joinable s b (drop (length xs / 2) xs) l k
    dropped e =
        part (drop (length xs / 2) xs) (omega (arith, length-drop (length xs / 2) xs, half_is, double)) (answers_drop (length xs / 2) xs j.good) e

    pub second-part : {l : ℕ} → l ≡ suc i → Joinable s b behind l k
    second-part {l} e = subst (λ (ys : Bytes). Joinable s b ys l k) (sym behind_is) (dropped e)

    first_row : take (k - i) (drop i p) ≡ binding_at p i ∷ take (k - suc i) (drop (suc i) p)
    unfolding binding_at
    first_row =
        ap₂ (λ (m : ℕ) (q : Prefix). take m q) left
        (drop-cons p i (binding (row 0 0)) (omega (arith, length_prefix b j.readable, row_inside)))

    count-rows : length (take (k - suc i) (drop (suc i) p)) ≡ k - suc i
    count-rows =
        omega (
          arith,
          length-take (k - suc i) (drop (suc i) p),
          length-drop (suc i) p,
          length_prefix b j.readable,
          before,
          j.inside,
        )

    pub row-joined : {l : ℕ} → l ≡ suc i → {q : Quantifier} → q ≡ (binding_in s b i).quantifier → {u w : Answer}
        → u ≡ joined_from s b (take (length xs / 2) xs) l k → w ≡ joined_from s b behind l k → weigh q u w ≡ joined_from s b xs i k
    unfolding joined
    row-joined {l} e {q} o {u} {w} f g =
        ap (λ (r : Quantifier). weigh r u w) o ∙
        ap₂ (weigh (binding_at p i).quantifier)
        (f ∙ ap (λ (m : ℕ). joined (take (k - m) (drop m p)) (answers_of (take (length xs / 2) xs))) e ∙
        ap (joined rest) (sym (known-take (length xs / 2) xs) ∙ ap (λ (m : ℕ). take m (answers_of xs)) at))
        (g ∙ ap₂ (λ (m : ℕ) (ys : Bytes). joined (take (k - m) (drop m p)) (answers_of ys)) e behind_is ∙
        ap (joined rest) (sym (known-drop (length xs / 2) xs) ∙ ap (λ (m : ℕ). drop m (answers_of xs)) at)) ∙
        ap (λ (r : Prefix). joined r (answers_of xs)) (sym first_row)
      where
        rest : Prefix
        rest = take (k - suc i) (drop (suc i) p)

        at : length xs / 2 ≡ 2 ^ length rest
        at = half_is ∙ ap (λ (m : ℕ). 2 ^ m) (sym count-rows)
