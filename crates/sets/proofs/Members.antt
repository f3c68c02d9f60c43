-- Members of a set by its words: one added, counted word by word, and the lowest.
-- Assumes nothing.
use mathlib.Core.Path.{◌≡◌, refl, sym, ◌∙◌, ap, ap₂, fun_ext}
use mathlib.Core.Bool.{Bool, true, false, not, ◌&&◌, ◌||◌, cond}
use mathlib.Core.List.{List}
use Prim.Native.Nat.{ℕ, zero, suc, ◌+◌, ◌*◌, ◌/◌, ◌%◌, ◌^◌, ◌-◌, ◌≤◌, ◌<◌}
use native.Mathlib.Omega.{arith}
use native.Mathlib.Numerals.{add-one}
use lib.Dec.{eqb, ltb, leb}
use lib.Bits.{bit_and, bit_or, and_zero_l}
use lib.Count.{ones_in, ones, count_trailing_zeros}
use lib.ListN.{length, get_or, set, replicate, length-set, get_or-eq_default}
use lib.Seq.{get_or-set_same, get_or-set_other}
use lib.Pow.{shr-shr}
use borrow.Author.Tests.{eqb-true, eqb-false, eq-eqb, ne_eqb, leb-true, leb-false, ltb-true, ltb-false}
use Rattle.sets.specs.Sets.{digit, holds, amount, members, size, IsFirst, left_in}
use Rattle.sets.proofs.Digits.{digit_is, digit-none, digit_set, digit_and, digit_not, ones_in_lem, Trails, trails}

-- the word and the digit of a number
pub holds_at : (ws : List ℕ) (i k : ℕ) → k < 64 → holds ws (64 * i + k) ≡ digit (get_or ws i 0) k
unfolding holds
holds_at ws i k h = ap₂ (λ (a b : ℕ). digit (get_or ws a 0) b) (word i k h) (place i k h)
  where
    word : (i k : ℕ) → k < 64 → (64 * i + k) / 64 ≡ i
    word i k h = omega arith

    place : (i k : ℕ) → k < 64 → (64 * i + k) % 64 ≡ k
    place i k h = omega arith

-- no number
pub holds-none : (n v : ℕ) → holds (replicate n 0) v ≡ false
unfolding holds
holds-none n v = ap (λ (w : ℕ). digit w (v % 64)) (zeros n (v / 64)) ∙ digit-none (v % 64)
  where
    zeros : (n i : ℕ) → get_or {A = ℕ} (replicate n 0) i 0 ≡ 0
    zeros zero i = refl
    zeros (suc n) zero = refl
    zeros (suc n) (suc i) = zeros n i

-- a number put in
pub holds-set : (ws : List ℕ) (v : ℕ) → v < 64 * length ws → (u : ℕ)
    → holds (set ws (v / 64) (bit_or (get_or ws (v / 64) 0) ((1 * 2 ^ (v % 64)) % 18446744073709551616))) u ≡ (eqb u v || holds ws u)
unfolding holds
holds-set ws v h u = by (eqb (u / 64) (v / 64)) refl
  where
    new : ℕ
    new = bit_or (get_or ws (v / 64) 0) ((1 * 2 ^ (v % 64)) % 18446744073709551616)

    inside : v / 64 < length ws
    inside = omega arith

    place : v % 64 < 64
    place = omega arith

    same_place : u / 64 ≡ v / 64 → eqb (u % 64) (v % 64) ≡ eqb u v
    same_place e = at (eqb u v) refl
      where
        at : (m : Bool) → eqb u v ≡ m → eqb (u % 64) (v % 64) ≡ m
        at true q = eq-eqb (u % 64) (v % 64) (ap (λ (n : ℕ). n % 64) (eqb-true u v q))
        at false q = ne_eqb (u % 64) (v % 64) (λ p. eqb-false u v q (omega (arith, e, p)))

    by : (m : Bool) → eqb (u / 64) (v / 64) ≡ m
        → digit (get_or (set ws (v / 64) (bit_or (get_or ws (v / 64) 0) ((1 * 2 ^ (v % 64)) % 18446744073709551616))) (u / 64) 0) (u % 64) ≡
        (eqb u v || digit (get_or ws (u / 64) 0) (u % 64))
    by true e =
        let q = eqb-true (u / 64) (v / 64) e in
        ap (λ (i : ℕ). digit (get_or (set ws (v / 64) (bit_or (get_or ws (v / 64) 0) ((1 * 2 ^ (v % 64)) % 18446744073709551616))) i 0) (u % 64)) q ∙
        ap (λ (w : ℕ). digit w (u % 64)) (get_or-set_same ws (v / 64) _ 0 inside) ∙
        digit_set (get_or ws (v / 64) 0) (v % 64) (u % 64) place ∙
        ap₂ (λ (a : Bool) (i : ℕ). a || digit (get_or ws i 0) (u % 64)) (same_place q) (sym q)
    by false e =
        let other = eqb-false (u / 64) (v / 64) e in
        ap (λ (w : ℕ). digit w (u % 64)) (get_or-set_other ws (v / 64) (u / 64) _ 0 (λ p. other p)) ∙
        ap (λ (m : Bool). m || digit (get_or ws (u / 64) 0) (u % 64)) (sym (ne_eqb u v (λ p. other (ap (λ (n : ℕ). n / 64) p))))

-- counted word by word
members-split : (ws : List ℕ) (m n i : ℕ) → members ws (m + n) i ≡ members ws m i + members ws n (i + m)
unfolding amount
members-split ws zero n i = ap₂ (members ws) (zero-sum n) (sum-zero i) ∙ sym (zero-sum (members ws n (i + 0)))
  where
    zero-sum : (n : ℕ) → 0 + n ≡ n
    zero-sum n = omega arith

    sum-zero : (i : ℕ) → i ≡ i + 0
    sum-zero i = omega arith
members-split ws (suc m) n i =
    ap (λ (k : ℕ). members ws k i) (suc-sum m n) ∙ by (holds ws i) (members-split ws m n (suc i) ∙ ap (λ (k : ℕ). members ws m (suc i) + members ws n k) (shift i m))
  where
    suc-sum : (m n : ℕ) → suc m + n ≡ suc (m + n)
    suc-sum m n = omega arith

    shift : (i m : ℕ) → suc i + m ≡ i + suc m
    shift i m = omega arith

    by : (b : Bool) → members ws (m + n) (suc i) ≡ members ws m (suc i) + members ws n (i + suc m)
        → cond b (suc (members ws (m + n) (suc i))) (members ws (m + n) (suc i)) ≡
        cond b (suc (members ws m (suc i))) (members ws m (suc i)) + members ws n (i + suc m)
    by true e = omega arith
    by false e = e

members_word : (ws : List ℕ) (i n k : ℕ) → k + n ≤ 64 → members ws n (64 * i + k) ≡ ones_in n (get_or ws i 0 / 2 ^ k)
unfolding amount ones_in
members_word ws i zero k h = refl
members_word ws i (suc n) k h =
    ap (λ (m : Bool). cond m (suc (members ws n (suc (64 * i + k)))) (members ws n (suc (64 * i + k)))) (holds_at ws i k (omega arith)) ∙
    by (get_or ws i 0 / 2 ^ k % 2) refl (lower (get_or ws i 0 / 2 ^ k))
    (ap (members ws n) (next i k) ∙ members_word ws i n (suc k) (omega arith) ∙ ap (ones_in n) (half (get_or ws i 0) k))
  where
    lower : (n : ℕ) → n % 2 < 2
    lower n = omega arith

    next : (i k : ℕ) → suc (64 * i + k) ≡ 64 * i + suc k
    next i k = omega arith

    half : (w k : ℕ) → w / 2 ^ suc k ≡ w / 2 ^ k / 2
    half w k = ap (λ (j : ℕ). w / 2 ^ j) (sym (add-one k)) ∙ sym (shr-shr w k 1)

    by : (d : ℕ) → get_or ws i 0 / 2 ^ k % 2 ≡ d → d < 2 → members ws n (suc (64 * i + k)) ≡ ones_in n (get_or ws i 0 / 2 ^ k / 2)
        → cond (digit (get_or ws i 0) k) (suc (members ws n (suc (64 * i + k)))) (members ws n (suc (64 * i + k))) ≡
        d + ones_in n (get_or ws i 0 / 2 ^ k / 2)
    by d e l rest = go d e l
      where
        is : digit (get_or ws i 0) k ≡ eqb (get_or ws i 0 / 2 ^ k % 2) 1
        is = digit_is (get_or ws i 0) k

        go : (d : ℕ) → get_or ws i 0 / 2 ^ k % 2 ≡ d → d < 2
            → cond (digit (get_or ws i 0) k) (suc (members ws n (suc (64 * i + k)))) (members ws n (suc (64 * i + k))) ≡
            d + ones_in n (get_or ws i 0 / 2 ^ k / 2)
        go zero e l =
            ap (λ (m : Bool). cond m (suc (members ws n (suc (64 * i + k)))) (members ws n (suc (64 * i + k)))) (is ∙ ne_eqb (get_or ws i 0 / 2 ^ k % 2) 1 (λ p. omega (arith, e, p))) ∙
            rest ∙ none (ones_in n (get_or ws i 0 / 2 ^ k / 2))
          where
            none : (a : ℕ) → a ≡ 0 + a
            none a = omega arith
        go (suc zero) e l =
            ap (λ (m : Bool). cond m (suc (members ws n (suc (64 * i + k)))) (members ws n (suc (64 * i + k)))) (is ∙ eq-eqb (get_or ws i 0 / 2 ^ k % 2) 1 e) ∙
            ap suc rest ∙ one (ones_in n (get_or ws i 0 / 2 ^ k / 2))
          where
            one : (a : ℕ) → suc a ≡ 1 + a
            one a = omega arith
        go (suc (suc d)) e l = absurd (omega arith)

pub members-next : (ws : List ℕ) (i : ℕ) → get_or ws i 0 < 2 ^ 64 → members ws (64 * (i + 1)) 0 ≡ members ws (64 * i) 0 + ones (get_or ws i 0)
members-next ws i h =
    ap (λ (n : ℕ). members ws n 0) (more i) ∙ members-split ws (64 * i) 64 0 ∙
    ap (λ (n : ℕ). members ws (64 * i) 0 + members ws 64 n) (start i) ∙
    ap (λ (n : ℕ). members ws (64 * i) 0 + n)
    (members_word ws i 64 0 (omega arith) ∙ ap (ones_in 64) (whole (get_or ws i 0)) ∙ ones_in_lem 64 (get_or ws i 0) h)
  where
    more : (i : ℕ) → 64 * (i + 1) ≡ 64 * i + 64
    more i = omega arith

    start : (i : ℕ) → 0 + 64 * i ≡ 64 * i + 0
    start i = omega arith

    whole : (w : ℕ) → w / 1 ≡ w
    whole w = omega arith

-- amount

pub amount_same : (P Q : ℕ → Bool) → ((v : ℕ) → P v ≡ Q v) → (n i : ℕ) → amount P n i ≡ amount Q n i
amount_same P Q same n i = ap (λ (R : ℕ → Bool). amount R n i) (fun_ext same)

pub amount_most : (P : ℕ → Bool) (n i : ℕ) → amount P n i ≤ n
unfolding amount
amount_most P zero i = omega arith
amount_most P (suc n) i = by (P i) (amount_most P n (suc i))
  where
    by : (m : Bool) → amount P n (suc i) ≤ n → cond m (suc (amount P n (suc i))) (amount P n (suc i)) ≤ suc n
    by true h = omega arith
    by false h = omega arith

pub amount-none : (P : ℕ → Bool) → ((v : ℕ) → P v ≡ false) → (n i : ℕ) → amount P n i ≡ 0
unfolding amount
amount-none P none zero i = refl
amount-none P none (suc n) i = rw (none i) (amount-none P none n (suc i))

-- a number that is put in, and wasn't
module _ (P Q : ℕ → Bool) (y : ℕ) (with : (u : ℕ) → Q u ≡ (eqb u y || P u)) where
  other : (u : ℕ) → (u ≡ y → ⊥) → Q u ≡ P u
  other u h = with u ∙ ap (λ (m : Bool). m || P u) (ne_eqb u y h)

  amount-past : (n i : ℕ) → y < i → amount Q n i ≡ amount P n i
  unfolding amount
  amount-past zero i h = refl
  amount-past (suc n) i h =
      ap₂ (λ (m : Bool) (k : ℕ). cond m (suc k) k) (other i (λ e. omega (arith, e, h))) (amount-past n (suc i) (omega arith))

  pub amount_more : (n i : ℕ) → i ≤ y → y < i + n → P y ≡ false → amount Q n i ≡ suc (amount P n i)
  unfolding amount
  amount_more zero i l h new = absurd (omega arith)
  amount_more (suc n) i l h new = by (eqb i y) refl (λ k. amount_more n (suc i) k (omega arith) new)
    where
      later : (m : Bool) → cond m (suc (suc (amount P n (suc i)))) (suc (amount P n (suc i))) ≡ suc (cond m (suc (amount P n (suc i))) (amount P n (suc i)))
      later true = refl
      later false = refl

      by : (m : Bool) → eqb i y ≡ m → (suc i ≤ y → amount Q n (suc i) ≡ suc (amount P n (suc i)))
          → cond (Q i) (suc (amount Q n (suc i))) (amount Q n (suc i)) ≡ suc (cond (P i) (suc (amount P n (suc i))) (amount P n (suc i)))
      by true e rest =
          let same = eqb-true i y e in
          ap₂ (λ (m : Bool) (k : ℕ). cond m (suc k) k) (with i ∙ ap (λ (m : Bool). m || P i) e) (amount-past n (suc i) (omega (arith, same))) ∙
          ap suc (sym (ap (λ (m : Bool). cond m (suc (amount P n (suc i))) (amount P n (suc i))) (ap P same ∙ new)))
      by false e rest =
          ap₂ (λ (m : Bool) (k : ℕ). cond m (suc k) k) (other i (eqb-false i y e))
          (rest (let apart = eqb-false i y e in omega (arith, apart))) ∙
          later (P i)

-- size

pub size_most : (ws : List ℕ) → size ws ≤ 64 * length ws
unfolding size
size_most ws = amount_most (holds ws) (64 * length ws) 0

pub size_more : (ws us : List ℕ) (y : ℕ) → length us ≡ length ws → ((u : ℕ) → holds us u ≡ (eqb u y || holds ws u)) → y < 64 * length ws
    → holds ws y ≡ false → size us ≡ suc (size ws)
unfolding size
size_more ws us y same with h new =
    ap (λ (n : ℕ). amount (holds us) (64 * n) 0) same ∙ amount_more (holds ws) (holds us) y with (64 * length ws) 0 (omega arith) (omega arith) new

-- A test on numbers by words of 64 digits: none passes below word i.
abbrev pub NoneBelow : (ℕ → Bool) → ℕ → Type 0
NoneBelow P i = (v : ℕ) → v < 64 * i → P v ≡ false

-- the digits of w are the test on the numbers of word i
abbrev pub Tells : (ℕ → Bool) → ℕ → ℕ → Type 0
Tells P i w = (k : ℕ) → k < 64 → P (64 * i + k) ≡ digit w k

in_word : (i v : ℕ) → 64 * i ≤ v → v < 64 * i + 64 → v ≡ 64 * i + v % 64
in_word i v l h = omega arith

pub none-next : (P : ℕ → Bool) (i j : ℕ) {w : ℕ} → Tells P i w → j ≡ i + 1 → NoneBelow P i → w ≡ 0 → NoneBelow P j
none-next P i j {w} tells next none z v h = by (leb (64 * i) v) refl
  where
    by : (m : Bool) → leb (64 * i) v ≡ m → P v ≡ false
    by true e =
        ap P (in_word i v (leb-true (64 * i) v e) (omega arith)) ∙ tells (v % 64) (omega arith) ∙
        ap (λ (w : ℕ). digit w (v % 64)) z ∙ digit-none (v % 64)
    by false e = none v (let l = leb-false (64 * i) v e in omega (arith, l))

pub first_found : (P : ℕ → Bool) (n i : ℕ) {w : ℕ} → Tells P i w → i < n → NoneBelow P i → w < 2 ^ 64 → (w ≡ 0 → ⊥)
    → IsFirst P (64 * n) (64 * i + count_trailing_zeros 64 w)
first_found P n i {w} tells h none l z =
    let t = trails 64 w l z in
    record {
      within = omega (arith, t.within);
      is_in = λ k. tells (count_trailing_zeros 64 w) t.within ∙ t.is_set;
      none_below = below t;
    }
  where
    below : Trails w 64 (count_trailing_zeros 64 w) → (v : ℕ) → v < 64 * i + count_trailing_zeros 64 w → P v ≡ false
    below t v k = by (leb (64 * i) v) refl
      where
        by : (m : Bool) → leb (64 * i) v ≡ m → P v ≡ false
        by true e =
            let q = in_word i v (leb-true (64 * i) v e) (omega (arith, t.within)) in
            ap P q ∙ tells (v % 64) (omega arith) ∙ t.none_below (v % 64) (omega (arith, q))
        by false e = none v (let l = leb-false (64 * i) v e in omega (arith, l))

pub first_none : (P : ℕ → Bool) (n i : ℕ) → i ≤ n → n ≤ i → NoneBelow P i → IsFirst P (64 * n) (64 * i)
first_none P n i l h none =
    record { within = omega arith; is_in = λ k. absurd (omega arith); none_below = none }

-- a word of two sets without a third
pub tells_left : (ws us ts : List ℕ) (i : ℕ) → get_or ts i 0 < 2 ^ 64
    → Tells (left_in ws us ts) i (bit_and (bit_and (get_or ws i 0) (get_or us i 0)) (18446744073709551615 - get_or ts i 0))
tells_left ws us ts i h k l =
    ap₂ ◌&&◌ (ap₂ ◌&&◌ (holds_at ws i k l) (holds_at us i k l)) (ap not (holds_at ts i k l)) ∙
    sym
    (digit_and (bit_and (get_or ws i 0) (get_or us i 0)) (18446744073709551615 - get_or ts i 0) k ∙
    ap₂ ◌&&◌ (digit_and (get_or ws i 0) (get_or us i 0) k) (digit_not 64 (get_or ts i 0) k h l))

-- the numbers of two sets

-- the words below i are those of both
pub record Both (ws us : List ℕ) (i : ℕ) (old new : List ℕ) : Type 0 where
  pub within : i ≤ length ws
  pub same_length : length new ≡ length old
  pub are : (k : ℕ) → k < i → get_or new k 0 ≡ bit_and (get_or ws k 0) (get_or us k 0)

pub both-next : (ws us : List ℕ) (i : ℕ) {old new : List ℕ} → i < length ws → length old ≡ length ws → {j : ℕ} → j ≡ i + 1 → Both ws us i old new
    → Both ws us j old (set new i (bit_and (get_or ws i 0) (get_or us i 0)))
both-next ws us i {old} {new} h size {j} next b =
    record {
      within = omega arith;
      same_length = length-set new i (bit_and (get_or ws i 0) (get_or us i 0)) ∙ b.same_length;
      are = λ k l. by k l (eqb k i) refl;
    }
  where
    inside : i < length new
    inside = omega (arith, h, size, b.same_length)

    by : (k : ℕ) → k < j → (m : Bool) → eqb k i ≡ m → get_or (set new i (bit_and (get_or ws i 0) (get_or us i 0))) k 0 ≡ bit_and (get_or ws k 0) (get_or us k 0)
    by k l true e =
        let same = eqb-true k i e in
        ap (λ (n : ℕ). get_or (set new i (bit_and (get_or ws i 0) (get_or us i 0))) n 0) same ∙ get_or-set_same new i _ 0 inside ∙
        sym (ap (λ (n : ℕ). bit_and (get_or ws n 0) (get_or us n 0)) same)
    by k l false e =
        let apart = eqb-false k i e in
        get_or-set_other new i k _ 0 (λ p. apart p) ∙ b.are k (omega (arith, l, next, apart))

pub both_hold : (ws us : List ℕ) (i : ℕ) {old new : List ℕ} → length us ≡ length ws → length old ≡ length ws → length ws ≤ i → Both ws us i old new
    → (v : ℕ) → holds new v ≡ (holds ws v && holds us v)
unfolding holds
both_hold ws us i {old} {new} same size h b v =
    ap (λ (w : ℕ). digit w (v % 64)) (word (ltb (v / 64) (length ws)) refl) ∙ digit_and (get_or ws (v / 64) 0) (get_or us (v / 64) 0) (v % 64)
  where
    word : (m : Bool) → ltb (v / 64) (length ws) ≡ m → get_or new (v / 64) 0 ≡ bit_and (get_or ws (v / 64) 0) (get_or us (v / 64) 0)
    word true e = let l = ltb-true (v / 64) (length ws) e in b.are (v / 64) (omega (arith, l, h))
    word false e =
        let l = ltb-false (v / 64) (length ws) e in
        get_or-eq_default new 0 (omega (arith, l, size, b.same_length)) ∙ sym (and_zero_l (get_or us (v / 64) 0)) ∙
        ap (λ (w : ℕ). bit_and w (get_or us (v / 64) 0)) (sym (get_or-eq_default ws 0 l))
