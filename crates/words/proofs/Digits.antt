-- A digit a turn.
-- Assumes nothing.
use mathlib.Core.Logic.{inl, inr}
use mathlib.Core.Path.{◌≡◌, refl, sym, ap, ◌∙◌}
use mathlib.Core.Bool.{true, false, ◌&&◌}
use Prim.Native.Nat.{ℕ, suc, ◌+◌, ◌*◌, ◌-◌, ◌≤◌, ◌<◌}
use native.Mathlib.Numerals.{add-one}
use native.Mathlib.Omega.{arith}
use lib.Dec.{leb}
use borrow.Author.Tests.{leb-true}
use lib.ListN.{length, get_or, drop, drop_of_length-le}
use lib.Seq.{drop-cons}
use Rattle.formula.proofs.Booleans.{and_parts}
use Rattle.sheet.specs.Format.{Bytes}
use Rattle.sheet.specs.Qdimacs.{digit, all, number_from}
use Rattle.words.specs.Numbers.{Capped, largest}

pub digit_range : (c : ℕ) → digit c ≡ true → (48 ≤ c) × (c ≤ 57)
digit_range c e = let h = and_parts (leb 48 c) (leb c 57) e in (leb-true 48 c h.0, leb-true c 57 h.1)

-- all_digits: the bytes before i are digits

pub record Looked (w : Bytes) (i : ℕ) : Type 0 where
  pub so_far : all digit w ≡ all digit (drop i w)

module _ {w : Bytes} {i : ℕ} (h : Looked w i) where
  here : i < length w → all digit w ≡ (digit (get_or w i 0) && all digit (drop (suc i) w))
  unfolding all
  here l = h.so_far ∙ ap (all digit) (drop-cons w i 0 l)

  pub looked_other : i < length w → digit (get_or w i 0) ≡ false → false ≡ all digit w
  looked_other l e = sym (here l ∙ ap (λ t. t && all digit (drop (suc i) w)) e)

  pub looked_digit : i < length w → digit (get_or w i 0) ≡ true → Looked w (i + 1)
  looked_digit l e = record { so_far = rw add-one (here l ∙ ap (λ t. t && all digit (drop (suc i) w)) e) }

  pub looked_all : length w ≤ i → true ≡ all digit w
  unfolding all
  looked_all l = sym (h.so_far ∙ ap (all digit) (drop_of_length-le w {i = i} l))

-- number_of: the number that the bytes before i are, and the digits left

pub capped_digit : (m v d v' : ℕ) → Capped largest m v → Capped largest (10 * v + d) v' → v' ≤ largest → Capped largest (10 * m + d) v'
capped_digit m v d v' (inl e) (inl f) l = inl (omega arith)
capped_digit m v d v' (inl e) (inr f) l = inr (omega (arith, f.0), f.1)
capped_digit m v d v' (inr e) (inl f) l = absurd (omega (arith, e.1))
capped_digit m v d v' (inr e) (inr f) l = inr (omega (arith, e.0), f.1)

pub record Counted (w : Bytes) (i value : ℕ) : Type 0 where
  pub so_far : ℕ
  pub same : number_from 0 w ≡ number_from so_far (drop i w)
  pub near : Capped largest so_far value
  pub digits : all digit (drop i w) ≡ true

pub counted_none : (w : Bytes) → all digit w ≡ true → Counted w 0 0
counted_none w d = record { so_far = 0; same = refl; near = inl refl; digits = d }

module _ {w : Bytes} {i value : ℕ} (h : Counted w i value) where
  left : i < length w → (digit (get_or w i 0) && all digit (drop (suc i) w)) ≡ true
  unfolding all
  left l = sym (ap (all digit) (drop-cons w i 0 l)) ∙ h.digits

  pub counted_here : i < length w → digit (get_or w i 0) ≡ true
  counted_here l = (and_parts (digit (get_or w i 0)) (all digit (drop (suc i) w)) (left l)).0

  pub counted_digit : {new : ℕ} → i < length w → Capped largest (10 * value + (get_or w i 0 - 48)) new → new ≤ largest → Counted w (i + 1) new
  unfolding number_from
  counted_digit {new} l c m =
      record {
        so_far = 10 * h.so_far + (get_or w i 0 - 48);
        same = rw add-one (h.same ∙ ap (number_from h.so_far) (drop-cons w i 0 l));
        near = capped_digit h.so_far value (get_or w i 0 - 48) new h.near c m;
        digits = rw add-one (and_parts (digit (get_or w i 0)) (all digit (drop (suc i) w)) (left l)).1;
      }

  pub counted_all : length w ≤ i → Capped largest (number_from 0 w) value
  unfolding number_from
  counted_all l = rw (h.same ∙ ap (number_from h.so_far) (drop_of_length-le w {i = i} l)) h.near
