-- A number by its bytes.
-- Assumes nothing.
use mathlib.Core.Path.{◌≡◌, refl, sym, ap, ◌∙◌}
use Prim.Native.Nat.{ℕ, suc, ◌+◌, ◌*◌, ◌≤◌, ◌<◌}
use native.Mathlib.Omega.{arith}
use lib.ListN.{length, get_or, take, drop, length-drop}
use lib.Seq.{length-take-le, drop-cons, get_or-take, get_or-drop, drop-length}
use Rattle.sheet.specs.Format.{Bytes, number}

module _ (b : Bytes) (at width : ℕ) (inside : at + width ≤ length b) where
  abbrev part : Bytes
  part = take width (drop at b)

  length_part : length part ≡ width
  length_part = length-take-le width (drop at b) (omega (arith, length-drop at b))

  -- one more byte in front
  number_cons : (j : ℕ) → j < width → number (drop j part) ≡ get_or b (at + j) 0 + 256 * number (drop (suc j) part)
  unfolding number
  number_cons j h =
      rw (
        drop-cons part j 0 (omega (arith, length_part)),
        get_or-take width (drop at b) j 0 h,
        get_or-drop at b j 0,
      )

-- two bytes, read at once
pub two_bytes : (b : Bytes) (at : ℕ) → at + 2 ≤ length b → {low high : ℕ} → low ≡ get_or b at 0 → high ≡ get_or b (at + 1) 0
    → low + 256 * high ≡ number (take 2 (drop at b))
unfolding number
two_bytes b at inside {low} {high} el eh =
    let first = number_cons b at 2 inside 0 (omega arith) in
    let second = number_cons b at 2 inside 1 (omega arith) in
    let none = ap number (ap (λ n. drop n (part b at 2 inside)) (sym (length_part b at 2 inside)) ∙ drop-length (part b at 2 inside)) in
    omega (arith, first, second, none, el, eh, ap (λ i. get_or b i 0) (zero-behind at))
  where
    zero-behind : (n : ℕ) → n + 0 ≡ n
    zero-behind n = omega arith

-- four bytes, by their pairs
pub four_bytes : (b : Bytes) (at : ℕ) → at + 4 ≤ length b → {low high : ℕ} → low ≡ number (take 2 (drop at b))
    → high ≡ number (take 2 (drop (at + 2) b)) → low + 65536 * high ≡ number (take 4 (drop at b))
unfolding number
four_bytes b at inside {low} {high} el eh =
    let l = two_bytes b at (omega arith) {low = get_or b at 0} {high = get_or b (at + 1) 0} refl refl in
    let h = two_bytes b (at + 2) (omega arith) {low = get_or b (at + 2) 0} {high = get_or b (at + 3) 0} refl (ap (λ i. get_or b i 0) (third at)) in
    omega (
      arith,
      el,
      eh,
      l,
      h,
      number_cons b at 4 inside 0 (omega arith),
      number_cons b at 4 inside 1 (omega arith),
      number_cons b at 4 inside 2 (omega arith),
      number_cons b at 4 inside 3 (omega arith),
      ap (λ i. get_or b i 0) (zero-behind at),
      number-none,
    )
  where
    third : (n : ℕ) → n + 3 ≡ n + 2 + 1
    third n = omega arith

    zero-behind : (n : ℕ) → n + 0 ≡ n
    zero-behind n = omega arith

    number-none : number (drop 4 (part b at 4 inside)) ≡ 0
    number-none = ap number (ap (λ n. drop n (part b at 4 inside)) (sym (length_part b at 4 inside)) ∙ drop-length (part b at 4 inside))
