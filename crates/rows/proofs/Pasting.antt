-- Numbers copied into a list, one after the other.
-- Assumes nothing.
use mathlib.Core.Path.{◌≡◌, refl, sym, ap, ap₂, ◌∙◌}
use mathlib.Core.List.{List, ◌++◌}
use Prim.Native.Nat.{ℕ, ◌+◌, ◌-◌, ◌≤◌, ◌<◌}
use native.Mathlib.Numerals.{add-one}
use native.Mathlib.Omega.{arith}
use lib.ListN.{length, get_or, take, drop, set, length-drop, length-set}
use lib.Seq.{get_or-drop, paste, paste-zero, paste-suc, drop-paste}

-- the first i numbers of s stand in d from `at` on, and no more than `count` of them
pub record Pasted (s : List ℕ) (at count : ℕ) (d b : List ℕ) (i : ℕ) : Type 0 where
  pub within : i ≤ count
  pub so_far : b ≡ paste d at s i
  pub same_length : length b ≡ length d

module _ (s : List ℕ) (at count : ℕ) (d : List ℕ) (many : count ≤ length s) (room : at + count ≤ length d) where
  pub pasted_none : Pasted s at count d d 0
  pasted_none = record { within = omega arith; so_far = paste-zero d at s; same_length = refl }

  pub pasted_one : {b : List ℕ} {i k x : ℕ} → i < count → Pasted s at count d b i → k ≡ at + i → x ≡ get_or s i 0
      → Pasted s at count d (set b k x) (i + 1)
  pasted_one {b} {i} {k} {x} l p place value =
      record {
        within = omega arith;
        so_far =
            ap₂ (λ (q : List ℕ) n. set q n x) p.so_far place ∙ ap (set (paste d at s i) (at + i)) value ∙
            paste-suc d at s i 0 (omega arith) (omega arith) ∙ ap (paste d at s) (sym (add-one i));
        same_length = length-set b k x ∙ p.same_length;
      }

  pub pasted_all : {b : List ℕ} {i : ℕ} → count ≤ i → Pasted s at count d b i → b ≡ take at d ++ take count s ++ drop (at + count) d
  pasted_all {b} {i} l p =
      let last : i ≡ count = omega (arith, p.within) in
      p.so_far ∙ ap (paste d at s) last

-- moved down within one list: what is still to be copied is as it was
pub ahead : (d : List ℕ) (to from count : ℕ) → to ≤ from → from + count ≤ length d → {b : List ℕ} {i : ℕ} → i < count
    → Pasted (drop from d) to count d b i → get_or b (from + i) 0 ≡ get_or (drop from d) i 0
ahead d to from count down inside {b} {i} l m =
    ap (λ k. get_or b k 0) (reach i) ∙ sym (get_or-drop (to + i) b (from - to) 0) ∙
    ap (λ (q : List ℕ). get_or q (from - to) 0)
    (ap (drop (to + i)) m.so_far ∙ drop-paste d to (drop from d) i (omega arith) (omega (arith, length-drop from d))) ∙
    get_or-drop (to + i) d (from - to) 0 ∙ ap (λ k. get_or d k 0) (sym (reach i)) ∙ sym (get_or-drop from d i 0)
  where
    reach : (i : ℕ) → from + i ≡ to + i + (from - to)
    reach i = omega arith
