-- Walks over the codes of a part: what is left of them behind each word.
-- Assumes nothing.
use mathlib.Core.Path.{◌≡◌, refl, sym, ap, ◌∙◌}
use mathlib.Core.Bool.{Bool, true, false, ◌||◌}
use mathlib.Core.List.{List, []}
use Prim.Native.Nat.{ℕ, zero, suc, ◌+◌, ◌-◌, ◌≤◌, ◌<◌}
use native.Mathlib.Numerals.{add-one}
use native.Mathlib.Omega.{arith}
use lib.ListN.{length, get_or, take, drop, length-take, drop_of_length-le}
use Rattle.std.proofs.Common.{min}
use Rattle.std.proofs.lemmas.List.{take_min}
use lib.Seq.{slice, slice-cons}
use Rattle.sheet.specs.Certificates.{code_of, head_word, codes_from, step_words}
use Rattle.resolution.specs.Codes.{kept, some_kept, PartOf}

-- slices

-- nothing is left behind the end
slice_behind : (from to : ℕ) (codes : List ℕ) → to ≤ from → slice from to codes ≡ []
slice_behind from to codes h = drop_of_length-le (take to codes) {i = from} (omega (arith, length-take to codes))

-- an end past the words is the words' own
pub part_capped : (heads codes : List ℕ) (k skip from to : ℕ) → from ≡ codes_from heads k → to ≡ min (head_word heads k 3) (length codes)
    → PartOf heads codes k skip (record { from = from; to = to; skip = skip })
unfolding step_words
part_capped heads codes k skip from to e f =
    record { within = omega (arith, f); words_are = rw (e, f) (ap (drop (codes_from heads k)) (take_min (head_word heads k 3) codes)); skips = refl }

-- walks

module _ (skip : ℕ) (codes : List ℕ) (to : ℕ) where
  -- the test of the word at i, and of those behind it
  pub some_head : (P : ℕ → Bool) (i c : ℕ) → i < to → to ≤ length codes → c ≡ code_of (get_or codes i 0)
      → some_kept skip P (slice i to codes) ≡ (kept skip P c || some_kept skip P (slice (i + 1) to codes))
  unfolding some_kept
  some_head P i c h k e = rw (add-one, slice-cons i to codes 0, e)

  pub some_none : (P : ℕ → Bool) (i : ℕ) → to ≤ i → some_kept skip P (slice i to codes) ≡ false
  unfolding some_kept
  some_none P i h = rw (slice_behind i to codes h)

  -- what is gathered up to i, with what is left, is what there was with the whole part
  module _ (P : ℕ → ℕ → Bool) (from : ℕ) (start : ℕ → Bool) where
    abbrev pub Gathering : ℕ → (ℕ → Bool) → Type 0
    Gathering i now =
        (u : ℕ) → (some_kept skip (P u) (slice i to codes) || now u) ≡ (some_kept skip (P u) (slice from to codes) || start u)

    pub gather : (i c : ℕ) (now next : ℕ → Bool) → i < to → to ≤ length codes → c ≡ code_of (get_or codes i 0)
        → ((u : ℕ) → next u ≡ (kept skip (P u) c || now u)) → Gathering i now → Gathering (i + 1) next
    gather i c now next h k e n g u =
        ap (λ (x : Bool). some_kept skip (P u) (slice (i + 1) to codes) || x) (n u) ∙
        swap (some_kept skip (P u) (slice (i + 1) to codes)) (kept skip (P u) c) (now u) ∙
        ap (λ (x : Bool). x || now u) (sym (some_head (P u) i c h k e)) ∙ g u
      where
        swap : (a b c : Bool) → (a || (b || c)) ≡ ((b || a) || c)
        swap true true c = refl
        swap true false c = refl
        swap false true c = refl
        swap false false c = refl

    pub gathered : (i : ℕ) (now : ℕ → Bool) → to ≤ i → Gathering i now
        → (u : ℕ) → now u ≡ (some_kept skip (P u) (slice from to codes) || start u)
    gathered i now h g u = ap (λ (x : Bool). x || now u) (sym (some_none (P u) i h)) ∙ g u

-- where a step's codes begin
pub from_head : (heads : List ℕ) (k r : ℕ) → (k ≡ 0 → ⊥) → r ≡ head_word heads (k - 1) 3 → r ≡ codes_from heads k
unfolding codes_from
from_head heads zero r f e = absurd (f refl)
from_head heads (suc k) r f e = e ∙ ap (λ n. head_word heads n 3) (less k)
  where
    less : (n : ℕ) → suc n - 1 ≡ n
    less n = omega arith

pub from_first : (heads : List ℕ) (k : ℕ) → k ≡ 0 → 0 ≡ codes_from heads k
unfolding codes_from
from_first heads zero e = refl
from_first heads (suc k) e = absurd (omega arith)
