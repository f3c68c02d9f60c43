-- The hashes of members mixed into a number.
-- Assumes nothing.
use mathlib.Core.Path.{◌≡◌, refl, sym, ap, ap₂, ◌∙◌}
use mathlib.Core.List.{List, [], ◌∷◌, ◌++◌}
use Prim.Native.Nat.{ℕ, suc, ◌≤◌, ◌<◌}
use native.Mathlib.Omega.{arith}
use lib.ListN.{length, get_or, take, drop, drop_of_length-le}
use lib.Seq.{take-suc, drop_at, length-take-le}
use Rattle.buckets.specs.Halves.{hash_of}
use Rattle.buckets.specs.Hashes.{mix}
use Rattle.tidy_rules.specs.Rules.{mixes}

mixes-++ : (h : ℕ) (ms ns : List ℕ) → mixes h (ms ++ ns) ≡ mixes (mixes h ms) ns
unfolding mixes
mixes-++ h [] ns = refl
mixes-++ h (m ∷ ms) ns = mixes-++ (mix h (hash_of m)) ms ns

-- hash_with

pub mixes-none : (M : List ℕ) (h n count : ℕ) → n < length M → count ≤ n → h ≡ mixes h (drop n (take count M))
unfolding mixes
mixes-none M h n count u l =
    ap (mixes h) (sym (drop_of_length-le (take count M) {i = n} (omega (arith, length-take-le count M (omega arith)))))

pub mixes_one : (M : List ℕ) (h n count : ℕ) → n < length M → count ≡ suc n → mix h (hash_of (get_or M n 0)) ≡ mixes h (drop n (take count M))
unfolding mixes
mixes_one M h n count u e =
    ap (mixes h)
    (sym
    (ap (λ k. drop n (take k M)) e ∙ ap (drop n) (take-suc M n 0 u) ∙
    drop_at (take n M) (get_or M n 0 ∷ []) n (length-take-le n M (omega arith))))

-- the members behind the first n, mixed into what these give
pub mixes-behind : (k : ℕ) (M ms : List ℕ) {N : List ℕ} {h n : ℕ} → n ≤ length M → N ≡ take n M ++ ms → h ≡ mixes k (take n M) → mixes h (drop n N) ≡ mixes k N
mixes-behind k M ms {N} {h} {n} fit e f =
    ap₂ mixes f (ap (drop n) e ∙ drop_at (take n M) ms n (length-take-le n M fit)) ∙ sym (mixes-++ k (take n M) ms) ∙ ap (mixes k) (sym e)
