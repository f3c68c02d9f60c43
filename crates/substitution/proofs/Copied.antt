-- Rows copied, and rows that stay, one by one.
-- Assumes nothing.
use mathlib.Core.Path.{◌≡◌, refl, sym, ap, ap₂, ◌∙◌}
use mathlib.Core.Bool.{false}
use mathlib.Core.List.{List, [], ◌∷◌, ◌++◌, map}
use Prim.Native.Nat.{ℕ, suc, ◌+◌, ◌≤◌, ◌<◌}
use native.Mathlib.Numerals.{add-one}
use native.Mathlib.Omega.{arith}
use lib.ListN.{length, get_or, take, drop}
use lib.Seq.{slice, length-take-le, take-suc, drop-append-le, slice_empty, slice-cons}
use Rattle.sheet.specs.Format.{Row, row}
use Rattle.substitution.specs.Changes.{chosen_row, changed_row, copied}
use Rattle.substitution.proofs.Changed.{map-append, row_kept}

-- rows of a span, one more at its end or at its front

slice_next : (from i : ℕ) (R : List Row) → from ≤ i → i < length R → slice from (i + 1) R ≡ slice from i R ++ (get_or R i (row 0 0) ∷ [])
slice_next from i R h l =
    ap (λ n. drop from (take n R)) (add-one i) ∙ ap (drop from) (take-suc R i (row 0 0) l) ∙
    drop-append-le from (take i R) _ (omega (arith, length-take-le i R (omega arith)))

pub copied_next : (t : List ℕ) (from i : ℕ) (R : List Row) → from ≤ i → i < length R
    → copied t from i R ++ (changed_row t (get_or R i (row 0 0)) ∷ []) ≡ copied t from (i + 1) R
unfolding copied
copied_next t from i R h l =
    sym (ap (map (changed_row t)) (slice_next from i R h l) ∙ map-append (changed_row t) (slice from i R) _)

pub length-copied : (t : List ℕ) (from to : ℕ) (R : List Row) → length (copied t from to R) ≡ length (slice from to R)
unfolding copied
length-copied t from to R = length-map (changed_row t) (slice from to R)
  where
    length-map : (f : Row → Row) (rs : List Row) → length (map f rs) ≡ length rs
    length-map f [] = refl
    length-map f (r ∷ rs) = ap suc (length-map f rs)

-- rows that stay

module _ (t : List ℕ) (R : List Row) where
  pub stays-none : (i : ℕ) → copied t i i R ≡ slice i i R
  unfolding copied
  stays-none i = ap (map (changed_row t)) (slice_empty i R) ∙ sym (slice_empty i R)

  pub stays-next : (from i : ℕ) → from ≤ i → i < length R → copied t from i R ≡ slice from i R → chosen_row t (get_or R i (row 0 0)) ≡ false
      → copied t from (i + 1) R ≡ slice from (i + 1) R
  stays-next from i h l e f =
      sym (copied_next t from i R h l) ∙ ap₂ (λ rs r. rs ++ (r ∷ [])) e (row_kept t (get_or R i (row 0 0)) f) ∙ sym (slice_next from i R h l)

  pub stays-before : (i to : ℕ) → i < to → to ≤ length R → copied t (i + 1) to R ≡ slice (i + 1) to R → chosen_row t (get_or R i (row 0 0)) ≡ false
      → copied t i to R ≡ slice i to R
  unfolding copied
  stays-before i to h l e f =
      ap (map (changed_row t)) front ∙ ap₂ ◌∷◌ (row_kept t (get_or R i (row 0 0)) f) e ∙ sym front
    where
      front : slice i to R ≡ get_or R i (row 0 0) ∷ slice (i + 1) to R
      front = slice-cons i to R (row 0 0) h l ∙ ap (λ n. get_or R i (row 0 0) ∷ slice n to R) (sym (add-one i))
