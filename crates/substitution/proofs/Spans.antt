-- The rows of a span by their bytes: a run of kinds and a run of arguments.
-- Assumes nothing.
use mathlib.Core.Path.{◌≡◌, refl, sym, ap, ap₂, ◌∙◌}
use mathlib.Core.List.{List, [], ◌∷◌}
use Prim.Native.Nat.{ℕ, zero, suc, ◌+◌, ◌*◌, ◌-◌, ◌≤◌, ◌<◌}
use native.Mathlib.Nat.{mul-zero, mul-suc, mul-add, add-mul, one-mul, mul-le-mul_left}
use native.Mathlib.Omega.{arith}
use lib.ListN.{length, get_or, take, drop, length-drop}
use lib.Seq.{slice, length-take-le, length-slice, take-add, take-take, drop_at, drop-drop}
use Rattle.sheet.specs.Format.{Bytes, zip_rows, IsByte}
use Rattle.sheet.specs.Sheet.{row_kinds, row_arguments}
use Rattle.sheet.proofs.Every.{every_take, every_drop}
use Rattle.sheet.proofs.Parts.{row_kinds_zip, row_arguments_zip}
use Rattle.rows.specs.Layouts.{width, total, kind_place, argument_place, rows_in, Room}
use Rattle.rows.specs.declared.Layout.{Layout}
use Rattle.rows.proofs.Layouts.{length-rows_in}
use Rattle.rows.proofs.Sealing.{all_bytes}
use Rattle.substitution.specs.Output.{extent, Within}
use Rattle.substitution.specs.declared.Span.{Span}
use Rattle.substitution.proofs.Splice.{take_zip}

slice_run : {A : Type 0} (from to : ℕ) (l : List A) → from ≤ to → from ≤ length l → slice from to l ≡ take (to - from) (drop from l)
slice_run from to l h k =
    ap (λ n. drop from (take n l)) back ∙ ap (drop from) (take-add from (to - from) l) ∙
    drop_at (take from l) (take (to - from) (drop from l)) from (length-take-le from l k)
  where
    back : to ≡ from + (to - from)
    back = omega arith

drop_zip : (w at : ℕ) (ks ds : Bytes) → drop at (zip_rows w ks ds) ≡ zip_rows w (drop at ks) (drop (w * at) ds)
unfolding zip_rows
drop_zip w zero ks ds = ap (λ n. zip_rows w ks (drop n ds)) (sym (mul-zero w))
drop_zip w (suc at) [] ds = refl
drop_zip w (suc at) (k ∷ ks) ds =
    drop_zip w at ks (drop w ds) ∙ ap (zip_rows w (drop at ks)) (drop-drop (w * at) w ds ∙ ap (λ n. drop n ds) next)
  where
    next : w + w * at ≡ w * suc at
    next = omega (arith, mul-suc w at)

module _ (s : Layout) (b : Bytes) (room : Room s (length b)) (span : Span) (inside : Within span s) where
  abbrev w : ℕ
  w = width s

  abbrev m : ℕ
  m = total s

  abbrev from : ℕ
  from = span.from

  abbrev k : ℕ
  k = extent span

  abbrev kinds : Bytes
  kinds = take k (drop (kind_place s from) b)

  abbrev arguments : Bytes
  arguments = take (w * k) (drop (argument_place s from) b)

  all_rows : 2 * w + m + w * m ≤ length b
  all_rows = omega (arith, room.holds, add-mul 1 w m, one-mul m)

  -- the span's bytes are within
  pub kinds_within : kind_place s from + k ≤ length b
  kinds_within = omega (arith, all_rows, inside.ordered, inside.inside)

  pub arguments-within : argument_place s from + w * k ≤ length b
  arguments-within =
      omega (arith, all_rows, mul-add w from k, mul-le-mul_left w few)
    where
      few : from + k ≤ m
      few = omega (arith, inside.ordered, inside.inside)

  pub length-span : length (slice from span.to (rows_in s b)) ≡ k
  length-span = length-slice from span.to (rows_in s b) (omega (arith, length-rows_in b room, inside.inside))

  length_kinds : length kinds ≡ k
  length_kinds = length-take-le k (drop (kind_place s from) b) (omega (arith, kinds_within, length-drop (kind_place s from) b))

  length-arguments : length arguments ≡ w * k
  length-arguments =
      length-take-le (w * k) (drop (argument_place s from) b) (omega (arith, arguments-within, length-drop (argument_place s from) b))

  span-rows : slice from span.to (rows_in s b) ≡ zip_rows w kinds arguments
  unfolding rows_in
  span-rows =
      slice_run from span.to (rows_in s b) inside.ordered (omega (arith, length-rows_in b room, inside.ordered, inside.inside)) ∙
      ap (take k) (drop_zip w from (take m (drop (2 * w) b)) (drop (2 * w + m) b)) ∙
      take_zip w (drop from (take m (drop (2 * w) b))) (drop (w * from) (drop (2 * w + m) b)) enough k few ∙
      ap₂ (zip_rows w)
      (ap (take k) left-kinds ∙ take-take k (m - from) (drop (kind_place s from) b) (omega (arith, inside.inside)))
      (ap (take (w * k)) (drop-drop (w * from) (2 * w + m) b))
    where
      length-all : length (take m (drop (2 * w) b)) ≡ m
      length-all = length-take-le m (drop (2 * w) b) (omega (arith, all_rows, length-drop (2 * w) b))

      left : length (drop from (take m (drop (2 * w) b))) ≡ m - from
      left = length-drop from (take m (drop (2 * w) b)) ∙ ap (λ n. n - from) length-all

      few : k ≤ length (drop from (take m (drop (2 * w) b)))
      few = omega (arith, left, inside.inside)

      enough : w * length (drop from (take m (drop (2 * w) b))) ≤ length (drop (w * from) (drop (2 * w + m) b))
      enough =
          rw left
          (omega (arith, all_rows, length-drop (2 * w + m) b, length-drop (w * from) (drop (2 * w + m) b), mul-add w from (m - from), ap (λ n. w * n) whole))
        where
          whole : from + (m - from) ≡ m
          whole = omega (arith, inside.ordered, inside.inside)

      left-kinds : drop from (take m (drop (2 * w) b)) ≡ take (m - from) (drop (kind_place s from) b)
      left-kinds =
          slice_run from m (drop (2 * w) b) (omega (arith, inside.ordered, inside.inside))
          (omega (arith, all_rows, inside.ordered, inside.inside, length-drop (2 * w) b)) ∙
          ap (take (m - from)) (drop-drop from (2 * w) b)

  pub span_kinds : kinds ≡ row_kinds (slice from span.to (rows_in s b))
  span_kinds = sym (ap row_kinds span-rows ∙ row_kinds_zip w kinds arguments)

  pub span-arguments : ((i : ℕ) → get_or b i 0 < 256) → arguments ≡ row_arguments w (slice from span.to (rows_in s b))
  span-arguments h =
      sym
      (ap (row_arguments w) span-rows ∙
      row_arguments_zip w kinds arguments (length-arguments ∙ ap (λ n. w * n) (sym length_kinds))
      (every_take IsByte (w * k) (drop (argument_place s from) b) (every_drop IsByte (argument_place s from) b (all_bytes b h))))
