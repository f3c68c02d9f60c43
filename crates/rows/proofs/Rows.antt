-- The rows of a sheet: how many there are, and what stands in each.
-- Assumes nothing.
use mathlib.Core.Path.{◌≡◌, refl, ap, ap₂, ◌∙◌}
use mathlib.Core.List.{[], ◌∷◌, ◌++◌}
use Prim.Native.Nat.{ℕ, zero, suc, ◌+◌, ◌*◌, ◌≤◌, ◌<◌}
use native.Mathlib.Nat.{mul-zero, mul-suc, add-mul, one-mul, add_comm, mul-le-mul_left}
use native.Mathlib.Omega.{arith}
use lib.ListN.{length, get_or, take, drop, length-drop}
use lib.Seq.{length-take-le, get_or-take, get_or-drop, drop-drop, take-append-le, drop-append-le}
use borrow.Author.Tests.{le-leb, lt-leb}
use Rattle.sheet.specs.Format.{Bytes, Format, Row, row, number, zip_rows, variables, nodes, kind_bytes, argument_bytes, all_rows, children}
use Rattle.sheet.proofs.Parts.{length-zip_rows}
use Rattle.rows.proofs.Flat.{rows_in, Room}

-- the rows of a format's sheet
pub all_rows_in : (F : Format) (b : Bytes) → all_rows F b ≡ rows_in F.width (variables F b + nodes F b) b
unfolding all_rows kind_bytes argument_bytes rows_in
all_rows_in F b = refl

-- the row behind r others takes the bytes behind theirs
pub next_row : (w : ℕ) {r n : ℕ} → r < n → w * r + w ≤ w * n
next_row w {r} {n} h = rw (← mul-suc w r) (mul-le-mul_left w h)

zip_rows_at : (w : ℕ) (ks ds : Bytes) (r : ℕ) → r < length ks
    → get_or (zip_rows w ks ds) r (row 0 0) ≡ row (get_or ks r 0) (number (take w (drop (w * r) ds)))
unfolding zip_rows
zip_rows_at w [] ds r h = absurd (omega arith)
zip_rows_at w (k ∷ ks) ds zero h = rw mul-zero
zip_rows_at w (k ∷ ks) ds (suc r) h =
    rw (zip_rows_at w ks (drop w ds) r (omega arith), drop-drop (w * r) w ds, mul-suc, add_comm (w * r) w)

zip_rows-++ : (w : ℕ) (ks ds more : Bytes) → w * length ks ≤ length ds → zip_rows w ks (ds ++ more) ≡ zip_rows w ks ds
unfolding zip_rows
zip_rows-++ w [] ds more l = refl
zip_rows-++ w (k ∷ ks) ds more l =
    rw (take-append-le w ds more (omega (arith, mul-suc w (length ks))), drop-append-le w ds more (omega (arith, mul-suc w (length ks))))
    (ap (λ rs. row k (number (take w ds)) ∷ rs) (zip_rows-++ w ks (drop w ds) more (omega (arith, mul-suc w (length ks), length-drop w ds))))

module _ {w n : ℕ} (b : Bytes) (room : Room w n (length b)) where
  length_kinds : length (take n (drop (2 * w) b)) ≡ n
  length_kinds = length-take-le n (drop (2 * w) b) (omega (arith, length-drop (2 * w) b, room.holds, add-mul 1 w n, one-mul n))

  pub length-rows_in : length (rows_in w n b) ≡ n
  unfolding rows_in
  length-rows_in = length-zip_rows w (take n (drop (2 * w) b)) (drop (2 * w + n) b) ∙ length_kinds

  pub row_in : (r : ℕ) → r < n
      → get_or (rows_in w n b) r (row 0 0) ≡ row (get_or b (2 * w + r) 0) (number (take w (drop (2 * w + n + w * r) b)))
  unfolding rows_in
  row_in r h =
      rw (
        zip_rows_at w (take n (drop (2 * w) b)) (drop (2 * w + n) b) r (omega (arith, length_kinds)),
        get_or-take n (drop (2 * w) b) r 0 h,
        get_or-drop (2 * w) b r 0,
        drop-drop (w * r) (2 * w + n) b,
      )

  -- its argument's bytes are within
  pub argument_within : (r : ℕ) → r < n → 2 * w + n + w * r + w ≤ length b
  argument_within r h = omega (arith, room.holds, add-mul 1 w n, one-mul n, next_row w h)

  -- bytes behind them change no row
  pub rows_in-++ : (more : Bytes) → rows_in w n (b ++ more) ≡ rows_in w n b
  unfolding rows_in
  rows_in-++ more =
      ap₂ (zip_rows w)
      (ap (take n) (drop-append-le (2 * w) b more (omega (arith, all))) ∙ take-append-le n (drop (2 * w) b) more (omega (arith, all, length-drop (2 * w) b)))
      (drop-append-le (2 * w + n) b more (omega (arith, all))) ∙
      zip_rows-++ w (take n (drop (2 * w) b)) (drop (2 * w + n) b) more enough
    where
      all : 2 * w + n + w * n ≤ length b
      all = omega (arith, room.holds, add-mul 1 w n, one-mul n)

      enough : w * length (take n (drop (2 * w) b)) ≤ length (drop (2 * w + n) b)
      enough = rw length_kinds (omega (arith, all, length-drop (2 * w + n) b))

-- a literal adds no child, an operator as many as its argument says
pub children-literal : (r : Row) → r.kind ≤ 4 → children r ≡ 0
unfolding children
children-literal r h = rw (le-leb r.kind 4 h)

pub children_operator : (r : Row) → 4 < r.kind → children r ≡ r.argument
unfolding children
children_operator r h = rw (lt-leb r.kind 4 h)
