-- The arguments of rows that are read from bytes fit their width.
-- Assumes nothing.
use mathlib.Core.Path.{◌≡◌, refl}
use mathlib.Core.Bool.{Bool, true, false, cond, beq}
use mathlib.Core.List.{List, [], ◌∷◌, map}
use Prim.Native.Nat.{ℕ, zero, suc, ◌+◌, ◌*◌, ◌≤◌, ◌<◌}
use native.Mathlib.Nat.{lt_of_lt_of_le, pow-le-pow_right}
use native.Mathlib.Omega.{arith}
use lib.Dec.{eqb, leb}
use lib.ListN.{length, get_or, take, drop}
use lib.Seq.{slice}
use borrow.Author.Tests.{leb-true}
use Rattle.formula.specs.Tree.{lit, constant, count}
use Rattle.sheet.specs.Format.{Bytes, Row, row, zip_rows, Every, IsByte, AllBytes}
use Rattle.sheet.specs.Sheet.{tree_rows}
use Rattle.sheet.proofs.Every.{every_take, every_drop}
use Rattle.sheet.proofs.Numbers.{number_bound}
use Rattle.sheet.proofs.Parts.{ArgumentFits}
use Rattle.rows.specs.Layouts.{width, total, rows_in}
use Rattle.rows.specs.declared.Layout.{Layout}
use Rattle.rows.proofs.Limits.{number_fits}
use Rattle.rows.proofs.Sealing.{all_bytes}
use Rattle.substitution.specs.Changes.{entry, became, chosen_row, changed_row, copied}

length-take_most : {A : Type 0} (w : ℕ) (l : List A) → length (take w l) ≤ w
length-take_most zero l = omega arith
length-take_most (suc w) [] = omega arith
length-take_most (suc w) (x ∷ l) = omega (arith, length-take_most w l)

zip_rows_fit : (w : ℕ) (ks ds : Bytes) → AllBytes ds → Every (ArgumentFits w) (zip_rows w ks ds)
unfolding zip_rows
zip_rows_fit w [] ds h = tt
zip_rows_fit w (k ∷ ks) ds h = (
  lt_of_lt_of_le (number_bound (take w ds) (every_take IsByte w ds h)) (pow-le-pow_right {n = 256} (omega arith) (length-take_most w ds)),
  zip_rows_fit w ks (drop w ds) (every_drop IsByte w ds h),
)

rows_fit : (s : Layout) (b : Bytes) → ((i : ℕ) → get_or b i 0 < 256) → Every (ArgumentFits (width s)) (rows_in s b)
unfolding rows_in
rows_fit s b h =
    zip_rows_fit (width s) (take (total s) (drop (2 * width s) b)) (drop (2 * width s + total s) b)
    (every_drop IsByte (2 * width s + total s) b (all_bytes b h))

pub slice_fits : (s : Layout) (b : Bytes) → ((i : ℕ) → get_or b i 0 < 256) → (from to : ℕ)
    → Every (ArgumentFits (width s)) (slice from to (rows_in s b))
slice_fits s b h from to =
    every_drop (ArgumentFits (width s)) from (take to (rows_in s b))
    (every_take (ArgumentFits (width s)) to (rows_in s b) (rows_fit s b h))

-- and so do those of rows that a table changes

fits-changed : (s : Layout) (t : List ℕ) (r : Row) → ArgumentFits (width s) r → ArgumentFits (width s) (changed_row t r)
unfolding changed_row became tree_rows count
fits-changed s t r h = by (chosen_row t r) (leb e 1024) refl (beq (eqb r.kind 3) (eqb e 1026))
  where
    e : ℕ
    e = entry t r.argument

    by : (m n : Bool) → leb e 1024 ≡ n → (o : Bool)
        → ArgumentFits (width s) (cond m (get_or (tree_rows (cond n (lit (eqb r.kind 3) e) (constant o))) 0 (row 0 0)) r)
    by false n f o = h
    by true true f o = number_fits s.format (omega (arith, leb-true e 1024 f))
    by true false f true = number_fits s.format (omega arith)
    by true false f false = number_fits s.format (omega arith)

every_map : (w : ℕ) (f : Row → Row) → ((r : Row) → ArgumentFits w r → ArgumentFits w (f r)) → (rs : List Row) → Every (ArgumentFits w) rs
    → Every (ArgumentFits w) (map f rs)
every_map w f h [] e = tt
every_map w f h (r ∷ rs) e = (h r e.0, every_map w f h rs e.1)

pub copied-fits : (s : Layout) (b : Bytes) → ((i : ℕ) → get_or b i 0 < 256) → (t : List ℕ) (from to : ℕ)
    → Every (ArgumentFits (width s)) (copied t from to (rows_in s b))
unfolding copied
copied-fits s b h t from to = every_map (width s) (changed_row t) (fits-changed s t) (slice from to (rows_in s b)) (slice_fits s b h from to)
