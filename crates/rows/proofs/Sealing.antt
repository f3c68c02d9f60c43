-- The bytes of the first rows as a sheet's.
-- Assumes nothing.
use mathlib.Core.Path.{◌≡◌, refl, sym, ap, ap₂, ◌∙◌}
use mathlib.Core.List.{List, [], ◌∷◌, ◌++◌, append_assoc}
use Prim.Native.Nat.{ℕ, zero, suc, ◌+◌, ◌*◌, ◌-◌, ◌≤◌, ◌<◌}
use native.Mathlib.Nat.{mul-zero, mul-suc, add-mul, one-mul, mul-le-mul_left}
use native.Mathlib.Omega.{arith}
use lib.ListN.{length, get_or, take, drop, replicate, length-append, length-drop}
use lib.Seq.{length-take-le, take_at, drop_at, take-add, take-take, drop-drop}
use Rattle.sheet.specs.Format.{Bytes, Row, digits, zip_rows, IsByte, AllBytes}
use Rattle.sheet.specs.Sheet.{row_kinds, row_arguments}
use Rattle.sheet.proofs.Every.{every_take, every_drop}
use Rattle.sheet.proofs.Numbers.{length_digits, digits-number_at}
use Rattle.sheet.proofs.Parts.{row_kinds_zip}
use Rattle.rows.proofs.Flat.{rows_in, Room}

-- every element a byte

pub all_bytes : (b : Bytes) → ((i : ℕ) → get_or b i 0 < 256) → AllBytes b
all_bytes [] f = tt
all_bytes (x ∷ b) f = (f 0, all_bytes b (λ i. f (suc i)))

-- the bytes of the first rows

take_kinds : (m : ℕ) (rs : List Row) → row_kinds (take m rs) ≡ take m (row_kinds rs)
unfolding row_kinds
take_kinds zero rs = refl
take_kinds (suc m) [] = refl
take_kinds (suc m) (r ∷ rs) = ap (λ l. r.kind ∷ l) (take_kinds m rs)

take-arguments : (w m : ℕ) (ks ds : Bytes) → m ≤ length ks → w * m ≤ length ds → AllBytes ds
    → row_arguments w (take m (zip_rows w ks ds)) ≡ take (w * m) ds
unfolding row_arguments zip_rows
take-arguments w zero ks ds l e h = ap (λ k. take k ds) (sym (mul-zero w))
take-arguments w (suc m) [] ds l e h = absurd (omega arith)
take-arguments w (suc m) (k ∷ ks) ds l e h =
    ap₂ ◌++◌ (digits-number_at w (take w ds) (length-take-le w ds (omega (arith, mul-suc w m))) (every_take IsByte w ds h))
    (take-arguments w m ks (drop w ds) (omega arith) (omega (arith, mul-suc w m, length-drop w ds)) (every_drop IsByte w ds h)) ∙
    sym (take-add w (w * m) ds) ∙ ap (λ j. take j ds) (omega-suc)
  where
    omega-suc : w + w * m ≡ w * suc m
    omega-suc = omega (arith, mul-suc w m)

-- the two sizes written over whatever stands first

abbrev sized_first : ℕ → ℕ → Bytes → Bytes
sized_first w x b = take 0 b ++ digits w x ++ drop (0 + w) b

abbrev sized_second : ℕ → ℕ → Bytes → Bytes
sized_second w y b = take w b ++ digits w y ++ drop (w + w) b

sized : (w : ℕ) (h rest : Bytes) → length h ≡ 2 * w → (x y : ℕ)
    → sized_second w y (sized_first w x (h ++ rest)) ≡ digits w x ++ digits w y ++ rest
sized w h rest e x y =
    ap₂ (λ p q. p ++ digits w y ++ q) (take_at (digits w x) (drop (0 + w) (h ++ rest)) w (length_digits w x))
    (sym (drop-drop w w (sized_first w x (h ++ rest))) ∙
    ap (drop w) (drop_at (digits w x) (drop (0 + w) (h ++ rest)) w (length_digits w x)) ∙ drop-drop w (0 + w) (h ++ rest) ∙
    ap (λ k. drop k (h ++ rest)) twice ∙ drop_at h rest (2 * w) e)
  where
    twice : 0 + w + w ≡ 2 * w
    twice = omega arith

room-rows : {w n len : ℕ} → Room w n len → 2 * w + n + w * n ≤ len
room-rows {w} {n} room = omega (arith, room.holds, add-mul 1 w n, one-mul n)

module _ {w n m : ℕ} (b : Bytes) (room : Room w n (length b)) (bytes : AllBytes b) (m≤n : m ≤ n) where
  all_rows : 2 * w + n + w * n ≤ length b
  all_rows = room-rows room

  -- m rows take the first m kinds and arguments
  few : w * m ≤ w * n
  few = mul-le-mul_left w m≤n

  kinds_are : row_kinds (take m (rows_in w n b)) ≡ take m (drop (2 * w) b)
  unfolding rows_in
  kinds_are =
      take_kinds m (zip_rows w (take n (drop (2 * w) b)) (drop (2 * w + n) b)) ∙
      ap (take m) (row_kinds_zip w (take n (drop (2 * w) b)) (drop (2 * w + n) b)) ∙ take-take m n (drop (2 * w) b) m≤n

  arguments_are : row_arguments w (take m (rows_in w n b)) ≡ take (w * m) (drop (2 * w + n) b)
  unfolding rows_in
  arguments_are =
      take-arguments w m (take n (drop (2 * w) b)) (drop (2 * w + n) b)
      (omega (arith, length-take-le n (drop (2 * w) b) (omega (arith, all_rows, length-drop (2 * w) b)), m≤n))
      (omega (arith, few, all_rows, length-drop (2 * w + n) b)) (every_drop IsByte (2 * w + n) b bytes)

  abbrev end : ℕ
  end = 2 * w + m + w * m

  abbrev moved : Bytes
  moved = take (2 * w + m) b ++ take (w * m) (drop (2 * w + n) b) ++ drop (2 * w + m + w * m) b

  abbrev zeros : Bytes
  zeros = replicate (length b - end) 0

  counted : length (take (2 * w + m) b ++ take (w * m) (drop (2 * w + n) b)) ≡ end
  counted =
      length-append (take (2 * w + m) b) (take (w * m) (drop (2 * w + n) b)) ∙
      ap₂ ◌+◌ (length-take-le (2 * w + m) b (omega (arith, all_rows, m≤n)))
      (length-take-le (w * m) (drop (2 * w + n) b) (omega (arith, few, all_rows, length-drop (2 * w + n) b)))

  front_is : take end moved ≡ take (2 * w) b ++ (take m (drop (2 * w) b) ++ take (w * m) (drop (2 * w + n) b))
  front_is =
      take_at (take (2 * w + m) b ++ take (w * m) (drop (2 * w + n) b)) (drop (2 * w + m + w * m) b) end counted ∙
      ap (λ l. l ++ take (w * m) (drop (2 * w + n) b)) (take-add (2 * w) m b) ∙
      append_assoc (take (2 * w) b) (take m (drop (2 * w) b)) (take (w * m) (drop (2 * w + n) b))

  back_is : drop end moved ≡ drop end b
  back_is = drop_at (take (2 * w + m) b ++ take (w * m) (drop (2 * w + n) b)) (drop (2 * w + m + w * m) b) end counted

  pub sealed : (x y : ℕ) {b₁ b₂ b₃ b₄ : Bytes} → b₁ ≡ moved → b₂ ≡ take end b₁ ++ replicate (length b₁ - end) 0
      → b₃ ≡ sized_first w x b₂ → b₄ ≡ sized_second w y b₃
      → b₄ ≡ digits w x ++ digits w y ++ row_kinds (take m (rows_in w n b)) ++ row_arguments w (take m (rows_in w n b)) ++ replicate (length b - end) 0
  sealed x y {b₁} {b₂} e₁ e₂ e₃ e₄ =
      e₄ ∙ ap (sized_second w y) (e₃ ∙ ap (sized_first w x) cleared) ∙
      sized w (take (2 * w) b) (K ++ D ++ zeros) (length-take-le (2 * w) b (omega (arith, all_rows))) x y ∙
      ap₂ (λ p q. digits w x ++ digits w y ++ (p ++ q ++ zeros)) (sym kinds_are) (sym arguments_are) ∙ simp append_assoc
    where
      K : Bytes
      K = take m (drop (2 * w) b)

      D : Bytes
      D = take (w * m) (drop (2 * w + n) b)

      blank : replicate (length moved - end) 0 ≡ zeros
      blank = ap (λ k. replicate k 0) (sym (length-drop end moved) ∙ ap length back_is ∙ length-drop end b)

      cleared : b₂ ≡ take (2 * w) b ++ (K ++ D ++ zeros)
      cleared =
          e₂ ∙ ap (λ (q : Bytes). take end q ++ replicate (length q - end) 0) e₁ ∙ ap₂ ◌++◌ front_is blank ∙
          append_assoc (take (2 * w) b) (K ++ D) zeros
