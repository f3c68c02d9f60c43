-- A number's bytes stored one by one, and a row's kind and argument stored in the bytes of its sheet.
-- Assumes nothing.
use mathlib.Core.Path.{◌≡◌, refl, sym, ap, ap₂, ◌∙◌}
use mathlib.Core.List.{[], ◌∷◌, ◌++◌, append_assoc}
use Prim.Native.Nat.{ℕ, zero, suc, ◌+◌, ◌*◌, ◌-◌, ◌/◌, ◌%◌, ◌^◌, ◌≤◌, ◌<◌}
use native.Mathlib.Nat.{mul-zero, mul-suc, add-mul, one-mul, add_assoc}
use native.Mathlib.Numerals.{add-one}
use native.Mathlib.Omega.{arith}
use lib.ListN.{length, get_or, take, drop, set, length-append, length-drop, length-set}
use lib.Seq.{length-take-le, drop-cons, take_at, drop_at, take-add, drop-drop, drop-append-add}
use lib.Seq.{take_all, paste, paste-zero, paste-suc, take-set-le, drop-set-lt, take-set-lt, drop-set-add}
use Rattle.sheet.specs.Format.{Bytes, row, number, digits, zip_rows}
use Rattle.sheet.proofs.Numbers.{length_digits, number_digits}
use Rattle.rows.proofs.Flat.{rows_in, Room}
use Rattle.rows.proofs.Rows.{next_row}

-- i bytes of a number are stored, and the rest of the number is at hand
pub record Stored (d : Bytes) (at width value : ℕ) (b : Bytes) (i rest : ℕ) : Type 0 where
  pub within : i ≤ width
  pub so_far : b ≡ paste d at (digits width value) i
  pub owed : drop i (digits width value) ≡ digits (width - i) rest
  pub same_length : length b ≡ length d

module _ (d : Bytes) (at width value : ℕ) (inside : at + width ≤ length d) where
  pub stored_none : Stored d at width value d 0 value
  stored_none =
      record {
        within = omega arith;
        so_far = paste-zero d at (digits width value);
        owed = ap (λ n. digits n value) none;
        same_length = refl;
      }
    where
      none : width ≡ width - 0
      none = omega arith

  pub stored_byte : {b : Bytes} {i rest : ℕ} → i < width → Stored d at width value b i rest
      → Stored d at width value (set b (at + i) (rest % 256)) (i + 1) (rest / 256)
  unfolding digits
  stored_byte {b} {i} {rest} h s =
      record {
        within = omega arith;
        so_far =
            rw (s.so_far, add-one i, ← byte)
            (paste-suc d at (digits width value) i 0 (omega arith) (omega (arith, length_digits width value)));
        owed =
            ap (λ n. drop n (digits width value)) (add-one i) ∙ ap (drop 1) (sym parts) ∙ ap (drop 1) opened ∙
            ap (λ n. digits n (rest / 256)) less;
        same_length = length-set b (at + i) (rest % 256) ∙ s.same_length;
      }
    where
      parts : drop i (digits width value) ≡ get_or (digits width value) i 0 ∷ drop (suc i) (digits width value)
      parts = drop-cons (digits width value) i 0 (omega (arith, length_digits width value))

      more : width - i ≡ suc (width - suc i)
      more = omega arith

      less : width - suc i ≡ width - (i + 1)
      less = omega arith

      opened : drop i (digits width value) ≡ rest % 256 ∷ digits (width - suc i) (rest / 256)
      opened = s.owed ∙ ap (λ n. digits n rest) more

      byte : get_or (digits width value) i 0 ≡ rest % 256
      byte = ap (λ (l : Bytes). get_or l 0 0) (sym parts ∙ opened)

  pub stored_all : {b : Bytes} {i rest : ℕ} → width ≤ i → Stored d at width value b i rest
      → b ≡ take at d ++ digits width value ++ drop (at + width) d
  stored_all {b} {i} {rest} h s =
      let last : i ≡ width = omega (arith, s.within) in
      s.so_far ∙ ap (paste d at (digits width value)) last ∙
      ap (λ l. take at d ++ l ++ drop (at + width) d) (take_all width (digits width value) (omega (arith, length_digits width value)))

-- two bytes, written at once
pub stored_pair : (d : Bytes) (at value : ℕ) → at + 2 ≤ length d
    → set (set d at (value % 256)) (at + 1) (value / 256 % 256) ≡ take at d ++ digits 2 value ++ drop (at + 2) d
stored_pair d at value inside =
    ap (λ i. set (set d i (value % 256)) (at + 1) (value / 256 % 256)) (none at) ∙
    stored_all d at 2 value inside (omega arith)
    (stored_byte d at 2 value inside (omega arith) (stored_byte d at 2 value inside (omega arith) (stored_none d at 2 value inside)))
  where
    none : (n : ℕ) → n ≡ n + 0
    none n = omega arith

-- four bytes, written by pairs
pub stored_quad : (d : Bytes) (at value : ℕ) → at + 4 ≤ length d → {mid new : Bytes}
    → mid ≡ take at d ++ digits 2 value ++ drop (at + 2) d
    → new ≡ take (at + 2) mid ++ digits 2 (value / 65536) ++ drop (at + 2 + 2) mid
    → new ≡ take at d ++ digits 4 value ++ drop (at + 4) d
unfolding digits
stored_quad d at value inside {mid} {new} e₁ e₂ =
    e₂ ∙ ap₂ (λ l r. l ++ digits 2 (value / 65536) ++ r) front back ∙
    append_assoc (take at d ++ digits 2 value) (digits 2 (value / 65536)) (drop (at + 4) d) ∙
    append_assoc (take at d) (digits 2 value) _ ∙ ap₂ (λ p q. take at d ++ (value % 256 ∷ value / 256 % 256 ∷ p % 256 ∷ q % 256 ∷ drop (at + 4) d)) third fourth ∙
    sym (append_assoc (take at d) (digits 4 value) (drop (at + 4) d))
  where
    done : Bytes
    done = take at d ++ digits 2 value

    counted : length done ≡ at + 2
    counted = length-append (take at d) (digits 2 value) ∙ ap₂ ◌+◌ (length-take-le at d (omega arith)) (length_digits 2 value)

    front : take (at + 2) mid ≡ done
    front = ap (take (at + 2)) e₁ ∙ take_at done (drop (at + 2) d) (at + 2) counted

    back : drop (at + 2 + 2) mid ≡ drop (at + 4) d
    back =
        ap (drop (at + 2 + 2)) e₁ ∙ ap (λ n. drop (n + 2) (done ++ drop (at + 2) d)) (sym counted) ∙
        drop-append-add done (drop (at + 2) d) 2 ∙ drop-drop 2 (at + 2) d ∙ ap (λ n. drop n d) (behind at)
      where
        behind : (n : ℕ) → n + 2 + 2 ≡ n + 4
        behind n = omega arith

    third : value / 65536 ≡ value / 256 / 256
    third = omega arith

    fourth : value / 65536 / 256 ≡ value / 256 / 256 / 256
    fourth = omega arith

-- the argument's bytes in place of row r's
abbrev argument_put : ℕ → ℕ → ℕ → Bytes → Bytes
argument_put w r a ds = take (w * r) ds ++ (digits w a ++ drop (w * r + w) ds)

zip_rows-set : (w : ℕ) (ks ds : Bytes) (r k a : ℕ) → r < length ks → w * length ks ≤ length ds → a < 256 ^ w
    → zip_rows w (set ks r k) (argument_put w r a ds) ≡ set (zip_rows w ks ds) r (row k a)
unfolding zip_rows
zip_rows-set w [] ds r k a h e f = absurd (omega arith)
zip_rows-set w (k₀ ∷ ks) ds zero k a h e f =
    rw (
      mul-zero,
      take_at (digits w a) (drop (0 + w) ds) w (length_digits w a),
      drop_at (digits w a) (drop (0 + w) ds) w (length_digits w a),
      number_digits w a f,
    )
    (ap (λ n. row k a ∷ zip_rows w ks (drop n ds)) first)
  where
    first : 0 + w ≡ w
    first = omega arith
zip_rows-set w (k₀ ∷ ks) ds (suc r) k a h e f =
    ap (λ l. row k₀ (number (take w l)) ∷ zip_rows w (set ks r k) (drop w l)) opened ∙
    rw (take_at (take w ds) rest w wide, drop_at (take w ds) rest w wide)
    (ap (λ l. row k₀ (number (take w ds)) ∷ l) (zip_rows-set w ks (drop w ds) r k a (omega arith) fewer f))
  where
    rest : Bytes
    rest = argument_put w r a (drop w ds)

    wide : length (take w ds) ≡ w
    wide = length-take-le w ds (omega (arith, mul-suc w (length ks)))

    fewer : w * length ks ≤ length (drop w ds)
    fewer = omega (arith, mul-suc w (length ks), length-drop w ds)

    front_part : take (w * suc r) ds ≡ take w ds ++ take (w * r) (drop w ds)
    front_part = ap (λ m. take m ds) first ∙ take-add w (w * r) ds
      where
        first : w * suc r ≡ w + w * r
        first = omega (arith, mul-suc w r)

    back-part : drop (w * suc r + w) ds ≡ drop (w * r + w) (drop w ds)
    back-part = ap (λ m. drop m ds) first ∙ sym (drop-drop (w * r + w) w ds)
      where
        first : w * suc r + w ≡ w + (w * r + w)
        first = omega (arith, mul-suc w r)

    opened : argument_put w (suc r) a ds ≡ take w ds ++ rest
    opened = ap₂ (λ l m. l ++ (digits w a ++ m)) front_part back-part ∙ append_assoc (take w ds) (take (w * r) (drop w ds)) _

module _ {w n r : ℕ} (b : Bytes) (room : Room w n (length b)) (r<n : r < n) (k a : ℕ) (fits : a < 256 ^ w) where
  -- the kind is stored first
  abbrev kinded : Bytes
  kinded = set b (2 * w + r) k

  abbrev behind_kinds : Bytes
  behind_kinds = drop (2 * w + n) kinded

  abbrev pub row_put : Bytes
  row_put = take (2 * w + n + w * r) kinded ++ digits w a ++ drop (2 * w + n + w * r + w) kinded

  all_bytes : 2 * w + n + w * n ≤ length b
  all_bytes = omega (arith, room.holds, add-mul 1 w n, one-mul n)

  length_kinded : length kinded ≡ length b
  length_kinded = length-set b (2 * w + r) k

  in_parts : row_put ≡ take (2 * w) kinded ++ (take n (drop (2 * w) kinded) ++ argument_put w r a behind_kinds)
  in_parts =
      rw (take-add (2 * w + n) (w * r) kinded, take-add (2 * w) n kinded, drop-drop (w * r + w) (2 * w + n) kinded, ← add_assoc (2 * w + n) (w * r) w)
      (simp append_assoc)

  length-header : length (take (2 * w) kinded) ≡ 2 * w
  length-header = length-take-le (2 * w) kinded (omega (arith, all_bytes, length_kinded))

  length_kinds : length (take n (drop (2 * w) kinded)) ≡ n
  length_kinds = length-take-le n (drop (2 * w) kinded) (omega (arith, all_bytes, length_kinded, length-drop (2 * w) kinded))

  behind-header : drop (2 * w) row_put ≡ take n (drop (2 * w) kinded) ++ argument_put w r a behind_kinds
  behind-header = ap (drop (2 * w)) in_parts ∙ drop_at (take (2 * w) kinded) _ (2 * w) length-header

  kinds_put : take n (drop (2 * w) row_put) ≡ set (take n (drop (2 * w) b)) r k
  kinds_put =
      ap (take n) behind-header ∙ take_at (take n (drop (2 * w) kinded)) _ n length_kinds ∙
      ap (take n) (drop-set-add (2 * w) b r k) ∙ take-set-lt n (drop (2 * w) b) r k r<n

  arguments-put : drop (2 * w + n) row_put ≡ argument_put w r a (drop (2 * w + n) b)
  arguments-put =
      sym (drop-drop n (2 * w) row_put) ∙ ap (drop n) behind-header ∙ drop_at (take n (drop (2 * w) kinded)) _ n length_kinds ∙
      ap (argument_put w r a) (drop-set-lt (2 * w + n) b (2 * w + r) k (omega arith))

  length-arguments : length (drop (2 * w + n) b) ≡ length b - (2 * w + n)
  length-arguments = length-drop (2 * w + n) b

  pub rows-put : rows_in w n row_put ≡ set (rows_in w n b) r (row k a)
  unfolding rows_in
  rows-put =
      ap₂ (zip_rows w) kinds_put arguments-put ∙
      zip_rows-set w (take n (drop (2 * w) b)) (drop (2 * w + n) b) r k a (omega (arith, r<n, counted)) enough fits
    where
      counted : length (take n (drop (2 * w) b)) ≡ n
      counted = length-take-le n (drop (2 * w) b) (omega (arith, all_bytes, length-drop (2 * w) b))

      enough : w * length (take n (drop (2 * w) b)) ≤ length (drop (2 * w + n) b)
      enough = rw counted (omega (arith, all_bytes, length-arguments))

  pub header-kept : take (2 * w) row_put ≡ take (2 * w) b
  header-kept =
      ap (take (2 * w)) in_parts ∙ take_at (take (2 * w) kinded) _ (2 * w) length-header ∙ take-set-le (2 * w) b (2 * w + r) k (omega arith)

  pub back_kept : drop (2 * w + (1 + w) * n) row_put ≡ drop (2 * w + (1 + w) * n) b
  back_kept =
      ap (λ m. drop m row_put) split ∙ sym (drop-drop (w * n) (2 * w + n) row_put) ∙ ap (drop (w * n)) arguments-put ∙
      behind-argument (drop (2 * w + n) b) (omega (arith, all_bytes, length-arguments)) ∙
      drop-drop (w * n) (2 * w + n) b ∙ ap (λ m. drop m b) (sym split)
    where
      split : 2 * w + (1 + w) * n ≡ 2 * w + n + w * n
      split = omega (arith, add-mul 1 w n, one-mul n)

      behind-argument : (ds : Bytes) → w * n ≤ length ds → drop (w * n) (argument_put w r a ds) ≡ drop (w * n) ds
      behind-argument ds enough =
          ap₂ drop total (sym (append_assoc (take (w * r) ds) (digits w a) (drop (w * r + w) ds))) ∙
          drop-append-add (take (w * r) ds ++ digits w a) (drop (w * r + w) ds) over ∙ drop-drop over (w * r + w) ds ∙
          ap (λ m. drop m ds) back
        where
          over : ℕ
          over = w * n - (w * r + w)

          back : w * r + w + over ≡ w * n
          back = omega (arith, next_row w r<n)

          total : w * n ≡ length (take (w * r) ds ++ digits w a) + over
          total =
              rw (length-append (take (w * r) ds) (digits w a), length_digits w a, length-take-le (w * r) ds (omega (arith, next_row w r<n)))
              (omega (arith, next_row w r<n))
