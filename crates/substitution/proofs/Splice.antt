-- Rows written into the bytes of an output: the kinds spliced in, then the arguments.
-- Assumes nothing.
use mathlib.Core.Path.{◌≡◌, refl, sym, ap, ap₂, ◌∙◌, subst₂}
use mathlib.Core.List.{List, [], ◌∷◌, ◌++◌, append_assoc, append-nil}
use Prim.Native.Nat.{ℕ, ◌+◌, ◌*◌, ◌-◌, ◌≤◌, ◌<◌}
use native.Mathlib.Nat.{mul-zero, mul-suc, mul-add, add-mul, one-mul, add-zero, add_assoc, mul-le-mul_left}
use native.Mathlib.Numerals.{add-one}
use native.Mathlib.Omega.{arith}
use lib.ListN.{length, take, drop, set, length-append, length-drop, take-append-drop, drop_of_length-le}
use lib.Seq.{length-take-le, take_all, take_at, drop_at, drop-drop, take-append-add, drop-append-add, take-append-le, drop-append-le, take-suc-set}
use Rattle.sheet.specs.Format.{Bytes, Row, zip_rows, Every}
use Rattle.sheet.specs.Sheet.{row_kinds, row_arguments}
use Rattle.sheet.proofs.Parts.{ArgumentFits, zip_rows-rows, length-row_kinds, length-row_arguments, length-zip_rows}
use Rattle.rows.specs.Formats.{format_of}
use Rattle.rows.specs.Layouts.{width, total, kind_place, argument_place, rows_in, Room, Kept}
use Rattle.rows.specs.declared.Layout.{Layout}
use Rattle.rows.proofs.Layouts.{length-rows_in}
use Rattle.substitution.specs.Output.{CopyReady, spliced, Laid}

-- what a lent part is when it comes back
pub lent : (d p : Bytes) {q : Bytes} (a k : ℕ) → length p ≡ k → q ≡ p ++ drop k (take (length d - a) (drop a d))
    → take a d ++ (q ++ drop (length d - a) (drop a d)) ≡ spliced a p d
unfolding spliced
lent d p {q} a k e f =
    ap₂ (λ l r. take a d ++ (l ++ r))
    (f ∙ ap (λ l. p ++ drop k l) (take_all (length d - a) (drop a d) whole) ∙ ap (λ l. p ++ l) (drop-drop k a d ∙ ap (λ n. drop (a + n) d) (sym e)))
    (drop_of_length-le (drop a d) whole) ∙
    ap (λ l. take a d ++ l) (append-nil _)
  where
    whole : length (drop a d) ≤ length d - a
    whole = omega (arith, length-drop a d)

-- spliced

pub splice-behind : (p q new : Bytes) (n i : ℕ) → length p ≡ n → spliced (n + i) new (p ++ q) ≡ p ++ spliced i new q
unfolding spliced
splice-behind p q new n i e =
    ap (λ k. take (k + i) (p ++ q) ++ (new ++ drop (k + i + length new) (p ++ q))) (sym e) ∙
    rw (take-append-add p q i, add_assoc (length p) i (length new), drop-append-add p q (i + length new), append_assoc p (take i q) _)

splice-before : (p q new : Bytes) (i : ℕ) → i + length new ≤ length p → spliced i new (p ++ q) ≡ spliced i new p ++ q
unfolding spliced
splice-before p q new i h =
    rw (take-append-le i p q (omega arith), drop-append-le (i + length new) p q h) (simp append_assoc)

pub length-spliced : (i : ℕ) (new d : Bytes) → i + length new ≤ length d → length (spliced i new d) ≡ length d
unfolding spliced
length-spliced i new d h =
    rw (
      length-append (take i d) (new ++ drop (i + length new) d),
      length-append new (drop (i + length new) d),
      length-take-le i d (omega arith),
      length-drop (i + length new) d,
    )
    (omega arith)

drop-spliced : (k i : ℕ) (new d : Bytes) → i + length new ≤ k → i ≤ length d → drop k (spliced i new d) ≡ drop k d
unfolding spliced
drop-spliced k i new d h l =
    ap₂ drop total (sym (append_assoc (take i d) new (drop (i + length new) d))) ∙
    drop-append-add (take i d ++ new) (drop (i + length new) d) over ∙ drop-drop over (i + length new) d ∙ ap (λ n. drop n d) back
  where
    over : ℕ
    over = k - (i + length new)

    back : i + length new + over ≡ k
    back = omega arith

    total : k ≡ length (take i d ++ new) + over
    total = rw (length-append (take i d) new, length-take-le i d l) (sym back)

-- zip-rows

zip_append : (w : ℕ) (ks ls ds es : Bytes) → length ds ≡ w * length ks
    → zip_rows w (ks ++ ls) (ds ++ es) ≡ zip_rows w ks ds ++ zip_rows w ls es
unfolding zip_rows
zip_append w [] ls [] es e = refl
zip_append w [] ls (d ∷ ds) es e = absurd (omega (arith, mul-zero w))
zip_append w (k ∷ ks) ls ds es e =
    ap₂ (λ l m. l ∷ m) (ap (λ b. record { kind = k; argument = Rattle.sheet.specs.Format.number b }) (take-append-le w ds es enough))
    (ap (zip_rows w (ks ++ ls)) (drop-append-le w ds es enough) ∙ zip_append w ks ls (drop w ds) es fewer)
  where
    enough : w ≤ length ds
    enough = omega (arith, mul-suc w (length ks))

    fewer : length (drop w ds) ≡ w * length ks
    fewer = length-drop w ds ∙ omega (arith, mul-suc w (length ks))

module _ (w : ℕ) (ks ds : Bytes) (enough : w * length ks ≤ length ds) where
  front_rows : (at : ℕ) → at ≤ length ks → length (take (w * at) ds) ≡ w * length (take at ks)
  front_rows at h =
      length-take-le (w * at) ds (omega (arith, mul-le-mul_left w h)) ∙ ap (λ n. w * n) (sym (length-take-le at ks h))

  pub take_zip : (at : ℕ) → at ≤ length ks → take at (zip_rows w ks ds) ≡ zip_rows w (take at ks) (take (w * at) ds)
  take_zip at h =
      ap₂ (λ l m. take at (zip_rows w l m)) (sym (take-append-drop at ks)) (sym (take-append-drop (w * at) ds)) ∙
      ap (take at) (zip_append w (take at ks) (drop at ks) (take (w * at) ds) (drop (w * at) ds) (front_rows at h)) ∙
      take_at (zip_rows w (take at ks) (take (w * at) ds)) _ at
      (length-zip_rows w (take at ks) (take (w * at) ds) ∙ length-take-le at ks h)

  take_zip_spliced : (at : ℕ) (new : List Row) → Every (ArgumentFits w) new → at + length new ≤ length ks
      → take (at + length new) (zip_rows w (spliced at (row_kinds new) ks) (spliced (w * at) (row_arguments w new) ds)) ≡
      take at (zip_rows w ks ds) ++ new
  unfolding spliced
  take_zip_spliced at new fits h =
      ap (take (at + length new))
      (zip_append w (take at ks) _ (take (w * at) ds) _ (front_rows at (omega arith)) ∙
      ap (λ l. zip_rows w (take at ks) (take (w * at) ds) ++ l)
      (zip_append w (row_kinds new) _ (row_arguments w new) _ counted ∙
      ap (λ l. l ++ zip_rows w (drop (at + length (row_kinds new)) ks) (drop (w * at + length (row_arguments w new)) ds)) (zip_rows-rows w new fits)) ∙
      sym (append_assoc (zip_rows w (take at ks) (take (w * at) ds)) new _)) ∙
      take_at (zip_rows w (take at ks) (take (w * at) ds) ++ new) _ (at + length new) front_length ∙
      ap (λ l. l ++ new) (sym (take_zip at (omega arith)))
    where
      counted : length (row_arguments w new) ≡ w * length (row_kinds new)
      counted = length-row_arguments w new ∙ ap (λ n. w * n) (sym (length-row_kinds new))

      front_length : length (zip_rows w (take at ks) (take (w * at) ds) ++ new) ≡ at + length new
      front_length =
          length-append (zip_rows w (take at ks) (take (w * at) ds)) new ∙
          ap (λ n. n + length new) (length-zip_rows w (take at ks) (take (w * at) ds) ∙ length-take-le at ks (omega arith))

-- a copy in the bytes of an output

module _ (t : Layout) (d : Bytes) (room : Room t (length d)) (at : ℕ) (new : List Row) (fits : Every (ArgumentFits (width t)) new)
    (within : at + length new ≤ total t) where
  abbrev w : ℕ
  w = width t

  abbrev m : ℕ
  m = total t

  abbrev kinds : Bytes
  kinds = take m (drop (2 * w) d)

  abbrev arguments : Bytes
  arguments = drop (2 * w + m) d

  abbrev written : Bytes
  written = spliced (2 * w + m + w * at) (row_arguments w new) (spliced (2 * w + at) (row_kinds new) d)

  all_bytes : 2 * w + m + w * m ≤ length d
  all_bytes = omega (arith, room.holds, add-mul 1 w m, one-mul m)

  length-sizes : length (take (2 * w) d) ≡ 2 * w
  length-sizes = length-take-le (2 * w) d (omega (arith, all_bytes))

  length_kinds : length kinds ≡ m
  length_kinds = length-take-le m (drop (2 * w) d) (omega (arith, all_bytes, length-drop (2 * w) d))

  kinds_within : at + length (row_kinds new) ≤ length kinds
  kinds_within = omega (arith, length_kinds, length-row_kinds new)

  arguments-within : w * at + length (row_arguments w new) ≤ w * m
  arguments-within = omega (arith, length-row_arguments w new, mul-add w at (length new), mul-le-mul_left w within)

  length-arguments : w * m ≤ length arguments
  length-arguments = omega (arith, all_bytes, length-drop (2 * w + m) d)

  in_parts : d ≡ take (2 * w) d ++ (kinds ++ arguments)
  in_parts =
      sym
      (ap (λ l. take (2 * w) d ++ (kinds ++ l)) (sym (drop-drop m (2 * w) d)) ∙
      ap (λ l. take (2 * w) d ++ l) (take-append-drop m (drop (2 * w) d)) ∙
      take-append-drop (2 * w) d)

  abbrev new_kinds : Bytes
  new_kinds = spliced at (row_kinds new) kinds

  abbrev new-arguments : Bytes
  new-arguments = spliced (w * at) (row_arguments w new) arguments

  length-new_kinds : length new_kinds ≡ m
  length-new_kinds = length-spliced at (row_kinds new) kinds kinds_within ∙ length_kinds

  parts_written : written ≡ take (2 * w) d ++ (new_kinds ++ new-arguments)
  parts_written =
      ap (λ l. spliced (2 * w + m + w * at) (row_arguments w new) (spliced (2 * w + at) (row_kinds new) l)) in_parts ∙
      ap (spliced (2 * w + m + w * at) (row_arguments w new))
      (splice-behind (take (2 * w) d) (kinds ++ arguments) (row_kinds new) (2 * w) at length-sizes ∙
      ap (λ l. take (2 * w) d ++ l) (splice-before kinds arguments (row_kinds new) at kinds_within)) ∙
      ap (λ n. spliced n (row_arguments w new) (take (2 * w) d ++ (new_kinds ++ arguments))) (add_assoc (2 * w) m (w * at)) ∙
      splice-behind (take (2 * w) d) (new_kinds ++ arguments) (row_arguments w new) (2 * w) (m + w * at) length-sizes ∙
      ap (λ l. take (2 * w) d ++ l) (splice-behind new_kinds arguments (row_arguments w new) m (w * at) length-new_kinds)

  behind-sizes : drop (2 * w) written ≡ new_kinds ++ new-arguments
  behind-sizes = ap (drop (2 * w)) parts_written ∙ drop_at (take (2 * w) d) (new_kinds ++ new-arguments) (2 * w) length-sizes

  arguments_written : drop (2 * w + m) written ≡ new-arguments
  arguments_written =
      sym (drop-drop m (2 * w) written) ∙ ap (drop m) behind-sizes ∙ drop_at new_kinds new-arguments m length-new_kinds

  pub copy_laid : Laid t d written at (at + length new) new
  unfolding rows_in
  copy_laid =
      record {
        next_row = refl;
        so_far =
            ap₂ (λ l r. take (at + length new) (zip_rows w l r))
            (ap (take m) behind-sizes ∙ take_at new_kinds new-arguments m length-new_kinds) arguments_written ∙
            take_zip_spliced w kinds arguments (rw length_kinds length-arguments) at new fits (omega (arith, length_kinds));
        around =
            record {
              sizes_kept = ap (take (2 * w)) parts_written ∙ take_at (take (2 * w) d) (new_kinds ++ new-arguments) (2 * w) length-sizes;
              behind_kept =
                  ap (λ n. drop n written) split ∙ sym (drop-drop (w * m) (2 * w + m) written) ∙ ap (drop (w * m)) arguments_written ∙
                  drop-spliced (w * m) (w * at) (row_arguments w new) arguments arguments-within
                  (omega (arith, length-arguments, arguments-within)) ∙
                  drop-drop (w * m) (2 * w + m) d ∙ ap (λ n. drop n d) (sym split);
            };
      }
    where
      split : 2 * w + (1 + w) * m ≡ 2 * w + m + w * m
      split = omega (arith, add-mul 1 w m, one-mul m)

-- after a write there is as much room
pub ready_on : {s t : Layout} {b old new : Bytes} → CopyReady s b t old → length new ≡ length old → CopyReady s b t new
ready_on {t = t} r e =
    record {
      source = r.source;
      room = record { holds = omega (arith, e, r.room.holds) };
      same_format = r.same_format;
    }

pub copied-laid : {s t : Layout} {b : Bytes} (d : Bytes) → CopyReady s b t d → (at : ℕ) (new : List Row) → Every (ArgumentFits (width s)) new → (k : ℕ)
    → length new ≡ k → at + k ≤ total t → {kinds arguments : ℕ} → kinds ≡ kind_place t at → arguments ≡ argument_place t at
    → {mid out : Bytes} → mid ≡ spliced kinds (row_kinds new) d → out ≡ spliced arguments (row_arguments (width s) new) mid
    → Laid t d out at (at + k) new
copied-laid {s} {t} d ready at new fits k counted within at-kinds at-arguments first second =
    subst₂ (λ n out. Laid t d out at (at + n) new) counted
    (sym
    (second ∙ ap₂ (λ i mid. spliced i (row_arguments (width s) new) mid) at-arguments (first ∙ ap (λ i. spliced i (row_kinds new) d) at-kinds) ∙
    ap (λ f. spliced (argument_place t at) (row_arguments (format_of f).width new) (spliced (kind_place t at) (row_kinds new) d)) (sym ready.same_format)))
    (copy_laid t d ready.room at new (rw ready.same_format fits) (omega arith))

pub row_laid : (t : Layout) (d : Bytes) → Room t (length d) → (at : ℕ) (r : Row) → at < total t → {out : Bytes}
    → rows_in t out ≡ set (rows_in t d) at r → Kept t d out → Laid t d out at (at + 1) (r ∷ [])
row_laid t d room at r h rows kept =
    record {
      next_row = refl;
      so_far = ap₂ take (add-one at) rows ∙ take-suc-set (rows_in t d) at r (omega (arith, length-rows_in d room));
      around = kept;
    }

-- Laid, composed

pub none-laid : (t : Layout) (d : Bytes) (at : ℕ) → Laid t d d at at []
none-laid t d at =
    record {
      next_row = sym (add-zero at);
      so_far = sym (append-nil (take at (rows_in t d)));
      around = record { sizes_kept = refl; behind_kept = refl };
    }

pub laid_on : {t : Layout} {old mid new : Bytes} {at next last : ℕ} {rs ss : List Row} → Laid t old mid at next rs
    → Laid t mid new next last ss → Laid t old new at last (rs ++ ss)
laid_on {t} {old} {at = at} {rs = rs} {ss = ss} f g =
    record {
      next_row = omega (arith, f.next_row, g.next_row, length-append rs ss);
      so_far = g.so_far ∙ ap (λ l. l ++ ss) f.so_far ∙ append_assoc (take at (rows_in t old)) rs ss;
      around =
          record {
            sizes_kept = g.around.sizes_kept ∙ f.around.sizes_kept;
            behind_kept = g.around.behind_kept ∙ f.around.behind_kept;
          };
    }

-- all rows are written
pub laid-all : {t : Layout} {old new : Bytes} {last : ℕ} {rs : List Row} → Room t (length new) → last ≡ total t
    → Laid t old new 0 last rs → rows_in t new ≡ rs
laid-all {t} {old} {new} room e f =
    sym (take_all (total t) (rows_in t new) (omega (arith, length-rows_in new room))) ∙ ap (λ n. take n (rows_in t new)) (sym e) ∙ f.so_far
