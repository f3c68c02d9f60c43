-- The layout of a sheet: two sizes, the kind bytes, the arguments; bytes to rows and back.
-- Assumes nothing.
use mathlib.Core.Path.{◌≡◌, refl, sym, ap, ap₂, ◌∙◌}
use mathlib.Core.List.{List, [], ◌∷◌, ◌++◌, append_assoc}
use Prim.Native.Nat.{ℕ, suc, ◌+◌, ◌*◌, ◌^◌, ◌<◌}
use native.Mathlib.Nat.{mul-zero, mul-suc, add-mul, one-mul, two-mul}
use native.Mathlib.Omega.{arith}
use lib.ListN.{length, take, drop, length-append, length-drop, take-append-drop}
use lib.Seq.{length-take-le, take_at, drop_at, take-add}
use Rattle.sheet.specs.Format.{Bytes, Format, header, sheet_length, number, digits, variables, nodes, Row, kind_bytes, argument_bytes, zip_rows, Every, IsByte, AllBytes}
use Rattle.sheet.specs.Sheet.{row_kinds, row_arguments}
use Rattle.sheet.proofs.Every.{every_take, every_drop}
use Rattle.sheet.proofs.Numbers.{length_digits, number_digits, digits-number_at}

-- rows

pub length-row_kinds : (rs : List Row) → length (row_kinds rs) ≡ length rs
unfolding row_kinds
length-row_kinds [] = refl
length-row_kinds (r ∷ rs) = ap suc (length-row_kinds rs)

pub length-row_arguments : (w : ℕ) (rs : List Row) → length (row_arguments w rs) ≡ w * length rs
unfolding row_arguments
length-row_arguments w [] = sym (mul-zero w)
length-row_arguments w (r ∷ rs) =
    rw (length-append (digits w r.argument) (row_arguments w rs), length_digits w r.argument, length-row_arguments w rs, mul-suc)
    (omega arith)

abbrev pub ArgumentFits : ℕ → Row → Type 0
ArgumentFits w r = r.argument < 256 ^ w

-- zip-rows

pub zip_rows-rows : (w : ℕ) (rs : List Row) → Every (ArgumentFits w) rs → zip_rows w (row_kinds rs) (row_arguments w rs) ≡ rs
unfolding zip_rows row_kinds row_arguments
zip_rows-rows w [] h = refl
zip_rows-rows w (r ∷ rs) h =
    let a = digits w r.argument in
    rw (
      take_at a (row_arguments w rs) w (length_digits w r.argument),
      drop_at a (row_arguments w rs) w (length_digits w r.argument),
      number_digits w r.argument h.0,
      zip_rows-rows w rs h.1,
    )

pub row_kinds_zip : (w : ℕ) (ks ds : Bytes) → row_kinds (zip_rows w ks ds) ≡ ks
unfolding zip_rows row_kinds
row_kinds_zip w [] ds = refl
row_kinds_zip w (k ∷ ks) ds = ap (λ l. k ∷ l) (row_kinds_zip w ks (drop w ds))

pub length-zip_rows : (w : ℕ) (ks ds : Bytes) → length (zip_rows w ks ds) ≡ length ks
length-zip_rows w ks ds = sym (length-row_kinds (zip_rows w ks ds)) ∙ ap length (row_kinds_zip w ks ds)

pub row_arguments_zip : (w : ℕ) (ks ds : Bytes) → length ds ≡ w * length ks → AllBytes ds → row_arguments w (zip_rows w ks ds) ≡ ds
unfolding zip_rows row_arguments
row_arguments_zip w [] [] e h = refl
row_arguments_zip w [] (d ∷ ds) e h = absurd (omega arith)
row_arguments_zip w (k ∷ ks) ds e h =
    ap₂ ◌++◌ (digits-number_at w (take w ds) first (every_take IsByte w ds h))
    (row_arguments_zip w ks (drop w ds) others (every_drop IsByte w ds h)) ∙
    take-append-drop w ds
  where
    first : length (take w ds) ≡ w
    first = length-take-le w ds (omega arith)

    others : length (drop w ds) ≡ w * length ks
    others = length-drop w ds ∙ omega arith

-- the parts of a sheet

pub record Read (F : Format) (b v n ks ds : Bytes) : Type 0 where
  pub variables_read : variables F b ≡ number v
  pub nodes_read : nodes F b ≡ number n
  pub kinds_read : kind_bytes F b ≡ ks
  pub arguments_read : argument_bytes F b ≡ ds

pub read_parts : (F : Format) (v n ks ds : Bytes) → length v ≡ F.width → length n ≡ F.width → length ks ≡ number v + number n
    → Read F (v ++ n ++ ks ++ ds) v n ks ds
unfolding variables nodes kind_bytes argument_bytes
read_parts F v n ks ds v-wide n-wide counted =
    record {
      variables_read = variables-is;
      nodes_read = nodes-is;
      kinds_read =
          rw (variables-is, nodes-is, append_assoc (v ++ n) ks ds, drop_at (v ++ n) (ks ++ ds) (header F) sizes-wide)
          (take_at ks ds (number v + number n) counted);
      arguments_read =
          rw (variables-is, nodes-is)
          (drop_at (v ++ n ++ ks) ds (header F + (number v + number n)) (length-append (v ++ n) ks ∙ ap₂ ◌+◌ sizes-wide counted));
    }
  where
    sizes-wide : length (v ++ n) ≡ header F
    sizes-wide = length-append v n ∙ omega arith

    variables-is : variables F (v ++ n ++ ks ++ ds) ≡ number v
    variables-is = simp append_assoc (ap number (take_at v (n ++ (ks ++ ds)) F.width v-wide))

    nodes-is : nodes F (v ++ n ++ ks ++ ds) ≡ number n
    nodes-is =
        simp append_assoc
        (rw (drop_at v (n ++ (ks ++ ds)) F.width v-wide) (ap number (take_at n (ks ++ ds) F.width n-wide)))

-- every list of bytes is its four parts
pub parts : (F : Format) (b : Bytes)
    → take F.width b ++ take F.width (drop F.width b) ++ kind_bytes F b ++ argument_bytes F b ≡ b
unfolding kind_bytes argument_bytes
parts F b =
    let w = F.width in
    let m = variables F b + nodes F b in
    rw (two-mul, ← take-add w w b, ← take-add (w + w) m b) (take-append-drop (w + w + m) b)

-- a row takes its kind byte and its argument
pub sheet_length-rows : (F : Format) (v n : ℕ) → sheet_length F v n ≡ header F + (v + n + F.width * (v + n))
unfolding sheet_length
sheet_length-rows F v n = ap (λ m. header F + m) (add-mul 1 F.width (v + n) ∙ ap (λ m. m + F.width * (v + n)) (one-mul (v + n)))

-- the parts' lengths in a sheet of the right length
module _ (F : Format) (b : Bytes) (right : length b ≡ sheet_length F (variables F b) (nodes F b)) where
  length-rows : length b ≡ header F + (variables F b + nodes F b + F.width * (variables F b + nodes F b))
  length-rows = right ∙ sheet_length-rows F (variables F b) (nodes F b)

  pub variables-wide : length (take F.width b) ≡ F.width
  variables-wide = length-take-le F.width b (omega (arith, length-rows))

  pub nodes-wide : length (take F.width (drop F.width b)) ≡ F.width
  nodes-wide = length-take-le F.width (drop F.width b) (omega (arith, length-rows, length-drop F.width b))

  pub length-kind_bytes : length (kind_bytes F b) ≡ variables F b + nodes F b
  unfolding kind_bytes
  length-kind_bytes =
      length-take-le (variables F b + nodes F b) (drop (header F) b) (omega (arith, length-rows, length-drop (header F) b))

  pub length-argument_bytes : length (argument_bytes F b) ≡ F.width * length (kind_bytes F b)
  unfolding argument_bytes
  length-argument_bytes =
      rw length-kind_bytes (omega (arith, length-rows, length-drop (header F + (variables F b + nodes F b)) b))
