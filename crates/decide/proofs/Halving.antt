-- A sheet at the front of bytes stays what it is whatever is behind it, and its halves are written.
-- Assumes nothing.
use mathlib.Core.Path.{◌≡◌, refl, sym, ap, ◌∙◌, subst}
use mathlib.Core.Bool.{Bool}
use mathlib.Core.List.{List, [], ◌∷◌, ◌++◌}
use Prim.Native.Nat.{ℕ, ◌+◌, ◌-◌, ◌≤◌, ◌<◌}
use native.Mathlib.Nat.{mul-le-mul_left}
use native.Mathlib.Omega.{arith}
use lib.ListN.{length, take, drop, take-append-drop, length-drop}
use lib.Seq.{drop-cons, take-append-le, take-take, take_at, length-take-le}
use Rattle.formula.specs.Tree.{Prefix, Tree, Formula, replace, assign}
use Rattle.formula.specs.Force.{given_by}
use Rattle.formula.specs.Decide.{half}
use Rattle.sheet.specs.Format.{Bytes, Format, row}
use Rattle.sheet.specs.Sheet.{binding, formula_rows}
use Rattle.sheet.specs.Limits.{Within}
use Rattle.sheet.proofs.Limits.{numbered_at}
use Rattle.sheet.proofs.RoundTrip.{length-formula_rows}
use Rattle.sheet.proofs.Force.{within-given}
use Rattle.rows.specs.Layouts.{format_in, width, total, size, rows_in, Room}
use Rattle.rows.specs.Formulas.{prefix_in, matrix_in, formula_in}
use Rattle.rows.specs.declared.Layout.{Layout}
use Rattle.rows.proofs.Layouts.{length-rows_in, rows_in-++}
use Rattle.rows.proofs.Formulas.{prefix_length, formula_written, written_is_formula}
use Rattle.rows.proofs.Limits.{limits}
use Rattle.prefixes.specs.Places.{binding_at, binding_in}
use Rattle.substitution.specs.Changes.{changed, putting_in}
use Rattle.substitution.proofs.Tables.{changed-putting_in}
use Rattle.raw.specs.Formulas.{without_row, settled_raw, raw_layout, Raw}
use Rattle.tidying.proofs.Raw.{few_rows, raw_rows}
use Rattle.decide.specs.Inner.Waiting.{Waiting, Halved}

-- a sheet takes some bytes
pub some_bytes : (t : Layout) → 1 ≤ size t
some_bytes t = omega (arith, (limits t.format).some_bytes)

-- rows by their bytes

front_rows : (t : Layout) (b : Bytes) → size t ≤ length b → rows_in t b ≡ rows_in t (take (size t) b)
front_rows t b l =
    ap (rows_in t) (sym (take-append-drop (size t) b)) ∙
    rows_in-++ (take (size t) b) (record { holds = omega (arith, length-take-le (size t) b l) }) (drop (size t) b)

-- what is in front of a part that was lent stays
pub front_kept : (n k : ℕ) (d x : Bytes) → n ≤ k → k ≤ length d → take n (take k d ++ x) ≡ take n d
front_kept n k d x h l = take-append-le n (take k d) x (omega (arith, length-take-le k d l)) ∙ take-take n k d h

-- bytes copied to the front
pub copied-front : {n m : ℕ} (b stack : Bytes) → n ≡ m → n ≤ length b → {new : Bytes} → new ≡ take n b ++ drop (length (take n b)) stack
    → take m new ≡ take m b
copied-front {n} {m} b stack e l is =
    ap (take m) is ∙ take_at (take n b) (drop (length (take n b)) stack) m (length-take-le n b l ∙ e) ∙ ap (λ (k : ℕ). take k b) e

-- other bytes with the same front
module _ {most : ℕ} {t : Layout} {b : Bytes} (c : Bytes) (w : Waiting most t b) (l : size t ≤ length c) (e : take (size t) c ≡ take (size t) b) where
  rows_are : rows_in t c ≡ formula_rows (formula_in t b)
  rows_are =
      front_rows t c l ∙ ap (rows_in t) e ∙ sym (front_rows t b w.readable.room.holds) ∙ sym w.readable.is_formula

  count : length (formula_in t b).prefix ≡ t.variables
  unfolding formula_in
  count = prefix_length b w.readable.room

  pub waiting_formula : formula_in t c ≡ formula_in t b
  waiting_formula = formula_written t c (formula_in t b) rows_are count

  pub waiting_kept : Waiting most t c
  waiting_kept =
      record {
        readable =
            record {
              room = record { holds = l };
              few_variables = w.readable.few_variables;
              some_nodes = w.readable.some_nodes;
              few_nodes = w.readable.few_nodes;
              is_formula = written_is_formula t c (formula_in t b) rows_are count;
            };
        within = subst (Within (format_in t)) (sym waiting_formula) w.within;
        has_room = w.has_room;
        some_row = w.some_row;
      }

-- a shorter buffer
pub waiting_most : {most more : ℕ} {t : Layout} {b : Bytes} → most ≤ more → Waiting most t b → Waiting more t b
waiting_most l w =
    record { readable = w.readable; within = w.within; has_room = omega (arith, w.has_room); some_row = w.some_row }

-- halves

module _ {most : ℕ} {t : Layout} {b : Bytes} (w : Waiting most t b) where
  abbrev F : Format
  F = format_in t

  abbrev p : Prefix
  p = prefix_in t b

  abbrev x : ℕ
  x = (binding_in t b 0).variable

  some : 0 < length p
  some = omega (arith, prefix_length b w.readable.room, w.some_row)

  -- the variable of the first row has an entry in a table
  pub small : x ≤ 1024
  unfolding binding_at formula_in
  small =
      omega (
        arith,
        numbered_at F p 0 (binding (row 0 0)) w.within.is_numbered some,
        (limits t.format).few_variables,
      )

  first_row : p ≡ binding_at p 0 ∷ drop 1 p
  unfolding binding_at
  first_row = drop-cons p 0 (binding (row 0 0)) some

  half_is : (v : Bool) → half v (formula_in t b) ≡ record { prefix = drop 1 p; matrix = assign x v (matrix_in t b) }
  unfolding formula_in given_by
  half_is v = ap (λ (q : Prefix). given_by (v ∷ []) q (matrix_in t b)) first_row

  half-raw : (v : Bool) {n : ℕ} → x < n → {table : List ℕ} → table ≡ putting_in n x v → settled_raw 0 table (formula_in t b) ≡ half v (formula_in t b)
  unfolding settled_raw without_row formula_in assign
  half-raw v {n} h e =
      ap (λ (u : Tree). record { prefix = drop 1 p; matrix = u })
      (ap (λ (u : List ℕ). replace (changed u) (matrix_in t b)) e ∙
      ap (λ (h : Bool → ℕ → Tree). replace h (matrix_in t b)) (changed-putting_in n x h small v)) ∙
      sym (half_is v)

  rows-count : t.variables ≡ length (formula_in t b).prefix
  unfolding formula_in
  rows-count = sym (prefix_length b w.readable.room)

  few_variables : t.variables ≤ F.most_variables
  few_variables = omega (arith, rows-count, w.within.few_variables)

  few_nodes : t.nodes ≤ F.most_nodes
  few_nodes =
      let counted = sym (length-formula_rows (formula_in t b)) ∙ ap length w.readable.is_formula ∙ length-rows_in b w.readable.room in
      omega (arith, counted, rows-count, w.within.few_nodes)

  abbrev u : Layout
  u = raw_layout t t.nodes

  pub shorter : size u ≤ size t
  shorter = omega (arith, mul-le-mul_left {m = total u} {n = total t} (1 + width t) (omega arith))

  pub half_room : {n : ℕ} → most ≤ n → Room u n
  half_room l = record { holds = omega (arith, shorter, w.has_room) }

  module _ (v : Bool) {n : ℕ} (h : x < n) {table : List ℕ} (filled : table ≡ putting_in n x v) {old new : Bytes} (same : length new ≡ length old)
      (long : most ≤ length old) (r : Raw u old new (settled_raw 0 table (formula_in t b))) where
    abbrev g : Formula
    g = half v (formula_in t b)

    half-rows : rows_in u new ≡ formula_rows g
    half-rows = r.all_rows ∙ ap formula_rows (half-raw v h filled)

    half_count : length g.prefix ≡ t.variables - 1
    half_count = ap (λ (f : Formula). length f.prefix) (half_is v) ∙ length-drop 1 p ∙ ap (λ (n : ℕ). n - 1) (prefix_length b w.readable.room)

    written : formula_in u new ≡ g
    written = formula_written u new g half-rows half_count

    pub halved : Halved t b v u new
    halved =
        record {
          raw =
              raw_rows u new g half-rows half_count (half_room (omega (arith, same, long)))
              (few_rows u (omega (arith, few_variables)) few_nodes);
          is_half = written;
          within = subst (Within F) (sym written) (within-given F (v ∷ []) (formula_in t b) w.within);
          shorter = shorter;
          same_format = refl;
        }
