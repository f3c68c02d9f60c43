-- The sorted sheet from its rows: the node rows that a table picks are written behind the prefix, and the rows are sealed.
-- Assumes nothing.
use mathlib.Core.Path.{◌≡◌, refl, sym, ap, ap₂, ◌∙◌, subst}
use mathlib.Core.List.{List, ◌++◌, map, append-nil}
use Prim.Native.Nat.{ℕ, ◌+◌, ◌*◌, ◌≤◌, ◌<◌}
use native.Mathlib.Numerals.{add-one}
use native.Mathlib.Omega.{arith}
use lib.ListN.{length, get_or, take, drop, set, replicate, length-map, length-replicate, drop_of_length-le}
use lib.Seq.{length-take-le, take_all, take_at, paste, paste-zero, paste-suc}
use Rattle.formula.specs.Tree.{Formula, rows}
use Rattle.formula.specs.Order.{sort, sorted}
use Rattle.formula.proofs.Sorting.{rows-sort}
use Rattle.sheet.specs.Format.{Bytes, row}
use Rattle.sheet.specs.Sheet.{binding_row, tree_rows, formula_rows, formula, sheet}
use Rattle.sheet.specs.Operations.{padded}
use Rattle.sheet.proofs.Accepted.{accepted_variables, accepted_nodes}
use Rattle.sheet.proofs.Every.{every_at}
use Rattle.rows.specs.Layouts.{format_in, width, Fits, total, rows_in, Room, sealed}
use Rattle.rows.specs.Formulas.{matrix_in, formula_in, Readable}
use Rattle.rows.specs.declared.Layout.{Layout}
use Rattle.rows.proofs.Layouts.{length-rows_in}
use Rattle.rows.proofs.Formulas.{node_row}
use Rattle.checking.specs.Sheets.{Sheet}
use Rattle.checking.proofs.CheckedSheets.{sheet-formula_in}
use Rattle.rows.proofs.Sealing.{all_bytes}
use Rattle.tidying.proofs.Packed as packed
use Rattle.tidying.proofs.Raw.{copied-raw, copied_formula, length-copied}
use Rattle.tree_order.specs.Tables.{picked_rows, Numbers}
use Rattle.tree_order.proofs.Rows.{length-picked_rows, picked-row}
use Rattle.rows.proofs.Sealed.{sealed-length, sealed-sheet}

-- a part of a table of zeros
pub part_length : (m n : ℕ) → n ≤ m → length (take n (replicate {A = ℕ} m 0)) ≡ n
part_length m n h =
    let zero-byte : ℕ = 0 in
    length-take-le n (replicate m zero-byte) (omega (arith, length-replicate m zero-byte))

-- the node rows written so far
pub record Wrote (source : Bytes) (s : Layout) (at : List ℕ) (before out : Bytes) (r : ℕ) : Type 0 where
  pub within : r ≤ length at
  pub same_length : length out ≡ length before
  pub so_far : rows_in s out ≡ paste (rows_in s before) s.variables (picked_rows s source at) r

module _ {source : Bytes} {s : Layout} (at : List ℕ) (ok : Readable s source) (numbers : Numbers s at) (long : length at ≡ s.nodes)
    (before : Bytes) (room : Room s (length before)) where
  pub wrote_none : Wrote source s at before before 0
  wrote_none = record { within = omega arith; same_length = refl; so_far = paste-zero (rows_in s before) s.variables (picked_rows s source at) }

  pub number-within : {r : ℕ} → r < length at → get_or at r 0 < s.nodes
  number-within {r} h = every_at _ at r 0 numbers h

  pub room-kept : {out : Bytes} {r : ℕ} → Wrote source s at before out r → Room s (length out)
  room-kept w = record { holds = omega (arith, room.holds, w.same_length) }

  -- a row's argument fits
  pub argument_fits : ((i : ℕ) → get_or source i 0 < 256) → {r a : ℕ} → r < length at
      → a ≡ (get_or (rows_in s source) (s.variables + get_or at r 0) (row 0 0)).argument → Fits s a
  argument_fits bytes {r} h e =
      subst (Fits s) (sym e)
      (packed.argument_fits source ok.room (all_bytes source bytes) (s.variables + get_or at r 0) (omega (arith, number-within h)))

  pub wrote_row : {out out' : Bytes} {r k a : ℕ} → r < length at → Wrote source s at before out r
      → k ≡ (get_or (rows_in s source) (s.variables + get_or at r 0) (row 0 0)).kind
      → a ≡ (get_or (rows_in s source) (s.variables + get_or at r 0) (row 0 0)).argument
      → rows_in s out' ≡ set (rows_in s out) (s.variables + r) (row k a) → length out' ≡ length out → Wrote source s at before out' (r + 1)
  wrote_row {out} {out'} {r} {k} {a} h w ek ea is e =
      record {
        within = omega arith;
        same_length = e ∙ w.same_length;
        so_far =
            is ∙
            ap₂ (λ rs q. set rs (s.variables + r) q) w.so_far
            (ap₂ row ek ea ∙ node_row s source (get_or at r 0) ∙ sym (picked-row s source at r h)) ∙
            paste-suc (rows_in s before) s.variables (picked_rows s source at) r (row 0 0)
            (omega (arith, length-rows_in before room, long)) (omega (arith, length-picked_rows s source at)) ∙
            ap (paste (rows_in s before) s.variables (picked_rows s source at)) (sym (add-one r));
      }

  pub wrote_all : {out : Bytes} {r : ℕ} → length at ≤ r → Wrote source s at before out r
      → rows_in s out ≡ take s.variables (rows_in s before) ++ picked_rows s source at
  wrote_all {out} {r} h w =
      let P = picked_rows s source at in
      let last : r ≡ length at = omega (arith, w.within) in
      w.so_far ∙ ap (paste (rows_in s before) s.variables P) last ∙
      ap₂ (λ p q. take s.variables (rows_in s before) ++ p ++ q) (take_all (length at) P (omega (arith, length-picked_rows s source at)))
      (drop_of_length-le (rows_in s before) {i = s.variables + length at} (omega (arith, length-rows_in before room, long))) ∙
      append-nil (take s.variables (rows_in s before) ++ P)

-- a sheet that Check accepts, copied, with its sorted tree's rows behind the prefix
module _ {b : Bytes} {s : Layout} (sh : Sheet s.format b s) (out : Bytes) (l : length b ≤ length out)
    {copied : Bytes} (is : copied ≡ b ++ drop (length b) out) where
  -- its formula
  abbrev f : Formula
  f = formula (format_in s) b

  pub copied-room : Room s (length copied)
  copied-room = (copied-raw sh out l is).room

  prefix_count : length f.prefix ≡ s.variables
  prefix_count = accepted_variables (format_in s) b sh.tests_pass ∙ ap (λ (t : Layout). t.variables) (sym sh.layout_is)

  node-count : rows (sort f.matrix) ≡ s.nodes
  node-count =
      rows-sort f.matrix ∙ accepted_nodes (format_in s) b sh.tests_pass ∙ ap (λ (t : Layout). t.nodes) (sym sh.layout_is)

  rows-copied : rows_in s copied ≡ formula_rows f
  rows-copied = sym (copied-raw sh out l is).is_formula ∙ ap formula_rows (copied_formula sh out l is)

  matrix_read : matrix_in s b ≡ f.matrix
  unfolding formula_in
  matrix_read = ap (λ (g : Formula). g.matrix) (sheet-formula_in sh)

  module _ (new : Bytes) (written : rows_in s new ≡ take s.variables (rows_in s copied) ++ tree_rows (sort (matrix_in s b)))
      (same : length new ≡ length copied) where
    sorted-rows : rows_in s new ≡ formula_rows (sorted f)
    unfolding formula_rows sorted
    sorted-rows =
        written ∙
        ap₂ ◌++◌
        (ap (take s.variables) rows-copied ∙
        take_at (map binding_row f.prefix) (tree_rows f.matrix) s.variables (length-map f.prefix binding_row ∙ prefix_count))
        (ap (λ t. tree_rows (sort t)) matrix_read)

    pub new-room : Room s (length new)
    new-room = record { holds = omega (arith, copied-room.holds, same) }

    pub sorted-sealed : {end : ℕ} {last : Bytes} → last ≡ sealed s (total s) new → end ≡ 2 * width s + total s + width s * total s
        → (last ≡ padded (length out) (sheet (format_in s) (sorted f))) × (end ≡ length (sheet (format_in s) (sorted f)))
    unfolding sorted
    sorted-sealed e end_is = (
      e ∙ sealed-sheet s new (sorted f) new-room sorted-rows prefix_count node-count ∙
          ap (λ n. padded n (sheet (format_in s) (sorted f))) (same ∙ length-copied sh out l is),
      end_is ∙ sealed-length s new (sorted f) new-room sorted-rows prefix_count node-count,
    )
