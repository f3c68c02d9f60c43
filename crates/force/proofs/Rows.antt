-- The rows behind the first k, as those of the formula under values for them.
-- Assumes nothing.
use mathlib.Core.Path.{◌≡◌, sym, ap, ap₂, ◌∙◌}
use mathlib.Core.List.{List, ◌++◌, map}
use Prim.Native.Nat.{ℕ, ◌+◌, ◌≤◌}
use native.Mathlib.Omega.{arith}
use lib.ListN.{length, take, drop}
use lib.Seq.{take-add, take_all, drop_at, drop-append-le, length-take-le}
use Rattle.sheet.specs.Format.{Bytes, Row}
use Rattle.sheet.specs.Sheet.{binding_row, formula_rows}
use Rattle.rows.specs.Layouts.{total, rows_in}
use Rattle.rows.specs.Formulas.{prefix_in, formula_in, Readable}
use Rattle.rows.specs.declared.Layout.{Layout}
use Rattle.rows.proofs.Layouts.{length-rows_in}
use Rattle.rows.proofs.Formulas.{length_prefix}
use Rattle.substitution.specs.Changes.{changed_row, copied}
use Rattle.substitution.proofs.Changed.{map-append}
use Rattle.raw.proofs.Source.{copied_prefix, matrix_copied}
use Rattle.force.specs.Inner.Moves.{behind_raw}

-- rows copied in one pass are those before row v and those from there on
copied_parts : (t : List ℕ) (k v n : ℕ) (R : List Row) → k ≤ v → v ≤ length R
    → copied t k (v + n) R ≡ copied t k v R ++ copied t v (v + n) R
unfolding copied
copied_parts t k v n R h l =
    ap (λ rs. map (changed_row t) (drop k rs)) (take-add v n R) ∙
    ap (map (changed_row t)) (drop-append-le k (take v R) (take n (drop v R)) (omega (arith, length-take-le v R l))) ∙
    map-append (changed_row t) (drop k (take v R)) (take n (drop v R)) ∙
    ap (λ rs. map (changed_row t) (drop k (take v R)) ++ map (changed_row t) rs)
    (sym (ap (drop v) (take-add v n R) ∙ drop_at (take v R) (take n (drop v R)) v (length-take-le v R l)))

module _ (s : Layout) (b : Bytes) (ok : Readable s b) (t : List ℕ) (k : ℕ) (h : k ≤ s.variables) where
  pub behind-rows : copied t k (total s) (rows_in s b) ≡ formula_rows (behind_raw k t (formula_in s b))
  unfolding formula_rows behind_raw formula_in
  behind-rows =
      copied_parts t k s.variables s.nodes (rows_in s b) h (omega (arith, length-rows_in b ok.room)) ∙
      ap₂ ◌++◌
      (copied_prefix s b ok t k s.variables (omega arith) ∙
      ap (λ p. map binding_row (drop k p)) (take_all s.variables (prefix_in s b) (omega (arith, length_prefix b ok))))
      (matrix_copied s b ok t)
