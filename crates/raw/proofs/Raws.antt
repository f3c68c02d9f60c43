-- The rows of raw formulas.
-- Assumes nothing.
use mathlib.Core.Path.{◌≡◌, refl, sym, ap, ◌∙◌}
use mathlib.Core.Bool.{Bool, true, false, cond}
use mathlib.Core.List.{List, ◌++◌, map}
use Prim.Native.Nat.{ℕ, ◌+◌}
use native.Mathlib.Omega.{arith}
use lib.ListN.{length, take}
use Rattle.formula.specs.Tree.{Tree, Formula, rows, has}
use Rattle.formula.specs.Expand.{expand_tree, raw_tree, growth, raw_rows}
use Rattle.formula.proofs.Expand.{rows-expand}
use Rattle.sheet.specs.Format.{Bytes, Row}
use Rattle.sheet.specs.Sheet.{binding_row, formula_rows}
use Rattle.rows.specs.Layouts.{total, rows_in, Room}
use Rattle.rows.specs.Formulas.{prefix_in, matrix_in, formula_in, Readable}
use Rattle.rows.specs.declared.Layout.{Layout}
use Rattle.rows.proofs.Formulas.{rows-nodes}
use Rattle.substitution.specs.Changes.{copied}
use Rattle.substitution.specs.Output.{Laid}
use Rattle.substitution.proofs.Changed.{one_row}
use Rattle.substitution.proofs.Splice.{laid-all}
use Rattle.raw.specs.Formulas.{without_row, settled_raw, first_table, second_table, chosen_by, copying_by, Raw}
use Rattle.raw.proofs.Source.{matrix_copied}

-- after a write there is as much room
pub room_on : {t : Layout} {m n : ℕ} → Room t m → n ≡ m → Room t n
room_on r e = record { holds = omega (arith, e, r.holds) }

-- the row behind, by another name
pub laid_to : {t : Layout} {old new : Bytes} {at next last : ℕ} {rs : List Row} → next ≡ last → Laid t old new at next rs
    → Laid t old new at last rs
laid_to {t} {new = new} e l =
    record {
      next_row = sym e ∙ l.next_row;
      so_far = ap (λ n. take n (rows_in t new)) (sym e) ∙ l.so_far;
      around = l.around;
    }

-- all rows are written, and they are those of a formula
pub raw-laid : {t : Layout} {old new : Bytes} {last : ℕ} {rs : List Row} {g : Formula} → last ≡ total t → Laid t old new 0 last rs
    → Room t (length new) → rs ≡ formula_rows g → Raw t old new g
raw-laid e l room same = record { all_rows = laid-all room e l ∙ same; around = l.around }

pub settled-rows : (s : Layout) (b : Bytes) → Readable s b → (t : List ℕ) (i : ℕ)
    → map binding_row (without_row i (prefix_in s b)) ++ copied t s.variables (total s) (rows_in s b) ≡
    formula_rows (settled_raw i t (formula_in s b))
unfolding formula_rows settled_raw formula_in
settled-rows s b ok t i = ap (λ l. map binding_row (without_row i (prefix_in s b)) ++ l) (matrix_copied s b ok t)

-- as many rows as are counted
pub rows-raw : (tables : List ℕ) (k : ℕ) (u : Tree) → rows (raw_tree (copying_by tables k) u) ≡ raw_rows (chosen_by tables) u
unfolding raw_tree raw_rows
rows-raw tables k u = by (has (chosen_by tables) u) refl
  where
    by : (m : Bool) → has (chosen_by tables) u ≡ m
        → rows (cond m (expand_tree (copying_by tables k) u) u) ≡ cond m (rows u + growth (chosen_by tables) u) (rows u)
    by true e = rows-expand (copying_by tables k) (one_row (first_table tables)) (one_row (second_table tables)) u e
    by false e = refl

-- with no literal chosen as many as before
pub rows_absent : (s : Layout) (b : Bytes) → Readable s b → (tables : List ℕ) → has (chosen_by tables) (matrix_in s b) ≡ false
    → raw_rows (chosen_by tables) (matrix_in s b) ≡ s.nodes
unfolding raw_rows
rows_absent s b ok tables absent = rw absent (rows-nodes b ok)
