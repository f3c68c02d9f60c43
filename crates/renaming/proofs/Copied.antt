-- The turns of writing the rows of the copies.
-- Assumes nothing.
use mathlib.Core.Path.{◌≡◌, sym, ◌∙◌, ap, ap₂, subst}
use mathlib.Core.Bool.{Bool, not, ◌&&◌, cond}
use mathlib.Core.List.{List, [], ◌∷◌, ◌++◌, append_assoc, append-nil}
use Prim.Native.Nat.{ℕ, suc, ◌+◌, ◌≤◌, ◌<◌}
use native.Mathlib.Omega.{arith}
use lib.Dec.{leb}
use lib.ListN.{length, drop, length-append}
use borrow.Author.Tests.{eq-eqb, ne_eqb, le-leb, lt-leb}
use Rattle.formula.specs.Tree.{Prefix}
use Rattle.formula.specs.Outer.{existential}
use Rattle.sheet.specs.Format.{Bytes, Row, row}
use Rattle.sheet.specs.Sheet.{binding_row}
use Rattle.rows.specs.Layouts.{total}
use Rattle.rows.specs.Formulas.{prefix_in, Readable}
use Rattle.rows.specs.declared.Layout.{Layout}
use Rattle.prefixes.specs.Places.{binding_in}
use Rattle.prefixes.proofs.Places.{prefix_row, no_rows}
use Rattle.substitution.specs.Changes.{entry}
use Rattle.substitution.specs.Output.{Laid}
use Rattle.substitution.proofs.Splice.{none-laid, laid_on}
use Rattle.renaming.specs.Prefixes.{row_of, rows_from}

module _ (t : List ℕ) (v : ℕ) {n : ℕ} (is : n ≡ entry t v) where
  -- the number stays, or a value is put in
  pub same_row : n ≡ v → row_of t v ≡ []
  unfolding row_of
  same_row e = ap (λ (c : Bool). cond (not c && leb (entry t v) 1024) (binding_row (existential (entry t v)) ∷ []) []) (eq-eqb (entry t v) v (sym is ∙ e))

  pub put-row : (n ≡ v → ⊥) → 1025 ≤ n → row_of t v ≡ []
  unfolding row_of
  put-row o h =
      ap₂ (λ (c d : Bool). cond (not c && d) (binding_row (existential (entry t v)) ∷ []) []) (ne_eqb (entry t v) v (λ e. o (is ∙ e)))
      (lt-leb (entry t v) 1024 (omega arith))

  pub new_row : (n ≡ v → ⊥) → n < 1025 → row_of t v ≡ row 1 n ∷ []
  unfolding row_of binding_row
  new_row o h =
      ap₂ (λ (c d : Bool). cond (not c && d) (binding_row (existential (entry t v)) ∷ []) []) (ne_eqb (entry t v) v (λ e. o (is ∙ e)))
      (le-leb (entry t v) 1024 (omega arith)) ∙
      ap (λ m. row 1 m ∷ []) (sym is)

-- nothing is written
pub laid_none : (t : Layout) (out : Bytes) (at : ℕ) {rs : List Row} → rs ≡ [] → Laid t out out at at rs
laid_none t out at e = subst (Laid t out out at at) (sym e) (none-laid t out at)

-- the rows before row j of the prefix are passed
pub record Copying (table : List ℕ) (p : Prefix) (t : Layout) (old : Bytes) (start : ℕ) (out : Bytes) (at j : ℕ) : Type 0 where
  pub done : List Row
  pub so_far : Laid t old out start at done
  pub owed : done ++ rows_from table (drop j p) ≡ rows_from table p
  pub same_length : length out ≡ length old

module _ {s : Layout} (b : Bytes) (ok : Readable s b) (table : List ℕ) (t : Layout) (old : Bytes) (start : ℕ) where
  abbrev p : Prefix
  p = prefix_in s b

  module _ {out : Bytes} {at j : ℕ} (inside : j < s.variables) (c : Copying table p t old start out at j) {v : ℕ}
      (var : v ≡ (binding_in s b j).variable) where
    split : rows_from table (drop j p) ≡ row_of table v ++ rows_from table (drop (suc j) p)
    unfolding rows_from
    split =
        ap (rows_from table) (prefix_row b ok j inside) ∙ ap (λ x. row_of table x ++ rows_from table (drop (suc j) p)) (sym var)

    pub copying-room : start + length (rows_from table p) ≤ total t → at + length (row_of table v) ≤ total t
    copying-room h =
        omega (
          arith,
          c.so_far.next_row,
          ap length c.owed,
          length-append c.done (rows_from table (drop j p)),
          ap length split,
          length-append (row_of table v) (rows_from table (drop (suc j) p)),
        )

    pub copying-next : {new : Bytes} {next k : ℕ} → k ≡ suc j → Laid t out new at next (row_of table v) → length new ≡ length out
        → Copying table p t old start new next k
    copying-next e l same =
        record {
          done = c.done ++ row_of table v;
          so_far = laid_on c.so_far l;
          owed =
              ap (λ m. (c.done ++ row_of table v) ++ rows_from table (drop m p)) e ∙
              append_assoc c.done (row_of table v) (rows_from table (drop (suc j) p)) ∙
              ap (λ rs. c.done ++ rs) (sym split) ∙ c.owed;
          same_length = same ∙ c.same_length;
        }

  pub copying-all : {out : Bytes} {at j : ℕ} → j ≡ s.variables → Copying table p t old start out at j
      → Laid t old out start at (rows_from table p)
  unfolding rows_from
  copying-all {out} {at} {j} e c =
      subst (Laid t old out start at)
      (sym (append-nil c.done) ∙ sym (ap (λ q. c.done ++ rows_from table q) (no_rows b ok j e)) ∙ c.owed) c.so_far
