-- The rows of a part of the children, written one after the other.
-- Assumes nothing.
use mathlib.Core.Path.{◌≡◌, refl, sym, ap, ap₂, ◌∙◌, subst}
use mathlib.Core.List.{List, [], ◌∷◌, ◌++◌, append_assoc, map}
use Prim.Native.Nat.{ℕ, ◌+◌, ◌-◌, ◌≤◌}
use native.Mathlib.Nat.{mul-le-mul_left}
use native.Mathlib.Omega.{arith}
use lib.ListN.{length, length-append}
use lib.Seq.{slice, length-slice}
use Rattle.formula.specs.Guards.{conjoined}
use Rattle.sheet.specs.Format.{Bytes, Row, row}
use Rattle.sheet.specs.Sheet.{binding_row, formula_rows}
use Rattle.sheet.proofs.Preorder.{length-forest_rows}
use Rattle.rows.specs.Layouts.{width, total, size, rows_in, Room}
use Rattle.rows.specs.Formulas.{prefix_in, node_rows_in}
use Rattle.rows.specs.declared.Layout.{Layout}
use Rattle.rows.proofs.Formulas.{quantifiers, length-nodes}
use Rattle.substitution.specs.Output.{CopyReady, Laid}
use Rattle.substitution.proofs.Splice.{laid_on, laid-all}
use Rattle.raw.proofs.Source.{nodes_part}
use Rattle.guards.specs.declared.selection.Selection.{Selection}
use Rattle.guards.specs.Inner.Selections.{children_rows, Placed, part_rows, guards_in, selection_layout, Chosen}
use Rattle.guards.proofs.Children.{placed_to}

module _ {s : Layout} {b : Bytes} {ends ks : List ℕ} {p : Selection} (h : Chosen s b ends ks p) where
  abbrev t : Layout
  t = selection_layout s p

  -- as many rows as are counted
  pub part_long : length (part_rows s b ends ks p.rest) ≡ p.rows
  part_long = ap length (sym h.are) ∙ length-forest_rows (guards_in s b ends ks p.rest) ∙ sym h.long

  rest_long : length (slice p.rest s.nodes (node_rows_in s b)) ≡ s.nodes - p.rest
  rest_long = length-slice p.rest s.nodes (node_rows_in s b) (omega (arith, length-nodes b h.readable))

  pub both_long : length (children_rows s b ends ks) + (s.nodes - p.rest) ≡ p.rows
  both_long =
      omega (arith, part_long, length-append (children_rows s b ends ks) (slice p.rest s.nodes (node_rows_in s b)), rest_long)

  -- no more bytes than the sheet's
  pub part_size : size t ≤ size s
  part_size = omega (arith, mul-le-mul_left {m = total t} {n = total s} (1 + width s) (omega (arith, h.no_more)))

  pub part_room : {n : ℕ} → Room s n → Room t n
  part_room r = record { holds = omega (arith, part_size, r.holds) }

  pub part_ready : (out : Bytes) → Room s (length out) → CopyReady s b t out
  part_ready out r =
      record { source = h.readable.room; room = part_room r; same_format = refl }

  pub all_placed : Placed ends 0 ks s.nodes
  all_placed = placed_to ends 0 ks p.rest s.nodes h.placed h.rest_within

  all_rows : map binding_row (prefix_in s b) ++ (row 5 p.guards ∷ part_rows s b ends ks p.rest) ≡
      formula_rows (conjoined (prefix_in s b) (guards_in s b ends ks p.rest))
  unfolding formula_rows Rattle.sheet.specs.Sheet.tree_rows
  all_rows = ap₂ (λ n l. map binding_row (prefix_in s b) ++ (row 5 n ∷ l)) h.counted (sym h.are)

  -- the prefix's rows, the root's, the children's, and all rows behind these
  pub part_written : {a₀ a₁ a₂ a₃ a₄ : Bytes} {top below next last : ℕ} → Room t (length a₄) → top ≡ s.variables
      → Laid t a₀ a₁ 0 top (slice 0 s.variables (rows_in s b))
      → Laid t a₁ a₂ top below (row 5 p.guards ∷ [])
      → Laid t a₂ a₃ below next (children_rows s b ends ks)
      → Laid t a₃ a₄ next last (slice (s.variables + p.rest) (s.variables + s.nodes) (rows_in s b))
      → rows_in t a₄ ≡ formula_rows (conjoined (prefix_in s b) (guards_in s b ends ks p.rest))
  part_written {a₃ = a₃} {a₄ = a₄} {next = next} {last = last} room e f g k l =
      laid-all room ends_there (laid_on (laid_on (laid_on f g) k) others-laid) ∙ gather ∙ all_rows
    where
      prefix_rows : List Row
      prefix_rows = slice 0 s.variables (rows_in s b)

      others : List Row
      others = slice p.rest s.nodes (node_rows_in s b)

      others-laid : Laid t a₃ a₄ next last others
      others-laid = subst (Laid t a₃ a₄ next last) (nodes_part s b h.readable p.rest s.nodes) l

      ends_there : last ≡ total t
      ends_there = omega (arith, others-laid.next_row, k.next_row, g.next_row, e, rest_long, both_long)

      gather : prefix_rows ++ (row 5 p.guards ∷ []) ++ children_rows s b ends ks ++ others ≡
          map binding_row (prefix_in s b) ++ (row 5 p.guards ∷ part_rows s b ends ks p.rest)
      gather =
          append_assoc (prefix_rows ++ (row 5 p.guards ∷ [])) (children_rows s b ends ks) others ∙
          append_assoc prefix_rows (row 5 p.guards ∷ []) (part_rows s b ends ks p.rest) ∙
          ap (λ l. l ++ (row 5 p.guards ∷ part_rows s b ends ks p.rest)) (sym (quantifiers b h.readable))
