-- The raw sheet of a function: these rows are those of a raw formula, which is the function's formula when it is tidied.
-- Assumes nothing.
use mathlib.Core.Path.{◌≡◌, refl, sym, ap, ap₂, ◌∙◌}
use mathlib.Core.Bool.{Bool, true, false, not, cond, true≢false}
use mathlib.Core.List.{List, [], ◌∷◌, map}
use mathlib.Core.Option.{Option, none, some}
use Prim.Native.Nat.{ℕ, suc, ◌-◌, ◌≤◌}
use native.Mathlib.Omega.{arith}
use lib.Dec.{eqb, leb}
use lib.ListN.{length, take}
use borrow.Author.Tests.{leb-true}
use Rattle.formula.specs.Tree.{Op, and, or, Tree, Prefix, Formula, Literals, of, constant, rows, has, count, quantifier_of, replace, assigned, assign}
use Rattle.formula.specs.Tidy.{tidy, tidied}
use Rattle.formula.specs.Settle.{value, may_take, settling, may_settle}
use Rattle.formula.specs.Strategy as strategy
use Rattle.formula.specs.Inner.Function.{raw_function}
use Rattle.formula.proofs.Booleans.{and_parts}
use Rattle.formula.proofs.Evaluation.{rows-replace}
use Rattle.formula.proofs.Strategy.Function.{tidy-raw_function}
use Rattle.sheet.specs.Format.{Bytes, Format, row, sheet_length, fits}
use Rattle.sheet.specs.Sheet.{operator_kind, binding_row, tree_rows, formula_rows, sheet}
use Rattle.sheet.specs.Operations.{padded}
use Rattle.sheet.specs.Strategy.{response}
use Rattle.sheet.proofs.Preorder.{length-tree_rows}
use Rattle.rows.specs.Layouts.{format_in, Room}
use Rattle.rows.specs.Formulas.{prefix_in, matrix_in, formula_in, layout_for}
use Rattle.rows.specs.declared.Layout.{Layout}
use Rattle.subtrees.specs.Subtrees.{kids, subtree_in}
use Rattle.subtrees.specs.Cuts.{cuts}
use Rattle.subtrees.specs.Parts.{relevant_subtree}
use Rattle.subtrees.specs.declared.relevant.Relevant.{Relevant}
use Rattle.substitution.specs.Changes.{putting, chosen, changed}
use Rattle.substitution.specs.Output.{CopyReady, Laid}
use Rattle.substitution.proofs.Changed.{one_row}
use Rattle.substitution.proofs.Tables.{chosen-putting, changed-putting}
use Rattle.substitution.proofs.Splice.{laid_on}
use Rattle.raw.specs.Formulas.{without_row, raw_layout, Raw}
use Rattle.raw.proofs.Raws.{room_on, raw-laid}
use Rattle.tidying.specs.Limits as tidying
use Rattle.elimination.specs.Steps.{Steppable, Named}
use Rattle.elimination.specs.Survey.{FoundPart}
use Rattle.elimination.specs.declared.survey.Survey.{Survey}
use Rattle.elimination.proofs.RawSheets.{raw-room, prefix_without, written-raw, written-sheet, written-layout}
use Rattle.response.specs.Inner.Function.{constant_kind, SelectionReady, SelectionCuts, ByCopy}
use Rattle.response.specs.declared.function.Selection.{Selection}
use Rattle.response.proofs.Selection.{rows_taken, few_taken}

-- a raw function u of n rows, behind the prefix without the row of x
module _ {s : Layout} {b : Bytes} {x i : ℕ} (st : Steppable s b) (nm : Named s b x i) {o : Option Bool}
    (settles : may_settle x (formula_in s b) ≡ o) (u : Tree) (is : u ≡ raw_function (quantifier_of (prefix_in s b) x) x (matrix_in s b) o)
    {n : ℕ} (counted : rows u ≡ n) (len : ℕ) (fit : fits (format_in s) len (s.variables - 1) n ≡ true) where
  abbrev F : Format
  F = format_in s

  abbrev written : Formula
  written = record { prefix = without_row i (prefix_in s b); matrix = u }

  tidied_is : tidied written ≡ response x (formula_in s b)
  unfolding tidied response formula_in strategy.function_of
  tidied_is =
      let q = quantifier_of (prefix_in s b) x in
      ap₂ (λ (p : Prefix) (w : Tree). record { prefix = p; matrix = w }) (prefix_without st nm)
      (ap tidy is ∙ tidy-raw_function q x (matrix_in s b) o ∙ ap (strategy.function_by q x (matrix_in s b)) (sym settles))

  sizes : (n ≤ F.most_nodes) × (sheet_length F (s.variables - 1) n ≤ len)
  unfolding fits
  sizes =
      let both = and_parts (leb n F.most_nodes) (leb (sheet_length F (s.variables - 1) n) len) fit in
      (leb-true n F.most_nodes both.0, leb-true (sheet_length F (s.variables - 1) n) len both.1)

  pub room : Room (raw_layout s n) len
  room = raw-room st n sizes.1

  pub prefix_ready : (out : Bytes) → length out ≡ len → CopyReady s b (raw_layout s n) out
  prefix_ready out long = record { source = st.readable.room; room = room_on room long; same_format = refl }

  -- the prefix and the function are written
  module _ {old mid new : Bytes} (long : length old ≡ len) (same : length new ≡ length old) {at last : ℕ} (at-is : at ≡ s.variables - 1)
      (front : Laid (raw_layout s n) old mid 0 at (map binding_row (without_row i (prefix_in s b))))
      (back : Laid (raw_layout s n) mid new at last (tree_rows u)) where
    laid : Raw (raw_layout s n) old new written
    unfolding formula_rows
    laid =
        raw-laid (omega (arith, back.next_row, at-is, length-tree_rows u, counted)) (laid_on front back) (room_on room (same ∙ long)) refl

    in-old : sheet_length F (s.variables - 1) n ≤ length old
    in-old = omega (arith, sizes.1, long)

    pub raw-written : tidying.Raw (raw_layout s n) new
    raw-written = written-raw st nm written (prefix_without st nm) sizes.0 same in-old laid

    pub sheet-written : {out : Bytes} → out ≡ padded (length new) (sheet F (tidied (formula_in (raw_layout s n) new)))
        → out ≡ padded (length old) (sheet F (response x (formula_in s b)))
    sheet-written h =
        written-sheet st nm written (prefix_without st nm) sizes.0 same in-old laid h ∙
        ap (λ (f : Formula). padded (length old) (sheet F f)) tidied_is

    pub layout-written : {t : Layout} → t ≡ layout_for s.format (tidied (formula_in (raw_layout s n) new))
        → t ≡ layout_for s.format (response x (formula_in s b))
    layout-written h =
        written-layout st nm written (prefix_without st nm) sizes.0 same in-old laid h ∙ ap (layout_for s.format) tidied_is

-- a constant

pub raw-constant : (q : Op) (x : ℕ) (t : Tree) (c : Bool) → constant c ≡ raw_function q x t (some c)
unfolding raw_function
raw-constant q x t c = refl

pub constant-rows : (c : Bool) {k : ℕ} → k ≡ constant_kind c → row k 0 ∷ [] ≡ tree_rows (constant c)
unfolding tree_rows count
constant-rows true e = ap (λ k. row k 0 ∷ []) e
constant-rows false e = ap (λ k. row k 0 ∷ []) e

-- a variable that may not be settled has a literal
pub unsettled_occurs : (x : ℕ) (f : Formula) → may_settle x f ≡ none → has (of x) f.matrix ≡ true
unfolding may_settle settling
unsettled_occurs x f h = by (has (of x) f.matrix) h
  where
    by : (m : Bool)
        → cond (not m) (some false)
        (cond (may_take true x f.matrix) (some (value (quantifier_of f.prefix x) true))
        (cond (may_take false x f.matrix) (some (value (quantifier_of f.prefix x) false)) none)) ≡
        none
        → m ≡ true
    by true k = refl
    by false k = let z : ◌≡◌ {A = Bool} true false = cc in absurd (true≢false z)

-- what is copied
module _ {s : Layout} {b : Bytes} {x : ℕ} {table : List ℕ} {w : Survey} {len : ℕ} (k : ByCopy s b x table w len) where
  found : FoundPart (of x) s b table w
  unfolding formula_in
  found = k.prepared.found (k.prepared.occurs_is ∙ unsettled_occurs x (formula_in s b) k.unsettled)

  pub copy_few : w.to.relevant.rows ≤ 8192
  copy_few = omega (arith, few_taken k.from.readable (of x), ap (λ (p : Relevant). p.rows) found.part_is)

-- by the table that puts the value of a positive literal in
module _ {s : Layout} {b : Bytes} {x : ℕ} {table : List ℕ} {w : Survey} {len : ℕ} (k : ByCopy s b x table w len) {t : List ℕ}
    (is : t ≡ putting x (eqb w.to.joint 6)) where
  abbrev m : Tree
  m = matrix_in s b

  abbrev q : Op
  q = quantifier_of (prefix_in s b) x

  abbrev part : Selection
  part = record { relevant = w.to.relevant; end = w.to.end; layout = raw_layout s w.to.relevant.rows }

  chosen_is : of x ≡ chosen t
  chosen_is = sym (ap chosen is ∙ chosen-putting x k.named.few (eqb w.to.joint 6))

  pub selection_ready : (out : Bytes) → Room (raw_layout s w.to.relevant.rows) (length out) → SelectionReady s b t part out
  selection_ready out room =
      record {
        readable = k.from.readable;
        part_is = (found k).part_is ∙ ap (λ (L : Literals). relevant_subtree L 0 m) chosen_is;
        end_is = (found k).end_is;
        same_format = refl;
        nodes_are = refl;
        room = room;
      }

  pub selection_cuts : w.to.relevant.all ≡ false → SelectionCuts s b t part (take w.cuts table)
  selection_cuts h =
      let at = w.to.relevant.operator in
      (found k).cuts_are h ∙ ap (λ (L : Literals). cuts L (suc at) (kids (subtree_in s b at))) chosen_is

  abbrev pub new : Tree
  new = replace (changed t) (strategy.relevant_subtree (chosen t) m)

  value_is : (o : Op) → eqb (operator_kind o) 6 ≡ value o true
  unfolding value
  value_is and = refl
  value_is or = refl

  pub raw_copy : new ≡ raw_function q x m none
  unfolding raw_function assign
  raw_copy =
      ap₂ (λ (f : Bool → ℕ → Tree) (L : Literals). replace f (strategy.relevant_subtree L m))
      (ap changed is ∙ changed-putting x k.named.few (eqb w.to.joint 6)) (sym chosen_is) ∙
      ap (λ (c : Bool). replace (assigned x c) (strategy.relevant_subtree (of x) m)) (ap (λ j. eqb j 6) k.prepared.joint_is ∙ value_is q)

  pub copy_counted : rows new ≡ w.to.relevant.rows
  copy_counted =
      rows-replace (changed t) (one_row t) (strategy.relevant_subtree (chosen t) m) ∙ sym (rows_taken (chosen t) 0 m) ∙
      ap (λ (p : Relevant). p.rows) (ap (λ (L : Literals). relevant_subtree L 0 m) (sym chosen_is) ∙ sym (found k).part_is)
