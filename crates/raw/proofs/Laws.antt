-- Laws for callers: the raw formulas of Settle and Expand, and how a raw sheet is read.
-- Assumes nothing.
use mathlib.Core.Path.{◌≡◌, refl, sym, ap, ap₂, ◌∙◌}
use mathlib.Core.Bool.{Bool, true, false}
use mathlib.Core.List.{List, ◌++◌}
use Prim.Native.Nat.{ℕ, suc, ◌-◌, ◌≤◌, ◌<◌}
use native.Mathlib.Omega.{arith}
use lib.ListN.{length, take, drop, length-append, length-drop}
use lib.Seq.{length-take-le, take_at, drop_at}
use Rattle.formula.specs.Tree.{Op, and, or, Tree, Prefix, Formula, Literals, rows, without, quantifier_of, of, assign, replace}
use Rattle.formula.specs.Expand.{Copying, copying, raw_tree, raw}
use Rattle.sheet.specs.Format.{Bytes}
use Rattle.sheet.specs.Sheet.{operator_kind}
use Rattle.rows.specs.Formulas.{prefix_in, matrix_in, formula_in, Readable}
use Rattle.rows.specs.declared.Layout.{Layout}
use Rattle.rows.proofs.Formulas.{length_prefix, formula_written}
use Rattle.substitution.specs.Changes.{putting, chosen, changed}
use Rattle.substitution.proofs.Tables.{length-putting, chosen-putting, changed-putting}
use Rattle.raw.specs.Formulas.{without_row, settled_raw, first_table, second_table, chosen_by, operator_of, copying_by, expanded_raw, Raw}
use Rattle.raw.specs.Expansions.{Expandable}
use Rattle.raw.specs.declared.expand.Expansion.{Expansion}
use Rattle.raw.proofs.Raws.{rows-raw}

-- a raw sheet is read as its formula
pub raw_read : {t : Layout} {old new : Bytes} {g : Formula} → Raw t old new g → length g.prefix ≡ t.variables → formula_in t new ≡ g
raw_read {t} {new = new} {g} r vs = formula_written t new g r.all_rows vs

-- its prefix is one row shorter
pub length-without_row : (i : ℕ) (p : Prefix) → i < length p → length (without_row i p) ≡ length p - 1
unfolding without_row
length-without_row i p h =
    length-append (take i p) (drop (suc i) p) ∙ omega (arith, length-take-le i p (omega arith), length-drop (suc i) p)

one_less : (s : Layout) (b : Bytes) → Readable s b → (i : ℕ) → i < s.variables → length (without_row i (prefix_in s b)) ≡ s.variables - 1
one_less s b ok i h =
    length-without_row i (prefix_in s b) (omega (arith, length_prefix b ok)) ∙ ap (λ n. n - 1) (length_prefix b ok)

pub settled_prefix : (s : Layout) (b : Bytes) → Readable s b → (i : ℕ) → i < s.variables → (t : List ℕ)
    → length (settled_raw i t (formula_in s b)).prefix ≡ s.variables - 1
unfolding settled_raw formula_in
settled_prefix s b ok i h t = one_less s b ok i h

-- the raw formula of an expansion has the sizes of its layout
module _ {s : Layout} {b : Bytes} {tables : List ℕ} {e : Expansion} {out : Bytes} (x : Expandable s b tables e out) where
  pub expanded_prefix : length (expanded_raw e.row (copying_by tables e.joint) (formula_in s b)).prefix ≡ e.layout.variables
  unfolding expanded_raw formula_in
  expanded_prefix = one_less s b x.readable e.row x.in_prefix ∙ sym (ap (λ (t : Layout). t.variables) x.layout_is)

  pub expanded-nodes : rows (expanded_raw e.row (copying_by tables e.joint) (formula_in s b)).matrix ≡ e.layout.nodes
  unfolding expanded_raw formula_in
  expanded-nodes = rows-raw tables e.joint (matrix_in s b) ∙ sym (ap (λ (t : Layout). t.nodes) x.layout_is)

-- x = c put in, where row i is that of x
pub settled-formula : (x : ℕ) → x ≤ 1024 → (c : Bool) (i : ℕ) (f : Formula) → without_row i f.prefix ≡ without x f.prefix
    → settled_raw i (putting x c) f ≡ record { prefix = without x f.prefix; matrix = assign x c f.matrix }
unfolding settled_raw assign
settled-formula x h c i f e =
    ap₂ (λ (p : Prefix) (u : Bool → ℕ → Tree). record { prefix = p; matrix = replace u f.matrix }) e (changed-putting x h c)

operator_back : (o : Op) → operator_of (operator_kind o) ≡ o
operator_back and = refl
operator_back or = refl

-- the tables of Expand
module _ (x : ℕ) (h : x ≤ 1024) (tables : List ℕ) (filled : tables ≡ putting x false ++ putting x true) where
  first : first_table tables ≡ putting x false
  first = ap first_table filled ∙ take_at (putting x false) (putting x true) 1025 (length-putting x false)

  second : second_table tables ≡ putting x true
  second = ap second_table filled ∙ drop_at (putting x false) (putting x true) 1025 (length-putting x false)

  pub chosen_of : chosen_by tables ≡ of x
  chosen_of = ap chosen second ∙ chosen-putting x h true

  copying-of : (q : Op) → copying_by tables (operator_kind q) ≡ copying q x
  copying-of q =
      ap₂ (λ (L : Literals) (o : Op). record { chosen = L; joint = o; first = changed (first_table tables); second = changed (second_table tables) })
      chosen_of (operator_back q) ∙
      ap₂ (λ (f g : Bool → ℕ → Tree). record { chosen = of x; joint = q; first = f; second = g }) (ap changed first ∙ changed-putting x h false)
      (ap changed second ∙ changed-putting x h true)

  -- Expand's raw formula, where row i is that of x and the joint is its quantifier's
  pub expanded-formula : (i : ℕ) (f : Formula) → without_row i f.prefix ≡ without x f.prefix → {k : ℕ}
      → k ≡ operator_kind (quantifier_of f.prefix x) → expanded_raw i (copying_by tables k) f ≡ raw x f
  unfolding expanded_raw raw
  expanded-formula i f e {k} j =
      ap₂ (λ (p : Prefix) (c : Copying). record { prefix = p; matrix = raw_tree c f.matrix }) e
      (ap (copying_by tables) j ∙ copying-of (quantifier_of f.prefix x))
