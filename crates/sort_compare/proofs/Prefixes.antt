-- Prefixes compared row by row where they lie.
-- Assumes nothing.
use mathlib.Core.Path.{◌≡◌, refl, sym, ap, ap₂, ◌∙◌}
use mathlib.Core.Bool.{true, false}
use mathlib.Core.List.{[]}
use Prim.Native.Nat.{ℕ, suc, ◌≤◌, ◌<◌}
use native.Mathlib.Omega.{arith}
use lib.ListN.{length, get_or, take, drop, drop_of_length-le}
use lib.Seq.{drop-cons, length-take-le, get_or-take}
use Rattle.formula.specs.Tree.{and, or, exists, Quantifier, Binding, Prefix}
use Rattle.formula.specs.Order.{Ordering, before, same, after, ◌then◌, compare_numbers, quantifier_rank, compare_bindings, compare_bound, compare_prefixes, compare_trees, sort, compare_formulas}
use Rattle.formula.proofs.Ordering.{numbers_same, numbers-equal}
use Rattle.sheet.specs.Format.{Bytes, Row, row}
use Rattle.sheet.specs.Sheet.{quantifier_kind, binding, binding_row}
use Rattle.rows.specs.Layouts.{rows_in}
use Rattle.rows.specs.Formulas.{prefix_in, matrix_in, formula_in, Readable}
use Rattle.rows.specs.declared.Layout.{Layout}
use Rattle.rows.proofs.Layouts.{length-rows_in}
use Rattle.rows.proofs.Formulas.{quantifiers, length_prefix}
use Rattle.std.specs.declared.cmp.Ordering as std
use Rattle.std.specs.Ordering.{nat_cmp, ordering_then, is_ne}
use Rattle.tree_order.specs.Rows.{ordering}
use Rattle.tree_order.proofs.Rows.{map_at, numbers_compared, then_compared, differs, no-difference}

abbrev nothing : Binding
nothing = record { quantifier = exists; variable = 0 }

rank_kind : (q : Quantifier) → quantifier_kind q ≡ quantifier_rank q
rank_kind and = refl
rank_kind or = refl

kind-of-row : (z : Binding) → (binding_row z).kind ≡ quantifier_rank z.quantifier
unfolding binding_row
kind-of-row z = rank_kind z.quantifier

variable_of : (r : Row) → (binding r).variable ≡ r.argument
unfolding binding
variable_of r = refl

module _ {s : Layout} {b : Bytes} (ok : Readable s b) {r : ℕ} (h : r < s.variables) where
  rows_enough : r < length (take s.variables (rows_in s b))
  rows_enough = omega (arith, length-take-le s.variables (rows_in s b) (omega (arith, length-rows_in b ok.room)))

  -- the binding of row r
  pub bound_at : get_or (prefix_in s b) r nothing ≡ binding (get_or (rows_in s b) r (row 0 0))
  unfolding prefix_in
  bound_at =
      map_at binding (take s.variables (rows_in s b)) r (row 0 0) nothing rows_enough ∙
      ap binding (get_or-take s.variables (rows_in s b) r (row 0 0) h)

  -- its kind is its quantifier's
  pub kind-at_row : (get_or (rows_in s b) r (row 0 0)).kind ≡ quantifier_rank (binding (get_or (rows_in s b) r (row 0 0))).quantifier
  kind-at_row =
      ap (λ (q : Row). q.kind)
      (sym (get_or-take s.variables (rows_in s b) r (row 0 0) h) ∙ ap (λ l. get_or l r (row 0 0)) (sym (quantifiers b ok)) ∙
      map_at binding_row (prefix_in s b) r nothing (row 0 0) (omega (arith, length_prefix b ok)) ∙ ap binding_row bound_at) ∙
      kind-of-row (binding (get_or (rows_in s b) r (row 0 0)))

pub binding_compared : {s t : Layout} {a b : Bytes} → Readable s a → Readable t b → {r : ℕ} → r < s.variables → r < t.variables
    → {k l m n : ℕ} {x y w : std.Ordering} → k ≡ (get_or (rows_in s a) r (row 0 0)).kind → l ≡ (get_or (rows_in t b) r (row 0 0)).kind
    → m ≡ (get_or (rows_in s a) r (row 0 0)).argument → n ≡ (get_or (rows_in t b) r (row 0 0)).argument
    → x ≡ nat_cmp k l → y ≡ nat_cmp m n → w ≡ ordering_then x y
    → ordering w ≡ compare_bindings (binding (get_or (rows_in s a) r (row 0 0))) (binding (get_or (rows_in t b) r (row 0 0)))
unfolding compare_bindings
binding_compared f g {r} h i {x = x} {y = y} k l m n ex ey w =
    ap ordering w ∙ then_compared x y ∙
    ap₂ ◌then◌ (ap ordering ex ∙ numbers_compared _ _ ∙ ap₂ compare_numbers (k ∙ kind-at_row f h) (l ∙ kind-at_row g i))
    (ap ordering ey ∙ numbers_compared _ _ ∙ ap₂ compare_numbers (m ∙ sym (variable_of _)) (n ∙ sym (variable_of _)))

-- the rows compared up to r
pub record Passed (p q : Prefix) (r : ℕ) : Type 0 where
  pub same_rows : compare_bound p q ≡ compare_bound (drop r p) (drop r q)

none_left : compare_bound [] [] ≡ same
unfolding compare_bound
none_left = refl

module _ {s t : Layout} {a b : Bytes} (f : Readable s a) (g : Readable t b) (e : s.variables ≡ t.variables) {r : ℕ}
    (passed : Passed (prefix_in s a) (prefix_in t b) r) where
  pub passed_out : s.variables ≤ r → same ≡ compare_bound (prefix_in s a) (prefix_in t b)
  passed_out h =
      sym
      (passed.same_rows ∙
      ap₂ compare_bound (drop_of_length-le (prefix_in s a) {i = r} (omega (arith, length_prefix a f)))
      (drop_of_length-le (prefix_in t b) {i = r} (omega (arith, length_prefix b g))) ∙
      none_left)

  module _ (h : r < s.variables) where
    step : compare_bound (prefix_in s a) (prefix_in t b) ≡
        (compare_bindings (binding (get_or (rows_in s a) r (row 0 0))) (binding (get_or (rows_in t b) r (row 0 0))) then
        compare_bound (drop (suc r) (prefix_in s a)) (drop (suc r) (prefix_in t b)))
    unfolding compare_bound
    step =
        passed.same_rows ∙
        ap₂ compare_bound (drop-cons (prefix_in s a) r nothing (omega (arith, length_prefix a f)))
        (drop-cons (prefix_in t b) r nothing (omega (arith, length_prefix b g))) ∙
        ap₂ (λ y z. compare_bindings y z then compare_bound (drop (suc r) (prefix_in s a)) (drop (suc r) (prefix_in t b))) (bound_at f h)
        (bound_at g (omega arith))

    pub passed_differ : (o : std.Ordering)
        → ordering o ≡ compare_bindings (binding (get_or (rows_in s a) r (row 0 0))) (binding (get_or (rows_in t b) r (row 0 0)))
        → is_ne o ≡ true → ordering o ≡ compare_bound (prefix_in s a) (prefix_in t b)
    passed_differ o is d =
        differs o _ d ∙ ap (λ (x : Ordering). x then compare_bound (drop (suc r) (prefix_in s a)) (drop (suc r) (prefix_in t b))) is ∙ sym step

    pub passed_on : (o : std.Ordering) {i : ℕ} → i ≡ suc r
        → ordering o ≡ compare_bindings (binding (get_or (rows_in s a) r (row 0 0))) (binding (get_or (rows_in t b) r (row 0 0)))
        → is_ne o ≡ false → Passed (prefix_in s a) (prefix_in t b) i
    passed_on o {i} n is d =
        record {
          same_rows =
              step ∙
              ap (λ (x : Ordering). x then compare_bound (drop (suc r) (prefix_in s a)) (drop (suc r) (prefix_in t b))) (sym is ∙ no-difference o d) ∙
              ap (λ j. compare_bound (drop j (prefix_in s a)) (drop j (prefix_in t b))) (sym n);
        }

-- whole prefixes, and whole sheets

module _ {s t : Layout} {a b : Bytes} (f : Readable s a) (g : Readable t b) where
  numbers_are : compare_numbers s.variables t.variables ≡ compare_numbers (length (prefix_in s a)) (length (prefix_in t b))
  numbers_are = ap₂ compare_numbers (sym (length_prefix a f)) (sym (length_prefix b g))

  pub by_number : {o : std.Ordering} → (s.variables ≡ t.variables → ⊥) → o ≡ nat_cmp s.variables t.variables
      → ordering o ≡ compare_prefixes (prefix_in s a) (prefix_in t b)
  unfolding compare_prefixes
  by_number {o} d e =
      ap ordering e ∙ numbers_compared s.variables t.variables ∙
      decided (compare_numbers s.variables t.variables) _ (λ q. d (numbers-equal s.variables t.variables q)) ∙
      ap (λ (x : Ordering). x then compare_bound (prefix_in s a) (prefix_in t b)) numbers_are
    where
      decided : (x y : Ordering) → (x ≡ same → ⊥) → x ≡ (x then y)
      decided before y q = refl
      decided same y q = absurd (q refl)
      decided after y q = refl

  pub by_rows : {o : Ordering} → s.variables ≡ t.variables → o ≡ compare_bound (prefix_in s a) (prefix_in t b)
      → o ≡ compare_prefixes (prefix_in s a) (prefix_in t b)
  unfolding compare_prefixes
  by_rows {o} e is =
      is ∙
      ap (λ (x : Ordering). x then compare_bound (prefix_in s a) (prefix_in t b))
      (sym (sym numbers_are ∙ ap (λ n. compare_numbers n t.variables) e ∙ numbers_same t.variables))

pub prefixes_decide : (s t : Layout) (a b : Bytes) (o : std.Ordering) → ordering o ≡ compare_prefixes (prefix_in s a) (prefix_in t b)
    → is_ne o ≡ true → ordering o ≡ compare_formulas (formula_in s a) (formula_in t b)
unfolding compare_formulas formula_in
prefixes_decide s t a b o e d = differs o _ d ∙ ap (λ (x : Ordering). x then compare_trees (sort (matrix_in s a)) (sort (matrix_in t b))) e

pub trees-decide : (s t : Layout) (a b : Bytes) (o : std.Ordering) {x : Ordering} → ordering o ≡ compare_prefixes (prefix_in s a) (prefix_in t b)
    → is_ne o ≡ false → x ≡ compare_trees (sort (matrix_in s a)) (sort (matrix_in t b))
    → x ≡ compare_formulas (formula_in s a) (formula_in t b)
unfolding compare_formulas formula_in
trees-decide s t a b o e d is =
    is ∙ ap (λ (x : Ordering). x then compare_trees (sort (matrix_in s a)) (sort (matrix_in t b))) (sym (sym e ∙ no-difference o d))
