-- The raw sheet by the tables of the two copies: its prefix and its matrix are those of the raw formula.
-- Assumes nothing.
use mathlib.Core.Path.{◌≡◌, refl, sym, ◌∙◌, ap, ap₂, fun_ext}
use mathlib.Core.Bool.{Bool, true, false, not, ◌&&◌, ◌||◌, cond, beq, true≢false}
use mathlib.Core.List.{List, [], ◌∷◌, ◌++◌, map}
use Prim.Native.Nat.{ℕ, ◌≤◌}
use native.Mathlib.Omega.{arith}
use lib.Dec.{eqb, leb}
use lib.ListN.{length, take, drop, length-append}
use lib.Seq.{take_at, drop_at, get_or-set_same}
use borrow.Author.Tests.{eqb-true, ne_eqb, le-leb}
use Rattle.formula.specs.Tree.{and, Tree, lit, Prefix, Formula, Literals, binds, distinct, constant}
use Rattle.formula.specs.Solve.{those}
use Rattle.formula.specs.Outer.{depends, dependents, copies_of, too_few, renamed, chosen_by, renaming, outer_copying, existential}
use Rattle.formula.proofs.Booleans.{by_cases}
use Rattle.formula.proofs.Outer.Fresh.{renamed_other, renamed-new}
use Rattle.formula.proofs.Outer.Step.{copies-new, copies-numbered, copies_many}
use Rattle.sheet.specs.Sheet.{binding_row}
use Rattle.substitution.specs.Changes.{entry, numbers, putting, chosen, became, changed}
use Rattle.substitution.proofs.Tables.{length-numbers, length-putting, chosen-putting, changed-putting}
use Rattle.raw.specs.Formulas.{first_table, second_table, copying_by}
use Rattle.renaming.specs.Numbers.{renumbered}
use Rattle.renaming.specs.Prefixes.{is_renamed, row_of, rows_from}
use Rattle.renaming.proofs.Depending.{those_same, depends-bound, depends_other, dependents_whole, dependents-distinct, dependents_are, length-renumbered, entry-renumbered, renamed-all}

-- rows of the copies, by the variables that a table renames
rows-those : (t : List ℕ) (p : Prefix) → rows_from t p ≡ map binding_row (map existential (map (entry t) (those (is_renamed t) p)))
unfolding rows_from row_of those
rows-those t [] = refl
rows-those t (z ∷ p) = by (is_renamed t z.variable) (rows-those t p)
  where
    by : (m : Bool) → rows_from t p ≡ map binding_row (map existential (map (entry t) (those (is_renamed t) p)))
        → cond m (binding_row (existential (entry t z.variable)) ∷ []) [] ++ rows_from t p ≡
        map binding_row (map existential (map (entry t) (cond m (z.variable ∷ those (is_renamed t) p) (those (is_renamed t) p))))
    by true e = ap (λ rs. binding_row (existential (entry t z.variable)) ∷ rs) e
    by false e = e

constant_true : (s : Bool) → constant (beq s true) ≡ constant s
constant_true true = refl
constant_true false = refl

-- a value put in is no new number
put_entry : (x : ℕ) → x ≤ 1024 → (v : ℕ) → is_renamed (putting x true) v ≡ false
unfolding chosen
put_entry x h v = by (eqb v x) refl
  where
    by : (c : Bool) → eqb v x ≡ c → is_renamed (putting x true) v ≡ false
    by true e =
        ap (λ n. not (eqb n v) && leb n 1024)
        (ap (entry (putting x true)) (eqb-true v x e) ∙ get_or-set_same (numbers 1025) x 1026 x (omega (arith, length-numbers 1025))) ∙
        never (not (eqb 1026 v))
      where
        never : (b : Bool) → (b && false) ≡ false
        never true = refl
        never false = refl
    by false e = ap (λ (c : Bool). c && leb (entry (putting x true) v) 1024) (ap (λ (L : Literals). L true v) (chosen-putting x h true) ∙ e)

-- enough numbers are left, none past the tables, and the prefix has no number twice
pub record Numbers (highest x : ℕ) (f : Formula) : Type 0 where
  pub few : highest ≤ 1024
  pub small : x ≤ 1024
  pub bound_small : (v : ℕ) → binds f.prefix v ≡ true → v ≤ 1024
  pub is_distinct : distinct f.prefix ≡ true
  pub enough : too_few highest x f ≡ false

module _ {highest x : ℕ} {f : Formula} (k : Numbers highest x f) where
  abbrev p : Prefix
  p = f.prefix

  abbrev D : ℕ → Bool
  D = depends x f

  abbrev ys : List ℕ
  ys = dependents x f

  abbrev ns : List ℕ
  ns = copies_of highest x f

  -- the second table
  abbrev second : List ℕ
  second = renumbered ys ns (putting x true)

  counted : length ns ≡ length ys
  counted = copies_many highest x f k.enough

  entry_is : (v : ℕ) → entry second v ≡ cond (D v) (renamed ys ns v) (entry (putting x true) v)
  entry_is v =
      entry-renumbered ys ns (putting x true) (dependents-distinct x f k.is_distinct) (omega (arith, counted))
      (λ w h. omega (
        arith,
        length-putting x true,
        k.bound_small w (depends-bound x f k.is_distinct w (sym (dependents_are x f k.is_distinct w) ∙ h)),
      )) v ∙
      ap (λ (c : Bool). cond c (renamed ys ns v) (entry (putting x true) v)) (dependents_are x f k.is_distinct v)

  -- a new number is none of the prefix, and the tables have it
  new-number : (v : ℕ) → D v ≡ true → (renamed ys ns v ≡ v → ⊥) × (renamed ys ns v ≤ 1024)
  new-number v h =
      let new = renamed-new ys ns v (omega (arith, counted)) (dependents_are x f k.is_distinct v ∙ h) in (
        λ e. true≢false (sym (depends-bound x f k.is_distinct v h) ∙ ap (binds p) (sym e) ∙ copies-new highest x f (renamed ys ns v) new),
        omega (arith, k.few, (copies-numbered highest x f (renamed ys ns v) new).1),
      )

  same_number : (v : ℕ) → D v ≡ false → renamed ys ns v ≡ v
  same_number v h = renamed_other ys ns v (dependents_are x f k.is_distinct v ∙ h)

  entry-member : (v : ℕ) → D v ≡ true → entry second v ≡ renamed ys ns v
  entry-member v h = entry_is v ∙ ap (λ (c : Bool). cond c (renamed ys ns v) (entry (putting x true) v)) h

  entry_other : (v : ℕ) → D v ≡ false → entry second v ≡ entry (putting x true) v
  entry_other v h = entry_is v ∙ ap (λ (c : Bool). cond c (renamed ys ns v) (entry (putting x true) v)) h

  chosen_at : (s : Bool) (v : ℕ) → chosen second s v ≡ chosen_by x D s v
  unfolding chosen
  chosen_at s v = by (D v) refl
    where
      by : (m : Bool) → D v ≡ m → not (eqb (entry second v) v) ≡ (eqb v x || m)
      by true e =
          ap (λ n. not (eqb n v)) (entry-member v e) ∙ ap not (ne_eqb (renamed ys ns v) v (new-number v e).0) ∙
          sym (ap (λ (c : Bool). c || true) (depends_other x f k.is_distinct v e))
      by false e =
          ap (λ n. not (eqb n v)) (entry_other v e) ∙ ap (λ (L : Literals). L s v) (chosen-putting x k.small true) ∙ none (eqb v x)
        where
          none : (c : Bool) → c ≡ (c || false)
          none true = refl
          none false = refl

  changed_at : (s : Bool) (v : ℕ) → changed second s v ≡ renaming x ys ns s v
  unfolding changed chosen became
  changed_at s v =
      by_cases (D v)
      (λ e. ap made (entry-member v e) ∙
      ap₂ (λ (c d : Bool). cond (not c) (cond d (lit s (renamed ys ns v)) (constant (beq s (eqb (renamed ys ns v) 1026)))) (lit s v))
      (ne_eqb (renamed ys ns v) v (new-number v e).0) (le-leb (renamed ys ns v) 1024 (new-number v e).1) ∙
      sym (ap (λ (c : Bool). cond c (constant s) (lit s (renamed ys ns v))) (depends_other x f k.is_distinct v e)))
      (λ e. ap made (entry_other v e) ∙ ap (λ (g : Bool → ℕ → Tree). g s v) (changed-putting x k.small true) ∙
      ap₂ (λ (t : Tree) (n : ℕ). cond (eqb v x) t (lit s n)) (constant_true s) (sym (same_number v e)))
    where
      made : ℕ → Tree
      made e = cond (not (eqb e v)) (cond (leb e 1024) (lit s e) (constant (beq s (eqb e 1026)))) (lit s v)

  renamed_at : (v : ℕ) → is_renamed second v ≡ D v
  renamed_at v = by (D v) refl
    where
      by : (m : Bool) → D v ≡ m → (not (eqb (entry second v) v) && leb (entry second v) 1024) ≡ m
      by true e =
          ap (λ n. not (eqb n v) && leb n 1024) (entry-member v e) ∙
          ap₂ (λ (c d : Bool). not c && d) (ne_eqb (renamed ys ns v) v (new-number v e).0) (le-leb (renamed ys ns v) 1024 (new-number v e).1)
      by false e = ap (λ n. not (eqb n v) && leb n 1024) (entry_other v e) ∙ put_entry x k.small v

  -- the rows that close the prefix
  pub rows-copied : rows_from second p ≡ map binding_row (map existential ns)
  rows-copied =
      rows-those second p ∙
      ap (λ zs. map binding_row (map existential (map (entry second) zs)))
      (those_same (is_renamed second) D renamed_at p ∙ sym (dependents_whole x f k.is_distinct)) ∙
      ap (λ zs. map binding_row (map existential zs))
      (renamed-all (entry second) ys ns (dependents-distinct x f k.is_distinct) counted
      (λ v h. entry-member v (sym (dependents_are x f k.is_distinct v) ∙ h)))

  -- both tables
  module _ {tables : List ℕ} (filled : tables ≡ putting x false ++ second) where
    first_is : first_table tables ≡ putting x false
    first_is = ap (take 1025) filled ∙ take_at (putting x false) second 1025 (length-putting x false)

    pub second_is : second_table tables ≡ second
    second_is = ap (drop 1025) filled ∙ drop_at (putting x false) second 1025 (length-putting x false)

    pub two_tables : length tables ≡ 2050
    two_tables =
        omega (
          arith,
          ap length filled,
          length-append (putting x false) second,
          length-putting x false,
          length-renumbered ys ns (putting x true),
          length-putting x true,
        )

    pub chosen_is : chosen (second_table tables) ≡ chosen_by x D
    chosen_is = ap chosen second_is ∙ fun_ext λ s. fun_ext λ v. chosen_at s v

    pub copying_is : copying_by tables 5 ≡ outer_copying highest x f
    unfolding outer_copying
    copying_is =
        ap (λ (L : Literals). record {
          chosen = L;
          joint = and;
          first = changed (first_table tables);
          second = changed (second_table tables);
        }) chosen_is ∙
        ap₂ (λ (l r : Bool → ℕ → Tree). record { chosen = chosen_by x D; joint = and; first = l; second = r })
        (ap changed first_is ∙ changed-putting x k.small false) (ap changed second_is ∙ fun_ext λ s. fun_ext λ v. changed_at s v)
