-- The rows of a tree in which literals are changed by a table.
-- Assumes nothing.
use mathlib.Core.Path.{◌≡◌, refl, sym, ap, ap₂, ◌∙◌}
use mathlib.Core.Bool.{Bool, true, false, not, ◌&&◌, cond, beq}
use mathlib.Core.List.{List, [], ◌∷◌, ◌++◌, map}
use Prim.Native.Nat.{ℕ, suc, ◌≤◌, ◌<◌}
use native.Mathlib.Omega.{arith}
use lib.Dec.{eqb, leb}
use lib.ListN.{length, get_or}
use borrow.Author.Tests.{le-leb, lt-leb, leb-true, not-true, not-false, eq-eqb, ne_eqb}
use Rattle.formula.specs.Tree.{Op, and, or, Tree, lit, node, Forest, ∅, ◌▸◌, rows, has, has_any, constant, replace, replace_all, count}
use Rattle.formula.proofs.Booleans.{and_parts, or_parts}
use Rattle.sheet.specs.Format.{Row, row}
use Rattle.sheet.specs.Sheet.{literal_kind, operator_kind, tree_rows, forest_rows}
use Rattle.sheet.proofs.Preorder.{NodeKind, literal, operator, node-kind, length-tree_rows}
use Rattle.substitution.specs.Changes.{entry, chosen, became, changed, chosen_row, changed_row}

-- map

pub map-append : {A B : Type 0} (f : A → B) (xs ys : List A) → map f (xs ++ ys) ≡ map f xs ++ map f ys
map-append f [] ys = refl
map-append f (x ∷ xs) ys = ap (λ l. f x ∷ l) (map-append f xs ys)

-- rows

-- its argument is its own entry; its kind is a quantifier's; neither
pub chosen_own : (t : List ℕ) (r : Row) {a e : ℕ} → a ≡ r.argument → e ≡ entry t a → e ≡ a → false ≡ chosen_row t r
unfolding chosen_row chosen
chosen_own t r {a} h f g =
    sym
    (ap (λ c. leb 3 r.kind && leb r.kind 4 && not c)
    (ap (λ n. eqb (entry t n) n) (sym h) ∙ eq-eqb (entry t a) a (sym f ∙ g)) ∙
    none (leb 3 r.kind && leb r.kind 4))
  where
    none : (c : Bool) → c && false ≡ false
    none true = refl
    none false = refl

pub chosen_low : (t : List ℕ) (r : Row) {k : ℕ} → k ≡ r.kind → k < 3 → false ≡ chosen_row t r
unfolding chosen_row
chosen_low t r e h = rw (lt-leb 3 r.kind (omega arith))

pub chosen_other : (t : List ℕ) (r : Row) {k a e : ℕ} → k ≡ r.kind → 3 ≤ k → a ≡ r.argument → e ≡ entry t a → (e ≡ a → ⊥)
    → leb k 4 ≡ chosen_row t r
unfolding chosen_row chosen
chosen_other t r {k} {a} {e} f h g i n =
    rw (le-leb 3 r.kind (omega arith), ← g, ← i, ne_eqb e a n, f) (one (leb r.kind 4))
  where
    one : (c : Bool) → c ≡ true && c && true
    one true = refl
    one false = refl

pub row_kept : (t : List ℕ) (r : Row) → chosen_row t r ≡ false → changed_row t r ≡ r
unfolding changed_row
row_kept t r h = rw h

pub row_stays : (t : List ℕ) (r : Row) {c : Bool} → c ≡ chosen_row t r → not c ≡ true → r ≡ changed_row t r
row_stays t r {c} e h = sym (row_kept t r (sym e ∙ not-true c h))

pub row_changes : (t : List ℕ) (r : Row) {c : Bool} → c ≡ chosen_row t r → not c ≡ false → chosen_row t r ≡ true
row_changes t r {c} e h = sym e ∙ not-false c h

-- a chosen row has a literal's kind
chosen-kind : (t : List ℕ) (r : Row) → chosen_row t r ≡ true → literal_kind (eqb r.kind 3) ≡ r.kind
unfolding chosen_row
chosen-kind t r h =
    let kinds = and_parts (leb 3 r.kind) (leb r.kind 4) (and_parts (leb 3 r.kind && leb r.kind 4) (chosen t true r.argument) h).0 in
    by r.kind (leb-true 3 r.kind kinds.0) (leb-true r.kind 4 kinds.1)
  where
    by : (k : ℕ) → 3 ≤ k → k ≤ 4 → literal_kind (eqb k 3) ≡ k
    by k l h = case k l h (node-kind k l (omega arith))
      where
        case : (k : ℕ) → 3 ≤ k → k ≤ 4 → NodeKind k → literal_kind (eqb k 3) ≡ k
        case k l h (literal true) = refl
        case k l h (literal false) = refl
        case k l h (operator and) = absurd (omega arith)
        case k l h (operator or) = absurd (omega arith)

-- a literal that doesn't stay, by its kind and its entry
pub row-renamed : (t : List ℕ) (r : Row) → chosen_row t r ≡ true → {k e : ℕ} → k ≡ r.kind → e ≡ entry t r.argument → e ≤ 1024
    → row k e ≡ changed_row t r
unfolding changed_row became tree_rows
row-renamed t r h f e l = rw (h, ← e, le-leb _ 1024 l, chosen-kind t r h, f)

pub row_put : (t : List ℕ) (r : Row) → chosen_row t r ≡ true → {k e : ℕ} → k ≡ r.kind → e ≡ entry t r.argument → 1024 < e
    → {m : Bool} → beq (eqb k 3) (eqb e 1026) ≡ m → row (operator_kind (cond m and or)) 0 ≡ changed_row t r
unfolding changed_row became tree_rows count
row_put t r h k e l {m} f = rw (h, ← e, lt-leb _ 1024 l, ← k, f) (by m)
  where
    by : (m : Bool) → row (operator_kind (cond m and or)) 0 ≡ get_or (tree_rows (constant m)) 0 (row 0 0)
    by true = refl
    by false = refl

chosen-of-literal : (t : List ℕ) (s : Bool) (v : ℕ) → chosen_row t (row (literal_kind s) v) ≡ chosen t s v
unfolding chosen_row chosen
chosen-of-literal t true v = refl
chosen-of-literal t false v = refl

chosen-of_operator : (t : List ℕ) (o : Op) (n : ℕ) → chosen_row t (row (operator_kind o) n) ≡ false
unfolding chosen_row
chosen-of_operator t and n = refl
chosen-of_operator t or n = refl

-- an operator's row stays
operator_kept : (t : List ℕ) (o : Op) (n : ℕ) → changed_row t (row (operator_kind o) n) ≡ row (operator_kind o) n
operator_kept t o n = row_kept t (row (operator_kind o) n) (chosen-of_operator t o n)

-- became and changed are one row

rows-became : (s : Bool) (e : ℕ) → tree_rows (became s e) ≡ get_or (tree_rows (became s e)) 0 (row 0 0) ∷ []
unfolding became tree_rows count
rows-became s e = by (leb e 1024) (beq s (eqb e 1026))
  where
    by : (m n : Bool)
        → tree_rows (cond m (lit s e) (constant n)) ≡ get_or (tree_rows (cond m (lit s e) (constant n))) 0 (row 0 0) ∷ []
    by true n = refl
    by false true = refl
    by false false = refl

rows-changed-literal : (t : List ℕ) (s : Bool) (v : ℕ) → tree_rows (changed t s v) ≡ changed_row t (row (literal_kind s) v) ∷ []
unfolding changed changed_row tree_rows
rows-changed-literal t s v =
    rw (chosen-of-literal t s v, same_sign s) (by (chosen t s v) (rows-became s (entry t v)))
  where
    same_sign : (s : Bool) → eqb (literal_kind s) 3 ≡ s
    same_sign true = refl
    same_sign false = refl

    by : (m : Bool) → tree_rows (became s (entry t v)) ≡ get_or (tree_rows (became s (entry t v))) 0 (row 0 0) ∷ []
        → tree_rows (cond m (became s (entry t v)) (lit s v)) ≡
        cond m (get_or (tree_rows (became s (entry t v))) 0 (row 0 0)) (row (literal_kind s) v) ∷ []
    by true e = e
    by false e = refl

pub one_row : (t : List ℕ) (s : Bool) (v : ℕ) → rows (changed t s v) ≡ 1
one_row t s v = sym (length-tree_rows (changed t s v)) ∙ ap length (rows-changed-literal t s v)

-- trees

pub count-replace_all : (f : Bool → ℕ → Tree) (ts : Forest) → count (replace_all f ts) ≡ count ts
unfolding count replace_all
count-replace_all f ∅ = refl
count-replace_all f (t ▸ ts) = ap suc (count-replace_all f ts)

module _ (t : List ℕ) where
  mutual
    unfolding tree_rows replace

    pub rows-changed : (u : Tree) → map (changed_row t) (tree_rows u) ≡ tree_rows (replace (changed t) u)
    rows-changed (lit s v) = sym (rows-changed-literal t s v)
    rows-changed (node o us) =
        ap₂ ◌∷◌ (operator_kept t o (count us) ∙ ap (row (operator_kind o)) (sym (count-replace_all (changed t) us))) (rows-changed-all us)

    pub rows-changed-all : (us : Forest) → map (changed_row t) (forest_rows us) ≡ forest_rows (replace_all (changed t) us)
    rows-changed-all ∅ = refl
    rows-changed-all (u ▸ us) =
        map-append (changed_row t) (tree_rows u) (forest_rows us) ∙ ap₂ ◌++◌ (rows-changed u) (rows-changed-all us)

  -- with no literal chosen, nothing changes
  mutual
    unfolding replace has changed

    replace-kept : (u : Tree) → has (chosen t) u ≡ false → replace (changed t) u ≡ u
    replace-kept (lit s v) h = rw h
    replace-kept (node o us) h = ap (node o) (replace-kept-all us h)

    replace-kept-all : (us : Forest) → has_any (chosen t) us ≡ false → replace_all (changed t) us ≡ us
    replace-kept-all ∅ h = refl
    replace-kept-all (u ▸ us) h =
        let parts = or_parts (has (chosen t) u) (has_any (chosen t) us) h in
        ap₂ ◌▸◌ (replace-kept u parts.0) (replace-kept-all us parts.1)

  pub rows-kept-all : (us : Forest) → has_any (chosen t) us ≡ false → map (changed_row t) (forest_rows us) ≡ forest_rows us
  rows-kept-all us h = rows-changed-all us ∙ ap forest_rows (replace-kept-all us h)
