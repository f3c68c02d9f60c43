-- Comparing trees is comparing their rows in preorder from left to right, in lock step.
-- Assumes nothing.
use mathlib.Core.Path.{◌≡◌, refl, sym, ap, ap₂, ◌∙◌}
use mathlib.Core.Bool.{Bool, true, false}
use mathlib.Core.List.{List, [], ◌∷◌, ◌++◌, append-nil, append_assoc, map}
use Prim.Native.Nat.{ℕ, zero, suc, ◌+◌, ◌≤◌, ◌<◌, min}
use native.Mathlib.Omega.{arith}
use lib.ListN.{length, get_or, drop, drop_of_length-le, length-map}
use lib.Seq.{drop-cons}
use lib.Dec.{leb}
use Rattle.std.proofs.lemmas.Bool.Decides.{nat_tests}
use borrow.Author.Tests.{le-leb, lt-leb, leb-true, leb-false}
use Rattle.formula.specs.Tree.{Op, and, or, Tree, lit, node, Forest, ∅, ◌▸◌, count}
use Rattle.formula.specs.Order.{Ordering, before, same, after, ◌then◌, compare_numbers, sign_rank, operator_rank, not_after, compare_trees, compare_children}
use Rattle.formula.proofs.Booleans.{by_cases}
use Rattle.formula.proofs.Ordering.{then_where, then_assoc, numbers-equal}
use Rattle.sheet.specs.Format.{Bytes, Row, row}
use Rattle.sheet.specs.Sheet.{literal_kind, operator_kind, tree_rows, forest_rows}
use Rattle.rows.specs.Layouts.{rows_in}
use Rattle.rows.specs.declared.Layout.{Layout}
use Rattle.rows.proofs.Formulas.{node_row}
use Rattle.std.specs.declared.cmp.Ordering as std
use Rattle.std.specs.Ordering.{nat_cmp, ordering_then, is_ne, is_le}
use Rattle.tree_order.specs.Rows.{ordering, class, compare_row, compare_rows}
use Rattle.tree_order.specs.Tables.{row_in, picked_rows}

-- lists by place

pub map_at : {A B : Type 0} (f : A → B) (l : List A) (j : ℕ) (d : A) (e : B) → j < length l → get_or (map f l) j e ≡ f (get_or l j d)
map_at f [] j d e h = absurd (omega arith)
map_at f (x ∷ xs) zero d e h = refl
map_at f (x ∷ xs) (suc j) d e h = map_at f xs j d e (omega arith)

pub length-picked_rows : (s : Layout) (b : Bytes) (at : List ℕ) → length (picked_rows s b at) ≡ length at
unfolding picked_rows
length-picked_rows s b at = length-map at (row_in s b)

pub picked-row : (s : Layout) (b : Bytes) (at : List ℕ) (j : ℕ) → j < length at → get_or (picked_rows s b at) j (row 0 0) ≡ row_in s b (get_or at j 0)
unfolding picked_rows
picked-row s b at j h = map_at (row_in s b) at j 0 (row 0 0) h

-- class

pub class-literal : (k : ℕ) → k ≤ 4 → class k ≡ 0
unfolding class
class-literal k h = rw (le-leb k 4 h)

pub class_operator : (k : ℕ) → 4 < k → class k ≡ k
unfolding class
class_operator k h = rw (lt-leb k 4 h)

-- what the code's comparisons answer, in the words of the definitions

pub numbers_compared : (a b : ℕ) → ordering (nat_cmp a b) ≡ compare_numbers a b
unfolding compare_numbers
numbers_compared a b = grind (arith, nat_tests)

pub then_compared : (x y : std.Ordering) → ordering (ordering_then x y) ≡ (ordering x then ordering y)
then_compared std.TheVariants.Less y = refl
then_compared std.TheVariants.Equal y = refl
then_compared std.TheVariants.Greater y = refl

-- a difference decides, and where there is none the rest does
pub differs : (x : std.Ordering) (y : Ordering) → is_ne x ≡ true → ordering x ≡ (ordering x then y)
differs std.TheVariants.Less y e = refl
differs std.TheVariants.Equal y e = cc
differs std.TheVariants.Greater y e = refl

pub no-difference : (x : std.Ordering) → is_ne x ≡ false → ordering x ≡ same
no-difference std.TheVariants.Less e = cc
no-difference std.TheVariants.Equal e = refl
no-difference std.TheVariants.Greater e = cc

pub not-after : (x : std.Ordering) → is_le x ≡ not_after (ordering x)
not-after std.TheVariants.Less = refl
not-after std.TheVariants.Equal = refl
not-after std.TheVariants.Greater = refl

-- lock step

module _ (xs ys : List Row) (j : ℕ) where
  pub lock_step : j < length xs → j < length ys
      → compare_rows (drop j xs) (drop j ys) ≡
      (compare_row (get_or xs j (row 0 0)) (get_or ys j (row 0 0)) then compare_rows (drop (suc j) xs) (drop (suc j) ys))
  unfolding compare_rows
  lock_step h k = rw (drop-cons xs j (row 0 0) h, drop-cons ys j (row 0 0) k)

none_left : (ys : List Row) → compare_rows [] ys ≡ same
unfolding compare_rows
none_left ys = refl

none_right : (xs : List Row) → compare_rows xs [] ≡ same
unfolding compare_rows
none_right [] = refl
none_right (x ∷ xs) = refl

pub lock_out : (xs ys : List Row) (n j : ℕ) → n ≡ min (length xs) (length ys) → n ≤ j → compare_rows (drop j xs) (drop j ys) ≡ same
lock_out xs ys n j e h =
    by_cases (leb (length xs) j)
    (λ p. ap (λ l. compare_rows l (drop j ys)) (drop_of_length-le xs {i = j} (leb-true (length xs) j p)) ∙ none_left (drop j ys))
    (λ p. ap (compare_rows (drop j xs)) (drop_of_length-le ys {i = j} (omega (arith, leb-false (length xs) j p, e, h))) ∙ none_right (drop j xs))

-- two tables, compared up to place j
pub record Locked (s : Layout) (b : Bytes) (at : List ℕ) (t : Layout) (d : Bytes) (to : List ℕ) (j : ℕ) : Type 0 where
  pub same_rows : compare_rows (picked_rows s b at) (picked_rows t d to) ≡
      compare_rows (drop j (picked_rows s b at)) (drop j (picked_rows t d to))

module _ (s : Layout) (b : Bytes) (at : List ℕ) (t : Layout) (d : Bytes) (to : List ℕ) (j : ℕ) where
  locked_rows : j < length at → j < length to
      → compare_rows (drop j (picked_rows s b at)) (drop j (picked_rows t d to)) ≡
      (compare_row (row_in s b (get_or at j 0)) (row_in t d (get_or to j 0)) then
      compare_rows (drop (suc j) (picked_rows s b at)) (drop (suc j) (picked_rows t d to)))
  locked_rows h k =
      lock_step (picked_rows s b at) (picked_rows t d to) j (rw (length-picked_rows s b at) h) (rw (length-picked_rows t d to) k) ∙
      ap₂ (λ p q. compare_row p q then compare_rows (drop (suc j) (picked_rows s b at)) (drop (suc j) (picked_rows t d to)))
      (picked-row s b at j h) (picked-row t d to j k)

  -- a difference decides
  pub locked_differ : (o : std.Ordering) → j < length at → j < length to → Locked s b at t d to j
      → ordering o ≡ compare_row (row_in s b (get_or at j 0)) (row_in t d (get_or to j 0)) → is_ne o ≡ true
      → ordering o ≡ compare_rows (picked_rows s b at) (picked_rows t d to)
  locked_differ o h k l e f =
      differs o _ f ∙ ap (λ (x : Ordering). x then compare_rows (drop (suc j) (picked_rows s b at)) (drop (suc j) (picked_rows t d to))) e ∙
      sym (locked_rows h k) ∙ sym l.same_rows

  pub locked_on : (o : std.Ordering) {i : ℕ} → i ≡ suc j → j < length at → j < length to → Locked s b at t d to j
      → ordering o ≡ compare_row (row_in s b (get_or at j 0)) (row_in t d (get_or to j 0)) → is_ne o ≡ false → Locked s b at t d to i
  locked_on o {i} n h k l e f =
      record {
        same_rows =
            l.same_rows ∙ locked_rows h k ∙
            ap (λ (x : Ordering). x then compare_rows (drop (suc j) (picked_rows s b at)) (drop (suc j) (picked_rows t d to))) (sym e ∙ no-difference o f) ∙
            ap (λ m. compare_rows (drop m (picked_rows s b at)) (drop m (picked_rows t d to))) (sym n);
      }

  pub locked_out : {n : ℕ} → n ≡ min (length at) (length to) → n ≤ j → Locked s b at t d to j
      → same ≡ compare_rows (picked_rows s b at) (picked_rows t d to)
  locked_out {n} e h l =
      sym (l.same_rows ∙
      lock_out (picked_rows s b at) (picked_rows t d to) n j (e ∙ ap₂ min (sym (length-picked_rows s b at)) (sym (length-picked_rows t d to))) h)

-- rows of literals and operators

literals : (s s' : Bool) (v v' : ℕ) → compare_row (row (literal_kind s) v) (row (literal_kind s') v') ≡
    (compare_numbers v v' then compare_numbers (sign_rank s) (sign_rank s'))
unfolding compare_row class compare_numbers
literals true true v v' = refl
literals true false v v' = refl
literals false true v v' = refl
literals false false v v' = refl

literal_first : (s : Bool) (o : Op) (v n : ℕ) → compare_row (row (literal_kind s) v) (row (operator_kind o) n) ≡ before
unfolding compare_row class compare_numbers
literal_first true and v n = refl
literal_first true or v n = refl
literal_first false and v n = refl
literal_first false or v n = refl

literal-last : (o : Op) (s : Bool) (n v : ℕ) → compare_row (row (operator_kind o) n) (row (literal_kind s) v) ≡ after
unfolding compare_row class compare_numbers
literal-last and true n v = refl
literal-last and false n v = refl
literal-last or true n v = refl
literal-last or false n v = refl

then_none : (x : Ordering) → (x then same) ≡ x
then_none before = refl
then_none same = refl
then_none after = refl

operators : (o k : Op) (m n : ℕ) → compare_row (row (operator_kind o) m) (row (operator_kind k) n) ≡
    (compare_numbers (operator_rank o) (operator_rank k) then compare_numbers m n)
unfolding compare_row class compare_numbers
operators and and m n = then_none _
operators and or m n = refl
operators or and m n = refl
operators or or m n = then_none _

counted : (t u : Tree) (ts us : Forest) → count (t ▸ ts) ≡ count (u ▸ us) → count ts ≡ count us
unfolding count
counted t u ts us e = omega arith

none_counted : {A : Type 0} (t : Tree) (ts : Forest) → count ∅ ≡ count (t ▸ ts) → A
unfolding count
none_counted t ts e = absurd (omega arith)

-- trees

mutual
  unfolding compare_rows tree_rows compare_trees

  pub rows-trees : (t u : Tree) (ps qs : List Row)
      → compare_rows (tree_rows t ++ ps) (tree_rows u ++ qs) ≡ (compare_trees t u then compare_rows ps qs)
  rows-trees (lit s v) (lit s' v') ps qs = ap (λ (o : Ordering). o then compare_rows ps qs) (literals s s' v v')
  rows-trees (lit s v) (node o us) ps qs =
      ap (λ (x : Ordering). x then compare_rows ps (forest_rows us ++ qs)) (literal_first s o v (count us))
  rows-trees (node o ts) (lit s v) ps qs =
      ap (λ (x : Ordering). x then compare_rows (forest_rows ts ++ ps) qs) (literal-last o s (count ts) v)
  rows-trees (node o ts) (node k us) ps qs =
      let rank = compare_numbers (operator_rank o) (operator_rank k) in
      let number = compare_numbers (count ts) (count us) in
      let children = compare_children ts us in
      ap (λ (x : Ordering). x then compare_rows (forest_rows ts ++ ps) (forest_rows us ++ qs)) (operators o k (count ts) (count us)) ∙
      then_assoc rank number _ ∙
      ap (λ (x : Ordering). rank then x)
      (then_where number _ _ (λ e. rows_forests ts us ps qs (numbers-equal (count ts) (count us) e)) ∙
      sym (then_assoc number children (compare_rows ps qs))) ∙
      sym (then_assoc rank (number then children) (compare_rows ps qs))

  pub rows_forests : (ts us : Forest) (ps qs : List Row) → count ts ≡ count us
      → compare_rows (forest_rows ts ++ ps) (forest_rows us ++ qs) ≡ (compare_children ts us then compare_rows ps qs)
  rows_forests ∅ ∅ ps qs e = refl
  rows_forests ∅ (u ▸ us) ps qs e = none_counted u us e
  rows_forests (t ▸ ts) ∅ ps qs e = none_counted t ts (sym e)
  rows_forests (t ▸ ts) (u ▸ us) ps qs e =
      ap₂ compare_rows (append_assoc (tree_rows t) (forest_rows ts) ps) (append_assoc (tree_rows u) (forest_rows us) qs) ∙
      rows-trees t u (forest_rows ts ++ ps) (forest_rows us ++ qs) ∙
      ap (λ (x : Ordering). compare_trees t u then x) (rows_forests ts us ps qs (counted t u ts us e)) ∙
      sym (then_assoc (compare_trees t u) (compare_children ts us) (compare_rows ps qs))

pub rows-of-trees : (t u : Tree) → compare_rows (tree_rows t) (tree_rows u) ≡ compare_trees t u
unfolding compare_rows
rows-of-trees t u =
    ap₂ compare_rows (sym (append-nil (tree_rows t))) (sym (append-nil (tree_rows u))) ∙ rows-trees t u [] [] ∙ then_none (compare_trees t u)

-- a row by what is read of it

pub kind_in : (s : Layout) (b : Bytes) (i : ℕ) → (get_or (rows_in s b) (s.variables + i) (row 0 0)).kind ≡ (row_in s b i).kind
kind_in s b i = ap (λ (r : Row). r.kind) (node_row s b i)

pub argument_in : (s : Layout) (b : Bytes) (i : ℕ) → (get_or (rows_in s b) (s.variables + i) (row 0 0)).argument ≡ (row_in s b i).argument
argument_in s b i = ap (λ (r : Row). r.argument) (node_row s b i)

pub row_compared : (p q : Row) {k l m n : ℕ} {x y z u w : std.Ordering} → k ≡ p.kind → l ≡ q.kind → m ≡ p.argument → n ≡ q.argument
    → x ≡ nat_cmp (class k) (class l) → y ≡ nat_cmp m n → z ≡ nat_cmp k l → u ≡ ordering_then x y → w ≡ ordering_then u z
    → ordering w ≡ compare_row p q
unfolding compare_row
row_compared p q {x = x} {y = y} {z = z} k l m n ex ey ez u w =
    ap ordering w ∙ then_compared _ z ∙ ap (λ (o : Ordering). o then ordering z) (ap ordering u ∙ then_compared x y) ∙
    then_assoc (ordering x) (ordering y) (ordering z) ∙
    ap₂ ◌then◌ (ap ordering ex ∙ numbers_compared _ _ ∙ ap₂ (λ i j. compare_numbers (class i) (class j)) k l)
    (ap₂ ◌then◌ (ap ordering ey ∙ numbers_compared _ _ ∙ ap₂ compare_numbers m n) (ap ordering ez ∙ numbers_compared _ _ ∙ ap₂ compare_numbers k l))
