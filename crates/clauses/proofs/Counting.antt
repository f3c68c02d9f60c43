-- What one row adds, by the kind of the row.
-- Assumes nothing.
use mathlib.Core.Path.{◌≡◌, refl, sym}
use mathlib.Core.Bool.{Bool, true, false}
use mathlib.Core.List.{List}
use Prim.Native.Nat.{ℕ, ◌+◌, ◌*◌}
use native.Mathlib.Omega.{arith}
use Rattle.formula.specs.Tree.{and, or, Tree, lit, node, rows_all, count}
use Rattle.subtrees.specs.Subtrees.{top, kids}
use Rattle.clauses.specs.Inner.Named.{own_clauses, next_name, first_conjunct}
use Rattle.clauses.proofs.Named.{one_if, rows-or, count-or, rows-and, count-and, rows_lit, count_lit}

-- the first conjunct

pub first_and : (t : Tree) {k : ℕ} → k ≡ (top t).kind → k ≡ 5 → 1 ≡ first_conjunct t
first_and (lit true v) e h = absurd (omega (arith, e, h))
first_and (lit false v) e h = absurd (omega (arith, e, h))
first_and (node and ts) e h = refl
first_and (node or ts) e h = absurd (omega (arith, e, h))

pub first_other : (t : Tree) {k : ℕ} → k ≡ (top t).kind → (k ≡ 5 → ⊥) → 0 ≡ first_conjunct t
first_other (lit s v) e h = refl
first_other (node and ts) e h = absurd (h e)
first_other (node or ts) e h = refl

-- names

pub name-and : (c : Bool) (t : Tree) {k : ℕ} → k ≡ (top t).kind → k ≡ 5 → 1 ≡ next_name 0 c t
name-and c (lit true v) e h = absurd (omega (arith, e, h))
name-and c (lit false v) e h = absurd (omega (arith, e, h))
name-and c (node and ts) e h = refl
name-and c (node or ts) e h = absurd (omega (arith, e, h))

pub name-literal : (c : Bool) (t : Tree) {k : ℕ} → k ≡ (top t).kind → (k ≡ 5 → ⊥) → (k ≡ 6 → ⊥) → 0 ≡ next_name 0 c t
name-literal c (lit s v) e h l = refl
name-literal c (node and ts) e h l = absurd (h e)
name-literal c (node or ts) e h l = absurd (l e)

pub name-conjunct : (t : Tree) {k : ℕ} {c : Bool} → k ≡ (top t).kind → (k ≡ 5 → ⊥) → c ≡ true → 0 ≡ next_name 0 c t
name-conjunct (lit s v) {c = true} e h l = refl
name-conjunct (node and ts) {c = true} e h l = absurd (h e)
name-conjunct (node or ts) {c = true} e h l = refl
name-conjunct t {c = false} e h l = let z : ◌≡◌ {A = ℕ} 0 1 = cc in absurd (omega arith)

pub name-or : (t : Tree) {k : ℕ} {c : Bool} → k ≡ (top t).kind → k ≡ 6 → c ≡ false → 1 ≡ next_name 0 c t
name-or (lit true v) e h l = absurd (omega (arith, e, h))
name-or (lit false v) e h l = absurd (omega (arith, e, h))
name-or (node and ts) e h l = absurd (omega (arith, e, h))
name-or (node or ts) {c = true} e h l = let z : ◌≡◌ {A = ℕ} 0 1 = cc in absurd (omega arith)
name-or (node or ts) {c = false} e h l = refl

pub next_more : (i : ℕ) (c : Bool) (t : Tree) → next_name i c t ≡ i + next_name 0 c t
next_more i c (lit s v) = omega arith
next_more i c (node and ts) = omega arith
next_more i true (node or ts) = omega arith
next_more i false (node or ts) = omega arith

-- clauses and rows

module _ (L : List ℕ) (r : ℕ) where
  pub clauses-or : (c : Bool) (t : Tree) {k : ℕ} → k ≡ (top t).kind → k ≡ 6 → 1 ≡ count (own_clauses L r c t)
  clauses-or c (lit true v) e h = absurd (omega (arith, e, h))
  clauses-or c (lit false v) e h = absurd (omega (arith, e, h))
  clauses-or c (node and ts) e h = absurd (omega (arith, e, h))
  clauses-or c (node or ts) e h = sym (count-or L r c ts)

  clauses_other : (c : Bool) (t : Tree) {k : ℕ} → k ≡ (top t).kind → (k ≡ 6 → ⊥) → count (own_clauses L r c t) ≡ one_if c + count (kids t)
  unfolding count
  clauses_other c (lit s v) e h = omega (arith, count_lit L r c s v)
  clauses_other c (node and ts) e h = count-and L r c ts
  clauses_other c (node or ts) e h = absurd (h e)

  pub clauses-conjunct : (t : Tree) {k n m : ℕ} {c : Bool} → k ≡ (top t).kind → (k ≡ 6 → ⊥) → n ≡ count (kids t) → c ≡ true → m ≡ n + 1
      → m ≡ count (own_clauses L r c t)
  unfolding one_if
  clauses-conjunct t {c = true} e h n l m = omega (arith, m, n, clauses_other true t e h)
  clauses-conjunct t {c = false} e h n l m = let z : ◌≡◌ {A = ℕ} 0 1 = cc in absurd (omega arith)

  pub clauses-below : (t : Tree) {k n : ℕ} {c : Bool} → k ≡ (top t).kind → (k ≡ 6 → ⊥) → n ≡ count (kids t) → c ≡ false
      → n ≡ count (own_clauses L r c t)
  unfolding one_if
  clauses-below t {c = true} e h n l = let z : ◌≡◌ {A = ℕ} 0 1 = cc in absurd (omega arith)
  clauses-below t {c = false} e h n l = omega (arith, n, clauses_other false t e h)

  rows-of-or : (c : Bool) (t : Tree) {k : ℕ} → k ≡ (top t).kind → k ≡ 6 → rows_all (own_clauses L r c t) + one_if c ≡ 2 + count (kids t)
  rows-of-or c (lit true v) e h = absurd (omega (arith, e, h))
  rows-of-or c (lit false v) e h = absurd (omega (arith, e, h))
  rows-of-or c (node and ts) e h = absurd (omega (arith, e, h))
  rows-of-or c (node or ts) e h = rows-or L r c ts

  rows_other : (c : Bool) (t : Tree) {k : ℕ} → k ≡ (top t).kind → (k ≡ 6 → ⊥) → rows_all (own_clauses L r c t) ≡ one_if c + 3 * count (kids t)
  unfolding count
  rows_other c (lit s v) e h = omega (arith, rows_lit L r c s v)
  rows_other c (node and ts) e h = rows-and L r c ts
  rows_other c (node or ts) e h = absurd (h e)

  pub rows-conjunct-or : (t : Tree) {k n m : ℕ} {c : Bool} → k ≡ (top t).kind → k ≡ 6 → n ≡ count (kids t) → c ≡ true → m ≡ n + 1
      → m ≡ rows_all (own_clauses L r c t)
  unfolding one_if
  rows-conjunct-or t {c = true} e h n l m = omega (arith, m, n, rows-of-or true t e h)
  rows-conjunct-or t {c = false} e h n l m = let z : ◌≡◌ {A = ℕ} 0 1 = cc in absurd (omega arith)

  pub rows-below-or : (t : Tree) {k n m : ℕ} {c : Bool} → k ≡ (top t).kind → k ≡ 6 → n ≡ count (kids t) → c ≡ false → m ≡ n + 2
      → m ≡ rows_all (own_clauses L r c t)
  unfolding one_if
  rows-below-or t {c = true} e h n l m = let z : ◌≡◌ {A = ℕ} 0 1 = cc in absurd (omega arith)
  rows-below-or t {c = false} e h n l m = omega (arith, m, n, rows-of-or false t e h)

  pub rows-conjunct : (t : Tree) {k n m : ℕ} {c : Bool} → k ≡ (top t).kind → (k ≡ 6 → ⊥) → n ≡ count (kids t) → c ≡ true → m ≡ 3 * n + 1
      → m ≡ rows_all (own_clauses L r c t)
  unfolding one_if
  rows-conjunct t {c = true} e h n l m = omega (arith, m, n, rows_other true t e h)
  rows-conjunct t {c = false} e h n l m = let z : ◌≡◌ {A = ℕ} 0 1 = cc in absurd (omega arith)

  pub rows-below : (t : Tree) {k n m : ℕ} {c : Bool} → k ≡ (top t).kind → (k ≡ 6 → ⊥) → n ≡ count (kids t) → c ≡ false → m ≡ 3 * n
      → m ≡ rows_all (own_clauses L r c t)
  unfolding one_if
  rows-below t {c = true} e h n l m = let z : ◌≡◌ {A = ℕ} 0 1 = cc in absurd (omega arith)
  rows-below t {c = false} e h n l m = omega (arith, m, n, rows_other false t e h)
