-- The prefix of a readable sheet by the numbers of its rows: the row of a variable, and the rows behind it.
-- Assumes nothing.
use mathlib.Core.Path.{◌≡◌, refl, sym, ap, ◌∙◌}
use mathlib.Core.Bool.{Bool, true, false, ◌||◌, cond, false≢true}
use mathlib.Core.List.{[], ◌∷◌, ◌++◌}
use Prim.Native.Nat.{ℕ, zero, suc, ◌+◌, ◌≤◌, ◌<◌}
use native.Mathlib.Omega.{arith}
use lib.Dec.{eqb, ltb, leb, leb-suc-suc}
use lib.ListN.{length, get_or, take, drop, get_or-map}
use lib.Seq.{get_or-take, drop-cons, drop-length}
use borrow.Author.Tests.{eqb-true, lt-ltb, le-leb, lt-leb, eq-eqb, ne_eqb}
use Rattle.formula.specs.Tree.{Quantifier, same_op, exists, for_all, Binding, Prefix, binds, quantifier_of, without, distinct}
use Rattle.formula.specs.Expand.{all_of, in_last_block, after}
use Rattle.formula.proofs.Booleans.{and_parts, same_op_eq}
use Rattle.sheet.specs.Format.{Bytes, Row, row}
use Rattle.sheet.specs.Sheet.{binding}
use Rattle.rows.specs.Layouts.{rows_in}
use Rattle.rows.specs.Formulas.{prefix_in, Readable}
use Rattle.rows.specs.declared.Layout.{Layout}
use Rattle.rows.proofs.Formulas.{length_prefix}
use Rattle.prefixes.specs.Places.{place, binding_at, binding_in, block_start}
use Rattle.formula.proofs.Prefixes.{binds_first, binds-later, distinct_parts}

-- place

pub place-within : (x : ℕ) (p : Prefix) → place x p ≤ length p
unfolding place
place-within x [] = omega arith
place-within x (z ∷ p) = go (eqb z.variable x) (place-within x p)
  where
    go : (e : Bool) → place x p ≤ length p → cond e 0 (suc (place x p)) ≤ suc (length p)
    go true h = omega arith
    go false h = omega arith

-- x is bound exactly if it has a row
pub binds-place : (x : ℕ) (p : Prefix) → binds p x ≡ ltb (place x p) (length p)
unfolding binds place
binds-place x [] = refl
binds-place x (z ∷ p) = go (eqb z.variable x) (binds-place x p)
  where
    go : (e : Bool) → binds p x ≡ ltb (place x p) (length p)
        → (e || binds p x) ≡ ltb (cond e 0 (suc (place x p))) (suc (length p))
    go true h = sym (lt-ltb 0 (suc (length p)) (omega arith))
    go false h = h ∙ sym (leb-suc-suc (suc (place x p)) (length p))

pub quantifier_of-place : (x : ℕ) (p : Prefix) → place x p < length p → quantifier_of p x ≡ (binding_at p (place x p)).quantifier
unfolding quantifier_of place binding_at
quantifier_of-place x [] h = absurd (omega arith)
quantifier_of-place x (z ∷ p) h = go (eqb z.variable x) h (quantifier_of-place x p)
  where
    go : (e : Bool) → cond e 0 (suc (place x p)) < suc (length p)
        → (place x p < length p → quantifier_of p x ≡ (get_or p (place x p) (binding (row 0 0))).quantifier)
        → cond e z.quantifier (quantifier_of p x) ≡ (get_or (z ∷ p) (cond e 0 (suc (place x p))) (binding (row 0 0))).quantifier
    go true h more = refl
    go false h more = more (omega arith)

pub variable-place : (x : ℕ) (p : Prefix) → place x p < length p → (binding_at p (place x p)).variable ≡ x
unfolding place binding_at
variable-place x [] h = absurd (omega arith)
variable-place x (z ∷ p) h = go (eqb z.variable x) refl h (variable-place x p)
  where
    go : (e : Bool) → eqb z.variable x ≡ e → cond e 0 (suc (place x p)) < suc (length p)
        → (place x p < length p → (get_or p (place x p) (binding (row 0 0))).variable ≡ x)
        → (get_or (z ∷ p) (cond e 0 (suc (place x p))) (binding (row 0 0))).variable ≡ x
    go true e h more = eqb-true z.variable x e
    go false e h more = more (omega arith)

-- a row's number is bound
pub binds-row : (p : Prefix) (i : ℕ) → i < length p → binds p (binding_at p i).variable ≡ true
unfolding binding_at
binds-row [] i h = absurd (omega arith)
binds-row (z ∷ p) zero h = binds_first z p
binds-row (z ∷ p) (suc i) h = binds-later z p (binding_at p i).variable (binds-row p i (omega arith))

-- the row of a row's number is that row
pub place-row : (p : Prefix) (i : ℕ) → distinct p ≡ true → i < length p → place (binding_at p i).variable p ≡ i
unfolding place binding_at
place-row [] i d h = absurd (omega arith)
place-row (z ∷ p) zero d h = ap (λ (e : Bool). cond e 0 (suc (place z.variable p))) (eq-eqb z.variable z.variable refl)
place-row (z ∷ p) (suc i) d h =
    let parts = distinct_parts z p d in
    let x = (binding_at p i).variable in
    let other : eqb z.variable x ≡ false
    = ne_eqb z.variable x (λ e. false≢true (sym parts.0 ∙ ap (binds p) e ∙ binds-row p i (omega arith))) in
    ap (λ (e : Bool). cond e 0 (suc (place x p))) other ∙ ap suc (place-row p i parts.1 (omega arith))

-- the rows after x are those behind its row
pub after-place : (x : ℕ) (p : Prefix) → after x p ≡ drop (suc (place x p)) p
unfolding after place
after-place x [] = refl
after-place x (z ∷ p) = by (eqb z.variable x) (after-place x p)
  where
    by : (e : Bool) → after x p ≡ drop (suc (place x p)) p → cond e p (after x p) ≡ drop (cond e 0 (suc (place x p))) p
    by true h = refl
    by false h = h

pub without-place : (x : ℕ) (p : Prefix) → without x p ≡ take (place x p) p ++ drop (suc (place x p)) p
unfolding without place
without-place x [] = refl
without-place x (z ∷ p) = go (eqb z.variable x) (without-place x p)
  where
    go : (e : Bool) → without x p ≡ take (place x p) p ++ drop (suc (place x p)) p
        → cond e p (z ∷ without x p) ≡ take (cond e 0 (suc (place x p))) (z ∷ p) ++ drop (suc (cond e 0 (suc (place x p)))) (z ∷ p)
    go true h = refl
    go false h = ap (λ l. z ∷ l) h

-- a kind is 1 exactly for exists
pub is_exists : (r : Row) → same_op exists (binding r).quantifier ≡ eqb r.kind 1
unfolding binding
is_exists r = go (eqb r.kind 1)
  where
    go : (e : Bool) → same_op exists (cond e exists for_all) ≡ e
    go true = refl
    go false = refl

module _ {s : Layout} (b : Bytes) (ok : Readable s b) where
  pub binding_row : (i : ℕ) → i < s.variables → binding_in s b i ≡ binding (get_or (rows_in s b) i (row 0 0))
  unfolding prefix_in binding_at
  binding_row i h =
      get_or-map binding (take s.variables (rows_in s b)) i (row 0 0) ∙ ap binding (get_or-take s.variables (rows_in s b) i (row 0 0) h)

  pub variable-row : (i : ℕ) {a : ℕ} → i < s.variables → a ≡ (get_or (rows_in s b) i (row 0 0)).argument → a ≡ (binding_in s b i).variable
  unfolding binding
  variable-row i h e = e ∙ ap (λ (z : Binding). z.variable) (sym (binding_row i h))

  pub prefix_row : (i : ℕ) → i < s.variables → drop i (prefix_in s b) ≡ binding_in s b i ∷ drop (suc i) (prefix_in s b)
  unfolding binding_at
  prefix_row i h = drop-cons (prefix_in s b) i (binding (row 0 0)) (omega (arith, length_prefix b ok))

  pub no_rows : (i : ℕ) → i ≡ s.variables → drop i (prefix_in s b) ≡ []
  no_rows i e = ap (λ m. drop m (prefix_in s b)) (e ∙ sym (length_prefix b ok)) ∙ drop-length (prefix_in s b)

  pub block_here : (i : ℕ) → i < s.variables → all_of (binding_in s b i).quantifier (drop (suc i) (prefix_in s b)) ≡ true
      → block_start (drop i (prefix_in s b)) ≡ 0
  unfolding block_start
  block_here i h e =
      ap block_start (prefix_row i h) ∙ ap (λ c. cond c 0 (suc (block_start (drop (suc i) (prefix_in s b))))) e

-- the innermost block

one_kind_start : (q : Quantifier) (p : Prefix) → all_of q p ≡ true → block_start p ≡ 0
unfolding block_start all_of
one_kind_start q [] h = refl
one_kind_start q (z ∷ p) h =
    let k = and_parts (same_op q z.quantifier) (all_of q p) h in
    ap (λ c. cond c 0 (suc (block_start p))) (ap (λ r. all_of r p) (sym (same_op_eq q z.quantifier k.0)) ∙ k.1)

-- a block that begins behind a row begins there for the rows before it too
block-behind : (z : Binding) (p : Prefix) → 0 < block_start p → block_start (z ∷ p) ≡ suc (block_start p)
unfolding block_start
block-behind z p h = by (all_of z.quantifier p) refl
  where
    by : (c : Bool) → all_of z.quantifier p ≡ c → cond c 0 (suc (block_start p)) ≡ suc (block_start p)
    by true e = absurd (omega (arith, one_kind_start z.quantifier p e))
    by false e = refl

pub block_from : (p : Prefix) (j : ℕ) → 0 < block_start (drop j p) → block_start p ≡ j + block_start (drop j p)
unfolding block_start
block_from p zero h = omega arith
block_from [] (suc j) h = absurd (omega arith)
block_from (z ∷ p) (suc j) h =
    let on = block_from p j h in
    omega (arith, on, block-behind z p (omega (arith, on)))

-- x is in the innermost block exactly if its row is not before the block
pub block-place : (x : ℕ) (p : Prefix) → place x p < length p → in_last_block x p ≡ leb (block_start p) (place x p)
unfolding in_last_block place block_start
block-place x [] h = absurd (omega arith)
block-place x (z ∷ p) h = go (eqb z.variable x) (all_of z.quantifier p) refl h (block-place x p)
  where
    go : (e a : Bool) → all_of z.quantifier p ≡ a → cond e 0 (suc (place x p)) < suc (length p)
        → (place x p < length p → in_last_block x p ≡ leb (block_start p) (place x p))
        → cond e a (in_last_block x p) ≡ leb (cond a 0 (suc (block_start p))) (cond e 0 (suc (place x p)))
    go true true k h more = refl
    go true false k h more = sym (lt-leb (suc (block_start p)) 0 (omega arith))
    go false true k h more =
        more (omega arith) ∙ ap (λ m. leb m (place x p)) (one_kind_start z.quantifier p k) ∙ le-leb 0 (place x p) (omega arith) ∙
        sym (le-leb 0 (suc (place x p)) (omega arith))
    go false false k h more = more (omega arith) ∙ sym (leb-suc-suc (block_start p) (place x p))
