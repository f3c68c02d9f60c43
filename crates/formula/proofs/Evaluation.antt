-- Laws of `eval`, `has` and `rows` for trees in which literals are replaced or left alone.
-- Assumes nothing.
use mathlib.Core.Path.{◌≡◌, refl, ◌∙◌, ap, ap₂}
use mathlib.Core.Bool.{Bool, true, false, ◌||◌, cond, beq}
use mathlib.Core.Logic.{⊎_elim}
use Prim.Native.Nat.{ℕ, suc, ◌+◌}
use lib.Dec.{eqb}
use Rattle.formula.specs.Tree.{Op, dual, Tree, lit, node, Forest, ∅, ◌▸◌, Literals, of, rows, rows_all, has, has_any, replace, replace_all, constant, assigned, assign, some_child}
use Rattle.formula.specs.Truth.{Assignment, put, join, unit, eval, eval_all}
use Rattle.formula.proofs.Booleans.{join-zero, zero-join, or_parts, or_cases}

-- a child that has the value which absorbs under the operator decides it
pub eval_decided : (o : Op) (ρ : Assignment) (P : Tree → Bool) → ((t : Tree) → P t ≡ true → eval t ρ ≡ unit (dual o))
    → (ts : Forest) → some_child P ts ≡ true → eval_all ts o ρ ≡ unit (dual o)
unfolding eval some_child
eval_decided o ρ P f ∅ p = cc
eval_decided o ρ P f (t ▸ ts) p =
    let here : P t ≡ true → join o (eval t ρ) (eval_all ts o ρ) ≡ unit (dual o)
    = λ e. ap (λ (b : Bool). join o b (eval_all ts o ρ)) (f t e) ∙ zero-join o (eval_all ts o ρ) in
    let later : some_child P ts ≡ true → join o (eval t ρ) (eval_all ts o ρ) ≡ unit (dual o)
    = λ e. ap (join o (eval t ρ)) (eval_decided o ρ P f ts e) ∙ join-zero o (eval t ρ) in
    ⊎_elim here later (or_cases (P t) (some_child P ts) p)

-- each literal's replacement has the literal's value under σ: the tree has its value under σ
mutual
  unfolding eval replace

  pub eval-replace : (f : Bool → ℕ → Tree) (ρ σ : Assignment) → ((s : Bool) (v : ℕ) → eval (f s v) ρ ≡ beq s (σ v))
      → (t : Tree) → eval (replace f t) ρ ≡ eval t σ
  eval-replace f ρ σ h (lit s v) = h s v
  eval-replace f ρ σ h (node o ts) = eval-replace_all f ρ σ h o ts

  pub eval-replace_all : (f : Bool → ℕ → Tree) (ρ σ : Assignment) → ((s : Bool) (v : ℕ) → eval (f s v) ρ ≡ beq s (σ v))
      → (o : Op) (ts : Forest) → eval_all (replace_all f ts) o ρ ≡ eval_all ts o σ
  eval-replace_all f ρ σ h o ∅ = refl
  eval-replace_all f ρ σ h o (t ▸ ts) = ap₂ (join o) (eval-replace f ρ σ h t) (eval-replace_all f ρ σ h o ts)

pub eval-constant : (b : Bool) (ρ : Assignment) → eval (constant b) ρ ≡ b
unfolding eval
eval-constant true ρ = refl
eval-constant false ρ = refl

-- a literal of x becomes the constant that it is where x = b
pub eval-assigned : (x : ℕ) (b : Bool) (ρ : Assignment) (s : Bool) (v : ℕ) → eval (assigned x b s v) ρ ≡ beq s (put ρ x b v)
unfolding eval
eval-assigned x b ρ s v = by (eqb v x)
  where
    by : (m : Bool) → eval (cond m (constant (beq s b)) (lit s v)) ρ ≡ beq s (cond m b (ρ v))
    by true = eval-constant (beq s b) ρ
    by false = refl

pub eval-assign : (x : ℕ) (b : Bool) (t : Tree) (ρ : Assignment) → eval (assign x b t) ρ ≡ eval t (put ρ x b)
unfolding assign
eval-assign x b t ρ = eval-replace (assigned x b) ρ (put ρ x b) (eval-assigned x b ρ) t

-- assignments that differ only at literals which don't occur give one value
mutual
  unfolding eval has

  pub eval_same : (L : Literals) (σ ρ : Assignment) → ((s : Bool) (v : ℕ) → L s v ≡ false → σ v ≡ ρ v)
      → (t : Tree) → has L t ≡ false → eval t σ ≡ eval t ρ
  eval_same L σ ρ h (lit s v) k = ap (beq s) (h s v k)
  eval_same L σ ρ h (node o ts) k = eval_all_same L σ ρ h o ts k

  pub eval_all_same : (L : Literals) (σ ρ : Assignment) → ((s : Bool) (v : ℕ) → L s v ≡ false → σ v ≡ ρ v)
      → (o : Op) (ts : Forest) → has_any L ts ≡ false → eval_all ts o σ ≡ eval_all ts o ρ
  eval_all_same L σ ρ h o ∅ k = refl
  eval_all_same L σ ρ h o (t ▸ ts) k =
      let parts = or_parts (has L t) (has_any L ts) k in
      ap₂ (join o) (eval_same L σ ρ h t parts.0) (eval_all_same L σ ρ h o ts parts.1)

pub put_other : (x : ℕ) (b : Bool) (ρ : Assignment) (s : Bool) (v : ℕ) → of x s v ≡ false → put ρ x b v ≡ ρ v
put_other x b ρ s v h = ap (λ (m : Bool). cond m b (ρ v)) h

-- a literal set that covers two others: what has neither of the two has none of it
mutual
  unfolding has

  pub has_cover : (A B M : Literals) → ((s : Bool) (v : ℕ) → A s v ≡ false → B s v ≡ false → M s v ≡ false)
      → (t : Tree) → has A t ≡ false → has B t ≡ false → has M t ≡ false
  has_cover A B M h (lit s v) a b = h s v a b
  has_cover A B M h (node o ts) a b = has_any_cover A B M h ts a b

  pub has_any_cover : (A B M : Literals) → ((s : Bool) (v : ℕ) → A s v ≡ false → B s v ≡ false → M s v ≡ false)
      → (ts : Forest) → has_any A ts ≡ false → has_any B ts ≡ false → has_any M ts ≡ false
  has_any_cover A B M h ∅ a b = refl
  has_any_cover A B M h (t ▸ ts) a b =
      let in-a = or_parts (has A t) (has_any A ts) a in
      let in_b = or_parts (has B t) (has_any B ts) b in
      ap₂ ◌||◌ (has_cover A B M h t in-a.0 in_b.0) (has_any_cover A B M h ts in-a.1 in_b.1)

-- replacing literals leaves those of the replacements
mutual
  unfolding has replace

  pub has-replace : (L M : Literals) (f : Bool → ℕ → Tree) → ((s : Bool) (v : ℕ) → L s v ≡ false → has M (f s v) ≡ false)
      → (t : Tree) → has L t ≡ false → has M (replace f t) ≡ false
  has-replace L M f h (lit s v) k = h s v k
  has-replace L M f h (node o ts) k = has-replace_all L M f h ts k

  pub has-replace_all : (L M : Literals) (f : Bool → ℕ → Tree) → ((s : Bool) (v : ℕ) → L s v ≡ false → has M (f s v) ≡ false)
      → (ts : Forest) → has_any L ts ≡ false → has_any M (replace_all f ts) ≡ false
  has-replace_all L M f h ∅ k = refl
  has-replace_all L M f h (t ▸ ts) k =
      let parts = or_parts (has L t) (has_any L ts) k in
      ap₂ ◌||◌ (has-replace L M f h t parts.0) (has-replace_all L M f h ts parts.1)

-- rows stay where each literal's replacement is one row
mutual
  unfolding rows replace

  pub rows-replace : (f : Bool → ℕ → Tree) → ((s : Bool) (v : ℕ) → rows (f s v) ≡ 1) → (t : Tree) → rows (replace f t) ≡ rows t
  rows-replace f h (lit s v) = h s v
  rows-replace f h (node o ts) = ap suc (rows-replace_all f h ts)

  pub rows-replace_all : (f : Bool → ℕ → Tree) → ((s : Bool) (v : ℕ) → rows (f s v) ≡ 1) → (ts : Forest)
      → rows_all (replace_all f ts) ≡ rows_all ts
  rows-replace_all f h ∅ = refl
  rows-replace_all f h (t ▸ ts) = ap₂ ◌+◌ (rows-replace f h t) (rows-replace_all f h ts)

pub rows-assigned : (x : ℕ) (b : Bool) (s : Bool) (v : ℕ) → rows (assigned x b s v) ≡ 1
unfolding rows
rows-assigned x b s v = by (eqb v x) (beq s b)
  where
    by : (m n : Bool) → rows (cond m (constant n) (lit s v)) ≡ 1
    by true true = refl
    by true false = refl
    by false n = refl

pub rows-assign : (x : ℕ) (b : Bool) (t : Tree) → rows (assign x b t) ≡ rows t
unfolding assign
rows-assign x b t = rows-replace (assigned x b) (rows-assigned x b) t

pub has-constant : (L : Literals) (b : Bool) → has L (constant b) ≡ false
unfolding has
has-constant L true = refl
has-constant L false = refl
