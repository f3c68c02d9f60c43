-- Where the formula is true, all clauses are, if each name has its operator's value.
-- Assumes nothing.
use mathlib.Core.Path.{◌≡◌, refl, sym, ◌∙◌, ap, ap₂}
use mathlib.Core.Bool.{Bool, true, false, ◌&&◌, ◌||◌, beq, and-true, or-false}
use mathlib.Core.List.{List, [], ◌∷◌, ◌++◌}
use Prim.Native.Nat.{ℕ, suc, ◌+◌, ◌<◌}
use native.Mathlib.Omega.{arith}
use lib.ListN.{length, get_or, length-append, get_or-append}
use Rattle.formula.specs.Tree.{Op, and, or, Tree, lit, node, Forest, ∅, ◌▸◌, ◌⧺◌, Literals, has, has_any}
use Rattle.formula.specs.Truth.{Assignment, join, eval, eval_all}
use Rattle.formula.specs.Clausal.{operators, operators_all, name, names, implies, defined, defined_all, conjuncts, conjunct, named, named_all, clauses}
use Rattle.formula.proofs.Booleans.{and_parts, or_parts}
use Rattle.formula.proofs.Tidy.Truth.{eval-⧺}
use Rattle.formula.proofs.Clausal.Names.{eval-conjuncts, has-conjuncts}

-- the values of a tree's operators, in preorder
mutual
  values : Tree → Assignment → List Bool
  values (lit s v) σ = []
  values (node o ts) σ = eval_all ts o σ ∷ values-all ts σ

  values-all : Forest → Assignment → List Bool
  values-all ∅ σ = []
  values-all (t ▸ ts) σ = values t σ ++ values-all ts σ

mutual
  unfolding values operators

  length-values : (t : Tree) (σ : Assignment) → length (values t σ) ≡ operators t
  length-values (lit s v) σ = refl
  length-values (node o ts) σ = ap suc (length-values-all ts σ)

  length-values-all : (ts : Forest) (σ : Assignment) → length (values-all ts σ) ≡ operators_all ts
  length-values-all ∅ σ = refl
  length-values-all (t ▸ ts) σ =
      length-append (values t σ) (values-all ts σ) ∙ ap₂ ◌+◌ (length-values t σ) (length-values-all ts σ)

-- those of the operators that are named
named-values : Tree → Assignment → List Bool
named-values (lit s v) σ = []
named-values (node or ts) σ = values-all ts σ
named-values (node and ts) σ = values (node and ts) σ

pub named-values-all : Forest → Assignment → List Bool
named-values-all ∅ σ = []
named-values-all (t ▸ ts) σ = named-values t σ ++ named-values-all ts σ

length-named : (t : Tree) (σ : Assignment) → length (named-values t σ) ≡ named t
unfolding named-values named values
length-named (lit s v) σ = refl
length-named (node or ts) σ = length-values-all ts σ
length-named (node and ts) σ = ap suc (length-values-all ts σ)

pub length-named_all : (ts : Forest) (σ : Assignment) → length (named-values-all ts σ) ≡ named_all ts
unfolding named-values-all named_all
length-named_all ∅ σ = refl
length-named_all (t ▸ ts) σ =
    length-append (named-values t σ) (named-values-all ts σ) ∙ ap₂ ◌+◌ (length-named t σ) (length-named_all ts σ)

getD_behind : (us vs : List Bool) (j : ℕ) → get_or (us ++ vs) (length us + j) false ≡ get_or vs j false
getD_behind [] vs j = ap (λ (k : ℕ). get_or vs k false) (omega arith)
getD_behind (u ∷ us) vs j = ap (λ (k : ℕ). get_or (u ∷ us ++ vs) k false) (next (length us) j) ∙ getD_behind us vs j
  where
    next : (n j : ℕ) → suc n + j ≡ suc (n + j)
    next n j = omega arith

module _ (fresh : ℕ → ℕ) (τ : Assignment) where
  -- the names from the i-th on have these values
  abbrev pub Have : ℕ → List Bool → Type 0
  Have i vs = (j : ℕ) → j < length vs → τ (fresh (i + j)) ≡ get_or vs j false

  have_first : (i : ℕ) (v : Bool) (vs : List Bool) → Have i (v ∷ vs) → τ (fresh i) ≡ v
  have_first i v vs h = ap (λ (k : ℕ). τ (fresh k)) (omega arith) ∙ h 0 (omega arith)

  have_later : (i : ℕ) (v : Bool) (vs : List Bool) → Have i (v ∷ vs) → Have (suc i) vs
  have_later i v vs h j k = ap (λ (k : ℕ). τ (fresh k)) (omega arith) ∙ h (suc j) (omega arith)

  have_front : (i : ℕ) (us vs : List Bool) → Have i (us ++ vs) → Have i us
  have_front i us vs h j k = h j (omega (arith, length-append us vs)) ∙ get_or-append us vs false j k

  have_behind : (i n : ℕ) (us vs : List Bool) → length us ≡ n → Have i (us ++ vs) → Have (i + n) vs
  have_behind i n us vs l h j k =
      ap (λ (k : ℕ). τ (fresh k)) (omega arith) ∙ h (length us + j) (omega (arith, length-append us vs)) ∙ getD_behind us vs j

  -- the clauses of a name that leads to its operator
  implies_true : (o : Op) (n : ℕ) (cs : Forest) → (τ n ≡ true → eval_all cs o τ ≡ true) → eval_all (implies o n cs) and τ ≡ true
  unfolding implies eval
  implies_true or n cs h = and-true (beq false (τ n) || eval_all cs or τ) ∙ by (τ n) h
    where
      by : (b : Bool) → (b ≡ true → eval_all cs or τ ≡ true) → (beq false b || eval_all cs or τ) ≡ true
      by true k = k refl
      by false k = refl
  implies_true and n ∅ h = refl
  implies_true and n (c ▸ cs) h =
      ap₂ ◌&&◌ (by (τ n) (λ e. (and_parts (eval c τ) (eval_all cs and τ) (h e)).0))
      (implies_true and n cs (λ e. (and_parts (eval c τ) (eval_all cs and τ) (h e)).1))
    where
      by : (b : Bool) → (b ≡ true → eval c τ ≡ true) → (beq false b || (eval c τ || false)) ≡ true
      by true k = or-false (eval c τ) ∙ k refl
      by false k = refl

  none_true : eval_all ∅ and τ ≡ true
  unfolding eval
  none_true = refl

  true_name : (b : Bool) → beq true b ≡ b
  true_name true = refl
  true_name false = refl

  -- an assignment that agrees with another at all literals but those of names
  module _ (σ : Assignment) (new : Literals) (agree : (s : Bool) (v : ℕ) → new s v ≡ false → τ v ≡ σ v) where
    name-value : (t : Tree) (i : ℕ) → has new t ≡ false → Have i (values t σ) → eval (name fresh i t) τ ≡ eval t σ
    unfolding name eval has values
    name-value (lit s v) i n h = ap (beq s) (agree s v n)
    name-value (node o ts) i n h = true_name (τ (fresh i)) ∙ have_first i (eval_all ts o σ) (values-all ts σ) h

    names-value : (ts : Forest) (i : ℕ) (o : Op) → has_any new ts ≡ false → Have i (values-all ts σ)
        → eval_all (names fresh i ts) o τ ≡ eval_all ts o σ
    unfolding names eval has values
    names-value ∅ i o n h = refl
    names-value (t ▸ ts) i o n h =
        let parts = or_parts (has new t) (has_any new ts) n in
        ap₂ (join o) (name-value t i parts.0 (have_front i (values t σ) (values-all ts σ) h))
        (names-value ts (i + operators t) o parts.1 (have_behind i (operators t) (values t σ) (values-all ts σ) (length-values t σ) h))

    both_true : (ts us : Forest) → eval_all ts and τ ≡ true → eval_all us and τ ≡ true → eval_all (ts ⧺ us) and τ ≡ true
    both_true ts us h k = eval-⧺ and τ ts us ∙ ap₂ ◌&&◌ h k

    mutual
      unfolding defined values has

      defined-true : (t : Tree) (i : ℕ) → has new t ≡ false → Have i (values t σ) → eval_all (defined fresh i t) and τ ≡ true
      defined-true (lit s v) i n h = none_true
      defined-true (node o ts) i n h =
          let later = have_later i (eval_all ts o σ) (values-all ts σ) h in
          both_true (implies o (fresh i) (names fresh (suc i) ts)) (defined_all fresh (suc i) ts)
          (implies_true o (fresh i) (names fresh (suc i) ts)
          (λ e. names-value ts (suc i) o n later ∙ sym (have_first i (eval_all ts o σ) (values-all ts σ) h) ∙ e))
          (defined-all-true ts (suc i) n later)

      defined-all-true : (ts : Forest) (i : ℕ) → has_any new ts ≡ false → Have i (values-all ts σ)
          → eval_all (defined_all fresh i ts) and τ ≡ true
      defined-all-true ∅ i n h = none_true
      defined-all-true (t ▸ ts) i n h =
          let parts = or_parts (has new t) (has_any new ts) n in
          both_true (defined fresh i t) (defined_all fresh (i + operators t) ts)
          (defined-true t i parts.0 (have_front i (values t σ) (values-all ts σ) h))
          (defined-all-true ts (i + operators t) parts.1
          (have_behind i (operators t) (values t σ) (values-all ts σ) (length-values t σ) h))

    conjunct-true : (t : Tree) (i : ℕ) → has new t ≡ false → Have i (named-values t σ) → eval t σ ≡ true
        → eval_all (conjunct fresh i t) and τ ≡ true
    unfolding conjunct named-values has eval values name
    conjunct-true (lit s v) i n h e = and-true (beq s (τ v)) ∙ ap (beq s) (agree s v n) ∙ e
    conjunct-true (node or ts) i n h e = ap₂ ◌&&◌ (names-value ts i or n h ∙ e) (defined-all-true ts i n h)
    conjunct-true (node and ts) i n h e =
        ap₂ ◌&&◌ (name-value (node and ts) i n h ∙ e) (defined-true (node and ts) i n h)

    clauses-true : (ts : Forest) (i : ℕ) → has_any new ts ≡ false → Have i (named-values-all ts σ) → eval_all ts and σ ≡ true
        → eval_all (clauses fresh i ts) and τ ≡ true
    unfolding clauses named-values-all has eval
    clauses-true ∅ i n h e = refl
    clauses-true (t ▸ ts) i n h e =
        let free = or_parts (has new t) (has_any new ts) n in
        let parts = and_parts (eval t σ) (eval_all ts and σ) e in
        both_true (conjunct fresh i t) (clauses fresh (i + named t) ts)
        (conjunct-true t i free.0 (have_front i (named-values t σ) (named-values-all ts σ) h) parts.0)
        (clauses-true ts (i + named t) free.1
        (have_behind i (named t) (named-values t σ) (named-values-all ts σ) (length-named t σ) h) parts.1)

    pub clausal-complete : (t : Tree) → has new t ≡ false → Have 0 (named-values-all (conjuncts t) σ) → eval t σ ≡ true
        → eval_all (clauses fresh 0 (conjuncts t)) and τ ≡ true
    clausal-complete t n h e =
        clauses-true (conjuncts t) 0 (has-conjuncts new t n) h (eval-conjuncts t σ ∙ e)
