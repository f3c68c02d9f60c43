-- The function of a variable: put in, it gives the tree the value that either step leaves, and what it reads the tree has.
-- Assumes nothing.
use mathlib.Core.Path.{◌≡◌, refl, sym, ◌∙◌, ap, ap₂}
use mathlib.Core.Bool.{Bool, true, false, not, ◌||◌, cond, beq, or-true, or-false}
use mathlib.Core.Option.{Option, none, some}
use Prim.Native.Nat.{ℕ, suc, ◌+◌, ◌≤◌}
use native.Mathlib.Nat.{le_refl}
use native.Mathlib.Omega.{arith}
use lib.Dec.{eqb}
use borrow.Author.Tests.{eq-eqb}
use Rattle.formula.specs.Tree.{Op, and, or, Quantifier, Tree, lit, node, Forest, ∅, ◌▸◌, constant, Formula, Literals, of, rows, rows_all, has, has_any, assigned, assign}
use Rattle.formula.specs.Tree.{quantifier_of, count, some_child, some_two, keep}
use Rattle.formula.specs.Truth.{Assignment, put, join, eval, eval_all}
use Rattle.formula.specs.Tidy.{tidy, alone, breaks, faults_all, root_faults, any, is_tidy}
use Rattle.formula.specs.Settle.{value, settling, may_settle, settled}
use Rattle.formula.specs.Expand.{occurs, copying, relevant, one_relevant, raw_tree, raw, expanded}
use Rattle.formula.specs.Strategy.{relevant_subtree, relevant_below, function_by, function_of}
use Rattle.formula.specs.Inner.Function.{raw_function}
use Rattle.formula.proofs.Booleans.{join-value, join_share, share_join, or_parts, or_later}
use Rattle.formula.proofs.Evaluation.{eval-assign, eval-constant, eval_same, eval_all_same, put_other, has-replace, has-constant, rows-assign}
use Rattle.formula.proofs.Tidy.Truth.{eval-tidy}
use Rattle.formula.proofs.Tidy.Limits.{tidy-is_tidy, tidy_unchanged}
use Rattle.formula.proofs.Tidy.Growth.{rows-keep, rows-tidy, has-tidy}
use Rattle.formula.proofs.Settle.{taken_sign}
use Rattle.formula.proofs.Expand.{eval_divided, has_any-kept_out, one_first, one_later, one_counts, no_child, eval-raw_tree}
use Rattle.formula.proofs.Closed.{has_any-keep}

-- exists: 1 if that makes it true, else 0; for all: 0 if that makes it false, else 1
pub join-answer : (q : Quantifier) (B : Bool → Bool) → B (B (value q true)) ≡ join q (B false) (B true)
unfolding value
join-answer or B = by (B true) refl
  where
    by : (b : Bool) → B true ≡ b → B b ≡ (B false || b)
    by true e = e ∙ sym (or-true (B false))
    by false e = sym (or-false (B false))
join-answer and B = by (B false) refl
  where
    by : (b : Bool) → B false ≡ b → B b ≡ join and b (B true)
    by true e = refl
    by false e = e

-- Three assignments that differ from a fourth at the literals L only: what the relevant subtree joins, the tree joins.
module _ (L : Literals) (q : Quantifier) (ρ σ σ₀ σ₁ : Assignment) (apart : (s : Bool) (v : ℕ) → L s v ≡ false → σ v ≡ ρ v)
    (apart₀ : (s : Bool) (v : ℕ) → L s v ≡ false → σ₀ v ≡ ρ v) (apart₁ : (s : Bool) (v : ℕ) → L s v ≡ false → σ₁ v ≡ ρ v) where
  join_kept : (o : Op) (ts : Forest)
      → eval_all (relevant L ts) o σ ≡ join q (eval_all (relevant L ts) o σ₀) (eval_all (relevant L ts) o σ₁)
      → eval_all ts o σ ≡ join q (eval_all ts o σ₀) (eval_all ts o σ₁)
  unfolding relevant
  join_kept o ts e =
      let out : Forest = keep (λ t. not (has L t)) ts in
      let kept : Forest = keep (has L) ts in
      let divided : (τ : Assignment) → ((s : Bool) (v : ℕ) → L s v ≡ false → τ v ≡ ρ v)
      → eval_all ts o τ ≡ join o (eval_all kept o τ) (eval_all out o ρ)
      = λ τ a. eval_divided (has L) o τ ts ∙ ap (join o (eval_all kept o τ)) (eval_all_same L τ ρ a o out (has_any-kept_out L ts)) in
      divided σ apart ∙ ap (λ (b : Bool). join o b (eval_all out o ρ)) e ∙
      sym (join_share q o (eval_all kept o σ₀) (eval_all kept o σ₁) (eval_all out o ρ)) ∙
      sym (ap₂ (join q) (divided σ₀ apart₀) (divided σ₁ apart₁))

  mutual
    unfolding eval relevant_subtree

    pub join-relevant : (t : Tree)
        → eval (relevant_subtree L t) σ ≡ join q (eval (relevant_subtree L t) σ₀) (eval (relevant_subtree L t) σ₁)
        → eval t σ ≡ join q (eval t σ₀) (eval t σ₁)
    join-relevant (lit s v) e = e
    join-relevant (node o ts) e = by (one_relevant L ts) refl e (λ n k. join-below ts o n k)
      where
        by : (m : Bool) → one_relevant L ts ≡ m
            → (let r = cond m (relevant_below L ts) (node o (relevant L ts)) in eval r σ ≡ join q (eval r σ₀) (eval r σ₁))
            → (count (keep (has L) ts) ≡ 1
            → eval (relevant_below L ts) σ ≡ join q (eval (relevant_below L ts) σ₀) (eval (relevant_below L ts) σ₁)
            → eval_all ts o σ ≡ join q (eval_all ts o σ₀) (eval_all ts o σ₁))
            → eval_all ts o σ ≡ join q (eval_all ts o σ₀) (eval_all ts o σ₁)
        by true n k below = below (one_counts L ts n) k
        by false n k below = join_kept o ts k

    join-below : (ts : Forest) (o : Op) → count (keep (has L) ts) ≡ 1
        → eval (relevant_below L ts) σ ≡ join q (eval (relevant_below L ts) σ₀) (eval (relevant_below L ts) σ₁)
        → eval_all ts o σ ≡ join q (eval_all ts o σ₀) (eval_all ts o σ₁)
    join-below ∅ o n e = absurd (no_child L n)
    join-below (t ▸ ts) o n e = by (has L t) refl e (λ k. join-relevant t k) (λ m k. join-below ts o m k)
      where
        by : (m : Bool) → has L t ≡ m
            → (let r = cond m (relevant_subtree L t) (relevant_below L ts) in eval r σ ≡ join q (eval r σ₀) (eval r σ₁))
            → (eval (relevant_subtree L t) σ ≡ join q (eval (relevant_subtree L t) σ₀) (eval (relevant_subtree L t) σ₁)
            → eval t σ ≡ join q (eval t σ₀) (eval t σ₁))
            → (count (keep (has L) ts) ≡ 1
            → eval (relevant_below L ts) σ ≡ join q (eval (relevant_below L ts) σ₀) (eval (relevant_below L ts) σ₁)
            → eval_all ts o σ ≡ join q (eval_all ts o σ₀) (eval_all ts o σ₁))
            → join o (eval t σ) (eval_all ts o σ) ≡
            join q (join o (eval t σ₀) (eval_all ts o σ₀)) (join o (eval t σ₁) (eval_all ts o σ₁))
        by true h k here later =
            let rest : (τ : Assignment) → ((s : Bool) (v : ℕ) → L s v ≡ false → τ v ≡ ρ v) → eval_all ts o τ ≡ eval_all ts o ρ
            = λ τ a. eval_all_same L τ ρ a o ts (one_first L t ts n h) in
            ap₂ (join o) (here k) (rest σ apart) ∙ sym (join_share q o (eval t σ₀) (eval t σ₁) (eval_all ts o ρ)) ∙
            sym (ap₂ (λ (a b : Bool). join q (join o (eval t σ₀) a) (join o (eval t σ₁) b)) (rest σ₀ apart₀) (rest σ₁ apart₁))
        by false h k here later =
            let one : (τ : Assignment) → ((s : Bool) (v : ℕ) → L s v ≡ false → τ v ≡ ρ v) → eval t τ ≡ eval t ρ
            = λ τ a. eval_same L τ ρ a t h in
            ap₂ (join o) (one σ apart) (later (one_later L t ts n h) k) ∙
            sym (share_join q o (eval t ρ) (eval_all ts o σ₀) (eval_all ts o σ₁)) ∙
            sym (ap₂ (λ (a b : Bool). join q (join o a (eval_all ts o σ₀)) (join o b (eval_all ts o σ₁))) (one σ₀ apart₀) (one σ₁ apart₁))

-- what either step leaves of a tree, under an assignment
abbrev pub both : Quantifier → ℕ → Tree → Assignment → Bool
both q x t ρ = join q (eval t (put ρ x false)) (eval t (put ρ x true))

-- the value that Settle puts in
pub eval-settling : (q : Quantifier) (x : ℕ) (t : Tree) (b : Bool) → settling q x t ≡ some b → (ρ : Assignment)
    → eval t (put ρ x b) ≡ both q x t ρ
eval-settling q x t b h ρ =
    let sign = taken_sign q x t b h in
    ap (λ (c : Bool). eval t (put ρ x c)) (sym sign.1) ∙ sym (join-value q sign.0 (λ c. eval t (put ρ x c)) (sign.2 ρ))

-- the relevant subtree with the table's value
eval-answer : (q : Quantifier) (x : ℕ) (t : Tree) (ρ : Assignment)
    → eval t (put ρ x (eval (tidy (assign x (value q true) (relevant_subtree (of x) t))) ρ)) ≡ both q x t ρ
eval-answer q x t ρ =
    let r : Tree = relevant_subtree (of x) t in
    let B : Bool → Bool = λ b. eval r (put ρ x b) in
    let answer : eval (tidy (assign x (value q true) r)) ρ ≡ B (value q true)
    = eval-tidy (assign x (value q true) r) ρ ∙ eval-assign x (value q true) r ρ in
    ap (λ (b : Bool). eval t (put ρ x b)) answer ∙
    join-relevant (of x) q ρ (put ρ x (B (value q true))) (put ρ x false) (put ρ x true) (put_other x (B (value q true)) ρ) (put_other x false ρ)
    (put_other x true ρ) t (join-answer q B)

-- the function put in
pub eval_function : (x : ℕ) (f : Formula) (ρ : Assignment)
    → eval f.matrix (put ρ x (eval (function_of x f) ρ)) ≡ both (quantifier_of f.prefix x) x f.matrix ρ
unfolding function_of function_by may_settle
eval_function x f ρ = by (may_settle x f) refl
  where
    q : Quantifier
    q = quantifier_of f.prefix x

    by : (o : Option Bool) → settling q x f.matrix ≡ o
        → eval f.matrix (put ρ x (eval (function_by q x f.matrix o) ρ)) ≡ both q x f.matrix ρ
    by none e = eval-answer q x f.matrix ρ
    by (some b) e =
        ap (λ (c : Bool). eval f.matrix (put ρ x c)) (eval-constant b ρ) ∙ eval-settling q x f.matrix b e ρ

-- the steps
pub eval-settled : (x : ℕ) (b : Bool) (f : Formula) → may_settle x f ≡ some b → (ρ : Assignment)
    → eval (settled x b f).matrix ρ ≡ both (quantifier_of f.prefix x) x f.matrix ρ
unfolding settled may_settle
eval-settled x b f h ρ =
    eval-tidy (assign x b f.matrix) ρ ∙ eval-assign x b f.matrix ρ ∙ eval-settling (quantifier_of f.prefix x) x f.matrix b h ρ

pub eval-expanded : (x : ℕ) (f : Formula) (ρ : Assignment)
    → eval (expanded x f).matrix ρ ≡ both (quantifier_of f.prefix x) x f.matrix ρ
unfolding expanded raw
eval-expanded x f ρ =
    eval-tidy (raw_tree (copying (quantifier_of f.prefix x) x) f.matrix) ρ ∙ eval-raw_tree (quantifier_of f.prefix x) x f.matrix ρ

-- what is read

mutual
  unfolding has

  -- a set without the variables that occur
  pub has-none : (L : Literals) (t : Tree) → ((s : Bool) (v : ℕ) → occurs t v ≡ true → L s v ≡ false) → has L t ≡ false
  has-none L (lit s v) h = h s v (eq-eqb v v refl)
  has-none L (node o ts) h = has_any-none L ts h

  has_any-none : (L : Literals) (ts : Forest) → ((s : Bool) (v : ℕ) → has_any (of v) ts ≡ true → L s v ≡ false) → has_any L ts ≡ false
  has_any-none L ∅ h = refl
  has_any-none L (t ▸ ts) h =
      ap₂ ◌||◌ (has-none L t (λ s v k. h s v (ap (λ (b : Bool). b || has_any (of v) ts) k)))
      (has_any-none L ts (λ s v k. h s v (or_later (has (of v) t) k)))

has-relevant : (L U : Literals) (ts : Forest) → has_any U ts ≡ false → has_any U (relevant L ts) ≡ false
unfolding relevant
has-relevant L U ts h = has_any-keep U (has L) ts h

mutual
  unfolding has relevant_subtree

  has-relevant_subtree : (L U : Literals) (t : Tree) → has U t ≡ false → has U (relevant_subtree L t) ≡ false
  has-relevant_subtree L U (lit s v) h = h
  has-relevant_subtree L U (node o ts) h = by (one_relevant L ts) (has-relevant_below L U ts h)
    where
      by : (m : Bool) → has U (relevant_below L ts) ≡ false → has U (cond m (relevant_below L ts) (node o (relevant L ts))) ≡ false
      by true e = e
      by false e = has-relevant L U ts h

  has-relevant_below : (L U : Literals) (ts : Forest) → has_any U ts ≡ false → has U (relevant_below L ts) ≡ false
  has-relevant_below L U ∅ h = refl
  has-relevant_below L U (t ▸ ts) h =
      let parts = or_parts (has U t) (has_any U ts) h in
      by (has L t) (has-relevant_subtree L U t parts.0) (has-relevant_below L U ts parts.1)
    where
      by : (m : Bool) → has U (relevant_subtree L t) ≡ false → has U (relevant_below L ts) ≡ false
          → has U (cond m (relevant_subtree L t) (relevant_below L ts)) ≡ false
      by true e k = e
      by false e k = k

-- the function of x has no literal of x, and no literal that the tree doesn't have
pub has_function : (x : ℕ) (f : Formula) (U M : Literals) → ((s : Bool) (v : ℕ) → of x s v ≡ false → U s v ≡ false → M s v ≡ false)
    → has U f.matrix ≡ false → has M (function_of x f) ≡ false
unfolding function_of function_by assign has
has_function x f U M h k = by (may_settle x f)
  where
    q : Quantifier
    q = quantifier_of f.prefix x

    apart : (b s : Bool) (v : ℕ) → U s v ≡ false → has M (assigned x b s v) ≡ false
    apart b s v u = at (eqb v x) refl
      where
        at : (m : Bool) → eqb v x ≡ m → has M (cond m (constant (beq s b)) (lit s v)) ≡ false
        at true e = has-constant M (beq s b)
        at false e = h s v e u

    by : (o : Option Bool) → has M (function_by q x f.matrix o) ≡ false
    by (some b) = has-constant M b
    by none =
        has-tidy M (assign x (value q true) (relevant_subtree (of x) f.matrix))
        (has-replace U M (assigned x (value q true)) (apart (value q true)) (relevant_subtree (of x) f.matrix)
        (has-relevant_subtree (of x) U f.matrix k))

-- rows, and tidiness

pub rows_some : (t : Tree) → 1 ≤ rows t
unfolding rows
rows_some (lit s v) = le_refl _
rows_some (node o ts) = omega arith

pub rows-constant : (b : Bool) → rows (constant b) ≡ 1
unfolding rows
rows-constant true = refl
rows-constant false = refl

constant-tidy : (b : Bool) → is_tidy (constant b) ≡ true
unfolding is_tidy root_faults breaks any alone faults_all some_child some_two
constant-tidy true = refl
constant-tidy false = refl

rows-relevant : (L : Literals) (ts : Forest) → rows_all (relevant L ts) ≤ rows_all ts
unfolding relevant
rows-relevant L ts = rows-keep (has L) ts

mutual
  unfolding rows relevant_subtree

  pub rows-relevant_subtree : (L : Literals) (t : Tree) → rows (relevant_subtree L t) ≤ rows t
  rows-relevant_subtree L (lit s v) = le_refl _
  rows-relevant_subtree L (node o ts) = by (one_relevant L ts) (rows-relevant_below L ts) (rows-relevant L ts)
    where
      by : (m : Bool) → rows (relevant_below L ts) ≤ suc (rows_all ts) → rows_all (relevant L ts) ≤ rows_all ts
          → rows (cond m (relevant_below L ts) (node o (relevant L ts))) ≤ suc (rows_all ts)
      by true l k = l
      by false l k = omega arith

  rows-relevant_below : (L : Literals) (ts : Forest) → rows (relevant_below L ts) ≤ suc (rows_all ts)
  rows-relevant_below L ∅ = le_refl _
  rows-relevant_below L (t ▸ ts) = by (has L t) (rows-relevant_subtree L t) (rows-relevant_below L ts)
    where
      by : (m : Bool) → rows (relevant_subtree L t) ≤ rows t → rows (relevant_below L ts) ≤ suc (rows_all ts)
          → rows (cond m (relevant_subtree L t) (relevant_below L ts)) ≤ suc (rows t + rows_all ts)
      by true l k = omega arith
      by false l k = omega arith

pub rows_function : (x : ℕ) (f : Formula) → rows (function_of x f) ≤ rows f.matrix
unfolding function_of function_by
rows_function x f = by (may_settle x f)
  where
    q : Quantifier
    q = quantifier_of f.prefix x

    r : Tree
    r = relevant_subtree (of x) f.matrix

    by : (o : Option Bool) → rows (function_by q x f.matrix o) ≤ rows f.matrix
    by (some b) = omega (arith, rows-constant b, rows_some f.matrix)
    by none =
        omega (
          arith,
          rows-tidy (assign x (value q true) r),
          rows-assign x (value q true) r,
          rows-relevant_subtree (of x) f.matrix,
        )

pub function_tidy : (x : ℕ) (f : Formula) → is_tidy (function_of x f) ≡ true
unfolding function_of function_by
function_tidy x f = by (may_settle x f)
  where
    by : (o : Option Bool) → is_tidy (function_by (quantifier_of f.prefix x) x f.matrix o) ≡ true
    by (some b) = constant-tidy b
    by none = tidy-is_tidy (assign x (value (quantifier_of f.prefix x) true) (relevant_subtree (of x) f.matrix))

-- the raw function, which is tidied

pub tidy-raw_function : (q : Quantifier) (x : ℕ) (t : Tree) (o : Option Bool) → tidy (raw_function q x t o) ≡ function_by q x t o
unfolding raw_function function_by
tidy-raw_function q x t (some b) = (tidy_unchanged (constant b)).1 (constant-tidy b)
tidy-raw_function q x t none = refl

pub rows-raw-settled : (q : Quantifier) (x : ℕ) (t : Tree) (b : Bool) → rows (raw_function q x t (some b)) ≡ 1
unfolding raw_function
rows-raw-settled q x t b = rows-constant b

pub rows-raw-relevant : (q : Quantifier) (x : ℕ) (t : Tree) → rows (raw_function q x t none) ≡ rows (relevant_subtree (of x) t)
unfolding raw_function
rows-raw-relevant q x t = rows-assign x (value q true) (relevant_subtree (of x) t)
