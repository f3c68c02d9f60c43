-- Local expansion: the raw tree's value and rows, and the truth of the expanded formula.
-- Assumes nothing.
use mathlib.Core.Path.{◌≡◌, refl, sym, ◌∙◌, ap, ap₂}
use mathlib.Core.Bool.{Bool, true, false, not, ◌||◌, cond, beq, false≢true, true≢false}
use Prim.Native.Nat.{ℕ, suc, ◌+◌, ◌≤◌}
use native.Mathlib.Omega.{arith}
use borrow.Author.Tests.{eqb-true, not-true, not-false}
use Rattle.formula.specs.Tree.{Op, Quantifier, Tree, lit, node, Forest, ∅, ◌▸◌, Formula, Literals, of, rows, rows_all, has, has_any}
use Rattle.formula.specs.Tree.{replace_all, binds, quantifier_of, without, distinct, count, some_child, keep}
use Rattle.formula.specs.Truth.{Assignment, put, join, unit, eval, eval_all, truth, Ignores}
use Rattle.formula.specs.Expand.{all_of, occurs, occurring, later, innermost, Copying, copying, relevant, one_relevant, all_relevant}
use Rattle.formula.specs.Expand.{copies, at_first, expand_tree, expand_below, raw_tree, growth, growth_below, raw_rows, raw}
use Rattle.formula.proofs.Booleans.{join_comm, join_assoc, join_self, join-unit, join_share, share_join, and_parts, or_parts}
use Rattle.formula.proofs.Binding.{bind_ext, bind_expand}
use Rattle.formula.proofs.Evaluation.{eval-replace_all, eval-assigned, eval_same, eval_all_same, put_other, rows-replace_all, rows-assigned}

-- forests divided by a test

pub keep-none : (L : Literals) (ts : Forest) → count (keep (has L) ts) ≡ 0 → has_any L ts ≡ false
unfolding keep count has
keep-none L ∅ h = refl
keep-none L (t ▸ ts) h = by (has L t) h (keep-none L ts)
  where
    by : (m : Bool) → count (cond m (t ▸ keep (has L) ts) (keep (has L) ts)) ≡ 0
        → (count (keep (has L) ts) ≡ 0 → has_any L ts ≡ false) → (m || has_any L ts) ≡ false
    by true k rest = absurd (omega arith)
    by false k rest = rest k

keep_all : (P : Tree → Bool) (ts : Forest) → some_child (λ t. not (P t)) ts ≡ false → keep P ts ≡ ts
unfolding keep some_child
keep_all P ∅ h = refl
keep_all P (t ▸ ts) h =
    let parts = or_parts (not (P t)) (some_child (λ t. not (P t)) ts) h in
    ap₂ (λ (m : Bool) (us : Forest). cond m (t ▸ us) us) (not-false (P t) parts.0) (keep_all P ts parts.1)

-- the children that fail the test have no literal of the set
pub has_any-kept_out : (L : Literals) (ts : Forest) → has_any L (keep (λ t. not (has L t)) ts) ≡ false
unfolding keep has
has_any-kept_out L ∅ = refl
has_any-kept_out L (t ▸ ts) = by (has L t) refl (has_any-kept_out L ts)
  where
    by : (m : Bool) → has L t ≡ m → has_any L (keep (λ t. not (has L t)) ts) ≡ false
        → has_any L (cond (not m) (t ▸ keep (λ t. not (has L t)) ts) (keep (λ t. not (has L t)) ts)) ≡ false
    by true e rest = rest
    by false e rest = ap₂ ◌||◌ e rest

pub eval_divided : (P : Tree → Bool) (o : Op) (ρ : Assignment) (ts : Forest)
    → eval_all ts o ρ ≡ join o (eval_all (keep P ts) o ρ) (eval_all (keep (λ t. not (P t)) ts) o ρ)
unfolding eval keep
eval_divided P o ρ ∅ = sym (join-unit o (unit o))
eval_divided P o ρ (t ▸ ts) = ap (join o (eval t ρ)) (eval_divided P o ρ ts) ∙ by (P t)
  where
    ins : Bool
    ins = eval_all (keep P ts) o ρ

    outs : Bool
    outs = eval_all (keep (λ t. not (P t)) ts) o ρ

    by : (m : Bool)
        → join o (eval t ρ) (join o ins outs) ≡
        join o (eval_all (cond m (t ▸ keep P ts) (keep P ts)) o ρ)
        (eval_all (cond (not m) (t ▸ keep (λ t. not (P t)) ts) (keep (λ t. not (P t)) ts)) o ρ)
    by true = sym (join_assoc o (eval t ρ) ins outs)
    by false =
        sym (join_assoc o (eval t ρ) ins outs) ∙ ap (λ (b : Bool). join o b outs) (join_comm o (eval t ρ) ins) ∙
        join_assoc o ins (eval t ρ) outs

rows_divided : (P : Tree → Bool) (ts : Forest) → rows_all ts ≡ rows_all (keep P ts) + rows_all (keep (λ t. not (P t)) ts)
unfolding rows keep
rows_divided P ∅ = refl
rows_divided P (t ▸ ts) = by (P t) (rows_divided P ts)
  where
    by : (m : Bool) → rows_all ts ≡ rows_all (keep P ts) + rows_all (keep (λ t. not (P t)) ts)
        → rows t + rows_all ts ≡
        rows_all (cond m (t ▸ keep P ts) (keep P ts)) +
        rows_all (cond (not m) (t ▸ keep (λ t. not (P t)) ts) (keep (λ t. not (P t)) ts))
    by true e = omega arith
    by false e = omega arith

rows_split : (L : Literals) (ts : Forest) → rows_all ts ≡ rows_all (relevant L ts) + rows_all (keep (λ t. not (has L t)) ts)
unfolding relevant
rows_split L ts = rows_divided (has L) ts

rows-relevant : (L : Literals) (ts : Forest) → all_relevant L ts ≡ true → rows_all (relevant L ts) ≡ rows_all ts
unfolding all_relevant relevant
rows-relevant L ts h = ap rows_all (keep_all (has L) ts (not-true (some_child (λ t. not (has L t)) ts) h))

-- the new node at the spot of the first relevant child

eval-at_first : (L : Literals) (new : Tree) (o : Op) (ρ : Assignment) (ts : Forest) → has_any L ts ≡ true
    → eval_all (at_first L new ts) o ρ ≡ join o (eval new ρ) (eval_all (keep (λ t. not (has L t)) ts) o ρ)
unfolding eval has keep at_first
eval-at_first L new o ρ ∅ h = absurd (false≢true h)
eval-at_first L new o ρ (t ▸ ts) h = by (has L t) h (eval-at_first L new o ρ ts)
  where
    outs : Bool
    outs = eval_all (keep (λ t. not (has L t)) ts) o ρ

    by : (m : Bool) → (m || has_any L ts) ≡ true → (has_any L ts ≡ true → eval_all (at_first L new ts) o ρ ≡ join o (eval new ρ) outs)
        → eval_all (cond m (new ▸ keep (λ u. not (has L u)) ts) (t ▸ at_first L new ts)) o ρ ≡
        join o (eval new ρ) (eval_all (cond (not m) (t ▸ keep (λ t. not (has L t)) ts) (keep (λ t. not (has L t)) ts)) o ρ)
    by true k rest = refl
    by false k rest =
        ap (join o (eval t ρ)) (rest k) ∙ sym (join_assoc o (eval t ρ) (eval new ρ) outs) ∙
        ap (λ (b : Bool). join o b outs) (join_comm o (eval t ρ) (eval new ρ)) ∙ join_assoc o (eval new ρ) (eval t ρ) outs

rows-at_first : (L : Literals) (new : Tree) (ts : Forest) → has_any L ts ≡ true
    → rows_all (at_first L new ts) ≡ rows new + rows_all (keep (λ t. not (has L t)) ts)
unfolding rows has keep at_first
rows-at_first L new ∅ h = absurd (false≢true h)
rows-at_first L new (t ▸ ts) h = by (has L t) h (rows-at_first L new ts)
  where
    by : (m : Bool) → (m || has_any L ts) ≡ true
        → (has_any L ts ≡ true → rows_all (at_first L new ts) ≡ rows new + rows_all (keep (λ t. not (has L t)) ts))
        → rows_all (cond m (new ▸ keep (λ u. not (has L u)) ts) (t ▸ at_first L new ts)) ≡
        rows new + rows_all (cond (not m) (t ▸ keep (λ t. not (has L t)) ts) (keep (λ t. not (has L t)) ts))
    by true k rest = refl
    by false k rest = let e = rest k in omega arith

-- one relevant child: it is the first, or stands among the others

pub one_first : (L : Literals) (t : Tree) (ts : Forest) → count (keep (has L) (t ▸ ts)) ≡ 1 → has L t ≡ true → has_any L ts ≡ false
unfolding keep count
one_first L t ts h e = keep-none L ts (by (has L t) e h)
  where
    by : (m : Bool) → m ≡ true → count (cond m (t ▸ keep (has L) ts) (keep (has L) ts)) ≡ 1 → count (keep (has L) ts) ≡ 0
    by true k c = omega arith
    by false k c = absurd (false≢true k)

pub one_later : (L : Literals) (t : Tree) (ts : Forest) → count (keep (has L) (t ▸ ts)) ≡ 1 → has L t ≡ false → count (keep (has L) ts) ≡ 1
unfolding keep count
one_later L t ts h e = by (has L t) e h
  where
    by : (m : Bool) → m ≡ false → count (cond m (t ▸ keep (has L) ts) (keep (has L) ts)) ≡ 1 → count (keep (has L) ts) ≡ 1
    by true k c = absurd (true≢false k)
    by false k c = c

pub one_counts : (L : Literals) (ts : Forest) → one_relevant L ts ≡ true → count (keep (has L) ts) ≡ 1
unfolding one_relevant relevant
one_counts L ts h = eqb-true (count (keep (has L) ts)) 1 h

pub no_child : (L : Literals) → count (keep (has L) ∅) ≡ 1 → ⊥
unfolding keep count
no_child L h = omega arith

-- The copies' literals have their values under σ₀ and under σ₁, and the two differ from ρ at chosen literals only.
pub record Values (c : Copying) (ρ σ₀ σ₁ : Assignment) : Type 0 where
  pub in_first : (s : Bool) (v : ℕ) → eval (c.first s v) ρ ≡ beq s (σ₀ v)
  pub in_second : (s : Bool) (v : ℕ) → eval (c.second s v) ρ ≡ beq s (σ₁ v)
  pub apart₀ : (s : Bool) (v : ℕ) → c.chosen s v ≡ false → σ₀ v ≡ ρ v
  pub apart₁ : (s : Bool) (v : ℕ) → c.chosen s v ≡ false → σ₁ v ≡ ρ v

module _ (c : Copying) (ρ σ₀ σ₁ : Assignment) (values : Values c ρ σ₀ σ₁) where
  eval-copies : (o : Op) (rs : Forest) → eval (copies c o rs) ρ ≡ join c.joint (eval_all rs o σ₀) (eval_all rs o σ₁)
  unfolding eval copies
  eval-copies o rs =
      ap₂ (join c.joint) (eval-replace_all c.first ρ σ₀ values.in_first o rs)
      (join-unit c.joint (eval_all (replace_all c.second rs) o ρ) ∙
      eval-replace_all c.second ρ σ₁ values.in_second o rs)

  -- the irrelevant children have one value under all three
  eval_placed : (o : Op) (ts : Forest) → has_any c.chosen ts ≡ true
      → eval_all (at_first c.chosen (copies c o (relevant c.chosen ts)) ts) o ρ ≡
      join c.joint (eval_all ts o σ₀) (eval_all ts o σ₁)
  unfolding relevant
  eval_placed o ts h =
      let L : Literals = c.chosen in
      let out : Forest = keep (λ t. not (has L t)) ts in
      let kept : Forest = keep (has L) ts in
      let divided : (σ : Assignment) → ((s : Bool) (v : ℕ) → L s v ≡ false → σ v ≡ ρ v)
      → eval_all ts o σ ≡ join o (eval_all kept o σ) (eval_all out o ρ)
      = λ σ apart. eval_divided (has L) o σ ts ∙
      ap (join o (eval_all kept o σ)) (eval_all_same L σ ρ apart o out (has_any-kept_out L ts)) in
      eval-at_first L (copies c o kept) o ρ ts h ∙ ap (λ (b : Bool). join o b (eval_all out o ρ)) (eval-copies o kept) ∙
      sym (join_share c.joint o (eval_all kept o σ₀) (eval_all kept o σ₁) (eval_all out o ρ)) ∙
      sym (ap₂ (join c.joint) (divided σ₀ values.apart₀) (divided σ₁ values.apart₁))

  mutual
    unfolding eval has expand_tree

    -- the raw tree joins the values that the tree has under the two
    pub eval-expand : (t : Tree) → has c.chosen t ≡ true → eval (expand_tree c t) ρ ≡ join c.joint (eval t σ₀) (eval t σ₁)
    eval-expand (lit s v) h =
        ap₂ (join c.joint) (values.in_first s v) (join-unit c.joint (eval (c.second s v) ρ) ∙ values.in_second s v)
    eval-expand (node o ts) h = by (one_relevant c.chosen ts) refl (all_relevant c.chosen ts) refl (λ k. eval-below o ts k)
      where
        by : (one : Bool) → one_relevant c.chosen ts ≡ one → (all : Bool) → all_relevant c.chosen ts ≡ all
            → (count (keep (has c.chosen) ts) ≡ 1
            → eval_all (expand_below c ts) o ρ ≡ join c.joint (eval_all ts o σ₀) (eval_all ts o σ₁))
            → eval
            (cond one (node o (expand_below c ts))
            (cond all (copies c o ts) (node o (at_first c.chosen (copies c o (relevant c.chosen ts)) ts)))) ρ ≡
            join c.joint (eval_all ts o σ₀) (eval_all ts o σ₁)
        by true e all k below = below (one_counts c.chosen ts e)
        by false e true k below = eval-copies o ts
        by false e false k below = eval_placed o ts h

    eval-below : (o : Op) (ts : Forest) → count (keep (has c.chosen) ts) ≡ 1
        → eval_all (expand_below c ts) o ρ ≡ join c.joint (eval_all ts o σ₀) (eval_all ts o σ₁)
    eval-below o ∅ h = absurd (no_child c.chosen h)
    eval-below o (t ▸ ts) h = by (has c.chosen t) refl (λ k. eval-expand t k) (λ k. eval-below o ts k)
      where
        L : Literals
        L = c.chosen

        by : (m : Bool) → has L t ≡ m → (has L t ≡ true → eval (expand_tree c t) ρ ≡ join c.joint (eval t σ₀) (eval t σ₁))
            → (count (keep (has L) ts) ≡ 1 → eval_all (expand_below c ts) o ρ ≡ join c.joint (eval_all ts o σ₀) (eval_all ts o σ₁))
            → eval_all (cond m (expand_tree c t ▸ ts) (t ▸ expand_below c ts)) o ρ ≡
            join c.joint (join o (eval t σ₀) (eval_all ts o σ₀)) (join o (eval t σ₁) (eval_all ts o σ₁))
        by true e here later =
            let rest : (σ : Assignment) → ((s : Bool) (v : ℕ) → L s v ≡ false → σ v ≡ ρ v) → eval_all ts o σ ≡ eval_all ts o ρ
            = λ σ apart. eval_all_same L σ ρ apart o ts (one_first L t ts h e) in
            ap (λ (b : Bool). join o b (eval_all ts o ρ)) (here e) ∙
            sym (join_share c.joint o (eval t σ₀) (eval t σ₁) (eval_all ts o ρ)) ∙
            sym
            (ap₂ (λ (a b : Bool). join c.joint (join o (eval t σ₀) a) (join o (eval t σ₁) b)) (rest σ₀ values.apart₀)
            (rest σ₁ values.apart₁))
        by false e here later =
            let one : (σ : Assignment) → ((s : Bool) (v : ℕ) → L s v ≡ false → σ v ≡ ρ v) → eval t σ ≡ eval t ρ
            = λ σ apart. eval_same L σ ρ apart t e in
            ap (join o (eval t ρ)) (later (one_later L t ts h e)) ∙
            sym (share_join c.joint o (eval t ρ) (eval_all ts o σ₀) (eval_all ts o σ₁)) ∙
            sym
            (ap₂ (λ (a b : Bool). join c.joint (join o a (eval_all ts o σ₀)) (join o b (eval_all ts o σ₁)))
            (one σ₀ values.apart₀) (one σ₁ values.apart₁))

-- the raw tree of x: exists joins its two values by OR, for all by AND; with no literal of x the two are one
pub values_of : (q : Quantifier) (x : ℕ) (ρ : Assignment) → Values (copying q x) ρ (put ρ x false) (put ρ x true)
values_of q x ρ =
    record {
      in_first = eval-assigned x false ρ;
      in_second = eval-assigned x true ρ;
      apart₀ = put_other x false ρ;
      apart₁ = put_other x true ρ;
    }

pub eval-raw_tree : (q : Quantifier) (x : ℕ) (t : Tree) (ρ : Assignment)
    → eval (raw_tree (copying q x) t) ρ ≡ join q (eval t (put ρ x false)) (eval t (put ρ x true))
unfolding raw_tree
eval-raw_tree q x t ρ = by (has (of x) t) refl
  where
    by : (m : Bool) → has (of x) t ≡ m
        → eval (cond m (expand_tree (copying q x) t) t) ρ ≡ join q (eval t (put ρ x false)) (eval t (put ρ x true))
    by true e = eval-expand (copying q x) ρ (put ρ x false) (put ρ x true) (values_of q x ρ) t e
    by false e =
        let same : (b : Bool) → eval t (put ρ x b) ≡ eval t ρ = λ b. eval_same (of x) (put ρ x b) ρ (put_other x b ρ) t e in
        sym (ap₂ (join q) (same false) (same true) ∙ join_self q (eval t ρ))

-- a tree ignores the variables that have no literal in it
pub eval_ignores : (t : Tree) (v : ℕ) → occurs t v ≡ false → Ignores (eval t) v
eval_ignores t v e ρ b = eval_same (of v) (put ρ v b) ρ (put_other v b ρ) t e

-- before it is tidied, the expanded formula has the truth of the formula
pub truth-raw : (x : ℕ) (f : Formula) → innermost x f ≡ true → distinct f.prefix ≡ true → truth (raw x f) ≡ truth f
unfolding truth raw innermost later occurring
truth-raw x f h d =
    let q : Quantifier = quantifier_of f.prefix x in
    let start : Assignment = λ _. false in
    let parts = and_parts (binds f.prefix x) (all_of q (later x f)) h in
    bind_ext (without x f.prefix) (eval-raw_tree q x f.matrix) start ∙
    sym (bind_expand (occurs f.matrix) f.prefix (eval f.matrix) x (eval_ignores f.matrix) start parts.0 parts.1 d)

-- rows

module _ (c : Copying) (one₀ : (s : Bool) (v : ℕ) → rows (c.first s v) ≡ 1) (one₁ : (s : Bool) (v : ℕ) → rows (c.second s v) ≡ 1) where
  rows-copies : (o : Op) (rs : Forest) → rows (copies c o rs) ≡ 3 + (rows_all rs + rows_all rs)
  unfolding rows copies
  rows-copies o rs =
      let e₀ = rows-replace_all c.first one₀ rs in
      let e₁ = rows-replace_all c.second one₁ rs in
      omega arith

  mutual
    unfolding rows has expand_tree growth

    pub rows-expand : (t : Tree) → has c.chosen t ≡ true → rows (expand_tree c t) ≡ rows t + growth c.chosen t
    rows-expand (lit s v) h = let e₀ = one₀ s v in let e₁ = one₁ s v in omega arith
    rows-expand (node o ts) h =
        by (one_relevant c.chosen ts) refl (all_relevant c.chosen ts) refl (λ k. rows-below ts k)
      where
        L : Literals
        L = c.chosen

        R : ℕ
        R = rows_all (relevant L ts)

        by : (one : Bool) → one_relevant L ts ≡ one → (all : Bool) → all_relevant L ts ≡ all
            → (has_any L ts ≡ true → rows_all (expand_below c ts) ≡ rows_all ts + growth_below L ts)
            → rows
            (cond one (node o (expand_below c ts))
            (cond all (copies c o ts) (node o (at_first L (copies c o (relevant L ts)) ts)))) ≡
            suc (rows_all ts) + cond one (growth_below L ts) (cond all (1 + R + 1) (1 + R + 2))
        by true e all k below = let b = below h in omega arith
        by false e true k below = let c₂ = rows-copies o ts in let a = rows-relevant L ts k in omega arith
        by false e false k below =
            let c₂ = rows-copies o (relevant L ts) in
            let p = rows-at_first L (copies c o (relevant L ts)) ts h in
            let d = rows_split L ts in
            omega arith

    rows-below : (ts : Forest) → has_any c.chosen ts ≡ true → rows_all (expand_below c ts) ≡ rows_all ts + growth_below c.chosen ts
    rows-below ∅ h = absurd (false≢true h)
    rows-below (t ▸ ts) h = by (has c.chosen t) refl h (λ k. rows-expand t k) (λ k. rows-below ts k)
      where
        L : Literals
        L = c.chosen

        by : (m : Bool) → has L t ≡ m → (m || has_any L ts) ≡ true
            → (has L t ≡ true → rows (expand_tree c t) ≡ rows t + growth L t)
            → (has_any L ts ≡ true → rows_all (expand_below c ts) ≡ rows_all ts + growth_below L ts)
            → rows_all (cond m (expand_tree c t ▸ ts) (t ▸ expand_below c ts)) ≡
            rows t + rows_all ts + cond m (growth L t) (growth_below L ts)
        by true e k here later = let r = here e in omega arith
        by false e k here later = let r = later k in omega arith

-- the paper's count of raw rows is that of the raw tree
pub rows-raw_tree : (q : Quantifier) (x : ℕ) (t : Tree) → rows (raw_tree (copying q x) t) ≡ raw_rows (of x) t
unfolding raw_tree raw_rows
rows-raw_tree q x t = by (has (of x) t) refl
  where
    by : (m : Bool) → has (of x) t ≡ m → rows (cond m (expand_tree (copying q x) t) t) ≡ cond m (rows t + growth (of x) t) (rows t)
    by true e = rows-expand (copying q x) (rows-assigned x false) (rows-assigned x true) t e
    by false e = refl

-- the raw tree has at most twice the rows, and two

mutual
  unfolding growth rows

  growth_most : (L : Literals) (t : Tree) → growth L t ≤ rows t + 2
  growth_most L (lit s v) = omega arith
  growth_most L (node o ts) = by (one_relevant L ts) (all_relevant L ts) (growth_below_most L ts) (rows_split L ts)
    where
      by : (m n : Bool) → growth_below L ts ≤ rows_all ts + 2 → rows_all ts ≡ rows_all (relevant L ts) + rows_all (keep (λ t. not (has L t)) ts)
          → cond m (growth_below L ts) (cond n (1 + rows_all (relevant L ts) + 1) (1 + rows_all (relevant L ts) + 2)) ≤ suc (rows_all ts) + 2
      by true n l e = omega arith
      by false true l e = omega arith
      by false false l e = omega arith

  growth_below_most : (L : Literals) (ts : Forest) → growth_below L ts ≤ rows_all ts + 2
  growth_below_most L ∅ = omega arith
  growth_below_most L (t ▸ ts) = by (has L t) (growth_most L t) (growth_below_most L ts)
    where
      by : (m : Bool) → growth L t ≤ rows t + 2 → growth_below L ts ≤ rows_all ts + 2 → cond m (growth L t) (growth_below L ts) ≤ rows t + rows_all ts + 2
      by true l k = omega arith
      by false l k = omega arith

pub raw_rows_most : (L : Literals) (t : Tree) → raw_rows L t ≤ rows t + rows t + 2
unfolding raw_rows
raw_rows_most L t = by (has L t) (growth_most L t)
  where
    by : (m : Bool) → growth L t ≤ rows t + 2 → cond m (rows t + growth L t) (rows t) ≤ rows t + rows t + 2
    by true l = omega arith
    by false l = omega arith
