-- A variable's row taken out of the prefix: one row less, no number twice, and every literal of the settled or raw tree still bound.
-- Assumes nothing.
use mathlib.Core.Path.{◌≡◌, refl, sym, ◌∙◌, ap, ap₂}
use mathlib.Core.Bool.{Bool, true, false, not, ◌&&◌, ◌||◌, cond, beq, false≢true, true≢false}
use mathlib.Core.List.{[], ◌∷◌}
use Prim.Native.Nat.{ℕ, suc}
use lib.Dec.{eqb}
use lib.ListN.{length}
use borrow.Author.Tests.{eqb-true, eq-eqb, not-true}
use Rattle.formula.specs.Tree.{Op, Tree, lit, node, Forest, ∅, ◌▸◌, Prefix, Formula, Literals, of, has, has_any, constant, assigned}
use Rattle.formula.specs.Tree.{assign, binds, without, distinct, closed, count, keep, quantifier_of}
use Rattle.formula.specs.Expand.{Copying, copying, relevant, one_relevant, all_relevant, copies, at_first, expand_tree, expand_below, raw_tree, raw}
use Rattle.formula.proofs.Booleans.{and_parts, or_parts}
use Rattle.formula.proofs.Evaluation.{has_cover, has_any_cover, has-replace, has-replace_all, has-constant}
use Rattle.formula.proofs.Expand.{one_first, one_later, one_counts, no_child}

-- the prefix without a row

pub length_without : (x : ℕ) (p : Prefix) → binds p x ≡ true → length p ≡ suc (length (without x p))
unfolding binds without
length_without x [] h = absurd (false≢true h)
length_without x (z ∷ p) h = by (eqb z.variable x) h (length_without x p)
  where
    by : (m : Bool) → (m || binds p x) ≡ true → (binds p x ≡ true → length p ≡ suc (length (without x p)))
        → suc (length p) ≡ suc (length (cond m p (z ∷ without x p)))
    by true k rest = refl
    by false k rest = ap suc (rest k)

pub binds-without : (x v : ℕ) (p : Prefix) → eqb v x ≡ false → binds (without x p) v ≡ binds p v
unfolding binds without
binds-without x v [] h = refl
binds-without x v (z ∷ p) h = by (eqb z.variable x) refl (binds-without x v p h)
  where
    apart : eqb z.variable x ≡ true → eqb z.variable v ≡ true → ◌≡◌ {A = Bool} true false
    apart e k = sym (eq-eqb v x (sym (eqb-true z.variable v k) ∙ eqb-true z.variable x e)) ∙ h

    passed : (m : Bool) → eqb z.variable x ≡ true → eqb z.variable v ≡ m → binds p v ≡ (m || binds p v)
    passed true e k = absurd (true≢false (apart e k))
    passed false e k = refl

    by : (m : Bool) → eqb z.variable x ≡ m → binds (without x p) v ≡ binds p v
        → binds (cond m p (z ∷ without x p)) v ≡ (eqb z.variable v || binds p v)
    by true e rest = passed (eqb z.variable v) e refl
    by false e rest = ap (λ (b : Bool). eqb z.variable v || b) rest

pub unbound-without : (x v : ℕ) (p : Prefix) → binds p v ≡ false → binds (without x p) v ≡ false
unfolding binds without
unbound-without x v [] h = refl
unbound-without x v (z ∷ p) h =
    let parts = or_parts (eqb z.variable v) (binds p v) h in
    by (eqb z.variable x) parts.0 parts.1 (unbound-without x v p parts.1)
  where
    by : (m : Bool) → eqb z.variable v ≡ false → binds p v ≡ false → binds (without x p) v ≡ false
        → binds (cond m p (z ∷ without x p)) v ≡ false
    by true e k rest = k
    by false e k rest = ap₂ ◌||◌ e rest

pub distinct_without : (x : ℕ) (p : Prefix) → distinct p ≡ true → distinct (without x p) ≡ true
unfolding distinct without
distinct_without x [] h = refl
distinct_without x (z ∷ p) h =
    let parts = and_parts (not (binds p z.variable)) (distinct p) h in
    by (eqb z.variable x) (not-true (binds p z.variable) parts.0) parts.1 (distinct_without x p parts.1)
  where
    by : (m : Bool) → binds p z.variable ≡ false → distinct p ≡ true → distinct (without x p) ≡ true
        → distinct (cond m p (z ∷ without x p)) ≡ true
    by true fresh d rest = d
    by false fresh d rest = ap₂ (λ (a b : Bool). not a && b) (unbound-without x z.variable p fresh) rest

-- literals that a prefix doesn't bind

abbrev pub unbound : Prefix → Literals
unbound p s v = not (binds p v)

-- a literal other than x stays bound
unbound_apart : (x : ℕ) (p : Prefix) (s : Bool) (v : ℕ) → of x s v ≡ false → unbound p s v ≡ false → unbound (without x p) s v ≡ false
unbound_apart x p s v e h = ap not (binds-without x v p e) ∙ h

unbound-assigned : (x : ℕ) (b : Bool) (p : Prefix) (s : Bool) (v : ℕ) → unbound p s v ≡ false
    → has (unbound (without x p)) (assigned x b s v) ≡ false
unfolding has
unbound-assigned x b p s v h = by (eqb v x) refl
  where
    by : (m : Bool) → eqb v x ≡ m → has (unbound (without x p)) (cond m (constant (beq s b)) (lit s v)) ≡ false
    by true e = has-constant (unbound (without x p)) (beq s b)
    by false e = unbound_apart x p s v e h

-- the raw tree: literals U don't occur before, M not after

pub has_any-keep : (U : Literals) (P : Tree → Bool) (ts : Forest) → has_any U ts ≡ false → has_any U (keep P ts) ≡ false
unfolding has keep
has_any-keep U P ∅ h = refl
has_any-keep U P (t ▸ ts) h =
    let parts = or_parts (has U t) (has_any U ts) h in
    by (P t) parts.0 (has_any-keep U P ts parts.1)
  where
    by : (m : Bool) → has U t ≡ false → has_any U (keep P ts) ≡ false → has_any U (cond m (t ▸ keep P ts) (keep P ts)) ≡ false
    by true e rest = ap₂ ◌||◌ e rest
    by false e rest = rest

module _ (c : Copying) (U M : Literals) (new₀ : (s : Bool) (v : ℕ) → U s v ≡ false → has M (c.first s v) ≡ false)
    (new₁ : (s : Bool) (v : ℕ) → U s v ≡ false → has M (c.second s v) ≡ false)
    (apart : (s : Bool) (v : ℕ) → c.chosen s v ≡ false → U s v ≡ false → M s v ≡ false) where
  has-copies : (o : Op) (rs : Forest) → has_any U rs ≡ false → has M (copies c o rs) ≡ false
  unfolding has copies
  has-copies o rs h =
      ap₂ ◌||◌ (has-replace_all U M c.first new₀ rs h) (ap (λ (b : Bool). b || false) (has-replace_all U M c.second new₁ rs h))

  has-relevant : (ts : Forest) → has_any U ts ≡ false → has_any U (relevant c.chosen ts) ≡ false
  unfolding relevant
  has-relevant ts h = has_any-keep U (has c.chosen) ts h

  has-kept_out : (ts : Forest) → has_any U ts ≡ false → has_any M (keep (λ t. not (has c.chosen t)) ts) ≡ false
  unfolding has keep
  has-kept_out ∅ h = refl
  has-kept_out (t ▸ ts) h =
      let parts = or_parts (has U t) (has_any U ts) h in
      by (has c.chosen t) refl parts.0 (has-kept_out ts parts.1)
    where
      outs : Forest
      outs = keep (λ t. not (has c.chosen t)) ts

      by : (m : Bool) → has c.chosen t ≡ m → has U t ≡ false → has_any M outs ≡ false
          → has_any M (cond (not m) (t ▸ outs) outs) ≡ false
      by true e k rest = rest
      by false e k rest = ap₂ ◌||◌ (has_cover c.chosen U M apart t e k) rest

  has-at_first : (new : Tree) (ts : Forest) → has M new ≡ false → has_any U ts ≡ false → has_any M (at_first c.chosen new ts) ≡ false
  unfolding has at_first
  has-at_first new ∅ n h = refl
  has-at_first new (t ▸ ts) n h =
      let parts = or_parts (has U t) (has_any U ts) h in
      by (has c.chosen t) refl parts.0 parts.1 (has-at_first new ts n parts.1)
    where
      by : (m : Bool) → has c.chosen t ≡ m → has U t ≡ false → has_any U ts ≡ false → has_any M (at_first c.chosen new ts) ≡ false
          → has_any M (cond m (new ▸ keep (λ u. not (has c.chosen u)) ts) (t ▸ at_first c.chosen new ts)) ≡ false
      by true e k ks rest = ap₂ ◌||◌ n (has-kept_out ts ks)
      by false e k ks rest = ap₂ ◌||◌ (has_cover c.chosen U M apart t e k) rest

  mutual
    unfolding has expand_tree

    pub has-expand : (t : Tree) → has U t ≡ false → has M (expand_tree c t) ≡ false
    has-expand (lit s v) h = ap₂ ◌||◌ (new₀ s v h) (ap (λ (b : Bool). b || false) (new₁ s v h))
    has-expand (node o ts) h = by (one_relevant c.chosen ts) refl (all_relevant c.chosen ts) (λ k. has-below ts k h)
      where
        by : (one : Bool) → one_relevant c.chosen ts ≡ one → (all : Bool)
            → (count (keep (has c.chosen) ts) ≡ 1 → has_any M (expand_below c ts) ≡ false)
            → has M
            (cond one (node o (expand_below c ts))
            (cond all (copies c o ts) (node o (at_first c.chosen (copies c o (relevant c.chosen ts)) ts)))) ≡ false
        by true e all below = below (one_counts c.chosen ts e)
        by false e true below = has-copies o ts h
        by false e false below =
            has-at_first (copies c o (relevant c.chosen ts)) ts (has-copies o (relevant c.chosen ts) (has-relevant ts h)) h

    has-below : (ts : Forest) → count (keep (has c.chosen) ts) ≡ 1 → has_any U ts ≡ false → has_any M (expand_below c ts) ≡ false
    has-below ∅ n h = absurd (no_child c.chosen n)
    has-below (t ▸ ts) n h =
        let parts = or_parts (has U t) (has_any U ts) h in
        by (has c.chosen t) refl parts.0 parts.1 (has-expand t parts.0) (λ k. has-below ts k parts.1)
      where
        by : (m : Bool) → has c.chosen t ≡ m → has U t ≡ false → has_any U ts ≡ false → has M (expand_tree c t) ≡ false
            → (count (keep (has c.chosen) ts) ≡ 1 → has_any M (expand_below c ts) ≡ false)
            → has_any M (cond m (expand_tree c t ▸ ts) (t ▸ expand_below c ts)) ≡ false
        by true e k ks here later = ap₂ ◌||◌ here (has_any_cover c.chosen U M apart ts (one_first c.chosen t ts n e) ks)
        by false e k ks here later = ap₂ ◌||◌ (has_cover c.chosen U M apart t e k) (later (one_later c.chosen t ts n e))

-- every literal of the new formula is bound

pub closed-assigned : (x : ℕ) (b : Bool) (f : Formula) → closed f ≡ true
    → closed (record { prefix = without x f.prefix; matrix = assign x b f.matrix }) ≡ true
unfolding closed assign
closed-assigned x b f h =
    ap not
    (has-replace (unbound f.prefix) (unbound (without x f.prefix)) (assigned x b) (unbound-assigned x b f.prefix) f.matrix
    (not-true (has (unbound f.prefix) f.matrix) h))

pub closed-raw : (x : ℕ) (f : Formula) → closed f ≡ true → closed (raw x f) ≡ true
unfolding closed raw raw_tree
closed-raw x f h = ap not (by (has (of x) f.matrix) refl)
  where
    c : Copying
    c = copying (quantifier_of f.prefix x) x

    U : Literals
    U = unbound f.prefix

    M : Literals
    M = unbound (without x f.prefix)

    free : has U f.matrix ≡ false
    free = not-true (has U f.matrix) h

    by : (m : Bool) → has (of x) f.matrix ≡ m → has M (cond m (expand_tree c f.matrix) f.matrix) ≡ false
    by true e =
        has-expand c U M (unbound-assigned x false f.prefix) (unbound-assigned x true f.prefix) (unbound_apart x f.prefix)
        f.matrix free
    by false e = has_cover (of x) U M (unbound_apart x f.prefix) f.matrix e free
