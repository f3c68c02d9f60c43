-- Laws of forests: tests on trees side by side, joining, keeping those that pass a test, and counting.
-- Assumes nothing.
use mathlib.Core.Path.{◌≡◌, refl, sym, ◌∙◌, ap, ap₂}
use mathlib.Core.Bool.{Bool, true, false, not, ◌&&◌, ◌||◌, cond, or_assoc, and_comm}
use Prim.Native.Nat.{suc, ◌+◌, ◌≤◌, ◌<◌}
use native.Mathlib.Nat.{zero-add, suc-add, add_assoc}
use native.Mathlib.Omega.{arith}
use borrow.Author.Tests.{not-true}
use Rattle.formula.specs.Tree.{Tree, lit, node, Forest, ∅, ◌▸◌, ◌⧺◌, Literals, rows, rows_all, has, has_any}
use Rattle.formula.specs.Tree.{some_child, some_two, keep, count}
use Rattle.formula.proofs.Booleans.{cond_cases, or_parts, or-none, or_exchange}

-- children that fail two tests, or one, fail another

pub some_child-both : (P Q R : Tree → Bool) → ((t : Tree) → P t ≡ false → Q t ≡ false → R t ≡ false)
    → (ts : Forest) → some_child P ts ≡ false → some_child Q ts ≡ false → some_child R ts ≡ false
unfolding some_child
some_child-both P Q R f ∅ p q = refl
some_child-both P Q R f (t ▸ ts) p q =
    let (p₁, p₂) = or_parts (P t) _ p in
    let (q₁, q₂) = or_parts (Q t) _ q in
    or-none (f t p₁ q₁) (some_child-both P Q R f ts p₂ q₂)

pub some_two-both : (P Q R : Tree → Tree → Bool) → ((t u : Tree) → P t u ≡ false → Q t u ≡ false → R t u ≡ false)
    → (ts : Forest) → some_two P ts ≡ false → some_two Q ts ≡ false → some_two R ts ≡ false
unfolding some_two
some_two-both P Q R f ∅ p q = refl
some_two-both P Q R f (t ▸ ts) p q =
    let (p₁, p₂) = or_parts (some_child (P t) ts) _ p in
    let (q₁, q₂) = or_parts (some_child (Q t) ts) _ q in
    or-none (some_child-both (P t) (Q t) (R t) (f t) ts p₁ q₁) (some_two-both P Q R f ts p₂ q₂)

pub some_child_less : (P Q : Tree → Bool) → ((t : Tree) → P t ≡ false → Q t ≡ false)
    → (ts : Forest) → some_child P ts ≡ false → some_child Q ts ≡ false
some_child_less P Q f ts p = some_child-both P P Q (λ t e _. f t e) ts p p

pub some_two_less : (P Q : Tree → Tree → Bool) → ((t u : Tree) → P t u ≡ false → Q t u ≡ false)
    → (ts : Forest) → some_two P ts ≡ false → some_two Q ts ≡ false
some_two_less P Q f ts p = some_two-both P P Q (λ t u e _. f t u e) ts p p

-- no child passes a test that no tree passes
pub some_child_never : (P : Tree → Bool) → ((u : Tree) → P u ≡ false) → (ts : Forest) → some_child P ts ≡ false
unfolding some_child
some_child_never P never ∅ = refl
some_child_never P never (t ▸ ts) = or-none (never t) (some_child_never P never ts)

-- equal tests

pub some_child_same : {P Q : Tree → Bool} → ((t : Tree) → P t ≡ Q t) → (ts : Forest) → some_child P ts ≡ some_child Q ts
unfolding some_child
some_child_same e ∅ = refl
some_child_same e (t ▸ ts) = ap₂ ◌||◌ (e t) (some_child_same e ts)

pub keep_same : {P Q : Tree → Bool} → ((t : Tree) → P t ≡ Q t) → (ts : Forest) → keep P ts ≡ keep Q ts
unfolding keep
keep_same e ∅ = refl
keep_same {P} {Q} e (t ▸ ts) = rw (e t) (ap (λ us. cond (Q t) (t ▸ us) us) (keep_same e ts))

pub some_child-or : (P Q : Tree → Bool) (ts : Forest) → some_child (λ t. P t || Q t) ts ≡ (some_child P ts || some_child Q ts)
unfolding some_child
some_child-or P Q ∅ = refl
some_child-or P Q (t ▸ ts) = ap (λ b. (P t || Q t) || b) (some_child-or P Q ts) ∙ or_exchange (P t) (Q t) (some_child P ts) (some_child Q ts)

pub some_two-or : (R S : Tree → Tree → Bool) (ts : Forest) → some_two (λ t u. R t u || S t u) ts ≡ (some_two R ts || some_two S ts)
unfolding some_two
some_two-or R S ∅ = refl
some_two-or R S (t ▸ ts) =
    ap₂ ◌||◌ (some_child-or (R t) (S t) ts) (some_two-or R S ts) ∙
    or_exchange (some_child (R t) ts) (some_child (S t) ts) (some_two R ts) (some_two S ts)

-- joining

pub ⧺-assoc : (ts us ws : Forest) → (ts ⧺ us) ⧺ ws ≡ ts ⧺ (us ⧺ ws)
unfolding ◌⧺◌
⧺-assoc ∅ us ws = refl
⧺-assoc (t ▸ ts) us ws = ap (λ l. t ▸ l) (⧺-assoc ts us ws)

pub ⧺-none : (ts : Forest) → ts ⧺ ∅ ≡ ts
unfolding ◌⧺◌
⧺-none ∅ = refl
⧺-none (t ▸ ts) = ap (λ l. t ▸ l) (⧺-none ts)

-- what sums a forest up tree by tree does so over two forests side by side
module _ {A : Type 0} (◌·◌ : A → A → A) (assoc : (a b c : A) → ◌·◌ (◌·◌ a b) c ≡ ◌·◌ a (◌·◌ b c)) (one : Tree → A) (all : Forest → A)
    (none : (a : A) → ◌·◌ (all ∅) a ≡ a) (more : (t : Tree) (ts : Forest) → all (t ▸ ts) ≡ ◌·◌ (one t) (all ts)) where
  pub all-⧺ : (ts us : Forest) → all (ts ⧺ us) ≡ ◌·◌ (all ts) (all us)
  unfolding ◌⧺◌
  all-⧺ ∅ us = sym (none (all us))
  all-⧺ (t ▸ ts) us =
      more t (ts ⧺ us) ∙ ap (◌·◌ (one t)) (all-⧺ ts us) ∙ sym (assoc (one t) (all ts) (all us)) ∙
      ap (λ a. ◌·◌ a (all us)) (sym (more t ts))

pub count-⧺ : (ts us : Forest) → count (ts ⧺ us) ≡ count ts + count us
unfolding count ◌⧺◌
count-⧺ ∅ us = sym (zero-add (count us))
count-⧺ (t ▸ ts) us = ap suc (count-⧺ ts us) ∙ sym (suc-add (count ts) (count us))

pub rows-⧺ : (ts us : Forest) → rows_all (ts ⧺ us) ≡ rows_all ts + rows_all us
unfolding rows_all
rows-⧺ = all-⧺ ◌+◌ add_assoc rows rows_all zero-add (λ t ts. refl)

pub has-⧺ : (L : Literals) (ts us : Forest) → has_any L (ts ⧺ us) ≡ (has_any L ts || has_any L us)
unfolding has_any
has-⧺ L = all-⧺ ◌||◌ or_assoc (has L) (has_any L) (λ a. refl) (λ t ts. refl)

pub some_child-⧺ : (P : Tree → Bool) (ts us : Forest) → some_child P (ts ⧺ us) ≡ (some_child P ts || some_child P us)
unfolding some_child
some_child-⧺ P = all-⧺ ◌||◌ or_assoc P (some_child P) (λ a. refl) (λ t ts. refl)

pub keep-⧺ : (P : Tree → Bool) (ts us : Forest) → keep P (ts ⧺ us) ≡ keep P ts ⧺ keep P us
unfolding keep ◌⧺◌
keep-⧺ P ∅ us = refl
keep-⧺ P (t ▸ ts) us = ap (λ ws. cond (P t) (t ▸ ws) ws) (keep-⧺ P ts us) ∙ out (P t)
  where
    out : (b : Bool) → cond b (t ▸ (keep P ts ⧺ keep P us)) (keep P ts ⧺ keep P us) ≡ cond b (t ▸ keep P ts) (keep P ts) ⧺ keep P us
    out true = refl
    out false = refl

-- two of the first, one of each, or two of the second
pub some_two-⧺ : (R : Tree → Tree → Bool) (ts us : Forest)
    → some_two R (ts ⧺ us) ≡ (some_two R ts || (some_child (λ u. some_child (λ t. R t u) ts) us || some_two R us))
unfolding some_two some_child ◌⧺◌
some_two-⧺ R ∅ us = sym (ap (λ b. b || some_two R us) (some_child_never (λ u. false) (λ u. refl) us))
some_two-⧺ R (t ▸ ts) us =
    ap₂ ◌||◌ (some_child-⧺ (R t) ts us) (some_two-⧺ R ts us) ∙
    mixed (some_child (R t) ts) (some_child (R t) us) (some_two R ts) (some_child (λ u. some_child (λ t'. R t' u) ts) us) (some_two R us) ∙
    ap (λ b. (some_child (R t) ts || some_two R ts) || (b || some_two R us)) (sym (some_child-or (R t) (λ u. some_child (λ t'. R t' u) ts) us))
  where
    mixed : (a b c d e : Bool) → ((a || b) || (c || (d || e))) ≡ ((a || c) || ((b || d) || e))
    mixed true b c d e = refl
    mixed false true true d e = refl
    mixed false true false d e = refl
    mixed false false c d e = refl

-- keeping: what is left passes every test that all passed, and the test that it was kept by

pub some_child-keep : (P Q : Tree → Bool) (ts : Forest) → some_child P ts ≡ false → some_child P (keep Q ts) ≡ false
unfolding some_child keep
some_child-keep P Q ∅ p = refl
some_child-keep P Q (t ▸ ts) p =
    let (at-t, at-ts) = or_parts (P t) _ p in
    let rest = some_child-keep P Q ts at-ts in
    cond_cases (λ us. some_child P us ≡ false) (Q t) (λ _. or-none at-t rest) (λ _. rest)

pub some_two-keep : (R : Tree → Tree → Bool) (Q : Tree → Bool) (ts : Forest) → some_two R ts ≡ false → some_two R (keep Q ts) ≡ false
unfolding some_two keep
some_two-keep R Q ∅ p = refl
some_two-keep R Q (t ▸ ts) p =
    let (at-t, at-ts) = or_parts (some_child (R t) ts) _ p in
    let rest = some_two-keep R Q ts at-ts in
    cond_cases (λ us. some_two R us ≡ false) (Q t) (λ _. or-none (some_child-keep (R t) Q ts at-t) rest) (λ _. rest)

pub kept : (P : Tree → Bool) (ts : Forest) → some_child P (keep (λ t. not (P t)) ts) ≡ false
unfolding some_child keep
kept P ∅ = refl
kept P (t ▸ ts) = cond_cases (λ us. some_child P us ≡ false) (not (P t)) (λ e. or-none (not-true (P t) e) (kept P ts)) (λ _. kept P ts)

pub keep_all : (P : Tree → Bool) (ts : Forest) → some_child P ts ≡ false → keep (λ t. not (P t)) ts ≡ ts
unfolding some_child keep
keep_all P ∅ p = refl
keep_all P (t ▸ ts) p =
    let (at-t, at-ts) = or_parts (P t) _ p in
    rw at-t (ap (λ us. t ▸ us) (keep_all P ts at-ts))

pub keep_every : (P : Tree → Bool) → ((t : Tree) → P t ≡ true) → (ts : Forest) → keep P ts ≡ ts
unfolding keep
keep_every P e ∅ = refl
keep_every P e (t ▸ ts) = rw (e t) (ap (λ us. t ▸ us) (keep_every P e ts))

pub keep-keep : (P Q S : Tree → Bool) → ((t : Tree) → S t ≡ (Q t && P t)) → (ts : Forest) → keep P (keep Q ts) ≡ keep S ts
unfolding keep
keep-keep P Q S e ∅ = refl
keep-keep P Q S e (t ▸ ts) = go (Q t) refl (keep-keep P Q S e ts)
  where
    both : (b : Bool) → Q t ≡ b → cond (b && P t) (t ▸ keep S ts) (keep S ts) ≡ cond (S t) (t ▸ keep S ts) (keep S ts)
    both b q = ap (λ c. cond c (t ▸ keep S ts) (keep S ts)) (sym (e t ∙ ap (λ c. c && P t) q))

    go : (b : Bool) → Q t ≡ b → keep P (keep Q ts) ≡ keep S ts
        → keep P (cond b (t ▸ keep Q ts) (keep Q ts)) ≡ cond (S t) (t ▸ keep S ts) (keep S ts)
    go true q ih = ap (λ us. cond (P t) (t ▸ us) us) ih ∙ both true q
    go false q ih = ih ∙ both false q

-- keeping by two tests, in either order
pub keep_swap : (P Q : Tree → Bool) (ts : Forest) → keep P (keep Q ts) ≡ keep Q (keep P ts)
keep_swap P Q ts = keep-keep P Q (λ t. Q t && P t) (λ _. refl) ts ∙ sym (keep-keep Q P (λ t. Q t && P t) (λ t. and_comm (Q t) (P t)) ts)

-- rows and count

pub rows-▸ : (t : Tree) (ts : Forest) → rows_all (t ▸ ts) ≡ rows t + rows_all ts
unfolding rows_all
rows-▸ t ts = refl

pub rows_positive : (t : Tree) → 0 < rows t
unfolding rows
rows_positive (lit s v) = omega arith
rows_positive (node o ts) = omega arith

pub count-rows : (ts : Forest) → count ts ≤ rows_all ts
unfolding count rows_all
count-rows ∅ = omega arith
count-rows (t ▸ ts) = omega (arith, rows_positive t, count-rows ts)
