-- Universal reduction keeps the truth of a tidy formula of the clause profile. By recursion on the prefix from outside: at a universal
-- row behind which no existential literal of a clause is bound, the clause splits off the conjunction, and its literals of that row
-- fall to their falsifying value.
-- Assumes nothing.
use mathlib.Core.Path.{◌≡◌, refl, sym, ◌∙◌, ap, ap₂}
use mathlib.Core.Bool.{Bool, true, false, not, ◌&&◌, ◌||◌, cond, beq, and_assoc, and_comm, and-true, and-false, or-true, or-false, false≢true, true≢false}
use mathlib.Core.List.{[], ◌∷◌}
use mathlib.Core.Logic.{⊎_elim}
use Prim.Native.Nat.{ℕ, ◌≤◌}
use native.Mathlib.Omega.{arith}
use lib.Dec.{eqb}
use borrow.Author.Tests.{eqb-true, eq-eqb, not-true, not-false}
use Rattle.formula.specs.Tree.{and, or, Quantifier, same_op, exists, for_all, Tree, lit, node, Forest, ∅, ◌▸◌, Binding, Prefix}
use Rattle.formula.specs.Tree.{Formula, Literals, binds, quantifier_of, distinct, closed, of, of_sign, rows, rows_all, has, has_any}
use Rattle.formula.specs.Tree.{some_child, some_two, keep, ◌⧺◌}
use Rattle.formula.specs.Truth.{Assignment, put, join, eval, eval_all, bind, truth, Leads, Ignores}
use Rattle.formula.specs.Tidy.{is_op, equal, duplicate, same_variable, spliced, splice, decides, firsts, unwrap, combine, tidy}
use Rattle.formula.specs.Tidy.{tidy_all, is_tidy, breaks, faults, faults_all, root_faults, any}
use Rattle.formula.specs.Expand.{after, occurs}
use Rattle.formula.specs.Reduce.{is_literal, is_clause, in_profile, has_existential, goes, stays, reduce_clause, reduce_all, reduce_tree, reduced}
use Rattle.formula.proofs.Booleans.{share_join, and_parts, or_parts, or-none, or_cases, same_op_eq}
use Rattle.formula.proofs.Binding.{bind_ext}
use Rattle.formula.proofs.Evaluation.{eval_all_same, put_other}
use Rattle.formula.proofs.Forests.{keep_same, keep_every, keep-keep, some_child-keep, some_two-keep}
use Rattle.formula.proofs.Tidy.Truth.{eval-tidy}
use Rattle.formula.proofs.Tidy.Limits.{tidy-is_tidy, any-++, faulty_root, limits}
use Rattle.formula.proofs.Tidy.Growth.{rows-tidy, rows-keep, has-tidy}
use Rattle.formula.proofs.Closed.{unbound}
use Rattle.formula.proofs.Steps.{Proper}
use Rattle.formula.specs.Inner.Clauses.{blank, blank_forest, blank_clause, blank_all, blank_tree, has_and, some_and, and_below}

-- a conjunct that ignores every variable of a prefix stands outside it

bind-outside : (p : Prefix) (c k : Assignment → Bool) → ((v : ℕ) → binds p v ≡ true → Ignores c v) → (ρ : Assignment)
    → bind p (λ σ. c σ && k σ) ρ ≡ (c ρ && bind p k ρ)
unfolding bind binds
bind-outside [] c k h ρ = refl
bind-outside (z ∷ p) c k h ρ =
    let own : Ignores c z.variable
    = h z.variable (ap (λ (m : Bool). m || binds p z.variable) (eq-eqb z.variable z.variable refl)) in
    let copy : (b : Bool) → bind p (λ σ. c σ && k σ) (put ρ z.variable b) ≡ (c ρ && bind p k (put ρ z.variable b))
    = λ b.
    bind-outside p c k (λ v e. h v (ap (λ (m : Bool). eqb z.variable v || m) e ∙ or-true (eqb z.variable v))) (put ρ z.variable b) ∙
    ap (λ (m : Bool). m && bind p k (put ρ z.variable b)) (own ρ b) in
    ap₂ (join z.quantifier) (copy false) (copy true) ∙
    share_join z.quantifier and (c ρ) (bind p k (put ρ z.variable false)) (bind p k (put ρ z.variable true))

-- so at a universal row it may give way to what it says at both values
bind_universal : (z : Binding) (p : Prefix) (c c' k : Assignment → Bool) → z.quantifier ≡ for_all
    → ((v : ℕ) → binds p v ≡ true → Ignores c v) → ((v : ℕ) → binds p v ≡ true → Ignores c' v) → Ignores c' z.variable
    → ((ρ : Assignment) → (c (put ρ z.variable false) && c (put ρ z.variable true)) ≡ c' ρ) → (ρ : Assignment)
    → bind (z ∷ p) (λ σ. c σ && k σ) ρ ≡ bind (z ∷ p) (λ σ. c' σ && k σ) ρ
unfolding bind
bind_universal z p c c' k q h h' own both ρ =
    rw q
    (ap₂ ◌&&◌ (bind-outside p c k h ρ₀) (bind-outside p c k h ρ₁) ∙ crossed (c ρ₀) (bind p k ρ₀) (c ρ₁) (bind p k ρ₁) ∙
    ap (λ (m : Bool). m && (bind p k ρ₀ && bind p k ρ₁)) (both ρ) ∙ twice (c' ρ) (bind p k ρ₀) (bind p k ρ₁) ∙
    sym
    (ap₂ ◌&&◌ (bind-outside p c' k h' ρ₀ ∙ ap (λ (m : Bool). m && bind p k ρ₀) (own ρ false))
    (bind-outside p c' k h' ρ₁ ∙ ap (λ (m : Bool). m && bind p k ρ₁) (own ρ true))))
  where
    ρ₀ : Assignment
    ρ₀ = put ρ z.variable false

    ρ₁ : Assignment
    ρ₁ = put ρ z.variable true

    crossed : (a b c d : Bool) → ((a && b) && (c && d)) ≡ ((a && c) && (b && d))
    crossed true b true d = refl
    crossed true true false d = refl
    crossed true false false d = refl
    crossed false b c d = refl

    twice : (a b c : Bool) → (a && (b && c)) ≡ ((a && b) && (a && c))
    twice true b c = refl
    twice false b c = refl

-- one variable's literals in a clause without two literals of one variable

unfoldable pub members : Tree → Forest
members (lit s v) = lit s v ▸ ∅
members (node o ts) = ts

without-variable : ℕ → Tree → Bool
without-variable z (lit s v) = not (eqb v z)
without-variable z (node o ts) = true

-- both signs are never there
one_sign : (z : ℕ) (ts : Forest) → some_child (λ t. not (is_literal t)) ts ≡ false → some_two same_variable ts ≡ false
    → (s : Bool) × (has_any (of_sign (not s) z) ts ≡ false)
unfolding has some_child some_two is_literal same_variable
one_sign z ∅ l d = (true, refl)
one_sign z (node o us ▸ ts) l d = absurd (true≢false l)
one_sign z (lit s v ▸ ts) l d =
    let parts = or_parts (some_child (same_variable (lit s v)) ts) (some_two same_variable ts) d in
    by (eqb v z) refl (none_other ts l parts.0) (one_sign z ts l parts.1)
  where
    none_other : (us : Forest) → some_child (λ t. not (is_literal t)) us ≡ false → some_child (same_variable (lit s v)) us ≡ false
        → (r : Bool) → v ≡ z → has_any (of_sign r z) us ≡ false
    none_other ∅ k e r h = refl
    none_other (node o vs ▸ us) k e r h = absurd (true≢false k)
    none_other (lit s' v' ▸ us) k e r h =
        let parts = or_parts (eqb v v') (some_child (same_variable (lit s v)) us) e in
        or-none (apart (beq r s') (eqb v' z) refl parts.0) (none_other us k parts.1 r h)
      where
        apart : (m n : Bool) → eqb v' z ≡ n → eqb v v' ≡ false → cond m n false ≡ false
        apart true true e f = absurd (false≢true (sym f ∙ eq-eqb v v' (h ∙ sym (eqb-true v' z e))))
        apart true false e f = refl
        apart false n e f = refl

    other_sign : (r : Bool) → beq (not r) r ≡ false
    other_sign true = refl
    other_sign false = refl

    by : (m : Bool) → eqb v z ≡ m → ((r : Bool) → v ≡ z → has_any (of_sign r z) ts ≡ false)
        → (r : Bool) × (has_any (of_sign (not r) z) ts ≡ false)
        → (r : Bool) × ((cond (beq (not r) s) (eqb v z) false || has_any (of_sign (not r) z) ts) ≡ false)
    by true e none rest = (s, or-none (ap (λ (m : Bool). cond m (eqb v z) false) (other_sign s)) (none (not s) (eqb-true v z e)))
    by false e none rest = (rest.0, or-none (never (beq (not rest.0) s) e) rest.1)
      where
        never : (m : Bool) → eqb v z ≡ false → cond m (eqb v z) false ≡ false
        never true f = f
        never false f = refl

-- at the falsifying value its literals add nothing
falsified : (z : ℕ) (s : Bool) (ts : Forest) → some_child (λ t. not (is_literal t)) ts ≡ false → has_any (of_sign (not s) z) ts ≡ false
    → (ρ : Assignment) → eval_all ts or (put ρ z (not s)) ≡ eval_all (keep (without-variable z) ts) or ρ
unfolding eval has some_child is_literal keep without-variable
falsified z s ∅ l h ρ = refl
falsified z s (node o us ▸ ts) l h ρ = absurd (true≢false l)
falsified z s (lit r v ▸ ts) l h ρ =
    let parts = or_parts (cond (beq (not s) r) (eqb v z) false) (has_any (of_sign (not s) z) ts) h in
    by (eqb v z) refl parts.0 (falsified z s ts l parts.1 ρ)
  where
    own : (a b : Bool) → cond (beq (not a) b) true false ≡ false → beq b (not a) ≡ false
    own true true e = refl
    own true false e = absurd (true≢false e)
    own false true e = absurd (true≢false e)
    own false false e = refl

    by : (m : Bool) → eqb v z ≡ m → cond (beq (not s) r) (eqb v z) false ≡ false
        → eval_all ts or (put ρ z (not s)) ≡ eval_all (keep (without-variable z) ts) or ρ
        → (beq r (cond (eqb v z) (not s) (ρ v)) || eval_all ts or (put ρ z (not s))) ≡
        eval_all (cond (not (eqb v z)) (lit r v ▸ keep (without-variable z) ts) (keep (without-variable z) ts)) or ρ
    by true e f rest =
        rw e (ap (λ (m : Bool). m || eval_all ts or (put ρ z (not s))) (own s r (ap (λ (m : Bool). cond (beq (not s) r) m false) (sym e) ∙ f)) ∙ rest)
    by false e f rest = rw e (ap (λ (m : Bool). beq r (ρ v) || m) rest)

-- at any value the others are there
others_lead : (z : ℕ) (b : Bool) (ts : Forest) → some_child (λ t. not (is_literal t)) ts ≡ false → (ρ : Assignment)
    → Leads (eval_all (keep (without-variable z) ts) or ρ) (eval_all ts or (put ρ z b))
unfolding eval has some_child is_literal keep without-variable
others_lead z b ∅ l ρ h = h
others_lead z b (node o us ▸ ts) l ρ h = absurd (true≢false l)
others_lead z b (lit r v ▸ ts) l ρ h = by (eqb v z) refl h (others_lead z b ts l ρ)
  where
    by : (m : Bool) → eqb v z ≡ m
        → eval_all (cond (not m) (lit r v ▸ keep (without-variable z) ts) (keep (without-variable z) ts)) or ρ ≡ true
        → (eval_all (keep (without-variable z) ts) or ρ ≡ true → eval_all ts or (put ρ z b) ≡ true)
        → (beq r (cond (eqb v z) b (ρ v)) || eval_all ts or (put ρ z b)) ≡ true
    by true e k rest = ap (λ (m : Bool). beq r (cond (eqb v z) b (ρ v)) || m) (rest k) ∙ or-true (beq r (cond (eqb v z) b (ρ v)))
    by false e k rest =
        ⊎_elim (λ t. ap (λ (m : Bool). beq r (cond m b (ρ v)) || eval_all ts or (put ρ z b)) e ∙ ap (λ (m : Bool). m || eval_all ts or (put ρ z b)) t)
        (λ t. ap (λ (m : Bool). beq r (cond (eqb v z) b (ρ v)) || m) (rest t) ∙ or-true (beq r (cond (eqb v z) b (ρ v))))
        (or_cases (beq r (ρ v)) (eval_all (keep (without-variable z) ts) or ρ) k)

-- so at both values together the clause says what it says without them
both_values : (z : ℕ) (ts : Forest) → some_child (λ t. not (is_literal t)) ts ≡ false → some_two same_variable ts ≡ false → (ρ : Assignment)
    → (eval_all ts or (put ρ z false) && eval_all ts or (put ρ z true)) ≡ eval_all (keep (without-variable z) ts) or ρ
both_values z ts l d ρ = by sign.0 sign.1
  where
    sign : (s : Bool) × (has_any (of_sign (not s) z) ts ≡ false)
    sign = one_sign z ts l d

    kept : Bool
    kept = eval_all (keep (without-variable z) ts) or ρ

    led : (a b : Bool) → Leads a b → (b && a) ≡ a
    led true b h = ap (λ (m : Bool). m && true) (h refl)
    led false true h = refl
    led false false h = refl

    by : (s : Bool) → has_any (of_sign (not s) z) ts ≡ false → (eval_all ts or (put ρ z false) && eval_all ts or (put ρ z true)) ≡ kept
    by true h =
        ap (λ (m : Bool). m && eval_all ts or (put ρ z true)) (falsified z true ts l h ρ) ∙ and_comm kept (eval_all ts or (put ρ z true)) ∙
        led kept (eval_all ts or (put ρ z true)) (others_lead z true ts l ρ)
    by false h =
        ap (λ (m : Bool). eval_all ts or (put ρ z false) && m) (falsified z false ts l h ρ) ∙
        led kept (eval_all ts or (put ρ z false)) (others_lead z false ts l ρ)

-- clauses

pub record Clean (c : Tree) : Type 0 where
  pub clause : is_clause c ≡ true
  pub no_two : some_two same_variable (members c) ≡ false

pub data Cleans : Forest → Type 0 where
  no_clause : Cleans ∅
  one_more : {t : Tree} {ts : Forest} → Clean t → Cleans ts → Cleans (t ▸ ts)

pub members-literals : (c : Tree) → is_clause c ≡ true → some_child (λ t. not (is_literal t)) (members c) ≡ false
unfolding is_clause members some_child is_literal
members-literals (lit s v) h = refl
members-literals (node and ts) h = absurd (false≢true h)
members-literals (node or ts) h = not-true (some_child (λ t. not (is_literal t)) ts) h

pub occurs-members : (c : Tree) (x : ℕ) → occurs c x ≡ has_any (of x) (members c)
unfolding has members
occurs-members (lit s v) x = sym (or-false (eqb v x))
occurs-members (node o ts) x = refl

kept : Prefix → Tree → Forest
kept p c = keep (stays p c) (members c)

eval-kept : (p : Prefix) (c : Tree) → is_clause c ≡ true → (ρ : Assignment) → eval (reduce_clause p c) ρ ≡ eval_all (kept p c) or ρ
unfolding is_clause reduce_clause members kept keep stays eval
eval-kept p (lit s v) h ρ = by (goes p (lit s v) v)
  where
    by : (m : Bool) → eval (cond m (node or ∅) (lit s v)) ρ ≡ eval_all (cond (not m) (lit s v ▸ ∅) ∅) or ρ
    by true = refl
    by false = sym (or-false (beq s (ρ v)))
eval-kept p (node and ts) h ρ = absurd (false≢true h)
eval-kept p (node or ts) h ρ = refl

-- a variable that goes has no literal left
gone : (p : Prefix) (c : Tree) (x : ℕ) → goes p c x ≡ true → (ts : Forest) → some_child (λ t. not (is_literal t)) ts ≡ false
    → has_any (of x) (keep (stays p c) ts) ≡ false
unfolding has keep stays some_child is_literal
gone p c x g ∅ l = refl
gone p c x g (node o us ▸ ts) l = absurd (true≢false l)
gone p c x g (lit s v ▸ ts) l = by (goes p c v) refl (gone p c x g ts l)
  where
    apart : (m : Bool) → eqb v x ≡ m → goes p c v ≡ false → m ≡ false
    apart true e f = absurd (false≢true (sym f ∙ ap (goes p c) (eqb-true v x e) ∙ g))
    apart false e f = refl

    by : (m : Bool) → goes p c v ≡ m → has_any (of x) (keep (stays p c) ts) ≡ false
        → has_any (of x) (cond (not m) (lit s v ▸ keep (stays p c) ts) (keep (stays p c) ts)) ≡ false
    by true e rest = rest
    by false e rest = or-none (apart (eqb v x) refl e) rest

has_kept : (Q : Tree → Bool) (L : Literals) (ts : Forest) → has_any L ts ≡ false → has_any L (keep Q ts) ≡ false
unfolding has keep
has_kept Q L ∅ h = refl
has_kept Q L (t ▸ ts) h =
    let parts = or_parts (has L t) (has_any L ts) h in
    by (Q t) parts.0 (has_kept Q L ts parts.1)
  where
    by : (m : Bool) → has L t ≡ false → has_any L (keep Q ts) ≡ false → has_any L (cond m (t ▸ keep Q ts) (keep Q ts)) ≡ false
    by true e rest = or-none e rest
    by false e rest = rest

forest_ignores : (ts : Forest) (x : ℕ) → has_any (of x) ts ≡ false → Ignores (λ ρ. eval_all ts or ρ) x
forest_ignores ts x h ρ b = eval_all_same (of x) (put ρ x b) ρ (put_other x b ρ) or ts h

-- with no existential literal bound in a prefix, all literals that are bound there go
goes-all : (p : Prefix) (c : Tree) (x : ℕ) → has_existential p c ≡ false → binds p x ≡ true → occurs c x ≡ true → goes p c x ≡ true
unfolding goes binds quantifier_of after has_existential
goes-all [] c x e b o = absurd (false≢true b)
goes-all (z ∷ p) c x e b o =
    let parts = or_parts (same_op exists z.quantifier && occurs c z.variable) (has_existential p c) e in
    by (eqb z.variable x) refl b parts.0 parts.1 (λ k. goes-all p c x parts.1 k o)
  where
    universal : (q : Quantifier) → same_op exists q ≡ false → same_op for_all q ≡ true
    universal and h = refl
    universal or h = absurd (true≢false h)

    first : (m : Bool) → same_op exists z.quantifier ≡ m → occurs c z.variable ≡ true → (m && occurs c z.variable) ≡ false → m ≡ false
    first true f k h = absurd (true≢false (sym k ∙ h))
    first false f k h = refl

    by : (m : Bool) → eqb z.variable x ≡ m → (m || binds p x) ≡ true → (same_op exists z.quantifier && occurs c z.variable) ≡ false
        → has_existential p c ≡ false
        → (binds p x ≡ true → (binds p x && (same_op for_all (quantifier_of p x) && not (has_existential (after x p) c))) ≡ true)
        → ((m || binds p x) && (same_op for_all (cond m z.quantifier (quantifier_of p x)) && not (has_existential (cond m p (after x p)) c))) ≡ true
    by true f k h l more =
        let here : occurs c z.variable ≡ true = ap (occurs c) (eqb-true z.variable x f) ∙ o in
        ap₂ (λ (m n : Bool). m && not n) (universal z.quantifier (first (same_op exists z.quantifier) refl here h)) l
    by false f k h l more = more k

-- one row of the prefix

module _ (z : Binding) (p : Prefix) (d : distinct (z ∷ p) ≡ true) where
  -- the literals of z's variable go from the clause
  falls : Tree → Bool
  falls c = same_op for_all z.quantifier && not (has_existential p c)

  goes-head : (c : Tree) (x : ℕ) → goes (z ∷ p) c x ≡ cond (eqb z.variable x) (falls c) (goes p c x)
  unfolding goes binds quantifier_of after falls
  goes-head c x = by (eqb z.variable x)
    where
      by : (m : Bool)
          → ((m || binds p x) && (same_op for_all (cond m z.quantifier (quantifier_of p x)) && not (has_existential (cond m p (after x p)) c))) ≡
          cond m (same_op for_all z.quantifier && not (has_existential p c))
          (binds p x && (same_op for_all (quantifier_of p x) && not (has_existential (after x p) c)))
      by true = refl
      by false = refl

  fresh : binds p z.variable ≡ false
  unfolding distinct
  fresh = not-true (binds p z.variable) (and_parts (not (binds p z.variable)) (distinct p) d).0

  unbound-stays : (c : Tree) (x : ℕ) → z.variable ≡ x → goes p c x ≡ false
  unfolding goes
  unbound-stays c x e =
      ap (λ (m : Bool). m && (same_op for_all (quantifier_of p x) && not (has_existential (after x p) c))) (ap (binds p) (sym e) ∙ fresh)

  kept_same : (c : Tree) → falls c ≡ false → kept (z ∷ p) c ≡ kept p c
  unfolding kept stays
  kept_same c f = keep_same at (members c)
    where
      at : (t : Tree) → stays (z ∷ p) c t ≡ stays p c t
      at (lit s v) = ap not (goes-head c v ∙ by (eqb z.variable v) refl)
        where
          by : (m : Bool) → eqb z.variable v ≡ m → cond m (falls c) (goes p c v) ≡ goes p c v
          by true e = f ∙ sym (unbound-stays c v (eqb-true z.variable v e))
          by false e = refl
      at (node o ts) = refl

  kept_less : (c : Tree) → falls c ≡ true → kept (z ∷ p) c ≡ keep (without-variable z.variable) (kept p c)
  unfolding kept stays without-variable
  kept_less c f = sym (keep-keep (without-variable z.variable) (stays p c) (stays (z ∷ p) c) at (members c))
    where
      at : (t : Tree) → stays (z ∷ p) c t ≡ (stays p c t && without-variable z.variable t)
      at (lit s v) = ap not (goes-head c v) ∙ by (eqb z.variable v) refl (eqb v z.variable) refl
        where
          by : (m : Bool) → eqb z.variable v ≡ m → (n : Bool) → eqb v z.variable ≡ n
              → not (cond m (falls c) (goes p c v)) ≡ (not (goes p c v) && not n)
          by true e true h = ap not f ∙ sym (and-false (not (goes p c v)))
          by true e false h = absurd (true≢false (sym (eq-eqb v z.variable (sym (eqb-true z.variable v e))) ∙ h))
          by false e true h = absurd (true≢false (sym (eq-eqb z.variable v (sym (eqb-true v z.variable h))) ∙ e))
          by false e false h = sym (and-true (not (goes p c v)))
      at (node o ts) = refl

  -- what is left of the clause ignores a variable that goes wherever it occurs
  ignores_kept : (q : Prefix) (c : Tree) → is_clause c ≡ true → (x : ℕ) → (occurs c x ≡ true → goes q c x ≡ true)
      → Ignores (λ ρ. eval_all (kept q c) or ρ) x
  unfolding kept
  ignores_kept q c h x g = forest_ignores (kept q c) x (by (occurs c x) refl)
    where
      by : (m : Bool) → occurs c x ≡ m → has_any (of x) (keep (stays q c) (members c)) ≡ false
      by true e = gone q c x (g e) (members c) (members-literals c h)
      by false e = has_kept (stays q c) (of x) (members c) (sym (occurs-members c x) ∙ e)

  clause_step : (c : Tree) → Clean c → (k : Assignment → Bool) (ρ : Assignment)
      → bind (z ∷ p) (λ σ. eval (reduce_clause p c) σ && k σ) ρ ≡ bind (z ∷ p) (λ σ. eval (reduce_clause (z ∷ p) c) σ && k σ) ρ
  unfolding falls kept
  clause_step c w k ρ =
      bind_ext (z ∷ p) (λ σ. ap (λ (m : Bool). m && k σ) (eval-kept p c w.clause σ)) ρ ∙ by (falls c) refl ∙
      sym (bind_ext (z ∷ p) (λ σ. ap (λ (m : Bool). m && k σ) (eval-kept (z ∷ p) c w.clause σ)) ρ)
    where
      universal : falls c ≡ true → z.quantifier ≡ for_all
      universal f = sym (same_op_eq for_all z.quantifier (and_parts (same_op for_all z.quantifier) (not (has_existential p c)) f).0)

      none_behind : falls c ≡ true → has_existential p c ≡ false
      none_behind f = not-true (has_existential p c) (and_parts (same_op for_all z.quantifier) (not (has_existential p c)) f).1

      literals : some_child (λ t. not (is_literal t)) (kept p c) ≡ false
      literals = some_child-keep (λ t. not (is_literal t)) (stays p c) (members c) (members-literals c w.clause)

      goes-too : falls c ≡ true → (v : ℕ) → goes p c v ≡ true → goes (z ∷ p) c v ≡ true
      goes-too f v g = goes-head c v ∙ either (eqb z.variable v)
        where
          either : (m : Bool) → cond m (falls c) (goes p c v) ≡ true
          either true = f
          either false = g

      own : falls c ≡ true → goes (z ∷ p) c z.variable ≡ true
      own f = goes-head c z.variable ∙ ap (λ (m : Bool). cond m (falls c) (goes p c z.variable)) (eq-eqb z.variable z.variable refl) ∙ f

      by : (m : Bool) → falls c ≡ m
          → bind (z ∷ p) (λ σ. eval_all (kept p c) or σ && k σ) ρ ≡ bind (z ∷ p) (λ σ. eval_all (kept (z ∷ p) c) or σ && k σ) ρ
      by true f =
          bind_universal z p (λ σ. eval_all (kept p c) or σ) (λ σ. eval_all (kept (z ∷ p) c) or σ) k (universal f)
          (λ v b. ignores_kept p c w.clause v (λ o. goes-all p c v (none_behind f) b o))
          (λ v b. ignores_kept (z ∷ p) c w.clause v (λ o. goes-too f v (goes-all p c v (none_behind f) b o)))
          (ignores_kept (z ∷ p) c w.clause z.variable (λ o. own f))
          (λ σ. both_values z.variable (kept p c) literals (some_two-keep same_variable (stays p c) (members c) w.no_two) σ ∙
          ap (λ us. eval_all us or σ) (sym (kept_less c f)))
          ρ
      by false f = bind_ext (z ∷ p) (λ σ. ap (λ us. eval_all us or σ && k σ) (sym (kept_same c f))) ρ

  all-step : (ts : Forest) → Cleans ts → (k : Assignment → Bool) (ρ : Assignment)
      → bind (z ∷ p) (λ σ. eval_all (reduce_all p ts) and σ && k σ) ρ ≡ bind (z ∷ p) (λ σ. eval_all (reduce_all (z ∷ p) ts) and σ && k σ) ρ
  unfolding reduce_all eval
  all-step ∅ no_clause k ρ = refl
  all-step (t ▸ ts) (one_more w ws) k ρ =
      bind_ext (z ∷ p) (λ σ. and_assoc (eval (reduce_clause p t) σ) (eval_all (reduce_all p ts) and σ) (k σ)) ρ ∙
      clause_step t w (λ σ. eval_all (reduce_all p ts) and σ && k σ) ρ ∙
      bind_ext (z ∷ p) (λ σ. swapped (eval (reduce_clause (z ∷ p) t) σ) (eval_all (reduce_all p ts) and σ) (k σ)) ρ ∙
      all-step ts ws (λ σ. eval (reduce_clause (z ∷ p) t) σ && k σ) ρ ∙
      bind_ext (z ∷ p)
      (λ σ. swapped (eval_all (reduce_all (z ∷ p) ts) and σ) (eval (reduce_clause (z ∷ p) t) σ) (k σ) ∙
      sym (and_assoc (eval (reduce_clause (z ∷ p) t) σ) (eval_all (reduce_all (z ∷ p) ts) and σ) (k σ)))
      ρ
    where
      swapped : (a b c : Bool) → (a && (b && c)) ≡ (b && (a && c))
      swapped true true c = refl
      swapped true false c = refl
      swapped false true c = refl
      swapped false false c = refl

-- the whole prefix

reduce_none : (ts : Forest) → Cleans ts → (ρ : Assignment) → eval_all (reduce_all [] ts) and ρ ≡ eval_all ts and ρ
unfolding reduce_all eval reduce_clause stays goes binds is_clause
reduce_none ∅ no_clause ρ = refl
reduce_none (t ▸ ts) (one_more w ws) ρ = ap₂ ◌&&◌ (whole t w.clause) (reduce_none ts ws ρ)
  where
    all : (c t : Tree) → stays [] c t ≡ true
    all c (lit s v) = refl
    all c (node o vs) = refl

    whole : (c : Tree) → is_clause c ≡ true → eval (reduce_clause [] c) ρ ≡ eval c ρ
    whole (lit s v) h = refl
    whole (node and us) h = absurd (false≢true h)
    whole (node or us) h = ap (λ vs. eval_all vs or ρ) (keep_every (stays [] (node or us)) (all (node or us)) us)

bind-reduced : (p : Prefix) → distinct p ≡ true → (ts : Forest) → Cleans ts → (ρ : Assignment)
    → bind p (λ σ. eval_all (reduce_all p ts) and σ) ρ ≡ bind p (λ σ. eval_all ts and σ) ρ
unfolding bind distinct
bind-reduced [] d ts w ρ = reduce_none ts w ρ
bind-reduced (z ∷ p) d ts w ρ =
    let inner = (and_parts (not (binds p z.variable)) (distinct p) d).1 in
    sym
    (bind_ext (z ∷ p) (λ σ. sym (and-true (eval_all (reduce_all p ts) and σ))) ρ ∙ all-step z p d ts w (λ _. true) ρ ∙
    bind_ext (z ∷ p) (λ σ. and-true (eval_all (reduce_all (z ∷ p) ts) and σ)) ρ) ∙
    ap₂ (join z.quantifier) (bind-reduced p inner ts w (put ρ z.variable false)) (bind-reduced p inner ts w (put ρ z.variable true))

-- a single clause
single : (p : Prefix) (c : Tree) → distinct p ≡ true → Clean c → (ρ : Assignment) → bind p (eval (reduce_clause p c)) ρ ≡ bind p (eval c) ρ
unfolding reduce_all eval
single p c d w ρ =
    bind_ext p (λ σ. sym (and-true (eval (reduce_clause p c) σ))) ρ ∙ bind-reduced p d (c ▸ ∅) (one_more w no_clause) ρ ∙
    bind_ext p (λ σ. and-true (eval c σ)) ρ

-- a tidy matrix of the profile is clean

pub lone_literal : (s : Bool) (v : ℕ) → Clean (lit s v)
unfolding is_clause members some_two some_child
lone_literal s v = record { clause = refl; no_two = refl }

clean_below : (t : Tree) → is_clause t ≡ true → any (faults t) ≡ false → Clean t
unfolding is_clause faults any members some_two some_child breaks
clean_below (lit s v) h f = lone_literal s v
clean_below (node and ts) h f = absurd (false≢true h)
clean_below (node or ts) h f =
    record { clause = h; no_two = (limits or ts (faulty_root (node or ts) f)).variables }

pub cleans_below : (ts : Forest) → some_child (λ t. not (is_clause t)) ts ≡ false → any (faults_all ts) ≡ false → Cleans ts
unfolding some_child faults any
cleans_below ∅ h f = no_clause
cleans_below (t ▸ ts) h f =
    let parts = or_parts (not (is_clause t)) (some_child (λ t. not (is_clause t)) ts) h in
    let rest = or_parts (any (faults t)) (any (faults_all ts)) (sym (any-++ (faults t) (faults_all ts)) ∙ f) in
    one_more (clean_below t (not-false (is_clause t) parts.0) rest.0) (cleans_below ts parts.1 rest.1)

pub clean_root : (t : Tree) → is_clause t ≡ true → is_tidy t ≡ true → Clean t
unfolding is_clause is_tidy root_faults any members some_two some_child breaks
clean_root (lit s v) h n = lone_literal s v
clean_root (node and ts) h n = absurd (false≢true h)
clean_root (node or ts) h n =
    record { clause = h; no_two = (limits or ts (not-true (any (root_faults (node or ts))) n)).variables }

-- before it is tidied, the reduced formula has the truth of the formula
truth-reduce_tree : (p : Prefix) (t : Tree) → distinct p ≡ true → in_profile t ≡ true → is_tidy t ≡ true → (ρ : Assignment)
    → bind p (eval (reduce_tree p t)) ρ ≡ bind p (eval t) ρ
unfolding in_profile reduce_tree reduce_all eval is_tidy root_faults any
truth-reduce_tree p (node and ts) d h n ρ =
    bind-reduced p d ts
    (cleans_below ts (not-true (some_child (λ t. not (is_clause t)) ts) h)
    (or_parts (breaks and ts) (any (faults_all ts)) (not-true (any (root_faults (node and ts))) n)).1)
    ρ
truth-reduce_tree p (node or ts) d h n ρ = single p (node or ts) d (clean_root (node or ts) h n) ρ
truth-reduce_tree p (lit s v) d h n ρ = single p (lit s v) d (lone_literal s v) ρ

pub truth-reduced : (f : Formula) → distinct f.prefix ≡ true → in_profile f.matrix ≡ true → is_tidy f.matrix ≡ true
    → truth (reduced f) ≡ truth f
unfolding truth reduced
truth-reduced f d h n =
    bind_ext f.prefix (eval-tidy (reduce_tree f.prefix f.matrix)) (λ _. false) ∙
    truth-reduce_tree f.prefix f.matrix d h n (λ _. false)

-- the prefix stays, the result is tidy and has no more rows

pub prefix_reduced : (f : Formula) → (reduced f).prefix ≡ f.prefix
unfolding reduced
prefix_reduced f = refl

pub reduced-is_tidy : (f : Formula) → is_tidy (reduced f).matrix ≡ true
unfolding reduced
reduced-is_tidy f = tidy-is_tidy (reduce_tree f.prefix f.matrix)

rows-reduce_clause : (p : Prefix) (c : Tree) → rows (reduce_clause p c) ≤ rows c
unfolding rows reduce_clause
rows-reduce_clause p (lit s v) = by (goes p (lit s v) v)
  where
    by : (m : Bool) → rows (cond m (node or ∅) (lit s v)) ≤ 1
    by true = omega arith
    by false = omega arith
rows-reduce_clause p (node o ts) = omega (arith, rows-keep (stays p (node o ts)) ts)

rows-reduce_all : (p : Prefix) (ts : Forest) → rows_all (reduce_all p ts) ≤ rows_all ts
unfolding rows reduce_all
rows-reduce_all p ∅ = omega arith
rows-reduce_all p (t ▸ ts) = omega (arith, rows-reduce_clause p t, rows-reduce_all p ts)

rows-reduce_tree : (p : Prefix) (t : Tree) → rows (reduce_tree p t) ≤ rows t
unfolding rows reduce_tree
rows-reduce_tree p (lit s v) = rows-reduce_clause p (lit s v)
rows-reduce_tree p (node or ts) = rows-reduce_clause p (node or ts)
rows-reduce_tree p (node and ts) = omega (arith, rows-reduce_all p ts)

pub rows-reduced : (f : Formula) → rows (reduced f).matrix ≤ rows f.matrix
unfolding reduced
rows-reduced f =
    omega (arith, rows-tidy (reduce_tree f.prefix f.matrix), rows-reduce_tree f.prefix f.matrix)

-- no new literal, so every literal is still bound

has-reduce_clause : (L : Literals) (p : Prefix) (c : Tree) → has L c ≡ false → has L (reduce_clause p c) ≡ false
unfolding has reduce_clause
has-reduce_clause L p (lit s v) h = by (goes p (lit s v) v)
  where
    by : (m : Bool) → has L (cond m (node or ∅) (lit s v)) ≡ false
    by true = refl
    by false = h
has-reduce_clause L p (node o ts) h = has_kept (stays p (node o ts)) L ts h

has-reduce_all : (L : Literals) (p : Prefix) (ts : Forest) → has_any L ts ≡ false → has_any L (reduce_all p ts) ≡ false
unfolding has reduce_all
has-reduce_all L p ∅ h = refl
has-reduce_all L p (t ▸ ts) h =
    let parts = or_parts (has L t) (has_any L ts) h in
    or-none (has-reduce_clause L p t parts.0) (has-reduce_all L p ts parts.1)

has-reduce_tree : (L : Literals) (p : Prefix) (t : Tree) → has L t ≡ false → has L (reduce_tree p t) ≡ false
unfolding has reduce_tree
has-reduce_tree L p (lit s v) h = has-reduce_clause L p (lit s v) h
has-reduce_tree L p (node or ts) h = has-reduce_clause L p (node or ts) h
has-reduce_tree L p (node and ts) h = has-reduce_all L p ts h

pub proper_reduced : (f : Formula) → Proper f → Proper (reduced f)
unfolding reduced closed
proper_reduced f w =
    record {
      is_distinct = w.is_distinct;
      is_closed =
          ap not
          (has-tidy (unbound f.prefix) (reduce_tree f.prefix f.matrix)
          (has-reduce_tree (unbound f.prefix) f.prefix f.matrix
          (not-true (has (unbound f.prefix) f.matrix) w.is_closed)));
      is_neat = tidy-is_tidy (reduce_tree f.prefix f.matrix);
    }

-- A literal that goes may become OR of nothing in its place instead: tidying leaves the same.

-- splicing under OR drops what is empty
splice-blank : (p : Prefix) (c : Tree) (ts : Forest) → splice or (tidy_all (blank_forest p c ts)) ≡ splice or (tidy_all (keep (stays p c) ts))
unfolding blank blank_forest tidy splice spliced keep combine decides some_child some_two firsts unwrap ◌⧺◌
splice-blank p c ∅ = refl
splice-blank p c (t ▸ ts) = by (stays p c t) (splice-blank p c ts)
  where
    by : (m : Bool) → splice or (tidy_all (blank_forest p c ts)) ≡ splice or (tidy_all (keep (stays p c) ts))
        → spliced or (tidy (cond m t (node or ∅))) (splice or (tidy_all (blank_forest p c ts))) ≡
        splice or (tidy_all (cond m (t ▸ keep (stays p c) ts) (keep (stays p c) ts)))
    by true e = ap (spliced or (tidy t)) e
    by false e = e

pub tidy-blank : (p : Prefix) (c : Tree) (ts : Forest) → tidy (node or (blank_forest p c ts)) ≡ tidy (node or (keep (stays p c) ts))
unfolding tidy combine
tidy-blank p c ts =
    ap (λ us. cond (decides or us) (node and ∅) (unwrap or (firsts duplicate (firsts equal us)))) (splice-blank p c ts)

tidy-blank_clause : (p : Prefix) (c : Tree) → is_clause c ≡ true → tidy (blank_clause p c) ≡ tidy (reduce_clause p c)
unfolding blank blank_clause reduce_clause stays is_clause
tidy-blank_clause p (lit s v) h = ap tidy (by (goes p (lit s v) v))
  where
    by : (m : Bool) → cond (not m) (lit s v) (node or ∅) ≡ cond m (node or ∅) (lit s v)
    by true = refl
    by false = refl
tidy-blank_clause p (node and ts) h = absurd (false≢true h)
tidy-blank_clause p (node or ts) h = tidy-blank p (node or ts) ts

tidy-blank_all : (p : Prefix) (ts : Forest) → some_child (λ t. not (is_clause t)) ts ≡ false → tidy_all (blank_all p ts) ≡ tidy_all (reduce_all p ts)
unfolding blank_all reduce_all some_child tidy
tidy-blank_all p ∅ h = refl
tidy-blank_all p (t ▸ ts) h =
    let parts = or_parts (not (is_clause t)) (some_child (λ t. not (is_clause t)) ts) h in
    ap₂ (λ u us. u ▸ us) (tidy-blank_clause p t (not-false (is_clause t) parts.0)) (tidy-blank_all p ts parts.1)

pub tidy-blank_tree : (p : Prefix) (t : Tree) → in_profile t ≡ true → tidy (blank_tree p t) ≡ tidy (reduce_tree p t)
unfolding blank_tree reduce_tree in_profile tidy is_clause
tidy-blank_tree p (lit s v) h = tidy-blank_clause p (lit s v) refl
tidy-blank_tree p (node or ts) h = tidy-blank_clause p (node or ts) h
tidy-blank_tree p (node and ts) h = ap (combine and) (tidy-blank_all p ts (not-true (some_child (λ t. not (is_clause t)) ts) h))

-- the profile by rows: a tidy tree is of it exactly if no operator but the root is AND

-- under an OR whose children are of the other kind, what is no literal is AND
and-or-literal : (ts : Forest) → some_child (is_op or) ts ≡ false → some_child (λ t. not (is_literal t)) ts ≡ some_and ts
unfolding some_child is_op is_literal has_and
and-or-literal ∅ h = refl
and-or-literal (lit s v ▸ ts) h = and-or-literal ts h
and-or-literal (node and us ▸ ts) h = refl
and-or-literal (node or us ▸ ts) h = absurd (true≢false h)

clause_or-and : (t : Tree) → any (faults t) ≡ false → not (is_clause t) ≡ has_and t
unfolding is_clause has_and faults any breaks
clause_or-and (lit s v) f = refl
clause_or-and (node and ts) f = refl
clause_or-and (node or ts) f =
    twice (some_child (λ t. not (is_literal t)) ts) ∙ and-or-literal ts (limits or ts (faulty_root (node or ts) f)).kinds
  where
    twice : (m : Bool) → not (not m) ≡ m
    twice true = refl
    twice false = refl

clauses-or-and : (ts : Forest) → any (faults_all ts) ≡ false → some_child (λ t. not (is_clause t)) ts ≡ some_and ts
unfolding some_child has_and faults any
clauses-or-and ∅ f = refl
clauses-or-and (t ▸ ts) f =
    let rest = or_parts (any (faults t)) (any (faults_all ts)) (sym (any-++ (faults t) (faults_all ts)) ∙ f) in
    ap₂ ◌||◌ (clause_or-and t rest.0) (clauses-or-and ts rest.1)

pub profile_and_below : (t : Tree) → is_tidy t ≡ true → in_profile t ≡ not (and_below t)
unfolding in_profile and_below is_clause is_tidy root_faults any breaks
profile_and_below (lit s v) n = refl
profile_and_below (node and ts) n =
    ap not (clauses-or-and ts (or_parts (breaks and ts) (any (faults_all ts)) (not-true (any (root_faults (node and ts))) n)).1)
profile_and_below (node or ts) n =
    ap not (and-or-literal ts (limits or ts (not-true (any (root_faults (node or ts))) n)).kinds)
