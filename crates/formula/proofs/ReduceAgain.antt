-- What universal reduction leaves is of the clause profile again, and reducing it once more changes nothing. The existential literals of a
-- clause stay, so the same literals go.
-- Assumes nothing.
use mathlib.Core.Path.{◌≡◌, refl, sym, ◌∙◌, ap, ap₂, subst}
use mathlib.Core.Bool.{Bool, true, false, not, ◌&&◌, ◌||◌, cond, and-false, or-false, false≢true, true≢false}
use mathlib.Core.List.{[], ◌∷◌}
use Prim.Native.Nat.{ℕ}
use lib.Dec.{eqb}
use borrow.Author.Tests.{eqb-true, eq-eqb, not-true}
use Rattle.formula.specs.Tree.{and, or, Quantifier, same_op, exists, for_all, Tree, lit, node, Forest, ∅, ◌▸◌, Binding, Prefix}
use Rattle.formula.specs.Tree.{Formula, binds, quantifier_of, distinct, of, has, has_any, some_child, some_two, keep}
use Rattle.formula.specs.Tidy.{is_op, is_empty, equal, duplicate, same_variable, spliced, splice, decides, firsts, unwrap, combine}
use Rattle.formula.specs.Tidy.{alone, tidy, tidy_all, is_tidy, breaks, faults, faults_all, root_faults, any}
use Rattle.formula.specs.Expand.{after, occurs}
use Rattle.formula.specs.Reduce.{is_literal, is_clause, in_profile, has_existential, goes, stays, reduce_clause, reduce_all, reduce_tree, reduced}
use Rattle.formula.proofs.Booleans.{and_parts, or_parts, or-none}
use Rattle.formula.proofs.Forests.{some_child_never, keep_same, keep-keep, some_child-keep, some_two-keep}
use Rattle.formula.proofs.Tidy.Children.{splice-none}
use Rattle.formula.proofs.Tidy.Limits.{tidy-is_tidy, tidy_id}
use Rattle.formula.proofs.Reduce.{Clean, Cleans, no_clause, one_more, members, members-literals, lone_literal, cleans_below, clean_root}

-- the rows of a part of a prefix are those that the prefix has for their variables

abbrev Agrees : Prefix → Prefix → Type 0
Agrees p [] = Unit {0}
Agrees p (z ∷ q) = (quantifier_of p z.variable ≡ z.quantifier) × Agrees p q

agrees_after : (p q : Prefix) (x : ℕ) → Agrees p q → Agrees p (after x q)
unfolding after
agrees_after p [] x a = a
agrees_after p (z ∷ q) x a = by (eqb z.variable x) (agrees_after p q x a.1)
  where
    by : (m : Bool) → Agrees p (after x q) → Agrees p (cond m q (after x q))
    by true rest = a.1
    by false rest = rest

agrees_more : (z : Binding) (p q : Prefix) → binds q z.variable ≡ false → Agrees p q → Agrees (z ∷ p) q
unfolding quantifier_of binds
agrees_more z p [] f a = a
agrees_more z p (w ∷ q) f a =
    let parts = or_parts (eqb w.variable z.variable) (binds q z.variable) f in
    (by (eqb z.variable w.variable) refl parts.0, agrees_more z p q parts.1 a.1)
  where
    by : (m : Bool) → eqb z.variable w.variable ≡ m → eqb w.variable z.variable ≡ false
        → cond m z.quantifier (quantifier_of p w.variable) ≡ w.quantifier
    by true e k = absurd (true≢false (sym (eq-eqb w.variable z.variable (sym (eqb-true z.variable w.variable e))) ∙ k))
    by false e k = a.0

agrees : (p : Prefix) → distinct p ≡ true → Agrees p p
unfolding distinct quantifier_of
agrees [] d = tt
agrees (z ∷ p) d =
    let parts = and_parts (not (binds p z.variable)) (distinct p) d in (
      ap (λ (m : Bool). cond m z.quantifier (quantifier_of p z.variable)) (eq-eqb z.variable z.variable refl),
      agrees_more z p p (not-true (binds p z.variable) parts.0) (agrees p parts.1),
    )

-- an existential variable never goes, so it has the literals it had

existential-stays : (p : Prefix) (c : Tree) (x : ℕ) → quantifier_of p x ≡ exists → goes p c x ≡ false
unfolding goes
existential-stays p c x e =
    ap (λ (q : Quantifier). binds p x && (same_op for_all q && not (has_existential (after x p) c))) e ∙ and-false (binds p x)

has_staying : (p : Prefix) (c : Tree) (x : ℕ) → goes p c x ≡ false → (ts : Forest) → some_child (λ t. not (is_literal t)) ts ≡ false
    → has_any (of x) (keep (stays p c) ts) ≡ has_any (of x) ts
unfolding has keep stays some_child is_literal
has_staying p c x g ∅ l = refl
has_staying p c x g (node o us ▸ ts) l = absurd (true≢false l)
has_staying p c x g (lit s v ▸ ts) l = by (goes p c v) refl (has_staying p c x g ts l)
  where
    apart : (m : Bool) → eqb v x ≡ m → goes p c v ≡ true → m ≡ false
    apart true e h = absurd (false≢true (sym g ∙ ap (goes p c) (sym (eqb-true v x e)) ∙ h))
    apart false e h = refl

    by : (m : Bool) → goes p c v ≡ m → has_any (of x) (keep (stays p c) ts) ≡ has_any (of x) ts
        → has_any (of x) (cond (not m) (lit s v ▸ keep (stays p c) ts) (keep (stays p c) ts)) ≡ (eqb v x || has_any (of x) ts)
    by true e rest = rest ∙ ap (λ (m : Bool). m || has_any (of x) ts) (sym (apart (eqb v x) refl e))
    by false e rest = ap (λ (m : Bool). eqb v x || m) rest

-- two clauses with the same existential variables lose the same

module _ (p : Prefix) (c w : Tree) (same : (x : ℕ) → quantifier_of p x ≡ exists → occurs w x ≡ occurs c x) where
  same_existential : (q : Prefix) → Agrees p q → has_existential q w ≡ has_existential q c
  unfolding has_existential
  same_existential [] a = refl
  same_existential (z ∷ q) a = ap₂ ◌||◌ (by z.quantifier a.0) (same_existential q a.1)
    where
      by : (k : Quantifier) → quantifier_of p z.variable ≡ k
          → (same_op exists k && occurs w z.variable) ≡ (same_op exists k && occurs c z.variable)
      by and e = refl
      by or e = same z.variable e

  same_goes : distinct p ≡ true → (x : ℕ) → goes p w x ≡ goes p c x
  unfolding goes
  same_goes d x =
      ap (λ (m : Bool). binds p x && (same_op for_all (quantifier_of p x) && not m)) (same_existential (after x p) (agrees_after p p x (agrees p d)))

-- a clause that is a clause again, and stays as it is
record Again (p : Prefix) (w : Tree) : Type 0 where
  clause : is_clause w ≡ true
  fixed : tidy (reduce_clause p w) ≡ w

-- literals break no limit on operators
literals_sound : (ts : Forest) → some_child (λ t. not (is_literal t)) ts ≡ false
    → (some_child (is_op or) ts ≡ false) × (any (faults_all ts) ≡ false) × (some_two duplicate ts ≡ false)
unfolding some_child some_two is_literal is_op duplicate faults any
literals_sound ∅ l = (refl, refl, refl)
literals_sound (node o us ▸ ts) l = absurd (true≢false l)
literals_sound (lit s v ▸ ts) l =
    let (kinds, below, duplicates) = literals_sound ts l in
    (kinds, below, or-none (some_child_never (duplicate (lit s v)) (λ u. refl) ts) duplicates)

-- more literals than one, of different variables, are tidy under OR
many_tidy : (ts : Forest) → some_child (λ t. not (is_literal t)) ts ≡ false → some_two same_variable ts ≡ false → alone ts ≡ false
    → tidy (node or ts) ≡ node or ts
unfolding is_tidy root_faults any breaks
many_tidy ts l d a =
    let (kinds, below, duplicates) = literals_sound ts l in
    tidy_id (node or ts) (ap not (or-none (or-none (or-none (or-none a kinds) d) duplicates) below))

empty_again : (p : Prefix) → Again p (node or ∅)
unfolding is_clause reduce_clause keep tidy combine splice decides firsts unwrap some_child some_two
empty_again p = record { clause = refl; fixed = refl }

empty_tidied : (p : Prefix) → Again p (tidy (node or ∅))
unfolding tidy combine splice decides firsts unwrap some_child some_two
empty_tidied p = empty_again p

module _ (p : Prefix) (d : distinct p ≡ true) where
  literal_again : (s : Bool) (v : ℕ) → goes p (lit s v) v ≡ false → Again p (lit s v)
  unfolding is_clause reduce_clause tidy
  literal_again s v g = record { clause = refl; fixed = ap (λ (m : Bool). tidy (cond m (node or ∅) (lit s v))) g }

  same_stays : (c w : Tree) → ((x : ℕ) → quantifier_of p x ≡ exists → occurs w x ≡ occurs c x) → (t : Tree) → stays p w t ≡ stays p c t
  unfolding stays
  same_stays c w h (lit s v) = ap not (same_goes p c w h d v)
  same_stays c w h (node o ts) = refl

  -- the literals that stay of a clause: more than one
  many_again : (c : Tree) (ks : Forest) → some_child (λ t. not (is_literal t)) ks ≡ false → some_two same_variable ks ≡ false
      → keep (stays p c) ks ≡ ks → ((x : ℕ) → quantifier_of p x ≡ exists → occurs (node or ks) x ≡ occurs c x) → alone ks ≡ false
      → Again p (tidy (node or ks))
  unfolding is_clause reduce_clause
  many_again c ks l n k h a =
      let same = many_tidy ks l n a in
      subst (Again p) (sym same)
      (record {
        clause = ap not l;
        fixed = ap (λ us. tidy (node or us)) (keep_same (same_stays c (node or ks) h) ks ∙ k) ∙ same;
      })

  one_stays : (c : Tree) (s : Bool) (v : ℕ) → keep (stays p c) (lit s v ▸ ∅) ≡ lit s v ▸ ∅ → goes p c v ≡ false
  unfolding keep stays
  one_stays c s v k = by (goes p c v) k
    where
      none : Forest → Bool
      none ∅ = true
      none (t ▸ ts) = false

      by : (m : Bool) → cond (not m) (lit s v ▸ ∅) ∅ ≡ lit s v ▸ ∅ → m ≡ false
      by true e = absurd (true≢false (ap none e))
      by false e = refl

  any_again : (c : Tree) (ks : Forest) → some_child (λ t. not (is_literal t)) ks ≡ false → some_two same_variable ks ≡ false
      → keep (stays p c) ks ≡ ks → ((x : ℕ) → quantifier_of p x ≡ exists → occurs (node or ks) x ≡ occurs c x) → Again p (tidy (node or ks))
  unfolding tidy combine splice spliced decides is_empty firsts keep unwrap some_child some_two is_literal alone has
  any_again c ∅ l n k h = empty_again p
  any_again c (node o us ▸ ts) l n k h = absurd (true≢false l)
  any_again c (lit s v ▸ ∅) l n k h =
      literal_again s v (same_goes p c (lit s v) (λ x e. sym (or-false (eqb v x)) ∙ h x e) d v ∙ one_stays c s v k)
  any_again c (lit s v ▸ u ▸ ts) l n k h = many_again c (lit s v ▸ u ▸ ts) l n k h refl

  twice : (c : Tree) (ts : Forest) → keep (stays p c) (keep (stays p c) ts) ≡ keep (stays p c) ts
  twice c ts = keep-keep (stays p c) (stays p c) (stays p c) (λ t. same (stays p c t)) ts
    where
      same : (m : Bool) → m ≡ (m && m)
      same true = refl
      same false = refl

  clause_again : (c : Tree) → Clean c → Again p (tidy (reduce_clause p c))
  unfolding reduce_clause is_clause has members tidy
  clause_again (lit s v) k = by (goes p (lit s v) v) refl
    where
      by : (m : Bool) → goes p (lit s v) v ≡ m → Again p (tidy (cond m (node or ∅) (lit s v)))
      by true e = empty_tidied p
      by false e = literal_again s v e
  clause_again (node and ts) k = absurd (false≢true k.clause)
  clause_again (node or ts) k =
      let c = node or ts in
      let l = members-literals c k.clause in
      any_again c (keep (stays p c) ts) (some_child-keep (λ t. not (is_literal t)) (stays p c) ts l)
      (some_two-keep same_variable (stays p c) ts k.no_two) (twice c ts)
      (λ x e. has_staying p c x (existential-stays p c x e) ts l)

  -- the clauses of a conjunction

  data Agains : Forest → Type 0 where
    none_left : Agains ∅
    more_left : {t : Tree} {ts : Forest} → Again p t → Agains ts → Agains (t ▸ ts)

  agains : (ts : Forest) → Cleans ts → Agains (tidy_all (reduce_all p ts))
  unfolding reduce_all tidy
  agains ∅ no_clause = none_left
  agains (t ▸ ts) (one_more k ks) = more_left (clause_again t k) (agains ts ks)

  agains_keep : (Q : Tree → Bool) (ts : Forest) → Agains ts → Agains (keep Q ts)
  unfolding keep
  agains_keep Q ∅ none_left = none_left
  agains_keep Q (t ▸ ts) (more_left k ks) = by (Q t) (agains_keep Q ts ks)
    where
      by : (m : Bool) → Agains (keep Q ts) → Agains (cond m (t ▸ keep Q ts) (keep Q ts))
      by true rest = more_left k rest
      by false rest = rest

  agains_firsts : (R : Tree → Tree → Bool) (ts : Forest) → Agains ts → Agains (firsts R ts)
  unfolding firsts
  agains_firsts R ∅ none_left = none_left
  agains_firsts R (t ▸ ts) (more_left k ks) = more_left k (agains_keep (λ u. not (R t u)) (firsts R ts) (agains_firsts R ts ks))

  agains_fixed : (ts : Forest) → Agains ts → tidy_all (reduce_all p ts) ≡ ts
  unfolding reduce_all tidy
  agains_fixed ∅ none_left = refl
  agains_fixed (t ▸ ts) (more_left k ks) = ap₂ (λ u us. u ▸ us) k.fixed (agains_fixed ts ks)

  agains_tidy : (ts : Forest) → Agains ts → tidy_all ts ≡ ts
  unfolding tidy
  agains_tidy ∅ none_left = refl
  agains_tidy (t ▸ ts) (more_left k ks) =
      ap₂ (λ u us. u ▸ us)
      (ap tidy (sym k.fixed) ∙ tidy_id (tidy (reduce_clause p t)) (tidy-is_tidy (reduce_clause p t)) ∙ k.fixed)
      (agains_tidy ts ks)

  agains_clauses : (ts : Forest) → Agains ts → some_child (λ t. not (is_clause t)) ts ≡ false
  unfolding some_child
  agains_clauses ∅ none_left = refl
  agains_clauses (t ▸ ts) (more_left k ks) = or-none (ap not k.clause) (agains_clauses ts ks)

  no_and : (t : Tree) → is_clause t ≡ true → is_op and t ≡ false
  unfolding is_clause is_op
  no_and (lit s v) h = refl
  no_and (node and ts) h = absurd (false≢true h)
  no_and (node or ts) h = refl

  agains_kinds : (ts : Forest) → Agains ts → some_child (is_op and) ts ≡ false
  unfolding some_child
  agains_kinds ∅ none_left = refl
  agains_kinds (t ▸ ts) (more_left k ks) = or-none (no_and t k.clause) (agains_kinds ts ks)

  -- a tree that is of the profile again, and stays as it is
  record Stays (u : Tree) : Type 0 where
    profile : in_profile u ≡ true
    unchanged : tidy (reduce_tree p u) ≡ u

  clause_stays : (w : Tree) → Again p w → Stays w
  unfolding in_profile reduce_tree is_clause
  clause_stays (lit s v) k = record { profile = refl; unchanged = k.fixed }
  clause_stays (node or ts) k = record { profile = k.clause; unchanged = k.fixed }
  clause_stays (node and ts) k = absurd (false≢true k.clause)

  unwrapped : (ws : Forest) → Agains ws → is_tidy (unwrap and ws) ≡ true → Stays (unwrap and ws)
  unfolding unwrap in_profile reduce_tree reduce_all some_child tidy
  unwrapped ∅ ks n = record { profile = refl; unchanged = empty }
    where
      empty : tidy (node and ∅) ≡ node and ∅
      empty = tidy_id (node and ∅) n
  unwrapped (w ▸ ∅) (more_left k ks) n = clause_stays w k
  unwrapped (w ▸ v ▸ ws) ks n =
      let us = w ▸ v ▸ ws in
      record {
        profile = ap not (agains_clauses us ks);
        unchanged = ap (combine and) (agains_fixed us ks ∙ sym (agains_tidy us ks)) ∙ tidy_id (node and us) n;
      }

  conjunction_stays : (us : Forest) → Agains us → is_tidy (combine and us) ≡ true → Stays (combine and us)
  unfolding combine
  conjunction_stays us ks n =
      let same = splice-none and us (agains_kinds us ks) in
      by (decides and (splice and us)) (splice and us) same n
    where
      by : (m : Bool) (vs : Forest) → vs ≡ us → is_tidy (cond m (node or ∅) (unwrap and (firsts duplicate (firsts equal vs)))) ≡ true
          → Stays (cond m (node or ∅) (unwrap and (firsts duplicate (firsts equal vs))))
      by true vs e n = clause_stays (node or ∅) (empty_again p)
      by false vs e n =
          unwrapped (firsts duplicate (firsts equal vs)) (agains_firsts duplicate (firsts equal vs) (agains_firsts equal vs (subst Agains (sym e) ks))) n

  tree_stays : (t : Tree) → in_profile t ≡ true → is_tidy t ≡ true → Stays (tidy (reduce_tree p t))
  unfolding in_profile reduce_tree tidy is_tidy root_faults any
  tree_stays (lit s v) h n = clause_stays (tidy (reduce_clause p (lit s v))) (clause_again (lit s v) (lone_literal s v))
  tree_stays (node or ts) h n = clause_stays (tidy (reduce_clause p (node or ts))) (clause_again (node or ts) (clean_root (node or ts) h n))
  tree_stays (node and ts) h n =
      conjunction_stays (tidy_all (reduce_all p ts))
      (agains ts
      (cleans_below ts (not-true (some_child (λ t. not (is_clause t)) ts) h)
      (or_parts (breaks and ts) (any (faults_all ts)) (not-true (any (root_faults (node and ts))) n)).1))
      (tidy-is_tidy (node and (reduce_all p ts)))

module _ (f : Formula) (d : distinct f.prefix ≡ true) (h : in_profile f.matrix ≡ true) (n : is_tidy f.matrix ≡ true) where
  pub reduced_profile : in_profile (reduced f).matrix ≡ true
  unfolding reduced
  reduced_profile = (tree_stays f.prefix d f.matrix h n).profile

  pub reduced_again : reduced (reduced f) ≡ reduced f
  unfolding reduced
  reduced_again =
      ap (λ (t : Tree). record { prefix = f.prefix; matrix = t }) (tree_stays f.prefix d f.matrix h n).unchanged
