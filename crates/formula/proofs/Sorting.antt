-- Sorting: trees that differ only in the order of children have one sorted tree, and a tree differs from its sorted one only so.
-- Assumes nothing.
use mathlib.Core.Path.{◌≡◌, refl, sym, ◌∙◌, ap, ap₂, subst}
use mathlib.Core.Bool.{Bool, true, false, ◌||◌, cond}
use mathlib.Core.Logic.{◌↔◌}
use Prim.Native.Nat.{suc, ◌+◌}
use native.Mathlib.Omega.{arith}
use Rattle.formula.specs.Tree.{Op, or, Tree, lit, node, Forest, ∅, ◌▸◌, Formula, Literals, rows, rows_all, has, has_any, count}
use Rattle.formula.specs.Truth.{Assignment, join, eval, eval_all, truth}
use Rattle.formula.specs.Order.{same, ◌then◌, compare_trees, compare_prefixes, compare_formulas, leads, insert, sort, sort_all, sorted}
use Rattle.formula.specs.Order.{Rearranged, literal, operator, Reordered, nothing, inside, exchanged, again}
use Rattle.formula.proofs.Booleans.{join_swap}
use Rattle.formula.proofs.Binding.{bind_ext}
use Rattle.formula.proofs.Ordering.{then_same, trees_same, trees-equal, leads-total, leads_antisym, leads_trans, prefixes_same, prefixes_equal}

-- the relation

mutual
  pub rearranged_refl : (t : Tree) → Rearranged t t
  rearranged_refl (lit s v) = literal s v
  rearranged_refl (node o ts) = operator o (reordered_refl ts)

  pub reordered_refl : (ts : Forest) → Reordered ts ts
  reordered_refl ∅ = nothing
  reordered_refl (t ▸ ts) = inside (rearranged_refl t) (reordered_refl ts)

mutual
  pub rearranged_sym : {t u : Tree} → Rearranged t u → Rearranged u t
  rearranged_sym (literal s v) = literal s v
  rearranged_sym (operator o r) = operator o (reordered_sym r)

  pub reordered_sym : {ts us : Forest} → Reordered ts us → Reordered us ts
  reordered_sym nothing = nothing
  reordered_sym (inside r rs) = inside (rearranged_sym r) (reordered_sym rs)
  reordered_sym (exchanged t u ts) = exchanged u t ts
  reordered_sym (again r rs) = again (reordered_sym rs) (reordered_sym r)

pub rearranged_trans : {t u w : Tree} → Rearranged t u → Rearranged u w → Rearranged t w
rearranged_trans (literal s v) r = r
rearranged_trans (operator o r) (operator _ q) = operator o (again r q)

-- insert

insert-none : (t : Tree) → insert t ∅ ≡ t ▸ ∅
unfolding insert
insert-none t = refl

pub insert-leads : (t u : Tree) (us : Forest) → leads t u ≡ true → insert t (u ▸ us) ≡ t ▸ u ▸ us
unfolding insert
insert-leads t u us h = rw h

pub insert-follows : (t u : Tree) (us : Forest) → leads t u ≡ false → insert t (u ▸ us) ≡ u ▸ insert t us
unfolding insert
insert-follows t u us h = rw h

-- two trees that may both stand in front: whichever comes first
insert-front : (t u : Tree) (ts : Forest) → insert t ts ≡ t ▸ ts → insert u ts ≡ u ▸ ts → insert t (u ▸ ts) ≡ insert u (t ▸ ts)
insert-front t u ts h k = by (leads t u) (leads u t) refl refl
  where
    by : (a b : Bool) → leads t u ≡ a → leads u t ≡ b → insert t (u ▸ ts) ≡ insert u (t ▸ ts)
    by true true e f =
        let p = leads_antisym t u e f in
        ap₂ (λ (x y : Tree). insert x (y ▸ ts)) p (sym p)
    by true false e f = insert-leads t u ts e ∙ sym (insert-follows u t ts f ∙ ap (λ us. t ▸ us) k)
    by false true e f = insert-follows t u ts e ∙ ap (λ us. u ▸ us) h ∙ sym (insert-leads u t ts f)
    by false false e f = cc (leads-total t u e)

-- one that may stand before the head, and one that may not
insert_apart : (t u w : Tree) (ws : Forest) → leads t w ≡ true → leads u w ≡ false → insert t (insert u (w ▸ ws)) ≡ insert u (insert t (w ▸ ws))
insert_apart t u w ws e f =
    rw (insert-follows u w ws f, insert-leads t w (insert u ws) e, insert-leads t w ws e, insert-follows u t (w ▸ ws) late, insert-follows u w ws f)
  where
    late : leads u t ≡ false
    late = by (leads u t) refl
      where
        by : (b : Bool) → leads u t ≡ b → b ≡ false
        by true g = sym (leads_trans u t w g e) ∙ f
        by false g = refl

-- inserting two trees commutes, for every list
pub insert_swap : (t u : Tree) (ws : Forest) → insert t (insert u ws) ≡ insert u (insert t ws)
insert_swap t u ∅ =
    ap (insert t) (insert-none u) ∙ insert-front t u ∅ (insert-none t) (insert-none u) ∙ sym (ap (insert u) (insert-none t))
insert_swap t u (w ▸ ws) = by (leads t w) (leads u w) refl refl (insert_swap t u ws)
  where
    by : (a b : Bool) → leads t w ≡ a → leads u w ≡ b → insert t (insert u ws) ≡ insert u (insert t ws)
        → insert t (insert u (w ▸ ws)) ≡ insert u (insert t (w ▸ ws))
    by true true e f h =
        ap (insert t) (insert-leads u w ws f) ∙ insert-front t u (w ▸ ws) (insert-leads t w ws e) (insert-leads u w ws f) ∙
        sym (ap (insert u) (insert-leads t w ws e))
    by true false e f h = insert_apart t u w ws e f
    by false true e f h = sym (insert_apart u t w ws f e)
    by false false e f h =
        ap (insert t) (insert-follows u w ws f) ∙ insert-follows t w (insert u ws) e ∙ ap (λ vs. w ▸ vs) h ∙
        sym (ap (insert u) (insert-follows t w ws e) ∙ insert-follows u w (insert t ws) f)

pub reordered_insert : (t : Tree) (ts : Forest) → Reordered (t ▸ ts) (insert t ts)
unfolding insert
reordered_insert t ∅ = reordered_refl (t ▸ ∅)
reordered_insert t (u ▸ us) = by (leads t u) (reordered_insert t us)
  where
    by : (b : Bool) → Reordered (t ▸ us) (insert t us) → Reordered (t ▸ u ▸ us) (cond b (t ▸ u ▸ us) (u ▸ insert t us))
    by true r = reordered_refl (t ▸ u ▸ us)
    by false r = again (exchanged t u us) (inside (rearranged_refl u) r)

-- sort

mutual
  unfolding sort

  pub sort_rearranged : {t u : Tree} → Rearranged t u → sort t ≡ sort u
  sort_rearranged (literal s v) = refl
  sort_rearranged (operator o r) = ap (node o) (sort_reordered r)

  pub sort_reordered : {ts us : Forest} → Reordered ts us → sort_all ts ≡ sort_all us
  sort_reordered nothing = refl
  sort_reordered (inside r rs) = ap₂ insert (sort_rearranged r) (sort_reordered rs)
  sort_reordered (exchanged t u ts) = insert_swap (sort t) (sort u) (sort_all ts)
  sort_reordered (again r rs) = sort_reordered r ∙ sort_reordered rs

mutual
  unfolding sort

  pub rearranged_sort : (t : Tree) → Rearranged t (sort t)
  rearranged_sort (lit s v) = literal s v
  rearranged_sort (node o ts) = operator o (reordered_sort ts)

  pub reordered_sort : (ts : Forest) → Reordered ts (sort_all ts)
  reordered_sort ∅ = nothing
  reordered_sort (t ▸ ts) = again (inside (rearranged_sort t) (reordered_sort ts)) (reordered_insert (sort t) (sort_all ts))

pub sort_idempotent : (t : Tree) → sort (sort t) ≡ sort t
sort_idempotent t = sym (sort_rearranged (rearranged_sort t))

-- two trees have one sorted tree exactly when they differ only in the order of children
pub sort_exactly : (t u : Tree) → (sort t ≡ sort u) ↔ Rearranged t u
sort_exactly t u =
    ((λ e. rearranged_trans (subst (Rearranged t) e (rearranged_sort t)) (rearranged_sym (rearranged_sort u))), (λ r. sort_rearranged r))

-- Two formulas compare equal exactly when their prefixes are the same and their trees differ only in the order of children.
pub same_exactly : (f g : Formula) → (compare_formulas f g ≡ same) ↔ ((f.prefix ≡ g.prefix) × Rearranged f.matrix g.matrix)
unfolding compare_formulas
same_exactly f g = (to, from)
  where
    to : (compare_prefixes f.prefix g.prefix then compare_trees (sort f.matrix) (sort g.matrix)) ≡ same
        → (f.prefix ≡ g.prefix) × Rearranged f.matrix g.matrix
    to h =
        let (e, k) = then_same (compare_prefixes f.prefix g.prefix) _ h in
        (prefixes_equal _ _ e, (sort_exactly f.matrix g.matrix).0 (trees-equal _ _ k))

    from : (f.prefix ≡ g.prefix) × Rearranged f.matrix g.matrix
        → (compare_prefixes f.prefix g.prefix then compare_trees (sort f.matrix) (sort g.matrix)) ≡ same
    from (e, r) =
        ap₂ ◌then◌ (ap (λ p. compare_prefixes p g.prefix) e ∙ prefixes_same g.prefix)
        (ap (λ (t : Tree). compare_trees t (sort g.matrix)) (sort_rearranged r) ∙ trees_same (sort g.matrix))

-- value, rows and literals

mutual
  unfolding eval

  pub eval_rearranged : {t u : Tree} → Rearranged t u → (ρ : Assignment) → eval t ρ ≡ eval u ρ
  eval_rearranged (literal s v) ρ = refl
  eval_rearranged (operator o r) ρ = eval_reordered r o ρ

  pub eval_reordered : {ts us : Forest} → Reordered ts us → (o : Op) (ρ : Assignment) → eval_all ts o ρ ≡ eval_all us o ρ
  eval_reordered nothing o ρ = refl
  eval_reordered (inside r rs) o ρ = ap₂ (join o) (eval_rearranged r ρ) (eval_reordered rs o ρ)
  eval_reordered (exchanged t u ts) o ρ = join_swap o (eval t ρ) (eval u ρ) (eval_all ts o ρ)
  eval_reordered (again r rs) o ρ = eval_reordered r o ρ ∙ eval_reordered rs o ρ

mutual
  unfolding rows

  pub rows_rearranged : {t u : Tree} → Rearranged t u → rows t ≡ rows u
  rows_rearranged (literal s v) = refl
  rows_rearranged (operator o r) = ap suc (rows_reordered r)

  pub rows_reordered : {ts us : Forest} → Reordered ts us → rows_all ts ≡ rows_all us
  rows_reordered nothing = refl
  rows_reordered (inside r rs) = ap₂ ◌+◌ (rows_rearranged r) (rows_reordered rs)
  rows_reordered (exchanged t u ts) = omega arith
  rows_reordered (again r rs) = rows_reordered r ∙ rows_reordered rs

mutual
  unfolding has

  pub has_rearranged : {t u : Tree} → (L : Literals) → Rearranged t u → has L t ≡ has L u
  has_rearranged L (literal s v) = refl
  has_rearranged L (operator o r) = has_reordered L r

  pub has_reordered : {ts us : Forest} → (L : Literals) → Reordered ts us → has_any L ts ≡ has_any L us
  has_reordered L nothing = refl
  has_reordered L (inside r rs) = ap₂ ◌||◌ (has_rearranged L r) (has_reordered L rs)
  has_reordered L (exchanged t u ts) = join_swap or (has L t) (has L u) (has_any L ts)
  has_reordered L (again r rs) = has_reordered L r ∙ has_reordered L rs

pub count_reordered : {ts us : Forest} → Reordered ts us → count ts ≡ count us
unfolding count
count_reordered nothing = refl
count_reordered (inside r rs) = ap suc (count_reordered rs)
count_reordered (exchanged t u ts) = refl
count_reordered (again r rs) = count_reordered r ∙ count_reordered rs

pub eval-sort : (t : Tree) (ρ : Assignment) → eval (sort t) ρ ≡ eval t ρ
eval-sort t ρ = sym (eval_rearranged (rearranged_sort t) ρ)

-- truth is kept by sorting
pub truth-sorted : (f : Formula) → truth (sorted f) ≡ truth f
unfolding truth sorted
truth-sorted f = bind_ext f.prefix (λ ρ. eval-sort f.matrix ρ) (λ _. false)

pub rows-sort : (t : Tree) → rows (sort t) ≡ rows t
rows-sort t = sym (rows_rearranged (rearranged_sort t))

pub has-sort : (L : Literals) (t : Tree) → has L (sort t) ≡ has L t
has-sort L t = sym (has_rearranged L (rearranged_sort t))
