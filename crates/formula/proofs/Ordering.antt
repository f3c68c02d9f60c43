-- The order on trees is total, antisymmetric and transitive.
-- Assumes nothing.
use mathlib.Core.Path.{◌≡◌, refl, sym, ◌∙◌, ap, ap₂}
use mathlib.Core.Bool.{Bool, true, false, cond}
use mathlib.Core.List.{[], ◌∷◌}
use Prim.Native.Nat.{ℕ, ◌<◌}
use native.Mathlib.Omega.{arith}
use lib.Dec.{ltb}
use lib.ListN.{length}
use borrow.Author.Tests.{ltb-true, ltb-false, lt-ltb, le-ltb}
use Rattle.formula.specs.Tree.{Op, and, or, Quantifier, Tree, lit, node, Forest, ∅, ◌▸◌, Binding, Prefix, Formula, count}
use Rattle.formula.specs.Order.{Ordering, before, same, after, ◌then◌, compare_numbers, operator_rank, sign_rank, quantifier_rank}
use Rattle.formula.specs.Order.{compare_trees, compare_children, not_after, leads, compare_bindings, compare_bound, compare_prefixes}
use Rattle.formula.specs.Order.{compare_formulas, sort}
use Rattle.formula.specs.Order.{turned, Chain}

-- orderings

turned_then : (x y : Ordering) → turned (x then y) ≡ turned x then turned y
turned_then before y = refl
turned_then same y = refl
turned_then after y = refl

pub then_same : (x y : Ordering) → (x then y) ≡ same → (x ≡ same) × (y ≡ same)
then_same before y h = (cc, cc)
then_same same y h = (refl, h)
then_same after y h = (cc, cc)

-- the second comparison matters only where the first finds no difference
pub then_where : (x y z : Ordering) → (x ≡ same → y ≡ z) → (x then y) ≡ (x then z)
then_where before y z h = refl
then_where same y z h = h refl
then_where after y z h = refl

pub then_assoc : (x y z : Ordering) → ((x then y) then z) ≡ (x then (y then z))
then_assoc before y z = refl
then_assoc same y z = refl
then_assoc after y z = refl

starts-before : (y : Ordering) → Chain before y before
starts-before before = refl
starts-before same = refl
starts-before after = tt

starts-after : (y : Ordering) → Chain after y after
starts-after before = tt
starts-after same = refl
starts-after after = refl

ends-before : (x : Ordering) → Chain x before before
ends-before before = refl
ends-before same = refl
ends-before after = tt

ends-after : (x : Ordering) → Chain x after after
ends-after before = tt
ends-after same = refl
ends-after after = refl

chain_then : (x y o x' y' o' : Ordering) → Chain x y o → Chain x' y' o' → Chain (x then x') (y then y') (o then o')
chain_then before before o x' y' o' h k = ap (λ (p : Ordering). p then o') h
chain_then before same o x' before o' h k = ap (λ (p : Ordering). p then o') h
chain_then before same o x' same o' h k = ap (λ (p : Ordering). p then o') h
chain_then before same o x' after o' h k = tt
chain_then before after o x' y' o' h k = tt
chain_then same before o before y' o' h k = ap (λ (p : Ordering). p then o') h
chain_then same before o same y' o' h k = ap (λ (p : Ordering). p then o') h
chain_then same before o after y' o' h k = tt
chain_then same same o x' y' o' h k = rw h k
chain_then same after o before y' o' h k = tt
chain_then same after o same y' o' h k = ap (λ (p : Ordering). p then o') h
chain_then same after o after y' o' h k = ap (λ (p : Ordering). p then o') h
chain_then after before o x' y' o' h k = tt
chain_then after same o x' before o' h k = tt
chain_then after same o x' same o' h k = ap (λ (p : Ordering). p then o') h
chain_then after same o x' after o' h k = ap (λ (p : Ordering). p then o') h
chain_then after after o x' y' o' h k = ap (λ (p : Ordering). p then o') h

-- compare-numbers

pub numbers-before : (a b : ℕ) → a < b → compare_numbers a b ≡ before
unfolding compare_numbers
numbers-before a b h = rw (lt-ltb a b h)

pub numbers_after : (a b : ℕ) → b < a → compare_numbers a b ≡ after
unfolding compare_numbers
numbers_after a b h = rw (le-ltb a b (omega arith), lt-ltb b a h)

pub numbers_same : (a : ℕ) → compare_numbers a a ≡ same
unfolding compare_numbers
numbers_same a = rw (le-ltb a a (omega arith))

-- three cases
data Compared (a b : ℕ) : Ordering → Type 0 where
  lower : a < b → Compared a b before
  level : a ≡ b → Compared a b same
  upper : b < a → Compared a b after

compared : (a b : ℕ) → Compared a b (compare_numbers a b)
unfolding compare_numbers
compared a b = by (ltb a b) (ltb b a) refl refl
  where
    by : (p q : Bool) → ltb a b ≡ p → ltb b a ≡ q → Compared a b (cond p before (cond q after same))
    by true q e f = lower (ltb-true a b e)
    by false true e f = upper (ltb-true b a f)
    by false false e f = level (omega (arith, ltb-false a b e, ltb-false b a f))

pub numbers-equal : (a b : ℕ) → compare_numbers a b ≡ same → a ≡ b
numbers-equal a b h = by (compare_numbers a b) (compared a b) h
  where
    by : (o : Ordering) → Compared a b o → o ≡ same → a ≡ b
    by o (lower l) e = cc
    by o (level l) e = l
    by o (upper l) e = cc

numbers-turned : (a b : ℕ) → compare_numbers b a ≡ turned (compare_numbers a b)
numbers-turned a b = by (compare_numbers a b) (compared a b)
  where
    by : (o : Ordering) → Compared a b o → compare_numbers b a ≡ turned o
    by o (lower l) = numbers_after b a l
    by o (level l) = ap (λ n. compare_numbers b n) l ∙ numbers_same b
    by o (upper l) = numbers-before b a l

numbers_chain : (a b c : ℕ) → Chain (compare_numbers a b) (compare_numbers b c) (compare_numbers a c)
numbers_chain a b c = by (compare_numbers a b) (compare_numbers b c) (compared a b) (compared b c)
  where
    by : (x y : Ordering) → Compared a b x → Compared b c y → Chain x y (compare_numbers a c)
    by x y (lower l) (lower m) = numbers-before a c (omega arith)
    by x y (lower l) (level m) = numbers-before a c (omega arith)
    by x y (lower l) (upper m) = tt
    by x y (level l) (lower m) = numbers-before a c (omega arith)
    by x y (level l) (level m) = ap (λ n. compare_numbers n c) (l ∙ m) ∙ numbers_same c
    by x y (level l) (upper m) = numbers_after a c (omega arith)
    by x y (upper l) (lower m) = tt
    by x y (upper l) (level m) = numbers_after a c (omega arith)
    by x y (upper l) (upper m) = numbers_after a c (omega arith)

-- ranks name what they rank

sign-equal : (s t : Bool) → sign_rank s ≡ sign_rank t → s ≡ t
sign-equal true true h = refl
sign-equal true false h = absurd (omega arith)
sign-equal false true h = absurd (omega arith)
sign-equal false false h = refl

operator_equal : (o k : Op) → operator_rank o ≡ operator_rank k → o ≡ k
operator_equal and and h = refl
operator_equal and or h = absurd (omega arith)
operator_equal or and h = absurd (omega arith)
operator_equal or or h = refl

quantifier-equal : (p q : Quantifier) → quantifier_rank p ≡ quantifier_rank q → p ≡ q
quantifier-equal and and h = refl
quantifier-equal and or h = absurd (omega arith)
quantifier-equal or and h = absurd (omega arith)
quantifier-equal or or h = refl

-- compare-trees

mutual
  unfolding compare_trees

  -- a tree beside itself
  pub trees_same : (t : Tree) → compare_trees t t ≡ same
  trees_same (lit s v) = ap₂ ◌then◌ (numbers_same v) (numbers_same (sign_rank s))
  trees_same (node o ts) =
      ap₂ ◌then◌ (numbers_same (operator_rank o)) (ap₂ ◌then◌ (numbers_same (count ts)) (children_same ts))

  children_same : (ts : Forest) → compare_children ts ts ≡ same
  children_same ∅ = refl
  children_same (t ▸ ts) = ap₂ ◌then◌ (trees_same t) (children_same ts)

mutual
  unfolding compare_trees

  -- no difference: the trees are equal
  pub trees-equal : (t u : Tree) → compare_trees t u ≡ same → t ≡ u
  trees-equal (lit s v) (lit s' v') h =
      let (e, f) = then_same (compare_numbers v v') _ h in
      ap₂ lit (sign-equal s s' (numbers-equal _ _ f)) (numbers-equal v v' e)
  trees-equal (lit s v) (node o us) h = cc
  trees-equal (node o ts) (lit s v) h = cc
  trees-equal (node o ts) (node k us) h =
      let (e, f) = then_same (compare_numbers (operator_rank o) (operator_rank k)) _ h in
      let (g, i) = then_same (compare_numbers (count ts) (count us)) _ f in
      ap₂ node (operator_equal o k (numbers-equal _ _ e)) (children-equal ts us i)

  children-equal : (ts us : Forest) → compare_children ts us ≡ same → ts ≡ us
  children-equal ∅ ∅ h = refl
  children-equal ∅ (u ▸ us) h = cc
  children-equal (t ▸ ts) ∅ h = cc
  children-equal (t ▸ ts) (u ▸ us) h =
      let (e, f) = then_same (compare_trees t u) _ h in
      ap₂ ◌▸◌ (trees-equal t u e) (children-equal ts us f)

mutual
  unfolding compare_trees

  -- the other way round
  pub trees-turned : (t u : Tree) → compare_trees u t ≡ turned (compare_trees t u)
  trees-turned (lit s v) (lit s' v') =
      ap₂ ◌then◌ (numbers-turned v v') (numbers-turned (sign_rank s) (sign_rank s')) ∙ sym (turned_then (compare_numbers v v') _)
  trees-turned (lit s v) (node o us) = refl
  trees-turned (node o ts) (lit s v) = refl
  trees-turned (node o ts) (node k us) =
      ap₂ ◌then◌ (numbers-turned (operator_rank o) (operator_rank k))
      (ap₂ ◌then◌ (numbers-turned (count ts) (count us)) (children-turned ts us) ∙ sym (turned_then (compare_numbers (count ts) (count us)) _)) ∙
      sym (turned_then (compare_numbers (operator_rank o) (operator_rank k)) _)

  children-turned : (ts us : Forest) → compare_children us ts ≡ turned (compare_children ts us)
  children-turned ∅ ∅ = refl
  children-turned ∅ (u ▸ us) = refl
  children-turned (t ▸ ts) ∅ = refl
  children-turned (t ▸ ts) (u ▸ us) =
      ap₂ ◌then◌ (trees-turned t u) (children-turned ts us) ∙ sym (turned_then (compare_trees t u) _)

mutual
  unfolding compare_trees

  -- from one to the next
  pub trees_chain : (t u w : Tree) → Chain (compare_trees t u) (compare_trees u w) (compare_trees t w)
  trees_chain (lit s v) (lit s' v') (lit s'' v'') =
      chain_then (compare_numbers v v') (compare_numbers v' v'') (compare_numbers v v'') _ _ _ (numbers_chain v v' v'')
      (numbers_chain (sign_rank s) (sign_rank s') (sign_rank s''))
  trees_chain (lit s v) (lit s' v') (node o ws) = ends-before (compare_trees (lit s v) (lit s' v'))
  trees_chain (lit s v) (node o us) (lit s' v') = tt
  trees_chain (lit s v) (node o us) (node k ws) = starts-before (compare_trees (node o us) (node k ws))
  trees_chain (node o ts) (lit s v) (lit s' v') = starts-after (compare_trees (lit s v) (lit s' v'))
  trees_chain (node o ts) (lit s v) (node k ws) = tt
  trees_chain (node o ts) (node k us) (lit s v) = ends-after (compare_trees (node o ts) (node k us))
  trees_chain (node o ts) (node k us) (node l ws) =
      chain_then (compare_numbers (operator_rank o) (operator_rank k)) (compare_numbers (operator_rank k) (operator_rank l))
      (compare_numbers (operator_rank o) (operator_rank l)) _ _ _ (numbers_chain (operator_rank o) (operator_rank k) (operator_rank l))
      (chain_then (compare_numbers (count ts) (count us)) (compare_numbers (count us) (count ws)) (compare_numbers (count ts) (count ws)) _ _ _
      (numbers_chain (count ts) (count us) (count ws)) (children_chain ts us ws))

  children_chain : (ts us ws : Forest) → Chain (compare_children ts us) (compare_children us ws) (compare_children ts ws)
  children_chain ∅ ∅ ∅ = refl
  children_chain ∅ ∅ (w ▸ ws) = refl
  children_chain ∅ (u ▸ us) ∅ = tt
  children_chain ∅ (u ▸ us) (w ▸ ws) = starts-before (compare_children (u ▸ us) (w ▸ ws))
  children_chain (t ▸ ts) ∅ ∅ = refl
  children_chain (t ▸ ts) ∅ (w ▸ ws) = tt
  children_chain (t ▸ ts) (u ▸ us) ∅ = ends-after (compare_children (t ▸ ts) (u ▸ us))
  children_chain (t ▸ ts) (u ▸ us) (w ▸ ws) =
      chain_then (compare_trees t u) (compare_trees u w) (compare_trees t w) _ _ _ (trees_chain t u w) (children_chain ts us ws)

-- leads: one of two trees may stand before the other; if each may, they are equal; and what leads a leader leads

pub leads-total : (t u : Tree) → leads t u ≡ false → leads u t ≡ true
unfolding leads
leads-total t u h = rw (trees-turned t u) (by (compare_trees t u) h)
  where
    by : (o : Ordering) → not_after o ≡ false → not_after (turned o) ≡ true
    by before e = cc
    by same e = cc
    by after e = refl

pub leads_antisym : (t u : Tree) → leads t u ≡ true → leads u t ≡ true → t ≡ u
unfolding leads
leads_antisym t u h k =
    trees-equal t u (by (compare_trees t u) h (ap not_after (sym (trees-turned t u)) ∙ k))
  where
    by : (o : Ordering) → not_after o ≡ true → not_after (turned o) ≡ true → o ≡ same
    by before e f = cc
    by same e f = refl
    by after e f = cc

pub leads_trans : (t u w : Tree) → leads t u ≡ true → leads u w ≡ true → leads t w ≡ true
unfolding leads
leads_trans t u w h k = by (compare_trees t u) (compare_trees u w) (compare_trees t w) (trees_chain t u w) h k
  where
    by : (x y o : Ordering) → Chain x y o → not_after x ≡ true → not_after y ≡ true → not_after o ≡ true
    by before before o c e f = ap not_after c
    by before same o c e f = ap not_after c
    by before after o c e f = cc
    by same y o c e f = ap not_after c ∙ f
    by after y o c e f = cc

-- prefixes

bindings_same : (z : Binding) → compare_bindings z z ≡ same
unfolding compare_bindings
bindings_same z = ap₂ ◌then◌ (numbers_same (quantifier_rank z.quantifier)) (numbers_same z.variable)

bindings-equal : (y z : Binding) → compare_bindings y z ≡ same → y ≡ z
unfolding compare_bindings
bindings-equal y z h =
    let (e, f) = then_same (compare_numbers (quantifier_rank y.quantifier) (quantifier_rank z.quantifier)) _ h in
    ap₂ (λ (q : Quantifier) (x : ℕ). record { quantifier = q; variable = x }) (quantifier-equal _ _ (numbers-equal _ _ e))
    (numbers-equal _ _ f)

bound_same : (p : Prefix) → compare_bound p p ≡ same
unfolding compare_bound
bound_same [] = refl
bound_same (z ∷ p) = ap₂ ◌then◌ (bindings_same z) (bound_same p)

bound-equal : (p q : Prefix) → compare_bound p q ≡ same → p ≡ q
unfolding compare_bound
bound-equal [] [] h = refl
bound-equal [] (z ∷ q) h = cc
bound-equal (y ∷ p) [] h = cc
bound-equal (y ∷ p) (z ∷ q) h =
    let (e, f) = then_same (compare_bindings y z) _ h in
    ap₂ ◌∷◌ (bindings-equal y z e) (bound-equal p q f)

bindings-turned : (y z : Binding) → compare_bindings z y ≡ turned (compare_bindings y z)
unfolding compare_bindings
bindings-turned y z =
    let a = quantifier_rank y.quantifier in
    let b = quantifier_rank z.quantifier in
    ap₂ ◌then◌ (numbers-turned a b) (numbers-turned y.variable z.variable) ∙ sym (turned_then (compare_numbers a b) _)

bound-turned : (p q : Prefix) → compare_bound q p ≡ turned (compare_bound p q)
unfolding compare_bound
bound-turned [] [] = refl
bound-turned [] (z ∷ q) = refl
bound-turned (y ∷ p) [] = refl
bound-turned (y ∷ p) (z ∷ q) = ap₂ ◌then◌ (bindings-turned y z) (bound-turned p q) ∙ sym (turned_then (compare_bindings y z) _)

bindings_chain : (x y z : Binding) → Chain (compare_bindings x y) (compare_bindings y z) (compare_bindings x z)
unfolding compare_bindings
bindings_chain x y z =
    let a = quantifier_rank x.quantifier in
    let b = quantifier_rank y.quantifier in
    let c = quantifier_rank z.quantifier in
    chain_then (compare_numbers a b) (compare_numbers b c) (compare_numbers a c) _ _ _ (numbers_chain a b c)
    (numbers_chain x.variable y.variable z.variable)

bound_chain : (p q r : Prefix) → Chain (compare_bound p q) (compare_bound q r) (compare_bound p r)
unfolding compare_bound
bound_chain [] [] [] = refl
bound_chain [] [] (z ∷ r) = refl
bound_chain [] (y ∷ q) [] = tt
bound_chain [] (y ∷ q) (z ∷ r) = starts-before (compare_bound (y ∷ q) (z ∷ r))
bound_chain (x ∷ p) [] [] = refl
bound_chain (x ∷ p) [] (z ∷ r) = tt
bound_chain (x ∷ p) (y ∷ q) [] = ends-after (compare_bound (x ∷ p) (y ∷ q))
bound_chain (x ∷ p) (y ∷ q) (z ∷ r) =
    chain_then (compare_bindings x y) (compare_bindings y z) (compare_bindings x z) _ _ _ (bindings_chain x y z) (bound_chain p q r)

pub prefixes_same : (p : Prefix) → compare_prefixes p p ≡ same
unfolding compare_prefixes
prefixes_same p = ap₂ ◌then◌ (numbers_same (length p)) (bound_same p)

pub prefixes_equal : (p q : Prefix) → compare_prefixes p q ≡ same → p ≡ q
unfolding compare_prefixes
prefixes_equal p q h = bound-equal p q (then_same (compare_numbers (length p) (length q)) _ h).1

pub prefixes_turned : (p q : Prefix) → compare_prefixes q p ≡ turned (compare_prefixes p q)
unfolding compare_prefixes
prefixes_turned p q =
    ap₂ ◌then◌ (numbers-turned (length p) (length q)) (bound-turned p q) ∙ sym (turned_then (compare_numbers (length p) (length q)) _)

pub prefixes_chain : (p q r : Prefix) → Chain (compare_prefixes p q) (compare_prefixes q r) (compare_prefixes p r)
unfolding compare_prefixes
prefixes_chain p q r =
    chain_then (compare_numbers (length p) (length q)) (compare_numbers (length q) (length r)) (compare_numbers (length p) (length r)) _ _ _
    (numbers_chain (length p) (length q) (length r)) (bound_chain p q r)

-- formulas: the other way round, and from one to the next

pub formulas_turned : (f g : Formula) → compare_formulas g f ≡ turned (compare_formulas f g)
unfolding compare_formulas
formulas_turned f g =
    ap₂ ◌then◌ (prefixes_turned f.prefix g.prefix) (trees-turned (sort f.matrix) (sort g.matrix)) ∙
    sym (turned_then (compare_prefixes f.prefix g.prefix) _)

pub formulas_chain : (f g h : Formula) → Chain (compare_formulas f g) (compare_formulas g h) (compare_formulas f h)
unfolding compare_formulas
formulas_chain f g h =
    chain_then (compare_prefixes f.prefix g.prefix) (compare_prefixes g.prefix h.prefix) (compare_prefixes f.prefix h.prefix) _ _
    _ (prefixes_chain f.prefix g.prefix h.prefix) (trees_chain (sort f.matrix) (sort g.matrix) (sort h.matrix))
