-- A tidied tree keeps the limits, and a tree that keeps them is left as it is.
-- Assumes nothing.
use mathlib.Core.Path.{◌≡◌, refl, sym, ◌∙◌, ap, ap₂}
use mathlib.Core.Bool.{Bool, true, false, not, ◌&&◌, ◌||◌, beq, or_assoc}
use mathlib.Core.List.{List, [], ◌∷◌, ◌++◌}
use mathlib.Core.Logic.{◌↔◌}
use lib.Dec.{eqb}
use borrow.Author.Tests.{not-true}
use Rattle.formula.specs.Tree.{Op, and, or, dual, same_op, Tree, lit, node, Forest, ∅, ◌▸◌, some_child, some_two}
use Rattle.formula.specs.Tidy.{is_op, is_empty, opposite, equal, duplicate, same_variable, splice, decides, firsts, unwrap, combine, tidy, tidy_all}
use Rattle.formula.specs.Tidy.{alone, childless, breaks, faults, faults_all, root_faults, any, is_tidy}
use Rattle.formula.proofs.Booleans.{cond_cases, or_parts, or-none}
use Rattle.formula.proofs.Forests.{some_child-both, some_child_less, some_two-both, some_two_less}
use Rattle.formula.proofs.Tidy.Children.{some_child-firsts, some_two-firsts, firsts_differ, firsts-all, some_child-splice, splice-none}

-- whether a tree has a row at fault: the whole tree, and a tree below the root
abbrev pub root_faulty : Tree → Bool
root_faulty t = any (root_faults t)

abbrev pub faulty : Tree → Bool
faulty t = any (faults t)

pub any-++ : (xs ys : List Bool) → any (xs ++ ys) ≡ (any xs || any ys)
unfolding any
any-++ [] ys = refl
any-++ (x ∷ xs) ys = ap (λ b. x || b) (any-++ xs ys) ∙ sym (or_assoc x _ _)

pub any-faults : (ts : Forest) → any (faults_all ts) ≡ some_child faulty ts
unfolding any faults_all some_child
any-faults ∅ = refl
any-faults (t ▸ ts) = any-++ (faults t) (faults_all ts) ∙ ap (λ b. faulty t || b) (any-faults ts)

-- below the root there is one limit more: no empty operator

pub faulty_root : (t : Tree) → faulty t ≡ false → root_faulty t ≡ false
unfolding faults root_faults any
faulty_root (lit s v) p = p
faulty_root (node o ts) p =
    let (at_root, at-ts) = or_parts (childless ts || breaks o ts) _ p in
    or-none (or_parts (childless ts) _ at_root).1 at-ts

faulty_empty : (k : Op) (t : Tree) → faulty t ≡ false → is_empty k t ≡ false
unfolding faults childless any is_empty
faulty_empty k (lit s v) p = refl
faulty_empty k (node o ∅) p = cc
faulty_empty k (node o (t ▸ ts)) p = refl

-- the limits on an operator's children, one by one

pub record Limits (o : Op) (ts : Forest) : Type 0 where
  pub many : alone ts ≡ false
  pub kinds : some_child (is_op o) ts ≡ false
  pub variables : some_two same_variable ts ≡ false
  pub duplicates : some_two duplicate ts ≡ false
  pub below : some_child faulty ts ≡ false

pub limits : (o : Op) (ts : Forest) → root_faulty (node o ts) ≡ false → Limits o ts
unfolding root_faults breaks any
limits o ts p =
    let (at_root, at-ts) = or_parts (breaks o ts) _ p in
    let (others, duplicates) = or_parts (alone ts || some_child (is_op o) ts || some_two same_variable ts) _ at_root in
    let (single, variables) = or_parts (alone ts || some_child (is_op o) ts) _ others in
    let (many, kinds) = or_parts (alone ts) _ single in
    record { many = many; kinds = kinds; variables = variables; duplicates = duplicates; below = sym (any-faults ts) ∙ at-ts }

-- what a spliced child may not be; if it does not decide the node or-cases, it has no fault
abbrev unfit : Op → Tree → Bool
unfit o t = is_op o t || root_faulty t

fit : (o : Op) (t : Tree) → unfit o t ≡ false → is_empty (dual o) t ≡ false → faulty t ≡ false
unfolding faults root_faults childless any is_op is_empty
fit o (lit s v) p q = refl
fit and (node and ∅) p q = cc
fit and (node or ∅) p q = cc
fit or (node and ∅) p q = cc
fit or (node or ∅) p q = cc
fit o (node k (t ▸ ts)) p q = (or_parts (same_op o k) _ p).1

-- two literals of one variable are opposite or equal

same_or_not : (a b : Bool) → a ≡ (a && not b || a && b)
same_or_not true true = refl
same_or_not true false = refl
same_or_not false b = refl

one_variable : (t u : Tree) → same_variable t u ≡ (opposite t u || equal t u)
unfolding same_variable opposite equal
one_variable (node o ts) u = refl
one_variable (lit s v) (node o ts) = refl
one_variable (lit s v) (lit s' v') = same_or_not (eqb v v') (beq s s')

together : (t u : Tree) → opposite t u ≡ false → equal t u ≡ false → same_variable t u ≡ false
together t u p q = one_variable t u ∙ or-none p q

apart : (t u : Tree) → same_variable t u ≡ false → (opposite t u ≡ false) × (equal t u ≡ false)
apart t u e = or_parts (opposite t u) _ (sym (one_variable t u) ∙ e)

-- tidied trees keep the limits

fit_splice : (o : Op) (ts : Forest) → some_child root_faulty ts ≡ false → some_child (unfit o) (splice o ts) ≡ false
fit_splice o = some_child-splice o root_faulty (unfit o) own (λ t e p. or-none e p)
  where
    own : (ts : Forest) → root_faulty (node o ts) ≡ false → some_child (unfit o) ts ≡ false
    own ts p =
        let l = limits o ts p in
        some_child-both (is_op o) faulty (unfit o) (λ t e q. or-none e (faulty_root t q)) ts l.kinds l.below

root_faulty_unwrap : (o : Op) (ts : Forest) → some_child (is_op o) ts ≡ false → some_two same_variable ts ≡ false → some_two duplicate ts ≡ false
    → some_child faulty ts ≡ false → root_faulty (unwrap o ts) ≡ false
unfolding root_faults breaks alone any unwrap some_child some_two faults_all
root_faulty_unwrap o ∅ kinds variables duplicates p = refl
root_faulty_unwrap o (t ▸ ∅) kinds variables duplicates p = faulty_root t (or_parts (faulty t) _ p).0
root_faulty_unwrap o (t ▸ u ▸ ts) kinds variables duplicates p = or-none (or-none (or-none kinds variables) duplicates) (any-faults (t ▸ u ▸ ts) ∙ p)

root_faulty_combine : (o : Op) (ts : Forest) → some_child root_faulty ts ≡ false → root_faulty (combine o ts) ≡ false
unfolding combine decides root_faults any breaks alone faults_all some_child some_two
root_faulty_combine o ts p = cond_cases (λ t. root_faulty t ≡ false) (decides o us) (λ _. refl) undecided
  where
    us : Forest
    us = splice o ts

    fits : some_child (unfit o) us ≡ false
    fits = fit_splice o ts p

    ws : Forest
    ws = firsts equal us

    passes : (P : Tree → Bool) → some_child P us ≡ false → some_child P (firsts duplicate ws) ≡ false
    passes P p = some_child-firsts duplicate P ws (some_child-firsts equal P us p)

    undecided : decides o us ≡ false → root_faulty (unwrap o (firsts duplicate ws)) ≡ false
    undecided d =
        let (filled, no-opposites) = or_parts (some_child (is_empty (dual o)) us) _ d in
        let kinds = some_child_less (unfit o) (is_op o) (λ t e. (or_parts (is_op o t) _ e).0) us fits in
        let below = some_child-both (unfit o) (is_empty (dual o)) faulty (fit o) us fits filled in
        let opposites = some_two-firsts equal opposite us no-opposites in
        let variables = some_two-both opposite equal same_variable together ws opposites (firsts_differ equal us) in
        root_faulty_unwrap o (firsts duplicate ws) (passes (is_op o) kinds) (some_two-firsts duplicate same_variable ws variables) (firsts_differ duplicate ws)
        (passes faulty below)

mutual
  unfolding root_faults any tidy_all some_child

  root_faulty_tidy : (t : Tree) → root_faulty (tidy t) ≡ false
  root_faulty_tidy (lit s v) = refl
  root_faulty_tidy (node o ts) = root_faulty_combine o (tidy_all ts) (root_faulty_tidy_all ts)

  root_faulty_tidy_all : (ts : Forest) → some_child root_faulty (tidy_all ts) ≡ false
  root_faulty_tidy_all ∅ = refl
  root_faulty_tidy_all (t ▸ ts) = or-none (root_faulty_tidy t) (root_faulty_tidy_all ts)

pub tidy-is_tidy : (t : Tree) → is_tidy (tidy t) ≡ true
unfolding is_tidy
tidy-is_tidy t = ap not (root_faulty_tidy t)

-- a tree that keeps the limits is left as it is

decides-none : (o : Op) (ts : Forest) → Limits o ts → decides o ts ≡ false
unfolding decides
decides-none o ts l =
    let filled = some_child_less faulty (is_empty (dual o)) (faulty_empty (dual o)) ts l.below in
    or-none filled (some_two_less same_variable opposite (λ t u e. (apart t u e).0) ts l.variables)

firsts-none : (o : Op) (ts : Forest) → Limits o ts → firsts duplicate (firsts equal ts) ≡ ts
firsts-none o ts l =
    ap (firsts duplicate) (firsts-all equal ts (some_two_less same_variable equal (λ t u e. (apart t u e).1) ts l.variables)) ∙
    firsts-all duplicate ts l.duplicates

unwrap-none : (o : Op) (ts : Forest) → alone ts ≡ false → unwrap o ts ≡ node o ts
unfolding alone unwrap
unwrap-none o ∅ e = refl
unwrap-none o (t ▸ ∅) e = cc
unwrap-none o (t ▸ u ▸ ts) e = refl

combine-none : (o : Op) (ts : Forest) → Limits o ts → combine o ts ≡ node o ts
unfolding combine
combine-none o ts l = rw (splice-none o ts l.kinds, decides-none o ts l, firsts-none o ts l) (unwrap-none o ts l.many)

mutual
  unfolding tidy_all some_child

  keeps : (t : Tree) → root_faulty t ≡ false → tidy t ≡ t
  keeps (lit s v) p = refl
  keeps (node o ts) p =
      let l = limits o ts p in
      ap (combine o) (keeps_all ts l.below) ∙ combine-none o ts l

  keeps_all : (ts : Forest) → some_child faulty ts ≡ false → tidy_all ts ≡ ts
  keeps_all ∅ p = refl
  keeps_all (t ▸ ts) p =
      let (at-t, at-ts) = or_parts (faulty t) _ p in
      ap₂ ◌▸◌ (keeps t (faulty_root t at-t)) (keeps_all ts at-ts)

pub tidy_id : (t : Tree) → is_tidy t ≡ true → tidy t ≡ t
unfolding is_tidy
tidy_id t e = keeps t (not-true _ e)

pub tidy_unchanged : (t : Tree) → (tidy t ≡ t) ↔ (is_tidy t ≡ true)
tidy_unchanged t = (λ e. rw e at (tidy-is_tidy t), tidy_id t)
