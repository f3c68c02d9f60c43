-- Tidying keeps a tree's value under every assignment.
-- Assumes nothing.
use mathlib.Core.Path.{◌≡◌, refl, sym, ◌∙◌, ap, ap₂}
use mathlib.Core.Bool.{Bool, true, false, not, beq, and-eq-true_iff}
use mathlib.Core.Logic.{⊎_elim}
use lib.Dec.{eqb}
use borrow.Author.Tests.{eqb-true, not-false}
use Rattle.formula.specs.Tree.{Op, and, or, dual, Tree, lit, node, Forest, ∅, ◌▸◌, ◌⧺◌, some_child, some_two, keep}
use Rattle.formula.specs.Truth.{Assignment, join, unit, eval, eval_all}
use Rattle.formula.specs.Tidy.{is_empty, opposite, equal, duplicate, spliced, splice, decides, firsts, unwrap, combine, tidy, tidy_all}
use Rattle.formula.proofs.Evaluation.{eval_decided}
use Rattle.formula.proofs.Tidy.Same.{equal_same, duplicate_same}
use Rattle.formula.proofs.Booleans.{cond_cases, or_cases, join_assoc, join_comm, join-unit, join_twice, join_swap, join-zero}

-- rule 1: splicing

pub eval-⧺ : (o : Op) (ρ : Assignment) (ts us : Forest) → eval_all (ts ⧺ us) o ρ ≡ join o (eval_all ts o ρ) (eval_all us o ρ)
unfolding eval_all ◌⧺◌
eval-⧺ o ρ ∅ us = sym (join_comm o (unit o) _ ∙ join-unit o _)
eval-⧺ o ρ (t ▸ ts) us = ap (join o (eval t ρ)) (eval-⧺ o ρ ts us) ∙ sym (join_assoc o _ _ _)

eval-spliced : (o : Op) (ρ : Assignment) (t : Tree) (us : Forest) → eval_all (spliced o t us) o ρ ≡ join o (eval t ρ) (eval_all us o ρ)
unfolding eval_all spliced
eval-spliced o ρ (lit s v) us = refl
eval-spliced and ρ (node and ts) us = eval-⧺ and ρ ts us
eval-spliced and ρ (node or ts) us = refl
eval-spliced or ρ (node and ts) us = refl
eval-spliced or ρ (node or ts) us = eval-⧺ or ρ ts us

pub eval-splice : (o : Op) (ρ : Assignment) (ts : Forest) → eval_all (splice o ts) o ρ ≡ eval_all ts o ρ
unfolding eval_all splice
eval-splice o ρ ∅ = refl
eval-splice o ρ (t ▸ ts) = eval-spliced o ρ t (splice o ts) ∙ ap (join o (eval t ρ)) (eval-splice o ρ ts)

-- rules 2 and 3: the node is decided

eval_empty : (o : Op) (ρ : Assignment) (t : Tree) → is_empty (dual o) t ≡ true → eval t ρ ≡ unit (dual o)
unfolding eval_all is_empty
eval_empty o ρ (lit s v) e = cc
eval_empty and ρ (node and ∅) e = cc
eval_empty and ρ (node or ∅) e = refl
eval_empty or ρ (node and ∅) e = refl
eval_empty or ρ (node or ∅) e = cc
eval_empty o ρ (node k (t ▸ ts)) e = cc

beq_opposite : (s s' b : Bool) → not (beq s s') ≡ true → beq s' b ≡ not (beq s b)
beq_opposite true true b e = cc
beq_opposite true false true e = refl
beq_opposite true false false e = refl
beq_opposite false true true e = refl
beq_opposite false true false e = refl
beq_opposite false false b e = cc

eval-opposite : (ρ : Assignment) (t u : Tree) → opposite t u ≡ true → eval u ρ ≡ not (eval t ρ)
unfolding eval opposite
eval-opposite ρ (node o ts) u e = cc
eval-opposite ρ (lit s v) (node o ts) e = cc
eval-opposite ρ (lit s v) (lit s' v') e =
    let (same, other) = (and-eq-true_iff (eqb v v') _).0 e in
    rw (← eqb-true v v' same) (beq_opposite s s' (ρ v) other)

-- of two opposite children one has it
eval_opposites : (o : Op) (ρ : Assignment) (ts : Forest) → some_two opposite ts ≡ true → eval_all ts o ρ ≡ unit (dual o)
unfolding eval_all some_two
eval_opposites o ρ ∅ p = cc
eval_opposites o ρ (t ▸ ts) p =
    ⊎_elim (go o (eval t ρ) refl) (λ e. ap (join o (eval t ρ)) (eval_opposites o ρ ts e) ∙ join-zero o (eval t ρ)) (or_cases (some_child (opposite t) ts) _ p)
  where
    go : (k : Op) (b : Bool) → eval t ρ ≡ b → some_child (opposite t) ts ≡ true → join k b (eval_all ts k ρ) ≡ unit (dual k)
    go and true e q = eval_decided and ρ (opposite t) (λ u d. eval-opposite ρ t u d ∙ ap not e) ts q
    go and false e q = refl
    go or true e q = refl
    go or false e q = eval_decided or ρ (opposite t) (λ u d. eval-opposite ρ t u d ∙ ap not e) ts q

pub eval-decides : (o : Op) (ρ : Assignment) (ts : Forest) → decides o ts ≡ true → eval_all ts o ρ ≡ unit (dual o)
unfolding decides
eval-decides o ρ ts d =
    ⊎_elim (eval_decided o ρ (is_empty (dual o)) (eval_empty o ρ) ts) (eval_opposites o ρ ts) (or_cases (some_child (is_empty (dual o)) ts) _ d)

-- rules 4 and 5: the first of equal children

module _ (R : Tree → Tree → Bool) (same : (t u : Tree) → R t u ≡ true → t ≡ u) (o : Op) (ρ : Assignment) where
  eval-keep : (t : Tree) (us : Forest)
      → join o (eval t ρ) (eval_all (keep (λ u. not (R t u)) us) o ρ) ≡ join o (eval t ρ) (eval_all us o ρ)
  unfolding eval_all keep
  eval-keep t ∅ = refl
  eval-keep t (u ▸ us) =
      let rest = eval-keep t us in
      let with_second : Tree → Bool = λ w. join o (eval t ρ) (join o (eval w ρ) (eval_all us o ρ)) in
      cond_cases (λ ws. join o (eval t ρ) (eval_all ws o ρ) ≡ join o (eval t ρ) (eval_all (u ▸ us) o ρ)) (not (R t u))
      (λ _. join_swap o _ _ _ ∙ ap (join o (eval u ρ)) rest ∙ join_swap o _ _ _)
      (λ e. rest ∙ sym (join_twice o _ _) ∙ ap with_second (same t u (not-false _ e)))

  pub eval-firsts : (ts : Forest) → eval_all (firsts R ts) o ρ ≡ eval_all ts o ρ
  unfolding eval_all firsts
  eval-firsts ∅ = refl
  eval-firsts (t ▸ ts) = eval-keep t (firsts R ts) ∙ ap (join o (eval t ρ)) (eval-firsts ts)

-- rule 6: a lone child

pub eval-unwrap : (o : Op) (ρ : Assignment) (ts : Forest) → eval (unwrap o ts) ρ ≡ eval_all ts o ρ
unfolding eval_all unwrap
eval-unwrap o ρ ∅ = refl
eval-unwrap o ρ (t ▸ ∅) = sym (join-unit o _)
eval-unwrap o ρ (t ▸ u ▸ ts) = refl

-- the six rules, and the whole tree

pub eval-combine : (o : Op) (ρ : Assignment) (ts : Forest) → eval (combine o ts) ρ ≡ eval_all ts o ρ
unfolding eval_all combine
eval-combine o ρ ts =
    let us = splice o ts in
    let apart = firsts equal us in
    let undecided = eval-unwrap o ρ (firsts duplicate apart) ∙ eval-firsts duplicate duplicate_same o ρ apart ∙ eval-firsts equal equal_same o ρ us in
    cond_cases (λ t. eval t ρ ≡ eval_all us o ρ) (decides o us) (λ d. sym (eval-decides o ρ us d)) (λ _. undecided) ∙ eval-splice o ρ ts

mutual
  unfolding eval_all tidy_all

  pub eval-tidy : (t : Tree) (ρ : Assignment) → eval (tidy t) ρ ≡ eval t ρ
  eval-tidy (lit s v) ρ = refl
  eval-tidy (node o ts) ρ = eval-combine o ρ (tidy_all ts) ∙ eval-tidy_all ts o ρ

  pub eval-tidy_all : (ts : Forest) (o : Op) (ρ : Assignment) → eval_all (tidy_all ts) o ρ ≡ eval_all ts o ρ
  eval-tidy_all ∅ o ρ = refl
  eval-tidy_all (t ▸ ts) o ρ = ap₂ (join o) (eval-tidy t ρ) (eval-tidy_all ts o ρ)
