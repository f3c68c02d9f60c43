-- Equality of trees, and the two rules that drop a repeated child as one.
-- Assumes nothing.
use mathlib.Core.Path.{◌≡◌, refl, sym, ◌∙◌, ap, ap₂}
use mathlib.Core.Bool.{Bool, true, false, not, ◌&&◌, ◌||◌, cond, or-false}
use mathlib.Core.Logic.{◌↔◌}
use lib.Dec.{eqb}
use borrow.Author.Tests.{eqb-true, eq-eqb}
use Rattle.formula.specs.Tree.{Op, same_op, Tree, lit, node, Forest, ∅, ◌▸◌, keep}
use Rattle.formula.specs.Tidy.{equal, same_tree, same_trees, duplicate, firsts}
use Rattle.formula.proofs.Booleans.{and_parts, beq_refl, beq_same, same_op_refl, same_op_eq}
use Rattle.formula.proofs.Forests.{keep_every, keep-keep, keep_swap}

-- equal, same-tree, duplicate: equality

pub equal_same : (t u : Tree) → equal t u ≡ true → t ≡ u
unfolding equal
equal_same (node o ts) u e = cc
equal_same (lit s v) (node o ts) e = cc
equal_same (lit s v) (lit s' v') e =
    let (same, sign) = and_parts (eqb v v') _ e in
    ap₂ lit (beq_same s s' sign) (eqb-true v v' same)

mutual
  unfolding same_tree

  pub same_tree_same : (t u : Tree) → same_tree t u ≡ true → t ≡ u
  same_tree_same (lit s v) (lit s' v') e =
      let (same, sign) = and_parts (eqb v v') _ e in
      ap₂ lit (beq_same s s' sign) (eqb-true v v' same)
  same_tree_same (lit s v) (node k us) e = cc
  same_tree_same (node o ts) (lit s v) e = cc
  same_tree_same (node o ts) (node k us) e =
      let (kind, children) = and_parts (same_op o k) _ e in
      ap₂ node (same_op_eq o k kind) (same_trees_same ts us children)

  pub same_trees_same : (ts us : Forest) → same_trees ts us ≡ true → ts ≡ us
  same_trees_same ∅ ∅ e = refl
  same_trees_same ∅ (u ▸ us) e = cc
  same_trees_same (t ▸ ts) ∅ e = cc
  same_trees_same (t ▸ ts) (u ▸ us) e =
      let (first, others) = and_parts (same_tree t u) _ e in
      ap₂ ◌▸◌ (same_tree_same t u first) (same_trees_same ts us others)

mutual
  unfolding same_tree

  pub same_tree_refl : (t : Tree) → same_tree t t ≡ true
  same_tree_refl (lit s v) = ap₂ ◌&&◌ (eq-eqb v v refl) (beq_refl s)
  same_tree_refl (node o ts) = ap₂ ◌&&◌ (same_op_refl o) (same_trees_refl ts)

  pub same_trees_refl : (ts : Forest) → same_trees ts ts ≡ true
  same_trees_refl ∅ = refl
  same_trees_refl (t ▸ ts) = ap₂ ◌&&◌ (same_tree_refl t) (same_trees_refl ts)

pub same_tree_exactly : (t u : Tree) → (same_tree t u ≡ true) ↔ (t ≡ u)
same_tree_exactly t u = (same_tree_same t u, λ e. ap (same_tree t) (sym e) ∙ same_tree_refl t)

pub same_tree_sym : (t u : Tree) → same_tree t u ≡ same_tree u t
same_tree_sym t u = by (same_tree t u) (same_tree u t) refl refl
  where
    by : (a b : Bool) → same_tree t u ≡ a → same_tree u t ≡ b → a ≡ b
    by true b e f = sym ((same_tree_exactly u t).1 (sym (same_tree_same t u e))) ∙ f
    by false true e f = sym e ∙ (same_tree_exactly t u).1 (sym (same_tree_same u t f))
    by false false e f = refl

pub same_tree_trans : (t u w : Tree) → same_tree t u ≡ true → same_tree u w ≡ true → same_tree t w ≡ true
same_tree_trans t u w e f = (same_tree_exactly t w).1 (same_tree_same t u e ∙ same_tree_same u w f)

pub duplicate_same : (t u : Tree) → duplicate t u ≡ true → t ≡ u
unfolding duplicate
duplicate_same (lit s v) u e = cc
duplicate_same (node o ts) u e = same_tree_same (node o ts) u e

pub duplicate_refl : (o : Op) (ts : Forest) → duplicate (node o ts) (node o ts) ≡ true
unfolding duplicate
duplicate_refl o ts = same_tree_refl (node o ts)

pub duplicate_sym : (t u : Tree) → duplicate t u ≡ duplicate u t
unfolding duplicate same_tree
duplicate_sym (lit s v) (lit s' v') = refl
duplicate_sym (lit s v) (node k us) = refl
duplicate_sym (node o ts) (lit s v) = refl
duplicate_sym (node o ts) (node k us) = same_tree_sym (node o ts) (node k us)

-- equal literals, or equal operators
pub same_tree_by : (t u : Tree) → same_tree t u ≡ (equal t u || duplicate t u)
unfolding same_tree equal duplicate
same_tree_by (lit s v) (lit s' v') = sym (or-false _)
same_tree_by (lit s v) (node k us) = refl
same_tree_by (node o ts) u = refl

-- firsts: a pass by one relation and then by another, where what the first relation drops has nothing of the second behind it

module _ (Q R S : Tree → Tree → Bool) (either : (t u : Tree) → S t u ≡ (Q t u || R t u))
    (apart : (t u w : Tree) → Q t u ≡ true → R u w ≡ false) where
  keeps_whole : (t u : Tree) → Q t u ≡ true → (ws : Forest) → keep (λ w. not (R u w)) ws ≡ ws
  keeps_whole t u q ws = keep_every (λ w. not (R u w)) (λ w. ap not (apart t u w q)) ws

  firsts-keep : (t : Tree) (us : Forest) → firsts R (keep (λ u. not (Q t u)) us) ≡ keep (λ u. not (Q t u)) (firsts R us)
  unfolding keep firsts
  firsts-keep t ∅ = refl
  firsts-keep t (u ▸ us) = by (Q t u) refl (firsts-keep t us)
    where
      by : (b : Bool) → Q t u ≡ b → firsts R (keep (λ w. not (Q t w)) us) ≡ keep (λ w. not (Q t w)) (firsts R us)
          → firsts R (cond (not b) (u ▸ keep (λ w. not (Q t w)) us) (keep (λ w. not (Q t w)) us)) ≡
          cond (not b) (u ▸ keep (λ w. not (Q t w)) (keep (λ w. not (R u w)) (firsts R us))) (keep (λ w. not (Q t w)) (keep (λ w. not (R u w)) (firsts R us)))
      by true q ih = ih ∙ ap (keep (λ w. not (Q t w))) (sym (keeps_whole t u q (firsts R us)))
      by false q ih = ap (λ ws. u ▸ keep (λ w. not (R u w)) ws) ih ∙ ap (λ ws. u ▸ ws) (keep_swap (λ w. not (R u w)) (λ w. not (Q t w)) (firsts R us))

  pub firsts-both : (ts : Forest) → firsts R (firsts Q ts) ≡ firsts S ts
  unfolding firsts
  firsts-both ∅ = refl
  firsts-both (t ▸ ts) =
      ap (λ us. t ▸ keep (λ u. not (R t u)) us) (firsts-keep t (firsts Q ts) ∙ ap (keep (λ u. not (Q t u))) (firsts-both ts)) ∙
      ap (λ us. t ▸ us) (keep-keep (λ u. not (R t u)) (λ u. not (Q t u)) (λ u. not (S t u)) (λ u. ap not (either t u) ∙ neither (Q t u) (R t u)) (firsts S ts))
    where
      neither : (a b : Bool) → not (a || b) ≡ (not a && not b)
      neither true b = refl
      neither false b = refl

literal_no_duplicate : (t u w : Tree) → equal t u ≡ true → duplicate u w ≡ false
unfolding equal duplicate
literal_no_duplicate (node o ts) u w e = cc
literal_no_duplicate (lit s v) (lit s' v') w e = refl
literal_no_duplicate (lit s v) (node k us) w e = cc

-- rules 4 and 5 in one pass
pub firsts-once : (ts : Forest) → firsts duplicate (firsts equal ts) ≡ firsts same_tree ts
firsts-once = firsts-both equal duplicate same_tree same_tree_by literal_no_duplicate
