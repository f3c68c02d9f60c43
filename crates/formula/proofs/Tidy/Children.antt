-- What taking firsts and splicing do to children.
-- Assumes nothing.
use mathlib.Core.Path.{◌≡◌, refl, sym, ◌∙◌, ap}
use mathlib.Core.Bool.{Bool, false, not}
use Rattle.formula.specs.Tree.{Op, and, or, same_op, Tree, lit, node, Forest, ∅, ◌▸◌, ◌⧺◌, some_child, some_two, keep}
use Rattle.formula.specs.Tidy.{is_op, spliced, splice, firsts}
use Rattle.formula.proofs.Booleans.{cond_cases, or_parts, or-none, same_op_eq}
use Rattle.formula.proofs.Forests.{some_child-⧺, ⧺-assoc, some_child-keep, some_two-keep, kept, keep_all}
pub use Rattle.formula.proofs.Forests.{count-⧺, keep_same, some_child_same, some_child-⧺, some_two-or, some_two-⧺, ⧺-assoc, ⧺-none}

-- the first of those in a relation: no two are left

pub some_child-firsts : (R : Tree → Tree → Bool) (P : Tree → Bool) (ts : Forest) → some_child P ts ≡ false → some_child P (firsts R ts) ≡ false
unfolding some_child firsts
some_child-firsts R P ∅ p = refl
some_child-firsts R P (t ▸ ts) p =
    let (at-t, at-ts) = or_parts (P t) _ p in
    or-none at-t (some_child-keep P _ (firsts R ts) (some_child-firsts R P ts at-ts))

pub some_two-firsts : (R S : Tree → Tree → Bool) (ts : Forest) → some_two S ts ≡ false → some_two S (firsts R ts) ≡ false
unfolding some_two firsts
some_two-firsts R S ∅ p = refl
some_two-firsts R S (t ▸ ts) p =
    let (at-t, at-ts) = or_parts (some_child (S t) ts) _ p in
    let first = some_child-keep (S t) _ (firsts R ts) (some_child-firsts R (S t) ts at-t) in
    or-none first (some_two-keep S _ (firsts R ts) (some_two-firsts R S ts at-ts))

pub firsts_differ : (R : Tree → Tree → Bool) (ts : Forest) → some_two R (firsts R ts) ≡ false
unfolding some_two firsts
firsts_differ R ∅ = refl
firsts_differ R (t ▸ ts) = or-none (kept (R t) (firsts R ts)) (some_two-keep R _ (firsts R ts) (firsts_differ R ts))

pub firsts-all : (R : Tree → Tree → Bool) (ts : Forest) → some_two R ts ≡ false → firsts R ts ≡ ts
unfolding some_two firsts
firsts-all R ∅ p = refl
firsts-all R (t ▸ ts) p =
    let (at-t, at-ts) = or_parts (some_child (R t) ts) _ p in
    ap (λ us. t ▸ keep (λ u. not (R t u)) us) (firsts-all R ts at-ts) ∙ ap (λ us. t ▸ us) (keep_all (R t) ts at-t)

-- splicing: a child of the operator's own kind is tested by its children

module _ (o : Op) (P Q : Tree → Bool) (own : (ts : Forest) → P (node o ts) ≡ false → some_child Q ts ≡ false)
    (other : (t : Tree) → is_op o t ≡ false → P t ≡ false → Q t ≡ false) where
  some_child-spliced : (t : Tree) (us : Forest) → P t ≡ false → some_child Q us ≡ false → some_child Q (spliced o t us) ≡ false
  unfolding spliced some_child is_op
  some_child-spliced (lit s v) us p q = or-none (other (lit s v) refl p) q
  some_child-spliced (node k ts) us p q =
      cond_cases (λ ws. some_child Q ws ≡ false) (same_op o k)
      (λ e. some_child-⧺ Q ts us ∙ or-none (own ts (rw (sym (same_op_eq o k e)) at p)) q) (λ e. or-none (other (node k ts) e p) q)

  pub some_child-splice : (ts : Forest) → some_child P ts ≡ false → some_child Q (splice o ts) ≡ false
  unfolding splice some_child
  some_child-splice ∅ p = refl
  some_child-splice (t ▸ ts) p =
      let (at-t, at-ts) = or_parts (P t) _ p in
      some_child-spliced t (splice o ts) at-t (some_child-splice ts at-ts)

spliced_other : (o : Op) (t : Tree) (us : Forest) → is_op o t ≡ false → spliced o t us ≡ t ▸ us
unfolding spliced is_op
spliced_other o (lit s v) us e = refl
spliced_other o (node k ts) us e = rw e

pub splice-none : (o : Op) (ts : Forest) → some_child (is_op o) ts ≡ false → splice o ts ≡ ts
unfolding splice some_child
splice-none o ∅ p = refl
splice-none o (t ▸ ts) p =
    let (at-t, at-ts) = or_parts (is_op o t) _ p in
    spliced_other o t (splice o ts) at-t ∙ ap (λ us. t ▸ us) (splice-none o ts at-ts)

spliced-⧺ : (o : Op) (t : Tree) (us ws : Forest) → spliced o t (us ⧺ ws) ≡ spliced o t us ⧺ ws
unfolding spliced ◌⧺◌
spliced-⧺ o (lit s v) us ws = refl
spliced-⧺ and (node and ts) us ws = sym (⧺-assoc ts us ws)
spliced-⧺ and (node or ts) us ws = refl
spliced-⧺ or (node and ts) us ws = refl
spliced-⧺ or (node or ts) us ws = sym (⧺-assoc ts us ws)

pub splice-⧺ : (o : Op) (ts us : Forest) → splice o (ts ⧺ us) ≡ splice o ts ⧺ splice o us
unfolding splice ◌⧺◌
splice-⧺ o ∅ us = refl
splice-⧺ o (t ▸ ts) us = ap (spliced o t) (splice-⧺ o ts us) ∙ spliced-⧺ o t (splice o ts) (splice o us)
