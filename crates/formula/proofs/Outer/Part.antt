-- The value of the relevant subtree: the tree's value rises with it, and it depends on the literals within it alone.
-- Assumes nothing.
use mathlib.Core.Path.{◌≡◌, refl, sym, ◌∙◌, ap}
use mathlib.Core.Bool.{Bool, true, false, not, cond, beq}
use Prim.Native.Nat.{ℕ}
use Rattle.formula.specs.Tree.{Op, Tree, lit, node, Forest, ∅, ◌▸◌, Literals, has, has_any, count, keep}
use Rattle.formula.specs.Truth.{Assignment, join, eval, eval_all, Leads}
use Rattle.formula.specs.Expand.{relevant, one_relevant}
use Rattle.formula.specs.Outer.{within, within_below}
use Rattle.formula.proofs.Booleans.{leads_eq, join-leads}
use Rattle.formula.proofs.Evaluation.{eval_same, eval_all_same}
use Rattle.formula.proofs.Expand.{eval_divided, has_any-kept_out, one_first, one_later, one_counts, no_child}

unfoldable mutual
  pub part_value : Literals → Tree → Assignment → Bool
  part_value L (lit s v) σ = beq s (σ v)
  part_value L (node o ts) σ = cond (one_relevant L ts) (part_below L ts σ) (eval_all (relevant L ts) o σ)

  pub part_below : Literals → Forest → Assignment → Bool
  part_below L ∅ σ = false
  part_below L (t ▸ ts) σ = cond (has L t) (part_value L t σ) (part_below L ts σ)

-- under assignments that agree outside the literals that choose it
module _ (L : Literals) (σ τ : Assignment) (apart : (s : Bool) (v : ℕ) → L s v ≡ false → σ v ≡ τ v) where
  rises_divided : (o : Op) (ts : Forest) → Leads (eval_all (relevant L ts) o σ) (eval_all (relevant L ts) o τ)
      → Leads (eval_all ts o σ) (eval_all ts o τ)
  unfolding relevant
  rises_divided o ts h e =
      let out : Forest = keep (λ t. not (has L t)) ts in
      let same = eval_all_same L σ τ apart o out (has_any-kept_out L ts) in
      eval_divided (has L) o τ ts ∙
      join-leads o (eval_all (keep (has L) ts) o σ) (eval_all (keep (has L) ts) o τ) (eval_all out o σ) (eval_all out o τ) h (leads_eq same)
      (sym (eval_divided (has L) o σ ts) ∙ e)

  mutual
    unfolding eval part_value

    pub rises : (t : Tree) → Leads (part_value L t σ) (part_value L t τ) → Leads (eval t σ) (eval t τ)
    rises (lit s v) h = h
    rises (node o ts) h = by (one_relevant L ts) refl h (λ k l. rises-below o ts k l)
      where
        by : (m : Bool) → one_relevant L ts ≡ m
            → Leads (cond m (part_below L ts σ) (eval_all (relevant L ts) o σ)) (cond m (part_below L ts τ) (eval_all (relevant L ts) o τ))
            → (count (keep (has L) ts) ≡ 1 → Leads (part_below L ts σ) (part_below L ts τ) → Leads (eval_all ts o σ) (eval_all ts o τ))
            → Leads (eval_all ts o σ) (eval_all ts o τ)
        by true e k below = below (one_counts L ts e) k
        by false e k below = rises_divided o ts k

    rises-below : (o : Op) (ts : Forest) → count (keep (has L) ts) ≡ 1 → Leads (part_below L ts σ) (part_below L ts τ)
        → Leads (eval_all ts o σ) (eval_all ts o τ)
    rises-below o ∅ n h = absurd (no_child L n)
    rises-below o (t ▸ ts) n h = by (has L t) refl h (λ k. rises t k) (λ k l. rises-below o ts k l)
      where
        by : (m : Bool) → has L t ≡ m
            → Leads (cond m (part_value L t σ) (part_below L ts σ)) (cond m (part_value L t τ) (part_below L ts τ))
            → (Leads (part_value L t σ) (part_value L t τ) → Leads (eval t σ) (eval t τ))
            → (count (keep (has L) ts) ≡ 1 → Leads (part_below L ts σ) (part_below L ts τ) → Leads (eval_all ts o σ) (eval_all ts o τ))
            → Leads (join o (eval t σ) (eval_all ts o σ)) (join o (eval t τ) (eval_all ts o τ))
        by true e k here later =
            join-leads o (eval t σ) (eval t τ) (eval_all ts o σ) (eval_all ts o τ) (here k)
            (leads_eq (eval_all_same L σ τ apart o ts (one_first L t ts n e)))
        by false e k here later =
            join-leads o (eval t σ) (eval t τ) (eval_all ts o σ) (eval_all ts o τ) (leads_eq (eval_same L σ τ apart t e))
            (later (one_later L t ts n e) k)

-- under assignments that agree outside literals which don't stand in it
module _ (L M : Literals) (σ τ : Assignment) (apart : (s : Bool) (v : ℕ) → M s v ≡ false → σ v ≡ τ v) where
  mutual
    unfolding part_value within

    pub part_same : (t : Tree) → within L M t ≡ false → part_value L t σ ≡ part_value L t τ
    part_same (lit s v) h = ap (beq s) (apart s v h)
    part_same (node o ts) h = by (one_relevant L ts) h (λ k. part-below-same ts k)
      where
        by : (m : Bool) → cond m (within_below L M ts) (has_any M (relevant L ts)) ≡ false
            → (within_below L M ts ≡ false → part_below L ts σ ≡ part_below L ts τ)
            → cond m (part_below L ts σ) (eval_all (relevant L ts) o σ) ≡ cond m (part_below L ts τ) (eval_all (relevant L ts) o τ)
        by true k below = below k
        by false k below = eval_all_same M σ τ apart o (relevant L ts) k

    part-below-same : (ts : Forest) → within_below L M ts ≡ false → part_below L ts σ ≡ part_below L ts τ
    part-below-same ∅ h = refl
    part-below-same (t ▸ ts) h = by (has L t) h (λ k. part_same t k) (λ k. part-below-same ts k)
      where
        by : (m : Bool) → cond m (within L M t) (within_below L M ts) ≡ false
            → (within L M t ≡ false → part_value L t σ ≡ part_value L t τ)
            → (within_below L M ts ≡ false → part_below L ts σ ≡ part_below L ts τ)
            → cond m (part_value L t σ) (part_below L ts σ) ≡ cond m (part_value L t τ) (part_below L ts τ)
        by true k here later = here k
        by false k here later = later k
