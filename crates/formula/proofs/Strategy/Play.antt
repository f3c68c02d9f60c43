-- Pairs that cover a side's variables and are in order: played, they set that side's variables only, and each depends only on the other
-- side's variables in front of it. So they win if the matrix with them has the wanted value.
-- Assumes nothing.
use mathlib.Core.Path.{◌≡◌, refl, sym, ◌∙◌, ap, subst}
use mathlib.Core.Bool.{Bool, true, false, not, ◌||◌, cond, false≢true}
use mathlib.Core.List.{[], ◌∷◌}
use Prim.Native.Nat.{ℕ}
use lib.Dec.{eqb}
use borrow.Author.Tests.{eqb-true, not-true, not-false}
use Rattle.formula.specs.Tree.{Quantifier, dual, Prefix, has}
use Rattle.formula.specs.Truth.{Assignment, eval}
use Rattle.formula.specs.Force.{wanted}
use Rattle.formula.specs.Strategy.{Pairs, play, owns, before, WinsOn, sets, reads, beyond, in_order, WellFormed}
use Rattle.formula.proofs.Booleans.{and_parts, or_parts, eqb_comm}
use Rattle.formula.proofs.Evaluation.{eval_same}

-- a variable without a pair keeps its value
pub play_unset : (g : Pairs) (ρ : Assignment) (v : ℕ) → sets g v ≡ false → play g ρ v ≡ ρ v
unfolding play sets
play_unset [] ρ v h = refl
play_unset (c ∷ g) ρ v h =
    let parts = or_parts (eqb c.variable v) (sets g v) h in
    ap (λ (m : Bool). cond m (eval c.function (play g ρ)) (play g ρ v)) (eqb_comm v c.variable ∙ parts.0) ∙ play_unset g ρ v parts.1

-- a variable that depends on none of a set has one value under assignments that differ there alone
pub play-reads : (Y : ℕ → Bool) (g : Pairs) (ρ σ : Assignment) → ((y : ℕ) → Y y ≡ false → ρ y ≡ σ y)
    → (x : ℕ) → reads Y g x ≡ false → play g ρ x ≡ play g σ x
unfolding play reads
play-reads Y [] ρ σ h x k = h x k
play-reads Y (c ∷ g) ρ σ h x k = by (play-reads Y g ρ σ h) (eqb x c.variable) k
  where
    by : ((v : ℕ) → reads Y g v ≡ false → play g ρ v ≡ play g σ v) → (m : Bool) → cond m (has (λ s v. reads Y g v) c.function) (reads Y g x) ≡ false
        → cond m (eval c.function (play g ρ)) (play g ρ x) ≡ cond m (eval c.function (play g σ)) (play g σ x)
    by same true e = eval_same (λ s v. reads Y g v) (play g ρ) (play g σ) (λ s v n. same v n) c.function e
    by same false e = same x e

-- in order: each variable with a pair depends on nothing beyond
pub in_order-reads : (q : Quantifier) (p : Prefix) (g : Pairs) → in_order q p g ≡ true → (x : ℕ) → sets g x ≡ true
    → reads (beyond q p x) g x ≡ false
unfolding in_order sets reads
in_order-reads q p [] o x h = absurd (false≢true h)
in_order-reads q p (c ∷ g) o x h =
    let parts = and_parts (not (reads (beyond q p c.variable) (c ∷ g) c.variable)) (in_order q p g) o in
    by (eqb x c.variable) refl (not-true (reads (beyond q p c.variable) (c ∷ g) c.variable) parts.0) (in_order-reads q p g parts.1 x)
  where
    by : (m : Bool) → eqb x c.variable ≡ m → reads (beyond q p c.variable) (c ∷ g) c.variable ≡ false
        → (sets g x ≡ true → reads (beyond q p x) g x ≡ false) → reads (beyond q p x) (c ∷ g) x ≡ false
    by true e here later = subst (λ (v : ℕ). reads (beyond q p v) (c ∷ g) v ≡ false) (sym (eqb-true x c.variable e)) here
    by false e here later =
        ap (λ (m : Bool). cond m (has (λ s v. reads (beyond q p x) g v) c.function) (reads (beyond q p x) g x)) e ∙
        later (ap (λ (m : Bool). m || sets g x) (sym (eqb_comm c.variable x ∙ e)) ∙ h)

-- theorem 4, for a third party
pub well_formed_wins : (q : Quantifier) (p : Prefix) (matrix : Assignment → Bool) (g : Pairs) → WellFormed q p g
    → ((ρ : Assignment) → matrix (play g ρ) ≡ wanted q) → WinsOn q p matrix (play g)
well_formed_wins q p matrix g w h =
    record {
      own_only = λ ρ v k. play_unset g ρ v (w.covers v ∙ k);
      has_wanted = h;
      by_front =
          λ x k ρ σ agree. play-reads (beyond q p x) g ρ σ (λ y n. agree y (not-false (owns (dual q) (before x p) y) n)) x
          (in_order-reads q p g w.is_in_order x (w.covers x ∙ k));
    }
