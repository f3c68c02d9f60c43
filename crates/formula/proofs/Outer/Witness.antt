-- Existential rows: a true prefix gives an assignment that differs at its variables only, and such an assignment makes it true.
-- Assumes nothing.
use mathlib.Core.Path.{◌≡◌, refl, sym, ◌∙◌, ap, fun_ext}
use mathlib.Core.Bool.{Bool, true, false, ◌||◌, cond, true≢false}
use mathlib.Core.List.{[], ◌∷◌}
use mathlib.Core.Logic.{⊎_elim}
use Prim.Native.Nat.{ℕ}
use lib.Dec.{eqb}
use borrow.Author.Tests.{eqb-true}
use Rattle.formula.specs.Tree.{Op, same_op, exists, Prefix, binds}
use Rattle.formula.specs.Truth.{Assignment, put, join, bind}
use Rattle.formula.specs.Expand.{all_of}
use Rattle.formula.proofs.Booleans.{and_parts, or_cases, or_later, or-none, eqb_comm, same_op_eq}

-- assignments that agree outside the variables of a prefix
abbrev pub Agree : Prefix → Assignment → Assignment → Type 0
Agree p σ ρ = (v : ℕ) → binds p v ≡ false → σ v ≡ ρ v

pub witness : (p : Prefix) (f : Assignment → Bool) (ρ : Assignment) → all_of exists p ≡ true → bind p f ρ ≡ true
    → (σ : Assignment) × Agree p σ ρ × (f σ ≡ true)
unfolding bind all_of binds
witness [] f ρ a h = (ρ, (λ v b. refl), h)
witness (z ∷ p) f ρ a h =
    let parts = and_parts (same_op exists z.quantifier) (all_of exists p) a in
    let q = same_op_eq exists z.quantifier parts.0 in
    ⊎_elim (λ e. found false (witness p f (put ρ z.variable false) parts.1 e))
    (λ e. found true (witness p f (put ρ z.variable true) parts.1 e))
    (or_cases (bind p f (put ρ z.variable false)) (bind p f (put ρ z.variable true))
    (ap (λ (o : Op). join o (bind p f (put ρ z.variable false)) (bind p f (put ρ z.variable true))) q ∙ h))
  where
    found : (b : Bool) → (σ : Assignment) × Agree p σ (put ρ z.variable b) × (f σ ≡ true)
        → (σ : Assignment) × Agree (z ∷ p) σ ρ × (f σ ≡ true)
    found b w = (w.0, (λ v n. at v (eqb z.variable v) refl (binds p v) refl n), w.2)
      where
        at : (v : ℕ) (m : Bool) → eqb z.variable v ≡ m → (n : Bool) → binds p v ≡ n → (m || n) ≡ false → w.0 v ≡ ρ v
        at v true e n k h = absurd (true≢false h)
        at v false e true k h = absurd (true≢false h)
        at v false e false k h = w.1 v k ∙ ap (λ (m : Bool). cond m b (ρ v)) (eqb_comm v z.variable ∙ e)

-- the value that the assignment has at each row
pub intro : (p : Prefix) (f : Assignment → Bool) (ρ σ : Assignment) → all_of exists p ≡ true → Agree p σ ρ → f σ ≡ true
    → bind p f ρ ≡ true
unfolding bind all_of binds
intro [] f ρ σ a g h = ap f (fun_ext (λ v. sym (g v refl))) ∙ h
intro (z ∷ p) f ρ σ a g h =
    let parts = and_parts (same_op exists z.quantifier) (all_of exists p) a in
    let q = same_op_eq exists z.quantifier parts.0 in
    ap (λ (o : Op). join o (bind p f (put ρ z.variable false)) (bind p f (put ρ z.variable true))) (sym q) ∙
    side (σ z.variable)
    (intro p f (put ρ z.variable (σ z.variable)) σ parts.1 (λ v n. at v (eqb v z.variable) refl n) h)
  where
    side : (b : Bool) → bind p f (put ρ z.variable b) ≡ true
        → (bind p f (put ρ z.variable false) || bind p f (put ρ z.variable true)) ≡ true
    side true e = or_later (bind p f (put ρ z.variable false)) e
    side false e = ap (λ (m : Bool). m || bind p f (put ρ z.variable true)) e

    at : (v : ℕ) (m : Bool) → eqb v z.variable ≡ m → binds p v ≡ false → σ v ≡ cond m (σ z.variable) (ρ v)
    at v true e n = ap σ (eqb-true v z.variable e)
    at v false e n = g v (or-none (eqb_comm z.variable v ∙ e) n)
