-- Where all clauses are true, so is the formula that they were made of: each name implies its operator.
-- Assumes nothing.
use mathlib.Core.Path.{◌≡◌, refl, sym, ◌∙◌, ap, ap₂}
use mathlib.Core.Bool.{Bool, true, false, ◌&&◌, ◌||◌, beq, or-false, and-true, false≢true}
use Prim.Native.Nat.{ℕ, suc, ◌+◌}
use Rattle.formula.specs.Tree.{Op, and, or, Tree, lit, node, Forest, ∅, ◌▸◌, ◌⧺◌}
use Rattle.formula.specs.Truth.{Assignment, eval, eval_all, Leads}
use Rattle.formula.specs.Clausal.{operators, name, names, implies, defined, defined_all, conjuncts, conjunct, named, clauses}
use Rattle.formula.proofs.Booleans.{join-leads, and_parts}
use Rattle.formula.proofs.Tidy.Truth.{eval-⧺}
use Rattle.formula.proofs.Clausal.Names.{eval-conjuncts}

pub ⧺-parts : (ts us : Forest) (ρ : Assignment) → eval_all (ts ⧺ us) and ρ ≡ true → (eval_all ts and ρ ≡ true) × (eval_all us and ρ ≡ true)
⧺-parts ts us ρ h = and_parts (eval_all ts and ρ) (eval_all us and ρ) (sym (eval-⧺ and ρ ts us) ∙ h)

module _ (fresh : ℕ → ℕ) (τ : Assignment) where
  -- a name that is true has its operator true over the names of the children
  implies_sound : (o : Op) (n : ℕ) (cs : Forest) → eval_all (implies o n cs) and τ ≡ true → τ n ≡ true → eval_all cs o τ ≡ true
  unfolding implies eval
  implies_sound or n cs h e =
      let clause = (and_parts (beq false (τ n) || eval_all cs or τ) true h).0 in
      ap (λ (b : Bool). beq false b || eval_all cs or τ) (sym e) ∙ clause
  implies_sound and n ∅ h e = refl
  implies_sound and n (c ▸ cs) h e =
      let parts = and_parts (beq false (τ n) || (eval c τ || false)) (eval_all (implies and n cs) and τ) h in
      ap₂ ◌&&◌
      (sym (or-false (eval c τ)) ∙ ap (λ (b : Bool). beq false b || (eval c τ || false)) (sym e) ∙ parts.0)
      (implies_sound and n cs parts.1 e)

  truly : (b : Bool) → beq true b ≡ true → b ≡ true
  truly true h = refl
  truly false h = absurd (false≢true h)

  mutual
    unfolding defined name names eval

    pub name-sound : (t : Tree) (i : ℕ) → eval_all (defined fresh i t) and τ ≡ true → Leads (eval (name fresh i t) τ) (eval t τ)
    name-sound (lit s v) i h e = e
    name-sound (node o ts) i h e =
        let parts = ⧺-parts (implies o (fresh i) (names fresh (suc i) ts)) (defined_all fresh (suc i) ts) τ h in
        names-sound ts (suc i) o parts.1 (implies_sound o (fresh i) (names fresh (suc i) ts) parts.0 (truly (τ (fresh i)) e))

    pub names-sound : (ts : Forest) (i : ℕ) (o : Op) → eval_all (defined_all fresh i ts) and τ ≡ true
        → Leads (eval_all (names fresh i ts) o τ) (eval_all ts o τ)
    names-sound ∅ i o h e = e
    names-sound (t ▸ ts) i o h e =
        let parts = ⧺-parts (defined fresh i t) (defined_all fresh (i + operators t) ts) τ h in
        join-leads o (eval (name fresh i t) τ) (eval t τ) (eval_all (names fresh (i + operators t) ts) o τ) (eval_all ts o τ)
        (λ k. name-sound t i parts.0 k) (λ k. names-sound ts (i + operators t) o parts.1 k) e

  conjunct_sound : (t : Tree) (i : ℕ) → eval_all (conjunct fresh i t) and τ ≡ true → eval t τ ≡ true
  unfolding conjunct eval name
  conjunct_sound (lit s v) i h = sym (and-true (beq s (τ v))) ∙ h
  conjunct_sound (node or ts) i h =
      let parts = and_parts (eval_all (names fresh i ts) or τ) (eval_all (defined_all fresh i ts) and τ) h in
      names-sound ts i or parts.1 parts.0
  conjunct_sound (node and ts) i h =
      let parts = and_parts (beq true (τ (fresh i))) (eval_all (defined fresh i (node and ts)) and τ) h in
      name-sound (node and ts) i parts.1 parts.0

  clauses_sound : (ts : Forest) (i : ℕ) → eval_all (clauses fresh i ts) and τ ≡ true → eval_all ts and τ ≡ true
  unfolding clauses eval
  clauses_sound ∅ i h = refl
  clauses_sound (t ▸ ts) i h =
      let parts = ⧺-parts (conjunct fresh i t) (clauses fresh (i + named t) ts) τ h in
      ap₂ ◌&&◌ (conjunct_sound t i parts.0) (clauses_sound ts (i + named t) parts.1)

  pub clausal_sound : (t : Tree) → eval_all (clauses fresh 0 (conjuncts t)) and τ ≡ true → eval t τ ≡ true
  clausal_sound t h = sym (eval-conjuncts t τ) ∙ clauses_sound (conjuncts t) 0 h
