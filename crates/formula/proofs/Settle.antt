-- Settling keeps the truth of the formula, in every block.
-- Assumes nothing.
use mathlib.Core.Path.{◌≡◌, refl, sym, ◌∙◌, ap}
use mathlib.Core.Bool.{Bool, true, false, not, cond, beq, false≢true, true≢false}
use mathlib.Core.Logic.{⊎_elim}
use mathlib.Core.Option.{none, some}
use Prim.Native.Nat.{ℕ}
use lib.Dec.{eqb}
use borrow.Author.Tests.{not-true}
use Rattle.formula.specs.Tree.{Op, and, or, Quantifier, Tree, lit, node, Forest, ∅, ◌▸◌, Formula, of, of_sign, has, has_any, assign, binds, quantifier_of, without, distinct}
use Rattle.formula.specs.Truth.{Assignment, put, eval, eval_all, truth, Leads}
use Rattle.formula.specs.Settle.{is_lit, at_root, may_take, value, settling, may_settle}
use Rattle.formula.proofs.Booleans.{false_leads, leads_eq, join-leads, or_parts, or_cases, beq_refl}
use Rattle.formula.proofs.Binding.{bind_ext, bind_settle}
use Rattle.formula.proofs.Evaluation.{eval_decided, eval-assign, eval_same, put_other}

-- the better value of a literal's own variable is the literal's sign
literal-leads : (x : ℕ) (s s' : Bool) (v : ℕ) (ρ : Assignment) → of_sign (not s) x s' v ≡ false
    → Leads (beq s' (put ρ x (not s) v)) (beq s' (put ρ x s v))
literal-leads x s s' v ρ h = by (eqb v x) s s' h
  where
    by : (m s s' : Bool) → cond (beq (not s) s') m false ≡ false
        → Leads (beq s' (cond m (not s) (ρ v))) (beq s' (cond m s (ρ v)))
    by true true true k = λ e. refl
    by true true false k = absurd (true≢false k)
    by true false true k = absurd (true≢false k)
    by true false false k = λ e. refl
    by false s s' k = λ e. e

-- pure: with no literal of the other sign the whole tree is at least as true under the sign
mutual
  unfolding eval has

  pure_leads : (x : ℕ) (s : Bool) (ρ : Assignment) (t : Tree) → has (of_sign (not s) x) t ≡ false
      → Leads (eval t (put ρ x (not s))) (eval t (put ρ x s))
  pure_leads x s ρ (lit s' v) h = literal-leads x s s' v ρ h
  pure_leads x s ρ (node o ts) h = pure_leads-all x s ρ o ts h

  pure_leads-all : (x : ℕ) (s : Bool) (ρ : Assignment) (o : Op) (ts : Forest) → has_any (of_sign (not s) x) ts ≡ false
      → Leads (eval_all ts o (put ρ x (not s))) (eval_all ts o (put ρ x s))
  pure_leads-all x s ρ o ∅ h = λ e. e
  pure_leads-all x s ρ o (t ▸ ts) h =
      let parts = or_parts (has (of_sign (not s) x) t) (has_any (of_sign (not s) x) ts) h in
      join-leads o (eval t (put ρ x (not s))) (eval t (put ρ x s)) (eval_all ts o (put ρ x (not s))) (eval_all ts o (put ρ x s))
      (pure_leads x s ρ t parts.0) (pure_leads-all x s ρ o ts parts.1)

-- a literal of x and the sign s is true where x = s, and false where x is the other value
unit-value : (x : ℕ) (s b : Bool) (ρ : Assignment) (t : Tree) → is_lit (of_sign s x) t ≡ true → eval t (put ρ x b) ≡ beq s b
unfolding eval is_lit
unit-value x s b ρ (node o ts) h = absurd (false≢true h)
unit-value x s b ρ (lit s' v) h = by (eqb v x) s s' h
  where
    by : (m s s' : Bool) → cond (beq s s') m false ≡ true → beq s' (cond m b (ρ v)) ≡ beq s b
    by true true true k = refl
    by true true false k = absurd (false≢true k)
    by true false true k = absurd (false≢true k)
    by true false false k = refl
    by false true true k = absurd (false≢true k)
    by false true false k = absurd (false≢true k)
    by false false true k = absurd (false≢true k)
    by false false false k = absurd (false≢true k)

other : (s : Bool) → beq s (not s) ≡ false
other true = refl
other false = refl

-- unit: AND is false under the other value, OR is true under the sign
unit-leads : (x : ℕ) (s : Bool) (ρ : Assignment) (t : Tree) → at_root (of_sign s x) t ≡ true
    → Leads (eval t (put ρ x (not s))) (eval t (put ρ x s))
unfolding eval at_root is_lit
unit-leads x s ρ (lit s' v) h = false_leads (unit-value x s (not s) ρ (lit s' v) h ∙ other s)
unit-leads x s ρ (node and ts) h =
    false_leads (eval_decided and (put ρ x (not s)) (is_lit (of_sign s x)) (λ t k. unit-value x s (not s) ρ t k ∙ other s) ts h)
unit-leads x s ρ (node or ts) h =
    λ e. eval_decided or (put ρ x s) (is_lit (of_sign s x)) (λ t k. unit-value x s s ρ t k ∙ beq_refl s) ts h

pub take-leads : (x : ℕ) (s : Bool) (ρ : Assignment) (t : Tree) → may_take s x t ≡ true
    → Leads (eval t (put ρ x (not s))) (eval t (put ρ x s))
unfolding may_take
take-leads x s ρ t h =
    ⊎_elim (λ k. pure_leads x s ρ t (not-true (has (of_sign (not s) x) t) k)) (λ k. unit-leads x s ρ t k)
    (or_cases (not (has (of_sign (not s) x) t)) (at_root (of_sign s x) t) h)

-- the value that is put in is the table's value of some sign that may be taken
pub taken_sign : (q : Quantifier) (x : ℕ) (t : Tree) (b : Bool) → settling q x t ≡ some b
    → (s : Bool) × (value q s ≡ b) × ((ρ : Assignment) → Leads (eval t (put ρ x (not s))) (eval t (put ρ x s)))
unfolding settling value
taken_sign q x t b h = by (has (of x) t) (may_take true x t) (may_take false x t) refl refl refl h
  where
    absent : has (of x) t ≡ false → (s : Bool) (ρ : Assignment) → Leads (eval t (put ρ x (not s))) (eval t (put ρ x s))
    absent k s ρ =
        leads_eq
        (eval_same (of x) (put ρ x (not s)) ρ (put_other x (not s) ρ) t k ∙
        sym (eval_same (of x) (put ρ x s) ρ (put_other x s ρ) t k))

    zero-sign : (q : Quantifier) → (s : Bool) × (value q s ≡ false)
    zero-sign or = (false, refl)
    zero-sign and = (true, refl)

    inner : {a c : Bool} → some a ≡ some c → a ≡ c
    inner e = cc

    by : (m n₁ n₀ : Bool) → has (of x) t ≡ m → may_take true x t ≡ n₁ → may_take false x t ≡ n₀
        → cond (not m) (some false) (cond n₁ (some (value q true)) (cond n₀ (some (value q false)) none)) ≡ some b
        → (s : Bool) × (value q s ≡ b) × ((ρ : Assignment) → Leads (eval t (put ρ x (not s))) (eval t (put ρ x s)))
    by false n₁ n₀ k k₁ k₀ e = ((zero-sign q).0, (zero-sign q).1 ∙ inner e, absent k (zero-sign q).0)
    by true true n₀ k k₁ k₀ e = (true, inner e, λ ρ. take-leads x true ρ t k₁)
    by true false true k k₁ k₀ e = (false, inner e, λ ρ. take-leads x false ρ t k₀)
    by true false false k k₁ k₀ e = let z : ◌≡◌ {A = Bool} true false = cc in absurd (true≢false z)

-- before it is tidied, the settled formula has the truth of the formula
pub truth-assigned : (x : ℕ) (b : Bool) (f : Formula) → binds f.prefix x ≡ true → distinct f.prefix ≡ true
    → may_settle x f ≡ some b → truth (record { prefix = without x f.prefix; matrix = assign x b f.matrix }) ≡ truth f
unfolding truth may_settle
truth-assigned x b f h d k =
    let sign = taken_sign (quantifier_of f.prefix x) x f.matrix b k in
    let start : Assignment = λ _. false in
    let same : (ρ : Assignment) → eval (assign x b f.matrix) ρ ≡ eval f.matrix (put ρ x (value (quantifier_of f.prefix x) sign.0))
    = λ ρ. eval-assign x b f.matrix ρ ∙ ap (λ (c : Bool). eval f.matrix (put ρ x c)) (sym sign.1) in
    bind_ext (without x f.prefix) same start ∙
    sym (bind_settle f.prefix (eval f.matrix) x sign.0 start h d sign.2)
