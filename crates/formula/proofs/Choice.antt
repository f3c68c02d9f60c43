-- What `lowest` and `cheapest` choose: a variable of the prefix that passes the test; and the innermost block is never empty.
-- Assumes nothing.
use mathlib.Core.Path.{◌≡◌, refl, sym, ◌∙◌, ap, subst}
use mathlib.Core.Bool.{Bool, true, false, ◌||◌, cond, or-true, false≢true, true≢false}
use mathlib.Core.List.{[], ◌∷◌}
use mathlib.Core.Logic.{⊎_elim}
use mathlib.Core.Option.{Option, none, some}
use Prim.Native.Nat.{ℕ}
use lib.Dec.{eqb}
use borrow.Author.Tests.{eqb-true, eq-eqb}
use Rattle.formula.specs.Tree.{Prefix, Formula, binds, distinct}
use Rattle.formula.specs.Settle.{may_settle}
use Rattle.formula.specs.Expand.{innermost}
use Rattle.formula.specs.Solve.{those, earlier, least, is_some, lowest, cheaper, cheapest}
use Rattle.formula.proofs.Booleans.{or_cases}
use Rattle.formula.proofs.Innermost.{innermost-binds, last-variable}

-- a chosen variable passes the test and is in the prefix

Chosen : (ℕ → Bool) → Prefix → ℕ → Type 0
Chosen P p x = (P x ≡ true) × (binds p x ≡ true)

least-chosen : (before : ℕ → ℕ → Bool) (P : ℕ → Bool) (p : Prefix) (x : ℕ) → least before (those P p) ≡ some x → Chosen P p x
unfolding least those binds earlier Chosen
least-chosen before P [] x h = let z : ◌≡◌ {A = Bool} true false = cc in absurd (true≢false z)
least-chosen before P (z ∷ p) x h = by (P z.variable) refl h (λ y k. least-chosen before P p y k)
  where
    here : P z.variable ≡ true → z.variable ≡ x → (P x ≡ true) × ((eqb z.variable x || binds p x) ≡ true)
    here t e = (subst (λ (v : ℕ). P v ≡ true) e t, ap (λ (b : Bool). b || binds p x) (eq-eqb z.variable x e))

    later : (P x ≡ true) × (binds p x ≡ true) → (P x ≡ true) × ((eqb z.variable x || binds p x) ≡ true)
    later c = (c.0, ap (λ (b : Bool). eqb z.variable x || b) c.1 ∙ or-true (eqb z.variable x))

    inner : {a c : ℕ} → some a ≡ some c → a ≡ c
    inner e = cc

    pick : (o : Option ℕ) → least before (those P p) ≡ o → P z.variable ≡ true → earlier before z.variable o ≡ some x
        → ((y : ℕ) → least before (those P p) ≡ some y → (P y ≡ true) × (binds p y ≡ true))
        → (P x ≡ true) × ((eqb z.variable x || binds p x) ≡ true)
    pick none e t k rest = here t (inner k)
    pick (some y) e t k rest = of_two (before y z.variable) (inner k)
      where
        of_two : (m : Bool) → cond m y z.variable ≡ x → (P x ≡ true) × ((eqb z.variable x || binds p x) ≡ true)
        of_two true i = later (rest x (e ∙ ap some i))
        of_two false i = here t i

    by : (m : Bool) → P z.variable ≡ m → least before (cond m (z.variable ∷ those P p) (those P p)) ≡ some x
        → ((y : ℕ) → least before (those P p) ≡ some y → (P y ≡ true) × (binds p y ≡ true))
        → (P x ≡ true) × ((eqb z.variable x || binds p x) ≡ true)
    by true e k rest = pick (least before (those P p)) refl e k rest
    by false e k rest = later (rest x k)

pub lowest-chosen : (f : Formula) (x : ℕ) → lowest f ≡ some x → (is_some (may_settle x f) ≡ true) × (binds f.prefix x ≡ true)
unfolding lowest Chosen
lowest-chosen f x h = least-chosen _ (λ x. is_some (may_settle x f)) f.prefix x h

pub cheapest-chosen : (f : Formula) (x : ℕ) → cheapest f ≡ some x → (innermost x f ≡ true) × (binds f.prefix x ≡ true)
unfolding cheapest Chosen
cheapest-chosen f x h = least-chosen (cheaper f) (λ x. innermost x f) f.prefix x h

-- where some variable passes, one is chosen

found : (before : ℕ → ℕ → Bool) (x : ℕ) (o : Option ℕ) → (y : ℕ) × (earlier before x o ≡ some y)
unfolding earlier
found before x none = (x, refl)
found before x (some y) = (cond (before y x) y x, refl)

least-found : (before : ℕ → ℕ → Bool) (P : ℕ → Bool) (p : Prefix) (x : ℕ) → Chosen P p x
    → (y : ℕ) × (least before (those P p) ≡ some y)
unfolding least those binds Chosen
least-found before P [] x c = absurd (false≢true c.1)
least-found before P (z ∷ p) x c = by (P z.variable) refl (λ k. least-found before P p x (c.0, k))
  where
    by : (m : Bool) → P z.variable ≡ m → (binds p x ≡ true → (y : ℕ) × (least before (those P p) ≡ some y))
        → (y : ℕ) × (least before (cond m (z.variable ∷ those P p) (those P p)) ≡ some y)
    by true e rest = found before z.variable (least before (those P p))
    by false e rest =
        ⊎_elim (λ k. absurd (false≢true (sym e ∙ ap P (eqb-true z.variable x k) ∙ c.0))) rest
        (or_cases (eqb z.variable x) (binds p x) c.1)

pub cheapest-found : (f : Formula) → distinct f.prefix ≡ true → (f.prefix ≡ [] → ⊥) → (x : ℕ) × (cheapest f ≡ some x)
unfolding cheapest Chosen
cheapest-found f d h = by f.prefix refl
  where
    by : (p : Prefix) → f.prefix ≡ p → (x : ℕ) × (least (cheaper f) (those (λ x. innermost x f) f.prefix) ≡ some x)
    by [] e = absurd (h e)
    by (z ∷ p) e =
        let last = last-variable z p f.matrix (ap distinct (sym e) ∙ d) in
        let there : innermost last.0 f ≡ true = ap (λ (q : Prefix). innermost last.0 (record { prefix = q; matrix = f.matrix })) e ∙ last.1 in
        least-found (cheaper f) (λ x. innermost x f) f.prefix last.0 (there, innermost-binds last.0 f there)
