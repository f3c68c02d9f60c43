-- One step of evaluation, and the loop over the steps.
-- Assumes nothing.
use mathlib.Core.Path.{◌≡◌, refl, sym, ap, ap₂, ◌∙◌}
use mathlib.Core.Bool.{Bool, true, false, cond}
use mathlib.Core.List.{List}
use Prim.Native.Nat.{ℕ, zero, suc, ◌+◌, ◌≤◌, ◌<◌}
use native.Mathlib.Omega.{arith}
use lib.Dec.{eqb}
use lib.ListN.{length, get_or}
use borrow.Author.Tests.{le-leb, lt-leb, eq-eqb, ne_eqb}
use Rattle.formula.specs.Tree.{Op, Tree, lit, node, Forest, ∅, ◌▸◌, Literals}
use Rattle.formula.specs.Truth.{Assignment, join, eval, eval_all}
use Rattle.sheet.specs.Format.{Row, row, children}
use Rattle.jumps.specs.Jumps.{entry, value_by, value_all, signed, row_value, next, Leads, Decides, Jumps}

-- values

mutual
  unfolding value_by eval

  -- under an assignment a tree has its value
  pub value-eval : (t : Tree) (ρ : Assignment) → value_by t (signed ρ) ≡ eval t ρ
  value-eval (lit s v) ρ = refl
  value-eval (node o ts) ρ = value-eval_all ts o ρ

  value-eval_all : (ts : Forest) (o : Op) (ρ : Assignment) → value_all ts o (signed ρ) ≡ eval_all ts o ρ
  value-eval_all ∅ o ρ = refl
  value-eval_all (t ▸ ts) o ρ = ap₂ (join o) (value-eval t ρ) (value-eval_all ts o ρ)

-- one row

pub value-literal : (x : Row) (L : Literals) (k a : ℕ) (v : Bool) → k ≡ x.kind → a ≡ x.argument → v ≡ L (eqb k 3) a → k ≤ 4
    → v ≡ row_value x L
unfolding row_value
value-literal x L k a v p q e h = rw (← p, ← q, le-leb k 4 h, e)

pub value_operator : (x : Row) (L : Literals) (k : ℕ) → k ≡ x.kind → 4 < k → eqb k 5 ≡ row_value x L
unfolding row_value
value_operator x L k p h = rw (← p, lt-leb k 4 h)

-- next

module _ (R : List Row) (high low : List ℕ) (L : Literals) (i k : ℕ) (kids : k ≡ children (get_or R i (row 0 0))) where
  pub next_child : (k ≡ 0 → ⊥) → i + 1 ≡ next R high low L i
  unfolding next
  next_child h = rw (← kids, ne_eqb k 0 h)

  module _ (none : k ≡ 0) (v : Bool) (value : v ≡ row_value (get_or R i (row 0 0)) L) where
    next-value : cond v (entry high i) (entry low i) ≡ next R high low L i
    unfolding next
    next-value = rw (← kids, eq-eqb k 0 none, value)

    pub next-high : (e : ℕ) → v ≡ true → e ≡ entry high i → e ≡ next R high low L i
    next-high e h p = p ∙ ap (λ b. cond b (entry high i) (entry low i)) (sym h) ∙ next-value

    pub next_low : (e : ℕ) → v ≡ false → e ≡ entry low i → e ≡ next R high low L i
    next_low e h p = p ∙ ap (λ b. cond b (entry high i) (entry low i)) (sym h) ∙ next-value

-- evaluate

next_forward : (R : List Row) (high low : List ℕ) (L : Literals) (i : ℕ) → Jumps R high low → i < length R
    → (i < next R high low L i) × (next R high low L i ≤ length R + 1)
unfolding next
next_forward R high low L i j h =
    let x = get_or R i (row 0 0) in
    either (eqb (children x) 0) _ (i + 1)
    (either (row_value x L) (entry high i) (entry low i) (j.high_forward i h) (j.low_forward i h)) (omega arith)
  where
    either : (u : Bool) (a b : ℕ) → (i < a) × (a ≤ length R + 1) → (i < b) × (b ≤ length R + 1)
        → (i < cond u a b) × (cond u a b ≤ length R + 1)
    either true a b p q = p
    either false a b p q = q

pub next_on : (R : List Row) (n : ℕ) → length R ≡ n → (high low : List ℕ) (L : Literals) (x : Bool) (i i' : ℕ)
    → Jumps R high low → i < n
    → Decides (length R) (next R high low L) x i → i' ≡ next R high low L i
    → (i < i') × (i' ≤ n + 1) × Decides (length R) (next R high low L) x i'
next_on R n all high low L x i i' j h d e =
    let f = next_forward R high low L i j (omega arith) in
    (omega (arith, f, e), omega (arith, f, e), rw e (go x d.steps d.leads))
  where
    go : (x : Bool) (k : ℕ) → Leads (length R) (next R high low L) x k i → Decides (length R) (next R high low L) x (next R high low L i)
    go true zero l = absurd (omega arith)
    go false zero l = absurd (omega arith)
    go x (suc k) l = record { steps = k; leads = l.1 }

pub verdict_at : (n m : ℕ) (step : ℕ → ℕ) (x : Bool) (i : ℕ) → n ≡ m → m ≤ i → Decides n step x i → eqb i m ≡ x
verdict_at n m step x i e h d = go x d.steps d.leads
  where
    go : (x : Bool) (k : ℕ) → Leads n step x k i → eqb i m ≡ x
    go true zero l = eq-eqb i m (omega arith)
    go false zero l = ne_eqb i m (λ q. omega arith)
    go x (suc k) l = absurd (omega arith)
