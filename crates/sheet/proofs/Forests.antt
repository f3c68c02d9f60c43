-- Laws of the first trees of a forest and of those behind them.
-- Assumes nothing.
use mathlib.Core.Path.{◌≡◌, refl, ap, ◌∙◌}
use Prim.Native.Nat.{ℕ, zero, suc, ◌+◌, ◌-◌, ◌≤◌}
use native.Mathlib.Omega.{arith}
use Rattle.formula.specs.Tree.{Forest, ∅, ◌▸◌, count, ◌⧺◌}
use Rattle.formula.proofs.Forests.{⧺-none}
use Rattle.sheet.specs.Sheet.{front, behind}

-- past all trees of the first of two forests
pub front-past : (ts us : Forest) (n m : ℕ) → n ≡ count ts + m → front n (ts ⧺ us) ≡ ts ⧺ front m us
unfolding front count ◌⧺◌
front-past ∅ us n m e = let same : n ≡ m = omega (arith, e) in ap (λ k. front k us) same
front-past (t ▸ ts) us zero m e = absurd (omega (arith, e))
front-past (t ▸ ts) us (suc n) m e = ap (λ vs. t ▸ vs) (front-past ts us n m (omega (arith, e)))

pub behind-past : (ts us : Forest) (n m : ℕ) → n ≡ count ts + m → behind n (ts ⧺ us) ≡ behind m us
unfolding behind count ◌⧺◌
behind-past ∅ us n m e = let same : n ≡ m = omega (arith, e) in ap (λ k. behind k us) same
behind-past (t ▸ ts) us zero m e = absurd (omega (arith, e))
behind-past (t ▸ ts) us (suc n) m e = behind-past ts us n m (omega (arith, e))

-- all of them
pub front-⧺ : (ts us : Forest) → front (count ts) (ts ⧺ us) ≡ ts
unfolding front
front-⧺ ts us = front-past ts us (count ts) 0 (omega arith) ∙ ⧺-none ts

pub behind-⧺ : (ts us : Forest) → behind (count ts) (ts ⧺ us) ≡ us
unfolding behind
behind-⧺ ts us = behind-past ts us (count ts) 0 (omega arith)

-- both
pub front-behind : (k : ℕ) (ts : Forest) → front k ts ⧺ behind k ts ≡ ts
unfolding front behind ◌⧺◌
front-behind zero ts = refl
front-behind (suc k) ∅ = refl
front-behind (suc k) (t ▸ ts) = ap (λ us. t ▸ us) (front-behind k ts)

-- how many they are
pub count-front : (n : ℕ) (ts : Forest) → n ≤ count ts → count (front n ts) ≡ n
unfolding front count
count-front zero ts h = refl
count-front (suc n) ∅ h = omega arith
count-front (suc n) (t ▸ ts) h = ap suc (count-front n ts (omega arith))

pub count-behind : (n : ℕ) (ts : Forest) → count (behind n ts) ≡ count ts - n
unfolding behind count
count-behind zero ts = omega arith
count-behind (suc n) ∅ = omega arith
count-behind (suc n) (t ▸ ts) = count-behind n ts ∙ omega arith
