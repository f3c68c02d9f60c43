-- The formula is AND of its conjuncts, and its clauses hold no literals but its own and those of the names.
-- Assumes nothing.
use mathlib.Core.Path.{◌≡◌, refl}
use mathlib.Core.Bool.{Bool, true, false, beq, and-true}
use Prim.Native.Nat.{ℕ, suc, ◌+◌, ◌≤◌, ◌<◌}
use native.Mathlib.Omega.{arith}
use Rattle.formula.specs.Tree.{Op, and, or, Tree, lit, node, Forest, ∅, ◌▸◌, ◌⧺◌, Literals, has, has_any}
use Rattle.formula.specs.Truth.{Assignment, eval, eval_all}
use Rattle.formula.specs.Clausal.{operators, operators_all, name, names, implies, defined, defined_all, conjuncts, conjunct, named, named_all, clauses}
use Rattle.formula.proofs.Booleans.{or_parts, or-none}

pub eval-conjuncts : (t : Tree) (ρ : Assignment) → eval_all (conjuncts t) and ρ ≡ eval t ρ
unfolding conjuncts eval
eval-conjuncts (lit s v) ρ = and-true (beq s (ρ v))
eval-conjuncts (node or ts) ρ = and-true (eval_all ts or ρ)
eval-conjuncts (node and ts) ρ = refl

pub has-conjuncts : (L : Literals) (t : Tree) → has L t ≡ false → has_any L (conjuncts t) ≡ false
unfolding conjuncts has
has-conjuncts L (lit s v) h = or-none h refl
has-conjuncts L (node or ts) h = or-none h refl
has-conjuncts L (node and ts) h = h

-- literals that a set leaves out: those of the formula, and those of the names used
module _ (L : Literals) (fresh : ℕ → ℕ) (n : ℕ) (out : (s : Bool) (k : ℕ) → k < n → L s (fresh k) ≡ false) where
  has_both : (ts us : Forest) → has_any L ts ≡ false → has_any L us ≡ false → has_any L (ts ⧺ us) ≡ false
  unfolding has ◌⧺◌
  has_both ∅ us h k = k
  has_both (t ▸ ts) us h k =
      let parts = or_parts (has L t) (has_any L ts) h in
      or-none parts.0 (has_both ts us parts.1 k)

  has-name : (t : Tree) (i : ℕ) → i + operators t ≤ n → has L t ≡ false → has L (name fresh i t) ≡ false
  unfolding name has operators
  has-name (lit s v) i h k = k
  has-name (node o ts) i h k = out true i (omega arith)

  has-names : (ts : Forest) (i : ℕ) → i + operators_all ts ≤ n → has_any L ts ≡ false → has_any L (names fresh i ts) ≡ false
  unfolding names has operators
  has-names ∅ i h k = refl
  has-names (t ▸ ts) i h k =
      let parts = or_parts (has L t) (has_any L ts) k in
      or-none (has-name t i (omega arith) parts.0) (has-names ts (i + operators t) (omega arith) parts.1)

  has-implies : (o : Op) (k : ℕ) (cs : Forest) → k < n → has_any L cs ≡ false → has_any L (implies o (fresh k) cs) ≡ false
  unfolding implies has
  has-implies or k cs h e = or-none (or-none (out false k h) e) refl
  has-implies and k ∅ h e = refl
  has-implies and k (c ▸ cs) h e =
      let parts = or_parts (has L c) (has_any L cs) e in
      or-none (or-none (out false k h) (or-none parts.0 refl)) (has-implies and k cs h parts.1)

  mutual
    unfolding defined has operators

    has-defined : (t : Tree) (i : ℕ) → i + operators t ≤ n → has L t ≡ false → has_any L (defined fresh i t) ≡ false
    has-defined (lit s v) i h k = refl
    has-defined (node o ts) i h k =
        has_both (implies o (fresh i) (names fresh (suc i) ts)) (defined_all fresh (suc i) ts)
        (has-implies o i (names fresh (suc i) ts) (omega arith) (has-names ts (suc i) (omega arith) k))
        (has-defined-all ts (suc i) (omega arith) k)

    has-defined-all : (ts : Forest) (i : ℕ) → i + operators_all ts ≤ n → has_any L ts ≡ false → has_any L (defined_all fresh i ts) ≡ false
    has-defined-all ∅ i h k = refl
    has-defined-all (t ▸ ts) i h k =
        let parts = or_parts (has L t) (has_any L ts) k in
        has_both (defined fresh i t) (defined_all fresh (i + operators t) ts) (has-defined t i (omega arith) parts.0)
        (has-defined-all ts (i + operators t) (omega arith) parts.1)

  has-conjunct : (t : Tree) (i : ℕ) → i + named t ≤ n → has L t ≡ false → has_any L (conjunct fresh i t) ≡ false
  unfolding conjunct named has operators
  has-conjunct (lit s v) i h k = or-none k refl
  has-conjunct (node or ts) i h k = or-none (has-names ts i h k) (has-defined-all ts i h k)
  has-conjunct (node and ts) i h k = or-none (out true i (omega arith)) (has-defined (node and ts) i h k)

  pub has-clauses : (ts : Forest) (i : ℕ) → i + named_all ts ≤ n → has_any L ts ≡ false → has_any L (clauses fresh i ts) ≡ false
  unfolding clauses named_all has
  has-clauses ∅ i h k = refl
  has-clauses (t ▸ ts) i h k =
      let parts = or_parts (has L t) (has_any L ts) k in
      has_both (conjunct fresh i t) (clauses fresh (i + named t) ts) (has-conjunct t i (omega arith) parts.0)
      (has-clauses ts (i + named t) (omega arith) parts.1)
