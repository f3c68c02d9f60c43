-- Clauses by names are of the clause profile.
-- Assumes nothing.
use mathlib.Core.Path.{◌≡◌, refl, ap}
use mathlib.Core.Bool.{Bool, true, false, not}
use Prim.Native.Nat.{ℕ, suc, ◌+◌}
use Rattle.formula.specs.Tree.{Op, and, or, Tree, lit, node, Forest, ∅, ◌▸◌, ◌⧺◌, Formula, some_child}
use Rattle.formula.specs.Reduce.{is_literal, is_clause, in_profile}
use Rattle.formula.specs.Clausal.{operators, name, names, implies, defined, defined_all, conjuncts, conjunct, named, clauses, clausal}
use Rattle.formula.proofs.Booleans.{or_parts, or-none}

-- no literal, no clause
abbrev wide : Tree → Bool
wide t = not (is_literal t)

abbrev deep : Tree → Bool
deep t = not (is_clause t)

module _ (fresh : ℕ → ℕ) where
  literal-name : (t : Tree) (i : ℕ) → wide (name fresh i t) ≡ false
  unfolding name is_literal
  literal-name (lit s v) i = refl
  literal-name (node o ts) i = refl

  literal-names : (ts : Forest) (i : ℕ) → some_child wide (names fresh i ts) ≡ false
  unfolding names some_child
  literal-names ∅ i = refl
  literal-names (t ▸ ts) i = or-none (literal-name t i) (literal-names ts (i + operators t))

  both-clauses : (ts us : Forest) → some_child deep ts ≡ false → some_child deep us ≡ false → some_child deep (ts ⧺ us) ≡ false
  unfolding some_child ◌⧺◌
  both-clauses ∅ us h k = k
  both-clauses (t ▸ ts) us h k =
      let parts = or_parts (deep t) (some_child deep ts) h in
      or-none parts.0 (both-clauses ts us parts.1 k)

  -- OR of literals is a clause
  or_clause : (cs : Forest) → some_child wide cs ≡ false → deep (node or cs) ≡ false
  unfolding is_clause
  or_clause cs h = ap (λ (b : Bool). not (not b)) h

  implies-clauses : (o : Op) (n : ℕ) (cs : Forest) → some_child wide cs ≡ false → some_child deep (implies o n cs) ≡ false
  unfolding implies some_child is_literal
  implies-clauses or n cs h = or-none (or_clause (lit false n ▸ cs) h) refl
  implies-clauses and n ∅ h = refl
  implies-clauses and n (c ▸ cs) h =
      let parts = or_parts (wide c) (some_child wide cs) h in
      or-none (or_clause (lit false n ▸ c ▸ ∅) (or-none parts.0 refl)) (implies-clauses and n cs parts.1)

  mutual
    unfolding defined some_child

    defined-clauses : (t : Tree) (i : ℕ) → some_child deep (defined fresh i t) ≡ false
    defined-clauses (lit s v) i = refl
    defined-clauses (node o ts) i =
        both-clauses (implies o (fresh i) (names fresh (suc i) ts)) (defined_all fresh (suc i) ts)
        (implies-clauses o (fresh i) (names fresh (suc i) ts) (literal-names ts (suc i))) (defined-all-clauses ts (suc i))

    defined-all-clauses : (ts : Forest) (i : ℕ) → some_child deep (defined_all fresh i ts) ≡ false
    defined-all-clauses ∅ i = refl
    defined-all-clauses (t ▸ ts) i =
        both-clauses (defined fresh i t) (defined_all fresh (i + operators t) ts) (defined-clauses t i) (defined-all-clauses ts (i + operators t))

  conjunct-clauses : (t : Tree) (i : ℕ) → some_child deep (conjunct fresh i t) ≡ false
  unfolding conjunct some_child is_clause
  conjunct-clauses (lit s v) i = refl
  conjunct-clauses (node or ts) i = or-none (or_clause (names fresh i ts) (literal-names ts i)) (defined-all-clauses ts i)
  conjunct-clauses (node and ts) i = defined-clauses (node and ts) i

  all_clauses : (ts : Forest) (i : ℕ) → some_child deep (clauses fresh i ts) ≡ false
  unfolding clauses some_child
  all_clauses ∅ i = refl
  all_clauses (t ▸ ts) i =
      both-clauses (conjunct fresh i t) (clauses fresh (i + named t) ts) (conjunct-clauses t i) (all_clauses ts (i + named t))

pub profile_clausal : (highest : ℕ) (f : Formula) → in_profile (clausal highest f).matrix ≡ true
unfolding clausal in_profile
profile_clausal highest f = ap not (all_clauses _ (conjuncts f.matrix) 0)
