-- A constraint settles the matrix exactly if the matrix has the verdict's value with the constraint's literals at that value, and all others
-- at the other; and the walk over the initial steps.
-- Assumes nothing.
use mathlib.Core.Path.{◌≡◌, refl, sym, ap, ap₂, ◌∙◌, fun_ext}
use mathlib.Core.Bool.{Bool, true, false, not, cond, beq}
use mathlib.Core.List.{List}
use Prim.Native.Nat.{ℕ, zero, suc, ◌+◌, ◌*◌, ◌/◌, ◌%◌, ◌≤◌, ◌<◌}
use native.Mathlib.Decide.{dec_lt}
use native.Mathlib.Omega.{arith}
use lib.Dec.{eqb}
use borrow.Author.Tests.{lt-ltb, le-ltb}
use Rattle.formula.specs.Tree.{Op, and, or, Tree, lit, node, Forest, ∅, ◌▸◌}
use Rattle.formula.specs.Truth.{join}
use Rattle.formula.specs.Certificates.{Literal, Constraint, holds, needed, settles, settles_each}
use Rattle.sets.specs.Sets as sets
use Rattle.sets.specs.Sets.{IsFirst}
use Rattle.sheet.specs.Certificates.{coded, head_word, step_constraint, side_for}
use Rattle.jumps.specs.Jumps.{value_by, value_all}
use Rattle.certify.specs.Inner.Initial.{marked, valued, settled_by, settled_at, NextInitial}

-- literals

literal : Bool → ℕ → Literal
literal s x = record { sign = s; variable = x }

module _ (marks : List ℕ) (s : Bool) (x : ℕ) where
  pub unmarked_beyond : 2048 ≤ x → false ≡ marked marks s x
  unmarked_beyond h = rw (le-ltb x 2048 h)

-- a set of a constraint's codes marks its literals
module _ (marks : List ℕ) (D : Constraint) (codes-are : (c : ℕ) → sets.holds marks c ≡ holds D (coded c))
    (none-beyond : (s : Bool) (x : ℕ) → 2048 ≤ x → holds D (record { sign = s; variable = x }) ≡ false) where
  marked-holds : (s : Bool) (x : ℕ) → marked marks s x ≡ holds D (literal s x)
  unfolding literal
  marked-holds s x = by (dec_lt x 2048)
    where
      is_code : (s : Bool) (x : ℕ) → coded (2 * x + cond s 0 1) ≡ literal s x
      is_code true x = ap₂ literal (ap (λ r. eqb r 0) (rest x)) (half x)
        where
          rest : (x : ℕ) → (2 * x + 0) % 2 ≡ 0
          rest x = omega arith

          half : (x : ℕ) → (2 * x + 0) / 2 ≡ x
          half x = omega arith
      is_code false x = ap₂ literal (ap (λ r. eqb r 0) (rest x)) (half x)
        where
          rest : (x : ℕ) → (2 * x + 1) % 2 ≡ 1
          rest x = omega arith

          half : (x : ℕ) → (2 * x + 1) / 2 ≡ x
          half x = omega arith

      by : Dec (x < 2048) → marked marks s x ≡ holds D (literal s x)
      by (yes l) = rw (lt-ltb x 2048 l) (codes-are (2 * x + cond s 0 1) ∙ ap (holds D) (is_code s x))
      by (no f) = sym (unmarked_beyond marks s x (omega arith)) ∙ sym (none-beyond s x (omega arith))

  -- the literals' values
  values_are : (v : Bool) → valued v marks ≡ (λ s x. beq (holds D (literal s x)) v)
  values_are v = fun_ext (λ s. fun_ext (λ x. ap (λ b. beq b v) (marked-holds s x)))

  mutual
    unfolding settles value_by literal

    settles-value : (v : Bool) (t : Tree) → beq (value_by t (λ s x. beq (holds D (literal s x)) v)) v ≡ settles (side_for v) D t
    settles-value true (lit s x) = same (holds D (literal s x))
      where
        same : (b : Bool) → beq (beq b true) true ≡ b
        same true = refl
        same false = refl
    settles-value false (lit s x) = same (holds D (literal s x))
      where
        same : (b : Bool) → beq (beq b false) false ≡ b
        same true = refl
        same false = refl
    settles-value v (node o ts) = settles-values v o ts

    settles-values : (v : Bool) (o : Op) (ts : Forest)
        → beq (value_all ts o (λ s x. beq (holds D (literal s x)) v)) v ≡ settles_each (side_for v) D (needed (side_for v) o) ts
    settles-values true and ∅ = refl
    settles-values true or ∅ = refl
    settles-values false and ∅ = refl
    settles-values false or ∅ = refl
    settles-values v o (t ▸ ts) =
        joined v o (value_by t (λ s x. beq (holds D (literal s x)) v)) (value_all ts o (λ s x. beq (holds D (literal s x)) v)) ∙
        ap₂ (join (needed (side_for v) o)) (settles-value v t) (settles-values v o ts)
      where
        joined : (v : Bool) (o : Op) (a b : Bool) → beq (join o a b) v ≡ join (needed (side_for v) o) (beq a v) (beq b v)
        joined true and true b = refl
        joined true and false b = refl
        joined true or true b = refl
        joined true or false b = refl
        joined false and true b = refl
        joined false and false b = refl
        joined false or true b = refl
        joined false or false b = refl

  pub settles-marked : (v r : Bool) (t : Tree) → r ≡ value_by t (valued v marks) → beq r v ≡ settles (side_for v) D t
  settles-marked v r t e =
      ap (λ b. beq b v) (e ∙ ap (value_by t) (values_are v)) ∙ settles-value v t

-- next_initial: no step from k on and before i is initial

abbrev pub Derived : List ℕ → ℕ → ℕ → Type 0
Derived heads k i = (k ≤ i) × ((j : ℕ) → k ≤ j → j < i → head_word heads j 0 ≡ 0 → ⊥)

pub derived_none : (heads : List ℕ) (k : ℕ) → Derived heads k k
derived_none heads k = (omega arith, λ j h l. absurd (omega arith))

module _ (heads : List ℕ) (k n i : ℕ) where
  pub derived_on : (w : ℕ) → w ≡ head_word heads i 0 → (w ≡ 0 → ⊥) → Derived heads k i → Derived heads k (i + 1)
  derived_on w e f d = (omega arith, λ j h l. by j h l (dec_lt j i))
    where
      by : (j : ℕ) → k ≤ j → j < i + 1 → Dec (j < i) → head_word heads j 0 ≡ 0 → ⊥
      by j h l (yes g) = d.1 j h g
      by j h l (no g) =
          let same : j ≡ i = omega arith in
          λ z. f (e ∙ ap (λ m. head_word heads m 0) (sym same) ∙ z)

  pub derived_found : (w : ℕ) → w ≡ head_word heads i 0 → w ≡ 0 → i < n → Derived heads k i → NextInitial heads k n i
  derived_found w e z l d =
      record { onward = d.0; within = omega arith; is_initial = λ _. sym e ∙ z; others_between = d.1 }

  pub derived_all : i ≡ n → Derived heads k i → NextInitial heads k n i
  derived_all e d = record { onward = d.0; within = omega arith; is_initial = λ l. absurd (omega arith); others_between = d.1 }

-- first_unsettled

module _ (v : Bool) (t : Tree) (heads codes : List ℕ) where
  settled-zero : (k w : ℕ) → w ≡ 0 → settled_by v t heads codes k w ≡ settles (side_for v) (step_constraint heads codes k) t
  unfolding settled_by
  settled-zero k zero e = refl
  settled-zero k (suc w) e = absurd (omega arith)

  settled_other : (k w : ℕ) → (w ≡ 0 → ⊥) → settled_by v t heads codes k w ≡ true
  unfolding settled_by
  settled_other k zero f = absurd (f refl)
  settled_other k (suc w) f = refl

  -- the initial steps before k settle the matrix, and k is the next
  pub record Settled (n k : ℕ) : Type 0 where
    pub within : k ≤ n
    pub is_initial : k < n → head_word heads k 0 ≡ 0
    pub so_far : (j : ℕ) → j < k → settled_at v t heads codes j ≡ true

  pub settled_start : (n k : ℕ) → NextInitial heads 0 n k → Settled n k
  settled_start n k s =
      record {
        within = s.within;
        is_initial = s.is_initial;
        so_far = λ j l. settled_other j (head_word heads j 0) (s.others_between j (omega arith) l);
      }

  module _ (n k : ℕ) (inside : k < n) (before : Settled n k) (r : Bool) (D : Constraint) (is : D ≡ step_constraint heads codes k)
      (told : r ≡ settles (side_for v) D t) where
    here : settled_at v t heads codes k ≡ r
    here =
        settled-zero k (head_word heads k 0) (before.is_initial inside) ∙ ap (λ (c : Constraint). settles (side_for v) c t) (sym is) ∙ sym told

    pub settled_on : r ≡ true → (k' : ℕ) → NextInitial heads (k + 1) n k' → Settled n k'
    settled_on h k' s =
        record { within = s.within; is_initial = s.is_initial; so_far = λ j l. by j l (dec_lt j k) (dec_lt k j) }
      where
        by : (j : ℕ) → j < k' → Dec (j < k) → Dec (k < j) → settled_at v t heads codes j ≡ true
        by j l (yes g) d = before.so_far j g
        by j l (no g) (yes d) = settled_other j (head_word heads j 0) (s.others_between j (omega arith) l)
        by j l (no g) (no d) =
            let same : j ≡ k = omega arith in
            ap (settled_at v t heads codes) same ∙ here ∙ h

    pub settled_found : r ≡ false → IsFirst (λ j. not (settled_at v t heads codes j)) n k
    settled_found h =
        record { within = before.within; is_in = λ _. ap not (here ∙ h); none_below = λ j l. ap not (before.so_far j l) }

  pub settled_all : (n k : ℕ) → n ≤ k → Settled n k → IsFirst (λ j. not (settled_at v t heads codes j)) n k
  settled_all n k h s =
      record { within = s.within; is_in = λ l. absurd (omega arith); none_below = λ j l. ap not (s.so_far j l) }
