-- Constraints under an assignment: what initial ones and resolvents settle, and which variables a constraint ignores.
-- Assumes nothing.
use mathlib.Core.Path.{◌≡◌, refl, sym, ◌∙◌, ap, ap₂}
use mathlib.Core.Bool.{Bool, true, false, not, ◌&&◌, ◌||◌, cond, beq, and-false, or-true, false≢true}
use mathlib.Core.List.{[], ◌∷◌, ◌++◌}
use mathlib.Core.Logic.{◌⊎◌, inl, inr, ⊎_elim}
use Prim.Native.Nat.{ℕ}
use lib.Dec.{eqb}
use borrow.Author.Tests.{eqb-true, eq-eqb}
use Rattle.formula.specs.Tree.{Op, and, or, Tree, lit, node, Forest, ∅, ◌▸◌}
use Rattle.formula.specs.Truth.{Assignment, join, unit, eval, eval_all, Ignores}
use Rattle.formula.specs.Certificates.{Literal, negated, same_literal, Constraint, some_literal, holds, leave_out, needed, settles, settles_each, resolvent}
use Rattle.formula.proofs.Booleans.{and_parts, or_parts, or-none, or_cases, or_later, beq_same}
use Rattle.formula.proofs.Certificates.Core.{Settles}

-- what a literal says, and what a constraint says: OR of its literals in a clause, AND in a cube
abbrev pub value_at : Literal → Assignment → Bool
value_at l ρ = beq l.sign (ρ l.variable)

unfoldable pub joined_at : Op → Constraint → Assignment → Bool
joined_at o [] ρ = unit o
joined_at o (l ∷ c) ρ = join o (value_at l ρ) (joined_at o c ρ)

-- the side's unit is joined of nothing else
pub unit-both : (o : Op) {a b : Bool} → a ≡ unit o → b ≡ unit o → join o a b ≡ unit o
unit-both and p q = ap₂ ◌&&◌ p q
unit-both or p q = ap₂ ◌||◌ p q

pub unit_parts : (o : Op) (a b : Bool) → join o a b ≡ unit o → (a ≡ unit o) × (b ≡ unit o)
unit_parts and a b h = and_parts a b h
unit_parts or a b h = or_parts a b h

-- equal literals

pub same_literal_eq : (l k : Literal) → same_literal l k ≡ true → l ≡ k
same_literal_eq l k h =
    let parts = and_parts (beq l.sign k.sign) (eqb l.variable k.variable) h in
    ap₂ (λ (s : Bool) (v : ℕ). record { sign = s; variable = v }) (beq_same l.sign k.sign parts.0)
    (eqb-true l.variable k.variable parts.1)

-- literals of one variable are equal or opposite
pub same_or-opposite : (l k : Literal) → l.variable ≡ k.variable → (same_literal l k ≡ true) ⊎ (same_literal (negated k) l ≡ true)
same_or-opposite l k e = by l.sign k.sign (eq-eqb l.variable k.variable e) (eq-eqb k.variable l.variable (sym e))
  where
    by : (s r : Bool) → eqb l.variable k.variable ≡ true → eqb k.variable l.variable ≡ true
        → ((beq s r && eqb l.variable k.variable) ≡ true) ⊎ ((beq (not r) s && eqb k.variable l.variable) ≡ true)
    by true true h g = inl h
    by true false h g = inr g
    by false true h g = inr g
    by false false h g = inl h

-- some literal

pub some_literal-none : (P Q : Literal → Bool) → ((l : Literal) → Q l ≡ true → P l ≡ true) → (c : Constraint) → some_literal P c ≡ false
    → some_literal Q c ≡ false
unfolding some_literal
some_literal-none P Q h [] e = refl
some_literal-none P Q h (l ∷ c) e =
    let parts = or_parts (P l) (some_literal P c) e in
    or-none (by (Q l) refl parts.0) (some_literal-none P Q h c parts.1)
  where
    by : (m : Bool) → Q l ≡ m → P l ≡ false → m ≡ false
    by true k n = absurd (false≢true (sym n ∙ h l k))
    by false k n = refl

pub holds_first : (l : Literal) (c : Constraint) → holds (l ∷ c) l ≡ true
unfolding holds some_literal
holds_first l c = ap (λ (m : Bool). m || some_literal (same_literal l) c) (itself l.sign)
  where
    itself : (s : Bool) → (beq s s && eqb l.variable l.variable) ≡ true
    itself true = eq-eqb l.variable l.variable refl
    itself false = eq-eqb l.variable l.variable refl

pub holds_later : (k : Literal) (c : Constraint) (l : Literal) → holds c l ≡ true → holds (k ∷ c) l ≡ true
unfolding holds some_literal
holds_later k c l h = or_later (same_literal l k) h

pub held-++ : (a b : Constraint) (l : Literal) → holds (a ++ b) l ≡ true → holds b l ≡ false → holds a l ≡ true
unfolding holds some_literal
held-++ [] b l h e = absurd (false≢true (sym e ∙ h))
held-++ (k ∷ a) b l h e =
    ⊎_elim (λ s. ap (λ (m : Bool). m || some_literal (same_literal l) a) s) (λ s. or_later (same_literal l k) (held-++ a b l s e))
    (or_cases (same_literal l k) (some_literal (same_literal l) (a ++ b)) h)

-- a constraint has its side's unit exactly if all its literals have

pub all_held : (o : Op) (c : Constraint) (ρ : Assignment) → ((l : Literal) → holds c l ≡ true → value_at l ρ ≡ unit o)
    → joined_at o c ρ ≡ unit o
unfolding joined_at
all_held o [] ρ h = refl
all_held o (l ∷ c) ρ h = unit-both o (h l (holds_first l c)) (all_held o c ρ (λ k e. h k (holds_later l c k e)))

pub held : (o : Op) (c : Constraint) (ρ : Assignment) → joined_at o c ρ ≡ unit o → (l : Literal) → holds c l ≡ true → value_at l ρ ≡ unit o
unfolding joined_at holds some_literal
held o [] ρ e l h = absurd (false≢true h)
held o (k ∷ c) ρ e l h =
    let parts = unit_parts o (value_at k ρ) (joined_at o c ρ) e in
    ⊎_elim (λ s. ap (λ (j : Literal). value_at j ρ) (same_literal_eq l k s) ∙ parts.0) (λ s. held o c ρ parts.1 l s)
    (or_cases (same_literal l k) (some_literal (same_literal l) c) h)

pub joined-++ : (o : Op) (a b : Constraint) (ρ : Assignment) → joined_at o (a ++ b) ρ ≡ unit o
    → (joined_at o a ρ ≡ unit o) × (joined_at o b ρ ≡ unit o)
unfolding joined_at
joined-++ o [] b ρ h = (refl, h)
joined-++ o (l ∷ a) b ρ h =
    let parts = unit_parts o (value_at l ρ) (joined_at o (a ++ b) ρ) h in
    let rest = joined-++ o a b ρ parts.1 in
    (unit-both o parts.0 rest.0, rest.1)

-- a constraint without a literal of v ignores v
pub constraint_ignores : (o : Op) (c : Constraint) (v : ℕ) → some_literal (λ l. eqb l.variable v) c ≡ false → Ignores (joined_at o c) v
unfolding joined_at some_literal
constraint_ignores o [] v h ρ b = refl
constraint_ignores o (l ∷ c) v h ρ b =
    let parts = or_parts (eqb l.variable v) (some_literal (λ l. eqb l.variable v) c) h in
    ap₂ (join o) (ap (λ (m : Bool). beq l.sign (cond m b (ρ l.variable))) parts.0) (constraint_ignores o c v parts.1 ρ b)

-- initial constraints

-- the children needed decide the operator
decides : (o k : Op) (a b v w : Bool) → (a ≡ true → v ≡ unit o) → (b ≡ true → w ≡ unit o) → join (needed o k) a b ≡ true
    → join k v w ≡ unit o
decides and and a b v w f g h = let parts = and_parts a b h in ap₂ ◌&&◌ (f parts.0) (g parts.1)
decides and or a b v w f g h =
    ⊎_elim (λ e. ap (λ (m : Bool). m || w) (f e)) (λ e. ap (◌||◌ v) (g e) ∙ or-true v) (or_cases a b h)
decides or and a b v w f g h =
    ⊎_elim (λ e. ap (λ (m : Bool). m && w) (f e)) (λ e. ap (◌&&◌ v) (g e) ∙ and-false v) (or_cases a b h)
decides or or a b v w f g h = let parts = and_parts a b h in ap₂ ◌||◌ (f parts.0) (g parts.1)

-- of no child, one can't be settled
decides-none : (o k : Op) → unit (needed o k) ≡ true → unit k ≡ unit o
decides-none and and h = refl
decides-none and or h = absurd (false≢true h)
decides-none or and h = absurd (false≢true h)
decides-none or or h = refl

mutual
  unfolding settles eval

  pub settles_tree : (o : Op) (c : Constraint) (ρ : Assignment) → joined_at o c ρ ≡ unit o → (t : Tree) → settles o c t ≡ true
      → eval t ρ ≡ unit o
  settles_tree o c ρ e (lit s v) h = held o c ρ e (record { sign = s; variable = v }) h
  settles_tree o c ρ e (node k ts) h = settles_forest o c ρ e k ts h

  settles_forest : (o : Op) (c : Constraint) (ρ : Assignment) → joined_at o c ρ ≡ unit o → (k : Op) (ts : Forest)
      → settles_each o c (needed o k) ts ≡ true → eval_all ts k ρ ≡ unit o
  settles_forest o c ρ e k ∅ h = decides-none o k h
  settles_forest o c ρ e k (t ▸ ts) h =
      decides o k (settles o c t) (settles_each o c (needed o k) ts) (eval t ρ) (eval_all ts k ρ) (λ s. settles_tree o c ρ e t s)
      (λ s. settles_forest o c ρ e k ts s) h

pub settles-initial : (o : Op) (c : Constraint) (t : Tree) → settles o c t ≡ true → Settles o (joined_at o c) (eval t)
settles-initial o c t h ρ e = settles_tree o c ρ e t h

-- resolvents

-- a literal with the side's unit may be left out
joined-leave_out : (o : Op) (l : Literal) (c : Constraint) (ρ : Assignment) → value_at l ρ ≡ unit o → joined_at o (leave_out l c) ρ ≡ unit o
    → joined_at o c ρ ≡ unit o
unfolding joined_at leave_out
joined-leave_out o l [] ρ v h = h
joined-leave_out o l (k ∷ c) ρ v h = by (same_literal l k) refl h (joined-leave_out o l c ρ v)
  where
    by : (m : Bool) → same_literal l k ≡ m → joined_at o (cond m (leave_out l c) (k ∷ leave_out l c)) ρ ≡ unit o
        → (joined_at o (leave_out l c) ρ ≡ unit o → joined_at o c ρ ≡ unit o) → join o (value_at k ρ) (joined_at o c ρ) ≡ unit o
    by true s g more = unit-both o (ap (λ (j : Literal). value_at j ρ) (sym (same_literal_eq l k s)) ∙ v) (more g)
    by false s g more =
        let parts = unit_parts o (value_at k ρ) (joined_at o (leave_out l c) ρ) g in
        unit-both o parts.0 (more parts.1)

-- a literal or its complement has it
either_unit : (o : Op) (l : Literal) (ρ : Assignment) → (value_at l ρ ≡ unit o) ⊎ (value_at (negated l) ρ ≡ unit o)
either_unit o l ρ = by o l.sign (ρ l.variable)
  where
    by : (o : Op) (s b : Bool) → (beq s b ≡ unit o) ⊎ (beq (not s) b ≡ unit o)
    by and true true = inl refl
    by and true false = inr refl
    by and false true = inr refl
    by and false false = inl refl
    by or true true = inr refl
    by or true false = inl refl
    by or false true = inl refl
    by or false false = inr refl

pub settles-resolvent : (o : Op) (l : Literal) (a b : Constraint) (m : Assignment → Bool) → Settles o (joined_at o a) m
    → Settles o (joined_at o b) m → Settles o (joined_at o (resolvent l a b)) m
unfolding resolvent
settles-resolvent o l a b m f g ρ h =
    let parts = joined-++ o (leave_out l a) (leave_out (negated l) b) ρ h in
    ⊎_elim (λ e. f ρ (joined-leave_out o l a ρ e parts.0)) (λ e. g ρ (joined-leave_out o (negated l) b ρ e parts.1))
    (either_unit o l ρ)
