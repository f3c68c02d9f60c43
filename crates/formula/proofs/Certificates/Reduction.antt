-- Literals that go: each is given the value at which it adds nothing, one after the other, and the constraint that is left may be joined
-- to the matrix.
-- Assumes nothing.
use mathlib.Core.Path.{◌≡◌, refl, sym, ◌∙◌, ap, subst}
use mathlib.Core.Bool.{Bool, true, false, not, ◌&&◌, ◌||◌, cond, beq, false≢true}
use mathlib.Core.List.{[], ◌∷◌, ◌++◌}
use mathlib.Core.Logic.{⊎_elim}
use Prim.Native.Nat.{ℕ}
use lib.Dec.{eqb}
use borrow.Author.Tests.{eqb-true, eq-eqb, not-true, not-false}
use Rattle.formula.specs.Tree.{Op, and, or, dual, same_op, Prefix, binds, quantifier_of, distinct}
use Rattle.formula.specs.Truth.{Assignment, put, join, unit, bind, Ignores}
use Rattle.formula.specs.Expand.{after}
use Rattle.formula.specs.Certificates.{Literal, negated, same_literal, Constraint, some_literal, holds, own_behind, reducible, may_go, follows}
use Rattle.formula.proofs.Booleans.{and_parts, or_parts, or_cases}
use Rattle.formula.proofs.Binding.{ignores_put, same_op_eq}
use Rattle.formula.proofs.Certificates.Core.{Settles, first_decides, second_decides, IgnoresOwn, bind-joined}
use Rattle.formula.proofs.Certificates.Constraints.{value_at, joined_at, same_or-opposite, same_literal_eq, some_literal-none, held-++, all_held, held, joined-++, constraint_ignores}

-- A matrix that has the truth of another, its side's unit wherever that one has it, and wherever a constraint has it.
pub record Joined (o : Op) (p : Prefix) (m c : Assignment → Bool) : Type 0 where
  pub matrix : Assignment → Bool
  pub same_truth : (ρ : Assignment) → bind p matrix ρ ≡ bind p m ρ
  pub keeps : Settles o m matrix
  pub settled : Settles o c matrix

-- what a literal that may go is known for
pub record Goes (o : Op) (p : Prefix) (c : Constraint) (l : Literal) : Type 0 where
  pub bound : binds p l.variable ≡ true
  pub other : quantifier_of p l.variable ≡ dual o
  pub none_behind : own_behind o p l.variable c ≡ false
  pub no_complement : holds c (negated l) ≡ false

goes : (o : Op) (p : Prefix) (r d : Constraint) (l : Literal) → may_go o p r d l ≡ true → Goes o p (r ++ d) l
unfolding may_go reducible
goes o p r d l h =
    let v = l.variable in
    let parts = and_parts (reducible o p (r ++ d) l) (not (holds (r ++ d) (negated l))) h in
    let first = and_parts (binds p v) (same_op (dual o) (quantifier_of p v) && not (own_behind o p v (r ++ d))) parts.0 in
    let second = and_parts (same_op (dual o) (quantifier_of p v)) (not (own_behind o p v (r ++ d))) first.1 in
    record {
      bound = first.0;
      other = sym (same_op_eq (dual o) (quantifier_of p v) second.0);
      none_behind = not-true (own_behind o p v (r ++ d)) second.1;
      no_complement = not-true (holds (r ++ d) (negated l)) parts.1;
    }

-- the value at which a literal has its side's unit
idle : Op → Literal → Bool
idle o l = beq l.sign (unit o)

idle_sign : (o : Op) (l : Literal) → beq l.sign (idle o l) ≡ unit o
unfolding idle
idle_sign o l = twice l.sign (unit o)
  where
    twice : (s u : Bool) → beq s (beq s u) ≡ u
    twice true true = refl
    twice true false = refl
    twice false true = refl
    twice false false = refl

idle_unit : (o : Op) (l : Literal) (ρ : Assignment) → value_at l (put ρ l.variable (idle o l)) ≡ unit o
idle_unit o l ρ =
    ap (λ (m : Bool). beq l.sign (cond m (idle o l) (ρ l.variable))) (eq-eqb l.variable l.variable refl) ∙ idle_sign o l

-- d follows from r
module _ (o : Op) (p : Prefix) (distinct-p : distinct p ≡ true) (r d : Constraint) where
  whole : Constraint
  whole = r ++ d

  passes : Literal → Bool
  passes l = holds d l || may_go o p r d l

  -- of some literals of r, those that aren't in d have been given their idle values
  idled : Constraint → Assignment → Assignment
  idled [] σ = σ
  idled (l ∷ c) σ = cond (holds d l) (idled c σ) (idled c (put σ l.variable (idle o l)))

  pass_goes : (l : Literal) → passes l ≡ true → holds d l ≡ false → Goes o p whole l
  unfolding passes whole
  pass_goes l h e =
      ⊎_elim (λ k. absurd (false≢true (sym e ∙ k))) (λ k. goes o p r d l k) (or_cases (holds d l) (may_go o p r d l) h)

  -- a function that ignores v still does
  idled_ignores : (f : Assignment → Bool) (v : ℕ) → Ignores f v → (c : Constraint) → Ignores (λ σ. f (idled c σ)) v
  unfolding idled
  idled_ignores f v i [] ρ b = i ρ b
  idled_ignores f v i (l ∷ c) ρ b = by (holds d l) (idled_ignores f v i c)
    where
      by : (m : Bool) → Ignores (λ σ. f (idled c σ)) v
          → f (cond m (idled c (put ρ v b)) (idled c (put (put ρ v b) l.variable (idle o l)))) ≡
          f (cond m (idled c ρ) (idled c (put ρ l.variable (idle o l))))
      by true more = more ρ b
      by false more = ignores_put (λ σ. f (idled c σ)) v l.variable (idle o l) more ρ b

  -- nothing of the own quantifier behind a literal that goes is in the constraint
  ignores_behind : (l : Literal) → Goes o p whole l → IgnoresOwn o (after l.variable p) p (joined_at o whole)
  unfolding own_behind
  ignores_behind l g v b q =
      constraint_ignores o whole v
      (some_literal-none (λ k. binds (after l.variable p) k.variable && same_op o (quantifier_of p k.variable))
      (λ k. eqb k.variable v)
      (λ k e. subst (λ (y : ℕ). (binds (after l.variable p) y && same_op o (quantifier_of p y)) ≡ true) (sym (eqb-true k.variable v e)) own)
      whole g.none_behind)
    where
      itself : (k : Op) → same_op k k ≡ true
      itself and = refl
      itself or = refl

      own : (binds (after l.variable p) v && same_op o (quantifier_of p v)) ≡ true
      own = ap (λ (m : Bool). m && same_op o (quantifier_of p v)) b ∙ ap (same_op o) q ∙ itself o

  -- so it may be joined with these values
  join_idled : (m : Assignment → Bool) → Settles o (joined_at o whole) m → (c : Constraint) → some_literal (λ l. not (passes l)) c ≡ false
      → Joined o p m (λ σ. joined_at o whole (idled c σ))
  unfolding idled some_literal
  join_idled m s [] h = record { matrix = m; same_truth = λ ρ. refl; keeps = λ ρ e. e; settled = s }
  join_idled m s (l ∷ c) h =
      let parts = or_parts (not (passes l)) (some_literal (λ l. not (passes l)) c) h in
      by (holds d l) refl (not-false (passes l) parts.0) (join_idled m s c parts.1)
    where
      by : (t : Bool) → holds d l ≡ t → passes l ≡ true → Joined o p m (λ σ. joined_at o whole (idled c σ))
          → Joined o p m (λ σ. joined_at o whole (cond t (idled c σ) (idled c (put σ l.variable (idle o l)))))
      by true e k j = j
      by false e k j =
          let g = pass_goes l k e in
          record {
            matrix = λ σ. join (dual o) (j.matrix σ) (joined_at o whole (idled c (put σ l.variable (idle o l))));
            same_truth = λ ρ.
                bind-joined o (idle o l) j.matrix (λ σ. joined_at o whole (idled c σ)) j.settled p l.variable distinct-p g.bound
                g.other (λ v b q. idled_ignores (joined_at o whole) v (ignores_behind l g v b q) c) ρ ∙ j.same_truth ρ;
            keeps = λ ρ e. first_decides o _ (j.keeps ρ e);
            settled = λ ρ e. second_decides o (j.matrix ρ) e;
          }

  -- a literal of the constraint that has the unit keeps it
  idle_kept : (l k : Literal) → Goes o p whole l → holds whole k ≡ true → (σ : Assignment) → value_at k σ ≡ unit o
      → value_at k (put σ l.variable (idle o l)) ≡ unit o
  unfolding holds
  idle_kept l k g h σ e = by (eqb k.variable l.variable) refl
    where
      opposite : same_literal (negated l) k ≡ true → holds whole (negated l) ≡ true
      opposite s = subst (λ (j : Literal). holds whole j ≡ true) (sym (same_literal_eq (negated l) k s)) h

      by : (t : Bool) → eqb k.variable l.variable ≡ t → beq k.sign (cond t (idle o l) (σ k.variable)) ≡ unit o
      by false n = e
      by true n =
          ⊎_elim (λ s. ap (λ (j : Literal). beq j.sign (idle o l)) (same_literal_eq k l s) ∙ idle_sign o l) (λ s. absurd (false≢true (sym g.no_complement ∙ opposite s)))
          (same_or-opposite k l (eqb-true k.variable l.variable n))

  idled_kept : (k : Literal) → holds whole k ≡ true → (c : Constraint) → some_literal (λ l. not (passes l)) c ≡ false → (σ : Assignment)
      → value_at k σ ≡ unit o → value_at k (idled c σ) ≡ unit o
  unfolding idled some_literal
  idled_kept k h [] e σ u = u
  idled_kept k h (l ∷ c) e σ u =
      let parts = or_parts (not (passes l)) (some_literal (λ l. not (passes l)) c) e in
      by (holds d l) refl (not-false (passes l) parts.0) (idled_kept k h c parts.1)
    where
      by : (t : Bool) → holds d l ≡ t → passes l ≡ true → ((τ : Assignment) → value_at k τ ≡ unit o → value_at k (idled c τ) ≡ unit o)
          → value_at k (cond t (idled c σ) (idled c (put σ l.variable (idle o l)))) ≡ unit o
      by true i q more = more σ u
      by false i q more = more (put σ l.variable (idle o l)) (idle_kept l k (pass_goes l q i) h σ u)

  -- and one that goes gets it
  idled_unit : (k : Literal) → holds whole k ≡ true → holds d k ≡ false → (c : Constraint) → some_literal (λ l. not (passes l)) c ≡ false
      → holds c k ≡ true → (σ : Assignment) → value_at k (idled c σ) ≡ unit o
  unfolding idled some_literal holds
  idled_unit k h n [] e i σ = absurd (false≢true i)
  idled_unit k h n (l ∷ c) e i σ =
      let parts = or_parts (not (passes l)) (some_literal (λ l. not (passes l)) c) e in
      ⊎_elim (λ s. first (same_literal_eq k l s) (idled_kept k h c parts.1)) (λ s. by (holds d l) (idled_unit k h n c parts.1 s))
      (or_cases (same_literal k l) (some_literal (same_literal k) c) i)
    where
      by : (t : Bool) → ((τ : Assignment) → value_at k (idled c τ) ≡ unit o)
          → value_at k (cond t (idled c σ) (idled c (put σ l.variable (idle o l)))) ≡ unit o
      by true more = more σ
      by false more = more (put σ l.variable (idle o l))

      first : k ≡ l → ((τ : Assignment) → value_at k τ ≡ unit o → value_at k (idled c τ) ≡ unit o)
          → value_at k (cond (holds d l) (idled c σ) (idled c (put σ l.variable (idle o l)))) ≡ unit o
      first same more =
          ap (λ (t : Bool). value_at k (cond t (idled c σ) (idled c (put σ l.variable (idle o l))))) (ap (holds d) (sym same) ∙ n) ∙
          more (put σ l.variable (idle o l))
          (subst (λ (j : Literal). value_at j (put σ l.variable (idle o l)) ≡ unit o) (sym same) (idle_unit o l σ))

  -- where d has the unit, the whole constraint has it at these values
  idled_whole : some_literal (λ l. not (passes l)) r ≡ false → (ρ : Assignment) → joined_at o d ρ ≡ unit o
      → joined_at o whole (idled r ρ) ≡ unit o
  unfolding whole
  idled_whole h ρ u = all_held o (r ++ d) (idled r ρ) (λ k e. by k e (holds d k) refl)
    where
      by : (k : Literal) → holds (r ++ d) k ≡ true → (t : Bool) → holds d k ≡ t → value_at k (idled r ρ) ≡ unit o
      by k e true i = idled_kept k e r h ρ (held o d ρ u k i)
      by k e false i = idled_unit k e i r h (held-++ r d k e i) ρ

pub join_derived : (o : Op) (p : Prefix) → distinct p ≡ true → (r d : Constraint) (m : Assignment → Bool) → follows o p r d ≡ true
    → Settles o (joined_at o r) m → Joined o p m (joined_at o d)
unfolding follows passes whole
join_derived o p w r d m h s =
    let passed = not-true (some_literal (λ l. not (holds d l || may_go o p r d l)) r) h in
    let j = join_idled o p w r d m (λ ρ e. s ρ (joined-++ o r d ρ e).0) r passed in
    record {
      matrix = j.matrix;
      same_truth = j.same_truth;
      keeps = j.keeps;
      settled = λ ρ e. j.settled ρ (idled_whole o p w r d passed ρ e);
    }
