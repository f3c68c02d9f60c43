-- The pairs that a list of steps gives cover exactly the side's variables and are in order.
-- Assumes nothing.
use mathlib.Core.Path.{◌≡◌, refl, sym, ◌∙◌, ap, ap₂, subst}
use mathlib.Core.Bool.{Bool, true, false, not, ◌&&◌, ◌||◌, cond, false≢true, true≢false}
use mathlib.Core.List.{List, [], ◌∷◌}
use mathlib.Core.Logic.{⊎_elim}
use Prim.Native.Nat.{ℕ}
use lib.Dec.{eqb}
use borrow.Author.Tests.{eqb-true, eq-eqb, ne_eqb, not-true, not-false}
use Rattle.formula.specs.Tree.{Quantifier, dual, same_op, constant, Prefix, Formula, Literals, of, has, binds, without, distinct, closed}
use Rattle.formula.specs.Expand.{occurs, innermost}
use Rattle.formula.specs.Strategy.{Pair, Pairs, owns, before, function_of, Move, moved, allowed, made, reached, left, strategy, sets, once, reads, beyond, in_order, WellFormed}
use Rattle.formula.proofs.Booleans.{and_parts, or_parts, eqb_comm, by_cases}
use Rattle.formula.proofs.Evaluation.{has_cover, has-constant}
use Rattle.formula.proofs.Closed.{unbound}
use Rattle.formula.proofs.Prefixes.{distinct_parts}
use Rattle.formula.proofs.Strategy.Rows.{owns_other, owns_own, owns-unbound, owns-dual, owns_gone, owns-without, owns-left, owns_none, before-without, innermost-front}
use Rattle.formula.proofs.Strategy.Function.{has-none, has_function}
use Rattle.formula.proofs.Strategy.Moves.{Prenex, Taken, taken_made, constant-or-innermost, pair_of, strategy-induction}

-- reading

-- a variable without a pair reads itself alone
pub reads_unset : (Y : ℕ → Bool) (g : Pairs) (v : ℕ) → sets g v ≡ false → reads Y g v ≡ Y v
unfolding reads sets
reads_unset Y [] v h = refl
reads_unset Y (c ∷ g) v h =
    let parts = or_parts (eqb c.variable v) (sets g v) h in
    ap (λ (m : Bool). cond m (has (λ s u. reads Y g u) c.function) (reads Y g v)) (eqb_comm v c.variable ∙ parts.0) ∙
    reads_unset Y g v parts.1

-- who reads none of a set reads none of a smaller one
reads_fewer : (Y Z : ℕ → Bool) → ((y : ℕ) → Z y ≡ false → Y y ≡ false) → (g : Pairs) (v : ℕ) → reads Z g v ≡ false → reads Y g v ≡ false
unfolding reads
reads_fewer Y Z h [] v k = h v k
reads_fewer Y Z h (c ∷ g) v k = by (eqb v c.variable) k (reads_fewer Y Z h g)
  where
    by : (m : Bool) → cond m (has (λ s u. reads Z g u) c.function) (reads Z g v) ≡ false
        → ((u : ℕ) → reads Z g u ≡ false → reads Y g u ≡ false) → cond m (has (λ s u. reads Y g u) c.function) (reads Y g v) ≡ false
    by true e more = has_cover (λ s u. reads Z g u) (λ s u. reads Z g u) (λ s u. reads Y g u) (λ s u n _. more u n) c.function e e
    by false e more = more v e

-- pairs in order stay so where a row without a pair is put back
in_order_wider : (q : Quantifier) (x : ℕ) (p : Prefix) → distinct p ≡ true → (g : Pairs) → sets g x ≡ false → in_order q (without x p) g ≡ true
    → in_order q p g ≡ true
unfolding in_order sets
in_order_wider q x p d [] h o = refl
in_order_wider q x p d (c ∷ g) h o =
    let v : ℕ = c.variable in
    let unset = or_parts (eqb v x) (sets g x) h in
    let parts = and_parts (not (reads (beyond q (without x p) v) (c ∷ g) v)) (in_order q (without x p) g) o in
    let fewer : (y : ℕ) → beyond q (without x p) v y ≡ false → beyond q p v y ≡ false
    = λ y n. ap not (before-without (dual q) x v y p d unset.0 (not-false (owns (dual q) (before v (without x p)) y) n)) in
    ap₂ ◌&&◌
    (ap not
    (reads_fewer (beyond q p v) (beyond q (without x p) v) fewer (c ∷ g) v (not-true (reads (beyond q (without x p) v) (c ∷ g) v) parts.0)))
    (in_order_wider q x p d g unset.1 parts.1)

-- The variables on which none of the side's depends: all but those of the other side that have a literal.
abbrev pub Unread : Quantifier → Formula → (ℕ → Bool) → Type 0
Unread q f Z = (u : ℕ) → occurs f.matrix u ≡ true → owns (dual q) f.prefix u ≡ true → Z u ≡ false

pub record Ordered (q : Quantifier) (f : Formula) (g : Pairs) : Type 0 where
  pub well_formed : WellFormed q f.prefix g
  pub confined : (Z : ℕ → Bool) → Unread q f Z → (v : ℕ) → owns q f.prefix v ≡ true → reads Z g v ≡ false

-- where a list ends

left_covers : (q : Quantifier) (p : Prefix) → distinct p ≡ true → (v : ℕ) → sets (left q p) v ≡ owns q p v
unfolding left sets
left_covers q [] d v = sym (owns_none q v)
left_covers q (z ∷ p) d v =
    by (same_op q z.quantifier) refl (eqb z.variable v) refl (left_covers q p (distinct_parts z p d).1 v)
  where
    zero-pair : Pair
    zero-pair = record { variable = z.variable; function = constant false }

    by : (m : Bool) → same_op q z.quantifier ≡ m → (n : Bool) → eqb z.variable v ≡ n → sets (left q p) v ≡ owns q p v
        → sets (cond m (zero-pair ∷ left q p) (left q p)) v ≡ owns q (z ∷ p) v
    by true e true k rest = ap (λ (b : Bool). b || sets (left q p) v) k ∙ sym (owns_own q z p v k ∙ e)
    by true e false k rest = ap (λ (b : Bool). b || sets (left q p) v) k ∙ rest ∙ sym (owns_other q z p v k)
    by false e true k rest =
        rest ∙ owns-unbound q p v (ap (binds p) (sym (eqb-true z.variable v k)) ∙ (distinct_parts z p d).0) ∙ sym (owns_own q z p v k ∙ e)
    by false e false k rest = rest ∙ sym (owns_other q z p v k)

left-once : (q : Quantifier) (p : Prefix) → distinct p ≡ true → once (left q p) ≡ true
unfolding left once
left-once q [] d = refl
left-once q (z ∷ p) d = by (same_op q z.quantifier) (left-once q p (distinct_parts z p d).1)
  where
    by : (m : Bool) → once (left q p) ≡ true
        → once (cond m (record { variable = z.variable; function = constant false } ∷ left q p) (left q p)) ≡ true
    by true rest =
        ap₂ ◌&&◌
        (ap not (left_covers q p (distinct_parts z p d).1 z.variable ∙ owns-unbound q p z.variable (distinct_parts z p d).0)) rest
    by false rest = rest

left-reads : (Z : ℕ → Bool) (q : Quantifier) (p : Prefix) (v : ℕ) → sets (left q p) v ≡ true → reads Z (left q p) v ≡ false
unfolding left sets reads
left-reads Z q [] v h = absurd (false≢true h)
left-reads Z q (z ∷ p) v h = by (same_op q z.quantifier) h (left-reads Z q p v)
  where
    zero-pair : Pair
    zero-pair = record { variable = z.variable; function = constant false }

    by : (m : Bool) → sets (cond m (zero-pair ∷ left q p) (left q p)) v ≡ true
        → (sets (left q p) v ≡ true → reads Z (left q p) v ≡ false) → reads Z (cond m (zero-pair ∷ left q p) (left q p)) v ≡ false
    by false k rest = rest k
    by true k rest = at (eqb v z.variable) refl
      where
        at : (n : Bool) → eqb v z.variable ≡ n → cond n (has (λ s u. reads Z (left q p) u) (constant false)) (reads Z (left q p) v) ≡ false
        at true e = has-constant (λ s u. reads Z (left q p) u) false
        at false e = rest (ap (λ (b : Bool). b || sets (left q p) v) (sym (eqb_comm z.variable v ∙ e)) ∙ k)

left_in_order : (q : Quantifier) (p₀ p : Prefix) → in_order q p₀ (left q p) ≡ true
unfolding left in_order reads
left_in_order q p₀ [] = refl
left_in_order q p₀ (z ∷ p) = by (same_op q z.quantifier) (left_in_order q p₀ p)
  where
    zero-pair : Pair
    zero-pair = record { variable = z.variable; function = constant false }

    reads-zero : (Z : ℕ → Bool) → reads Z (zero-pair ∷ left q p) z.variable ≡ false
    reads-zero Z =
        ap (λ (m : Bool). cond m (has (λ s u. reads Z (left q p) u) (constant false)) (reads Z (left q p) z.variable))
        (eq-eqb z.variable z.variable refl) ∙
        has-constant (λ s u. reads Z (left q p) u) false

    by : (m : Bool) → in_order q p₀ (left q p) ≡ true → in_order q p₀ (cond m (zero-pair ∷ left q p) (left q p)) ≡ true
    by true rest = ap₂ ◌&&◌ (ap not (reads-zero (beyond q p₀ z.variable))) rest
    by false rest = rest

left-ordered : (q : Quantifier) (f : Formula) → Prenex f → Ordered q f (left q f.prefix)
left-ordered q f s =
    record {
      well_formed =
          record {
            covers = left_covers q f.prefix s.is_distinct;
            has_once = left-once q f.prefix s.is_distinct;
            is_in_order = left_in_order q f.prefix f.prefix;
          };
      confined = λ Z free v k. left-reads Z q f.prefix v (left_covers q f.prefix s.is_distinct v ∙ k);
    }

-- a variable that occurs is bound
occurs-bound : (f : Formula) → closed f ≡ true → (v : ℕ) → occurs f.matrix v ≡ true → binds f.prefix v ≡ true
unfolding closed
occurs-bound f c v o = by (binds f.prefix v) refl
  where
    by : (m : Bool) → binds f.prefix v ≡ m → m ≡ true
    by true e = refl
    by false e =
        let U : Literals = unbound f.prefix in
        let free : has U f.matrix ≡ false = not-true (has U f.matrix) c in
        let apart : (s : Bool) (u : ℕ) → U s u ≡ false → U s u ≡ false → of v s u ≡ false
        = λ s u k _. ne_eqb u v (λ n. true≢false (ap not (sym e) ∙ ap (λ (w : ℕ). not (binds f.prefix w)) (sym n) ∙ k)) in
        sym (has_cover U U (of v) apart f.matrix free free) ∙ o

-- one step, from the formula that it leads to
module _ (q : Quantifier) (x : ℕ) (f f' : Formula) (g : Pairs) (s : Prenex f) (t : Taken x f f') (below : Ordered q f' g) where
  owns_taken : (r : Quantifier) (v : ℕ) → eqb v x ≡ false → owns r f'.prefix v ≡ owns r f.prefix v
  owns_taken r v h = ap (λ (p : Prefix). owns r p v) t.prefix_is ∙ owns-without r x v f.prefix h

  sets_other : (v : ℕ) → eqb v x ≡ false → sets g v ≡ owns q f.prefix v
  sets_other v h = below.well_formed.covers v ∙ owns_taken q v h

  sets_taken : sets g x ≡ false
  sets_taken =
      below.well_formed.covers x ∙ ap (λ (p : Prefix). owns q p x) t.prefix_is ∙ owns_gone q x f.prefix s.is_distinct

  below-in_order : in_order q f.prefix g ≡ true
  below-in_order =
      in_order_wider q x f.prefix s.is_distinct g sets_taken
      (ap (λ (p : Prefix). in_order q p g) (sym t.prefix_is) ∙ below.well_formed.is_in_order)

  occurs-before : (u : ℕ) → occurs f'.matrix u ≡ true → occurs f.matrix u ≡ true
  occurs-before u h = by (occurs f.matrix u) refl
    where
      by : (m : Bool) → occurs f.matrix u ≡ m → m ≡ true
      by true e = refl
      by false e = sym (t.still_absent u e) ∙ h

  still_unread : (Z : ℕ → Bool) → Unread q f Z → Unread q f' Z
  still_unread Z free u o h =
      free u (occurs-before u o)
      (owns-left (dual q) x u f.prefix s.is_distinct (ap (λ (p : Prefix). owns (dual q) p u) (sym t.prefix_is) ∙ h))

  below_confined : (Z : ℕ → Bool) → Unread q f Z → (v : ℕ) → eqb v x ≡ false → owns q f.prefix v ≡ true → reads Z g v ≡ false
  below_confined Z free v h k = below.confined Z (still_unread Z free) v (owns_taken q v h ∙ k)

  -- x is the other side's
  other_ordered : owns q f.prefix x ≡ false → Ordered q f g
  other_ordered h =
      record {
        well_formed = record { covers = covers; has_once = below.well_formed.has_once; is_in_order = below-in_order };
        confined =
            λ Z free v k. below_confined Z free v (ne_eqb v x (λ e. true≢false (sym k ∙ ap (owns q f.prefix) e ∙ h))) k;
      }
    where
      covers : (v : ℕ) → sets g v ≡ owns q f.prefix v
      covers v =
          by_cases (eqb v x)
          (λ e. subst (λ (w : ℕ). sets g w ≡ owns q f.prefix w) (sym (eqb-true v x e)) (sets_taken ∙ sym h))
          (λ e. sets_other v e)

  -- x is of the side: its function reads what the tree has, but x
  function_occurs : (u : ℕ) → occurs (function_of x f) u ≡ true → (occurs f.matrix u ≡ true) × (eqb u x ≡ false)
  function_occurs u h = (by (occurs f.matrix u) refl, ne_eqb u x (λ e. true≢false (sym h ∙ ap (occurs (function_of x f)) e ∙ own)))
    where
      nothing : Literals
      nothing s v = false

      own : occurs (function_of x f) x ≡ false
      own = has_function x f nothing (of x) (λ s v k _. k) (has-none nothing f.matrix (λ s v k. refl))

      by : (m : Bool) → occurs f.matrix u ≡ m → m ≡ true
      by true e = refl
      by false e = sym (has_function x f (of u) (of u) (λ s v _ k. k) e) ∙ h

  function_confined : (Z : ℕ → Bool) → Unread q f Z → has (λ s u. reads Z g u) (function_of x f) ≡ false
  function_confined Z free = has-none (λ s u. reads Z g u) (function_of x f) (λ s u k. by u (function_occurs u k) (owns q f.prefix u) refl)
    where
      by : (u : ℕ) → (occurs f.matrix u ≡ true) × (eqb u x ≡ false) → (m : Bool) → owns q f.prefix u ≡ m → reads Z g u ≡ false
      by u k true e = below_confined Z free u k.1 e
      by u k false e =
          reads_unset Z g u (sets_other u k.1 ∙ e) ∙
          free u k.0 (owns-dual q f.prefix u (occurs-bound f s.is_closed u k.0) e)

  pair : Pair
  pair = record { variable = x; function = function_of x f }

  own_confined : (Z : ℕ → Bool) → Unread q f Z → (v : ℕ) → owns q f.prefix v ≡ true → reads Z (pair ∷ g) v ≡ false
  unfolding reads pair
  own_confined Z free v k = by (eqb v x) refl
    where
      by : (m : Bool) → eqb v x ≡ m → cond m (has (λ s u. reads Z g u) (function_of x f)) (reads Z g v) ≡ false
      by true e = function_confined Z free
      by false e = below_confined Z free v e k

  own_covers : owns q f.prefix x ≡ true → (v : ℕ) → sets (pair ∷ g) v ≡ owns q f.prefix v
  unfolding sets pair
  own_covers h v = by (eqb x v) refl
    where
      by : (m : Bool) → eqb x v ≡ m → (m || sets g v) ≡ owns q f.prefix v
      by true e = sym (ap (owns q f.prefix) (sym (eqb-true x v e)) ∙ h)
      by false e = sets_other v (eqb_comm v x ∙ e)

  own_once : once (pair ∷ g) ≡ true
  unfolding once pair
  own_once = ap₂ (λ (a b : Bool). not a && b) sets_taken below.well_formed.has_once

  own_ordered : owns q f.prefix x ≡ true → reads (beyond q f.prefix x) (pair ∷ g) x ≡ false → Ordered q f (pair ∷ g)
  unfolding in_order pair
  own_ordered h r =
      record {
        well_formed =
            record { covers = own_covers h; has_once = own_once; is_in_order = ap₂ (λ (a b : Bool). not a && b) r below-in_order };
        confined = own_confined;
      }

  -- a constant reads nothing, and in the innermost block all that is read stands in front
  constant-reads : (b : Bool) → function_of x f ≡ constant b → (Z : ℕ → Bool) → reads Z (pair ∷ g) x ≡ false
  unfolding reads pair
  constant-reads b e Z =
      ap (λ (m : Bool). cond m (has (λ s u. reads Z g u) (function_of x f)) (reads Z g x)) (eq-eqb x x refl) ∙
      ap (has (λ s u. reads Z g u)) e ∙ has-constant (λ s u. reads Z g u) b

  innermost-reads : innermost x f ≡ true → owns q f.prefix x ≡ true → reads (beyond q f.prefix x) (pair ∷ g) x ≡ false
  innermost-reads i h =
      own_confined (beyond q f.prefix x) (λ u o k. ap not (innermost-front q x u f i h k o)) x h

-- theorem 4 for ours: whatever the list, verdict or not
pub strategy-ordered : (q : Quantifier) (ms : List Move) (f : Formula) → Prenex f → Ordered q f (strategy q ms f)
unfolding pair
strategy-ordered q ms f s = strategy-induction q (Ordered q) own other ms f s (left-ordered q (reached ms f))
  where
    own : (m : Move) (f : Formula) (g : Pairs) → Prenex f → allowed m f ≡ true → owns q f.prefix (moved m) ≡ true → Ordered q (made m f) g
        → Ordered q f (pair_of m f ∷ g)
    own m f g s a h below =
        let t = taken_made m f a in
        own_ordered q (moved m) f (made m f) g s t below h
        (⊎_elim (λ c. constant-reads q (moved m) f (made m f) g s t below c.0 c.1 (beyond q f.prefix (moved m)))
        (λ i. innermost-reads q (moved m) f (made m f) g s t below i h) (constant-or-innermost m f a))

    other : (m : Move) (f : Formula) (g : Pairs) → Prenex f → allowed m f ≡ true → owns q f.prefix (moved m) ≡ false
        → Ordered q (made m f) g → Ordered q f g
    other m f g s a h below = other_ordered q (moved m) f (made m f) g s (taken_made m f a) below h
