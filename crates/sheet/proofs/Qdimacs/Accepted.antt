-- What is accepted is a sheet that Check accepts: its rows are within the limits, no number is bound twice, and every literal is bound.
-- Assumes nothing.
use mathlib.Core.Path.{◌≡◌, refl, sym, ◌∙◌, ap, ap₂}
use mathlib.Core.Bool.{Bool, true, false, not, ◌&&◌, ◌||◌, cond, or_assoc, or-false, true≢false, false≢true}
use mathlib.Core.List.{List, [], ◌∷◌, ◌++◌, flatten, flat_map}
use mathlib.Core.Logic.{⊎_elim}
use Prim.Native.Nat.{ℕ, zero, suc, ◌≤◌}
use native.Mathlib.Omega.{arith}
use lib.Dec.{eqb, leb}
use lib.ListN.{length}
use borrow.Author.Tests.{eqb-true, eqb-false, eq-eqb, leb-true, le-leb, not-true}
use Rattle.formula.specs.Tree.{Quantifier, exists, Prefix, Literals, binds, distinct, has, has_any, closed}
use Rattle.formula.proofs.Booleans.{and_parts, or_cases, or_later, or-none, or_swap}
use Rattle.formula.proofs.Outer.Fresh.{unused_many}
use Rattle.sheet.specs.Qdimacs.{all, Token, opener, plain, minus, other, is_plain, is_whole, absolute, is_end, is_opener}
use Rattle.sheet.specs.Qdimacs.{is_quantified, are_clauses, in_order, quantified, bindings, bound, clauses, literals, clause_trees}
use Rattle.sheet.specs.Qdimacs.{matrix_of, named, is_free, free_up_to, numbers_of}
use Rattle.sheet.specs.Format.{Every}
use Rattle.sheet.proofs.Qdimacs.Lists.{all-++, all-leads}
use Rattle.sheet.specs.Texts.{Uncut, up_to}
use Rattle.formula.proofs.Prefixes.{binds-++, distinct-++}

-- numbers

abbrev pub positive : Token → Bool
positive t = leb 1 (absolute t)

-- a whole number that ends no list
whole_positive : (t : Token) → is_whole t ≡ true → not (is_end t) ≡ true → positive t ≡ true
whole_positive (opener q) h k = absurd (false≢true h)
whole_positive (plain n) h k = le-leb 1 n (above n (eqb-false n 0 (not-true (eqb n 0) k)))
  where
    above : (m : ℕ) → (m ≡ 0 → ⊥) → 1 ≤ m
    above zero f = absurd (f refl)
    above (suc m) f = omega arith
whole_positive (minus n) h k = le-leb 1 (suc n) (omega arith)
whole_positive other h k = absurd (false≢true h)

plain_whole : (t : Token) → is_plain t ≡ true → is_whole t ≡ true
plain_whole (opener q) h = h
plain_whole (plain n) h = refl
plain_whole (minus n) h = refl
plain_whole other h = h

whole_no_opener : (t : Token) → is_whole t ≡ true → is_opener t ≡ false
whole_no_opener (opener q) h = absurd (false≢true h)
whole_no_opener (plain n) h = refl
whole_no_opener (minus n) h = refl
whole_no_opener other h = refl

-- a clause opens no quantifier line
pub whole_unquantified : (l : List Token) → all is_whole l ≡ true → is_quantified l ≡ false
unfolding is_quantified all
whole_unquantified [] h = refl
whole_unquantified (t ∷ l) h = whole_no_opener t (and_parts (is_whole t) (all is_whole l) h).0

all_positive : (l : List Token) → all is_whole l ≡ true → Uncut is_end l → all positive l ≡ true
unfolding all
all_positive [] h k = refl
all_positive (t ∷ l) h k =
    let a = and_parts (is_whole t) (all is_whole l) h in
    let b = and_parts (not (is_end t)) (all (λ u. not (is_end u)) l) k in
    ap₂ ◌&&◌ (whole_positive t a.0 b.0) (all_positive l a.1 b.1)

clauses_positive : (ls : List (List Token)) → are_clauses ls ≡ true → Every (Uncut is_end) ls → all positive (flat_map numbers_of ls) ≡ true
unfolding are_clauses all flat_map numbers_of
clauses_positive [] h k = refl
clauses_positive (l ∷ ls) h k =
    let a = and_parts (all is_whole l) (are_clauses ls) h in
    rw (whole_unquantified l a.0, all-++ positive l (flat_map numbers_of ls))
    (ap₂ ◌&&◌ (all_positive l a.0 k.0) (clauses_positive ls a.1 k.1))

-- in lists that are in order every number is one of a variable
pub in_order_positive : (ls : List (List Token)) → in_order ls ≡ true → Every (Uncut is_end) ls → all positive (flat_map numbers_of ls) ≡ true
unfolding in_order all flat_map numbers_of is_quantified
in_order_positive [] h k = refl
in_order_positive ([] ∷ ls) h k = clauses_positive ([] ∷ ls) h k
in_order_positive ((opener q ∷ l) ∷ ls) h k =
    let a = and_parts (all is_plain l) (in_order ls) h in
    all-++ positive l (flat_map numbers_of ls) ∙
    ap₂ ◌&&◌ (all_positive l (all-leads is_plain is_whole plain_whole l a.0) k.0) (in_order_positive ls a.1 k.1)
in_order_positive ((plain n ∷ l) ∷ ls) h k = clauses_positive ((plain n ∷ l) ∷ ls) h k
in_order_positive ((minus n ∷ l) ∷ ls) h k = clauses_positive ((minus n ∷ l) ∷ ls) h k
in_order_positive ((other ∷ l) ∷ ls) h k = clauses_positive ((other ∷ l) ∷ ls) h k

-- what is named

pub named-++ : (x : ℕ) (k l : List Token) → named x (k ++ l) ≡ (named x k || named x l)
unfolding named
named-++ x [] l = refl
named-++ x (t ∷ k) l = ap (λ (b : Bool). eqb (absolute t) x || b) (named-++ x k l) ∙ sym (or_assoc (eqb (absolute t) x) (named x k) (named x l))

pub binds-quantified : (x : ℕ) (q : Quantifier) (l : List Token) → binds (quantified q l) x ≡ named x l
unfolding binds quantified named
binds-quantified x q [] = refl
binds-quantified x q (t ∷ l) = ap (λ (b : Bool). eqb (absolute t) x || b) (binds-quantified x q l)

named_clause : (x : ℕ) (c k l : List Token) (b : Bool) → named x k ≡ (b || named x l) → named x (c ++ k) ≡ (b || named x (c ++ l))
named_clause x c k l b h = rw (named-++ x c k, named-++ x c l, h) (or_swap (named x c) b (named x l))

-- a variable stands in a quantifier line or in a clause
pub named-lists : (x : ℕ) (ls : List (List Token)) → named x (flat_map numbers_of ls) ≡ (binds (bound ls) x || named x (flatten (clauses ls)))
unfolding named bound flat_map clauses flatten numbers_of bindings is_quantified binds
named-lists x [] = refl
named-lists x ([] ∷ ls) = named-lists x ls
named-lists x ((opener q ∷ l) ∷ ls) =
    named-++ x l (flat_map numbers_of ls) ∙
    rw (binds-++ (quantified q l) (flat_map bindings ls) x, binds-quantified x q l, or_assoc) (ap (λ (b : Bool). named x l || b) (named-lists x ls))
named-lists x ((plain n ∷ l) ∷ ls) = named_clause x (plain n ∷ l) _ _ (binds (flat_map bindings ls) x) (named-lists x ls)
named-lists x ((minus n ∷ l) ∷ ls) = named_clause x (minus n ∷ l) _ _ (binds (flat_map bindings ls) x) (named-lists x ls)
named-lists x ((other ∷ l) ∷ ls) = named_clause x (other ∷ l) _ _ (binds (flat_map bindings ls) x) (named-lists x ls)

named_range : (n x : ℕ) (l : List Token) → all (λ t. positive t && up_to n t) l ≡ true → named x l ≡ true → (1 ≤ x) × (x ≤ n)
unfolding named all
named_range n x [] h k = absurd (false≢true k)
named_range n x (t ∷ l) h k =
    let a = and_parts (positive t && up_to n t) (all (λ u. positive u && up_to n u) l) h in
    let b = and_parts (positive t) (up_to n t) a.0 in
    ⊎_elim
    (λ e. let r = eqb-true (absolute t) x e in
    let low = leb-true 1 (absolute t) b.0 in
    let high = leb-true (absolute t) n b.1 in
    (omega arith, omega arith))
    (λ e. named_range n x l a.1 e) (or_cases (eqb (absolute t) x) (named x l) k)

-- rows of free variables

module _ (ls : List (List Token)) where
  one_free : ℕ → Prefix
  one_free x = cond (is_free ls x) (record { quantifier = exists; variable = x } ∷ []) []

  binds_one : (x y : ℕ) → binds (one_free x) y ≡ (is_free ls x && eqb x y)
  unfolding one_free binds
  binds_one x y = by (is_free ls x)
    where
      by : (m : Bool) → binds (cond m (record { quantifier = exists; variable = x } ∷ []) []) y ≡ (m && eqb x y)
      by true = or-false (eqb x y)
      by false = refl

  distinct_one : (x : ℕ) → distinct (one_free x) ≡ true
  unfolding one_free distinct binds
  distinct_one x = by (is_free ls x)
    where
      by : (m : Bool) → distinct (cond m (record { quantifier = exists; variable = x } ∷ []) []) ≡ true
      by true = refl
      by false = refl

  -- exactly the free variables up to a number have a row
  pub free_bound : (n x : ℕ) → binds (free_up_to n ls) x ≡ true → (1 ≤ x) × (x ≤ n) × (is_free ls x ≡ true)
  unfolding free_up_to binds one_free
  free_bound zero x h = absurd (false≢true h)
  free_bound (suc n) x h =
      ⊎_elim (λ e. let r = free_bound n x e in (r.0, omega (arith, r.1), r.2))
      (λ e. let b = and_parts (is_free ls (suc n)) (eqb (suc n) x) (sym (binds_one (suc n) x) ∙ e) in
      let same = eqb-true (suc n) x b.1 in
      (omega arith, omega arith, ap (is_free ls) (sym same) ∙ b.0))
      (or_cases (binds (free_up_to n ls) x) (binds (one_free (suc n)) x) (sym (binds-++ (free_up_to n ls) (one_free (suc n)) x) ∙ h))

  pub bound-free : (n x : ℕ) → 1 ≤ x → x ≤ n → is_free ls x ≡ true → binds (free_up_to n ls) x ≡ true
  unfolding free_up_to binds one_free
  bound-free zero x low high h = absurd (omega arith)
  bound-free (suc n) x low high h = binds-++ (free_up_to n ls) (one_free (suc n)) x ∙ by (eqb (suc n) x) refl (bound-free n x low)
    where
      by : (m : Bool) → eqb (suc n) x ≡ m → (x ≤ n → is_free ls x ≡ true → binds (free_up_to n ls) x ≡ true)
          → (binds (free_up_to n ls) x || binds (one_free (suc n)) x) ≡ true
      by true e ih =
          or_later (binds (free_up_to n ls) x) (binds_one (suc n) x ∙ ap₂ ◌&&◌ (ap (is_free ls) (eqb-true (suc n) x e) ∙ h) e)
      by false e ih =
          let r = eqb-false (suc n) x e in
          ap (λ (b : Bool). b || binds (one_free (suc n)) x) (ih (omega arith) h)

  pub free-distinct : (n : ℕ) → distinct (free_up_to n ls) ≡ true
  unfolding free_up_to distinct one_free
  free-distinct zero = refl
  free-distinct (suc n) =
      distinct-++ (free_up_to n ls) (one_free (suc n)) (free-distinct n) (distinct_one (suc n))
      (λ x h. by x h (binds (free_up_to n ls) x) refl)
    where
      by : (x : ℕ) → binds (one_free (suc n)) x ≡ true → (m : Bool) → binds (free_up_to n ls) x ≡ m → m ≡ false
      by x h true e =
          let b = and_parts (is_free ls (suc n)) (eqb (suc n) x) (sym (binds_one (suc n) x) ∙ h) in
          let same = eqb-true (suc n) x b.1 in
          let low = free_bound n x e in
          absurd (omega (arith, low.1))
      by x h false e = refl

-- literals

has-literals : (L : Literals) (l : List Token) → ((s : Bool) (x : ℕ) → named x l ≡ true → L s x ≡ false) → has_any L (literals l) ≡ false
unfolding has literals named
has-literals L [] f = refl
has-literals L (t ∷ l) f =
    or-none (f (is_plain t) (absolute t) (ap (λ (b : Bool). b || named (absolute t) l) (eq-eqb (absolute t) (absolute t) refl)))
    (has-literals L l (λ s x h. f s x (or_later (eqb (absolute t) x) h)))

has-clauses : (L : Literals) (cs : List (List Token)) → ((s : Bool) (x : ℕ) → named x (flatten cs) ≡ true → L s x ≡ false)
    → has_any L (clause_trees cs) ≡ false
unfolding has clause_trees flatten
has-clauses L [] f = refl
has-clauses L (c ∷ cs) f =
    or-none (has-literals L c (λ s x h. f s x (named-++ x c (flatten cs) ∙ ap (λ (b : Bool). b || named x (flatten cs)) h)))
    (has-clauses L cs (λ s x h. f s x (named-++ x c (flatten cs) ∙ or_later (named x c) h)))

-- lists whose numbers are 1 to n
module _ (n : ℕ) (ls : List (List Token)) (h : all (λ t. positive t && up_to n t) (flat_map numbers_of ls) ≡ true) where
  abbrev pub whole_prefix : Prefix
  whole_prefix = free_up_to n ls ++ bound ls

  bound_range : (x : ℕ) → binds (bound ls) x ≡ true → (1 ≤ x) × (x ≤ n)
  bound_range x k =
      named_range n x (flat_map numbers_of ls) h (named-lists x ls ∙ ap (λ (b : Bool). b || named x (flatten (clauses ls))) k)

  pub prefix_range : (x : ℕ) → binds whole_prefix x ≡ true → (1 ≤ x) × (x ≤ n)
  prefix_range x k =
      ⊎_elim (λ e. let r = free_bound ls n x e in (r.0, r.1)) (λ e. bound_range x e)
      (or_cases (binds (free_up_to n ls) x) (binds (bound ls) x) (sym (binds-++ (free_up_to n ls) (bound ls) x) ∙ k))

  pub prefix_distinct : distinct (bound ls) ≡ true → distinct whole_prefix ≡ true
  unfolding is_free
  prefix_distinct d = distinct-++ (free_up_to n ls) (bound ls) (free-distinct ls n) d (λ x k. by x k (binds (free_up_to n ls) x) refl)
    where
      by : (x : ℕ) → binds (bound ls) x ≡ true → (m : Bool) → binds (free_up_to n ls) x ≡ m → m ≡ false
      by x k true e =
          let free = and_parts (named x (flatten (clauses ls))) (not (binds (bound ls) x)) (free_bound ls n x e).2 in
          absurd (true≢false (sym k ∙ not-true (binds (bound ls) x) free.1))
      by x k false e = refl

  pub prefix_few : distinct (bound ls) ≡ true → length whole_prefix ≤ n
  prefix_few d = omega (arith, unused_many n whole_prefix (prefix_distinct d) prefix_range)

  -- a variable of a clause is in a quantifier line, or free
  pub clause_bound : (x : ℕ) → named x (flatten (clauses ls)) ≡ true → binds whole_prefix x ≡ true
  unfolding is_free
  clause_bound x k =
      let r = named_range n x (flat_map numbers_of ls) h (named-lists x ls ∙ or_later (binds (bound ls) x) k) in
      binds-++ (free_up_to n ls) (bound ls) x ∙ by (binds (bound ls) x) refl r.0 r.1
    where
      by : (m : Bool) → binds (bound ls) x ≡ m → 1 ≤ x → x ≤ n → (binds (free_up_to n ls) x || m) ≡ true
      by true e low high = or_later (binds (free_up_to n ls) x) refl
      by false e low high =
          ap (λ (b : Bool). b || false) (bound-free ls n x low high (ap₂ ◌&&◌ k (ap not e)))

  pub said-closed : closed (record { prefix = whole_prefix; matrix = matrix_of ls }) ≡ true
  unfolding closed matrix_of has
  said-closed = ap not (has-clauses (λ s x. not (binds whole_prefix x)) (clauses ls) (λ s x k. ap not (clause_bound x k)))
