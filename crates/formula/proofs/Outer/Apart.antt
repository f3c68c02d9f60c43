-- The subtree that a connected set of variables chooses holds no literal of a variable that none of them touches: at an operator with
-- several relevant children, a child that held one would split the set in two sides that nothing links.
-- Assumes nothing.
use mathlib.Core.Path.{◌≡◌, refl, sym, ◌∙◌, ap, ap₂}
use mathlib.Core.Bool.{Bool, true, false, not, ◌&&◌, ◌||◌, cond, false≢true, true≢false}
use mathlib.Core.Logic.{⊎_elim}
use Prim.Native.Nat.{ℕ, zero, suc, ◌≤◌}
use native.Mathlib.Omega.{arith}
use lib.Dec.{eqb}
use borrow.Author.Tests.{eqb-false, eq-eqb, ne_eqb, not-true}
use Rattle.formula.specs.Tree.{Op, Tree, lit, node, Forest, ∅, ◌▸◌, ◌⧺◌, Literals, of, has, has_any, count, keep}
use Rattle.formula.specs.Expand.{relevant, one_relevant}
use Rattle.formula.specs.Outer.{within, within_below, touches}
use Rattle.formula.proofs.Booleans.{and_parts, or_parts, or_cases, or_later, or_swap}
use Rattle.formula.proofs.Expand.{keep-none, one_first, one_later, one_counts}

-- the literals of a set of variables
abbrev pub members : (ℕ → Bool) → Literals
members S s v = S v

-- what has a literal of the set has one of a member
mutual
  unfolding has

  pub has-member : (S : ℕ → Bool) (t : Tree) → has (members S) t ≡ true → (y : ℕ) × (S y ≡ true) × (has (of y) t ≡ true)
  has-member S (lit s v) h = (v, h, eq-eqb v v refl)
  has-member S (node o ts) h = has_any-member S ts h

  pub has_any-member : (S : ℕ → Bool) (ts : Forest) → has_any (members S) ts ≡ true → (y : ℕ) × (S y ≡ true) × (has_any (of y) ts ≡ true)
  has_any-member S ∅ h = absurd (false≢true h)
  has_any-member S (t ▸ ts) h = by (has (members S) t) refl h (λ k. has-member S t k) (λ k. has_any-member S ts k)
    where
      by : (m : Bool) → has (members S) t ≡ m → (m || has_any (members S) ts) ≡ true
          → (has (members S) t ≡ true → (y : ℕ) × (S y ≡ true) × (has (of y) t ≡ true))
          → (has_any (members S) ts ≡ true → (y : ℕ) × (S y ≡ true) × (has_any (of y) ts ≡ true))
          → (y : ℕ) × (S y ≡ true) × ((has (of y) t || has_any (of y) ts) ≡ true)
      by true e k here later = let m = here e in (m.0, m.1, ap (λ (b : Bool). b || has_any (of m.0) ts) m.2)
      by false e k here later = let m = later k in (m.0, m.1, or_later (has (of m.0) t) m.2)

-- a member's literals are the set's
mutual
  unfolding has

  pub has_of : (S : ℕ → Bool) (y : ℕ) → S y ≡ true → (t : Tree) → has (members S) t ≡ false → has (of y) t ≡ false
  has_of S y m (lit s v) h = ne_eqb v y (λ e. true≢false (sym m ∙ ap S (sym e) ∙ h))
  has_of S y m (node o ts) h = has_any-of S y m ts h

  pub has_any-of : (S : ℕ → Bool) (y : ℕ) → S y ≡ true → (ts : Forest) → has_any (members S) ts ≡ false → has_any (of y) ts ≡ false
  has_any-of S y m ∅ h = refl
  has_any-of S y m (t ▸ ts) h =
      let parts = or_parts (has (members S) t) (has_any (members S) ts) h in
      ap₂ ◌||◌ (has_of S y m t parts.0) (has_any-of S y m ts parts.1)

-- a child between others

again : (us : Forest) (c : Tree) (bs : Forest) → ((us ⧺ (c ▸ ∅)) ⧺ bs) ≡ (us ⧺ (c ▸ bs))
unfolding ◌⧺◌
again ∅ c bs = refl
again (a ▸ us) c bs = ap (λ (vs : Forest). a ▸ vs) (again us c bs)

has_between : (A : Literals) (us : Forest) (c : Tree) (bs : Forest) → has_any A (us ⧺ (c ▸ bs)) ≡ (has A c || has_any A (us ⧺ bs))
unfolding has ◌⧺◌
has_between A ∅ c bs = refl
has_between A (a ▸ us) c bs = ap (λ (m : Bool). has A a || m) (has_between A us c bs) ∙ or_swap (has A a) (has A c) (has_any A (us ⧺ bs))

count_between : (P : Tree → Bool) (us : Forest) (c : Tree) (bs : Forest) → P c ≡ true
    → count (keep P (us ⧺ (c ▸ bs))) ≡ suc (count (keep P (us ⧺ bs)))
unfolding keep count ◌⧺◌
count_between P ∅ c bs h = ap (λ (m : Bool). count (cond m (c ▸ keep P bs) (keep P bs))) h
count_between P (a ▸ us) c bs h = by (P a) (count_between P us c bs h)
  where
    by : (m : Bool) → count (keep P (us ⧺ (c ▸ bs))) ≡ suc (count (keep P (us ⧺ bs)))
        → count (cond m (a ▸ keep P (us ⧺ (c ▸ bs))) (keep P (us ⧺ (c ▸ bs)))) ≡
        suc (count (cond m (a ▸ keep P (us ⧺ bs)) (keep P (us ⧺ bs))))
    by true e = ap suc e
    by false e = e

keep_between : (P : Tree → Bool) (us : Forest) (c : Tree) (bs : Forest) → P c ≡ false → keep P (us ⧺ (c ▸ bs)) ≡ keep P (us ⧺ bs)
unfolding keep ◌⧺◌
keep_between P ∅ c bs h = ap (λ (m : Bool). cond m (c ▸ keep P bs) (keep P bs)) h
keep_between P (a ▸ us) c bs h = ap (λ (us : Forest). cond (P a) (a ▸ us) us) (keep_between P us c bs h)

has-keep_between : (M : Literals) (P : Tree → Bool) (us : Forest) (c : Tree) (bs : Forest) → P c ≡ true → has M c ≡ true
    → has_any M (keep P (us ⧺ (c ▸ bs))) ≡ true
unfolding has keep ◌⧺◌
has-keep_between M P ∅ c bs h k =
    ap (λ (m : Bool). has_any M (cond m (c ▸ keep P bs) (keep P bs))) h ∙ ap (λ (m : Bool). m || has_any M (keep P bs)) k
has-keep_between M P (a ▸ us) c bs h k = by (P a) (has-keep_between M P us c bs h k)
  where
    by : (m : Bool) → has_any M (keep P (us ⧺ (c ▸ bs))) ≡ true
        → has_any M (cond m (a ▸ keep P (us ⧺ (c ▸ bs))) (keep P (us ⧺ (c ▸ bs)))) ≡ true
    by true e = or_later (has M a) e
    by false e = e

has-keep : (M : Literals) (P : Tree → Bool) (ts : Forest) → has_any M (keep P ts) ≡ true → has_any M ts ≡ true
unfolding has keep
has-keep M P ∅ h = h
has-keep M P (t ▸ ts) h = by (P t) h (has-keep M P ts)
  where
    by : (m : Bool) → has_any M (cond m (t ▸ keep P ts) (keep P ts)) ≡ true → (has_any M (keep P ts) ≡ true → has_any M ts ≡ true)
        → (has M t || has_any M ts) ≡ true
    by true k rest =
        ⊎_elim (λ e. ap (λ (b : Bool). b || has_any M ts) e) (λ e. or_later (has M t) (rest e))
        (or_cases (has M t) (has_any M (keep P ts)) k)
    by false k rest = or_later (has M t) (rest k)

-- with no literal chosen, no child is relevant
count_none : (A : Literals) (ts : Forest) → has_any A ts ≡ false → count (keep (has A) ts) ≡ 0
unfolding has keep count
count_none A ∅ h = refl
count_none A (t ▸ ts) h =
    let parts = or_parts (has A t) (has_any A ts) h in
    ap (λ (m : Bool). count (cond m (t ▸ keep (has A) ts) (keep (has A) ts))) parts.0 ∙ count_none A ts parts.1

has-relevant : (A M : Literals) (ts : Forest) → has_any M (relevant A ts) ≡ true → has_any M ts ≡ true
unfolding relevant
has-relevant A M ts h = has-keep M (has A) ts h

-- the relevant subtree's literals are the tree's
mutual
  unfolding within has

  within_has : (A M : Literals) (t : Tree) → within A M t ≡ true → has M t ≡ true
  within_has A M (lit s v) h = h
  within_has A M (node o ts) h = by (one_relevant A ts) h (λ k. within_below-has A M ts k)
    where
      by : (m : Bool) → cond m (within_below A M ts) (has_any M (relevant A ts)) ≡ true
          → (within_below A M ts ≡ true → has_any M ts ≡ true) → has_any M ts ≡ true
      by true k below = below k
      by false k below = has-relevant A M ts k

  within_below-has : (A M : Literals) (ts : Forest) → within_below A M ts ≡ true → has_any M ts ≡ true
  within_below-has A M ∅ h = absurd (false≢true h)
  within_below-has A M (t ▸ ts) h = by (has A t) h (λ k. within_has A M t k) (λ k. within_below-has A M ts k)
    where
      by : (m : Bool) → cond m (within A M t) (within_below A M ts) ≡ true → (within A M t ≡ true → has M t ≡ true)
          → (within_below A M ts ≡ true → has_any M ts ≡ true) → (has M t || has_any M ts) ≡ true
      by true k here later = ap (λ (b : Bool). b || has_any M ts) (here k)
      by false k here later = or_later (has M t) (later k)

-- a literal of a set within it is one of a member
mutual
  unfolding within

  pub within-member : (A : Literals) (S : ℕ → Bool) (t : Tree) → within A (members S) t ≡ true
      → (y : ℕ) × (S y ≡ true) × (within A (of y) t ≡ true)
  within-member A S (lit s v) h = (v, h, eq-eqb v v refl)
  within-member A S (node o ts) h = by (one_relevant A ts) h (λ k. within_below-member A S ts k)
    where
      by : (m : Bool) → cond m (within_below A (members S) ts) (has_any (members S) (relevant A ts)) ≡ true
          → (within_below A (members S) ts ≡ true → (y : ℕ) × (S y ≡ true) × (within_below A (of y) ts ≡ true))
          → (y : ℕ) × (S y ≡ true) × (cond m (within_below A (of y) ts) (has_any (of y) (relevant A ts)) ≡ true)
      by true k below = below k
      by false k below = has_any-member S (relevant A ts) k

  within_below-member : (A : Literals) (S : ℕ → Bool) (ts : Forest) → within_below A (members S) ts ≡ true
      → (y : ℕ) × (S y ≡ true) × (within_below A (of y) ts ≡ true)
  within_below-member A S ∅ h = absurd (false≢true h)
  within_below-member A S (t ▸ ts) h = by (has A t) h (λ k. within-member A S t k) (λ k. within_below-member A S ts k)
    where
      by : (m : Bool) → cond m (within A (members S) t) (within_below A (members S) ts) ≡ true
          → (within A (members S) t ≡ true → (y : ℕ) × (S y ≡ true) × (within A (of y) t ≡ true))
          → (within_below A (members S) ts ≡ true → (y : ℕ) × (S y ≡ true) × (within_below A (of y) ts ≡ true))
          → (y : ℕ) × (S y ≡ true) × (cond m (within A (of y) t) (within_below A (of y) ts) ≡ true)
      by true k here later = here k
      by false k here later = later k

within_skip : (A M : Literals) (us : Forest) (c : Tree) (bs : Forest) → has A c ≡ false
    → within_below A M (us ⧺ (c ▸ bs)) ≡ within_below A M (us ⧺ bs)
unfolding within ◌⧺◌
within_skip A M ∅ c bs h = ap (λ (m : Bool). cond m (within A M c) (within_below A M bs)) h
within_skip A M (a ▸ us) c bs h = ap (λ (b : Bool). cond (has A a) (within A M a) b) (within_skip A M us c bs h)

within-alone : (A M : Literals) (us : Forest) (c : Tree) (bs : Forest) → has A c ≡ true → has_any A (us ⧺ bs) ≡ false
    → within_below A M (us ⧺ (c ▸ bs)) ≡ within A M c
unfolding within has ◌⧺◌
within-alone A M ∅ c bs h n = ap (λ (m : Bool). cond m (within A M c) (within_below A M bs)) h
within-alone A M (a ▸ us) c bs h n =
    let parts = or_parts (has A a) (has_any A (us ⧺ bs)) n in
    ap (λ (m : Bool). cond m (within A M a) (within_below A M (us ⧺ (c ▸ bs)))) parts.0 ∙ within-alone A M us c bs h parts.1

-- A set S of variables with x in it, and z outside. `link` is "touches" in the whole tree: no member touches z, and what x has and touching
-- passes on within the set, all members have.
pub record Linked (S : ℕ → Bool) (x z : ℕ) (link : ℕ → ℕ → Bool) : Type 0 where
  pub outside : S z ≡ false
  pub untouched : (y : ℕ) → S y ≡ true → link y z ≡ false
  pub connected : (P : ℕ → Bool) → P x ≡ true
      → ((y w : ℕ) → S y ≡ true → S w ≡ true → P y ≡ true → link y w ≡ true → P w ≡ true) → (y : ℕ) → S y ≡ true → P y ≡ true

module _ (S : ℕ → Bool) (x z : ℕ) (link : ℕ → ℕ → Bool) (linked : Linked S x z link) where
  -- a child between others, under an operator with several relevant children
  module _ (o : Op) (us : Forest) (c : Tree) (bs : Forest)
      (here : (y w : ℕ) → S y ≡ true → link y w ≡ touches (node o (us ⧺ (c ▸ bs))) y w) where
    abbrev ts : Forest
    ts = us ⧺ (c ▸ bs)

    abbrev others : Forest
    others = us ⧺ bs

    -- a member with a literal in the child and one outside touches all that the child holds
    spread : (y : ℕ) → has (of y) c ≡ true → has_any (of y) others ≡ true → has (of z) c ≡ true → touches (node o ts) y z ≡ true
    unfolding touches within has relevant one_relevant
    spread y h k l =
        by (count (keep (has (of y)) others)) refl
      where
        by : (n : ℕ) → count (keep (has (of y)) others) ≡ n
            → (has_any (of y) ts && cond (eqb (count (keep (has (of y)) ts)) 1) (within_below (of y) (of z) ts) (has_any (of z) (keep (has (of y)) ts))) ≡ true
        by n e =
            let some : n ≡ 0 → ⊥ = λ m. true≢false (sym k ∙ keep-none (of y) others (e ∙ m)) in
            let more = count_between (has (of y)) us c bs h in
            let several : eqb (count (keep (has (of y)) ts)) 1 ≡ false = ne_eqb (count (keep (has (of y)) ts)) 1 (λ m. some (omega arith)) in
            ap₂ ◌&&◌ (has_between (of y) us c bs ∙ ap (λ (b : Bool). b || has_any (of y) others) h)
            (ap (λ (b : Bool). cond b (within_below (of y) (of z) ts) (has_any (of z) (keep (has (of y)) ts))) several ∙
            has-keep_between (of z) (has (of y)) us c bs h l)

    module _ (l : has (of z) c ≡ true) where
      alone : (y : ℕ) → S y ≡ true → has (of y) c ≡ true → has_any (of y) others ≡ false
      alone y m h = by (has_any (of y) others) refl
        where
          by : (n : Bool) → has_any (of y) others ≡ n → n ≡ false
          by true e = absurd (true≢false (sym (spread y h e l) ∙ sym (here y z m) ∙ linked.untouched y m))
          by false e = refl

      -- touching stays inside the child, and outside it
      inside : (y w : ℕ) → S y ≡ true → has (of y) c ≡ true → link y w ≡ true → has (of w) c ≡ true
      unfolding touches within one_relevant relevant
      inside y w m h k =
          let parts = and_parts (has (of y) (node o ts)) (within (of y) (of w) (node o ts)) (sym (here y w m) ∙ k) in
          let none = count_none (of y) others (alone y m h) in
          let more = count_between (has (of y)) us c bs h in
          let one : eqb (count (keep (has (of y)) ts)) 1 ≡ true = eq-eqb (count (keep (has (of y)) ts)) 1 (omega arith) in
          within_has (of y) (of w) c
          (sym (within-alone (of y) (of w) us c bs h (alone y m h)) ∙
          sym (ap (λ (b : Bool). cond b (within_below (of y) (of w) ts) (has_any (of w) (relevant (of y) ts))) one) ∙ parts.1)

      outside-it : (y w : ℕ) → S y ≡ true → S w ≡ true → has (of y) c ≡ false → link y w ≡ true → has (of w) c ≡ false
      unfolding touches within relevant
      outside-it y w m n h k = by (has (of w) c) refl
        where
          found : (b : Bool) → cond b (within_below (of y) (of w) ts) (has_any (of w) (keep (has (of y)) ts)) ≡ true
              → has_any (of w) others ≡ true
          found true e = within_below-has (of y) (of w) others (sym (within_skip (of y) (of w) us c bs h) ∙ e)
          found false e =
              has-keep (of w) (has (of y)) others (ap (has_any (of w)) (sym (keep_between (has (of y)) us c bs h)) ∙ e)

          by : (b : Bool) → has (of w) c ≡ b → b ≡ false
          by true e =
              let parts = and_parts (has (of y) (node o ts)) (within (of y) (of w) (node o ts)) (sym (here y w m) ∙ k) in
              absurd (true≢false (sym (found (one_relevant (of y) ts) parts.1) ∙ alone w n e))
          by false e = refl

      -- so the set would lie on one side
      one_side : has (members S) c ≡ true → has_any (members S) others ≡ true → ⊥
      one_side h k = by (has (of x) c) refl
        where
          by : (b : Bool) → has (of x) c ≡ b → ⊥
          by true e =
              let all = linked.connected (λ y. has (of y) c) e (λ y w m n p q. inside y w m p q) in
              let one = has_any-member S others k in
              true≢false (sym one.2 ∙ alone one.0 one.1 (all one.0 one.1))
          by false e =
              let all = linked.connected (λ y. not (has (of y) c)) (ap not e)
              (λ y w m n p q. ap not (outside-it y w m n (not-true (has (of y) c) p) q)) in
              let one = has-member S c h in
              true≢false (sym one.2 ∙ not-true (has (of one.0) c) (all one.0 one.1))

    child-apart : one_relevant (members S) ts ≡ false → has (members S) c ≡ true → has (of z) c ≡ false
    unfolding one_relevant relevant
    child-apart n h = by (has (of z) c) refl
      where
        several : has_any (members S) others ≡ false → ⊥
        several e =
            let none = count_none (members S) others e in
            let more = count_between (has (members S)) us c bs h in
            eqb-false (count (keep (has (members S)) ts)) 1 n (omega arith)

        other : (b : Bool) → has_any (members S) others ≡ b → b ≡ true
        other true e = refl
        other false e = absurd (several e)

        by : (b : Bool) → has (of z) c ≡ b → b ≡ false
        by true e = absurd (one_side e h (other (has_any (members S) others) refl))
        by false e = refl

  -- every relevant child of such an operator
  children_apart : (o : Op) (us bs : Forest) → ((y w : ℕ) → S y ≡ true → link y w ≡ touches (node o (us ⧺ bs)) y w)
      → one_relevant (members S) (us ⧺ bs) ≡ false → has_any (of z) (keep (has (members S)) bs) ≡ false
  unfolding has keep ◌⧺◌
  children_apart o us ∅ here n = refl
  children_apart o us (c ▸ bs) here n =
      by (has (members S) c) (λ h. child-apart o us c bs here n h)
      (children_apart o (us ⧺ (c ▸ ∅)) bs (λ y w m. here y w m ∙ ap (λ (vs : Forest). touches (node o vs) y w) (sym (again us c bs)))
      (ap (one_relevant (members S)) (again us c bs) ∙ n))
    where
      by : (b : Bool) → (b ≡ true → has (of z) c ≡ false) → has_any (of z) (keep (has (members S)) bs) ≡ false
          → has_any (of z) (cond b (c ▸ keep (has (members S)) bs) (keep (has (members S)) bs)) ≡ false
      by true f rest = ap₂ ◌||◌ (f refl) rest
      by false f rest = rest

  children-relevant : (o : Op) (ts : Forest) → ((y w : ℕ) → S y ≡ true → link y w ≡ touches (node o ts) y w)
      → one_relevant (members S) ts ≡ false → has_any (of z) (relevant (members S) ts) ≡ false
  unfolding relevant ◌⧺◌
  children-relevant o ts here n = children_apart o ∅ ts here n

  -- one relevant child: each member's literals stand in it alone, so its relevant subtree lies there
  abbrev touches-below : Forest → ℕ → ℕ → Bool
  touches-below ts y w = has_any (of y) ts && within_below (of y) (of w) ts

  count-member : (y : ℕ) → S y ≡ true → (ts : Forest) → count (keep (has (of y)) ts) ≤ count (keep (has (members S)) ts)
  unfolding keep count
  count-member y m ∅ = omega arith
  count-member y m (t ▸ ts) = by (has (of y) t) refl (has (members S) t) refl (count-member y m ts)
    where
      by : (a : Bool) → has (of y) t ≡ a → (b : Bool) → has (members S) t ≡ b
          → count (keep (has (of y)) ts) ≤ count (keep (has (members S)) ts)
          → count (cond a (t ▸ keep (has (of y)) ts) (keep (has (of y)) ts)) ≤
          count (cond b (t ▸ keep (has (members S)) ts) (keep (has (members S)) ts))
      by true e true k rest = omega arith
      by true e false k rest = absurd (true≢false (sym e ∙ has_of S y m t k))
      by false e true k rest = omega arith
      by false e false k rest = rest

  touches_one : (o : Op) (ts : Forest) → count (keep (has (members S)) ts) ≡ 1 → (y w : ℕ) → S y ≡ true
      → touches (node o ts) y w ≡ touches-below ts y w
  unfolding touches within has one_relevant relevant
  touches_one o ts n y w m = by (has_any (of y) ts) refl
    where
      by : (b : Bool) → has_any (of y) ts ≡ b
          → (b && cond (eqb (count (keep (has (of y)) ts)) 1) (within_below (of y) (of w) ts) (has_any (of w) (keep (has (of y)) ts))) ≡
          (b && within_below (of y) (of w) ts)
      by true e =
          let some : count (keep (has (of y)) ts) ≡ 0 → ⊥ = λ k. true≢false (sym e ∙ keep-none (of y) ts k) in
          let most = count-member y m ts in
          let one : count (keep (has (of y)) ts) ≡ 1 = exactly (count (keep (has (of y)) ts)) some (omega arith) in
          ap (λ (b : Bool). cond b (within_below (of y) (of w) ts) (has_any (of w) (keep (has (of y)) ts)))
          (eq-eqb (count (keep (has (of y)) ts)) 1 one)
        where
          exactly : (k : ℕ) → (k ≡ 0 → ⊥) → k ≤ 1 → k ≡ 1
          exactly zero f l = absurd (f refl)
          exactly (suc k) f l = omega arith
      by false e = refl

  touches_first : (t : Tree) (ts : Forest) → has_any (members S) ts ≡ false → (y w : ℕ) → S y ≡ true
      → touches-below (t ▸ ts) y w ≡ touches t y w
  unfolding touches within has
  touches_first t ts n y w m = by (has (of y) t) (has_any-of S y m ts n)
    where
      by : (b : Bool) → has_any (of y) ts ≡ false
          → ((b || has_any (of y) ts) && cond b (within (of y) (of w) t) (within_below (of y) (of w) ts)) ≡ (b && within (of y) (of w) t)
      by true e = refl
      by false e = ap (λ (b : Bool). b && within_below (of y) (of w) ts) e

  touches-later : (t : Tree) (ts : Forest) → has (members S) t ≡ false → (y w : ℕ) → S y ≡ true
      → touches-below (t ▸ ts) y w ≡ touches-below ts y w
  unfolding within has
  touches-later t ts n y w m =
      ap (λ (b : Bool). (b || has_any (of y) ts) && cond b (within (of y) (of w) t) (within_below (of y) (of w) ts)) (has_of S y m t n)

  mutual
    unfolding within has

    pub apart : (t : Tree) → has (members S) t ≡ true → ((y w : ℕ) → S y ≡ true → link y w ≡ touches t y w)
        → within (members S) (of z) t ≡ false
    apart (lit s v) h here = ne_eqb v z (λ e. true≢false (sym h ∙ ap S e ∙ linked.outside))
    apart (node o ts) h here = by (one_relevant (members S) ts) refl (λ n k. apart_below ts n k)
      where
        by : (b : Bool) → one_relevant (members S) ts ≡ b
            → (count (keep (has (members S)) ts) ≡ 1 → ((y w : ℕ) → S y ≡ true → link y w ≡ touches-below ts y w)
            → within_below (members S) (of z) ts ≡ false)
            → cond b (within_below (members S) (of z) ts) (has_any (of z) (relevant (members S) ts)) ≡ false
        by true e below =
            let n = one_counts (members S) ts e in
            below n (λ y w m. here y w m ∙ touches_one o ts n y w m)
        by false e below = children-relevant o ts here e

    apart_below : (ts : Forest) → count (keep (has (members S)) ts) ≡ 1
        → ((y w : ℕ) → S y ≡ true → link y w ≡ touches-below ts y w) → within_below (members S) (of z) ts ≡ false
    apart_below ∅ n here = refl
    apart_below (t ▸ ts) n here = by (has (members S) t) refl (λ h k. apart t h k) (λ m k. apart_below ts m k)
      where
        by : (b : Bool) → has (members S) t ≡ b
            → (has (members S) t ≡ true → ((y w : ℕ) → S y ≡ true → link y w ≡ touches t y w) → within (members S) (of z) t ≡ false)
            → (count (keep (has (members S)) ts) ≡ 1 → ((y w : ℕ) → S y ≡ true → link y w ≡ touches-below ts y w)
            → within_below (members S) (of z) ts ≡ false)
            → cond b (within (members S) (of z) t) (within_below (members S) (of z) ts) ≡ false
        by true e first later =
            first e (λ y w m. here y w m ∙ touches_first t ts (one_first (members S) t ts n e) y w m)
        by false e first later =
            later (one_later (members S) t ts n e) (λ y w m. here y w m ∙ touches-later t ts e y w m)
