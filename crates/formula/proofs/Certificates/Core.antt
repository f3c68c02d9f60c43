-- The core of certificates, over functions of the assignment: a constraint that settles the matrix may be joined to it with any value put
-- in for a variable of the other quantifier, if it depends on no variable of its own quantifier behind that one.
-- Assumes nothing.
use mathlib.Core.Path.{◌≡◌, refl, sym, ◌∙◌, ap, ap₂, subst}
use mathlib.Core.Bool.{Bool, true, false, not, ◌&&◌, ◌||◌, cond, and-true, and-false, or-true, or-false, false≢true, true≢false}
use mathlib.Core.List.{[], ◌∷◌}
use Prim.Native.Nat.{ℕ}
use lib.Dec.{eqb}
use borrow.Author.Tests.{eqb-true, eq-eqb, ne_eqb, not-true}
use Rattle.formula.specs.Tree.{Op, and, or, dual, Quantifier, Binding, Prefix, binds, quantifier_of, distinct}
use Rattle.formula.specs.Truth.{Assignment, put, join, unit, bind, Ignores}
use Rattle.formula.specs.Expand.{after}
use Rattle.formula.proofs.Booleans.{join_share, join_self, join_comm, join_assoc, and_parts}
use Rattle.formula.proofs.Binding.{bind_ext, bind-put, ignores_put, put_again}
use Rattle.formula.proofs.Prefixes.{binds_first, binds-later, after-binds}

-- where the constraint has its side's unit, a clause false and a cube true, so has the matrix
abbrev pub Settles : Op → (Assignment → Bool) → (Assignment → Bool) → Type 0
Settles o c m = (ρ : Assignment) → c ρ ≡ unit o → m ρ ≡ unit o

-- values

-- a value that both sides keep is kept by their join
join_keeps : (q : Op) (u a b a' b' : Bool) → (a ≡ u → a' ≡ u) → (b ≡ u → b' ≡ u) → join q a b ≡ u → join q a' b' ≡ u
join_keeps and true true b a' b' h k e = ap₂ ◌&&◌ (h refl) (k e)
join_keeps and true false b a' b' h k e = absurd (false≢true e)
join_keeps and false true b a' b' h k e = ap (◌&&◌ a') (k e) ∙ and-false a'
join_keeps and false false b a' b' h k e = ap (λ (c : Bool). c && b') (h refl)
join_keeps or true true b a' b' h k e = ap (λ (c : Bool). c || b') (h refl)
join_keeps or true false b a' b' h k e = ap (◌||◌ a') (k e) ∙ or-true a'
join_keeps or false true b a' b' h k e = absurd (true≢false e)
join_keeps or false false b a' b' h k e = ap₂ ◌||◌ (h refl) (k e)

-- the side's unit decides what is joined to the matrix
pub first_decides : (o : Op) {a : Bool} (b : Bool) → a ≡ unit o → join (dual o) a b ≡ unit o
first_decides and b e = ap (λ (c : Bool). c || b) e
first_decides or b e = ap (λ (c : Bool). c && b) e

pub second_decides : (o : Op) (a : Bool) {b : Bool} → b ≡ unit o → join (dual o) a b ≡ unit o
second_decides and a e = ap (◌||◌ a) e ∙ or-true a
second_decides or a e = ap (◌&&◌ a) e ∙ and-false a

-- what settles a value adds nothing to it
absorbs : (o : Op) (a b : Bool) → (b ≡ unit o → a ≡ unit o) → join (dual o) a b ≡ a
absorbs or a true h = and-true a
absorbs or a false h = and-false a ∙ sym (h refl)
absorbs and a true h = or-true a ∙ sym (h refl)
absorbs and a false h = or-false a

crossed : (o : Op) (a b c d : Bool) → join o (join o a b) (join o c d) ≡ join o (join o a c) (join o b d)
crossed o a b c d =
    join_assoc o a b (join o c d) ∙
    ap (join o a) (sym (join_assoc o b c d) ∙ ap (λ (e : Bool). join o e d) (join_comm o b c) ∙ join_assoc o c b d) ∙
    sym (join_assoc o a c (join o b d))

-- what both of two joined values share can be joined to them by itself
shared : (q : Op) (a b : Bool) {c₀ c₁ c : Bool} → c₀ ≡ c → c₁ ≡ c
    → join q (join (dual q) a c₀) (join (dual q) b c₁) ≡ join (dual q) (join q a b) (join q c₀ c₁)
shared q a b {c = c} e₀ e₁ =
    ap₂ (λ (x y : Bool). join q (join (dual q) a x) (join (dual q) b y)) e₀ e₁ ∙ join_share q (dual q) a b c ∙
    ap (join (dual q) (join q a b)) (sym (ap₂ (join q) e₀ e₁ ∙ join_self q c))

pub bind-settles : (o : Op) (p : Prefix) (c m : Assignment → Bool) → Settles o c m → Settles o (bind p c) (bind p m)
unfolding bind
bind-settles o [] c m h ρ = h ρ
bind-settles o (z ∷ p) c m h ρ =
    join_keeps z.quantifier (unit o) (bind p c (put ρ z.variable false)) (bind p c (put ρ z.variable true))
    (bind p m (put ρ z.variable false)) (bind p m (put ρ z.variable true)) (bind-settles o p c m h (put ρ z.variable false))
    (bind-settles o p c m h (put ρ z.variable true))

pub bind-unit : (o : Op) (p : Prefix) (m : Assignment → Bool) → ((ρ : Assignment) → m ρ ≡ unit o) → (ρ : Assignment) → bind p m ρ ≡ unit o
unfolding bind
bind-unit o [] m h ρ = h ρ
bind-unit o (z ∷ p) m h ρ =
    ap₂ (join z.quantifier) (bind-unit o p m h (put ρ z.variable false)) (bind-unit o p m h (put ρ z.variable true)) ∙
    join_self z.quantifier (unit o)

-- rows of a prefix without a number twice

fresh_row : (z : Binding) (p : Prefix) → distinct (z ∷ p) ≡ true → binds p z.variable ≡ false
unfolding distinct
fresh_row z p d = not-true (binds p z.variable) (and_parts (not (binds p z.variable)) (distinct p) d).0

later_rows : (z : Binding) (p : Prefix) → distinct (z ∷ p) ≡ true → distinct p ≡ true
unfolding distinct
later_rows z p d = (and_parts (not (binds p z.variable)) (distinct p) d).1

first_quantifier : (z : Binding) (p : Prefix) → quantifier_of (z ∷ p) z.variable ≡ z.quantifier
unfolding quantifier_of
first_quantifier z p =
    ap (λ (m : Bool). cond m z.quantifier (quantifier_of p z.variable)) (eq-eqb z.variable z.variable refl)

later-quantifier : (z : Binding) (p : Prefix) (v : ℕ) → distinct (z ∷ p) ≡ true → binds p v ≡ true
    → quantifier_of (z ∷ p) v ≡ quantifier_of p v
unfolding quantifier_of
later-quantifier z p v d b =
    ap (λ (m : Bool). cond m z.quantifier (quantifier_of p v))
    (ne_eqb z.variable v (λ e. false≢true (sym (fresh_row z p d) ∙ ap (binds p) e ∙ b)))

-- the function ignores the variables that a prefix binds by the quantifier q
abbrev pub IgnoresOwn : Quantifier → Prefix → Prefix → (Assignment → Bool) → Type 0
IgnoresOwn q p whole c = (v : ℕ) → binds p v ≡ true → quantifier_of whole v ≡ q → Ignores c v

-- setting an ignored variable before the quantifiers changes nothing
bind_ignored : (p : Prefix) (c : Assignment → Bool) (x : ℕ) (b : Bool) (ρ : Assignment) → binds p x ≡ false → Ignores c x
    → bind p c (put ρ x b) ≡ bind p c ρ
bind_ignored p c x b ρ h i = bind-put p c x b ρ h ∙ bind_ext p (λ σ. i σ b) ρ

-- a constraint that ignores the variables of its own quantifier is quantified by itself
bind_aside : (o : Op) (p : Prefix) (m c : Assignment → Bool) → distinct p ≡ true → IgnoresOwn o p p c → (ρ : Assignment)
    → bind p (λ σ. join (dual o) (m σ) (c σ)) ρ ≡ join (dual o) (bind p m ρ) (bind p c ρ)
unfolding bind
bind_aside o [] m c d i ρ = refl
bind_aside o (z ∷ p) m c d i ρ =
    ap₂ (join z.quantifier) (bind_aside o p m c (later_rows z p d) below ρ₀) (bind_aside o p m c (later_rows z p d) below ρ₁) ∙
    by o z.quantifier own
  where
    ρ₀ : Assignment
    ρ₀ = put ρ z.variable false

    ρ₁ : Assignment
    ρ₁ = put ρ z.variable true

    below : IgnoresOwn o p p c
    below v b q = i v (binds-later z p v b) (later-quantifier z p v d b ∙ q)

    own : z.quantifier ≡ o → (b : Bool) → bind p c (put ρ z.variable b) ≡ bind p c ρ
    own q b =
        bind_ignored p c z.variable b ρ (fresh_row z p d) (i z.variable (binds_first z p) (first_quantifier z p ∙ q))

    by : (s q : Op) → (q ≡ s → (b : Bool) → bind p c (put ρ z.variable b) ≡ bind p c ρ)
        → join q (join (dual s) (bind p m ρ₀) (bind p c ρ₀)) (join (dual s) (bind p m ρ₁) (bind p c ρ₁)) ≡
        join (dual s) (join q (bind p m ρ₀) (bind p m ρ₁)) (join q (bind p c ρ₀) (bind p c ρ₁))
    by and and same = shared and (bind p m ρ₀) (bind p m ρ₁) (same refl false) (same refl true)
    by and or same = crossed or (bind p m ρ₀) (bind p c ρ₀) (bind p m ρ₁) (bind p c ρ₁)
    by or and same = crossed and (bind p m ρ₀) (bind p c ρ₀) (bind p m ρ₁) (bind p c ρ₁)
    by or or same = shared or (bind p m ρ₀) (bind p m ρ₁) (same refl false) (same refl true)

-- the value put in for the first row: both copies are joined with what the constraint says at that value alone
module _ (o : Op) (b : Bool) (m c : Assignment → Bool) (s : Settles o c m) where
  joined_first : (z : Binding) (p : Prefix) → distinct (z ∷ p) ≡ true → z.quantifier ≡ dual o → IgnoresOwn o p p c → (ρ : Assignment)
      → bind (z ∷ p) (λ σ. join (dual o) (m σ) (c (put σ z.variable b))) ρ ≡ bind (z ∷ p) m ρ
  unfolding bind
  joined_first z p d q i ρ =
      ap (λ (k : Op). join k (bind p both (put ρ x false)) (bind p both (put ρ x true))) q ∙ ap₂ (join (dual o)) (copy false) (copy true) ∙
      join_share (dual o) (dual o) (M false) (M true) C ∙ absorbs o (join (dual o) (M false) (M true)) C (λ e. one b (settled e)) ∙
      ap (λ (k : Op). join k (M false) (M true)) (sym q)
    where
      x : ℕ
      x = z.variable

      both : Assignment → Bool
      both σ = join (dual o) (m σ) (c (put σ x b))

      M : Bool → Bool
      M a = bind p m (put ρ x a)

      C : Bool
      C = bind p c (put ρ x b)

      copy : (a : Bool) → bind p both (put ρ x a) ≡ join (dual o) (M a) C
      copy a =
          bind_aside o p m (λ σ. c (put σ x b)) (later_rows z p d) (λ v k e. ignores_put c v x b (i v k e)) (put ρ x a) ∙
          ap (join (dual o) (M a)) (sym (bind-put p c x b (put ρ x a) (fresh_row z p d)) ∙ ap (bind p c) (put_again ρ x a b))

      settled : C ≡ unit o → M b ≡ unit o
      settled = bind-settles o p c m s (put ρ x b)

      one : (a : Bool) → M a ≡ unit o → join (dual o) (M false) (M true) ≡ unit o
      one false e = first_decides o (M true) e
      one true e = second_decides o (M false) e

  -- and for any row
  pub bind-joined : (p : Prefix) (x : ℕ) → distinct p ≡ true → binds p x ≡ true → quantifier_of p x ≡ dual o → IgnoresOwn o (after x p) p c
      → (ρ : Assignment) → bind p (λ σ. join (dual o) (m σ) (c (put σ x b))) ρ ≡ bind p m ρ
  unfolding bind binds quantifier_of after
  bind-joined [] x d h q i ρ = absurd (false≢true h)
  bind-joined (z ∷ p) x d h q i ρ = by (eqb z.variable x) refl h q i (λ k e j. bind-joined p x (later_rows z p d) k e j)
    where
      both : Assignment → Bool
      both σ = join (dual o) (m σ) (c (put σ x b))

      by : (t : Bool) → eqb z.variable x ≡ t → (t || binds p x) ≡ true → cond t z.quantifier (quantifier_of p x) ≡ dual o
          → IgnoresOwn o (cond t p (after x p)) (z ∷ p) c
          → (binds p x ≡ true → quantifier_of p x ≡ dual o → IgnoresOwn o (after x p) p c → (σ : Assignment) → bind p both σ ≡ bind p m σ)
          → bind (z ∷ p) both ρ ≡ bind (z ∷ p) m ρ
      by true e k r j more =
          let same : z.variable ≡ x = eqb-true z.variable x e in
          subst (λ (y : ℕ). bind (z ∷ p) (λ σ. join (dual o) (m σ) (c (put σ y b))) ρ ≡ bind (z ∷ p) m ρ) same
          (joined_first z p d r (λ v f g. j v f (later-quantifier z p v d f ∙ g)) ρ)
      by false e k r j more =
          let below : (σ : Assignment) → bind p both σ ≡ bind p m σ
          = more k r (λ v f g. j v f (later-quantifier z p v d (after-binds x v p f) ∙ g)) in
          ap₂ (join z.quantifier) (below (put ρ z.variable false)) (below (put ρ z.variable true))
