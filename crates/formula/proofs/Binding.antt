-- Laws of `bind`: quantifiers over any function of the assignment. No trees.
-- Assumes nothing.
use mathlib.Core.Path.{◌≡◌, refl, sym, ◌∙◌, ap, ap₂, subst, fun_ext}
use mathlib.Core.Bool.{Bool, true, false, not, ◌||◌, cond, false≢true, true≢false}
use mathlib.Core.List.{[], ◌∷◌}
use Prim.Native.Nat.{ℕ}
use lib.Dec.{eqb}
use borrow.Author.Tests.{eqb-true, eq-eqb, not-true}
use Rattle.formula.specs.Tree.{Op, same_op, Quantifier, Binding, Prefix, binds, quantifier_of, without, distinct}
use Rattle.formula.specs.Truth.{Assignment, put, join, bind, Leads, Ignores}
use Rattle.formula.specs.Settle.{value}
use Rattle.formula.specs.Expand.{all_of, after, among}
pub use Rattle.formula.proofs.Booleans.{same_op_eq}
use Rattle.formula.proofs.Booleans.{join_comm, join_assoc, join_self, join-value, join-leads, and_parts, or_parts, by_cases}

-- setting another variable first or last makes no difference
pub put_swap : (ρ : Assignment) (x y : ℕ) (a b : Bool) → eqb x y ≡ false → put (put ρ x a) y b ≡ put (put ρ y b) x a
put_swap ρ x y a b h = fun_ext (λ v. at v (eqb v x) (eqb v y) refl refl)
  where
    at : (v : ℕ) (m n : Bool) → eqb v x ≡ m → eqb v y ≡ n → cond n b (cond m a (ρ v)) ≡ cond m a (cond n b (ρ v))
    at v true true hx hy = absurd (true≢false (sym (eq-eqb x y (sym (eqb-true v x hx) ∙ eqb-true v y hy)) ∙ h))
    at v true false hx hy = refl
    at v false true hx hy = refl
    at v false false hx hy = refl

pub bind_ext : (p : Prefix) {f g : Assignment → Bool} → ((ρ : Assignment) → f ρ ≡ g ρ) → (ρ : Assignment) → bind p f ρ ≡ bind p g ρ
bind_ext p {f} {g} h ρ = ap (λ (k : Assignment → Bool). bind p k ρ) (fun_ext h)

-- a value set outside a prefix that doesn't bind its variable can be set inside
pub bind-put : (p : Prefix) (f : Assignment → Bool) (x : ℕ) (b : Bool) (ρ : Assignment) → binds p x ≡ false
    → bind p f (put ρ x b) ≡ bind p (λ σ. f (put σ x b)) ρ
unfolding bind binds
bind-put [] f x b ρ h = refl
bind-put (z ∷ p) f x b ρ h =
    let parts = or_parts (eqb z.variable x) (binds p x) h in
    let swap : (a : Bool) → put (put ρ x b) z.variable a ≡ put (put ρ z.variable a) x b
    = λ a. sym (put_swap ρ z.variable x a b parts.0) in
    let inner : (a : Bool) → bind p f (put (put ρ x b) z.variable a) ≡ bind p (λ σ. f (put σ x b)) (put ρ z.variable a)
    = λ a. ap (bind p f) (swap a) ∙ bind-put p f x b (put ρ z.variable a) parts.1 in
    ap₂ (join z.quantifier) (inner false) (inner true)

pub bind-leads : (p : Prefix) (f g : Assignment → Bool) → ((ρ : Assignment) → Leads (f ρ) (g ρ)) → (ρ : Assignment)
    → Leads (bind p f ρ) (bind p g ρ)
unfolding bind
bind-leads [] f g h ρ = h ρ
bind-leads (z ∷ p) f g h ρ =
    join-leads z.quantifier (bind p f (put ρ z.variable false)) (bind p g (put ρ z.variable false))
    (bind p f (put ρ z.variable true)) (bind p g (put ρ z.variable true))
    (bind-leads p f g h (put ρ z.variable false)) (bind-leads p f g h (put ρ z.variable true))

-- quantifiers of one kind go through the operator that joins their copies
pub bind-join : (q : Quantifier) (p : Prefix) (f g : Assignment → Bool) (ρ : Assignment) → all_of q p ≡ true
    → bind p (λ σ. join q (f σ) (g σ)) ρ ≡ join q (bind p f ρ) (bind p g ρ)
unfolding bind all_of
bind-join q [] f g ρ h = refl
bind-join q (z ∷ p) f g ρ h =
    let parts = and_parts (same_op q z.quantifier) (all_of q p) h in
    let k : q ≡ z.quantifier = same_op_eq q z.quantifier parts.0 in
    let f₀ : Bool = bind p f (put ρ z.variable false) in
    let f₁ : Bool = bind p f (put ρ z.variable true) in
    let g₀ : Bool = bind p g (put ρ z.variable false) in
    let g₁ : Bool = bind p g (put ρ z.variable true) in
    ap₂ (join z.quantifier) (bind-join q p f g (put ρ z.variable false) parts.1)
    (bind-join q p f g (put ρ z.variable true) parts.1) ∙
    subst (λ (o : Op). join o (join q f₀ g₀) (join q f₁ g₁) ≡ join q (join o f₀ f₁) (join o g₀ g₁)) k (crossed q f₀ g₀ f₁ g₁)
  where
    crossed : (o : Op) (a b c d : Bool) → join o (join o a b) (join o c d) ≡ join o (join o a c) (join o b d)
    crossed o a b c d =
        join_assoc o a b (join o c d) ∙
        ap (join o a) (sym (join_assoc o b c d) ∙ ap (λ (e : Bool). join o e d) (join_comm o b c) ∙ join_assoc o c b d) ∙
        sym (join_assoc o a c (join o b d))

-- the copy of a variable's own row: the rest of the prefix doesn't bind it again
bind_own : (z : Binding) (p : Prefix) (f : Assignment → Bool) (x : ℕ) (b : Bool) (ρ : Assignment) → eqb z.variable x ≡ true
    → distinct (z ∷ p) ≡ true → bind p f (put ρ z.variable b) ≡ bind p (λ σ. f (put σ x b)) ρ
unfolding distinct
bind_own z p f x b ρ e d =
    let same : z.variable ≡ x = eqb-true z.variable x e in
    let fresh : binds p z.variable ≡ false
    = not-true (binds p z.variable) (and_parts (not (binds p z.variable)) (distinct p) d).0 in
    ap (λ (v : ℕ). bind p f (put ρ v b)) same ∙ bind-put p f x b ρ (subst (λ (v : ℕ). binds p v ≡ false) same fresh)

-- Where the first of the two values is never better than the sign's own, the table's value may be put in, in any block.
pub bind_settle : (p : Prefix) (f : Assignment → Bool) (x : ℕ) (s : Bool) (ρ : Assignment) → binds p x ≡ true → distinct p ≡ true
    → ((σ : Assignment) → Leads (f (put σ x (not s))) (f (put σ x s)))
    → bind p f ρ ≡ bind (without x p) (λ σ. f (put σ x (value (quantifier_of p x) s))) ρ
unfolding bind binds distinct without quantifier_of
bind_settle [] f x s ρ h d better = absurd (false≢true h)
bind_settle (z ∷ p) f x s ρ h d better = by (eqb z.variable x) refl h (λ ρ' k. bind_settle p f x s ρ' k (and_parts (not (binds p z.variable)) (distinct p) d).1 better)
  where
    by : (m : Bool) → eqb z.variable x ≡ m → (m || binds p x) ≡ true
        → ((ρ' : Assignment) → binds p x ≡ true → bind p f ρ' ≡ bind (without x p) (λ σ. f (put σ x (value (quantifier_of p x) s))) ρ')
        → join z.quantifier (bind p f (put ρ z.variable false)) (bind p f (put ρ z.variable true)) ≡
        bind (cond m p (z ∷ without x p)) (λ σ. f (put σ x (value (cond m z.quantifier (quantifier_of p x)) s))) ρ
    by true e k again =
        ap₂ (join z.quantifier) (bind_own z p f x false ρ e d) (bind_own z p f x true ρ e d) ∙
        join-value z.quantifier s (λ b. bind p (λ σ. f (put σ x b)) ρ)
        (bind-leads p (λ σ. f (put σ x (not s))) (λ σ. f (put σ x s)) better ρ)
    by false e k again = ap₂ (join z.quantifier) (again (put ρ z.variable false) k) (again (put ρ z.variable true) k)

-- Functions that ignore a variable: its quantifier may go, wherever it stands.

-- of two values set for one variable the later one counts
pub put_again : (ρ : Assignment) (x : ℕ) (a b : Bool) → put (put ρ x a) x b ≡ put ρ x b
put_again ρ x a b = fun_ext (λ v. at v (eqb v x))
  where
    at : (v : ℕ) (m : Bool) → cond m b (cond m a (ρ v)) ≡ cond m b (ρ v)
    at v true = refl
    at v false = refl

pub ignores_put : (f : Assignment → Bool) (v x : ℕ) (a : Bool) → Ignores f v → Ignores (λ σ. f (put σ x a)) v
ignores_put f v x a h ρ b =
    by_cases (eqb v x)
    (λ e. ap (λ (y : ℕ). f (put (put ρ y b) x a)) (eqb-true v x e) ∙ ap f (put_again ρ x b a))
    (λ e. ap f (put_swap ρ v x b a e) ∙ h (put ρ x a) b)

bind_ignores : (p : Prefix) (f : Assignment → Bool) (v : ℕ) → Ignores f v → Ignores (bind p f) v
unfolding bind
bind_ignores [] f v h ρ b = h ρ b
bind_ignores (z ∷ p) f v h ρ b =
    let below = bind_ignores p f v h in
    ap₂ (join z.quantifier) (ignores_put (bind p f) v z.variable false below ρ b)
    (ignores_put (bind p f) v z.variable true below ρ b)

-- only the rows of a set count, if the function ignores all others
pub bind-among : (P : ℕ → Bool) (p : Prefix) (f : Assignment → Bool) → ((v : ℕ) → P v ≡ false → Ignores f v) → (ρ : Assignment)
    → bind p f ρ ≡ bind (among P p) f ρ
unfolding bind among
bind-among P [] f h ρ = refl
bind-among P (z ∷ p) f h ρ = by (P z.variable) refl (λ ρ'. bind-among P p f h ρ')
  where
    by : (m : Bool) → P z.variable ≡ m → ((ρ' : Assignment) → bind p f ρ' ≡ bind (among P p) f ρ')
        → join z.quantifier (bind p f (put ρ z.variable false)) (bind p f (put ρ z.variable true)) ≡
        bind (cond m (z ∷ among P p) (among P p)) f ρ
    by true e more = ap₂ (join z.quantifier) (more (put ρ z.variable false)) (more (put ρ z.variable true))
    by false e more =
        let same = bind_ignores p f z.variable (h z.variable e) ρ in
        ap₂ (join z.quantifier) (same false) (same true) ∙ join_self z.quantifier (bind p f ρ) ∙ more ρ

-- quantifiers go through the operator that joins their copies, if those that aren't of its kind are ignored
bind-join-among : (q : Quantifier) (P : ℕ → Bool) (p : Prefix) (f g : Assignment → Bool) → ((v : ℕ) → P v ≡ false → Ignores f v)
    → ((v : ℕ) → P v ≡ false → Ignores g v) → (ρ : Assignment) → all_of q (among P p) ≡ true
    → bind p (λ σ. join q (f σ) (g σ)) ρ ≡ join q (bind p f ρ) (bind p g ρ)
bind-join-among q P p f g hf hg ρ k =
    bind-among P p (λ σ. join q (f σ) (g σ)) (λ v e σ b. ap₂ (join q) (hf v e σ b) (hg v e σ b)) ρ ∙
    bind-join q (among P p) f g ρ k ∙ sym (ap₂ (join q) (bind-among P p f hf ρ) (bind-among P p g hg ρ))

-- A quantifier may be moved innermost past rows of its kind and past rows that the function ignores: its two copies are then joined
-- for each assignment.
pub bind_expand : (P : ℕ → Bool) (p : Prefix) (f : Assignment → Bool) (x : ℕ) → ((v : ℕ) → P v ≡ false → Ignores f v) → (ρ : Assignment)
    → binds p x ≡ true → all_of (quantifier_of p x) (among P (after x p)) ≡ true → distinct p ≡ true
    → bind p f ρ ≡ bind (without x p) (λ σ. join (quantifier_of p x) (f (put σ x false)) (f (put σ x true))) ρ
unfolding bind binds distinct without quantifier_of after
bind_expand P [] f x i ρ h k d = absurd (false≢true h)
bind_expand P (z ∷ p) f x i ρ h k d =
    by (eqb z.variable x) refl h k (λ ρ' h' k'. bind_expand P p f x i ρ' h' k' (and_parts (not (binds p z.variable)) (distinct p) d).1)
  where
    by : (m : Bool) → eqb z.variable x ≡ m → (m || binds p x) ≡ true
        → all_of (cond m z.quantifier (quantifier_of p x)) (among P (cond m p (after x p))) ≡ true
        → ((ρ' : Assignment) → binds p x ≡ true → all_of (quantifier_of p x) (among P (after x p)) ≡ true
        → bind p f ρ' ≡ bind (without x p) (λ σ. join (quantifier_of p x) (f (put σ x false)) (f (put σ x true))) ρ')
        → join z.quantifier (bind p f (put ρ z.variable false)) (bind p f (put ρ z.variable true)) ≡
        bind (cond m p (z ∷ without x p))
        (λ σ. join (cond m z.quantifier (quantifier_of p x)) (f (put σ x false)) (f (put σ x true))) ρ
    by true e b a again =
        ap₂ (join z.quantifier) (bind_own z p f x false ρ e d) (bind_own z p f x true ρ e d) ∙
        sym
        (bind-join-among z.quantifier P p (λ σ. f (put σ x false)) (λ σ. f (put σ x true)) (λ v n. ignores_put f v x false (i v n))
        (λ v n. ignores_put f v x true (i v n)) ρ a)
    by false e b a again = ap₂ (join z.quantifier) (again (put ρ z.variable false) b a) (again (put ρ z.variable true) b a)
