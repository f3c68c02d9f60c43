-- The step one block out keeps the truth: from the values at x = 0 and at x = 1 to those of the two copies, block by block.
-- Assumes nothing.
use mathlib.Core.Path.{◌≡◌, refl, sym, ◌∙◌, ap, ap₂, subst}
use mathlib.Core.Bool.{Bool, true, false, ◌&&◌, ◌||◌, cond, or-false, true≢false, false≢true}
use mathlib.Core.List.{List, [], ◌∷◌, ◌++◌}
use Prim.Native.Nat.{ℕ, ◌≤◌}
use lib.Dec.{eqb}
use lib.ListN.{length}
use borrow.Author.Tests.{eqb-true, ne_eqb, not-false}
use Rattle.formula.specs.Tree.{Op, and, or, same_op, exists, for_all, Tree, Prefix, Literals, of, has, binds, quantifier_of, without, distinct}
use Rattle.formula.specs.Truth.{Assignment, put, join, eval, bind, Ignores}
use Rattle.formula.specs.Expand.{all_of, after, among, occurs}
use Rattle.formula.specs.Outer.{universal_then_existential, existentials, within, renamed, chosen_by}
use Rattle.formula.proofs.Booleans.{and_parts, or_parts, or-none, or_later, join_swap}
use Rattle.formula.proofs.Binding.{ignores_put, bind-put, bind-among}
use Rattle.formula.proofs.Evaluation.{eval_same, has_cover}
use Rattle.formula.proofs.Expand.{eval_ignores}
use Rattle.formula.proofs.Closed.{unbound}
use Rattle.formula.proofs.Outer.Witness.{Agree, witness, intro}
use Rattle.formula.proofs.Outer.Fresh.{rows_of, renamed_other, renamed-new, placed, placed_other, placed_renamed}
use Rattle.formula.proofs.Outer.Mix.{mixed, choose}
use Rattle.formula.proofs.Prefixes.{binds-++, all_of-++, among-++, among_same, among-all}

-- rows put together

pub all-existential : (ns : List ℕ) → all_of exists (rows_of ns) ≡ true
unfolding all_of
all-existential [] = refl
all-existential (n ∷ ns) = all-existential ns

-- A tree over a prefix, its existential block, x, the depending variables and their new numbers.
pub record Setting (t : Tree) (p B : Prefix) (x : ℕ) (D : ℕ → Bool) (ys ns : List ℕ) : Type 0 where
  pub is_closed : has (unbound p) t ≡ false
  pub block_bound : (v : ℕ) → binds B v ≡ true → binds p v ≡ true
  pub block_exists : all_of exists B ≡ true
  pub in_block : (v : ℕ) → D v ≡ true → binds B v ≡ true
  pub copied_are : (v : ℕ) → binds (rows_of ys) v ≡ D v
  pub are_new : (v : ℕ) → binds (rows_of ns) v ≡ true → binds p v ≡ false
  pub enough : length ys ≤ length ns
  pub new_distinct : distinct (rows_of ns) ≡ true
  pub free : (z : ℕ) → binds B z ≡ true → D z ≡ false → has (chosen_by x D) t ≡ true → within (chosen_by x D) (of z) t ≡ false

module _ (t : Tree) (p B : Prefix) (x : ℕ) (D : ℕ → Bool) (ys ns : List ℕ) (set : Setting t p B x D ys ns) where
  -- what the x = 1 copy sees of an assignment
  abbrev pub copied : Assignment → Assignment
  copied ρ v = cond (eqb v x) true (ρ (renamed ys ns v))

  abbrev pub both : Assignment → Bool
  both ρ = eval t (put ρ x false) && eval t (copied ρ)

  abbrev pub at : Bool → Assignment → Bool
  at b ρ = eval t (put ρ x b)

  abbrev R : Prefix
  R = rows_of ns

  not_new : (v : ℕ) → binds p v ≡ true → binds R v ≡ false
  not_new v h = by (binds R v) refl
    where
      by : (b : Bool) → binds R v ≡ b → b ≡ false
      by true e = absurd (true≢false (sym h ∙ set.are_new v e))
      by false e = refl

  not_depending : (v : ℕ) → binds B v ≡ false → D v ≡ false
  not_depending v h = by (D v) refl
    where
      by : (b : Bool) → D v ≡ b → b ≡ false
      by true e = absurd (true≢false (sym (set.in_block v e) ∙ h))
      by false e = refl

  -- only values at bound variables count
  eval-bound : (σ τ : Assignment) → ((v : ℕ) → binds p v ≡ true → σ v ≡ τ v) → eval t σ ≡ eval t τ
  eval-bound σ τ h = eval_same (unbound p) σ τ (λ s v k. h v (not-false (binds p v) k)) t set.is_closed

  -- both witnesses to one
  forward : (ρ : Assignment) → bind B (at false) ρ ≡ true → bind B (at true) ρ ≡ true → bind (B ++ R) both ρ ≡ true
  forward ρ h k =
      let w₀ = witness B (at false) ρ set.block_exists h in
      let w₁ = witness B (at true) ρ set.block_exists k in
      let e : Assignment = w₀.0 in
      let d : Assignment = w₁.0 in
      let c = choose t B x D set.free e d (λ v n. w₀.1 v n ∙ sym (w₁.1 v n)) w₀.2 w₁.2 in
      let base : Assignment = λ v. cond (D v) (e v) (c.0 v) in
      let σ : Assignment = placed ys ns d base in
      let old : (v : ℕ) → binds R v ≡ false → σ v ≡ base v = λ v n. placed_other ys ns d base v n in
      let renew : (v : ℕ) → binds p v ≡ true → σ (renamed ys ns v) ≡ cond (D v) (d v) (c.0 v)
      = λ v n. renewed d c.0 e σ (λ u l. old u l) (λ u l. placed_renamed ys ns d base u set.enough set.new_distinct l) v n (D v) refl in
      intro (B ++ R) both ρ σ (all_of-++ exists B R set.block_exists (all-existential ns))
      (λ v n. let parts = or_parts (binds B v) (binds R v) (sym (binds-++ B R v) ∙ n) in
      old v parts.1 ∙ ap (λ (m : Bool). cond m (e v) (c.0 v)) (not_depending v parts.0) ∙ c.1 v parts.0 ∙ w₁.1 v parts.0)
      (ap₂ ◌&&◌
      (eval-bound (put σ x false) (mixed x D c.0 e false) (λ v n. ap (cond (eqb v x) false) (old v (not_new v n))) ∙ c.2)
      (eval-bound (copied σ) (mixed x D c.0 d true) (λ v n. ap (cond (eqb v x) true) (renew v n)) ∙ c.3))
    where
      renewed : (d c e σ : Assignment) → ((v : ℕ) → binds R v ≡ false → σ v ≡ cond (D v) (e v) (c v))
          → ((v : ℕ) → binds (rows_of ys) v ≡ true → σ (renamed ys ns v) ≡ d v) → (v : ℕ) → binds p v ≡ true → (m : Bool) → D v ≡ m
          → σ (renamed ys ns v) ≡ cond m (d v) (c v)
      renewed d c e σ old new v n true m = new v (set.copied_are v ∙ m)
      renewed d c e σ old new v n false m =
          ap σ (renamed_other ys ns v (set.copied_are v ∙ m)) ∙ old v (not_new v n) ∙ ap (λ (b : Bool). cond b (e v) (c v)) m

  -- and one to both
  backward : (ρ : Assignment) (b : Bool) (seen : Assignment → Assignment) → ((σ : Assignment) → both σ ≡ true → eval t (seen σ) ≡ true)
      → ((σ : Assignment) (v : ℕ) → binds B v ≡ false → binds p v ≡ true → seen σ v ≡ put σ x b v)
      → ((σ : Assignment) (v : ℕ) → eqb v x ≡ true → seen σ v ≡ b)
      → bind (B ++ R) both ρ ≡ true → bind B (at b) ρ ≡ true
  backward ρ b seen true_of outside own h =
      let w = witness (B ++ R) both ρ (all_of-++ exists B R set.block_exists (all-existential ns)) h in
      let σ : Assignment = w.0 in
      let e : Assignment = λ v. cond (binds B v) (seen σ v) (ρ v) in
      intro B (at b) ρ e set.block_exists (λ v n. ap (λ (m : Bool). cond m (seen σ v) (ρ v)) n)
      (eval-bound (put e x b) (seen σ) (λ v n. like σ w.1 v n (eqb v x) refl (binds B v) refl) ∙ true_of σ w.2)
    where
      like : (σ : Assignment) → Agree (B ++ R) σ ρ → (v : ℕ) → binds p v ≡ true → (m : Bool) → eqb v x ≡ m → (n : Bool) → binds B v ≡ n
          → cond m b (cond n (seen σ v) (ρ v)) ≡ seen σ v
      like σ g v k true l n q = sym (own σ v l)
      like σ g v k false l true q = refl
      like σ g v k false l false q =
          sym (g v (binds-++ B R v ∙ or-none q (not_new v k))) ∙
          sym (outside σ v q k ∙ ap (λ (m : Bool). cond m b (σ v)) l)

  -- so at the block both values are that of the copies
  pub block-both : (ρ : Assignment) → (bind B (at false) ρ && bind B (at true) ρ) ≡ bind (B ++ R) both ρ
  block-both ρ =
      by (bind B (at false) ρ) refl (bind B (at true) ρ) refl (bind (B ++ R) both ρ) refl
    where
      first : bind (B ++ R) both ρ ≡ true → bind B (at false) ρ ≡ true
      first h =
          backward ρ false (λ σ. put σ x false) (λ σ k. (and_parts (eval t (put σ x false)) (eval t (copied σ)) k).0)
          (λ σ v n k. refl) (λ σ v l. ap (λ (m : Bool). cond m false (σ v)) l) h

      second : bind (B ++ R) both ρ ≡ true → bind B (at true) ρ ≡ true
      second h =
          backward ρ true copied (λ σ k. (and_parts (eval t (put σ x false)) (eval t (copied σ)) k).1)
          (λ σ v n k. ap (λ (u : ℕ). cond (eqb v x) true (σ u)) (renamed_other ys ns v (set.copied_are v ∙ not_depending v n)))
          (λ σ v l. ap (λ (m : Bool). cond m true (σ (renamed ys ns v))) l) h

      by : (a : Bool) → bind B (at false) ρ ≡ a → (b : Bool) → bind B (at true) ρ ≡ b → (c : Bool) → bind (B ++ R) both ρ ≡ c → (a && b) ≡ c
      by true e true k true l = refl
      by true e true k false l = sym (forward ρ e k) ∙ l
      by true e false k true l = sym k ∙ second l
      by true e false k false l = refl
      by false e b k true l = sym e ∙ first l
      by false e b k false l = refl

  -- past universal rows
  existentials-all : (q : Prefix) → all_of exists q ≡ true → existentials q ≡ q
  unfolding existentials all_of
  existentials-all [] h = refl
  existentials-all (z ∷ q) h =
      let parts = and_parts (same_op exists z.quantifier) (all_of exists q) h in
      ap (λ (m : Bool). cond m (z ∷ existentials q) (existentials q)) parts.0 ∙ ap (λ (r : Prefix). z ∷ r) (existentials-all q parts.1)

  pub rows_both : (q : Prefix) → universal_then_existential q ≡ true → existentials q ≡ B → (ρ : Assignment)
      → (bind q (at false) ρ && bind q (at true) ρ) ≡ bind (q ++ R) both ρ
  unfolding universal_then_existential existentials bind
  rows_both [] h e ρ = absurd (false≢true h)
  rows_both (z ∷ q) h e ρ = by (same_op exists z.quantifier) refl h e (λ k l σ. rows_both q k l σ)
    where
      crossed : (a b c d : Bool) → ((a && b) && (c && d)) ≡ ((a && c) && (b && d))
      crossed true b c d = join_swap and b c d
      crossed false b c d = refl

      universal : (o : Op) → same_op exists o ≡ false → o ≡ and
      universal and k = refl
      universal or k = absurd (true≢false k)

      by : (m : Bool) → same_op exists z.quantifier ≡ m → cond m (all_of exists q) (universal_then_existential q) ≡ true
          → cond m (z ∷ existentials q) (existentials q) ≡ B
          → (universal_then_existential q ≡ true → existentials q ≡ B → (σ : Assignment)
          → (bind q (at false) σ && bind q (at true) σ) ≡ bind (q ++ R) both σ)
          → (join z.quantifier (bind q (at false) (put ρ z.variable false)) (bind q (at false) (put ρ z.variable true)) &&
          join z.quantifier (bind q (at true) (put ρ z.variable false)) (bind q (at true) (put ρ z.variable true))) ≡
          join z.quantifier (bind (q ++ R) both (put ρ z.variable false)) (bind (q ++ R) both (put ρ z.variable true))
      by true k l f more = last k l f
        where
          last : same_op exists z.quantifier ≡ true → all_of exists q ≡ true → (z ∷ existentials q) ≡ B
              → (bind (z ∷ q) (at false) ρ && bind (z ∷ q) (at true) ρ) ≡ bind ((z ∷ q) ++ R) both ρ
          last k l f =
              subst (λ (r : Prefix). (bind r (at false) ρ && bind r (at true) ρ) ≡ bind (r ++ R) both ρ)
              (sym f ∙ ap (λ (r : Prefix). z ∷ r) (existentials-all q l)) (block-both ρ)
      by false k l f more =
          let u = universal z.quantifier k in
          rw u
          (crossed (bind q (at false) (put ρ z.variable false)) (bind q (at false) (put ρ z.variable true))
          (bind q (at true) (put ρ z.variable false)) (bind q (at true) (put ρ z.variable true)) ∙
          ap₂ ◌&&◌ (more l f (put ρ z.variable false)) (more l f (put ρ z.variable true)))

  -- past rows without a literal

  both_ignores : (v : ℕ) → (occurs t v || binds R v) ≡ false → Ignores both v
  both_ignores v h ρ b =
      let parts = or_parts (occurs t v) (binds R v) h in
      ap₂ ◌&&◌ (ignores_put (eval t) v x false (eval_ignores t v parts.0) ρ b)
      (eval_same (sent v) (copied (put ρ v b)) (copied ρ)
      (λ s u k. ap (λ (m : Bool). cond (eqb u x) true (cond m b (ρ (renamed ys ns u)))) k) t
      (has_cover (of v) (unbound p) (sent v) (λ s u k l. apart u k (not-false (binds p u) l) parts.1 (D u) refl) t parts.0
      set.is_closed))
    where
      -- the literals that are renamed to v
      sent : ℕ → Literals
      sent v s u = eqb (renamed ys ns u) v

      apart : (u : ℕ) → eqb u v ≡ false → binds p u ≡ true → binds R v ≡ false → (m : Bool) → D u ≡ m → eqb (renamed ys ns u) v ≡ false
      apart u k l n true m =
          ne_eqb (renamed ys ns u) v
          (λ e. true≢false (sym (renamed-new ys ns u set.enough (set.copied_are u ∙ m)) ∙ ap (binds R) e ∙ n))
      apart u k l n false m = ap (λ (w : ℕ). eqb w v) (renamed_other ys ns u (set.copied_are u ∙ m)) ∙ k

  pub after_both : (q : Prefix) → ((v : ℕ) → binds q v ≡ true → binds p v ≡ true) → binds q x ≡ false
      → universal_then_existential (among (occurs t) q) ≡ true → existentials (among (occurs t) q) ≡ B → (ρ : Assignment)
      → (bind q (eval t) (put ρ x false) && bind q (eval t) (put ρ x true)) ≡ bind (q ++ R) both ρ
  after_both q inside n h e ρ =
      let K : Prefix = among (occurs t) q in
      let one : (b : Bool) → bind q (eval t) (put ρ x b) ≡ bind K (at b) ρ
      = λ b. bind-put q (eval t) x b ρ n ∙ bind-among (occurs t) q (at b) (λ v k. ignores_put (eval t) v x b (eval_ignores t v k)) ρ in
      let P : ℕ → Bool = λ v. occurs t v || binds R v in
      let rows : among P (q ++ R) ≡ (K ++ R)
      = among-++ P q R ∙
      ap₂ ◌++◌ (among_same P (occurs t) q (λ v k. ap (λ (m : Bool). occurs t v || m) (not_new v (inside v k)) ∙ or-false (occurs t v)))
      (among-all P R (λ v k. or_later (occurs t v) k)) in
      ap₂ ◌&&◌ (one false) (one true) ∙ rows_both K h e ρ ∙
      sym (bind-among P (q ++ R) both both_ignores ρ ∙ ap (λ (r : Prefix). bind r both ρ) rows)

-- the rows in front of x stay as they are
pub bind_at : (p R : Prefix) (x : ℕ) (f g : Assignment → Bool) → binds p x ≡ true → quantifier_of p x ≡ for_all
    → ((ρ : Assignment) → (bind (after x p) f (put ρ x false) && bind (after x p) f (put ρ x true)) ≡ bind (after x p ++ R) g ρ)
    → (ρ : Assignment) → bind p f ρ ≡ bind (without x p ++ R) g ρ
unfolding bind binds quantifier_of after without
bind_at [] R x f g b q h ρ = absurd (false≢true b)
bind_at (z ∷ p) R x f g b q h ρ = by (eqb z.variable x) refl b q h (λ k l m σ. bind_at p R x f g k l m σ)
  where
    by : (m : Bool) → eqb z.variable x ≡ m → (m || binds p x) ≡ true → cond m z.quantifier (quantifier_of p x) ≡ for_all
        → ((ρ : Assignment)
        → (bind (cond m p (after x p)) f (put ρ x false) && bind (cond m p (after x p)) f (put ρ x true)) ≡
        bind (cond m p (after x p) ++ R) g ρ)
        → (binds p x ≡ true → quantifier_of p x ≡ for_all
        → ((ρ : Assignment) → (bind (after x p) f (put ρ x false) && bind (after x p) f (put ρ x true)) ≡ bind (after x p ++ R) g ρ)
        → (σ : Assignment) → bind p f σ ≡ bind (without x p ++ R) g σ)
        → join z.quantifier (bind p f (put ρ z.variable false)) (bind p f (put ρ z.variable true)) ≡
        bind (cond m p (z ∷ without x p) ++ R) g ρ
    by true e k l n more = rw (eqb-true z.variable x e, l) (n ρ)
    by false e k l n more =
        ap₂ (join z.quantifier) (more k l n (put ρ z.variable false)) (more k l n (put ρ z.variable true))
