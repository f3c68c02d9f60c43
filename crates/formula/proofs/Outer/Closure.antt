-- The depending variables: the stages grow until nothing is added, and no further than touching leads from x.
-- Assumes nothing.
use mathlib.Core.Path.{◌≡◌, refl, sym, ◌∙◌, ap, ap₂}
use mathlib.Core.Bool.{Bool, true, false, not, ◌&&◌, ◌||◌, cond, false≢true, true≢false}
use mathlib.Core.List.{[], ◌∷◌}
use mathlib.Core.Logic.{◌⊎◌, inl, inr, ⊎_elim}
use Prim.Native.Nat.{ℕ, zero, suc, ◌≤◌}
use native.Mathlib.Omega.{arith}
use lib.Dec.{eqb}
use lib.ListN.{length}
use borrow.Author.Tests.{eqb-true, eq-eqb}
use Rattle.formula.specs.Tree.{Tree, Prefix, of, has, binds}
use Rattle.formula.specs.Outer.{within, touches, some_row, touched, grown, stage, chosen_by}
use Rattle.formula.proofs.Booleans.{and_parts, or_cases, or_later, by_cases}
use Rattle.formula.specs.Truth.{Leads}
use Rattle.formula.proofs.Outer.Apart.{Linked, apart}
use Rattle.formula.proofs.Prefixes.{some_here, some_found, some_leads}

-- tests on rows

-- how many rows' variables are in a set
unfoldable tally : (ℕ → Bool) → Prefix → ℕ
tally P [] = 0
tally P (z ∷ p) = cond (P z.variable) (suc (tally P p)) (tally P p)

tally_leads : (P Q : ℕ → Bool) → ((v : ℕ) → Leads (P v) (Q v)) → (p : Prefix) → tally P p ≤ tally Q p
unfolding tally
tally_leads P Q f [] = omega arith
tally_leads P Q f (z ∷ p) = by (P z.variable) refl (Q z.variable) refl (tally_leads P Q f p)
  where
    by : (a : Bool) → P z.variable ≡ a → (b : Bool) → Q z.variable ≡ b → tally P p ≤ tally Q p
        → cond a (suc (tally P p)) (tally P p) ≤ cond b (suc (tally Q p)) (tally Q p)
    by true e true k rest = omega arith
    by true e false k rest = absurd (true≢false (sym (f z.variable e) ∙ k))
    by false e true k rest = omega arith
    by false e false k rest = rest

tally_more : (P Q : ℕ → Bool) → ((v : ℕ) → Leads (P v) (Q v)) → (p : Prefix) → some_row (λ v. Q v && not (P v)) p ≡ true
    → suc (tally P p) ≤ tally Q p
unfolding tally some_row
tally_more P Q f [] h = absurd (false≢true h)
tally_more P Q f (z ∷ p) h = by (P z.variable) refl (Q z.variable) refl h (tally_more P Q f p) (tally_leads P Q f p)
  where
    by : (a : Bool) → P z.variable ≡ a → (b : Bool) → Q z.variable ≡ b
        → (b && not a || some_row (λ v. Q v && not (P v)) p) ≡ true
        → (some_row (λ v. Q v && not (P v)) p ≡ true → suc (tally P p) ≤ tally Q p) → tally P p ≤ tally Q p
        → suc (cond a (suc (tally P p)) (tally P p)) ≤ cond b (suc (tally Q p)) (tally Q p)
    by true e true k l rest most = let r = rest l in omega arith
    by true e false k l rest most = absurd (true≢false (sym (f z.variable e) ∙ k))
    by false e true k l rest most = omega arith
    by false e false k l rest most = rest l

tally_most : (P : ℕ → Bool) (p : Prefix) → tally P p ≤ length p
unfolding tally
tally_most P [] = omega arith
tally_most P (z ∷ p) = by (P z.variable) (tally_most P p)
  where
    by : (a : Bool) → tally P p ≤ length p → cond a (suc (tally P p)) (tally P p) ≤ suc (length p)
    by true rest = omega arith
    by false rest = omega arith

tally_all : (P : ℕ → Bool) (p : Prefix) → length p ≤ tally P p → (v : ℕ) → binds p v ≡ true → P v ≡ true
unfolding tally binds
tally_all P [] l v b = absurd (false≢true b)
tally_all P (z ∷ p) l v b = by (P z.variable) refl l (tally_most P p) (tally_all P p)
  where
    by : (a : Bool) → P z.variable ≡ a → suc (length p) ≤ cond a (suc (tally P p)) (tally P p) → tally P p ≤ length p
        → (length p ≤ tally P p → (v : ℕ) → binds p v ≡ true → P v ≡ true) → P v ≡ true
    by true e k most rest =
        ⊎_elim (λ q. ap P (sym (eqb-true z.variable v q)) ∙ e) (λ q. rest (omega arith) v q)
        (or_cases (eqb z.variable v) (binds p v) b)
    by false e k most rest = absurd (omega arith)

module _ (t : Tree) (p : Prefix) where
  -- the stages grow

  grown_keeps : (D : ℕ → Bool) (v : ℕ) → Leads (D v) (grown t p D v)
  unfolding grown
  grown_keeps D v h = ap (λ (m : Bool). m || (binds p v && some_row (λ y. D y && touches t y v) p)) h

  grown-leads : (D E : ℕ → Bool) → ((v : ℕ) → Leads (D v) (E v)) → (v : ℕ) → Leads (grown t p D v) (grown t p E v)
  unfolding grown
  grown-leads D E f v h = ⊎_elim first second (or_cases (D v) (binds p v && some_row (λ y. D y && touches t y v) p) h)
    where
      both : (a b c : Bool) → Leads a b → Leads (a && c) (b && c)
      both true b c k e = rw (k refl) e
      both false b c k e = absurd (false≢true e)

      first : D v ≡ true → (E v || (binds p v && some_row (λ y. E y && touches t y v) p)) ≡ true
      first e = ap (λ (m : Bool). m || (binds p v && some_row (λ y. E y && touches t y v) p)) (f v e)

      second : (binds p v && some_row (λ y. D y && touches t y v) p) ≡ true
          → (E v || (binds p v && some_row (λ y. E y && touches t y v) p)) ≡ true
      second e =
          let parts = and_parts (binds p v) (some_row (λ y. D y && touches t y v) p) e in
          or_later (E v)
          (ap₂ ◌&&◌ parts.0
          (some_leads (λ y. D y && touches t y v) (λ y. E y && touches t y v) (λ y. both (D y) (E y) (touches t y v) (f y)) p parts.1))

  abbrev pub Shut : (ℕ → Bool) → Type 0
  Shut D = (v : ℕ) → Leads (grown t p D v) (D v)

  shut_grown : (D : ℕ → Bool) → Shut D → Shut (grown t p D)
  shut_grown D s v h = grown-leads (grown t p D) D s v h

  -- either nothing is added, or something is
  shut_or_more : (D : ℕ → Bool) → Shut D ⊎ (suc (tally D p) ≤ tally (grown t p D) p)
  unfolding grown
  shut_or_more D =
      by_cases (some_row (λ v. grown t p D v && not (D v)) p)
      (λ e. inr (tally_more D (grown t p D) (grown_keeps D) p e))
      (λ e. inl (λ v h. none e v (D v) refl h))
    where
      none : some_row (λ v. grown t p D v && not (D v)) p ≡ false → (v : ℕ) → (a : Bool) → D v ≡ a
          → (a || (binds p v && some_row (λ y. D y && touches t y v) p)) ≡ true → a ≡ true
      none e v true k h = refl
      none e v false k h =
          let parts = and_parts (binds p v) (some_row (λ y. D y && touches t y v) p) h in
          absurd
          (true≢false
          (sym
          (some_here (λ v. grown t p D v && not (D v)) p v parts.0
          (ap₂ (λ (a b : Bool). (a || b) && not a) k h)) ∙
          e))

  module _ (x : ℕ) where
    shut-or-many : (n : ℕ) → Shut (stage t p x n) ⊎ (n ≤ tally (stage t p x n) p)
    unfolding stage
    shut-or-many zero = inr (omega arith)
    shut-or-many (suc n) =
        ⊎_elim (λ s. inl (shut_grown (stage t p x n) s))
        (λ l. ⊎_elim (λ s. inl (shut_grown (stage t p x n) s)) (λ m. inr (omega (arith, l, m))) (shut_or_more (stage t p x n)))
        (shut-or-many n)

    -- as many stages as the block has rows are enough
    pub shut : Shut (stage t p x (length p))
    unfolding grown
    shut =
        ⊎_elim (λ s. s)
        (λ l v h. ⊎_elim (λ e. e)
        (λ e. tally_all (stage t p x (length p)) p l v
        (and_parts (binds p v) (some_row (λ y. stage t p x (length p) y && touches t y v) p) e).0)
        (or_cases (stage t p x (length p) v) (binds p v && some_row (λ y. stage t p x (length p) y && touches t y v) p) h))
        (shut-or-many (length p))

    -- stage by stage

    stage-keeps : (n : ℕ) (v : ℕ) → Leads (stage t p x n v) (stage t p x (suc n) v)
    unfolding stage
    stage-keeps n v h = grown_keeps (stage t p x n) v h

    first_stage : (n : ℕ) (v : ℕ) → Leads (stage t p x 0 v) (stage t p x n v)
    first_stage zero v h = h
    first_stage (suc n) v h = stage-keeps n v (first_stage n v h)

    -- members are in the block
    pub stage-binds : (n : ℕ) (v : ℕ) → stage t p x n v ≡ true → binds p v ≡ true
    unfolding stage touched grown
    stage-binds zero v h = (and_parts (binds p v) (touches t x v) h).0
    stage-binds (suc n) v h =
        ⊎_elim (λ e. stage-binds n v e) (λ e. (and_parts (binds p v) (some_row (λ y. stage t p x n y && touches t y v) p) e).0)
        (or_cases (stage t p x n v) (binds p v && some_row (λ y. stage t p x n y && touches t y v) p) h)

    abbrev D : ℕ → Bool
    D = stage t p x (length p)

    abbrev S : ℕ → Bool
    S v = eqb v x || D v

    -- what touching passes on from x within the set, all its members have
    reached : (P : ℕ → Bool) → P x ≡ true → ((y w : ℕ) → S y ≡ true → S w ≡ true → P y ≡ true → touches t y w ≡ true → P w ≡ true)
        → (n : ℕ) → ((v : ℕ) → Leads (stage t p x n v) (D v)) → (v : ℕ) → stage t p x n v ≡ true → P v ≡ true
    unfolding stage touched grown
    reached P px pass zero sub v h =
        pass x v (ap (λ (m : Bool). m || D x) (eq-eqb x x refl)) (or_later (eqb v x) (sub v h)) px
        (and_parts (binds p v) (touches t x v) h).1
    reached P px pass (suc n) sub v h =
        let before : (w : ℕ) → stage t p x n w ≡ true → P w ≡ true = λ w e. reached P px pass n (λ u k. sub u (stage-keeps n u k)) w e in
        ⊎_elim (λ e. before v e)
        (λ e. let parts = and_parts (binds p v) (some_row (λ y. stage t p x n y && touches t y v) p) e in
        let y = some_found (λ y. stage t p x n y && touches t y v) p parts.1 in
        let of-y = and_parts (stage t p x n y.0) (touches t y.0 v) y.1 in
        pass y.0 v (or_later (eqb y.0 x) (sub y.0 (stage-keeps n y.0 of-y.0))) (or_later (eqb v x) (sub v h))
        (before y.0 of-y.0) of-y.1) (or_cases (stage t p x n v) (binds p v && some_row (λ y. stage t p x n y && touches t y v) p) h)

    -- so a variable of the block that doesn't depend on x has no literal in the subtree that is chosen
    linked : (z : ℕ) → binds p z ≡ true → eqb z x ≡ false → D z ≡ false → Linked S x z (touches t)
    unfolding grown stage touched
    linked z b n d =
        record {
          outside = ap₂ ◌||◌ n d;
          untouched = λ y m. free y m (touches t y z) refl;
          connected =
              λ P px pass y m. ⊎_elim (λ e. ap P (eqb-true y x e) ∙ px) (λ e. reached P px pass (length p) (λ v k. k) y e)
              (or_cases (eqb y x) (D y) m);
        }
      where
        free : (y : ℕ) → S y ≡ true → (b : Bool) → touches t y z ≡ b → b ≡ false
        free y m false e = refl
        free y m true e =
            absurd
            (true≢false
            (sym
            (⊎_elim
            (λ k. first_stage (length p) z (ap₂ ◌&&◌ b (ap (λ (v : ℕ). touches t v z) (sym (eqb-true y x k)) ∙ e)))
            (λ k. shut z
            (or_later (D z) (ap₂ ◌&&◌ b (some_here (λ v. D v && touches t v z) p y (stage-binds (length p) y k) (ap₂ ◌&&◌ k e)))))
            (or_cases (eqb y x) (D y) m)) ∙
            d))

    pub block_apart : (z : ℕ) → binds p z ≡ true → eqb z x ≡ false → D z ≡ false → has (chosen_by x D) t ≡ true
        → within (chosen_by x D) (of z) t ≡ false
    block_apart z b n d h = apart S x z (touches t) (linked z b n d) t h (λ y w m. refl)
