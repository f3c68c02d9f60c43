-- The steps that words say, by their numbers: the first that isn't derived or doesn't settle the matrix is how many are valid.
-- Assumes nothing.
use mathlib.Core.Path.{◌≡◌, refl, sym, ap, ap₂, ◌∙◌}
use mathlib.Core.Bool.{Bool, true, false, not, ◌&&◌, cond}
use mathlib.Core.List.{List, [], ◌∷◌, ◌++◌, map}
use mathlib.Core.Option.{none, some}
use Prim.Native.Nat.{ℕ, zero, suc, ◌+◌, ◌-◌, ◌/◌, ◌≤◌, ◌<◌}
use native.Mathlib.Nat.{add-zero, zero-add}
use native.Mathlib.Decide.{dec_lt}
use native.Mathlib.Omega.{arith}
use lib.Dec.{eqb, ltb, leb}
use lib.ListN.{length, get_elem?, length-map}
use lib.Seq.{length-slice}
use borrow.Author.Tests.{lt-ltb, le-ltb, eq-eqb, ne_eqb, leb-true, leb-false, not-true, not-false}
use Rattle.formula.specs.Tree.{Formula}
use Rattle.formula.specs.Truth.{unit}
use Rattle.formula.specs.Certificates.{Constraint, is_valid, derives, follows, resolvent, valid_steps, ends_empty, certain, uncertain, certified}
use Rattle.sets.specs.Sets.{IsFirst}
use Rattle.sheet.specs.Certificates.{literal_of, coded, code_of, head_word, reason_of, step_words, step_constraint, steps_from, steps_said, side_for}
use Rattle.sheet.proofs.Certificates.{length_steps}
use Rattle.resolution.specs.declared.words.Part.{Part}
use Rattle.resolution.specs.Codes.{PartOf}
use Rattle.resolution.specs.Steps.{follows_at, derived_by, derived_at, FirstUnderived}
use Rattle.certify.specs.Inner.Initial.{settled_by, settled_at}

module _ (heads codes : List ℕ) where
  -- the constraints of n steps from step i on
  constraints : ℕ → ℕ → List Constraint
  constraints i n = map (λ s. s.constraint) (steps_from heads codes i n)

  constraints_snoc : (i n : ℕ) → constraints i (suc n) ≡ constraints i n ++ (step_constraint heads codes (i + n) ∷ [])
  unfolding constraints steps_from
  constraints_snoc i zero = ap (λ k. step_constraint heads codes k ∷ []) (sym (add-zero i))
  constraints_snoc i (suc n) =
      ap (λ (l : List Constraint). step_constraint heads codes i ∷ l)
      (constraints_snoc (suc i) n ∙
      ap (λ k. constraints (suc i) n ++ (step_constraint heads codes k ∷ [])) (sum i n))
    where
      sum : (i n : ℕ) → suc i + n ≡ i + suc n
      sum i n = omega arith

  constraint_there : (i n m : ℕ) → m < n → get_elem? (constraints i n) m ≡ some (step_constraint heads codes (i + m))
  unfolding constraints steps_from
  constraint_there i zero m h = absurd (omega arith)
  constraint_there i (suc n) zero h = ap (λ k. some (step_constraint heads codes k)) (sym (add-zero i))
  constraint_there i (suc n) (suc m) h =
      constraint_there (suc i) n m (omega arith) ∙ ap (λ k. some (step_constraint heads codes k)) (sum i m)
    where
      sum : (i n : ℕ) → suc i + n ≡ i + suc n
      sum i n = omega arith

  constraint_none : (i n m : ℕ) → n ≤ m → get_elem? (constraints i n) m ≡ none
  unfolding constraints steps_from
  constraint_none i zero m h = refl
  constraint_none i (suc n) zero h = absurd (omega arith)
  constraint_none i (suc n) (suc m) h = constraint_none (suc i) n m (omega arith)

  module _ (v : Bool) (f : Formula) where
    -- step k, among those before it
    valid : ℕ → Bool
    valid k =
        is_valid (side_for v) f (constraints 0 k) (reason_of (head_word heads k 0) (head_word heads k 1) (head_word heads k 2))
        (step_constraint heads codes k)

    derives-named : (k c m n : ℕ)
        → derives (side_for v) f.prefix (coded c) (get_elem? (constraints 0 k) m) (get_elem? (constraints 0 k) n) (step_constraint heads codes k) ≡
        follows_at (side_for v) f.prefix heads codes k c m n
    unfolding derives follows_at
    derives-named k c m n = by (dec_lt m k) (dec_lt n k)
      where
        A : ℕ → Constraint
        A j = step_constraint heads codes j

        by : Dec (m < k) → Dec (n < k)
            → derives (side_for v) f.prefix (coded c) (get_elem? (constraints 0 k) m) (get_elem? (constraints 0 k) n) (A k) ≡
            ((ltb m k && ltb n k) && follows (side_for v) f.prefix (resolvent (coded c) (A m) (A n)) (A k))
        by (yes h) (yes g) =
            rw (
              constraint_there 0 k m h ∙ ap (λ j. some (A j)) (zero-add m),
              constraint_there 0 k n g ∙ ap (λ j. some (A j)) (zero-add n),
              lt-ltb m k h,
              lt-ltb n k g,
            )
        by (yes h) (no g) =
            rw (
              constraint_there 0 k m h ∙ ap (λ j. some (A j)) (zero-add m),
              constraint_none 0 k n (omega arith),
              lt-ltb m k h,
              le-ltb n k (omega arith),
            )
        by (no h) d = rw (constraint_none 0 k m (omega arith), le-ltb m k (omega arith))

    valid-parts : (k : ℕ) → valid k ≡ (derived_at (side_for v) f.prefix heads codes k && settled_at v f.matrix heads codes k)
    unfolding valid is_valid reason_of derived_by settled_by
    valid-parts k = by (head_word heads k 0) (head_word heads k 1) (head_word heads k 2) refl refl
      where
        right : (b : Bool) → b ≡ (b && true)
        right true = refl
        right false = refl

        by : (w m n : ℕ) → m ≡ head_word heads k 1 → n ≡ head_word heads k 2
            → is_valid (side_for v) f (constraints 0 k) (reason_of w m n) (step_constraint heads codes k) ≡
            (derived_by (side_for v) f.prefix heads codes k w && settled_by v f.matrix heads codes k w)
        by zero m n e g = refl
        by (suc w) m n e g =
            derives-named k (code_of w) m n ∙ ap₂ (follows_at (side_for v) f.prefix heads codes k (code_of w)) e g ∙
            right (follows_at (side_for v) f.prefix heads codes k (code_of w) (head_word heads k 1) (head_word heads k 2))

    -- all steps from k on and before r are valid, and r, if it is one of n, isn't
    valid-run : (n k r : ℕ) → k ≤ r → r ≤ k + n → ((j : ℕ) → k ≤ j → j < r → valid j ≡ true) → (r < k + n → valid r ≡ false)
        → k + valid_steps (side_for v) f (constraints 0 k) (steps_from heads codes k n) ≡ r
    unfolding valid_steps steps_from is_valid valid
    valid-run zero k r h l good bad = omega arith
    valid-run (suc n) k r h l good bad =
        by (dec_lt k r)
        (λ m.
        ap (λ (l : List Constraint). suc k + valid_steps (side_for v) f l (steps_from heads codes (suc k) n)) (sym next) ∙
        valid-run n (suc k) r m (omega arith) (λ j i. good j (omega arith)) (λ i. bad (omega arith)))
      where
        cs : List Constraint
        cs = constraints 0 k ++ (step_constraint heads codes k ∷ [])

        rest : ℕ
        rest = valid_steps (side_for v) f cs (steps_from heads codes (suc k) n)

        next : constraints 0 (suc k) ≡ cs
        next =
            constraints_snoc 0 k ∙ ap (λ j. constraints 0 k ++ (step_constraint heads codes j ∷ [])) (zero-add k)

        more : suc k + rest ≡ r → k + suc rest ≡ r
        more e = omega arith

        by : Dec (k < r) → (suc k ≤ r → suc k + rest ≡ r) → k + cond (valid k) (suc rest) 0 ≡ r
        by (yes g) on = rw (good k (omega arith) g) (more (on (omega arith)))
        by (no g) on =
            let same : r ≡ k = omega arith in
            rw (ap valid (sym same) ∙ bad (omega arith)) (omega arith)

    -- what both walks find
    pub valid-found : (steps r : ℕ) → FirstUnderived (side_for v) f.prefix heads codes steps
        → IsFirst (λ k. not (settled_at v f.matrix heads codes k)) steps r
        → r ≡ valid_steps (side_for v) f [] (steps_said heads codes)
    unfolding steps_said constraints steps_from
    valid-found steps r d s =
        sym
        (sym (zero-add (valid_steps (side_for v) f [] (steps_from heads codes 0 (length heads / 4)))) ∙
        valid-run (length heads / 4) 0 r (omega arith) (omega (arith, d.within, s.within)) (λ j h l. good j l) bad)
      where
        good : (j : ℕ) → j < r → valid j ≡ true
        good j l =
            valid-parts j ∙
            ap₂ ◌&&◌
            (not-false (derived_at (side_for v) f.prefix heads codes j) (d.none_below j (omega (arith, s.within))))
            (not-false (settled_at v f.matrix heads codes j) (s.none_below j l))

        left : (b : Bool) → (b && false) ≡ false
        left true = refl
        left false = refl

        by : Dec (r < steps) → r < length heads / 4
            → (derived_at (side_for v) f.prefix heads codes r && settled_at v f.matrix heads codes r) ≡ false
        by (yes g) l =
            ap (λ b. derived_at (side_for v) f.prefix heads codes r && b) (not-true (settled_at v f.matrix heads codes r) (s.is_in g)) ∙
            left (derived_at (side_for v) f.prefix heads codes r)
        by (no g) l =
            let same : r ≡ steps = omega (arith, s.within) in
            ap (λ b. b && settled_at v f.matrix heads codes r)
            (ap (derived_at (side_for v) f.prefix heads codes) same ∙
            not-true (derived_at (side_for v) f.prefix heads codes steps) (d.is_in (omega arith)))

        bad : r < 0 + length heads / 4 → valid r ≡ false
        bad l = valid-parts r ∙ by (dec_lt r steps) (omega arith)

    -- the answer
    module _ (n : ℕ) (is : n ≡ valid_steps (side_for v) f [] (steps_said heads codes)) where
      steps-length : length (steps_said heads codes) ≡ length heads / 4
      unfolding steps_said
      steps-length = length_steps heads codes 0 (length heads / 4)

      pub uncertain-short : (n ≡ length heads / 4 → ⊥) → uncertain n ≡ certified (side_for v) f (steps_said heads codes)
      unfolding certified
      uncertain-short h = rw (← is, steps-length, ne_eqb n (length heads / 4) h)

      pub uncertain-ended : (e : Bool) → n ≡ length heads / 4 → e ≡ ends_empty (steps_said heads codes) → e ≡ false
          → uncertain n ≡ certified (side_for v) f (steps_said heads codes)
      unfolding certified
      uncertain-ended e h t g = rw (← is, steps-length, eq-eqb n (length heads / 4) h, ← t, g)

      pub certain-ended : (e : Bool) → n ≡ length heads / 4 → e ≡ ends_empty (steps_said heads codes) → e ≡ true
          → certain v ≡ certified (side_for v) f (steps_said heads codes)
      unfolding certified
      certain-ended e h t g = rw (← is, steps-length, eq-eqb n (length heads / 4) h, ← t, g) (ap certain (same v))
        where
          same : (v : Bool) → v ≡ unit (side_for v)
          same true = refl
          same false = refl

  -- the last constraint
  ends_last : (i n : ℕ) → ends_empty (steps_from heads codes i (suc n)) ≡ eqb (length (step_constraint heads codes (i + n))) 0
  unfolding ends_empty steps_from
  ends_last i zero = ap (λ k. eqb (length (step_constraint heads codes k)) 0) (sym (add-zero i))
  ends_last i (suc n) = ends_last (suc i) n ∙ ap (λ k. eqb (length (step_constraint heads codes k)) 0) (sum i n)
    where
      sum : (i n : ℕ) → suc i + n ≡ i + suc n
      sum i n = omega arith

  pub ends-none : (n : ℕ) → n ≡ length heads / 4 → n ≡ 0 → false ≡ ends_empty (steps_said heads codes)
  unfolding steps_said steps_from ends_empty
  ends-none n e z = ap (λ k. ends_empty (steps_from heads codes 0 k)) (sym z ∙ e)

  pub ends_by : (n : ℕ) → n ≡ length heads / 4 → (n ≡ 0 → ⊥)
      → eqb (length (step_words heads codes (n - 1))) 0 ≡ ends_empty (steps_said heads codes)
  unfolding steps_said step_constraint
  ends_by zero e f = absurd (f refl)
  ends_by (suc n) e f =
      ap (λ k. eqb (length (step_words heads codes k)) 0) (less n) ∙
      ap (λ k. eqb k 0) (sym (length-map (step_words heads codes n) literal_of)) ∙
      ap (λ k. eqb (length (step_constraint heads codes k)) 0) (sym (zero-add n)) ∙ sym (ends_last 0 n) ∙
      ap (λ k. ends_empty (steps_from heads codes 0 k)) e
    where
      less : (n : ℕ) → suc n - 1 ≡ n
      less n = omega arith

  -- a part is empty exactly if its end isn't behind its beginning
  pub part_empty : (k skip : ℕ) (p : Part) → PartOf heads codes k skip p → leb p.to p.from ≡ eqb (length (step_words heads codes k)) 0
  part_empty k skip p is =
      compare p.to p.from ∙ ap (λ n. eqb n 0) (sym (length-slice p.from p.to codes is.within) ∙ ap length is.words_are)
    where
      compare : (t f : ℕ) → leb t f ≡ eqb (t - f) 0
      compare t f = by (leb t f) refl
        where
          by : (b : Bool) → leb t f ≡ b → b ≡ eqb (t - f) 0
          by true e = let l = leb-true t f e in sym (eq-eqb (t - f) 0 (omega arith))
          by false e = let l = leb-false t f e in sym (ne_eqb (t - f) 0 (λ z. omega arith))
