-- A certificate has a verdict exactly if all its steps are valid and its last constraint is empty; else the number is that of the first step
-- that isn't, or of all steps.
-- Assumes nothing.
use mathlib.Core.Path.{◌≡◌, refl, sym, ◌∙◌, ap}
use mathlib.Core.Bool.{Bool, true, false, ◌&&◌, cond, true≢false}
use mathlib.Core.List.{List, [], ◌∷◌, ◌++◌, map, append-nil, append_assoc}
use mathlib.Core.Logic.{◌⊎◌, inl, inr, ◌↔◌}
use Prim.Native.Nat.{ℕ, suc}
use lib.Dec.{eqb}
use lib.ListN.{length}
use borrow.Author.Tests.{eqb-true, eqb-false, eq-eqb}
use Rattle.formula.specs.Tree.{Op, Formula}
use Rattle.formula.specs.Truth.{unit}
use Rattle.formula.specs.Certificates.{Constraint, Inference, is_valid, valid_steps, ends_empty, certain, uncertain, certified, FirstInvalid}

constraints : List Inference → List Constraint
constraints ss = map (λ s. s.constraint) ss

-- a list of steps behind others
module _ (o : Op) (f : Formula) where
  record Invalid (cs : List Constraint) (ss : List Inference) (n : ℕ) : Type 0 where
    before : List Inference
    step : Inference
    behind : List Inference
    is_split : ss ≡ before ++ (step ∷ behind)
    is_number : n ≡ length before
    all_valid : valid_steps o f cs before ≡ n
    is_invalid : is_valid o f (cs ++ constraints before) step.reason step.constraint ≡ false

  first_invalid : (cs : List Constraint) (ss : List Inference)
      → (valid_steps o f cs ss ≡ length ss) ⊎ Invalid cs ss (valid_steps o f cs ss)
  unfolding valid_steps constraints
  first_invalid cs [] = inl refl
  first_invalid cs (s ∷ ss) = by (is_valid o f cs s.reason s.constraint) refl (first_invalid (cs ++ (s.constraint ∷ [])) ss)
    where
      next : List Constraint
      next = cs ++ (s.constraint ∷ [])

      by : (m : Bool) → is_valid o f cs s.reason s.constraint ≡ m
          → (valid_steps o f next ss ≡ length ss) ⊎ Invalid next ss (valid_steps o f next ss)
          → (cond m (suc (valid_steps o f next ss)) 0 ≡ suc (length ss)) ⊎ Invalid cs (s ∷ ss) (cond m (suc (valid_steps o f next ss)) 0)
      by true e (inl h) = inl (ap suc h)
      by true e (inr i) =
          inr
          (record {
            before = s ∷ i.before;
            step = i.step;
            behind = i.behind;
            is_split = ap (λ (us : List Inference). s ∷ us) i.is_split;
            is_number = ap suc i.is_number;
            all_valid =
                ap (λ (m : Bool). cond m (suc (valid_steps o f next i.before)) 0) e ∙ ap suc i.all_valid;
            is_invalid =
                ap (λ (ds : List Constraint). is_valid o f ds i.step.reason i.step.constraint)
                (sym (append_assoc cs (s.constraint ∷ []) (constraints i.before))) ∙ i.is_invalid;
          })
      by false e more =
          inr
          (record {
            before = [];
            step = s;
            behind = ss;
            is_split = refl;
            is_number = refl;
            all_valid = refl;
            is_invalid = ap (λ (ds : List Constraint). is_valid o f ds s.reason s.constraint) (append-nil cs) ∙ e;
          })

  pub certified_exactly : (ss : List Inference) (v : Bool) → (certified o f ss ≡ certain v)
      ↔ ((valid_steps o f [] ss ≡ length ss) × (ends_empty ss ≡ true) × (v ≡ unit o))
  unfolding certified
  certified_exactly ss v = (only (eqb n (length ss)) (ends_empty ss) refl refl, also)
    where
      n : ℕ
      n = valid_steps o f [] ss

      only : (a b : Bool) → eqb n (length ss) ≡ a → ends_empty ss ≡ b → cond (a && b) (certain (unit o)) (uncertain n) ≡ certain v
          → (n ≡ length ss) × (ends_empty ss ≡ true) × (v ≡ unit o)
      only true true p q e = (eqb-true n (length ss) p, q, cc)
      only true false p q e = let z : ◌≡◌ {A = Bool} true false = cc in absurd (true≢false z)
      only false b p q e = let z : ◌≡◌ {A = Bool} true false = cc in absurd (true≢false z)

      also : (n ≡ length ss) × (ends_empty ss ≡ true) × (v ≡ unit o)
          → cond (eqb n (length ss) && ends_empty ss) (certain (unit o)) (uncertain n) ≡ certain v
      also h = simp (eq-eqb n (length ss) h.0, h.1, h.2)

  pub uncertain_first : (ss : List Inference) (n : ℕ) → certified o f ss ≡ uncertain n
      → FirstInvalid o f ss n ⊎ ((n ≡ length ss) × (valid_steps o f [] ss ≡ n) × (ends_empty ss ≡ false))
  unfolding certified constraints
  uncertain_first ss n h = by (eqb k (length ss)) (ends_empty ss) refl refl h (first_invalid [] ss)
    where
      k : ℕ
      k = valid_steps o f [] ss

      by : (a b : Bool) → eqb k (length ss) ≡ a → ends_empty ss ≡ b → cond (a && b) (certain (unit o)) (uncertain k) ≡ uncertain n
          → (k ≡ length ss) ⊎ Invalid [] ss k → FirstInvalid o f ss n ⊎ ((n ≡ length ss) × (k ≡ n) × (ends_empty ss ≡ false))
      by true true p q e i = let z : ◌≡◌ {A = Bool} true false = cc in absurd (true≢false z)
      by true false p q e i = let same : k ≡ n = cc in inr (sym same ∙ eqb-true k (length ss) p, same, q)
      by false b p q e (inl i) = absurd (eqb-false k (length ss) p i)
      by false b p q e (inr i) =
          let same : k ≡ n = cc in
          inl
          (record {
            before = i.before;
            step = i.step;
            behind = i.behind;
            is_split = i.is_split;
            is_number = sym same ∙ i.is_number;
            all_valid = i.all_valid ∙ same;
            is_invalid = i.is_invalid;
          })
