-- A certificate whose steps are all valid and whose last constraint is empty has the truth for its verdict, whatever the steps are.
-- Assumes nothing.
use mathlib.Core.Path.{◌≡◌, refl, sym, ◌∙◌, subst}
use mathlib.Core.Bool.{Bool, true, false, ◌&&◌, cond, false≢true, true≢false}
use mathlib.Core.List.{List, [], ◌∷◌, ◌++◌}
use mathlib.Core.Logic.{◌⊎◌, inl, inr, ⊎_elim}
use mathlib.Core.Option.{Option, none, some}
use Prim.Native.Nat.{ℕ, zero, suc}
use native.Mathlib.Omega.{arith}
use lib.Dec.{eqb}
use lib.ListN.{length, get_elem?}
use borrow.Author.Tests.{eqb-true}
use Rattle.formula.specs.Tree.{Op, Formula, distinct}
use Rattle.formula.specs.Truth.{Assignment, unit, eval, bind, truth}
use Rattle.formula.specs.Certificates.{Constraint, Reason, initial, derived, Inference, resolvent, derives, is_valid, valid_steps, ends_empty, certain, uncertain, certified}
use Rattle.formula.proofs.Certificates.Core.{Settles, bind-unit}
use Rattle.formula.proofs.Certificates.Constraints.{joined_at, settles-initial, settles-resolvent}
use Rattle.formula.proofs.Certificates.Reduction.{Joined, join_derived}

-- numbers

getElem?-last : (cs : List Constraint) (c : Constraint) → get_elem? (cs ++ (c ∷ [])) (length cs) ≡ some c
getElem?-last [] c = refl
getElem?-last (d ∷ cs) c = getElem?-last cs c

getElem?-++ : (cs : List Constraint) (c : Constraint) (n : ℕ) (e : Constraint) → get_elem? (cs ++ (c ∷ [])) n ≡ some e
    → (get_elem? cs n ≡ some e) ⊎ (c ≡ e)
getElem?-++ [] c zero e h = inr cc
getElem?-++ [] c (suc n) e h = inl h
getElem?-++ (d ∷ cs) c zero e h = inl h
getElem?-++ (d ∷ cs) c (suc n) e h = getElem?-++ cs c n e h

-- the matrix joined with the constraints so far has the formula's truth
record Kept (o : Op) (f : Formula) (cs : List Constraint) : Type 0 where
  matrix : Assignment → Bool
  same_truth : (ρ : Assignment) → bind f.prefix matrix ρ ≡ bind f.prefix (eval f.matrix) ρ
  keeps : Settles o (eval f.matrix) matrix
  settled : (n : ℕ) (c : Constraint) → get_elem? cs n ≡ some c → Settles o (joined_at o c) matrix

module _ (o : Op) (f : Formula) (d : distinct f.prefix ≡ true) where
  kept-none : Kept o f []
  kept-none =
      record {
        matrix = eval f.matrix;
        same_truth = λ ρ. refl;
        keeps = λ ρ e. e;
        settled = λ n c h. let z : ◌≡◌ {A = Bool} true false = cc in absurd (true≢false z);
      }

  kept_more : (cs : List Constraint) (c : Constraint) (k : Kept o f cs) → Joined o f.prefix k.matrix (joined_at o c)
      → Kept o f (cs ++ (c ∷ []))
  kept_more cs c k j =
      record {
        matrix = j.matrix;
        same_truth = λ ρ. j.same_truth ρ ∙ k.same_truth ρ;
        keeps = λ ρ e. j.keeps ρ (k.keeps ρ e);
        settled = λ n e h.
            ⊎_elim (λ (i : get_elem? cs n ≡ some e) ρ u. j.keeps ρ (k.settled n e i ρ u))
            (λ (i : c ≡ e). subst (λ (e : Constraint). Settles o (joined_at o e) j.matrix) i j.settled) (getElem?-++ cs c n e h);
      }

  kept_step : (cs : List Constraint) (why : Reason) (c : Constraint) → Kept o f cs → is_valid o f cs why c ≡ true → Kept o f (cs ++ (c ∷ []))
  unfolding is_valid derives
  kept_step cs initial c k h =
      kept_more cs c k
      (record {
        matrix = k.matrix;
        same_truth = λ ρ. refl;
        keeps = λ ρ e. e;
        settled = λ ρ e. k.keeps ρ (settles-initial o c f.matrix h ρ e);
      })
  kept_step cs (derived l m n) c k h = by (get_elem? cs m) (get_elem? cs n) refl refl h
    where
      by : (a b : Option Constraint) → get_elem? cs m ≡ a → get_elem? cs n ≡ b → derives o f.prefix l a b c ≡ true → Kept o f (cs ++ (c ∷ []))
      by none b p q g = absurd (false≢true g)
      by (some a) none p q g = absurd (false≢true g)
      by (some a) (some b) p q g =
          kept_more cs c k
          (join_derived o f.prefix d (resolvent l a b) c k.matrix g
          (settles-resolvent o l a b k.matrix (k.settled m a p) (k.settled n b q)))

  -- an empty constraint is the side's unit everywhere
  kept_empty : (cs : List Constraint) (c : Constraint) → Kept o f (cs ++ (c ∷ [])) → eqb (length c) 0 ≡ true → truth f ≡ unit o
  unfolding truth joined_at
  kept_empty cs [] k e =
      sym (k.same_truth (λ _. false)) ∙
      bind-unit o f.prefix k.matrix (λ ρ. k.settled (length cs) [] (getElem?-last cs []) ρ refl) (λ _. false)
  kept_empty cs (l ∷ c) k e = let z = eqb-true (length (l ∷ c)) 0 e in absurd (omega arith)

  -- the first of so many valid steps is valid, and so are the others after it
  first_valid : (cs : List Constraint) (s : Inference) (ss : List Inference) → valid_steps o f cs (s ∷ ss) ≡ length (s ∷ ss)
      → (is_valid o f cs s.reason s.constraint ≡ true) × (valid_steps o f (cs ++ (s.constraint ∷ [])) ss ≡ length ss)
  unfolding valid_steps
  first_valid cs s ss h = by (is_valid o f cs s.reason s.constraint) h
    where
      by : (m : Bool) → cond m (suc (valid_steps o f (cs ++ (s.constraint ∷ [])) ss)) 0 ≡ suc (length ss)
          → (m ≡ true) × (valid_steps o f (cs ++ (s.constraint ∷ [])) ss ≡ length ss)
      by true e = (refl, omega arith)
      by false e = absurd (omega arith)

  ends : (cs : List Constraint) (ss : List Inference) → Kept o f cs → valid_steps o f cs ss ≡ length ss → ends_empty ss ≡ true
      → truth f ≡ unit o
  unfolding ends_empty
  ends cs [] k v e = absurd (false≢true e)
  ends cs (s ∷ []) k v e =
      let first = first_valid cs s [] v in
      kept_empty cs s.constraint (kept_step cs s.reason s.constraint k first.0) e
  ends cs (s ∷ s' ∷ ss) k v e =
      let first = first_valid cs s (s' ∷ ss) v in
      ends (cs ++ (s.constraint ∷ [])) (s' ∷ ss) (kept_step cs s.reason s.constraint k first.0) first.1 e

-- a certificate is believed for the truth alone
pub certified-truth : (o : Op) (f : Formula) (ss : List Inference) (v : Bool) → distinct f.prefix ≡ true
    → certified o f ss ≡ certain v → truth f ≡ v
unfolding certified
certified-truth o f ss v d h = by (eqb (valid_steps o f [] ss) (length ss)) (ends_empty ss) refl refl h
  where
    by : (a b : Bool) → eqb (valid_steps o f [] ss) (length ss) ≡ a → ends_empty ss ≡ b
        → cond (a && b) (certain (unit o)) (uncertain (valid_steps o f [] ss)) ≡ certain v → truth f ≡ v
    by true true p q e =
        let same : unit o ≡ v = cc in
        ends o f d [] ss (kept-none o f d) (eqb-true (valid_steps o f [] ss) (length ss) p) q ∙ same
    by true false p q e = let z : ◌≡◌ {A = Bool} true false = cc in absurd (true≢false z)
    by false b p q e = let z : ◌≡◌ {A = Bool} true false = cc in absurd (true≢false z)
