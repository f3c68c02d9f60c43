-- A strategy that wins, wherever it comes from, shows the truth.
-- Assumes nothing.
use mathlib.Core.Path.{◌≡◌, refl, sym, ◌∙◌, ap, ap₂, fun_ext}
use mathlib.Core.Bool.{Bool, true, false, cond, or-true, and-false, false≢true}
use mathlib.Core.List.{[], ◌∷◌}
use Prim.Native.Nat.{ℕ}
use lib.Dec.{eqb}
use borrow.Author.Tests.{eqb-true, eq-eqb, ne_eqb}
use Rattle.formula.specs.Tree.{and, or, dual, same_op, Quantifier, Binding, Prefix, Formula, binds, distinct}
use Rattle.formula.specs.Truth.{Assignment, put, join, eval, bind, truth}
use Rattle.formula.specs.Force.{wanted}
use Rattle.formula.specs.Strategy.{Strategy, owns, before, WinsOn, Wins}
use Rattle.formula.proofs.Booleans.{join_self, eqb_comm}
use Rattle.formula.proofs.Binding.{put_again, same_op_eq, bind-put}
use Rattle.formula.proofs.Prefixes.{distinct_parts}
use Rattle.formula.proofs.Strategy.Rows.{owns_other, owns_own, owns-bound, owns_none}

-- the value that a variable has, set once more
pub put_same : (ρ : Assignment) (x : ℕ) (b : Bool) → ρ x ≡ b → put ρ x b ≡ ρ
put_same ρ x b h = fun_ext (λ v. at v (eqb v x) refl)
  where
    at : (v : ℕ) (m : Bool) → eqb v x ≡ m → cond m b (ρ v) ≡ ρ v
    at v true e = sym h ∙ ap ρ (sym (eqb-true v x e))
    at v false e = refl

pub put_own : (ρ : Assignment) (x : ℕ) (b : Bool) → put ρ x b x ≡ b
put_own ρ x b = ap (λ (m : Bool). cond m b (ρ x)) (eq-eqb x x refl)

-- an owner that gets what it wants with one value gets it
pub join-wanted : (q : Quantifier) (B : Bool → Bool) (b : Bool) → B b ≡ wanted q → join q (B false) (B true) ≡ wanted q
join-wanted or B true h = ap (λ (c : Bool). join or (B false) c) h ∙ or-true (B false)
join-wanted or B false h = ap (λ (c : Bool). join or c (B true)) h
join-wanted and B true h = ap (λ (c : Bool). join and (B false) c) h ∙ and-false (B false)
join-wanted and B false h = ap (λ (c : Bool). join and c (B true)) h

module _ (q : Quantifier) (z : Binding) (p : Prefix) (matrix : Assignment → Bool) (S : Strategy) (fresh : binds p z.variable ≡ false)
    (w : WinsOn q (z ∷ p) matrix S) where
  apart : (x : ℕ) → owns q p x ≡ true → eqb z.variable x ≡ false
  apart x h = ne_eqb z.variable x (λ e. false≢true (sym fresh ∙ ap (binds p) e ∙ (owns-bound q p x h).0))

  in_front : (x v : ℕ) → eqb z.variable x ≡ false → eqb z.variable v ≡ false
      → owns (dual q) (before x (z ∷ p)) v ≡ owns (dual q) (before x p) v
  unfolding before
  in_front x v h k =
      ap (λ (m : Bool). owns (dual q) (cond m [] (z ∷ before x p)) v) h ∙ owns_other (dual q) z (before x p) v k

  -- with the first variable at b, and left alone, the strategy wins what is left, if it plays that value
  rest_wins : (b : Bool) → ((ρ : Assignment) → S (put ρ z.variable b) z.variable ≡ b)
      → WinsOn q p (λ ρ. matrix (put ρ z.variable b)) (λ ρ. put (S (put ρ z.variable b)) z.variable (ρ z.variable))
  rest_wins b plays =
      record {
        own_only = own;
        has_wanted =
            λ ρ. ap matrix
            (put_again (S (put ρ z.variable b)) z.variable (ρ z.variable) b ∙
            put_same (S (put ρ z.variable b)) z.variable b (plays ρ)) ∙
            w.has_wanted (put ρ z.variable b);
        by_front = front;
      }
    where
      own : (ρ : Assignment) (v : ℕ) → owns q p v ≡ false
          → put (S (put ρ z.variable b)) z.variable (ρ z.variable) v ≡ ρ v
      own ρ v h = at (eqb v z.variable) refl
        where
          at : (m : Bool) → eqb v z.variable ≡ m → cond m (ρ z.variable) (S (put ρ z.variable b) v) ≡ ρ v
          at true e = ap ρ (sym (eqb-true v z.variable e))
          at false e =
              w.own_only (put ρ z.variable b) v (owns_other q z p v (eqb_comm z.variable v ∙ e) ∙ h) ∙
              ap (λ (m : Bool). cond m b (ρ v)) e

      front : (x : ℕ) → owns q p x ≡ true → (ρ σ : Assignment) → ((v : ℕ) → owns (dual q) (before x p) v ≡ true → ρ v ≡ σ v)
          → put (S (put ρ z.variable b)) z.variable (ρ z.variable) x ≡ put (S (put σ z.variable b)) z.variable (σ z.variable) x
      front x h ρ σ agree =
          let other : eqb z.variable x ≡ false = apart x h in
          let flip : eqb x z.variable ≡ false = eqb_comm x z.variable ∙ other in
          ap (λ (m : Bool). cond m (ρ z.variable) (S (put ρ z.variable b) x)) flip ∙
          w.by_front x (owns_other q z p x other ∙ h) (put ρ z.variable b) (put σ z.variable b) (λ v k. at v k (eqb v z.variable) refl) ∙
          sym (ap (λ (m : Bool). cond m (σ z.variable) (S (put σ z.variable b) x)) flip)
        where
          at : (v : ℕ) → owns (dual q) (before x (z ∷ p)) v ≡ true → (m : Bool) → eqb v z.variable ≡ m → cond m b (ρ v) ≡ cond m b (σ v)
          at v k true e = refl
          at v k false e = agree v (sym (in_front x v (apart x h) (eqb_comm z.variable v ∙ e)) ∙ k)

  -- the first variable: its owner plays one value, whatever the assignment is; another's keeps its value
  plays_own : same_op q z.quantifier ≡ true → (ρ σ : Assignment) → S ρ z.variable ≡ S σ z.variable
  unfolding before
  plays_own h ρ σ =
      let own : eqb z.variable z.variable ≡ true = eq-eqb z.variable z.variable refl in
      w.by_front z.variable (owns_own q z p z.variable own ∙ h) ρ σ
      (λ v k. absurd
      (false≢true
      (sym (owns_none (dual q) v) ∙ sym (ap (λ (m : Bool). owns (dual q) (cond m [] (z ∷ before z.variable p)) v) own) ∙ k)))

  plays_other : same_op q z.quantifier ≡ false → (b : Bool) (ρ : Assignment) → S (put ρ z.variable b) z.variable ≡ b
  plays_other h b ρ =
      w.own_only (put ρ z.variable b) z.variable (owns_own q z p z.variable (eq-eqb z.variable z.variable refl) ∙ h) ∙
      put_own ρ z.variable b

pub bind_wins : (q : Quantifier) (p : Prefix) (matrix : Assignment → Bool) (S : Strategy) → distinct p ≡ true → WinsOn q p matrix S
    → (ρ : Assignment) → bind p matrix ρ ≡ wanted q
unfolding bind
bind_wins q [] matrix S d w ρ = ap matrix (sym (fun_ext (λ v. w.own_only ρ v (owns_none q v)))) ∙ w.has_wanted ρ
bind_wins q (z ∷ p) matrix S d w ρ =
    by
    (λ b plays. bind-put p matrix z.variable b ρ fresh ∙
    bind_wins q p _ _ (distinct_parts z p d).1 (rest_wins q z p matrix S fresh w b plays) ρ)
    (same_op q z.quantifier) refl
  where
    fresh : binds p z.variable ≡ false
    fresh = (distinct_parts z p d).0

    B : Bool → Bool
    B b = bind p matrix (put ρ z.variable b)

    by : ((b : Bool) → ((σ : Assignment) → S (put σ z.variable b) z.variable ≡ b) → B b ≡ wanted q)
        → (m : Bool) → same_op q z.quantifier ≡ m → join z.quantifier (B false) (B true) ≡ wanted q
    by won true e =
        ap (λ (r : Quantifier). join r (B false) (B true)) (sym (same_op_eq q z.quantifier e)) ∙
        join-wanted q B (S ρ z.variable) (won (S ρ z.variable) (λ σ. plays_own q z p matrix S fresh w e _ ρ))
    by won false e =
        ap₂ (join z.quantifier) (won false (plays_other q z p matrix S fresh w e false)) (won true (plays_other q z p matrix S fresh w e true)) ∙
        join_self z.quantifier (wanted q)

-- theorem 3
pub wins_truth : (q : Quantifier) (f : Formula) (S : Strategy) → distinct f.prefix ≡ true → Wins q f S → truth f ≡ wanted q
unfolding truth
wins_truth q f S d w = bind_wins q f.prefix (eval f.matrix) S d w (λ _. false)
