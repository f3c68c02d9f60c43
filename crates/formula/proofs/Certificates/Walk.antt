-- For code that walks over a certificate: steps behind valid ones, and the literals of a resolvent one by one.
-- Assumes nothing.
use mathlib.Core.Path.{◌≡◌, refl, sym, ◌∙◌, ap, ap₂}
use mathlib.Core.Bool.{Bool, true, false, not, ◌&&◌, ◌||◌, cond, or_assoc}
use mathlib.Core.List.{List, [], ◌∷◌, ◌++◌, map, append-nil, append_assoc}
use Prim.Native.Nat.{ℕ, suc, ◌+◌}
use native.Mathlib.Omega.{arith}
use lib.ListN.{length}
use Rattle.formula.specs.Tree.{Op, Formula}
use Rattle.formula.specs.Certificates.{Literal, negated, same_literal, Constraint, some_literal, leave_out, resolvent, Inference, is_valid, valid_steps}

-- behind valid steps the count goes on
pub valid_steps-++ : (o : Op) (f : Formula) (cs : List Constraint) (before behind : List Inference) → valid_steps o f cs before ≡ length before
    → valid_steps o f cs (before ++ behind) ≡ length before + valid_steps o f (cs ++ map (λ s. s.constraint) before) behind
unfolding valid_steps
valid_steps-++ o f cs [] behind h =
    ap (λ (ds : List Constraint). valid_steps o f ds behind) (sym (append-nil cs)) ∙ none (valid_steps o f (cs ++ []) behind)
  where
    none : (n : ℕ) → n ≡ 0 + n
    none n = omega arith
valid_steps-++ o f cs (s ∷ before) behind h =
    by (is_valid o f cs s.reason s.constraint) h (valid_steps-++ o f next before behind)
  where
    next : List Constraint
    next = cs ++ (s.constraint ∷ [])

    all : List Constraint
    all = cs ++ (s.constraint ∷ map (λ s. s.constraint) before)

    more : (n m k : ℕ) → n ≡ m + k → suc n ≡ suc m + k
    more n m k e = omega arith

    by : (t : Bool) → cond t (suc (valid_steps o f next before)) 0 ≡ suc (length before)
        → (valid_steps o f next before ≡ length before
        → valid_steps o f next (before ++ behind) ≡ length before + valid_steps o f (next ++ map (λ s. s.constraint) before) behind)
        → cond t (suc (valid_steps o f next (before ++ behind))) 0 ≡ suc (length before) + valid_steps o f all behind
    by true e rest =
        more (valid_steps o f next (before ++ behind)) (length before) (valid_steps o f all behind)
        (rest (omega arith) ∙
        ap (λ (ds : List Constraint). length before + valid_steps o f ds behind)
        (append_assoc cs (s.constraint ∷ []) (map (λ s. s.constraint) before)))
    by false e rest = absurd (omega arith)

-- literals of two constraints, and of one that leaves a literal out

pub some_literal-++ : (P : Literal → Bool) (a b : Constraint) → some_literal P (a ++ b) ≡ (some_literal P a || some_literal P b)
unfolding some_literal
some_literal-++ P [] b = refl
some_literal-++ P (l ∷ a) b =
    ap (◌||◌ (P l)) (some_literal-++ P a b) ∙ sym (or_assoc (P l) (some_literal P a) (some_literal P b))

pub some_literal-leave_out : (P : Literal → Bool) (l : Literal) (c : Constraint)
    → some_literal P (leave_out l c) ≡ some_literal (λ k. not (same_literal l k) && P k) c
unfolding some_literal leave_out
some_literal-leave_out P l [] = refl
some_literal-leave_out P l (k ∷ c) = by (same_literal l k) (some_literal-leave_out P l c)
  where
    by : (m : Bool) → some_literal P (leave_out l c) ≡ some_literal (λ k. not (same_literal l k) && P k) c
        → some_literal P (cond m (leave_out l c) (k ∷ leave_out l c)) ≡
        ((not m && P k) || some_literal (λ k. not (same_literal l k) && P k) c)
    by true e = e
    by false e = ap (◌||◌ (P k)) e

pub some_literal-resolvent : (P : Literal → Bool) (l : Literal) (a b : Constraint)
    → some_literal P (resolvent l a b) ≡
    (some_literal (λ k. not (same_literal l k) && P k) a || some_literal (λ k. not (same_literal (negated l) k) && P k) b)
unfolding resolvent
some_literal-resolvent P l a b =
    some_literal-++ P (leave_out l a) (leave_out (negated l) b) ∙
    ap₂ ◌||◌ (some_literal-leave_out P l a) (some_literal-leave_out P (negated l) b)
