-- Filling the table of moves: what is left to put in.
-- Assumes nothing.
use mathlib.Core.Path.{◌≡◌, sym, ap, ap₂, ◌∙◌, subst}
use mathlib.Core.Bool.{Bool}
use mathlib.Core.List.{List, [], ◌∷◌, ◌++◌}
use Prim.Native.Nat.{ℕ, suc, ◌+◌, ◌≤◌, ◌<◌}
use native.Mathlib.Numerals.{add-one}
use native.Mathlib.Omega.{arith}
use lib.ListN.{length, get_or, drop, set, length-set}
use lib.Seq.{drop-cons, drop-length}
use Rattle.formula.specs.Tree.{Prefix}
use Rattle.sheet.specs.Format.{Bytes}
use Rattle.sheet.specs.Force.{value_of, values_of}
use Rattle.prefixes.specs.Places.{binding_at}
use Rattle.substitution.specs.Changes.{put_entry, numbers}
use Rattle.force.specs.Inner.Moves.{put_all, moves}

-- the first i values are put in: the others and the value tried are left
pub record Filled (p : Prefix) (vs : Bytes) (c : Bool) (t : List ℕ) (i : ℕ) : Type 0 where
  pub within : i ≤ length vs
  pub left : moves (values_of vs ++ (c ∷ [])) p ≡ put_all (values_of (drop i vs) ++ (c ∷ [])) (drop i p) t
  pub long : length t ≡ 1025

module _ (p : Prefix) (vs : Bytes) (c : Bool) where
  pub filled_none : {t : List ℕ} → t ≡ numbers (1025) → length t ≡ 1025 → Filled p vs c t 0
  filled_none {t} e l =
      record { within = omega arith; left = ap (λ (t : List ℕ). put_all (values_of vs ++ (c ∷ [])) p t) (sym e); long = l }

  -- a list of moves whose first is for row i
  one : (b : Bool) (bs : List Bool) (t : List ℕ) (i : ℕ) → i < length p
      → put_all (b ∷ bs) (drop i p) t ≡ put_all bs (drop (suc i) p) (set t (binding_at p i).variable (put_entry b))
  unfolding put_all binding_at
  one b bs t i h = ap (λ (q : Prefix). put_all (b ∷ bs) q t) (drop-cons p i _ h)

  pub filled_next : {t new : List ℕ} {i x : ℕ} → length vs < length p → i < length vs → x ≡ (binding_at p i).variable
      → new ≡ set t x (put_entry (value_of (get_or vs i 0))) → Filled p vs c t i → Filled p vs c new (i + 1)
  filled_next {t} {new} {i} {x} short h e n s =
      record {
        within = omega arith;
        left =
            s.left ∙
            ap (λ (l : Bytes). put_all (values_of l ++ (c ∷ [])) (drop i p) t) (drop-cons vs i 0 h) ∙
            one (value_of (get_or vs i 0)) _ t i (omega arith) ∙
            ap₂ (λ (k : ℕ) (u : List ℕ). put_all (values_of (drop k vs) ++ (c ∷ [])) (drop k p) u) (sym (add-one i))
            (ap (λ (y : ℕ). set t y (put_entry (value_of (get_or vs i 0)))) (sym e) ∙ sym n);
        long = ap length n ∙ length-set t x _ ∙ s.long;
      }

  pub filled-all : {t new : List ℕ} {i x : ℕ} → length vs < length p → length vs ≤ i → x ≡ (binding_at p (length vs)).variable
      → new ≡ set t x (put_entry c) → Filled p vs c t i → new ≡ moves (values_of vs ++ (c ∷ [])) p
  unfolding put_all
  filled-all {t} {new} {i} {x} short h e n s =
      let all = subst (Filled p vs c t) (omega (arith, s.within)) s in
      sym
      (all.left ∙ ap (λ (l : Bytes). put_all (values_of l ++ (c ∷ [])) (drop (length vs) p) t) (drop-length vs) ∙
      one c [] t (length vs) short ∙ ap (λ (y : ℕ). set t y (put_entry c)) (sym e) ∙ sym n)
