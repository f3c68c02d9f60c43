-- A strategy has a pair for each of the side's rows.
-- Assumes nothing.
use mathlib.Core.Path.{◌≡◌, refl, sym, ap, ap₂, ◌∙◌}
use mathlib.Core.Bool.{Bool, true, false, ◌||◌, cond, false≢true}
use mathlib.Core.List.{List, [], ◌∷◌}
use Prim.Native.Nat.{ℕ, suc}
use lib.Dec.{eqb}
use lib.ListN.{length}
use Rattle.formula.specs.Tree.{Quantifier, same_op, constant, Prefix, Formula, binds, without, distinct, closed}
use Rattle.formula.specs.Tidy.{tidied}
use Rattle.formula.specs.Solve.{Fits}
use Rattle.formula.specs.Strategy.{Pair, Pairs, owns, Move, moved, allowed, made, left, strategy, solve_moves, solve_strategy}
use Rattle.formula.proofs.Strategy.Rows.{owns_other, owns_own}
use Rattle.formula.proofs.Strategy.Moves.{Prenex, prenex_tidied, taken_made, pair_of, strategy-induction}

module _ (q : Quantifier) where
  -- a row more in front
  one_more : (m : Bool) (c : Pair) (g : Pairs) (n : ℕ) → length g ≡ n → length (cond m (c ∷ g) g) ≡ cond m (suc n) n
  one_more true c g n e = ap suc e
  one_more false c g n e = e

  -- a row of the side taken out is one fewer, and one of the other side none
  left-without : (x : ℕ) (p : Prefix) → binds p x ≡ true
      → length (left q p) ≡ cond (owns q p x) (suc (length (left q (without x p)))) (length (left q (without x p)))
  unfolding left without binds
  left-without x [] h = absurd (false≢true h)
  left-without x (z ∷ p) h = by (eqb z.variable x) refl h (left-without x p)
    where
      c : Pair
      c = record { variable = z.variable; function = constant false }

      side : Bool
      side = same_op q z.quantifier

      swap : (m n : Bool) (k : ℕ) → cond m (suc (cond n (suc k) k)) (cond n (suc k) k) ≡ cond n (suc (cond m (suc k) k)) (cond m (suc k) k)
      swap true true k = refl
      swap true false k = refl
      swap false true k = refl
      swap false false k = refl

      by : (m : Bool) → eqb z.variable x ≡ m → (m || binds p x) ≡ true
          → (binds p x ≡ true → length (left q p) ≡ cond (owns q p x) (suc (length (left q (without x p)))) (length (left q (without x p))))
          → length (cond side (c ∷ left q p) (left q p)) ≡
          cond (owns q (z ∷ p) x) (suc (length (left q (cond m p (z ∷ without x p))))) (length (left q (cond m p (z ∷ without x p))))
      by true e b rest =
          one_more side c (left q p) (length (left q p)) refl ∙
          ap (λ (o : Bool). cond o (suc (length (left q p))) (length (left q p))) (sym (owns_own q z p x e))
      by false e b rest =
          let k = length (left q (without x p)) in
          let o = owns q p x in
          one_more side c (left q p) (cond o (suc k) k) (rest b) ∙ swap side o k ∙
          ap₂ (λ (o : Bool) (n : ℕ). cond o (suc n) n) (sym (owns_other q z p x e)) (sym (one_more side c (left q (without x p)) k refl))

  strategy_counts : (ms : List Move) (f : Formula) → Prenex f → length (strategy q ms f) ≡ length (left q f.prefix)
  strategy_counts ms f s = strategy-induction q (λ f g. length g ≡ length (left q f.prefix)) own other ms f s (λ _. refl)
    where
      taken : (m : Move) (f : Formula) → allowed m f ≡ true
          → length (left q f.prefix) ≡ (let k = length (left q (made m f).prefix) in cond (owns q f.prefix (moved m)) (suc k) k)
      taken m f a =
          let t = taken_made m f a in
          left-without (moved m) f.prefix t.was_bound ∙
          ap (λ (p : Prefix). cond (owns q f.prefix (moved m)) (suc (length (left q p))) (length (left q p))) (sym t.prefix_is)

      own : (m : Move) (f : Formula) (g : Pairs) → Prenex f → allowed m f ≡ true → owns q f.prefix (moved m) ≡ true
          → length g ≡ length (left q (made m f).prefix) → length (pair_of m f ∷ g) ≡ length (left q f.prefix)
      own m f g s a o e =
          ap suc e ∙
          sym (taken m f a ∙ ap (λ (b : Bool). let k = length (left q (made m f).prefix) in cond b (suc k) k) o)

      other : (m : Move) (f : Formula) (g : Pairs) → Prenex f → allowed m f ≡ true → owns q f.prefix (moved m) ≡ false
          → length g ≡ length (left q (made m f).prefix) → length g ≡ length (left q f.prefix)
      other m f g s a o e =
          e ∙ sym (taken m f a ∙ ap (λ (b : Bool). let k = length (left q (made m f).prefix) in cond b (suc k) k) o)

  pub solve_strategy_counts : (fits : Fits) (f : Formula) → distinct f.prefix ≡ true → closed f ≡ true
      → length (solve_strategy fits q f) ≡ length (left q f.prefix)
  unfolding solve_strategy tidied
  solve_strategy_counts fits f d c =
      strategy_counts (solve_moves fits f) (tidied f) (prenex_tidied f (record { is_distinct = d; is_closed = c }))
