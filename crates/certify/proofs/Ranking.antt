-- The table of ranks, filled from the last row to the first.
-- Assumes nothing.
use mathlib.Core.Path.{◌≡◌, refl, sym, ap, ◌∙◌}
use mathlib.Core.Bool.{Bool, true, false, not, cond, beq}
use mathlib.Core.List.{List}
use Prim.Native.Nat.{ℕ, suc, ◌≤◌, ◌<◌}
use native.Mathlib.Decide.{dec_lt}
use native.Mathlib.Omega.{arith}
use lib.Dec.{eqb}
use lib.ListN.{length, get_or, set, drop, replicate, length-set, length-replicate, get_or-replicate, get_or-eq_default, drop_of_length-le}
use lib.Seq.{drop-cons, get_or-set_same, get_or-set_other}
use borrow.Author.Tests.{eqb-true, eqb-false}
use Rattle.formula.specs.Tree.{Op, and, or, same_op, exists, Binding, Prefix, distinct}
use Rattle.sheet.specs.Format.{row}
use Rattle.sheet.specs.Sheet.{binding}
use Rattle.prefixes.specs.Places.{binding_at}
use Rattle.sheet.specs.Certificates.{side_for}
use Rattle.resolution.specs.Ranks.{rank_from, Ranked, Ranks}
use Rattle.certify.specs.Inner.Ranking.{quantifier_for, Unranked}

-- a row counts if it is of the quantifier
pub counts_for : (e x : Bool) (q : Op) → x ≡ same_op exists q → beq x e ≡ same_op (quantifier_for e) q
counts_for e x q h = ap (λ y. beq y e) h ∙ by e q
  where
    by : (e : Bool) (q : Op) → beq (same_op exists q) e ≡ same_op (quantifier_for e) q
    by true and = refl
    by true or = refl
    by false and = refl
    by false or = refl

module _ (q : Op) (p : Prefix) where
  -- the table has the ranks of the rows from i on
  abbrev pub Ranking : ℕ → List ℕ → Type 0
  Ranking i table = (length table ≡ 2048) × ((x : ℕ) → get_or table x 0 ≡ rank_from q i (drop i p) x)

  pub ranking_none : (table : List ℕ) (i : ℕ) → Unranked table → length p ≤ i → Ranking i table
  unfolding rank_from
  ranking_none table i e h = (
    ap length e ∙ length-replicate {A = ℕ} 2048 0,
    λ x. ap (λ (t : List ℕ). get_or t x 0) e ∙ zeros x (dec_lt x 2048) ∙
        ap (λ (r : Prefix). rank_from q i r x) (sym (drop_of_length-le p {i = i} h)),
  )
    where
      zeros : (x : ℕ) → Dec (x < 2048) → get_or {A = ℕ} (replicate 2048 0) x 0 ≡ 0
      zeros x (yes l) = get_or-replicate 2048 x 0 0 l
      zeros x (no f) = get_or-eq_default (replicate 2048 0) 0 {n = x} (omega (arith, length-replicate {A = ℕ} 2048 0))

  pub ranking_row : (i k v rank : ℕ) (counts : Bool) (table : List ℕ) → i < length p → k ≡ suc i → v ≡ (binding_at p i).variable → v < 2048
      → counts ≡ same_op q (binding_at p i).quantifier → rank ≡ cond counts (suc i) 0 → Ranking k table → Ranking i (set table v rank)
  unfolding rank_from binding_at
  ranking_row i k v rank counts table h next at small e is before =
      (length-set table v rank ∙ before.0, λ x. rw (drop-cons p i z h) (by x (eqb here.variable x) refl))
    where
      z : Binding
      z = binding (row 0 0)

      here : Binding
      here = get_or p i z

      by : (x : ℕ) (f : Bool) → eqb here.variable x ≡ f
          → get_or (set table v rank) x 0 ≡ cond f (cond (same_op q here.quantifier) (suc i) 0) (rank_from q (suc i) (drop (suc i) p) x)
      by x true g =
          let same : v ≡ x = at ∙ eqb-true here.variable x g in
          ap (λ y. get_or (set table v rank) y 0) (sym same) ∙ get_or-set_same table v rank 0 (omega (arith, before.0)) ∙ is ∙
          ap (λ c. cond c (suc i) 0) e
      by x false g =
          get_or-set_other table v x rank 0 (λ same. eqb-false here.variable x g (sym at ∙ sym same)) ∙ before.1 x ∙
          ap (λ j. rank_from q j (drop j p) x) next

  pub ranking_done : (table : List ℕ) (i : ℕ) → i ≡ 0 → Ranking i table → Ranked q p table
  ranking_done table i e r =
      record { room = omega (arith, r.0); ranks = λ x. r.1 x ∙ ap (λ j. rank_from q j (drop j p) x) e }

-- the tables of a verdict's side
pub ranks_for : (v : Bool) (p : Prefix) (own other : List ℕ) → distinct p ≡ true → Ranked (quantifier_for (not v)) p own
    → Ranked (quantifier_for v) p other → Ranks (side_for v) p own other
ranks_for true p own other d r t = record { is_distinct = d; own_ranks = r; other_ranks = t }
ranks_for false p own other d r t = record { is_distinct = d; own_ranks = r; other_ranks = t }
