-- The turns of the walk for the next variable to settle.
-- Assumes nothing.
use mathlib.Core.Path.{◌≡◌, refl, sym, ap, ap₂, ◌∙◌, subst}
use mathlib.Core.Bool.{Bool, true, false, cond, false≢true}
use mathlib.Core.List.{List, [], ◌∷◌, ◌++◌, append-nil}
use mathlib.Core.Option.{Option, none, some}
use Rattle.std.specs.Prelude.{Option as OptionOf, Some, None}
use Prim.Native.Nat.{ℕ, suc, min, ◌≤◌, ◌<◌}
use native.Mathlib.Omega.{arith}
use lib.Dec.{ltb}
use lib.ListN.{take}
use lib.Seq.{take-suc, take_all}
use borrow.Author.Tests.{ltb-true, ltb-false}
use Rattle.formula.specs.Tree.{Binding, Prefix}
use Rattle.formula.specs.Settle.{may_settle}
use Rattle.formula.specs.Solve.{those, earlier, least, is_some, lowest}
use Rattle.sheet.specs.Format.{Bytes, row}
use Rattle.sheet.specs.Sheet.{binding}
use Rattle.rows.specs.Formulas.{prefix_in, formula_in, Readable}
use Rattle.rows.specs.declared.Layout.{Layout}
use Rattle.rows.proofs.Formulas.{length_prefix}
use Rattle.prefixes.specs.Places.{place, binding_at, binding_in}
use Rattle.polarity.specs.Value.{settling_in, Bound}
use Rattle.choice.specs.Settling.{SettleOf, SettlesBefore, ToSettle, lowest_before, is_lower}
use Rattle.choice.specs.declared.settle.SettleChoice.{SettleChoice}
use Rattle.choice.proofs.Rows.{place_in, may_settle-row}

-- the lowest of a list's numbers, with one more behind them

lower_min : (x y : ℕ) → cond (ltb y x) y x ≡ min x y
lower_min x y = go (ltb y x) refl
  where
    go : (m : Bool) → ltb y x ≡ m → cond m y x ≡ min x y
    go true e = omega (arith, ltb-true y x e)
    go false e = omega (arith, ltb-false y x e)

earlier_swap : (x y : ℕ) (o : Option ℕ) → earlier ltb x (earlier ltb y o) ≡ earlier ltb y (earlier ltb x o)
unfolding earlier
earlier_swap x y none = ap some (rw (lower_min x y, lower_min y x) (omega arith))
earlier_swap x y (some z) =
    ap some
    (rw (lower_min y z, lower_min x z, lower_min x (min y z), lower_min y (min x z)) (omega arith))

least-behind : (xs : List ℕ) (x : ℕ) → least ltb (xs ++ (x ∷ [])) ≡ earlier ltb x (least ltb xs)
unfolding least
least-behind [] x = refl
least-behind (y ∷ xs) x = ap (earlier ltb y) (least-behind xs x) ∙ earlier_swap y x (least ltb xs)

those-++ : (P : ℕ → Bool) (p q : Prefix) → those P (p ++ q) ≡ those P p ++ those P q
unfolding those
those-++ P [] q = refl
those-++ P (z ∷ p) q = ap (λ l. cond (P z.variable) (z.variable ∷ l) l) (those-++ P p q) ∙ go (P z.variable)
  where
    go : (m : Bool) → cond m (z.variable ∷ (those P p ++ those P q)) (those P p ++ those P q) ≡
        cond m (z.variable ∷ those P p) (those P p) ++ those P q
    go true = refl
    go false = refl

lowest-behind : (P : ℕ → Bool) (p : Prefix) (z : Binding) {m : Bool} → P z.variable ≡ m
    → least ltb (those P (p ++ (z ∷ []))) ≡ cond m (earlier ltb z.variable (least ltb (those P p))) (least ltb (those P p))
unfolding those
lowest-behind P p z {m} t =
    ap (least ltb) (those-++ P p (z ∷ [])) ∙
    ap (λ (c : Bool). least ltb (those P p ++ cond c (z.variable ∷ []) [])) t ∙ go m
  where
    go : (m : Bool) → least ltb (those P p ++ cond m (z.variable ∷ []) []) ≡
        cond m (earlier ltb z.variable (least ltb (those P p))) (least ltb (those P p))
    go true = least-behind (those P p) z.variable
    go false = ap (least ltb) (append-nil (those P p))

-- no row is passed
pub settle_start : (s : Layout) (b : Bytes) → SettlesBefore 0 s b None
unfolding lowest_before those least
settle_start s b = refl

pub settle_all : {s : Layout} (b : Bytes) → Readable s b → {i : ℕ} (best : OptionOf SettleChoice) → s.variables ≤ i → SettlesBefore i s b best
    → ToSettle s b best
unfolding lowest lowest_before formula_in
settle_all {s} b ok {i} best h c =
    subst (λ p. SettleOf s b (least ltb (those (λ x. is_some (may_settle x (formula_in s b))) p)) best)
    (take_all i (prefix_in s b) (omega (arith, length_prefix b ok))) c

module _ {s : Layout} (b : Bytes) (ok : Readable s b) (bound : Bound s b) where
  -- by whether row i's variable may be settled
  lowest-row : (i : ℕ) (o : Option Bool) → i < s.variables
      → o ≡ settling_in s b i
      → lowest_before (suc i) (formula_in s b) ≡
      cond (is_some o) (earlier ltb (binding_in s b i).variable (lowest_before i (formula_in s b)))
      (lowest_before i (formula_in s b))
  unfolding lowest_before formula_in binding_at
  lowest-row i o h e =
      let P : ℕ → Bool = λ x. is_some (may_settle x (formula_in s b)) in
      ap (λ p. least ltb (those P p)) (take-suc (prefix_in s b) i (binding (row 0 0)) (omega (arith, length_prefix b ok))) ∙
      lowest-behind P (take i (prefix_in s b)) (binding_in s b i) (ap is_some (may_settle-row b ok bound i h ∙ sym e))

  -- a lower number was chosen
  pub settle_lower : (i : ℕ) (best : OptionOf SettleChoice) (x : ℕ) → i < s.variables → x ≡ (binding_in s b i).variable
      → is_lower best x ≡ true → SettlesBefore i s b best → SettlesBefore (suc i) s b best
  unfolding earlier
  settle_lower i None x h same low c = absurd (false≢true low)
  settle_lower i (Some r) x h same low c =
      record { is_lowest = lowest-row i (settling_in s b i) h refl ∙ go (is_some (settling_in s b i)); inside = c.inside; at_row = c.at_row; value_is = c.value_is }
    where
      stays : earlier ltb (binding_in s b i).variable (lowest_before i (formula_in s b)) ≡ some r.variable
      stays =
          ap₂ (earlier ltb) (sym same) c.is_lowest ∙ ap (λ (m : Bool). some (cond m r.variable x)) low

      go : (m : Bool)
          → cond m (earlier ltb (binding_in s b i).variable (lowest_before i (formula_in s b))) (lowest_before i (formula_in s b)) ≡ some r.variable
      go true = stays
      go false = c.is_lowest

  pub settle_none : (i : ℕ) (best : OptionOf SettleChoice) → i < s.variables → none ≡ settling_in s b i → SettlesBefore i s b best
      → SettlesBefore (suc i) s b best
  unfolding is_some
  settle_none i best h e c = subst (λ o. SettleOf s b o best) (sym (lowest-row i none h e)) c

  -- none was chosen, or a number that is not lower
  pub settle_one : (i : ℕ) (best : OptionOf SettleChoice) (x : ℕ) (c : Bool) → i < s.variables → some c ≡ settling_in s b i
      → x ≡ (binding_in s b i).variable → is_lower best x ≡ false → SettlesBefore i s b best
      → SettlesBefore (suc i) s b (Some (record { row = i; variable = x; value = c }))
  unfolding is_some earlier
  settle_one i best x c h e same high held =
      record {
        is_lowest =
            lowest-row i (some c) h e ∙ ap (λ y. earlier ltb y (lowest_before i (formula_in s b))) (sym same) ∙
            by best (lowest_before i (formula_in s b)) high held;
        inside = h;
        at_row = sym (ap (λ y. place y (prefix_in s b)) same ∙ place_in b ok bound i h);
        value_is = ap (λ y. may_settle y (formula_in s b)) same ∙ may_settle-row b ok bound i h ∙ sym e;
      }
    where
      by : (best : OptionOf SettleChoice) (o : Option ℕ) → is_lower best x ≡ false → SettleOf s b o best → earlier ltb x o ≡ some x
      by None o high k = ap (earlier ltb x) k
      by (Some r) o high k = ap (earlier ltb x) k.is_lowest ∙ ap (λ (m : Bool). some (cond m r.variable x)) high
