-- One step of the definition, by what the code finds out; and the formula that it leads to.
-- Assumes nothing.
use mathlib.Core.Path.{◌≡◌, refl}
use mathlib.Core.Bool.{Bool, true, false}
use mathlib.Core.List.{[], ◌∷◌}
use mathlib.Core.Option.{none, some}
use Prim.Native.Nat.{ℕ, suc, ◌-◌, ◌≤◌, ◌<◌}
use native.Mathlib.Omega.{arith}
use lib.ListN.{length}
use Rattle.formula.specs.Tree.{Prefix, Formula, of}
use Rattle.formula.specs.Tidy.{verdict}
use Rattle.formula.specs.Settle.{may_settle, settled}
use Rattle.formula.specs.Expand.{raw_rows, expanded, raw}
use Rattle.formula.specs.Solve.{lowest, cheapest, State, halt, next, stopped, ended, Fits, fits_raw, settle_step, expand_step, undecided_step, step_by, step}
use Rattle.formula.proofs.Choice.{lowest-chosen, cheapest-chosen}
use Rattle.formula.proofs.Steps.{Proper, proper_settled, rows_settled, proper_expanded, rows-expanded, decided_without-variables}
use Rattle.sheet.specs.Format.{Format, fits}
use Rattle.sheet.specs.Limits.{Within}
use Rattle.sheet.proofs.Limits.{within_step}

module _ (fits : Fits) (f : Formula) (a e : ℕ) where
  abbrev s : State
  s = record { formula = f; settles = a; expands = e }

  pub step-ends : (v : Bool) → verdict f.matrix ≡ some v → step fits s ≡ halt (ended v)
  unfolding step step_by
  step-ends v d = rw d

  module _ (undecided : verdict f.matrix ≡ none) where
    pub step-settles : (x : ℕ) (c : Bool) → lowest f ≡ some x → may_settle x f ≡ some c
        → step fits s ≡ next (record { formula = settled x c f; settles = suc a; expands = e })
    unfolding step step_by undecided_step settle_step
    step-settles x c l m = rw (undecided, l, m)

    module _ (nothing : lowest f ≡ none) (x : ℕ) (cheap : cheapest f ≡ some x) where
      pub step-expands : fits_raw fits x f ≡ true
          → step fits s ≡ next (record { formula = expanded x f; settles = a; expands = suc e })
      unfolding step step_by undecided_step expand_step
      step-expands m = rw (undecided, nothing, cheap, m)

      pub step-stops : fits_raw fits x f ≡ false → step fits s ≡ halt (stopped x)
      unfolding step step_by undecided_step expand_step
      step-stops m = rw (undecided, nothing, cheap, m)

-- an undecided formula has a variable left
pub variables_left : (f : Formula) → Proper f → verdict f.matrix ≡ none → 0 < length f.prefix
variables_left f p undecided = go f.prefix refl
  where
    go : (q : Prefix) → f.prefix ≡ q → 0 < length q
    go [] e =
        let d = decided_without-variables f p e in
        let k : verdict f.matrix ≡ some d.0 = d.1 in
        let z : ◌≡◌ {A = ℕ} 0 1 = cc in
        absurd (omega arith)
    go (z ∷ q) e = omega arith

-- the formula that a step leads to is within the limits
pub within-settled : (F : Format) (f : Formula) (x : ℕ) (c : Bool) → Proper f → Within F f → lowest f ≡ some x → Within F (settled x c f)
unfolding settled
within-settled F f x c p w l =
    within_step F f (settled x c f) x w (lowest-chosen f x l).1 refl (proper_settled x c f p) (omega (arith, rows_settled x c f, w.few_nodes))

pub within-expanded : (F : Format) (f : Formula) (x : ℕ) → Proper f → Within F f → cheapest f ≡ some x → raw_rows (of x) f.matrix ≤ F.most_nodes
    → Within F (expanded x f)
unfolding expanded raw
within-expanded F f x p w l few =
    within_step F f (expanded x f) x w (cheapest-chosen f x l).1 refl (proper_expanded x f p) (omega (arith, rows-expanded x f, few))

-- whether the raw sheet fits, as it is tested
pub fits_tested : (F : Format) (room : ℕ) (f : Formula) (x : ℕ) {v m : ℕ} → v ≡ length f.prefix → m ≡ raw_rows (of x) f.matrix
    → fits_raw (fits F room) x f ≡ fits F room (v - 1) m
unfolding fits_raw
fits_tested F room f x v-is m-is = rw (v-is, m-is)
