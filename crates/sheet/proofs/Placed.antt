-- What a run of Solve keeps: the formula reached is within the limits, and its sheet has its place.
-- Assumes nothing.
use mathlib.Core.Path.{refl}
use Prim.Native.Nat.{ℕ, suc, ◌+◌, ◌-◌, ◌≤◌}
use native.Mathlib.Nat.{mul-le-mul_left, le_trans}
use native.Mathlib.Omega.{arith}
use lib.Dec.{leb}
use lib.ListN.{length}
use borrow.Author.Tests.{leb-true}
use Rattle.formula.specs.Tree.{Formula, of, rows}
use Rattle.formula.specs.Tidy.{tidied}
use Rattle.formula.specs.Settle.{settled}
use Rattle.formula.specs.Expand.{raw, raw_rows, expanded}
use Rattle.formula.specs.Solve.{fits_raw, solve}
use Rattle.formula.proofs.Booleans.{and_parts}
use Rattle.formula.proofs.Closed.{length_without}
use Rattle.formula.proofs.Tidy.Growth.{rows-tidy}
use Rattle.formula.proofs.Steps.{proper_tidied, rows_settled, rows-expanded}
use Rattle.formula.proofs.Resume.{Keeps, run_keeps}
use Rattle.sheet.specs.Format.{Format, sheet_length, fits}
use Rattle.sheet.specs.Limits.{Within}
use Rattle.sheet.proofs.Limits.{within_step}

pub sheet_length-least : (F : Format) {v v' n n' : ℕ} → v ≤ v' → n ≤ n' → sheet_length F v n ≤ sheet_length F v' n'
unfolding sheet_length
sheet_length-least F {v} {v'} {n} {n'} h k = omega (arith, mul-le-mul_left (1 + F.width) (both v v' n n' h k))
  where
    both : (v v' n n' : ℕ) → v ≤ v' → n ≤ n' → v + n ≤ v' + n'
    both v v' n n' h k = omega arith

pub within-tidied : (F : Format) (f : Formula) → Within F f → Within F (tidied f)
unfolding tidied
within-tidied F f w =
    let p = proper_tidied f w.is_distinct w.is_closed in
    record {
      few_variables = w.few_variables;
      few_nodes = le_trans (rows-tidy f.matrix) w.few_nodes;
      is_numbered = w.is_numbered;
      is_distinct = p.is_distinct;
      is_closed = p.is_closed;
    }

module _ (F : Format) (most : ℕ) where
  pub record Placed (f : Formula) : Type 0 where
    pub within : Within F f
    pub has_place : sheet_length F (length f.prefix) (rows f.matrix) ≤ most

  placed_keeps : Keeps (fits F most) Placed
  unfolding settled expanded raw fits_raw fits
  placed_keeps =
      record {
        settling =
            λ f x b p bound i q. (
            let fewer = length_without x f.prefix bound in
            let less = rows_settled x b f in
            record {
              within = within_step F f (settled x b f) x i.within bound refl q (le_trans less i.within.few_nodes);
              has_place = le_trans (sheet_length-least F (omega arith) less) i.has_place;
            });
        expanding =
            λ f x p bound fit i q. (
            let fewer = length_without x f.prefix bound in
            let less = rows-expanded x f in
            let parts = and_parts (leb (raw_rows (of x) f.matrix) F.most_nodes) _ fit in
            let few = leb-true (raw_rows (of x) f.matrix) F.most_nodes parts.0 in
            let short = leb-true (sheet_length F (length f.prefix - 1) (raw_rows (of x) f.matrix)) most parts.1 in
            record {
              within = within_step F f (expanded x f) x i.within bound refl q (le_trans less few);
              has_place = le_trans (sheet_length-least F (omega arith) less) short;
            });
      }

  tidied_placed : (f : Formula) → Placed f → Placed (tidied f)
  unfolding tidied
  tidied_placed f i =
      record {
        within = within-tidied F f i.within;
        has_place = le_trans (sheet_length-least F (omega arith) (rows-tidy f.matrix)) i.has_place;
      }

  pub solve_placed : (f : Formula) → Placed f → Placed (solve (fits F most) f).state.formula
  unfolding solve
  solve_placed f i =
      run_keeps (fits F most) Placed placed_keeps (suc (length f.prefix)) (record { formula = tidied f; settles = 0; expands = 0 })
      (proper_tidied f i.within.is_distinct i.within.is_closed) (tidied_placed f i)
