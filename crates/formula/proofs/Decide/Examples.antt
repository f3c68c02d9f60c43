-- Searches that pin the rules, computed in the definitions, where nothing fits: Solve then settles and never expands.
-- Assumes nothing.
use mathlib.Core.Path.{◌≡◌, refl}
use mathlib.Core.Bool.{Bool, true, false}
use mathlib.Core.List.{[], ◌∷◌}
use mathlib.Core.Option.{Option}
use Prim.Native.Nat.{ℕ}
use Rattle.formula.specs.Tree.{Quantifier, and, or, exists, for_all, Tree, lit, node, ∅, ◌▸◌, ◌⧺◌}
use Rattle.formula.specs.Tree.{Formula, quantifier_of, binds, without, rows, has, replace, assign, count, some_child, some_two, keep}
use Rattle.formula.specs.Tidy.{is_empty, opposite, equal, same_tree, duplicate, spliced, splice, decides, firsts, unwrap, combine, tidy, tidied, verdict}
use Rattle.formula.specs.Settle.{is_lit, at_root, may_take, value, settling, may_settle, settled}
use Rattle.formula.specs.Expand.{all_of, after, among, occurring, later, innermost, relevant, one_relevant, all_relevant, growth, raw_rows}
use Rattle.formula.specs.Solve.{those, earlier, least, is_some, lowest, cheaper, cheapest, Fits, fits_raw, settle_step, expand_step, undecided_step, step_by, step, go_on, run, solve}
use Rattle.formula.specs.Force.{given_by, owner}
use Rattle.formula.specs.Decide.{decided, no_place, spent, Decision, after_solve, ends_split, split, seek, within, decide}

abbrev nothing_fits : Fits
nothing_fits v n = false

-- (1 or 2) and (not 1 or 2) and (not 1 or not 2): true with 1 = 0, false with 1 = 1
abbrev three_clauses : Tree
three_clauses =
    node and
    (node or (lit true 1 ▸ lit true 2 ▸ ∅) ▸ node or (lit false 1 ▸ lit true 2 ▸ ∅) ▸ node or (lit false 1 ▸ lit false 2 ▸ ∅) ▸ ∅)

abbrev of_two : Quantifier → Formula
of_two q =
    record {
      prefix = record { quantifier = q; variable = 1 } ∷ record { quantifier = exists; variable = 2 } ∷ [];
      matrix = three_clauses;
    }

-- what Decide computes with: tidying, settling, the cheapest expansion, Solve
tidying : Formula → Formula
unfolding tidied tidy combine unwrap firsts decides splice spliced duplicate same_tree equal opposite is_empty verdict some_child some_two keep ◌⧺◌
tidying f = tidied f

settling_first : Formula → Option Bool
unfolding lowest is_some settled may_settle settling value may_take at_root is_lit has replace assign without quantifier_of
settling_first f = may_settle 1 f

expanding : Formula → Option ℕ
unfolding cheapest cheaper least earlier those raw_rows growth all_relevant one_relevant relevant innermost later occurring among after all_of binds rows count
expanding f = cheapest f

answer : ℕ → ℕ → Formula → Decision
unfolding tidying settling_first expanding decide within seek split ends_split after_solve owner given_by solve run go_on step step_by undecided_step settle_step expand_step fits_raw
answer places budget f = decide nothing_fits places budget f

-- after the run that stops, value 0 alone is tried
pub early_true : decide nothing_fits 1 2 (of_two exists) ≡ record { outcome = decided true; runs = 2 }
unfolding answer
early_true = refl

-- for all 1, both values are
pub then_false : decide nothing_fits 1 3 (of_two for_all) ≡ record { outcome = decided false; runs = 3 }
unfolding answer
then_false = refl

-- the first row of the formula reached is 1's: 3 is settled by then
pub reached-split :
    decide nothing_fits 1 2
    (record { prefix = record { quantifier = exists; variable = 3 } ∷ (of_two exists).prefix; matrix = node and (lit true 3 ▸ three_clauses ▸ ∅) }) ≡
    record { outcome = decided true; runs = 2 }
unfolding answer
reached-split = refl

-- a place is needed, and two runs
pub no_place-left : decide nothing_fits 0 2 (of_two exists) ≡ record { outcome = no_place; runs = 1 }
unfolding answer
no_place-left = refl

pub all_spent : decide nothing_fits 1 1 (of_two exists) ≡ record { outcome = spent; runs = 1 }
unfolding answer
all_spent = refl
