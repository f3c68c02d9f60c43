-- Strategies computed in the definitions: the press line's, one of the side for all, one that reads a variable behind its own; pairs in order
-- and not; and a claim.
-- Assumes nothing.
use mathlib.Core.Path.{◌≡◌, refl}
use mathlib.Core.Bool.{Bool, true, false}
use mathlib.Core.List.{[], ◌∷◌}
use mathlib.Core.Option.{some}
use Prim.Native.Nat.{ℕ}
use Rattle.formula.specs.Tree.{Op, and, or, exists, for_all, Tree, lit, node, ∅, ◌▸◌, ◌⧺◌, Binding, Formula, binds, quantifier_of, without, rows, rows_all, has, has_any}
use Rattle.formula.specs.Tree.{replace, replace_all, assign, count, some_child, some_two, keep}
use Rattle.formula.specs.Truth.{eval}
use Rattle.formula.specs.Tidy.{is_op, is_empty, opposite, equal, same_tree, duplicate, spliced, splice, decides, firsts, unwrap, combine, tidy, tidied, verdict}
use Rattle.formula.specs.Settle.{is_lit, at_root, may_take, value, settling, may_settle, settled}
use Rattle.formula.specs.Expand.{all_of, after, among, occurring, later, innermost, relevant, one_relevant, all_relevant, copies, at_first, expand_tree, raw_tree, growth}
use Rattle.formula.specs.Expand.{raw_rows, raw, expanded}
use Rattle.formula.specs.Solve.{those, earlier, least, is_some, lowest, cheaper, cheapest, Fits, fits_raw, settle_step, expand_step, undecided_step, step_by, step}
use Rattle.formula.specs.Strategy.{Pair, Pairs, play, owns, before, relevant_subtree, function_by, function_of, settle, expand, after_move, reached, left, strategy, move_by}
use Rattle.formula.specs.Strategy.{moves_on, run_moves, solve_moves, solve_strategy, reads, in_order}
use Rattle.formula.specs.Claim.{negated, broken, all_rows, claim}

abbrev row : Op → ℕ → Binding
row q x = record { quantifier = q; variable = x }

abbrev pair : ℕ → Tree → Pair
pair x t = record { variable = x; function = t }

abbrev two : Op → Tree → Tree → Tree
two o t u = node o (t ▸ u ▸ ∅)

abbrev pos : ℕ → Tree
pos x = lit true x

abbrev neg : ℕ → Tree
neg x = lit false x

-- what the examples compute with: trees, tidying, the two steps, and the functions taken before them
trees : Bool
unfolding binds quantifier_of without rows rows_all has has_any replace replace_all assign count some_child some_two keep ◌⧺◌
trees = true

tidying : Bool
unfolding trees is_op is_empty opposite equal same_tree duplicate spliced splice decides firsts unwrap combine tidy tidied verdict
tidying = true

settling_x : Bool
unfolding tidying is_lit at_root may_take value settling may_settle settled is_some
settling_x = true

expanding_x : Bool
unfolding tidying all_of after among occurring later innermost relevant one_relevant all_relevant copies at_first expand_tree raw_tree raw expanded
expanding_x = true

functions : Bool
unfolding settling_x expanding_x owns relevant_subtree function_by function_of after_move reached left strategy
functions = true

solving : Bool
unfolding functions growth raw_rows those earlier least lowest cheaper cheapest fits_raw settle_step expand_step undecided_step step_by step
solving = true

running : Bool
unfolding solving move_by moves_on run_moves solve_moves solve_strategy
running = true

-- "for all feed, exists lift, for all jam, exists stop: lift equals feed, stop equals feed xor jam"
unfoldable pub press : Formula
press =
    record {
      prefix = row for_all 1 ∷ row exists 2 ∷ row for_all 3 ∷ row exists 4 ∷ [];
      matrix =
          two and (two or (two and (pos 2) (pos 1)) (two and (neg 2) (neg 1)))
          (two or (two and (pos 4) (two or (two and (pos 1) (neg 3)) (two and (neg 1) (pos 3))))
          (two and (neg 4) (two or (two and (pos 1) (pos 3)) (two and (neg 1) (neg 3)))));
    }

abbrev always : Fits
always v n = true

-- stop's function is feed xor jam, and lift's is feed
pub press_strategy :
    solve_strategy always exists press ≡ pair 4 (two or (two and (pos 1) (neg 3)) (two and (neg 1) (pos 3))) ∷ pair 2 (pos 1) ∷ []
unfolding press running
press_strategy = refl

-- exists 1, for all 2: both equal. The side for all answers with the other value.
unfoldable pub equal_early : Formula
equal_early =
    record { prefix = row exists 1 ∷ row for_all 2 ∷ []; matrix = two or (two and (pos 1) (pos 2)) (two and (neg 1) (neg 2)) }

pub equal_strategy : solve_strategy always for_all equal_early ≡ pair 2 (neg 1) ∷ []
unfolding equal_early running
equal_strategy = refl

-- exists 1, for all 3, exists 2, 5, 4: 1 differs from 2, and 2 from 4. Row 3 has no literal, so 1 is in the innermost block.
unfoldable pub chain : Formula
chain =
    record {
      prefix = row exists 1 ∷ row for_all 3 ∷ row exists 2 ∷ row exists 5 ∷ row exists 4 ∷ [];
      matrix =
          node and (two or (pos 1) (pos 2) ▸ two or (neg 1) (neg 2) ▸ two or (pos 2) (pos 4) ▸ two or (neg 2) (neg 4) ▸ ∅);
    }

unfoldable pub chain_pairs : Pairs
chain_pairs = pair 1 (neg 2) ∷ pair 2 (neg 4) ∷ pair 5 (node or ∅) ∷ pair 4 (node or ∅) ∷ []

-- 1 can't be settled; expanded, it reads 2, which is expanded later, and nothing of the clauses without it. 5 and 4 are left and get 0.
pub chain_strategy : strategy exists (settle 1 ∷ expand 1 ∷ expand 2 ∷ []) chain ≡ chain_pairs
unfolding chain chain_pairs functions
chain_strategy = refl

pub chain_decided : verdict (reached (settle 1 ∷ expand 1 ∷ expand 2 ∷ []) chain).matrix ≡ some true
unfolding chain functions
chain_decided = refl

-- played from the last to the first: 4 = 0, so 2 = 1, so 1 = 0
pub chain_played : (play chain_pairs (λ _. false) 2 ≡ true) × (play chain_pairs (λ _. false) 1 ≡ false)
unfolding chain_pairs play eval
chain_played = (refl, refl)

-- the order of the pairs is the order of the steps; the other way round, 2 is read before it is played
pub chain_order :
    (in_order exists chain.prefix chain_pairs ≡ true) ×
    (in_order exists chain.prefix (pair 4 (node or ∅) ∷ pair 2 (neg 4) ∷ pair 1 (neg 2) ∷ []) ≡ false)
unfolding chain chain_pairs functions in_order reads before
chain_order = (refl, refl)

-- 1 may not read 3, which comes after it, directly or through the function of 2
pub chain_behind :
    (in_order exists chain.prefix (pair 1 (pos 3) ∷ []) ≡ false) ×
    (in_order exists chain.prefix (pair 1 (pos 2) ∷ pair 2 (pos 3) ∷ []) ≡ false)
unfolding chain functions in_order reads before
chain_behind = (refl, refl)

-- for all 1, 2, exists 3: 3, or not both 1 and 2. That 3 plays "1 and 2" is claimed so.
pub both-claim :
    claim exists
    (record { prefix = row for_all 1 ∷ row for_all 2 ∷ row exists 3 ∷ []; matrix = node or (pos 3 ▸ neg 1 ▸ neg 2 ▸ ∅) })
    (pair 3 (two and (pos 1) (pos 2)) ∷ []) ≡
    record {
      prefix = row for_all 1 ∷ row for_all 2 ∷ row for_all 3 ∷ [];
      matrix =
          node or
          (node or (pos 3 ▸ neg 1 ▸ neg 2 ▸ ∅) ▸ two and (pos 3) (two or (neg 1) (neg 2)) ▸
          two and (neg 3) (two and (pos 1) (pos 2)) ▸ ∅);
    }
unfolding claim all_rows broken negated
both-claim = refl
