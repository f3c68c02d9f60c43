-- The pair of the variable that Solve takes next, by its function's sheet.
-- Assumes nothing.
use mathlib.Core.Path.{◌≡◌, refl, sym, ap, ap₂, ◌∙◌, subst₂}
use mathlib.Core.Bool.{Bool, true, false, ◌&&◌, cond, beq}
use mathlib.Core.List.{[], ◌∷◌, ◌++◌, append-nil}
use Prim.Native.Nat.{ℕ, ◌+◌, ◌≤◌, ◌<◌}
use native.Mathlib.Omega.{arith}
use lib.ListN.{length}
use borrow.Author.Tests.{lt-ltb}
use Rattle.formula.specs.Tree.{Quantifier, same_op, exists, Formula, binds, quantifier_of}
use Rattle.formula.specs.Strategy.{Pairs, winner, owns, function_of, moved}
use Rattle.formula.specs.StrategyMatrix.{pair_trees}
use Rattle.formula.proofs.Strategy.Moves.{pair_of}
use Rattle.sheet.specs.Format as sheet
use Rattle.sheet.specs.Format.{Bytes, sheet_length}
use Rattle.sheet.specs.Sheet.{tree_rows}
use Rattle.sheet.specs.Limits.{Within}
use Rattle.sheet.specs.Strategy.{response}
use Rattle.sheet.proofs.Strategy.Response.{within-response}
use Rattle.rows.specs.Layouts.{format_in}
use Rattle.rows.specs.Formulas.{prefix_in, matrix_in, formula_in, Readable}
use Rattle.rows.specs.declared.Layout.{Layout}
use Rattle.rows.proofs.Formulas.{length_prefix, rows-nodes}
use Rattle.prefixes.specs.Places.{place, binding_at, binding_in}
use Rattle.prefixes.proofs.Places.{binds-place, quantifier_of-place}
use Rattle.pairs.specs.Pairs.{one_pair, pair_rows}
use Rattle.pairs.proofs.Rows.{pair_rows-next, side_of}
use Rattle.next_function.specs.Next.{next_move, Choosable, Answers}
use Rattle.next_function.specs.declared.NextFunction.{NextFunction}
use Rattle.solve.specs.Inner.Running.{Held}
use Rattle.solve.proofs.Holding.{padded_readable, padded-formula, readable, steppable, numbered_to, bound}
use Rattle.strategy.specs.Inner.Walking.{next_rows}
use Rattle.strategy.proofs.Drafting.{length_pair}

-- the pair of Solve's next step, if its variable is of the side q
abbrev pub next_pairs : Quantifier → Formula → Pairs
next_pairs q f = cond (owns q f.prefix (moved (next_move f))) (pair_of (next_move f) f ∷ []) []

pub no_pairs : pair_rows [] ≡ []
unfolding pair_trees tree_rows
no_pairs = refl

pub next_pairs_rows : (q : Quantifier) (f : Formula) → pair_rows (next_pairs q f) ≡ next_rows q f
next_pairs_rows q f = by (owns q f.prefix (moved (next_move f)))
  where
    x : ℕ
    x = moved (next_move f)

    by : (m : Bool) → pair_rows (cond m (pair_of (next_move f) f ∷ []) []) ≡ cond m (one_pair x (function_of x f)) []
    by true =
        pair_rows-next (pair_of (next_move f) f) [] ∙ ap (λ l. one_pair x (function_of x f) ++ l) no_pairs ∙
        append-nil (one_pair x (function_of x f))
    by false = no_pairs

module _ {most : ℕ} {s : Layout} {b : Bytes} (h : Held most s b) where
  abbrev F : sheet.Format
  F = format_in s

  abbrev f : Formula
  f = formula_in s b

  pub choosable : {len : ℕ} → 0 < s.variables → sheet_length F s.variables s.nodes ≤ len → Choosable s b len
  choosable some short = record { from = steppable h; bound = bound h; numbered = numbered_to h; some_left = some; short = short }

  module _ {len : ℕ} {r : NextFunction} {new : Bytes} (a : Answers s b len r new) where
    abbrev x : ℕ
    x = r.variable

    has_place : place x (prefix_in s b) < length (prefix_in s b)
    has_place = omega (arith, a.named.inside, a.named.row_is, length_prefix b (readable h))

    binds-next : binds f.prefix x ≡ true
    unfolding formula_in
    binds-next = binds-place x (prefix_in s b) ∙ lt-ltb _ _ has_place

    within-next : Within F (response x f)
    within-next = within-response F x f h.within binds-next

    pub next-format : r.sheet.format ≡ s.format
    next-format = ap (λ (t : Layout). t.format) a.layout_is

    pub next-readable : Readable r.sheet new
    next-readable =
        subst₂ Readable (sym a.layout_is) (sym a.bytes_are) (padded_readable s.format (response x f) within-next len)

    pub next-matrix : matrix_in r.sheet new ≡ function_of x f
    unfolding formula_in response
    next-matrix =
        ap (λ (g : Formula). g.matrix)
        (ap₂ formula_in a.layout_is a.bytes_are ∙ padded-formula s.format (response x f) within-next len)

    -- whose variable it is, by its row's kind
    pub next-owner : (e : Bool) {k : Bool} → k ≡ same_op exists (binding_in s b r.row).quantifier
        → beq k e ≡ owns (winner e) f.prefix (moved (next_move f))
    unfolding owns formula_in
    next-owner e is =
        side_of e (binding_in s b r.row).quantifier is ∙
        ap (λ i. same_op (winner e) (binding_at (prefix_in s b) i).quantifier) a.named.row_is ∙
        ap (same_op (winner e)) (sym (quantifier_of-place x (prefix_in s b) has_place)) ∙
        ap (λ (m : Bool). m && same_op (winner e) (quantifier_of (prefix_in s b) x)) (sym binds-next) ∙
        ap (owns (winner e) (prefix_in s b)) (sym a.variable_is)

    module _ (q : Quantifier) where
      pub other-next : owns q f.prefix (moved (next_move f)) ≡ false → [] ≡ next_rows q f
      other-next e = sym (ap (λ (m : Bool). cond m (one_pair (moved (next_move f)) (function_of (moved (next_move f)) f)) []) e)

      pub own-next : owns q f.prefix (moved (next_move f)) ≡ true → one_pair x (matrix_in r.sheet new) ≡ next_rows q f
      own-next e =
          ap (one_pair x) next-matrix ∙ ap (λ y. one_pair y (function_of y f)) (sym a.variable_is) ∙
          sym (ap (λ (m : Bool). cond m (one_pair (moved (next_move f)) (function_of (moved (next_move f)) f)) []) e)

    -- a pair has few rows
    pub few_rows : length (one_pair x (matrix_in r.sheet new)) ≤ 8194
    few_rows =
        omega (arith, length_pair x (matrix_in r.sheet new), rows-nodes new next-readable, next-readable.few_nodes)
