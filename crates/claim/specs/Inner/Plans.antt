-- What Claim decides of the strategy's sheet.
-- Assumes nothing.
use Rattle.std.specs.Prelude.{◌≡◌, Bool, true, ◌&&◌, List, ℕ, suc, eqb, length, take, Result, Ok, Err}
use Rattle.std.proofs.Math.Option.{some}
use Rattle.formula.specs.Tree.{same_op, Binding}
use Rattle.formula.specs.Strategy.{is_covering, in_order}
use Rattle.formula.specs.StrategyMatrix.{pairs_of}
use Rattle.sheet.specs.Format.{Bytes}
use Rattle.sheet.specs.Sheet.{formula}
use Rattle.sheet.specs.Check.{Answer, answer}
use Rattle.sheet.specs.Strategy.{claim_refused, pair_tests, claim_call}
use Rattle.rows.specs.Formats.{format_of}
use Rattle.rows.specs.Formulas.{prefix_in}
use Rattle.rows.specs.declared.Format.{Format}
use Rattle.rows.specs.Refusals.{refused_by, number_of, place_of}
use Rattle.rows.specs.declared.Layout.{Layout}
use Rattle.rows.specs.declared.refusals.Refusal.{Refusal}
use Rattle.checking.specs.Sheets.{Sheet}
use Rattle.pair_tests.specs.Pairs.{side, pairs_in, Paired}
use Rattle.claim.specs.declared.write.Strategy.{Strategy}

-- two rows of a prefix are the same
unfoldable pub same_row : Binding → Binding → Bool
same_row z y = same_op z.quantifier y.quantifier && eqb z.variable y.variable

-- the pairs pass
pub record PairsPass (s : Layout) (b : Bytes) (exists : Bool) (n : ℕ) : Type 0 where
  pub counted : n ≡ length (pairs_in s b)
  pub covering : is_covering (side exists) (prefix_in s b) (pairs_in s b) ≡ true
  pub ordered : in_order (side exists) (prefix_in s b) (pairs_in s b) ≡ true

abbrev pub PairPlans : Layout → Bytes → Bool → Result ℕ Refusal → Type 0
PairPlans s b exists (Err e) =
    ◌≡◌ {A = Answer ℕ} (answer (pair_tests (side exists) (prefix_in s b) (suc s.variables) (some (pairs_in s b))) 0) (refused_by e)
PairPlans s b exists (Ok n) = PairsPass s b exists n

-- the strategy's sheet passes, and the table has the rows of its pairs
pub record ClaimPlanned (f : Format) (b : Bytes) (exists : Bool) (d : Bytes) (t : Layout) (cuts : List ℕ) (n : ℕ) : Type 0 where
  pub same_prefix : (formula (format_of f) d).prefix ≡ (formula (format_of f) b).prefix
  pub are_read : pairs_of (formula (format_of f) d).matrix ≡ some (pairs_in t d)
  pub paired : Paired t d (take (suc n) cuts)
  pub passed : PairsPass t d exists n

abbrev pub ClaimPlans : Format → Bytes → Bool → Bytes → Layout → List ℕ → Result ℕ Refusal → Type 0
ClaimPlans f b exists d t cuts (Err e) =
    (out : Bytes) → (claim_call (format_of f) b (side exists) d out).answer ≡ claim_refused 2 (number_of e) (place_of e)
ClaimPlans f b exists d t cuts (Ok n) = ClaimPlanned f b exists d t cuts n

-- both sheets are accepted, and the strategy's passes: all but 13 is tested
pub record ClaimFitting (b : Bytes) (s : Layout) (d : Bytes) (r : Strategy) (cuts : List ℕ) : Type 0 where
  pub first : Sheet s.format b s
  pub second : Sheet s.format d r.layout
  pub same_prefix : (formula (format_of s.format) d).prefix ≡ (formula (format_of s.format) b).prefix
  pub are_read : pairs_of (formula (format_of s.format) d).matrix ≡ some (pairs_in r.layout d)
  pub paired : Paired r.layout d cuts
  pub passed : PairsPass r.layout d r.exists (length (pairs_in r.layout d))
