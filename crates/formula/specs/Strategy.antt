-- Strategies: what wins, the function of a variable, and the pairs that a list of steps or Solve's run gives (document 002, section II:
-- Skolem functions; of a variable for all, Herbrand functions).
-- Assumes nothing.
use Rattle.std.specs.Prelude.{◌≡◌, Bool, true, false, not, ◌&&◌, ◌||◌, cond, List, [], ◌∷◌, ℕ, zero, suc, eqb, length}
use Rattle.std.proofs.Math.Option.{Option, none, some, get_or}
use Rattle.formula.specs.Tree.{Quantifier, or, dual, same_op, exists, for_all, Tree, lit, node, Forest, ∅, ◌▸◌, constant, Prefix, Formula, Literals, of, binds, quantifier_of, has, assign}
use Rattle.formula.specs.Truth.{Assignment, put, eval}
use Rattle.formula.specs.Tidy.{tidy, tidied}
use Rattle.formula.specs.Settle.{value, may_settle, settled}
use Rattle.formula.specs.Expand.{innermost, relevant, one_relevant, expanded}
use Rattle.formula.specs.Solve.{is_some, lowest, cheapest, State, Step, halt, next, Fits, step}
use Rattle.formula.specs.Force.{wanted}

-- a variable of a side, and a tree, its function
pub record Pair : Type 0 where
  pub variable : ℕ
  pub function : Tree

abbrev pub Pairs : Type 0
Pairs = List Pair

-- an assignment in, an assignment out
abbrev pub Strategy : Type 0
Strategy = Assignment → Assignment

-- played from the last pair to the first: a function reads the other side's variables and those whose pair comes later in the list
unfoldable pub play : Pairs → Strategy
play [] ρ = ρ
play (c ∷ g) ρ = put (play g ρ) c.variable (eval c.function (play g ρ))

-- x is a variable of the side q
unfoldable pub owns : Quantifier → Prefix → ℕ → Bool
owns q p x = binds p x && same_op q (quantifier_of p x)

-- the rows in front of x
unfoldable pub before : ℕ → Prefix → Prefix
before x [] = []
before x (z ∷ p) = cond (eqb z.variable x) [] (z ∷ before x p)

-- A strategy of the side q wins.
pub record WinsOn (q : Quantifier) (p : Prefix) (matrix : Assignment → Bool) (S : Strategy) : Type 0 where
  -- it sets that side's variables only
  pub own_only : (ρ : Assignment) (v : ℕ) → owns q p v ≡ false → S ρ v ≡ ρ v
  -- the matrix has the wanted value, whatever the other side's variables are
  pub has_wanted : (ρ : Assignment) → matrix (S ρ) ≡ wanted q
  -- each of its variables depends only on the other side's variables in front of it in the prefix, directly or through other functions
  pub by_front : (x : ℕ) → owns q p x ≡ true
      → (ρ σ : Assignment) → ((v : ℕ) → owns (dual q) (before x p) v ≡ true → ρ v ≡ σ v) → S ρ x ≡ S σ x

abbrev pub Wins : Quantifier → Formula → Strategy → Type 0
Wins q f S = WinsOn q f.prefix (eval f.matrix) S

-- the side that wins: exists on true, for all on false
abbrev pub winner : Bool → Quantifier
winner true = exists
winner false = for_all

-- The relevant subtree: a literal that is alone, and else the deepest operator above all of them with those of its children that
-- hold one. Some child holds one wherever the search goes below.
unfoldable mutual
  pub relevant_subtree : Literals → Tree → Tree
  relevant_subtree L (lit s v) = lit s v
  relevant_subtree L (node o ts) = cond (one_relevant L ts) (relevant_below L ts) (node o (relevant L ts))

  pub relevant_below : Literals → Forest → Tree
  relevant_below L ∅ = node or ∅
  relevant_below L (t ▸ ts) = cond (has L t) (relevant_subtree L t) (relevant_below L ts)

-- The function of x: if x may be settled, the constant that Settle puts in; else the relevant subtree of x with the table's value of a
-- positive literal put in (1 for exists, 0 for all), tidied.
unfoldable pub function_by : Quantifier → ℕ → Tree → Option Bool → Tree
function_by q x t (some b) = constant b
function_by q x t none = tidy (assign x (value q true) (relevant_subtree (of x) t))

unfoldable pub function_of : ℕ → Formula → Tree
function_of x f = function_by (quantifier_of f.prefix x) x f.matrix (may_settle x f)

-- a step of a list; Execute is an expand. One that isn't allowed changes nothing.
pub data Move : Type 0 where
  settle expand : ℕ → Move

abbrev pub moved : Move → ℕ
moved (settle x) = x
moved (expand x) = x

abbrev pub allowed : Move → Formula → Bool
allowed (settle x) f = binds f.prefix x && is_some (may_settle x f)
allowed (expand x) f = innermost x f

abbrev pub made : Move → Formula → Formula
made (settle x) f = settled x (get_or (may_settle x f) false) f
made (expand x) f = expanded x f

unfoldable pub after_move : Move → Formula → Formula
after_move m f = cond (allowed m f) (made m f) f

-- the formula at the end of a list of steps
unfoldable pub reached : List Move → Formula → Formula
reached [] f = f
reached (m ∷ ms) f = reached ms (after_move m f)

-- rows of the side that are left get the constant 0, in prefix order
unfoldable pub left : Quantifier → Prefix → Pairs
left q [] = []
left q (z ∷ p) = cond (same_op q z.quantifier) (record { variable = z.variable; function = constant false } ∷ left q p) (left q p)

-- the functions of the side's variables, each taken in the formula right before its step, in the order of the steps
unfoldable pub strategy : Quantifier → List Move → Formula → Pairs
strategy q [] f = left q f.prefix
strategy q (m ∷ ms) f =
    let rest = strategy q ms (after_move m f) in
    cond (allowed m f && owns q f.prefix (moved m)) (record { variable = moved m; function = function_of (moved m) f } ∷ rest) rest

-- the steps of Solve's run: the lowest variable that may be settled, else the cheapest expanded
unfoldable pub move_by : Option ℕ → Option ℕ → Move
move_by (some x) y = settle x
move_by none y = expand (get_or y 0)

unfoldable pub moves_on : Step → Move → (State → List Move) → List Move
moves_on (halt e) m more = []
moves_on (next s) m more = m ∷ more s

unfoldable pub run_moves : Fits → ℕ → State → List Move
run_moves fits zero s = []
run_moves fits (suc n) s = moves_on (step fits s) (move_by (lowest s.formula) (cheapest s.formula)) (λ s'. run_moves fits n s')

unfoldable pub solve_moves : Fits → Formula → List Move
solve_moves fits f = run_moves fits (suc (length f.prefix)) (record { formula = tidied f; settles = 0; expands = 0 })

-- Solve's own strategy of a side; the first formula is the tidied one
unfoldable pub solve_strategy : Fits → Quantifier → Formula → Pairs
solve_strategy fits q f = strategy q (solve_moves fits f) (tidied f)

-- What a third party reads off the pairs.

-- x has a pair, and no variable has two
unfoldable pub sets : Pairs → ℕ → Bool
sets [] x = false
sets (c ∷ g) x = eqb c.variable x || sets g x

unfoldable pub once : Pairs → Bool
once [] = true
once (c ∷ g) = not (sets g c.variable) && once g

-- each pair's variable is of the side, and each row of the side has a pair
unfoldable pub owned_all : Quantifier → Prefix → Pairs → Bool
owned_all q p [] = true
owned_all q p (c ∷ g) = owns q p c.variable && owned_all q p g

unfoldable pub set_all : Quantifier → Pairs → Prefix → Bool
set_all q g [] = true
set_all q g (z ∷ p) = (not (same_op q z.quantifier) || sets g z.variable) && set_all q g p

-- the test that exactly the side's variables have a pair, each of them one
unfoldable pub is_covering : Quantifier → Prefix → Pairs → Bool
is_covering q p g = owned_all q p g && (set_all q g p && once g)

-- x, as played, depends on a variable of the set, directly or through other functions
unfoldable pub reads : (ℕ → Bool) → Pairs → ℕ → Bool
reads Y [] x = Y x
reads Y (c ∷ g) x = cond (eqb x c.variable) (has (λ s v. reads Y g v) c.function) (reads Y g x)

-- what x must not depend on: all but the other side's variables in front of it
abbrev pub beyond : Quantifier → Prefix → ℕ → ℕ → Bool
beyond q p x y = not (owns (dual q) (before x p) y)

unfoldable pub in_order : Quantifier → Prefix → Pairs → Bool
in_order q p [] = true
in_order q p (c ∷ g) = not (reads (beyond q p c.variable) (c ∷ g) c.variable) && in_order q p g

-- the pairs cover exactly the side's variables, and are in order
pub record WellFormed (q : Quantifier) (p : Prefix) (g : Pairs) : Type 0 where
  pub covers : (x : ℕ) → sets g x ≡ owns q p x
  pub has_once : once g ≡ true
  pub is_in_order : in_order q p g ≡ true

-- What pairs of the side q are relied on for: they win, and a third party can read off them that they are a strategy.
pub record StrategyRight (q : Quantifier) (f : Formula) (g : Pairs) : Type 0 where
  pub wins : Wins q f (play g)
  pub well_formed : WellFormed q f.prefix g
