-- The matrix as a chain of jumps: two tables say for each node row at which row evaluation goes on once the subtree there is known
-- to be true (high) or false (low). Behind the last row N, row N says true and row N+1 false.
-- Assumes nothing.
use Rattle.std.specs.Prelude.{◌≡◌, Bool, true, false, not, ◌&&◌, cond, List, ℕ, zero, suc, ◌+◌, ◌≤◌, ◌<◌, eqb, ltb, leb, length, get_or}
use Rattle.std.specs.Bool.{beq}
use Rattle.formula.specs.Tree.{Op, Tree, lit, node, Forest, ∅, ◌▸◌, Literals}
use Rattle.formula.specs.Truth.{Assignment, unit, join}
use Rattle.sheet.specs.Format.{Row, row, children}
use Rattle.sheet.specs.Sheet.{trees, root}

-- an entry of a table
abbrev pub entry : List ℕ → ℕ → ℕ
entry table i = get_or table i 0

-- p is the parent of i: of the subtrees that begin before i, the last one that is not yet at its end
pub record Parent (ends : List ℕ) (p i : ℕ) : Type 0 where
  pub before : p < i
  pub still_open : i < entry ends p
  pub others_closed : (y : ℕ) → p < y → y < i → entry ends y ≤ i

abbrev pub Parents : List ℕ → List ℕ → ℕ → Type 0
Parents ends parents i = (q : ℕ) → 0 < q → q < i → Parent ends (entry parents q) q

-- a child's value leads past the child if its parent is not decided by it and has more children, else where the parent's leads
abbrev pub past : Bool → ℕ → ℕ → ℕ → ℕ
past undecided end last up = cond (undecided && ltb end last) end up

unfoldable pub is_and : List Row → ℕ → Bool
is_and R i = eqb (get_or R i (row 0 0)).kind 5

-- both targets of row i, by its parent's
pub record Wired (R : List Row) (ends high low : List ℕ) (i : ℕ) : Type 0 where
  pub parent : ℕ
  pub is_parent : Parent ends parent i
  pub high_target : entry high i ≡ past (is_and R parent) (entry ends i) (entry ends parent) (entry high parent)
  pub low_target : entry low i ≡ past (not (is_and R parent)) (entry ends i) (entry ends parent) (entry low parent)

-- every row before i has its targets; the root's are the verdicts
pub record Targets (R : List Row) (ends high low : List ℕ) (i : ℕ) : Type 0 where
  pub root_high : entry high 0 ≡ length R
  pub root_low : entry low 0 ≡ length R + 1
  pub wired : (q : ℕ) → 0 < q → q < i → Wired R ends high low q

-- n rows have their targets' places in both tables
pub record Rooms (n : ℕ) (high low : List ℕ) : Type 0 where
  pub high_room : n ≤ length high
  pub low_room : n ≤ length low

-- the matrix's value, whatever values its literals are given
unfoldable mutual
  pub value_by : Tree → Literals → Bool
  value_by (lit s v) L = L s v
  value_by (node o ts) L = value_all ts o L

  pub value_all : Forest → Op → Literals → Bool
  value_all ∅ o L = unit o
  value_all (t ▸ ts) o L = join o (value_by t L) (value_all ts o L)

-- the literals' values under an assignment
abbrev pub signed : Assignment → Literals
signed ρ s v = beq s (ρ v)

-- the value of a literal, and of an operator that has no child
unfoldable pub row_value : Row → Literals → Bool
row_value x L = cond (leb x.kind 4) (L (eqb x.kind 3) x.argument) (eqb x.kind 5)

-- where evaluation goes on after row i: an operator goes on at its first child, any other row by its value
unfoldable pub next : List Row → List ℕ → List ℕ → Literals → ℕ → ℕ
next R high low L i =
    cond (eqb (children (get_or R i (row 0 0))) 0) (cond (row_value (get_or R i (row 0 0)) L) (entry high i) (entry low i)) (i + 1)

-- the row that says the verdict
abbrev pub verdict_row : ℕ → Bool → ℕ
verdict_row n true = n
verdict_row n false = n + 1

-- i leads to a verdict in k steps, or in some number of them
abbrev pub Leads : ℕ → (ℕ → ℕ) → Bool → ℕ → ℕ → Type 0
Leads n step x zero i = i ≡ verdict_row n x
Leads n step x (suc k) i = (i < n) × Leads n step x k (step i)

pub record Decides (n : ℕ) (step : ℕ → ℕ) (x : Bool) (i : ℕ) : Type 0 where
  pub steps : ℕ
  pub leads : Leads n step x steps i

-- tables that evaluate the matrix: every jump leads forward, and row 0 to the value
pub record Jumps (R : List Row) (high low : List ℕ) : Type 0 where
  pub high_forward : (i : ℕ) → i < length R → (i < entry high i) × (entry high i ≤ length R + 1)
  pub low_forward : (i : ℕ) → i < length R → (i < entry low i) × (entry low i ≤ length R + 1)
  pub decides : (L : Literals) → Decides (length R) (next R high low L) (value_by (root (trees R)) L) 0
