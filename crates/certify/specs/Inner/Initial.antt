-- How initial steps are tested: the matrix is evaluated with the literals of the constraint at the verdict claimed, and all others at the other
-- value.
-- Assumes nothing.
use Rattle.std.specs.Prelude.{◌≡◌, Bool, true, ◌&&◌, cond, List, ℕ, zero, suc, ◌+◌, ◌*◌, ◌≤◌, ◌<◌, ltb}
use Rattle.std.specs.Bool.{beq}
use Rattle.formula.specs.Tree.{Tree, Literals}
use Rattle.formula.specs.Certificates.{settles}
use Rattle.sets.specs.Sets as sets
use Rattle.sheet.specs.Format.{Bytes}
use Rattle.sheet.specs.Certificates.{head_word, step_constraint, side_for}
use Rattle.rows.specs.Formulas.{node_rows_in, Readable}
use Rattle.jumps.specs.Jumps.{Rooms, Jumps}
use Rattle.certify.specs.declared.initial.Claim.{Claim}

-- a literal is in a set of codes
abbrev pub marked : List ℕ → Literals
marked marks s x = ltb x 2048 && sets.holds marks (2 * x + cond s 0 1)

-- the literals' values for a verdict
abbrev pub valued : Bool → List ℕ → Literals
valued v marks s x = beq (marked marks s x) v

-- the sheet of a claim, with its matrix in the jump tables
pub record Settling (q : Claim) (b : Bytes) (high low : List ℕ) : Type 0 where
  pub readable : Readable q.layout b
  pub jumps : Jumps (node_rows_in q.layout b) high low
  pub rooms : Rooms q.layout.nodes high low

-- step k with the first word w: a derived one is left to another test
unfoldable pub settled_by : Bool → Tree → List ℕ → List ℕ → ℕ → ℕ → Bool
settled_by v t heads codes k zero = settles (side_for v) (step_constraint heads codes k) t
settled_by v t heads codes k (suc w) = true

abbrev pub settled_at : Bool → Tree → List ℕ → List ℕ → ℕ → Bool
settled_at v t heads codes k = settled_by v t heads codes k (head_word heads k 0)

-- r is the first initial step from k on and before n, or n
pub record NextInitial (heads : List ℕ) (k n r : ℕ) : Type 0 where
  pub onward : k ≤ r
  pub within : r ≤ n
  pub is_initial : r < n → head_word heads r 0 ≡ 0
  pub others_between : (j : ℕ) → k ≤ j → j < r → head_word heads j 0 ≡ 0 → ⊥
