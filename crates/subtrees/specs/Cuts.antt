-- The children of an operator cut into runs that hold no chosen literal and runs that do, by turns.
-- Assumes nothing.
use Rattle.std.specs.Prelude.{Bool, false, not, cond, List, [], ◌∷◌, ◌++◌, ℕ, ◌+◌}
use Rattle.std.specs.Bool.{beq}
use Rattle.std.proofs.Math.Seq.{slice}
use Rattle.formula.specs.Tree.{Forest, ∅, ◌▸◌, Literals, rows, has}
use Rattle.sheet.specs.Format.{Row}

-- The rows at which the next runs begin, and the end, where the first tree's row is row i and the current run holds chosen literals or not.
unfoldable pub turns : Literals → Bool → ℕ → Forest → List ℕ
turns L holding i ∅ = i ∷ []
turns L holding i (t ▸ ts) =
    cond (beq (has L t) holding) (turns L holding (i + rows t) ts) (i ∷ turns L (not holding) (i + rows t) ts)

-- the first run holds no chosen literal and may be empty
unfoldable pub cuts : Literals → ℕ → Forest → List ℕ
cuts L i ts = i ∷ turns L false i ts

-- the rows of every other run, from the first of these cuts on
unfoldable pub every_other : List ℕ → List Row → List Row
every_other [] rs = []
every_other (from ∷ []) rs = []
every_other (from ∷ to ∷ later) rs = slice from to rs ++ every_other later rs
