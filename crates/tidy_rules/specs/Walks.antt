-- What the walks over segments find, and what joining dead ones leaves.
-- Assumes nothing.
use Rattle.std.specs.Prelude.{◌≡◌, ◌||◌, cond, List, ◌⊎◌, ℕ, ◌-◌, ◌≤◌, ◌<◌, eqb, get_or, set}
use Rattle.formula.specs.Tree.{∅, count}
use Rattle.sheet.specs.Format.{Row, row}
use Rattle.sheet.specs.Sheet.{front, behind}
use Rattle.tidy_rules.specs.Segments.{Segments, ◌⊕◌, live, Laid, Here}

-- a row by its number
abbrev pub at_row : List Row → ℕ → Row
at_row R r = get_or R r (row 0 0)

-- how many rows the segment of a row covers
unfoldable pub extent : Row → ℕ
extent r = cond (eqb r.kind 3 || eqb r.kind 4) 1 r.argument

-- 1 for a row whose segment holds a tree, 0 for a dead one's
abbrev pub Alive : Row → ℕ → Type 0
Alive r one = ((r.kind ≡ 0) × (one ≡ 0)) ⊎ ((r.kind ≡ 0 → ⊥) × (one ≡ 1))

-- every segment before a row is dead, and the segment at that row is not
pub record FirstLive (R : List Row) (from at to : ℕ) (before : List Row) (bs : Segments) (after : List Row) : Type 0 where
  pub done : Segments
  pub rest : Segments
  pub here : Here R from at to before done rest after
  pub hidden : live done ≡ ∅
  pub others : live bs ≡ live rest
  pub found : at < to → (at_row R at).kind ≡ 0 → ⊥

abbrev pub Finds : List Row → ℕ → ℕ → ℕ → Type 0
Finds R from to at = (before : List Row) (bs : Segments) (after : List Row) → Laid R from to before bs after → FirstLive R from at to before bs after

-- how many trees segments hold
abbrev pub Counts : List Row → ℕ → ℕ → ℕ → Type 0
Counts R from to c = (before : List Row) (bs : Segments) (after : List Row) → Laid R from to before bs after → c ≡ count (live bs)

-- the first trees of some segments, and those behind them
pub record Hopped (R : List Row) (from at to : ℕ) (before : List Row) (bs : Segments) (after : List Row) (owed : ℕ) : Type 0 where
  pub first : Segments
  pub others : Segments
  pub parts : bs ≡ first ⊕ others
  pub here : Here R from at to before first others after
  pub owned : live first ≡ front owed (live bs)
  pub left : live others ≡ behind owed (live bs)

abbrev pub Hops : List Row → ℕ → ℕ → ℕ → ℕ → Type 0
Hops R from to owed at =
    (before : List Row) (bs : Segments) (after : List Row) → Laid R from to before bs after → owed ≤ count (live bs)
    → Hopped R from at to before bs after owed

-- a dead segment is joined with the dead rows before it, which begin at row `run`; behind a live one the dead rows begin anew
abbrev pub JoinsAt : List Row → List Row → ℕ → ℕ → ℕ → ℕ → Type 0
JoinsAt R R' run at next run' =
    (((at_row R at).kind ≡ 0) × (R' ≡ set R run (row 0 (next - run))) × (run' ≡ run)) ⊎
    (((at_row R at).kind ≡ 0 → ⊥) × (R' ≡ R) × (run' ≡ next))
