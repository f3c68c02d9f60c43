-- Packing: how many rows further the next row is that may be packed, and what is packed.
-- Assumes nothing.
use Rattle.std.specs.Prelude.{◌≡◌, cond, List, ◌++◌, ℕ, ◌+◌, eqb, length, take, drop}
use Rattle.sheet.specs.Format.{Row}
use Rattle.sheet.specs.Sheet.{forest_rows}
use Rattle.tidy_rules.specs.Segments.{Segment, Segments, live, Laid, Stands}
use Rattle.tidy_rules.specs.Entered.{packed, ArgumentOf}
use Rattle.tidy_rules.specs.Known.{Told, AllTold}

unfoldable pub stride : Row → ℕ
stride r = cond (eqb r.kind 0) r.argument 1

-- the rows from one number up to another are segments whose operators' numbers a table has
pub record ToldRegion (R : List Row) (K : List ℕ) (from to : ℕ) : Type 0 where
  pub before : List Row
  pub segments : Segments
  pub after : List Row
  pub laid : Laid R from to before segments after
  pub told : AllTold K from segments

-- the same for the segment at a row
pub record ToldAt (R : List Row) (K : List ℕ) (at : ℕ) : Type 0 where
  pub before : List Row
  pub segment : Segment
  pub after : List Row
  pub stands : Stands R at before segment after
  pub told : Told K at segment

-- the argument of its row in a sheet
abbrev pub ArgumentTold : List Row → List ℕ → ℕ → ℕ → Type 0
ArgumentTold R K at a = (before : List Row) (x : Segment) (after : List Row) → Stands R at before x after → Told K at x → ArgumentOf x a

-- a segment's row has been copied behind those packed before
pub record Put (R R' : List Row) (at to : ℕ) (x : Segment) (next : ℕ) : Type 0 where
  pub added : take next R' ≡ take to R ++ packed x
  pub ahead : drop (at + 1) R' ≡ drop (at + 1) R
  pub moved : next ≡ to + length (packed x)

abbrev pub Puts : List Row → List Row → List ℕ → ℕ → ℕ → ℕ → Type 0
Puts R R' K at to next =
    (before : List Row) (x : Segment) (after : List Row) → Stands R at before x after → Told K at x → Put R R' at to x next

-- the rows of all trees are one behind the other
abbrev pub Packs : List Row → List Row → List ℕ → ℕ → ℕ → ℕ → Type 0
Packs R R' K v n m =
    (before : List Row) (bs : Segments) (after : List Row) → Laid R v n before bs after → AllTold K v bs
    → take m R' ≡ before ++ forest_rows (live bs)
