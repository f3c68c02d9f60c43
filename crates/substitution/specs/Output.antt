-- Rows written to an output one after the other. Rows before row at are written already; the bytes around the rows stay.
-- Assumes nothing.
use Rattle.std.specs.Prelude.{◌≡◌, List, ◌++◌, ℕ, ◌+◌, ◌-◌, ◌≤◌, length, take, drop}
use Rattle.std.proofs.Math.Seq.{slice}
use Rattle.sheet.specs.Format.{Bytes, Row}
use Rattle.rows.specs.Layouts.{total, rows_in, Room, Kept}
use Rattle.rows.specs.declared.Layout.{Layout}
use Rattle.substitution.specs.Changes.{copied}
use Rattle.substitution.specs.declared.Span.{Span}

-- how many rows, and the rows themselves, changed by a table
abbrev pub extent : Span → ℕ
extent span = span.to - span.from

abbrev pub copy_in : Layout → Bytes → List ℕ → Span → List Row
copy_in s b t span = copied t span.from span.to (rows_in s b)

-- they are rows of the sheet
pub record Within (span : Span) (s : Layout) : Type 0 where
  pub ordered : span.from ≤ span.to
  pub inside : span.to ≤ total s

-- the rows from to to stay
abbrev pub Stays : Layout → Bytes → List ℕ → ℕ → ℕ → Type 0
Stays s b t from to = copied t from to (rows_in s b) ≡ slice from to (rows_in s b)

-- the rows of a span that are changed stand within another
pub record Between (s : Layout) (b : Bytes) (t : List ℕ) (span changed : Span) : Type 0 where
  pub start : span.from ≤ changed.from
  pub ordered : changed.from ≤ changed.to
  pub end : changed.to ≤ span.to
  pub before : Stays s b t span.from changed.from
  pub behind : Stays s b t changed.to span.to

-- the rows of a span can be read from b and copied, with these changed
pub record Copying (s : Layout) (b : Bytes) (t : List ℕ) (span changed : Span) : Type 0 where
  pub source : Room s (length b)
  pub within : Within span s
  pub between : Between s b t span changed

-- the rows of s can be read from b, and those of t, of the same format, have their place in out
pub record CopyReady (s : Layout) (b : Bytes) (t : Layout) (out : Bytes) : Type 0 where
  pub source : Room s (length b)
  pub room : Room t (length out)
  pub same_format : t.format ≡ s.format

-- the bytes from start on replaced by others
unfoldable pub spliced : ℕ → Bytes → Bytes → Bytes
spliced start new old = take start old ++ (new ++ drop (start + length new) old)

-- rs are written from row at on, and row next is the row behind them
pub record Laid (t : Layout) (old new : Bytes) (at next : ℕ) (rs : List Row) : Type 0 where
  pub next_row : next ≡ at + length rs
  pub so_far : take next (rows_in t new) ≡ take at (rows_in t old) ++ rs
  pub around : Kept t old new
