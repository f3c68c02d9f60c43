-- A sheet that can be judged: its prefix binds no number twice, and none that a table of ranks doesn't have.
-- Assumes nothing.
use Rattle.std.specs.Prelude.{◌≡◌, true}
use Rattle.formula.specs.Tree.{distinct}
use Rattle.sheet.specs.Format.{Bytes}
use Rattle.rows.specs.Formulas.{prefix_in, Readable}
use Rattle.rows.specs.declared.Layout.{Layout}
use Rattle.certify.specs.Inner.Ranking.{Numbered}

pub record Judged (s : Layout) (b : Bytes) : Type 0 where
  pub readable : Readable s b
  pub numbered : Numbered s b
  pub is_distinct : distinct (prefix_in s b) ≡ true
