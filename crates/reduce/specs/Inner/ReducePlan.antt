-- What Reduce decides before it writes ("What each operation turns away"; N8).
-- Assumes nothing.
use Rattle.std.specs.Prelude.{◌≡◌, true, ℕ, ◌≤◌, length, Result, Ok, Err}
use Rattle.formula.specs.Reduce.{in_profile}
use Rattle.sheet.specs.Format.{Bytes}
use Rattle.sheet.specs.Sheet.{formula}
use Rattle.sheet.specs.Check.{answer, passes}
use Rattle.sheet.specs.Operations.{reduce_tests}
use Rattle.rows.specs.Formats.{format_of}
use Rattle.rows.specs.declared.Format.{Format}
use Rattle.rows.specs.Refusals.{refused_by}
use Rattle.rows.specs.declared.Layout.{Layout}
use Rattle.rows.specs.declared.refusals.Refusal.{Refusal}
use Rattle.checking.specs.Sheets.{Sheet}

-- every test passes
pub record ReducePlanned (f : Format) (b : Bytes) (room : ℕ) (s : Layout) : Type 0 where
  pub sheet : Sheet f b s
  pub tests_pass : passes (reduce_tests (format_of f) b room) ≡ true
  pub profile : in_profile (formula (format_of f) b).matrix ≡ true
  pub room_is : length b ≤ room

abbrev pub ReducePlans : Format → Bytes → ℕ → Result Layout Refusal → Type 0
ReducePlans f b room (Err e) = refused_by e ≡ answer (reduce_tests (format_of f) b room) room
ReducePlans f b room (Ok s) = ReducePlanned f b room s
