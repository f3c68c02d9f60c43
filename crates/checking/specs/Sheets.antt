-- A sheet that Check accepts.
-- Assumes nothing.
use Rattle.std.specs.Prelude.{◌≡◌, true}
use Rattle.sheet.specs.Format.{Bytes}
use Rattle.sheet.specs.Check.{passes, check_tests}
use Rattle.rows.specs.Formats.{format_of}
use Rattle.rows.specs.Formulas.{layout_of}
use Rattle.rows.specs.declared.Format.{Format}
use Rattle.rows.specs.declared.Layout.{Layout}

-- a sheet of format f that Check accepts, with its layout
pub record Sheet (f : Format) (b : Bytes) (s : Layout) : Type 0 where
  pub tests_pass : passes (check_tests (format_of f) b) ≡ true
  pub layout_is : s ≡ layout_of f b
