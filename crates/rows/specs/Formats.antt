-- The format of a sheet, as code holds it.
-- Assumes nothing.
use Rattle.sheet.specs.Format as sheet
use Rattle.rows.specs.declared.Format as format
use Rattle.rows.specs.declared.Format.{Format}

abbrev pub format_of : Format → sheet.Format
format_of format.TheVariants.Narrow = sheet.narrow
format_of format.TheVariants.Wide = sheet.wide
