-- A call of Resume in the words of N13: its counts, and whether the caller calls the sheet narrow.
-- Assumes nothing.
use Rattle.std.specs.Prelude.{Bool, true, false}
use Rattle.sheet.specs.Format.{Bytes}
use Rattle.sheet.specs.Operations.{Solving}
use Rattle.sheet.specs.Resume.{resume_call}
use Rattle.rows.specs.declared.Format.{Format}
use Rattle.rows.specs.declared.Format.TheVariants.{Narrow, Wide}
use Rattle.resume.specs.declared.Counts.{Counts}

abbrev pub is_narrow : Format → Bool
is_narrow Narrow = true
is_narrow Wide = false

abbrev pub resume_with : Counts → Bytes → Format → Bytes → Bytes → Solving
resume_with c b f first second = resume_call c.started c.settled c.expanded b (is_narrow f) first second
