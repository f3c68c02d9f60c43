-- The answer of Clauses has values in their ranges, and what it claims about truth its number claims too.
-- Assumes nothing.
use mathlib.Core.Path.{◌≡◌, refl, sym, subst}
use lib.ListN.{length}
use Rattle.sheet.specs.Format.{Bytes}
use Rattle.sheet.specs.Clauses.{clauses_tests, clauses_call}
use Rattle.sheet.specs.Truthful.{truth_of}
use Rattle.sheet.proofs.Known.{clauses-known, clauses-place}
use Rattle.sheet.proofs.Truthful.{clauses_truthful}
use Rattle.rows.specs.Formats.{format_of}
use Rattle.rows.specs.declared.Format.{Format}
use Rattle.rows.proofs.Limits.{sound}
use Rattle.packing.specs.Unpacked.{FitsWritten}
use Rattle.packing.specs.Returned.{Output, packed_writing}
use Rattle.packing.specs.Told.{ToldSheet}
use Rattle.packing.proofs.Ranges.{written_fits}
use Rattle.packing.proofs.Telling.{told_sheet}

pub clauses-fits : (f : Format) (b out : Bytes) → FitsWritten (clauses_call (format_of f) b out).answer
unfolding clauses_call
clauses-fits f b out =
    let F = format_of f in
    written_fits f f (clauses_tests F b (length out)) _ out (clauses-known F b (length out)) (λ n i e. clauses-place F b _ (length out) e)
    (clauses_truthful F (sound f) b out refl)

pub clauses_told : (f : Format) (b out : Bytes) {o : Output} → o ≡ packed_writing (clauses_call (format_of f) b out)
    → (o ≡ packed_writing (clauses_call (format_of f) b out)) × ToldSheet (format_of f) (truth_of (format_of f) b) o.number o.output
clauses_told f b out e = (
  e,
  subst (λ (o : Output). ToldSheet (format_of f) (truth_of (format_of f) b) o.number o.output) (sym e)
      (told_sheet (clauses-fits f b out) (clauses_truthful (format_of f) (sound f) b out refl)),
)
