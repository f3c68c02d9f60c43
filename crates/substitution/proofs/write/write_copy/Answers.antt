-- `substitution::write::write_copy` meets its contract: the kinds are spliced in, and then the arguments.
use Rattle.std.proofs.Common.{◌≡◌, ap, ◌∙◌, List, ◌++◌, ℕ, ◌*◌, ◌-◌, ◌<◌, length, get_or, take, drop, rules}
use Rattle.sheet.specs.Format.{Bytes, Row}
use Rattle.sheet.specs.Sheet.{row_kinds, row_arguments}
use Rattle.sheet.proofs.Parts.{length-row_kinds, length-row_arguments}
use Rattle.rows.specs.Layouts.{width}
use Rattle.substitution.specs.Output.{extent, copy_in}
use Rattle.substitution.proofs.Copied.{length-copied}
use Rattle.substitution.proofs.Fits.{copied-fits}
use Rattle.substitution.proofs.Spans.{length-span}
use Rattle.substitution.proofs.Splice.{lent, copied-laid}
use Rattle.substitution.proofs.write.write_copy.Goals as goal

pub returns-clause-laid : goal.returns-clause-laid
returns-clause-laid c =
    let s = c.args.s in
    let b = c.args.b.now in
    let out = c.args.out.now in
    let span = c.args.span in
    let at = c.kind_place-kinds.result in
    let new : List Row = copy_in s b c.args.table.now span in
    let many : length new ≡ extent span =
    length-copied c.args.table.now span.from span.to _ ∙ length-span s b c.requires.0.source span c.requires.1 in
    let bytes : (i : ℕ) → get_or b i 0 < 256 = λ i. search rules in
    let mid : Bytes = take at out ++ (c.copy_kinds.new.out ++ drop (length out - at) (drop at out)) in
    copied-laid out c.requires.0 c.args.to.at new (copied-fits s b bytes c.args.table.now span.from span.to) (extent span) many c.requires.2
    c.kind_place-kinds.ensures c.argument_place-arguments.ensures
    (lent out (row_kinds new) at (extent span) (length-row_kinds new ∙ many) c.copy_kinds.ensures)
    (lent mid (row_arguments (width s) new) c.argument_place-arguments.result (width s * extent span)
    (length-row_arguments (width s) new ∙ ap (λ n. width s * n) many) c.copy_arguments.ensures)
