-- `substitution::write::write_rows` meets its contract.
use Rattle.std.proofs.Common.{ap, ap₂, ◌∙◌, ◌*◌, ◌<◌, ℕ, get_or, take, drop, rules}
use Rattle.std.proofs.Math.Seq.{slice}
use Rattle.rows.specs.Layouts.{rows_in}
use Rattle.substitution.specs.Output.{extent, spliced}
use Rattle.substitution.proofs.Fits.{slice_fits}
use Rattle.substitution.proofs.Spans.{length-span, span_kinds, span-arguments}
use Rattle.substitution.proofs.Splice.{copied-laid}
use Rattle.substitution.proofs.write.write_rows.Goals as goal

pub returns-clause-laid : goal.returns-clause-laid
returns-clause-laid c =
    let s = c.args.s in
    let b = c.args.b.now in
    let span = c.args.span in
    let kinds = c.kind_place-kinds in
    let arguments = c.argument_place-arguments in
    let bytes : (i : ℕ) → get_or b i 0 < 256 = λ i. search rules in
    copied-laid c.args.out.now c.requires.0 c.args.to.at (slice span.from span.to (rows_in s b)) (slice_fits s b bytes span.from span.to) (extent span)
    (length-span s b c.requires.0.source span c.requires.1) c.requires.2 kinds.ensures arguments.ensures
    (c.write_bytes.ensures ∙
    ap (λ l. spliced kinds.result l c.args.out.now)
    (ap (λ n. take (extent span) (drop n b)) c.kind_place.ensures ∙ span_kinds s b c.requires.0.source span c.requires.1))
    (c.write_bytes-2.ensures ∙
    ap (λ l. spliced arguments.result l c.write_bytes.new.out)
    (ap₂ (λ w n. take (w * extent span) (drop n b)) c.width.ensures.0 c.argument_place.ensures ∙
    span-arguments s b c.requires.0.source span c.requires.1 bytes))
