-- `substitution::copy::copy_kinds` meets its contract.
use Rattle.std.proofs.Common.{◌≡◌, ap, ◌∙◌, ◌++◌, take, drop, arith}
use Rattle.std.proofs.Math.Seq.{slice}
use Rattle.sheet.specs.Sheet.{row_kinds}
use Rattle.rows.specs.Layouts.{rows_in}
use Rattle.substitution.specs.Output.{extent}
use Rattle.substitution.proofs.Lent.{kinds_none, kinds_next, kinds_all}
use Rattle.substitution.proofs.Spans.{kinds_within, span_kinds}
use Rattle.substitution.proofs.copy.copy_kinds.Goals as goal
use Rattle.substitution.proofs.copy.copy_kinds.Goals.{After-copy_bytes}

-- the kinds are moved as they are
as_they_are : (c : After-copy_bytes)
    → c.copy_bytes.new.out ≡ row_kinds (slice c.args.span.from c.args.span.to (rows_in c.args.s c.args.b.now)) ++ drop (extent c.args.span) c.args.out.now
as_they_are c =
    let b = c.args.b.now in
    let k = extent c.args.span in
    c.copy_bytes.ensures ∙
    ap (λ l. l ++ drop k c.args.out.now)
    (ap (λ n. take k (drop n b)) c.kind_place.ensures ∙ span_kinds c.args.s b c.requires.0.source c.args.span c.requires.0.within)

pub kind_place-requires : goal.kind_place-requires
kind_place-requires c = omega (arith, kinds_within c.args.s c.args.b.now c.requires.0.source c.args.span c.requires.0.within, c.well_formed)

pub copy_bytes-requires : goal.copy_bytes-requires
copy_bytes-requires c = (
  rw c.kind_place.ensures (kinds_within c.args.s c.args.b.now c.requires.0.source c.args.span c.requires.0.within),
  c.requires.1,
)

pub loop-r-init : goal.loop-r-init
loop-r-init c = kinds_none c.requires.0 _

pub loop-r-preserved : goal.loop-r-preserved
loop-r-preserved c =
    kinds_next c.requires.0 (omega (arith, c.copy_bytes.auto.out, c.requires.1)) c.loop-r.invariant c.loop-r-test.true c.new_kind.ensures

pub returns : goal.returns
returns c = kinds_all c.requires.0 _ (as_they_are (goal.at.returns c).After-copy_bytes) c.loop-r-test.false c.loop-r.invariant
