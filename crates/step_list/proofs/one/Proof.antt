-- `step_list::one` meets its contract. Assumes nothing.
use mathlib.Core.Path.{refl, sym}
use native.Mathlib.Omega.{arith}
use lib.Seq.{length-take-le}
use Rattle.rows.specs.Formats.{format_of}
use Rattle.step_list.proofs.Turning.{can-keep, took}
use borrow.Author.Rules.{rules}
use Rattle.step_list.proofs.one.Statement.{statement}
use Rattle.step_list.proofs.one.Tie as tie

shorter-n-requires : tie.Need-shorter-n-requires
shorter-n-requires c κs = search rules

slice_bounds-call-end : tie.Need-slice_bounds-call-end
slice_bounds-call-end c = search rules

slice_bounds-call-end-2 : tie.Need-slice_bounds-call-end-2
slice_bounds-call-end-2 c =
    let a = c in
    sym (length-take-le a.args.held a.args.first.now (omega (arith, a.requires)))

slice_bounds-call-end-3 : tie.Need-slice_bounds-call-end-3
slice_bounds-call-end-3 c = search rules

slice_bounds-call-end-4 : tie.Need-slice_bounds-call-end-4
slice_bounds-call-end-4 c =
    let n = c in
    let a = n in
    sym (length-take-le n.shorter-n.result a.args.second.now (omega (arith, n.shorter-n.ensures)))

call-answer-requires : tie.Need-call-answer-requires
call-answer-requires c κs = search rules

keep-kept-requires : tie.Need-keep-kept-requires
keep-kept-requires c κs =
    let called = c in
    let n = called in
    let a = n.args in
    can-keep (format_of a.f) a.s a.first.now a.second.now a.held n.shorter-n.result n.shorter-n.ensures
    called.call-answer.result called.call-answer.ensures called.call-answer.auto.out refl

shape_of-first : tie.Need-shape_of-first
shape_of-first c = search rules

shape_of-second : tie.Need-shape_of-second
shape_of-second c = search rules

returns : tie.Need-returns
returns c =
    let kept = c in
    let called = kept in
    let n = called in
    let start = n in
    let a = start.args in
    took (format_of a.f) a.s a.first.now a.second.now a.held n.shorter-n.result n.shorter-n.ensures
    called.call-answer.result called.call-answer.ensures called.call-answer.auto.out refl kept.keep-kept.result _ kept.keep-kept.ensures start.requires

pub one_spec : {M : Type 1} → statement M
one_spec =
    tie.close
    (tie.spec
    shorter-n-requires
    slice_bounds-call-end
    slice_bounds-call-end-2
    slice_bounds-call-end-3
    slice_bounds-call-end-4
    call-answer-requires
    keep-kept-requires
    shape_of-first
    shape_of-second
    returns)
