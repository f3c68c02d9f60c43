-- `claim::write::write_pairs` meets its contract: a pair a turn.
use Rattle.std.proofs.Common.{◌≡◌, ap, ◌∙◌, ℕ, suc, ◌+◌, ◌<◌, length, get_or, arith, add-one}
use Rattle.substitution.specs.declared.Span.{Span}
use Rattle.substitution.proofs.Splice.{ready_on}
use Rattle.pair_tests.proofs.Stands.{counted, function-stands}
use Rattle.claim.proofs.Turns.{differing_none, differing-all, pair-room, differing-on}
use Rattle.claim.proofs.write.write_pairs.Goals as goal

-- the rows of a pair's function
abbrev function : ℕ → ℕ → ℕ → Span
function v cut next = record { from = v + cut + 2; to = v + next }

pub loop-j-init : goal.loop-j-init
loop-j-init c = differing_none c.args.b.now c.requires.1 c.args.kind c.args.to.layout c.args.out.now c.args.to.at

pub overflow_sub-j-end : goal.overflow_sub-j-end
overflow_sub-j-end c = omega (arith, counted c.args.b.now c.requires.1)

pub write_pair-at-requires : goal.write_pair-at-requires
write_pair-at-requires c =
    let a = c.args in
    let span = function a.s.variables c.from.result c.from-in-loop-j.result in
    let here : suc c.loop-j.j < length a.cuts.now = omega (arith, c.loop-j-test.true) in
    let begins : span.from ≡ a.s.variables + (get_or a.cuts.now c.loop-j.j 0 + 2) = omega (arith, c.from.ensures) in
    let ends : span.to ≡ a.s.variables + get_or a.cuts.now (suc c.loop-j.j) 0 =
    ap (λ n. a.s.variables + n) (c.from-in-loop-j.ensures ∙ ap (λ k. get_or a.cuts.now k 0) (add-one c.loop-j.j)) in
    let f = function-stands a.b.now c.requires.1 c.loop-j.j here {span = span} begins ends in (
      c.requires.0,
      ready_on c.requires.2 c.loop-j.invariant.same_length,
      record { ordered = f.ordered; inside = f.inside },
      omega arith,
      pair-room a.b.now c.requires.1 a.kind a.to.layout a.out.now a.to.at c.loop-j.invariant here {span = span} begins ends c.requires.3,
    )

pub loop-j-preserved : goal.loop-j-preserved
loop-j-preserved c =
    let a = c.args in
    let span = function a.s.variables c.from.result c.from-in-loop-j.result in
    let here : suc c.loop-j.j < length a.cuts.now = omega (arith, c.loop-j-test.true) in
    let begins : span.from ≡ a.s.variables + (get_or a.cuts.now c.loop-j.j 0 + 2) = omega (arith, c.from.ensures) in
    let ends : span.to ≡ a.s.variables + get_or a.cuts.now (suc c.loop-j.j) 0 =
    ap (λ n. a.s.variables + n) (c.from-in-loop-j.ensures ∙ ap (λ k. get_or a.cuts.now k 0) (add-one c.loop-j.j)) in
    differing-on a.b.now c.requires.1 a.kind a.to.layout a.out.now a.to.at c.loop-j.invariant here {span = span} begins ends (add-one _)
    c.write_pair-at.ensures c.write_pair-at.auto.out

pub returns : goal.returns
returns c =
    let a = c.args in
    differing-all a.b.now c.requires.1 a.kind a.to.layout a.out.now a.to.at c.loop-j.invariant (omega (arith, c.loop-j-test.false))
