-- `pair_tests::levels::row_level` meets its contract.
use Rattle.std.proofs.Common.{◌≤◌, sym, ◌∙◌, arith}
use Rattle.rows.specs.Formulas.{prefix_in}
use Rattle.reduce.specs.Inner.Places.{row_of}
use Rattle.pair_tests.specs.Pairs.{side}
use Rattle.pair_tests.proofs.Deepest.{operator_level, set-level, unset_level, own_level, other_level}
use Rattle.pair_tests.proofs.levels.row_level.Goals as goal

pub returns-then-kind_at-gt-NEGATIVE : goal.returns-then-kind_at-gt-NEGATIVE
returns-then-kind_at-gt-NEGATIVE c =
    let a = c.args in
    operator_level _ (row_of a.s a.b.now a.r) (omega (arith, c.kind_at.ensures, c.if-kind_at-gt-NEGATIVE.true))

pub returns-in-Some : goal.returns-in-Some
returns-in-Some c =
    let a = c.args in
    let some = c.in-Some.ensures in
    some.1 ∙
    set-level (side a.exists) (prefix_in a.s a.b.now) a.levels.now (row_of a.s a.b.now a.r)
    (omega (arith, c.kind_at.ensures, c.if-kind_at-gt-NEGATIVE.false)) c.argument_at.ensures.0 c.from.ensures some.0

pub returns-then-is_existential-exists : goal.returns-then-is_existential-exists
returns-then-is_existential-exists c =
    let a = c.args in
    let low : (row_of a.s a.b.now a.r).kind ≤ 4 = omega (arith, c.kind_at.ensures, c.if-kind_at-gt-NEGATIVE.false) in
    own_level a.b.now c.requires.0 (record { inside = c.requires.1.inside; is_bound = c.requires.1.is_bound low }) c.place_at-i.ensures.0 a.exists
    c.is_existential.ensures c.if-is_existential-exists.true ∙
    sym (unset_level (side a.exists) (prefix_in a.s a.b.now) a.levels.now (row_of a.s a.b.now a.r) low c.argument_at.ensures.0 c.from.ensures (omega (arith, c.in_default.ensures)))

pub returns : goal.returns
returns c =
    let a = c.args in
    let low : (row_of a.s a.b.now a.r).kind ≤ 4 = omega (arith, c.kind_at.ensures, c.if-kind_at-gt-NEGATIVE.false) in
    other_level a.b.now c.requires.0 (record { inside = c.requires.1.inside; is_bound = c.requires.1.is_bound low }) c.place_at-i.ensures.0 a.exists
    c.is_existential.ensures c.if-is_existential-exists.false ∙
    sym (unset_level (side a.exists) (prefix_in a.s a.b.now) a.levels.now (row_of a.s a.b.now a.r) low c.argument_at.ensures.0 c.from.ensures (omega (arith, c.in_default.ensures)))
