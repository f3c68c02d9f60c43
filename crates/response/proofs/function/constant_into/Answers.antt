-- `response::function::constant_into` meets its contract.
use Rattle.std.proofs.Common.{length, refl, ◌∙◌, subst, arith}
use Rattle.formula.specs.Tree.{constant, quantifier_of}
use Rattle.formula.proofs.Strategy.Function.{rows-constant}
use Rattle.rows.specs.Formulas.{prefix_in, matrix_in}
use Rattle.rows.proofs.Limits.{number_fits}
use Rattle.raw.specs.Formulas.{raw_layout}
use Rattle.raw.proofs.Raws.{room_on}
use Rattle.substitution.specs.Output.{Laid}
use Rattle.response.proofs.Functions.{room, prefix_ready, raw-written, sheet-written, layout-written, raw-constant, constant-rows}
use Rattle.response.proofs.function.constant_into.Goals as goal

pub write_prefix-at-requires : goal.write_prefix-at-requires
write_prefix-at-requires c =
    let a = c.args in
    let k = c.requires in
    let is = raw-constant (quantifier_of (prefix_in a.s a.b.now) a.p.variable) a.p.variable (matrix_in a.s a.b.now) a.p.value in (
      k.from.readable,
      prefix_ready k.from k.named k.value_is (constant a.p.value) is (rows-constant a.p.value) (length a.out.now) k.has_room a.out.now refl,
      k.named.inside,
      omega arith,
    )

pub write_row-requires : goal.write_row-requires
write_row-requires c =
    let a = c.args in
    let k = c.requires in
    let is = raw-constant (quantifier_of (prefix_in a.s a.b.now) a.p.variable) a.p.variable (matrix_in a.s a.b.now) a.p.value in
    let fits = room k.from k.named k.value_is (constant a.p.value) is (rows-constant a.p.value) (length a.out.now) k.has_room in
    (room_on fits c.write_prefix-at.auto.out, omega (arith, c.write_prefix-at.ensures.value), number_fits a.s.format (omega arith))

pub tidy_in_place-requires : goal.tidy_in_place-requires
tidy_in_place-requires c =
    let a = c.args in
    let k = c.requires in
    let is = raw-constant (quantifier_of (prefix_in a.s a.b.now) a.p.variable) a.p.variable (matrix_in a.s a.b.now) a.p.value in
    raw-written k.from k.named k.value_is (constant a.p.value) is (rows-constant a.p.value) (length a.out.now) k.has_room refl
    (c.write_row.auto.out ∙ c.write_prefix-at.auto.out) c.write_prefix-at.ensures.value c.write_prefix-at.ensures.laid
    (subst (Laid (raw_layout a.s 1) _ _ _ _) (constant-rows a.p.value c.constant_kind.ensures) c.write_row.ensures)

pub returns : goal.returns
returns c =
    let a = c.args in
    let k = c.requires in
    let e = c.tidy_in_place.ensures in
    let is = raw-constant (quantifier_of (prefix_in a.s a.b.now) a.p.variable) a.p.variable (matrix_in a.s a.b.now) a.p.value in
    let len = length a.out.now in
    let same = c.write_row.auto.out ∙ c.write_prefix-at.auto.out in
    let back = subst (Laid (raw_layout a.s 1) _ _ _ _) (constant-rows a.p.value c.constant_kind.ensures) c.write_row.ensures in
    record {
      out_after =
          sheet-written k.from k.named k.value_is (constant a.p.value) is (rows-constant a.p.value) len k.has_room refl same
          c.write_prefix-at.ensures.value c.write_prefix-at.ensures.laid back e.b_after;
      value =
          layout-written k.from k.named k.value_is (constant a.p.value) is (rows-constant a.p.value) len k.has_room refl same
          c.write_prefix-at.ensures.value c.write_prefix-at.ensures.laid back e.value;
      variables_value = e.variables_value;
    }
