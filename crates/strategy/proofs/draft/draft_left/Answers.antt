-- `strategy::draft::draft_left` meets its contract.
use mathlib.Core.Path.{◌≡◌, sym, ap, ◌∙◌}
use Prim.Native.Nat.{◌+◌, ◌*◌, ◌≤◌}
use native.Mathlib.Omega.{arith}
use lib.ListN.{length}
use Rattle.formula.specs.Strategy.{winner, left}
use Rattle.rows.specs.Formulas.{prefix_in}
use Rattle.rows.proofs.Formulas.{length_prefix}
use Rattle.rows.proofs.Limits.{number_fits}
use Rattle.pairs.specs.Pairs.{pair_rows}
use Rattle.strategy.proofs.Drafting.{only_counted, length-left-rows, few_left}
use Rattle.strategy.proofs.draft.draft_left.Goals as goal

pub overflow_mul-next : goal.overflow_mul-next
overflow_mul-next c =
    let few : c.count_left.result ≤ 1024 =
    let p = prefix_in c.args.s c.args.b.now in
    omega (arith, c.count_left.ensures, few_left (winner c.args.exists) p, length_prefix c.args.b.now c.requires.0, c.requires.0.few_variables) in
    omega (arith, few)

pub overflow_add-next : goal.overflow_add-next
overflow_add-next c =
    let few : c.count_left.result ≤ 1024 =
    let p = prefix_in c.args.s c.args.b.now in
    omega (arith, c.count_left.ensures, few_left (winner c.args.exists) p, length_prefix c.args.b.now c.requires.0, c.requires.0.few_variables) in
    omega (arith, few, c.requires.2.few)

pub returns-then-t-next : goal.returns-then-t-next
returns-then-t-next c =
    let counted : 3 * c.count_left.result ≡ length (pair_rows (left (winner c.args.exists) (prefix_in c.args.s c.args.b.now))) =
    ap (λ k. 3 * k) c.count_left.ensures ∙ sym (length-left-rows (winner c.args.exists) (prefix_in c.args.s c.args.b.now)) in
    only_counted (ap (λ k. c.args.to.at + k) counted) c.if-t-next.true

pub write_left-requires : goal.write_left-requires
write_left-requires c =
    let counted : 3 * c.count_left.result ≡ length (pair_rows (left (winner c.args.exists) (prefix_in c.args.s c.args.b.now))) =
    ap (λ k. 3 * k) c.count_left.ensures ∙ sym (length-left-rows (winner c.args.exists) (prefix_in c.args.s c.args.b.now)) in
    let p = c.requires in (
      p.0,
      record {
        has_room = p.2.draftable.room (omega (arith, c.if-t-next.false, p.2.behind));
        fits = λ i l. number_fits c.args.to.layout.format (omega (arith, p.1.few_numbers i l));
        room = omega (arith, c.if-t-next.false, counted);
      },
    )
