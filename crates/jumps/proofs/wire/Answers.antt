-- `jumps::wire` meets its contract: each turn gives row i its parent and its targets.
use Rattle.std.proofs.Common.{◌≡◌, sym, ap, subst, ◌∙◌, ℕ, ◌+◌, rules, arith}
use lib.Seq.{get_or-set_same}
use Rattle.rows.specs.Formulas.{node_rows_in}
use Rattle.rows.proofs.Formulas.{length-nodes}
use Rattle.jumps.specs.Jumps.{Targets}
use Rattle.jumps.proofs.Rows.{kind_row, root-entry}
use Rattle.jumps.proofs.Loops.{parents_more, wire_row}
use Rattle.jumps.proofs.wire.Goals as goal

pub loop-i-init : goal.loop-i-init
loop-i-init c =
    let a = c.args in
    let n = a.s.nodes in
    let all = length-nodes a.sheet.now c.requires.0.readable in
    record {
      known = λ q h l. absurd (omega arith);
      targets = record {
        root_high = get_or-set_same a.high.now 0 n 0 (omega arith) ∙ sym all;
        root_low = get_or-set_same a.low.now 0 (n + 1) 0 (omega arith) ∙ ap (λ (m : ℕ). m + 1) (sym all);
        wired = λ q h l. absurd (omega arith);
      };
    }

pub parent_of-p-requires : goal.parent_of-p-requires
parent_of-p-requires c =
    let open-root = root-entry c.args.sheet.now c.args.ends.now c.requires.0 in
    (omega arith, omega (arith, c.requires.0.holds), omega arith, omega arith, c.loop-i.invariant.known)

pub loop-i-preserved : goal.loop-i-preserved
loop-i-preserved c =
    let a = c.args in
    let ends = a.ends.now in
    let l = c.loop-i in
    let up = c.parent_of-p in
    record {
      known = parents_more ends l.parents l.i up.result (omega arith) up.ensures l.invariant.known;
      targets =
          wire_row (node_rows_in a.s a.sheet.now) ends l.high l.low l.i up.result c.kind_at-conjunction.result c.past.result c.past-in-loop-i.result
          (omega arith) (search rules) (search rules) up.ensures
          (kind_row a.sheet.now c.requires.0.readable up.result (omega (arith, up.ensures.before)) c.kind_at-conjunction.ensures) c.past.ensures
          c.past-in-loop-i.ensures l.invariant.targets;
    }

pub returns : goal.returns
returns c =
    let last : c.loop-i.i ≡ c.args.s.nodes = omega arith in
    subst (Targets (node_rows_in c.args.s c.args.sheet.now) c.args.ends.now c.loop-i.high c.loop-i.low) last c.loop-i.invariant.targets
