-- `strategy::draft_strategy` meets its contract.
use mathlib.Core.Path.{◌≡◌, refl, sym, ap, subst}
use Prim.Native.Nat.{◌+◌, ◌≤◌, min}
use native.Mathlib.Omega.{arith}
use lib.ListN.{length}
use Rattle.formula.specs.Strategy.{winner}
use Rattle.sheet.specs.Trace.{room}
use Rattle.rows.specs.Formulas.{prefix_in}
use Rattle.rows.specs.declared.Layout.{Layout}
use Rattle.rows.proofs.Formulas.{length_prefix}
use Rattle.rows.proofs.Limits.{number_fits}
use Rattle.checking.proofs.CheckedSheets.{sheet_readable}
use Rattle.solve.specs.declared.State.{State}
use Rattle.strategy.specs.Inner.Drafts.{Draftable, Drafted}
use Rattle.strategy.specs.Inner.Walking.{WalkReady, Walked}
use Rattle.strategy.specs.declared.walk.Draft.{Draft}
use Rattle.strategy.proofs.Drafting.{drafted_on, length_front, few_left}
use Rattle.strategy.proofs.Ending.{few_variables, start-held, start-few, start-format, start-ends, start_left, start-rows, most_draftable}
use Rattle.strategy.proofs.draft_strategy.Goals as goal

pub count_left-requires : goal.count_left-requires
count_left-requires c = sheet_readable c.requires.is_sheet

pub draft_front-behind-requires : goal.draft_front-behind-requires
draft_front-behind-requires c =
    let layout : Layout =
    record { format = c.args.s.format; variables = c.args.s.variables; nodes = c.nodes_that_fit.result } in
    let draftable : Draftable layout (length c.args.out.now) =
    most_draftable c.args.s.format c.nodes_that_fit.ensures.0 (few_variables c.requires) c.nodes_that_fit.ensures.1 in
    let s = c.args.s in
    let b = c.args.sheet.now in
    let ok = sheet_readable c.requires.is_sheet in (
      ok,
      record {
        same_format = refl;
        draftable = draftable;
        same_variables = refl;
        fits =
            number_fits s.format
            (omega (
              arith,
              c.count_left.ensures,
              few_left (winner c.args.exists) (prefix_in s b),
              length_prefix b ok,
              few_variables c.requires,
            ));
      },
    )

pub walk-end-requires : goal.walk-end-requires
walk-end-requires c =
    let layout : Layout =
    record { format = c.args.s.format; variables = c.args.s.variables; nodes = c.nodes_that_fit.result } in
    let draftable : Draftable layout (length c.args.out.now) =
    most_draftable c.args.s.format c.nodes_that_fit.ensures.0 (few_variables c.requires) c.nodes_that_fit.ensures.1 in
    let from : State =
    record { sheet = c.tidy_into-tidied.result; settled = 0; expanded = 0 } in
    let draft : Draft =
    record {
      exists = c.args.exists;
      to = record { layout = layout; at = c.draft_front-behind.result };
    } in
    let enough : room c.args.first.now c.args.second.now ≤ length c.args.first.now =
    omega arith in
    let same_room : room c.args.first.now c.args.second.now ≡ room c.tidy_into-tidied.new.out c.args.second.now =
    ap (λ n. min n (length c.args.second.now)) (sym c.tidy_into-tidied.auto.out) in
    let at_pairs : c.draft_front-behind.result ≡ c.args.s.variables + 1 =
    omega (
      arith,
      c.draft_front-behind.ensures.next_row,
      length_front (prefix_in c.args.s c.args.sheet.now) c.count_left.result,
      length_prefix c.args.sheet.now (sheet_readable c.requires.is_sheet),
    ) in
    let e = c.tidy_into-tidied.ensures in
    let first = c.args.first.now in
    subst (λ m. WalkReady m from draft c.tidy_into-tidied.new.out c.args.second.now
    c.draft_front-behind.new.out) same_room
    (record {
      run =
          record {
            held = start-held c.requires first enough e.out_after e.value;
            first_room = omega (arith, c.tidy_into-tidied.auto.out);
            second_room = omega arith;
            few = omega (arith, start-few c.requires first enough e.out_after e.value);
          };
      says = c.args.exists;
      ends = start-ends c.requires first enough e.out_after e.value;
      draft =
          record {
            same_format = sym (start-format c.requires first enough e.out_after e.value);
            draftable = subst (Draftable layout)
                (sym c.draft_front-behind.auto.out) draftable;
            behind = omega (arith, at_pairs);
            few = omega (arith, at_pairs, few_variables c.requires);
          };
      few = omega (arith, at_pairs, few_variables c.requires, start-few c.requires first enough e.out_after e.value);
    })

pub returns-clause-strategy_drafted : goal.returns-clause-strategy_drafted
returns-clause-strategy_drafted c =
    let layout : Layout =
    record { format = c.args.s.format; variables = c.args.s.variables; nodes = c.nodes_that_fit.result } in
    let draftable : Draftable layout (length c.args.out.now) =
    most_draftable c.args.s.format c.nodes_that_fit.ensures.0 (few_variables c.requires) c.nodes_that_fit.ensures.1 in
    let from : State =
    record { sheet = c.tidy_into-tidied.result; settled = 0; expanded = 0 } in
    let draft : Draft =
    record {
      exists = c.args.exists;
      to = record { layout = layout; at = c.draft_front-behind.result };
    } in
    let enough : room c.args.first.now c.args.second.now ≤ length c.args.first.now =
    omega arith in
    let same_room : room c.args.first.now c.args.second.now ≡ room c.tidy_into-tidied.new.out c.args.second.now =
    ap (λ n. min n (length c.args.second.now)) (sym c.tidy_into-tidied.auto.out) in
    let e = c.tidy_into-tidied.ensures in
    let first = c.args.first.now in
    let went = subst
    (λ m. Walked m from
    draft c.tidy_into-tidied.new.out c.walk-end.new.first
    c.draft_front-behind.new.out c.walk-end.new.out c.walk-end.result)
    (sym same_room) c.walk-end.ensures in
    record {
      same_format = refl;
      same_variables = refl;
      draftable = draftable;
      most_nodes = c.nodes_that_fit.ensures.0;
      drafted =
          subst (Drafted layout
          c.args.out.now c.walk-end.new.out 0 c.walk-end.result)
          (start-rows c.requires first enough e.out_after e.value
          c.count_left.ensures)
          (drafted_on c.draft_front-behind.ensures went.drafted);
    }

pub returns-clause-first_after : goal.returns-clause-first_after
returns-clause-first_after c =
    let layout : Layout =
    record { format = c.args.s.format; variables = c.args.s.variables; nodes = c.nodes_that_fit.result } in
    let from : State =
    record { sheet = c.tidy_into-tidied.result; settled = 0; expanded = 0 } in
    let draft : Draft =
    record {
      exists = c.args.exists;
      to = record { layout = layout; at = c.draft_front-behind.result };
    } in
    let enough : room c.args.first.now c.args.second.now ≤ length c.args.first.now =
    omega arith in
    let same_room : room c.args.first.now c.args.second.now ≡ room c.tidy_into-tidied.new.out c.args.second.now =
    ap (λ n. min n (length c.args.second.now)) (sym c.tidy_into-tidied.auto.out) in
    let e = c.tidy_into-tidied.ensures in
    let first = c.args.first.now in
    let went = subst
    (λ m. Walked m from
    draft c.tidy_into-tidied.new.out c.walk-end.new.first
    c.draft_front-behind.new.out c.walk-end.new.out c.walk-end.result)
    (sym same_room) c.walk-end.ensures in
    start_left c.requires first enough e.out_after e.value _ went.shows
    c.tidy_into-tidied.auto.out
