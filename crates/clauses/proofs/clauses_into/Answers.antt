-- `clauses::clauses_into` meets its contract.
use mathlib.Core.Path.{◌≡◌, refl, sym, ap, ◌∙◌}
use mathlib.Core.List.{◌++◌}
use Prim.Native.Nat.{ℕ, ◌+◌}
use native.Mathlib.Omega.{arith}
use lib.ListN.{length, take, drop, length-replicate, replicate}
use lib.Seq.{length-take-le}
use Rattle.formula.specs.Outer.{unused}
use Rattle.rows.specs.Layouts.{format_in}
use Rattle.rows.specs.Formulas.{prefix_in}
use Rattle.rows.specs.declared.Layout.{Layout}
use Rattle.rows.proofs.Limits.{number_fits, limits}
use Rattle.raw.proofs.Raws.{room_on}
use Rattle.clauses.proofs.Sheets.{ok, numbered_in, literals_fit, enough_left, few_names, few_nodes, few_clauses, clauses-room, front_at, rows-room, clauses-sealed, clauses-length}
use Rattle.clauses.proofs.clauses_into.Goals as goal

pub fill_fresh-requires : goal.fill_fresh-requires
fill_fresh-requires c =
    let h = c.requires.0 in (
      ok h,
      numbered_in h,
      omega (arith, c.most_variables.ensures, (limits c.args.s.format).few_variables),
      rw c.most_variables.ensures (enough_left h),
      omega (arith, few_names h, length-replicate {A = ℕ} 1025 0),
    )

pub overflow_add-t : goal.overflow_add-t
overflow_add-t c = omega (arith, few_names c.requires.0)

pub overflow_add-t-2 : goal.overflow_add-t-2
overflow_add-t-2 c = omega (arith, few_nodes c.requires.0 (length c.args.out.now) c.requires.1)

pub slice_bounds-fresh-end : goal.slice_bounds-fresh-end
slice_bounds-fresh-end c = omega (arith, few_names c.requires.0, c.fill_fresh.auto.fresh)

pub slice_bounds-write_front-end : goal.slice_bounds-write_front-end
slice_bounds-write_front-end c = sym (length-take-le _ _ (omega (arith, few_names c.requires.0, c.fill_fresh.auto.fresh)))

pub write_front-at-requires : goal.write_front-at-requires
write_front-at-requires c =
    let layout : Layout =
    record { format = c.args.s.format; variables = c.args.s.variables + c.args.size.names; nodes = c.args.size.rows + 1 } in
    let h = c.requires.0 in (
      ok h,
      record { source = (ok h).room; room = clauses-room h (length c.args.out.now) c.requires.1 {t = layout} refl refl refl; same_format = refl },
      omega (arith, length-take-le c.args.size.names c.fill_fresh.new.fresh (omega (arith, few_names h, c.fill_fresh.auto.fresh))),
      number_fits c.args.s.format (omega (arith, few_clauses h (length c.args.out.now) c.requires.1)),
    )

pub write_clauses-requires : goal.write_clauses-requires
write_clauses-requires c =
    let layout : Layout =
    record { format = c.args.s.format; variables = c.args.s.variables + c.args.size.names; nodes = c.args.size.rows + 1 } in
    let shared : length (take c.args.size.names c.fill_fresh.new.fresh) ≡ c.args.size.names =
    length-take-le _ _ (omega (arith, few_names c.requires.0, c.fill_fresh.auto.fresh)) in
    let h = c.requires.0 in
    let L = c.name_rows.new.names in
    let at = front_at h (take c.args.size.names c.fill_fresh.new.fresh) shared
    c.write_front-at.ensures in
    record {
      indexed = (
        h.indexed,
        record { readable = ok h; literals_fit = literals_fit h; has_entries = omega (arith, h.has_entries, c.name_rows.auto.names) },
        record {
          source = (ok h).room;
          room = room_on (clauses-room h (length c.args.out.now) c.requires.1 {t = layout} refl refl refl)
              c.write_front-at.auto.out;
          same_format = refl;
        },
      );
      names_bound = omega (arith, rows-room h (length c.args.out.now) c.requires.1 {t = layout} refl refl refl L at);
    }

pub overflow_add-t-3 : goal.overflow_add-t-3
overflow_add-t-3 c = omega (arith, few_names c.requires.0, few_nodes c.requires.0 (length c.args.out.now) c.requires.1)

pub seal-requires : goal.seal-requires
seal-requires c =
    let layout : Layout =
    record { format = c.args.s.format; variables = c.args.s.variables + c.args.size.names; nodes = c.args.size.rows + 1 } in (
      room_on (clauses-room c.requires.0 (length c.args.out.now) c.requires.1
          {t = layout} refl refl refl)
          (c.write_clauses.auto.out ∙ c.write_front-at.auto.out),
      omega arith,
      omega arith,
    )

pub returns : goal.returns
returns c =
    let layout : Layout =
    record { format = c.args.s.format; variables = c.args.s.variables + c.args.size.names; nodes = c.args.size.rows + 1 } in
    let given : c.fill_fresh.new.fresh ≡ take c.args.size.names (unused (prefix_in c.args.s c.args.b.now) (format_in c.args.s).most_variables 1) ++ drop c.args.size.names (replicate 1025 0) =
    c.fill_fresh.ensures ∙
    ap (λ n. take c.args.size.names (unused (prefix_in c.args.s c.args.b.now) n 1) ++ drop c.args.size.names (replicate 1025 0)) c.most_variables.ensures in
    let h = c.requires.0 in
    let long = c.write_clauses.auto.out ∙ c.write_front-at.auto.out in
    record {
      out_after = c.seal.ensures.b_after ∙
          clauses-sealed h (length c.args.out.now) c.requires.1
          {t = layout} refl refl refl
          given
          c.name_rows.ensures c.write_front-at.ensures c.write_clauses.ensures long refl;
      value = c.seal.ensures.value ∙
          clauses-length h (length c.args.out.now) c.requires.1
          {t = layout} refl refl refl
          given
          c.name_rows.ensures c.write_front-at.ensures c.write_clauses.ensures long refl;
    }
