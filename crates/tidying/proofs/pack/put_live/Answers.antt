-- `tidying::pack::put_live` meets its contract.
use Rattle.std.proofs.Common.{ap, sym, ◌∙◌, ◌<◌, arith, rules}
use Rattle.sheet.specs.Format.{Row}
use Rattle.rows.specs.Layouts.{total}
use Rattle.rows.proofs.Layouts.{length-rows_in}
use Rattle.rows.proofs.Sealing.{all_bytes}
use Rattle.tidy_rules.proofs.Segments.{stands_row, stands_within}
use Rattle.tidying.proofs.Packed.{argument_fits, put-fits, put_dead, put-row}
use Rattle.tidying.proofs.pack.put_live.Goals as goal
use Rattle.tidying.proofs.pack.put_live.Goals.{Start}

within : (c : Start) → c.args.at < total c.args.s
within c = omega (arith, stands_within c.requires.1.stands, length-rows_in c.args.b.now c.requires.0.room)

pub kind_at-kind-requires : goal.kind_at-kind-requires
kind_at-kind-requires c = (c.requires.0.room, within (goal.at.kind_at-kind-requires c).Start)

pub returns-then-kind-eq-GONE : goal.returns-then-kind-eq-GONE
returns-then-kind-eq-GONE c =
    λ before x after h t. put_dead x (sym (c.kind_at-kind.ensures ∙ ap (λ (r : Row). r.kind) (stands_row h)) ∙ c.if-kind-eq-GONE.true)

pub argument_told-argument-requires : goal.argument_told-argument-requires
argument_told-argument-requires c = (c.requires.0, within (goal.at.argument_told-argument-requires c).Start)

pub set_row-requires : goal.set_row-requires
set_row-requires c =
    let g = c.requires.1 in
    let h = g.stands in
    let counted = length-rows_in c.args.b.now c.requires.0.room in
    let inside = within (goal.at.set_row-requires c).Start in
    let bytes = all_bytes c.args.b.now (λ i. search rules) in
    let fits = argument_fits c.args.b.now c.requires.0.room bytes c.args.at inside in (
      c.requires.0.room,
      omega (arith, inside, c.requires.2),
      put-fits g.segment _ (λ e. c.if-kind-eq-GONE.false (c.kind_at-kind.ensures ∙ ap (λ (r : Row). r.kind) (stands_row h) ∙ e)) h
          (rw (stands_row h) at fits) (omega (arith, counted, c.requires.0.counted)) (c.argument_told-argument.ensures _ _ _ h g.told),
    )

pub overflow_add-result : goal.overflow_add-result
overflow_add-result c = omega (arith, within (goal.at.overflow_add-result c).Start, c.requires.2)

pub returns : goal.returns
returns c =
    λ before x after h t.
    put-row x _ _ c.set_row.ensures.b_after c.requires.2 (omega (arith, stands_within h)) c.if-kind-eq-GONE.false
    (c.kind_at-kind.ensures ∙ ap (λ (r : Row). r.kind) (stands_row h)) (c.argument_told-argument.ensures _ _ _ h t)
