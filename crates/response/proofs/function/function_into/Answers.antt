-- `response::function::function_into` meets its contract.
use Rattle.std.proofs.Common.{◌≡◌, ℕ, length, refl, sym, ap, ◌∙◌, arith}
use lib.Dec.{eqb}
use lib.ListN.{length-replicate}
use lib.Seq.{length-take-le}
use Rattle.raw.proofs.Raws.{room_on, laid_to}
use Rattle.substitution.specs.Changes.{putting, putting_in}
use Rattle.response.proofs.Functions.{room, prefix_ready, raw-written, sheet-written, layout-written, selection_ready, selection_cuts, new, raw_copy, copy_counted}
use Rattle.response.proofs.function.function_into.Goals as goal
use Rattle.response.proofs.function.function_into.Goals.{After-fill}

-- the table puts the value of a positive literal in
table_is : (c : After-fill) → let a = c.args in c.fill.new.table ≡ putting a.x (eqb a.w.to.joint 6)
table_is c =
    let a = c.args in
    let none : ℕ = 0 in
    c.fill.ensures ∙ ap (λ n. putting_in n a.x (eqb a.w.to.joint 6)) (length-replicate 1025 none)

pub write_prefix-requires : goal.write_prefix-requires
write_prefix-requires c =
    let a = c.args in
    let k = c.requires in
    let is = table_is (goal.at.write_prefix-requires c).After-fill in (
      k.from.readable,
      prefix_ready k.from k.named k.unsettled (new k is) (raw_copy k is) (copy_counted k is) (length a.out.now) k.has_room a.out.now refl,
      k.named.inside,
      omega arith,
    )

pub slice_bounds-write_selection-end-2 : goal.slice_bounds-write_selection-end-2
slice_bounds-write_selection-end-2 c = sym (length-take-le c.args.w.cuts c.args.cuts.now c.requires.prepared.few_cuts)

pub write_selection-requires : goal.write_selection-requires
write_selection-requires c =
    let k = c.requires in
    let is = table_is (goal.at.write_selection-requires c).After-fill in
    let fits = room k.from k.named k.unsettled (new k is) (raw_copy k is) (copy_counted k is) (length c.args.out.now) k.has_room in
    (selection_ready k is _ (room_on fits c.write_prefix.auto.out), selection_cuts k is)

pub tidy_in_place-requires : goal.tidy_in_place-requires
tidy_in_place-requires c =
    let k = c.requires in
    let is = table_is (goal.at.tidy_in_place-requires c).After-fill in
    raw-written k.from k.named k.unsettled (new k is) (raw_copy k is) (copy_counted k is) (length c.args.out.now) k.has_room refl
    (c.write_selection.auto.out ∙ c.write_prefix.auto.out) refl (laid_to c.write_prefix.ensures.value c.write_prefix.ensures.laid)
    c.write_selection.ensures

pub returns : goal.returns
returns c =
    let k = c.requires in
    let e = c.tidy_in_place.ensures in
    let is = table_is (goal.at.returns c).After-fill in
    let len = length c.args.out.now in
    let same = c.write_selection.auto.out ∙ c.write_prefix.auto.out in
    let front = laid_to c.write_prefix.ensures.value c.write_prefix.ensures.laid in
    record {
      out_after =
          sheet-written k.from k.named k.unsettled (new k is) (raw_copy k is) (copy_counted k is) len k.has_room refl same refl front
          c.write_selection.ensures e.b_after;
      value =
          layout-written k.from k.named k.unsettled (new k is) (raw_copy k is) (copy_counted k is) len k.has_room refl same refl front
          c.write_selection.ensures e.value;
      variables_value = e.variables_value;
    }
