-- `part::part` meets its contract.
use Rattle.std.proofs.Common.{◌∙◌, ◌-◌, arith}
use Rattle.rows.specs.Formats.{format_of}
use Rattle.rows.proofs.Limits.{limits}
use Rattle.checking.proofs.CheckedSheets.{refused_sheet, sheet_checked, sheet_readable, sheet_sized}
use Rattle.part.proofs.Subtree.{told, bad_sheet, bad_sheet-place, bad_node, bad_node-place, ends-behind, ends-within, part-here, place_here}
use Rattle.part.proofs.part.Goals as goal

pub returns-in_default : goal.returns-in_default
returns-in_default c =
    let a = c.args in
    let F = format_of a.f in
    let bad = refused_sheet a.f a.sheet.now c.in_default.ensures.answer in
    let t = told F a.sheet.now a.node a.sheet.ref_ptr 0 0
    (record { contents = bad_sheet F a.sheet.now a.node bad; place = bad_sheet-place F a.sheet.now a.node bad }) in
    record { result_value = t.0; result_value_2 = t.1.0; ref_ptr_value = t.1.1 }

-- where the node's row is compared, and where there is one
pub returns-then-s-node : goal.returns-then-s-node
returns-then-s-node c =
    let a = c.args in
    let checked = sheet_checked c.in-Ok.ensures.answer c.in-Ok.ensures.format in
    let t = told (format_of a.f) a.sheet.now a.node a.sheet.ref_ptr 0 0
    (record { contents = bad_node _ checked (omega arith); place = bad_node-place _ checked (omega arith) }) in
    record { result_value = t.0; result_value_2 = t.1.0; ref_ptr_value = t.1.1 }

pub overflow_add-first : goal.overflow_add-first
overflow_add-first c = omega (arith, sheet_readable (sheet_checked c.in-Ok.ensures.answer c.in-Ok.ensures.format))

pub walk-end-requires : goal.walk-end-requires
walk-end-requires c = (sheet_sized (sheet_checked c.in-Ok.ensures.answer c.in-Ok.ensures.format), omega arith)

pub kind_place-from-requires : goal.kind_place-from-requires
kind_place-from-requires c =
    let read = sheet_readable (sheet_checked c.in-Ok.ensures.answer c.in-Ok.ensures.format) in
    omega (arith, read, (limits c.in-Ok.s.format).few_bytes)

pub kind_place-to-requires : goal.kind_place-to-requires
kind_place-to-requires c =
    let checked = sheet_checked c.in-Ok.ensures.answer c.in-Ok.ensures.format in
    let within = ends-within _ checked (sheet_readable checked).room c.if-s-node.false c.walk-end.result c.walk-end.ensures in
    omega (arith, sheet_readable checked, (limits c.in-Ok.s.format).few_bytes, within)

pub slice_bounds-result-count-2 : goal.slice_bounds-result-count-2
slice_bounds-result-count-2 c =
    let checked = sheet_checked c.in-Ok.ensures.answer c.in-Ok.ensures.format in
    let behind = ends-behind _ checked (sheet_readable checked).room c.if-s-node.false c.walk-end.result c.walk-end.ensures in
    omega (arith, behind, c.kind_place-from.ensures, c.kind_place-to.ensures)

pub slice_bounds-result-start-2 : goal.slice_bounds-result-start-2
slice_bounds-result-start-2 c =
    let checked = sheet_checked c.in-Ok.ensures.answer c.in-Ok.ensures.format in
    let behind = ends-behind _ checked (sheet_readable checked).room c.if-s-node.false c.walk-end.result c.walk-end.ensures in
    omega (arith, behind, c.kind_place-from.ensures, c.kind_place-to.ensures)

pub slice_bounds-result-end-2 : goal.slice_bounds-result-end-2
slice_bounds-result-end-2 c =
    let checked = sheet_checked c.in-Ok.ensures.answer c.in-Ok.ensures.format in
    let within = ends-within _ checked (sheet_readable checked).room c.if-s-node.false c.walk-end.result c.walk-end.ensures in
    omega (arith, sheet_readable checked, within, c.kind_place-to.ensures)

pub returns : goal.returns
returns c =
    let a = c.args in
    let checked = sheet_checked c.in-Ok.ensures.answer c.in-Ok.ensures.format in
    let from = c.kind_place-from in
    let to = c.kind_place-to in
    let t = told (format_of a.f) a.sheet.now a.node a.sheet.ref_ptr from.result (to.result - from.result)
    (record {
      contents =
          part-here _ checked (sheet_readable checked).room c.if-s-node.false c.walk-end.result c.walk-end.ensures from.ensures to.ensures;
      place = from.ensures ∙ place_here _ checked c.if-s-node.false;
    }) in
    record { result_value = t.0; result_value_2 = t.1.0; ref_ptr_value = t.1.1 }
