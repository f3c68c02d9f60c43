-- `step_list::call` meets its contract. Assumes nothing.
use mathlib.Core.Path.{sym, ap, ◌∙◌}
use Rattle.sheet.specs.Operations.{Written}
use Rattle.sheet.specs.Calls.{perform}
use Rattle.sheet.specs.Steps.{single}
use Rattle.rows.specs.Formats.{format_of}
use Rattle.step_list.specs.declared.Operation.{Operation}
use Rattle.step_list.specs.Inner.Records.{operation_of}
use borrow.Author.Rules.{rules}
use Rattle.step_list.proofs.call.Statement.{statement}
use Rattle.step_list.proofs.call.Tie as tie

-- places in the code, each from a later one
abbrev to_in_Settle : tie.After-out-1 → tie.In-Settle
to_in_Settle c = c.before.before.before

abbrev to_start : tie.In-Settle → tie.Start
to_start c = c.before.before.before

abbrev to_in_Expand : tie.After-out-in-Expand-1 → tie.In-Expand
to_in_Expand c = c.before.before.before

abbrev to_start_from_in_Expand : tie.In-Expand → tie.Start
to_start_from_in_Expand c = c.before.before.before

-- the call of an operation
abbrev does : tie.Start → Operation → Written
does c o = perform (format_of c.args.f) (single (operation_of o) c.args.x c.args.out.now) c.args.sheet.now

enum_told-1 : tie.Need-enum_told-1
enum_told-1 c = search rules

settle-requires : tie.Need-settle-requires
settle-requires c κs = search rules

enum_told-in-Expand : tie.Need-enum_told-in-Expand
enum_told-in-Expand c = search rules

expand-requires : tie.Need-expand-requires
expand-requires c κs = search rules

shape_of-out-in-Settle : tie.Need-shape_of-out-in-Settle
shape_of-out-in-Settle c = search rules

returns-in-Settle : tie.Need-returns-in-Settle
unfolding perform
returns-in-Settle c =
    let call = c in
    let told = call in
    call.settle.ensures.0 ∙ ap (does (to_start (to_in_Settle told.before))) (sym told.in-Settle.is)

shape_of-out-in-Expand : tie.Need-shape_of-out-in-Expand
shape_of-out-in-Expand c = search rules

returns-in-Expand : tie.Need-returns-in-Expand
unfolding perform
returns-in-Expand c =
    let call = c in
    let told = call in
    call.expand.ensures.0 ∙ ap (does (to_start_from_in_Expand (to_in_Expand told.before))) (sym told.in-Expand.is)

pub call_spec : {M : Type 1} → statement M
call_spec =
    tie.close
    (tie.spec
    enum_told-1
    settle-requires
    enum_told-in-Expand
    expand-requires
    shape_of-out-in-Settle
    returns-in-Settle
    shape_of-out-in-Expand
    returns-in-Expand)
