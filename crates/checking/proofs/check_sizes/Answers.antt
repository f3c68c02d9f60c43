-- `checking::check_sizes` meets its contract: each return is the first of the three tests that fails.
use Rattle.std.proofs.Common.{sym, ◌∙◌, arith}
use borrow.Author.Tests.{eq-eqb, ne_eqb}
use Rattle.checking.proofs.Sizes.{sizes_read, too_short, size_outside, wrong_length, right_length}
use Rattle.checking.proofs.check_sizes.Goals as goal

pub returns-then-sheet-header-clause-answer : goal.returns-then-sheet-header-clause-answer
returns-then-sheet-header-clause-answer c = too_short c.args.f c.args.sheet.now (omega (arith, c.header.ensures))

pub returns-then-is_outside-clause-answer : goal.returns-then-is_outside-clause-answer
returns-then-is_outside-clause-answer c =
    let read = sizes_read c.args.f c.args.sheet.now (omega (arith, c.if-sheet-header.false, c.header.ensures)) c.variables_at-v.ensures.0 c.nodes_at-n.ensures.0 in
    size_outside c.args.f _ _ _ read (sym c.is_outside.ensures ∙ c.if-is_outside.true)

pub returns-then-sheet-sheet_length-clause-answer : goal.returns-then-sheet-sheet_length-clause-answer
returns-then-sheet-sheet_length-clause-answer c =
    let read = sizes_read c.args.f c.args.sheet.now (omega (arith, c.if-sheet-header.false, c.header.ensures)) c.variables_at-v.ensures.0 c.nodes_at-n.ensures.0 in
    wrong_length c.args.f _ _ _ read (sym c.is_outside.ensures ∙ c.if-is_outside.false) c.sheet_length.ensures (ne_eqb _ _ c.if-sheet-sheet_length.true)

pub returns-clause-answer : goal.returns-clause-answer
returns-clause-answer c =
    let read = sizes_read c.args.f c.args.sheet.now (omega (arith, c.if-sheet-header.false, c.header.ensures)) c.variables_at-v.ensures.0 c.nodes_at-n.ensures.0 in
    right_length c.args.f _ _ _ read (sym c.is_outside.ensures ∙ c.if-is_outside.false) c.sheet_length.ensures (eq-eqb _ _ c.if-sheet-sheet_length.false)
