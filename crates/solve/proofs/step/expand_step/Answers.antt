-- `solve::step::expand_step` meets its contract.
use mathlib.Core.Path.{◌≡◌, refl, sym, ap, ◌∙◌, subst}
use mathlib.Core.Bool.{true}
use mathlib.Core.List.{◌++◌}
use Prim.Native.Nat.{◌-◌, ◌≤◌}
use native.Mathlib.Omega.{arith}
use lib.ListN.{length, take, drop, replicate}
use lib.Seq.{length-take-le}
use Rattle.formula.specs.Tree.{of}
use Rattle.formula.specs.Expand.{expanded}
use Rattle.sheet.specs.Format.{fits}
use Rattle.sheet.specs.Sheet.{sheet}
use Rattle.rows.specs.Layouts.{format_in}
use Rattle.rows.specs.Formulas.{formula_in}
use Rattle.rows.specs.declared.Layout.{Layout}
use Rattle.elimination.specs.Survey.{Drafts, Surveyed}
use Rattle.elimination.specs.Expanding.{Priced, Prepared}
use Rattle.elimination.proofs.Expansions.{drafts, prepared}
use Rattle.solve.proofs.Holding.{bound}
use Rattle.solve.proofs.Fetching.{in_front}
use Rattle.solve.proofs.Arriving.{some_left, few_rows, zeros_behind, fetchable, taken}
use Rattle.solve.proofs.Arriving.{raw-small, expand-stops, expand-named, few-and-short, expand-expands, expand-arrives, expand-next}
use Rattle.solve.proofs.step.expand_step.Goals as goal

-- the tables are filled, then a variable is chosen
pub choose_expand-c-requires : goal.choose_expand-c-requires
choose_expand-c-requires c =
    let p = c.requires in
    (p.3, bound p.0.held, c.fill_occurrences.ensures, some_left p.0 p.1, p.2)

pub fits-requires : goal.fits-requires
fits-requires c =
    let small : c.choose_expand-c.result.raw ≤ 16386 =
    raw-small c.requires.0 c.requires.1 c.requires.2 c.choose_expand-c.ensures in
    let r = c.requires.0 in
    (omega (arith, r.held.within.few_variables, r.few), omega (arith, small))

pub returns-then-not-fits : goal.returns-then-not-fits
returns-then-not-fits c =
    let p = c.requires in
    (expand-stops p.0 p.1 p.2 c.choose_expand-c.ensures (sym c.fits.ensures ∙ c.if-not-fits.true), refl, refl)

pub draft-d-requires : goal.draft-d-requires
draft-d-requires c =
    let priced : Priced c.args.s.sheet c.args.first.now c.args.ends.now c.fill_occurrences.new.ranges c.fill_occurrences.new.next c.choose_expand-c.result =
    record {
      indexed = c.requires.3;
      occurrences = c.fill_occurrences.ensures;
      named = expand-named c.requires.0 c.requires.1 c.requires.2 c.choose_expand-c.ensures;
      part_is = c.choose_expand-c.ensures.part_is;
      raw_is = c.choose_expand-c.ensures.raw_is;
    } in
    (priced.indexed.readable, priced.named.inside, priced.named.few, priced.occurrences.holds)

pub survey_draft-w-requires : goal.survey_draft-w-requires
survey_draft-w-requires c =
    let priced : Priced c.args.s.sheet c.args.first.now c.args.ends.now c.fill_occurrences.new.ranges c.fill_occurrences.new.next c.choose_expand-c.result =
    record {
      indexed = c.requires.3;
      occurrences = c.fill_occurrences.ensures;
      named = expand-named c.requires.0 c.requires.1 c.requires.2 c.choose_expand-c.ensures;
      part_is = c.choose_expand-c.ensures.part_is;
      raw_is = c.choose_expand-c.ensures.raw_is;
    } in
    let drafted : Drafts (of c.choose_expand-c.result.variable) c.args.s.sheet c.args.first.now c.args.ends.now c.fill_occurrences.new.next c.draft-d.result =
    subst
    (Drafts (of c.choose_expand-c.result.variable) c.args.s.sheet c.args.first.now c.args.ends.now c.fill_occurrences.new.next)
    (sym c.draft-d.ensures) (drafts priced) in
    ((_, drafted), omega (arith, c.requires.3.readable.few_nodes))

pub sheet_length-need-requires : goal.sheet_length-need-requires
sheet_length-need-requires c =
    let small : c.choose_expand-c.result.raw ≤ 16386 =
    raw-small c.requires.0 c.requires.1 c.requires.2 c.choose_expand-c.ensures in
    let few = few_rows c.requires.0 in
    (omega (arith, few.0), omega (arith, small))

pub slice_bounds-expand_into-end-2 : goal.slice_bounds-expand_into-end-2
slice_bounds-expand_into-end-2 c =
    let fit : fits (format_in c.args.s.sheet) c.args.room (c.args.s.sheet.variables - 1) c.choose_expand-c.result.raw ≡ true =
    sym c.fits.ensures ∙ c.if-not-fits.false in
    let p = c.requires in
    omega (arith, c.sheet_length-need.ensures, (few-and-short p.0 p.1 p.2 c.choose_expand-c.ensures fit).1, p.0.second_room)

pub slice_bounds-expand_into-end-3 : goal.slice_bounds-expand_into-end-3
slice_bounds-expand_into-end-3 c =
    let fit : fits (format_in c.args.s.sheet) c.args.room (c.args.s.sheet.variables - 1) c.choose_expand-c.result.raw ≡ true =
    sym c.fits.ensures ∙ c.if-not-fits.false in
    let enough : c.sheet_length-need.result ≤ length c.args.second.now =
    omega (arith, c.sheet_length-need.ensures, (few-and-short c.requires.0 c.requires.1 c.requires.2 c.choose_expand-c.ensures fit).1, c.requires.0.second_room) in
    let part_length : length (take c.sheet_length-need.result c.args.second.now) ≡ c.sheet_length-need.result =
    length-take-le c.sheet_length-need.result c.args.second.now enough in
    sym part_length

pub expand_into-sheet-requires : goal.expand_into-sheet-requires
expand_into-sheet-requires c =
    let fit : fits (format_in c.args.s.sheet) c.args.room (c.args.s.sheet.variables - 1) c.choose_expand-c.result.raw ≡ true =
    sym c.fits.ensures ∙ c.if-not-fits.false in
    let priced : Priced c.args.s.sheet c.args.first.now c.args.ends.now c.fill_occurrences.new.ranges c.fill_occurrences.new.next c.choose_expand-c.result =
    record {
      indexed = c.requires.3;
      occurrences = c.fill_occurrences.ensures;
      named = expand-named c.requires.0 c.requires.1 c.requires.2 c.choose_expand-c.ensures;
      part_is = c.choose_expand-c.ensures.part_is;
      raw_is = c.choose_expand-c.ensures.raw_is;
    } in
    let drafted : Drafts (of c.choose_expand-c.result.variable) c.args.s.sheet c.args.first.now c.args.ends.now c.fill_occurrences.new.next c.draft-d.result =
    subst
    (Drafts (of c.choose_expand-c.result.variable) c.args.s.sheet c.args.first.now c.args.ends.now c.fill_occurrences.new.next)
    (sym c.draft-d.ensures) (drafts priced) in
    let surveyed : Prepared c.args.s.sheet c.args.first.now c.choose_expand-c.result.variable c.choose_expand-c.result.row c.survey_draft-w.new.cuts c.survey_draft-w.result =
    prepared priced
    (subst (λ e. Surveyed (of c.choose_expand-c.result.variable) c.args.s.sheet c.args.first.now e c.survey_draft-w.new.cuts c.survey_draft-w.result) c.draft-d.ensures
    (c.survey_draft-w.ensures (of c.choose_expand-c.result.variable) drafted)) in
    let enough : c.sheet_length-need.result ≤ length c.args.second.now =
    omega (arith, c.sheet_length-need.ensures, (few-and-short c.requires.0 c.requires.1 c.requires.2 c.choose_expand-c.ensures fit).1, c.requires.0.second_room) in
    let part_length : length (take c.sheet_length-need.result c.args.second.now) ≡ c.sheet_length-need.result =
    length-take-le c.sheet_length-need.result c.args.second.now enough in
    let p = c.requires in
    expand-expands p.0 p.1 p.2 c.choose_expand-c.ensures fit surveyed
    (omega (arith, c.sheet_length-need.ensures, part_length))

pub bring-requires : goal.bring-requires
bring-requires c =
    let small : c.choose_expand-c.result.raw ≤ 16386 =
    raw-small c.requires.0 c.requires.1 c.requires.2 c.choose_expand-c.ensures in
    let fit : fits (format_in c.args.s.sheet) c.args.room (c.args.s.sheet.variables - 1) c.choose_expand-c.result.raw ≡ true =
    sym c.fits.ensures ∙ c.if-not-fits.false in
    let priced : Priced c.args.s.sheet c.args.first.now c.args.ends.now c.fill_occurrences.new.ranges c.fill_occurrences.new.next c.choose_expand-c.result =
    record {
      indexed = c.requires.3;
      occurrences = c.fill_occurrences.ensures;
      named = expand-named c.requires.0 c.requires.1 c.requires.2 c.choose_expand-c.ensures;
      part_is = c.choose_expand-c.ensures.part_is;
      raw_is = c.choose_expand-c.ensures.raw_is;
    } in
    let drafted : Drafts (of c.choose_expand-c.result.variable) c.args.s.sheet c.args.first.now c.args.ends.now c.fill_occurrences.new.next c.draft-d.result =
    subst
    (Drafts (of c.choose_expand-c.result.variable) c.args.s.sheet c.args.first.now c.args.ends.now c.fill_occurrences.new.next)
    (sym c.draft-d.ensures) (drafts priced) in
    let surveyed : Prepared c.args.s.sheet c.args.first.now c.choose_expand-c.result.variable c.choose_expand-c.result.row c.survey_draft-w.new.cuts c.survey_draft-w.result =
    prepared priced
    (subst (λ e. Surveyed (of c.choose_expand-c.result.variable) c.args.s.sheet c.args.first.now e c.survey_draft-w.new.cuts c.survey_draft-w.result) c.draft-d.ensures
    (c.survey_draft-w.ensures (of c.choose_expand-c.result.variable) drafted)) in
    let in_second : (c.expand_into-sheet.new.out ++ drop c.sheet_length-need.result c.args.second.now) ≡
    sheet (format_in c.args.s.sheet) (expanded c.choose_expand-c.result.variable (formula_in c.args.s.sheet c.args.first.now)) ++
    (replicate (length (take c.sheet_length-need.result c.args.second.now) -
    length (sheet (format_in c.args.s.sheet) (expanded c.choose_expand-c.result.variable (formula_in c.args.s.sheet c.args.first.now)))) 0 ++
    drop c.sheet_length-need.result c.args.second.now)
    =
    in_front (format_in c.args.s.sheet) (expanded _ (formula_in c.args.s.sheet c.args.first.now)) _ _ c.expand_into-sheet.ensures.out_after refl in
    let p = c.requires in
    let few = few_rows p.0 in
    let sizes = c.expand_into-sheet.ensures.variables_value in
    let raw = ap (λ (l : Layout). l.nodes) surveyed.layout_is ∙ sym c.choose_expand-c.ensures.raw_is in
    record {
      few_from = few;
      few_to = (
        omega (arith, few.0, sizes.0),
        omega
            (arith, sizes.1, raw, small),
      );
      fetchable =
          fetchable c.args.s.sheet.format (expand-arrives p.0 p.1 p.2 c.choose_expand-c.ensures fit) _
          in_second c.expand_into-sheet.ensures.value p.0.first_room;
      zeros = zeros_behind p.0;
    }

pub returns : goal.returns
returns c =
    let fit : fits (format_in c.args.s.sheet) c.args.room (c.args.s.sheet.variables - 1) c.choose_expand-c.result.raw ≡ true =
    sym c.fits.ensures ∙ c.if-not-fits.false in
    let in_second : (c.expand_into-sheet.new.out ++ drop c.sheet_length-need.result c.args.second.now) ≡
    sheet (format_in c.args.s.sheet) (expanded c.choose_expand-c.result.variable (formula_in c.args.s.sheet c.args.first.now)) ++
    (replicate (length (take c.sheet_length-need.result c.args.second.now) -
    length (sheet (format_in c.args.s.sheet) (expanded c.choose_expand-c.result.variable (formula_in c.args.s.sheet c.args.first.now)))) 0 ++
    drop c.sheet_length-need.result c.args.second.now)
    =
    in_front (format_in c.args.s.sheet) (expanded _ (formula_in c.args.s.sheet c.args.first.now)) _ _ c.expand_into-sheet.ensures.out_after refl in
    let p = c.requires in
    let here = c.choose_expand-c.ensures in
    let less = c.expand_into-sheet.ensures.variables_value.0 in
    let some = some_left p.0 p.1 in
    taken c.args.s _ c.args.first.now (expand-arrives p.0 p.1 p.2 here fit)
    _ in_second c.expand_into-sheet.ensures.value
    (length c.args.first.now) p.0.first_room c.bring.ensures
    (expand-next p.0 p.1 p.2 here fit _ _)
    (omega (arith, some, less)) (omega (arith, some, less)) c.args.second.now
