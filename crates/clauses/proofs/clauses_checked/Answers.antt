-- The goals of `clauses::clauses_checked`. Assumes nothing.
use Rattle.std.proofs.Common.{◌-◌, ◌≤◌, ℕ, List, length, arith}
use Rattle.sheet.specs.Format.{Bytes}
use Rattle.rows.specs.Layouts.{format_in}
use Rattle.rows.specs.declared.Layout.{Layout}
use Rattle.rows.proofs.Limits.{limits}
use Rattle.subtrees.specs.Ends.{Indexed}
use Rattle.checking.specs.Sheets.{Sheet}
use Rattle.checking.proofs.CheckedSheets.{sheet_readable}
use Rattle.clauses.specs.declared.survey.Size.{Size}
use Rattle.clauses.specs.Inner.Survey.{Surveyed, Clausable}
use Rattle.clauses.proofs.Answering.{few_lines, few_variables, enough, no_numbers, no_place, has_place, written_call}
use Rattle.clauses.proofs.clauses_checked.Goals as goal

-- numbers enough are left
clausable : {b : Bytes} {s : Layout} {ends names : List ℕ} {z : Size} → Sheet s.format b s → Indexed s b ends → Surveyed s b names z → s.nodes ≤ length names
    → z.names ≤ (format_in s).most_variables - s.variables → Clausable b s ends names z
clausable h indexed surveyed room few =
    record {
      checked = h;
      indexed = indexed;
      has_entries = room;
      surveyed = surveyed;
      enough = enough h surveyed few;
    }

pub fill_ends-requires : goal.fill_ends-requires
fill_ends-requires c = (sheet_readable c.requires, omega (arith, (sheet_readable c.requires).few_nodes))

pub survey-size-requires : goal.survey-size-requires
survey-size-requires c = (c.fill_ends.ensures.indexed, omega (arith, (sheet_readable c.requires).few_nodes))

pub overflow_sub-most_variables : goal.overflow_sub-most_variables
overflow_sub-most_variables c = omega (arith, few_variables c.requires c.survey-size.ensures, c.most_variables.ensures)

pub returns-then-most_variables-s : goal.returns-then-most_variables-s
returns-then-most_variables-s c =
    no_numbers c.requires c.survey-size.ensures c.args.out.now (omega (arith, c.if-most_variables-s.true, c.most_variables.ensures))

pub overflow_add-s : goal.overflow_add-s
overflow_add-s c =
    omega (
      arith,
      c.if-most_variables-s.false,
      c.most_variables.ensures,
      (limits c.args.s.format).few_variables,
      few_variables c.requires c.survey-size.ensures,
    )

pub overflow_add-size : goal.overflow_add-size
overflow_add-size c = omega (arith, few_lines c.requires c.survey-size.ensures)

pub fits-requires : goal.fits-requires
fits-requires c = (
  omega (
    arith,
    c.if-most_variables-s.false,
    c.most_variables.ensures,
    (limits c.args.s.format).few_variables,
    few_variables c.requires c.survey-size.ensures,
  ),
  omega (arith, few_lines c.requires c.survey-size.ensures),
)

pub returns-then-not-fits : goal.returns-then-not-fits
returns-then-not-fits c =
    let room : c.args.s.nodes ≤ length c.survey-size.new.names = omega (arith, (sheet_readable c.requires).few_nodes, c.survey-size.auto.names) in
    let few : c.survey-size.result.names ≤ (format_in c.args.s).most_variables - c.args.s.variables = omega (arith, c.if-most_variables-s.false, c.most_variables.ensures) in
    let h = clausable c.requires c.fill_ends.ensures.indexed c.survey-size.ensures room few in
    no_place h c.args.out.now c.fits.ensures c.if-not-fits.true

pub clauses_into-requires : goal.clauses_into-requires
clauses_into-requires c =
    let room : c.args.s.nodes ≤ length c.survey-size.new.names = omega (arith, (sheet_readable c.requires).few_nodes, c.survey-size.auto.names) in
    let few : c.survey-size.result.names ≤ (format_in c.args.s).most_variables - c.args.s.variables = omega (arith, c.if-most_variables-s.false, c.most_variables.ensures) in
    let h = clausable c.requires c.fill_ends.ensures.indexed c.survey-size.ensures room few in
    (h, has_place h c.args.out.now c.fits.ensures c.if-not-fits.false)

pub returns : goal.returns
returns c =
    let room : c.args.s.nodes ≤ length c.survey-size.new.names = omega (arith, (sheet_readable c.requires).few_nodes, c.survey-size.auto.names) in
    let few : c.survey-size.result.names ≤ (format_in c.args.s).most_variables - c.args.s.variables = omega (arith, c.if-most_variables-s.false, c.most_variables.ensures) in
    let h = clausable c.requires c.fill_ends.ensures.indexed c.survey-size.ensures room few in
    written_call h c.args.out.now c.fits.ensures c.if-not-fits.false c.clauses_into.ensures.value c.clauses_into.ensures.out_after
