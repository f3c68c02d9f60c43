-- `outer::plan::plan_admitted` meets its contract: 11, 18, and all that the writing needs.
use Rattle.std.proofs.Common.{refl, sym, ◌∙◌, arith}
use Rattle.rows.specs.Formulas.{formula_in}
use Rattle.rows.proofs.Limits.{limits}
use Rattle.raw.proofs.Plans.{rest_of}
use Rattle.elimination.proofs.Admitting.{sheet-numbered, sheet_steppable}
use Rattle.outer.proofs.Deciding.{counting, located, not_out, no_numbers, room-for-all, planned}
use Rattle.outer.proofs.plan.plan_admitted.Goals as goal

pub find_dependents-requires : goal.find_dependents-requires
find_dependents-requires c = (c.requires.0.indexed, located c.args.t c.requires.0, refl)

pub returns-then-not-find_dependents : goal.returns-then-not-find_dependents
returns-then-not-find_dependents c =
    not_out c.args.t c.requires.0 (sym c.find_dependents.ensures.0 ∙ c.if-not-find_dependents.true)

pub overflow_sub-highest : goal.overflow_sub-highest
overflow_sub-highest c = omega (arith, c.most_variables-highest.ensures, (sheet_steppable c.requires.0.sheet).few_variables)

pub returns-then-highest-s : goal.returns-then-highest-s
returns-then-highest-s c =
    let k = counting c.args.t c.requires.0 c.find_dependents.ensures c.if-not-find_dependents.false c.count_dependents-copied.ensures.by_index
    c.most_variables-highest.ensures in
    no_numbers c.args.t c.requires.0 k c.if-highest-s.true

pub fill_tables-requires-clause-readable : goal.fill_tables-requires-clause-readable
fill_tables-requires-clause-readable c =
    let d = c.requires.0 in
    let found = c.find_dependents.ensures.1 c.if-not-find_dependents.false in
    let most = (limits c.args.t.layout.format).few_variables in
    (d.indexed.readable, sheet-numbered d.sheet, found.words, omega (arith, c.most_variables-highest.ensures, most), d.named.few, c.requires.1)

pub fill_tables-requires-clause-b_in_bounds : goal.fill_tables-requires-clause-b_in_bounds
fill_tables-requires-clause-b_in_bounds c =
    let k = counting c.args.t c.requires.0 c.find_dependents.ensures c.if-not-find_dependents.false c.count_dependents-copied.ensures.by_index
    c.most_variables-highest.ensures in
    room-for-all c.args.t c.requires.0 k c.if-highest-s.false

pub returns : goal.returns
returns c =
    let t = c.args.t in
    let k = counting t c.requires.0 c.find_dependents.ensures c.if-not-find_dependents.false c.count_dependents-copied.ensures.by_index
    c.most_variables-highest.ensures in
    let low = c.lowest_dependent-lowest.ensures t.variable (formula_in t.layout c.args.sheet.now) k.found in (
      refl,
      refl,
      planned t c.requires.0 k c.if-highest-s.false low c.fill_tables.ensures (rest_of 1025 c.fill_tables.new.tables) c.draft_chosen-d.ensures
          c.survey_draft-w.ensures,
    )
