-- `next_function::expanded_function` meets its contract.
use Rattle.std.proofs.Common.{subst, arith}
use native.Mathlib.Nat.{le_trans}
use Rattle.formula.specs.Tree.{of}
use Rattle.elimination.specs.Survey.{Surveyed}
use Rattle.elimination.specs.Expanding.{Prepared}
use Rattle.elimination.proofs.Expansions.{drafts, prepared}
use Rattle.next_function.proofs.Choosing.{expand-named, expand-priced, few-copied, expand-copy, expand-move}
use Rattle.next_function.proofs.expanded_function.Goals as goal
use Rattle.next_function.proofs.expanded_function.Goals.{After-survey_draft-w}

pub choose_expand-c-requires : goal.choose_expand-c-requires
choose_expand-c-requires c =
    let p = c.requires in
    (p.2, p.0.bound, c.fill_occurrences.ensures, p.0.some_left, p.1)

pub draft-d-requires : goal.draft-d-requires
draft-d-requires c =
    let p = c.requires in
    let k = expand-priced p.0 p.1 c.choose_expand-c.ensures p.2 c.fill_occurrences.ensures in
    (k.indexed.readable, k.named.inside, k.named.few, k.occurrences.holds)

pub survey_draft-w-requires : goal.survey_draft-w-requires
survey_draft-w-requires c =
    let p = c.requires in
    let k = expand-priced p.0 p.1 c.choose_expand-c.ensures p.2 c.fill_occurrences.ensures in
    ((of c.choose_expand-c.result.variable, rw c.draft-d.ensures (drafts k)), omega (arith, p.2.readable.few_nodes))

-- the variable is priced, drafted and surveyed
surveyed : (c : After-survey_draft-w)
    → let a = c.args in
    let r = c.choose_expand-c.result in
    Prepared a.s a.b.now r.variable r.row c.survey_draft-w.new.cuts c.survey_draft-w.result
surveyed c =
    let a = c.args in
    let p = c.requires in
    let L = of c.choose_expand-c.result.variable in
    let k = expand-priced p.0 p.1 c.choose_expand-c.ensures p.2 c.fill_occurrences.ensures in
    let v = c.survey_draft-w.ensures L (rw c.draft-d.ensures (drafts k)) in
    prepared k (subst (λ d. Surveyed L a.s a.b.now d c.survey_draft-w.new.cuts c.survey_draft-w.result) c.draft-d.ensures v)

pub function_into-requires : goal.function_into-requires
function_into-requires c =
    let p = c.requires in
    expand-copy p.0 p.1 c.choose_expand-c.ensures (surveyed (goal.at.function_into-requires c).After-survey_draft-w)

pub returns : goal.returns
returns c =
    let p = c.requires in
    let here = c.choose_expand-c.ensures in
    let e = c.function_into.ensures in
    let few = few-copied p.0 p.1 here (surveyed (goal.at.returns c).After-survey_draft-w) in
    record {
      variable_is = expand-move p.0 p.1 here;
      named = expand-named p.0 p.1 here;
      bytes_are = e.out_after;
      layout_is = e.value;
      sizes = (e.variables_value.0, le_trans e.variables_value.1 few);
    }
