-- `expand::plan::plan_admitted` meets its contract: 11, and all that the writing needs.
use Rattle.std.proofs.Common.{Some, refl, subst, rules, arith}
use Rattle.std.proofs.lemmas.Result.{err_from_is_err_and}
use Rattle.formula.specs.Tree.{of}
use Rattle.rows.specs.declared.refusals.Refusal.TheVariants.{WrongBlock}
use Rattle.elimination.specs.Expanding.{Priced}
use Rattle.elimination.proofs.Admitting.{sheet-bound}
use Rattle.elimination.proofs.Expansions.{drafts, prepared}
use Rattle.elimination.proofs.Refusing.{none_of, some_of}
use Rattle.expand.specs.Inner.Price.{Prices}
use Rattle.expand.proofs.Deciding.{not-innermost, priced, planned}
use Rattle.expand.proofs.plan.plan_admitted.Goals as goal
use Rattle.expand.proofs.plan.plan_admitted.Goals.{In_ok-c}

-- it is inside the innermost block
inside : (c : In_ok-c) → let a = c.args in Prices a.s a.sheet.now a.z c.find_price.new.ranges c.find_price.new.next (Some c.in_ok-c.c)
inside c =
    let a = c.args in
    subst (Prices a.s a.sheet.now a.z _ _) (some_of c.find_price.result WrongBlock c.in_ok-c.ensures.value) c.find_price.ensures

price : (c : In_ok-c)
    → let a = c.args in
    Priced a.s a.sheet.now a.ends.now c.find_price.new.ranges c.find_price.new.next c.in_ok-c.c
price c = priced c.requires.0 (inside c).1 (inside c).2

-- the variable is priced
pub find_price-requires : goal.find_price-requires
find_price-requires c =
    let d = c.requires.0 in
    record { indexed = (d.indexed, sheet-bound d.sheet, d.named); ranges_len = (search rules, omega (arith, d.indexed.readable.few_nodes)) }

pub returns-in_err-c : goal.returns-in_err-c
returns-in_err-c c =
    let a = c.args in
    let p = err_from_is_err_and c.from_residual.result c.from_residual.ensures.1 in
    let none = none_of c.find_price.result WrongBlock c.in_err-c.ensures.value in
    rw (p.1, p.2, none.0) (not-innermost c.requires.0 (subst (Prices a.s a.sheet.now a.z _ _) none.1 c.find_price.ensures))

pub draft-d-requires : goal.draft-d-requires
draft-d-requires c =
    let k = price (goal.at.draft-d-requires c).In_ok-c in
    (k.indexed.readable, k.named.inside, k.named.few, k.occurrences.holds)

pub survey_draft-requires : goal.survey_draft-requires
survey_draft-requires c =
    let k = price (goal.at.survey_draft-requires c).In_ok-c in
    ((of c.in_ok-c.c.variable, rw c.draft-d.ensures (drafts k)), omega (arith, c.requires.0.indexed.readable.few_nodes, c.requires.1))

pub returns : goal.returns
returns c =
    let priced-here = (goal.at.returns c).In_ok-c in
    let k = price priced-here in
    let found = inside priced-here in
    let v = c.survey_draft.ensures (of c.in_ok-c.c.variable) (rw c.draft-d.ensures (drafts k)) in
    (refl, planned c.requires.0 found.1 found.0 (prepared k (simp c.draft-d.ensures at v)))
