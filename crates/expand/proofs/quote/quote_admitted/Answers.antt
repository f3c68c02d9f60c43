-- `expand::quote::quote_admitted` meets its contract.
use Rattle.std.proofs.Common.{subst, rules, arith}
use Rattle.std.proofs.lemmas.Result.{err_from_is_err_and}
use Rattle.rows.specs.Layouts.{format_in}
use Rattle.rows.specs.declared.refusals.Refusal.TheVariants.{WrongBlock}
use Rattle.elimination.proofs.Admitting.{sheet-bound}
use Rattle.elimination.proofs.Refusing.{none_of, some_of}
use Rattle.expand.specs.Inner.Price.{Prices}
use Rattle.expand.proofs.Deciding.{not-innermost, counted, refused_quote_call}
use Rattle.expand.proofs.quote.quote_admitted.Goals as goal

pub find_price-requires : goal.find_price-requires
find_price-requires c =
    let d = c.requires in
    record { indexed = (d.indexed, sheet-bound d.sheet, d.named); ranges_len = (search rules, omega (arith, d.indexed.readable.few_nodes)) }

pub returns-in_err-c : goal.returns-in_err-c
returns-in_err-c c =
    let a = c.args in
    let p = err_from_is_err_and c.from_residual.result c.from_residual.ensures.1 in
    let none = none_of c.find_price.result WrongBlock c.in_err-c.ensures.value in
    rw (p.1, p.2, none.0)
    (refused_quote_call (format_in a.s) a.sheet.now a.z.variable
    (not-innermost c.requires (subst (Prices a.s a.sheet.now a.z _ _) none.1 c.find_price.ensures)))

pub returns : goal.returns
returns c =
    let a = c.args in
    let some = some_of c.find_price.result WrongBlock c.in_ok-c.ensures.value in
    let inside = subst (Prices a.s a.sheet.now a.z _ _) some c.find_price.ensures in
    counted c.requires inside.1 inside.0
