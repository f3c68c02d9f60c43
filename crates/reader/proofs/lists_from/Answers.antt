-- The goals of `reader::lists_from`: test 15, and else the lists are read. Assumes nothing.
use borrow.Author.Tests.{not-true, not-false}
use Rattle.std.proofs.Common.{◌≤◌, arith, rules}
use lib.ListN.{drop}
use Rattle.rows.specs.Formats.{format_of}
use Rattle.rows.proofs.Limits.{limits}
use Rattle.reader.proofs.Listing.{malformed, crowded, listed_from}
use Rattle.reader.proofs.lists_from.Goals as goal
use Rattle.reader.proofs.lists_from.Goals.{then-not-h-via-then-not-h, then-not-h-via-else-not-h+then-most_variables-h}

pub returns-then-not-h : goal.returns-then-not-h
returns-then-not-h c =
    let a = c.args in
    let b = drop a.at a.text.now in
    elim c.then-not-h.branch [
      | then-not-h-via-then-not-h w ↦ malformed a.f a.h b a.out.now (not-true _ w.if-not-h.true)
      | then-not-h-via-else-not-h+then-most_variables-h w ↦ crowded a.f a.h b a.out.now (not-false _ w.if-not-h.false)
          (omega (arith, w.if-most_variables-h.true, w.most_variables.ensures))
    ]

pub read_body-requires : goal.read_body-requires
read_body-requires c =
    (omega (arith, c.if-most_variables-h.false, c.most_variables.ensures, (limits c.args.f).few_variables), search rules)

pub returns : goal.returns
returns c =
    let a = c.args in
    let few : a.h.variables ≤ (format_of a.f).most_variables = omega (arith, c.if-most_variables-h.false, c.most_variables.ensures) in
    listed_from a.f a.h a.text.now a.at a.out.now (not-false _ c.if-not-h.false) few c.read_body.ensures
