-- `choice::expand::price_row` meets its contract: the row's number, its part and its raw rows.
use Rattle.formula.specs.Tree.{of}
use Rattle.relevance.proofs.Growth.{raw_rows_by}
use Rattle.choice.proofs.Expanding.{priced_as}
use Rattle.choice.proofs.expand.price_row.Goals as goal

pub raw_rows_of-raw-requires : goal.raw_rows_of-raw-requires
raw_rows_of-raw-requires c =
    let ok = c.requires.0.readable in
    (ok.few_nodes, (raw_rows_by (of c.bound_at-x.result) c.args.b.now ok c.presence_of-relevant.ensures).1)

pub returns : goal.returns
returns c =
    priced_as c.args.b.now c.requires.0.readable c.args.i c.bound_at-x.ensures.0 c.presence_of-relevant.ensures c.raw_rows_of-raw.ensures
