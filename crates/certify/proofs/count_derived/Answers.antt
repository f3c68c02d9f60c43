-- The goal of `certify::count_derived`: the tables have the ranks of both quantifiers. Assumes nothing.
use Rattle.sheet.specs.Certificates.{side_for}
use Rattle.rows.specs.Formulas.{prefix_in}
use Rattle.certify.proofs.Ranking.{ranks_for}
use Rattle.certify.proofs.count_derived.Goals as goal

pub returns : goal.returns
returns c =
    let prefix = prefix_in c.args.s c.args.sheet.now in
    c.first_underived.ensures (side_for c.args.verdict) prefix
    (ranks_for c.args.verdict prefix _ _ c.requires.is_distinct c.fill_ranks.ensures c.fill_ranks-2.ensures)
