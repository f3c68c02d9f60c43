-- `qdimacs::header::read_header` meets its contract.
use Rattle.qdimacs.proofs.HeaderWords.{heads}
use Rattle.qdimacs.proofs.header.read_header.Goals as goal

pub returns : goal.returns
returns c =
    heads c.args.line.now c.next_token-p.ensures c.next_token-cnf.ensures c.next_token-variables.ensures c.next_token-clauses.ensures
    c.next_token-last.ensures c.is_header-well_formed.ensures
