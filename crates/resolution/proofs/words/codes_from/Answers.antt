-- `resolution::words::codes_from` meets its contract.
use Rattle.resolution.proofs.Codes.{from_first, from_head}
use Rattle.resolution.proofs.words.codes_from.Goals as goal

pub returns-then-k-eq0 : goal.returns-then-k-eq0
returns-then-k-eq0 c = from_first c.args.heads.now c.args.k c.if-k-eq0.true

pub returns-else-k-eq0 : goal.returns-else-k-eq0
returns-else-k-eq0 c = from_head c.args.heads.now c.args.k c.head_word.result c.if-k-eq0.false c.head_word.ensures.0
