-- `capi::resuming::named_format`: a number other than 0 names the narrow format.
-- Assumes nothing.
use Rattle.std.proofs.Common.{sym, ap, not, ne_eqb}
use Rattle.capi.proofs.resuming.named_format.Goals as goal

pub returns : goal.returns
returns c = sym (ap not (ne_eqb c.args.narrow 0 c.if-narrow-eq0.false))
