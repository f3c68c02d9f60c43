-- The goals of `certify::ends_empty`. Assumes nothing.
use Rattle.std.proofs.Common.{◌∙◌}
use Rattle.certify.proofs.Steps.{ends-none, ends_by, part_empty}
use Rattle.certify.proofs.ends_empty.Goals as goal

pub returns-then-n-eq0 : goal.returns-then-n-eq0
returns-then-n-eq0 c = ends-none c.args.heads.now c.args.codes.now c.args.n c.requires c.if-n-eq0.true

pub returns : goal.returns
returns c =
    part_empty c.args.heads.now c.args.codes.now _ _ c.part_of-p.result c.part_of-p.ensures ∙
    ends_by c.args.heads.now c.args.codes.now c.args.n c.requires c.if-n-eq0.false
