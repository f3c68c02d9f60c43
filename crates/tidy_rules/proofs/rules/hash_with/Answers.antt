-- `tidy_rules::rules::hash_with` meets its contract.
use Rattle.std.proofs.Common.{ap, ◌∙◌, arith}
use Rattle.buckets.specs.Halves.{hash_of}
use Rattle.buckets.specs.Hashes.{mix}
use Rattle.tidy_rules.proofs.Mixes.{mixes-none, mixes_one}
use Rattle.tidy_rules.proofs.rules.hash_with.Goals as goal

pub returns-then-n-count : goal.returns-then-n-count
returns-then-n-count c =
    let a = c.args in (
      c.mixed.ensures.0 ∙ ap (mix a.h) (c.hash_of.ensures.0 ∙ ap hash_of c.member.ensures.0) ∙
          mixes_one a.members.now a.h a.n a.count c.requires.1 (omega (arith, c.if-n-count.true, c.requires.2)),
      c.mixed.ensures.1,
    )

pub returns : goal.returns
returns c = (mixes-none c.args.members.now c.args.h c.args.n c.args.count c.requires.1 c.if-n-count.false, c.requires.0)
