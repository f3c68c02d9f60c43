-- `buckets::add` meets its contract: the new member is the last of its bucket, and leads to the one that was.
use Rattle.std.proofs.Common.{refl, ap, ap₂, ◌∙◌, arith, set}
use Rattle.buckets.specs.Chains.{entry_of, last}
use Rattle.buckets.proofs.Chains.{linked_more}
use Rattle.buckets.proofs.add.Goals as goal

pub returns : goal.returns
returns c =
    let a = c.args in
    let k = c.bucket_of-k.ensures in (
      refl,
      linked_more a.m c.requires.2 (omega arith) (omega arith) (omega (arith, k))
          (c.entry_of.ensures ∙ ap entry_of (c.first.ensures ∙ ap (λ j. last a.members.now j a.n) k.0))
          (ap₂ (set a.heads.now) k.0 c.entry_of-2.ensures) refl refl,
    )
