-- `duplicates::hashes::hash_at` meets its contract: by the row's kind and argument, or by its children's hashes.
use Rattle.std.proofs.Common.{◌≡◌, ap, ◌∙◌, ℕ, ◌+◌, arith}
use Rattle.subtrees.specs.Subtrees.{siblings_in}
use Rattle.subtrees.proofs.Siblings.{Children, children_of}
use Rattle.buckets.specs.Hashes.{literal_mix, hash_on}
use Rattle.duplicates.specs.Hashes.{mixes, Mixes}
use Rattle.duplicates.proofs.Mixing.{hash-literal, hash_operator, mixes-siblings}
use Rattle.duplicates.proofs.hashes.hash_at.Goals.{Else-kind-le-NEGATIVE}
use Rattle.duplicates.proofs.hashes.hash_at.Goals as goal

pub returns-then-kind-le-NEGATIVE : goal.returns-then-kind-le-NEGATIVE
returns-then-kind-le-NEGATIVE c =
    let is = hash-literal _ c.kind_at-kind.ensures c.argument_at-argument.ensures.0 (omega arith) in
    (c.literal_hash.ensures.0 ∙ ap (λ n. literal_mix n c.argument_at-argument.result) c.from.ensures ∙ is, c.literal_hash.ensures.1)

-- the children stand from the next row on, and are mixed in as the definition says
children : (c : Else-kind-le-NEGATIVE) →
    let a = c.args in
    Children a.s a.b.now a.i (a.i + 1) c.argument_at-argument.result
children c =
    let k = c.kind_at-kind.ensures in
    children_of c.args.b.now c.requires.0.readable c.args.i c.requires.1 (omega arith) (omega arith) c.argument_at-argument.ensures.0

mixed_in : (c : Else-kind-le-NEGATIVE) (start : ℕ) →
    let a = c.args in
    let k = c.argument_at-argument.result in
    Mixes a.ends.now a.hashes.now (a.i + 1) k ×
    (mixes a.ends.now a.hashes.now (a.i + 1) k start ≡ hash_on start (siblings_in a.s a.b.now (a.i + 1) k))
mixed_in c start =
    mixes-siblings c.args.b.now c.args.ends.now c.args.hashes.now c.requires.0 c.requires.2 c.argument_at-argument.result (c.args.i + 1) start
    (omega arith) (children c).few

pub mix_siblings-requires : goal.mix_siblings-requires
mix_siblings-requires c = ((mixed_in (goal.at.mix_siblings-requires c).Else-kind-le-NEGATIVE 0).0, omega arith)

pub returns : goal.returns
returns c =
    let here = (goal.at.returns c).Else-kind-le-NEGATIVE in
    let kind = c.from-2.ensures ∙ c.kind_at-kind.ensures in (
      c.mix_siblings.ensures.0 ∙ (mixed_in here c.from-2.result).1 ∙ ap (hash_on c.from-2.result) (children here).are ∙
          hash_operator _ kind (omega arith),
      c.mix_siblings.ensures.1,
    )
