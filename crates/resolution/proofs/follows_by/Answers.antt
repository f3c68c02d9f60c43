-- `resolution::follows_by` meets its contract.
use Rattle.std.proofs.Common.{◌∙◌, ap₂, arith}
use Rattle.resolution.specs.Steps.{follows_at}
use Rattle.resolution.proofs.Steps.{first_later, second_later, step_follows}
use Rattle.resolution.proofs.follows_by.Goals as goal
use Rattle.resolution.proofs.follows_by.Goals.{then-k-m-via-then-k-m, then-k-m-via-else-k-m+then-k-n}

pub returns-then-k-m : goal.returns-then-k-m
returns-then-k-m c =
    let a = c.args in
    λ o p r.
    elim c.then-k-m.branch [
      | then-k-m-via-then-k-m w ↦ first_later a.heads.now a.codes.now a.k a.c _ _ o p (omega (arith, w.if-k-m.true, c.head_word-m.ensures.0))
      | then-k-m-via-else-k-m+then-k-n w ↦ second_later a.heads.now a.codes.now a.k a.c _ _ o p (omega (arith, w.if-k-n.true, c.head_word-n.ensures.0))
    ]

pub returns : goal.returns
returns c =
    let a = c.args in
    λ o p r.
    step_follows a.heads.now a.codes.now a.k a.c c.head_word-m.result c.head_word-n.result
    c.part_of-a.result c.part_of-b.result c.part_of-d.result _ c.requires.1 c.complement.ensures.0 c.part_of-a.ensures c.part_of-b.ensures
    c.part_of-d.ensures o p c.follows.result c.if-k-m.false c.if-k-n.false (c.follows.ensures o p r) ∙
    ap₂ (λ m n. follows_at o p a.heads.now a.codes.now a.k a.c m n) c.head_word-m.ensures.0 c.head_word-n.ensures.0
