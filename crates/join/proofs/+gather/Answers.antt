-- The goals of `join::gather`. Assumes nothing.
use mathlib.Core.Bool.{cond}
use mathlib.Core.Path.{ap, ◌∙◌}
use native.Mathlib.Numerals.{add-one}
use native.Mathlib.Omega.{arith}
use Rattle.formula.specs.Tree.{and, or}
use Rattle.join.proofs.Joining.{last-answer, first_part, second-part, row-joined, owner_is}
use Rattle.join.proofs.+gather.Goals as goal

pub returns-then-i-k : goal.returns-then-i-k
returns-then-i-k t c = c.known_from.ensures ∙ last-answer c.requires c.if-i-k.true

pub gather-zero-requires : goal.gather-zero-requires
gather-zero-requires t c =
    (omega (arith, c.decreases, c.requires.before, c.if-i-k.false), first_part c.requires c.if-i-k.false (add-one c.args.i))

pub gather-one-requires : goal.gather-one-requires
gather-one-requires t c =
    (omega (arith, c.decreases, c.requires.before, c.if-i-k.false), second-part c.requires c.if-i-k.false (add-one c.args.i))

pub returns : goal.returns
returns t c =
    c.weigh_towards.ensures ∙
    row-joined c.requires c.if-i-k.false (add-one c.args.i) (ap (λ m. cond m or and) c.is_existential.ensures ∙ owner_is _) c.gather-zero.ensures
    c.gather-one.ensures
