-- `sets::count` meets its contract: a word has 64 members at most.
use Rattle.std.proofs.Common.{◌≡◌, refl, ap, sym, ◌∙◌, ℕ, ◌+◌, ◌*◌, get_or, arith, rules}
use lib.Count.{ones, ones-le}
use Rattle.sets.specs.Sets.{members, amount, size}
use Rattle.sets.proofs.Members.{members-next}
use Rattle.sets.proofs.count.Goals as goal

pub loop-word-init : goal.loop-word-init
unfolding amount
loop-word-init c = (omega arith, refl)

pub loop-word-preserved : goal.loop-word-preserved
loop-word-preserved c =
    let l = c.loop-word in
    let ws = c.args.set.now in
    let few = ones-le 64 (get_or ws l.word-index 0) (search rules) in (
      omega (arith, few, l.invariant.0),
      ap (λ (n : ℕ). n + ones (get_or ws l.word-index 0)) l.invariant.1 ∙ sym (members-next ws l.word-index (search rules)),
    )

pub returns : goal.returns
unfolding size
returns c =
    let l = c.loop-word in
    l.invariant.1 ∙ ap (λ (n : ℕ). members c.args.set.now (64 * n) 0) (omega arith)
