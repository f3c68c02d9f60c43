-- `words::literal::literal_of` meets its contract.
use Rattle.std.proofs.Common.{sym, ap, ◌∙◌}
use Rattle.words.specs.Literals.{literal}
use Rattle.words.proofs.Signed.{literal_passed, literal-clamped}
use Rattle.words.proofs.literal.literal_of.Goals as goal

pub returns-then-negative : goal.returns-then-negative
unfolding literal
returns-then-negative c =
    literal_passed c.args.negative c.args.magnitude (c.negated.ensures ∙ ap (λ s. literal s c.args.magnitude) (sym c.if-negative.true))

pub returns : goal.returns
returns c =
    literal_passed c.args.negative c.args.magnitude
    (c.unwrap_or.ensures ∙ literal-clamped c.try_from.result c.args.magnitude c.try_from.ensures ∙
    ap (λ s. literal s c.args.magnitude) (sym c.if-negative.false))
