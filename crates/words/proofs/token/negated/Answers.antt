-- `words::token::negated` meets its contract.
use Rattle.std.proofs.Common.{refl, sym, ◌∙◌}
use Rattle.words.proofs.Tokens.{negated_other, negated_some}
use Rattle.words.proofs.token.negated.Goals as goal

pub returns-then-not-all_digits : goal.returns-then-not-all_digits
returns-then-not-all_digits c = rw c.unnumbered.ensures (negated_other (sym c.all_digits.ensures ∙ c.if-not-all_digits.true), refl)

pub returns : goal.returns
returns c =
    (negated_some c.args.word.now (sym c.all_digits.ensures ∙ c.if-not-all_digits.false) c.number_of-magnitude.ensures c.if-magnitude-eq0.false, refl)
