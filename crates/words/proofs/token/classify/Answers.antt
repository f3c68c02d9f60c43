-- `words::token::classify` meets its contract.
use Rattle.std.proofs.Common.{refl, sym, ◌∙◌}
use Rattle.words.proofs.Tokens.{says-name, says_plain, says_other, says-negated}
use Rattle.words.proofs.token.classify.Goals as goal

pub returns-then-name-ne-OTHER : goal.returns-then-name-ne-OTHER
returns-then-name-ne-OTHER c = rw c.unnumbered.ensures (says-name c.name_of-name.ensures c.if-name-ne-OTHER.true, refl)

pub returns-then-all_digits : goal.returns-then-all_digits
returns-then-all_digits c = (
  says_plain c.args.word.now c.requires c.name_of-name.ensures c.if-name-ne-OTHER.false (sym c.all_digits.ensures ∙ c.if-all_digits.true)
      c.plain.ensures.0,
  c.plain.ensures.1,
)

pub returns-then-word-ne45 : goal.returns-then-word-ne45
returns-then-word-ne45 c =
    rw c.unnumbered-then-word-ne45.ensures (
      says_other c.args.word.now c.requires c.name_of-name.ensures c.if-name-ne-OTHER.false (sym c.all_digits.ensures ∙ c.if-all_digits.false)
          c.if-word-ne45.true,
      refl,
    )

pub returns : goal.returns
returns c = (
  says-negated c.args.word.now c.requires c.name_of-name.ensures c.if-name-ne-OTHER.false (sym c.all_digits.ensures ∙ c.if-all_digits.false)
      c.if-word-ne45.false c.negated.ensures.0,
  c.negated.ensures.1,
)
