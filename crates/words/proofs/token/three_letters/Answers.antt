-- `words::token::three_letters` meets its contract.
use Rattle.std.proofs.Common.{arith}
use Rattle.std.proofs.lemmas.Bool.Decides.{nat_tests}
use Rattle.words.proofs.Names.{name_three}
use Rattle.words.proofs.token.three_letters.Goals as goal

pub returns-then-e-eq102 : goal.returns-then-e-eq102
returns-then-e-eq102 c = grind (arith, nat_tests, name_three c.args.c c.args.d c.args.e)

pub returns-else-c-eq99 : goal.returns-else-c-eq99
returns-else-c-eq99 c = grind (arith, nat_tests, name_three c.args.c c.args.d c.args.e)
