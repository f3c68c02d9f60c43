-- `words::token::letter` meets its contract.
use Rattle.std.proofs.Common.{arith}
use Rattle.std.proofs.lemmas.Bool.Decides.{nat_tests}
use Rattle.words.proofs.Names.{name_one}
use Rattle.words.proofs.token.letter.Goals as goal

pub returns-in-101 : goal.returns-in-101
returns-in-101 c = grind (arith, nat_tests, name_one c.args.c)

pub returns-in-97 : goal.returns-in-97
returns-in-97 c = grind (arith, nat_tests, name_one c.args.c)

pub returns-in-112 : goal.returns-in-112
returns-in-112 c = grind (arith, nat_tests, name_one c.args.c)

pub returns-in_default : goal.returns-in_default
returns-in_default c = grind (arith, nat_tests, name_one c.args.c)
