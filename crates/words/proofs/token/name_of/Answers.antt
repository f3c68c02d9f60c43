-- `words::token::name_of` meets its contract.
use Rattle.std.proofs.Common.{sym, arith}
use Rattle.words.proofs.Names.{name-none}
use Rattle.words.proofs.token.name_of.Goals as goal

pub returns-in_default : goal.returns-in_default
returns-in_default c = sym (name-none c.args.word.now (λ e. omega arith) (λ e. omega arith))

pub returns-in_default-2 : goal.returns-in_default-2
returns-in_default-2 c = sym (name-none c.args.word.now (λ e. omega arith) (λ e. omega arith))

pub returns-in_default-3 : goal.returns-in_default-3
returns-in_default-3 c = sym (name-none c.args.word.now (λ e. omega arith) (λ e. omega arith))
