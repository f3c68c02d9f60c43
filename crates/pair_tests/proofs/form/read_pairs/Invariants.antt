-- `pair_tests::form::read_pairs`: the children passed are pairs.
use Rattle.pair_tests.proofs.Children.{Reading}
use Rattle.pair_tests.proofs.form.read_pairs.Given as goal

abbrev pub invariant-loop-j : goal.invariant-loop-j
invariant-loop-j l = Reading l.s l.b l.n l.cuts l.at l.j
