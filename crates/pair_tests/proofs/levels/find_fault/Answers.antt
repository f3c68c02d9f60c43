-- `pair_tests::levels::find_fault` meets its contract.
use Rattle.std.proofs.Common.{refl}
use Rattle.pair_tests.proofs.Marking.{all_same}
use Rattle.pair_tests.proofs.levels.find_fault.Goals as goal

pub fault_by-requires : goal.fault_by-requires
fault_by-requires c = (c.requires.0, c.requires.1, all_same 0 1025, refl)
