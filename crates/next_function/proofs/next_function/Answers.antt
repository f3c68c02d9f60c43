-- `next_function::next_function` meets its contract.
use Rattle.std.proofs.Common.{arith}
use native.Mathlib.Nat.{le_trans}
use Rattle.next_function.proofs.Choosing.{settle-named, settle-constant, settle-move}
use Rattle.next_function.proofs.next_function.Goals as goal

pub choose_settle-requires : goal.choose_settle-requires
choose_settle-requires c =
    let k = c.requires.0 in
    (k.from.readable, k.bound, rw c.most_variables.ensures k.numbered)

-- the variable that is settled
pub constant_into-requires : goal.constant_into-requires
constant_into-requires c = settle-constant c.requires.0 c.in-Some.ensures

pub returns-in-Some : goal.returns-in-Some
returns-in-Some c =
    let k = c.requires.0 in
    let here = c.in-Some.ensures in
    let e = c.constant_into.ensures in
    record {
      variable_is = settle-move k here;
      named = settle-named k here;
      bytes_are = e.out_after;
      layout_is = e.value;
      sizes = (e.variables_value.0, le_trans e.variables_value.1 k.from.readable.some_nodes);
    }

pub fill_ends-requires : goal.fill_ends-requires
fill_ends-requires c = let ok = c.requires.0.from.readable in (ok, omega (arith, ok.few_nodes, c.requires.1))

pub expanded_function-requires : goal.expanded_function-requires
expanded_function-requires c = (c.requires.0, c.in_default.ensures, c.fill_ends.ensures.indexed)
