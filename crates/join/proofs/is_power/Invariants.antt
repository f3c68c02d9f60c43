-- `join::is_power`: half of what is left is tested for the power below.
use Rattle.std.proofs.Common.{◌≡◌, ◌^◌, ◌-◌, eqb}
use Rattle.join.proofs.is_power.Given as goal

abbrev pub invariant-loop : goal.invariant-loop
invariant-loop l = eqb l.left (2 ^ (l.k - l.counter)) ≡ eqb l.n (2 ^ l.k)
