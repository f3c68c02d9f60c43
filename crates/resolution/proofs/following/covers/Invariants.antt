-- `resolution::following::covers`: what is left has a code at fault exactly if the part has.
use Rattle.resolution.specs.Codes.{uncovered, some_in}
use Rattle.resolution.proofs.Covering.{Seeking}
use Rattle.resolution.proofs.following.covers.Given as goal

abbrev pub invariant-loop-i : goal.invariant-loop-i
invariant-loop-i l =
    let P = uncovered l.other l.derived l.all l.last in
    Seeking l.p.skip l.codes l.p.to P (some_in l.p l.codes P) l.i
