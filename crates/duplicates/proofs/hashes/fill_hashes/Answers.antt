-- `duplicates::hashes::fill_hashes` meets its contract.
use Rattle.std.proofs.Common.{◌≡◌, refl, ◌∙◌, suc, ◌-◌, arith, length-set}
use native.Mathlib.Nat.{le_refl}
use Rattle.duplicates.proofs.Mixing.{hashed_none, hashed_more}
use Rattle.duplicates.proofs.hashes.fill_hashes.Goals as goal

pub loop-i-init : goal.loop-i-init
loop-i-init c = record { hashed = hashed_none c.requires.1; within = le_refl _; same_length = refl }

pub hash_at-requires : goal.hash_at-requires
hash_at-requires c =
    let i = c.loop-i.i in
    let next : suc (i - 1) ≡ i = omega arith in
    (c.requires.0, omega (arith, c.loop-i.invariant.within), rw next c.loop-i.invariant.hashed)

pub loop-i-preserved : goal.loop-i-preserved
loop-i-preserved c =
    let inv = c.loop-i.invariant in
    record {
      hashed = hashed_more (omega arith) (omega (arith, inv.within)) inv.hashed c.hash_at.ensures.0;
      within = omega (arith, inv.within);
      same_length = length-set c.loop-i.hashes (c.loop-i.i - 1) c.hash_at.result ∙ inv.same_length;
    }

pub returns : goal.returns
returns c = let done : c.loop-i.i ≡ 0 = omega arith in rw done at c.loop-i.invariant.hashed
