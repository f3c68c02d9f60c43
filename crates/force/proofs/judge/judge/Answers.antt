-- `force::judge::judge` meets its contract: the run is on the formula under the values given and tried.
use Rattle.std.proofs.Common.{refl, rules, arith}
use Rattle.force.proofs.Judging.{readable, numbered, left-room, ending, raw-ready, run-answers}
use Rattle.force.proofs.judge.judge.Goals as goal

pub fill_moves-requires : goal.fill_moves-requires
fill_moves-requires c = (readable c.requires, numbered c.requires, c.requires.fewer, search rules)

pub write_behind-t-requires : goal.write_behind-t-requires
write_behind-t-requires c = (readable c.requires, omega (arith, c.requires.fewer), left-room c.requires _ (omega arith))

pub run_raw-requires : goal.run_raw-requires
run_raw-requires c =
    let raw = c.write_behind-t in
    raw-ready c.requires c.args.tried c.fill_moves.ensures c.args.second.now raw.auto.out refl raw.ensures.value raw.ensures.raw

pub returns : goal.returns
returns c =
    let raw = c.write_behind-t in
    ending _ _ _
    (run-answers c.requires c.args.tried c.fill_moves.ensures c.args.second.now raw.auto.out refl raw.ensures.value raw.ensures.raw c.run_raw.ensures)
