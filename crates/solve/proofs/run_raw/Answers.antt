-- `solve::run_raw` meets its contract: the room is known, and the sheet is tidied.
use Rattle.std.proofs.Common.{◌∙◌, arith}
use Rattle.solve.proofs.Answering.{start-held, start-few, start-call}
use Rattle.solve.proofs.run_raw.Goals as goal

pub run-requires : goal.run-requires
run-requires c =
    let e = c.tidy_in_place.ensures in
    let most = c.shorter-room.ensures in
    record {
      held = start-held c.requires most e.b_after e.value;
      first_room = omega (arith, most, c.tidy_in_place.auto.b);
      second_room = omega (arith, most);
      few = omega (arith, start-few c.requires most e.b_after e.value);
    }

pub returns : goal.returns
returns c =
    let e = c.tidy_in_place.ensures in
    c.run.ensures ∙ start-call c.requires c.shorter-room.ensures e.b_after e.value c.tidy_in_place.auto.b
