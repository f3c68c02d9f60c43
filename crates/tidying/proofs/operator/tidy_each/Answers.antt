-- `tidying::operator::tidy_each` meets its contract.
use Rattle.std.proofs.Common.{length, ◌≡◌, arith}
use Rattle.rows.specs.Layouts.{rows_in, total}
use Rattle.rows.proofs.Layouts.{length-rows_in}
use Rattle.tidying.proofs.TidyEach.{back_none, back_ready, back_more, back_end}
use Rattle.tidying.proofs.InPlace.{in_place_as, tables_as}
use Rattle.tidying.proofs.operator.tidy_each.Goals as goal
use Rattle.tidying.proofs.operator.tidy_each.Goals.{Start}

counted : (c : Start) → length (rows_in c.args.s c.args.b.now) ≡ total c.args.s
counted c = length-rows_in c.args.b.now c.requires.0.room

pub loop-r-init : goal.loop-r-init
loop-r-init c = record { behind = omega arith; tidied = back_none _ _ _ (counted (goal.at.loop-r-init c).Start) }

pub combine-requires : goal.combine-requires
combine-requires c =
    let same = c.loop-r.auto in (
      in_place_as same.b same.known c.requires.0,
      tables_as same.heads same.links same.members c.requires.1,
      record {
        before = _;
        first = _;
        segments = _;
        trees = _;
        ready =
            back_ready (rows_in c.args.s c.args.b.now) (counted (goal.at.combine-requires c).Start) c.requires.2 c.loop-r-test.true same.r
            c.loop-r.invariant.tidied;
      },
    )

pub loop-r-preserved : goal.loop-r-preserved
loop-r-preserved c =
    record {
      behind = omega arith;
      tidied =
          back_more (rows_in c.args.s c.args.b.now) (counted (goal.at.loop-r-preserved c).Start) c.requires.2 c.loop-r-test.true c.loop-r.auto.r
          c.loop-r.invariant.tidied c.combine.ensures;
    }

pub returns : goal.returns
returns c = back_end _ c.loop-r.invariant.behind c.loop-r-test.false c.loop-r.invariant.tidied
