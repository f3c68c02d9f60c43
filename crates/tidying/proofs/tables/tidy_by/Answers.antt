-- `tidying::tables::tidy_by` meets its contract.
use Rattle.std.proofs.Common.{length, ◌≡◌, ◌∙◌, ◌≤◌, arith, rules}
use Rattle.tidy_rules.proofs.Segments.{room_as}
use Rattle.tidying.proofs.InPlace.{rows_fit}
use Rattle.tidying.proofs.TidyInPlace.{raw_preorder, prefix-left, leaves}
use Rattle.tidying.proofs.tables.tidy_by.Goals as goal
use Rattle.tidying.proofs.tables.tidy_by.Goals.{After-pack-rows}

pub tidy_each-requires : goal.tidy_each-requires
tidy_each-requires c =
    let raw = c.requires.0 in (
      record { room = raw.room; counted = rows_fit c.args.s.format raw.few_rows; known_fit = c.requires.3 },
      record { all_heads = search rules; links_fit = c.requires.1; members_fit = c.requires.2; countable = omega (arith, raw.few_rows) },
      raw_preorder c.args.b.now raw,
    )

-- the length is as before, and the quantifiers stand before the other rows
same : (c : After-pack-rows) → length c.pack-rows.new.b ≡ length c.args.b.now
same c = c.pack-rows.auto.b ∙ c.tidy_each.auto.b

quantifiers : (c : After-pack-rows) → c.args.s.variables ≤ c.pack-rows.result
quantifiers c =
    prefix-left c.args.b.now c.requires.0 c.pack-rows.new.b c.tidy_each.ensures c.pack-rows.ensures.1 c.pack-rows.ensures.0 (same c)

pub seal-requires : goal.seal-requires
seal-requires c =
    let packed = (goal.at.seal-requires c).After-pack-rows in
    (room_as (same packed) c.requires.0.room, c.pack-rows.ensures.0, quantifiers packed)

pub overflow_sub-result : goal.overflow_sub-result
overflow_sub-result c = quantifiers (goal.at.overflow_sub-result c).After-pack-rows

pub returns : goal.returns
returns c =
    let p = c.pack-rows.ensures in
    leaves c.args.b.now c.requires.0 c.pack-rows.new.b c.tidy_each.ensures p.1 p.0 (same (goal.at.returns c).After-pack-rows) c.seal.ensures.b_after
