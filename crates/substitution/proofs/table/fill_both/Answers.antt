-- `substitution::table::fill_both` meets its contract.
use Rattle.std.proofs.Common.{◌≡◌, sym, ap, ap₂, ◌∙◌, true, false, ◌++◌, length, take, drop, arith}
use Rattle.std.proofs.Math.Seq.{length-take-le}
use Rattle.substitution.specs.Changes.{putting_in}
use Rattle.substitution.proofs.Tables.{length-putting, both_parts}
use Rattle.substitution.proofs.table.fill_both.Goals as goal
use Rattle.substitution.proofs.table.fill_both.Goals.{Start}

first_half : (c : Start) → length (take 1025 c.args.tables.now) ≡ 1025
first_half c = length-take-le 1025 c.args.tables.now (omega (arith, c.requires.0))

pub slice_bounds-fill-end-2 : goal.slice_bounds-fill-end-2
slice_bounds-fill-end-2 c = sym (first_half (goal.at.slice_bounds-fill-end-2 c).Start)

pub fill-requires : goal.fill-requires
fill-requires c =
    let half = first_half (goal.at.fill-requires c).Start in
    (omega (arith, half, c.requires.1), omega (arith, half))

pub returns : goal.returns
returns c =
    let x = c.args.x in
    let first = c.fill.ensures ∙ ap (λ n. putting_in n x false) (first_half (goal.at.returns c).Start) in
    both_parts c.fill.new.table c.fill-2.new.table (drop 1025 c.args.tables.now) 1025 (ap length first ∙ length-putting x false) ∙
    ap₂ ◌++◌ first (c.fill-2.ensures ∙ ap (λ n. putting_in n x true) (omega (arith, c.requires.0)))
